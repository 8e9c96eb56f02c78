-- Whether braces at a place may be the body of a template or of a `def`.
use Rattle.std.specs.Prelude.{◌-◌, Bool, true, false, not, ◌||◌, ◌==◌, if◌then◌else◌, Option, Some, None, codes}
use Rattle.scan_tokens.specs.declared.tokens.Newline.{Newline}
use Rattle.source_grammar.specs.Brackets.{has_newline}
use Rattle.source_grammar.specs.Lexemes.{Lexeme}
use Rattle.expr_tails.specs.declared.symbols.Symbol.{Symbol}
use Rattle.expr_tails.specs.declared.symbols.Symbol.TheVariants as symbol
use Rattle.expr_tails.specs.declared.symbols.Word.{Word}
use Rattle.expr_tails.specs.declared.symbols.Word.TheVariants as word
use Rattle.def_steps.specs.Modifiers.{is_access_word, is_plain}
use Rattle.def_steps.specs.Params.{one_more}
use Rattle.parse_exprs.specs.Items.{is_template_word}
use Rattle.template_steps.specs.Templates.{is_word}
use Rattle.template_steps.specs.declared.statements.ListKind.{ListKind}
use Rattle.template_steps.specs.declared.statements.ListKind.TheVariants as list
use Rattle.tree_parser.specs.declared.headings.Awaited.{Awaited}
use Rattle.tree_parser.specs.declared.headings.BodyKind.{BodyKind}
use Rattle.tree_parser.specs.declared.headings.BodyKind.TheVariants as body
use Rattle.tree_parser.specs.declared.headings.Heading.{Heading}

abbrev pub no_heading : Heading
no_heading = record { awaits = None; parted = false; depth = 0 }

-- ---- words behind which a body may stand

abbrev pub template_in : ListKind → Option BodyKind
template_in list.Procedure = None
template_in _ = Some body.Template

abbrev pub procedure_in : ListKind → Option BodyKind
procedure_in list.Unit = None
procedure_in _ = Some body.Procedure

abbrev pub is_trait : Lexeme → Bool
is_trait x = is_word (codes "trait") x

abbrev pub is_def : Symbol → Bool
is_def (symbol.Word word.Def) = true
is_def _ = false

abbrev pub body_behind : Symbol → ListKind → Lexeme → Option BodyKind
body_behind s kind x =
    if is_template_word s || is_trait x then template_in kind else (if is_def s then procedure_in kind else None)

-- ---- what stands in a head

-- modifiers, and the last word of a path
abbrev pub stands_in_head : Word → Bool
stands_in_head word.Type = true
stands_in_head w = is_plain w || is_access_word w

-- it cannot stand in the head of a template or of a `def` outside brackets
abbrev pub ends_head : Symbol → Bool
ends_head symbol.Equals = true
ends_head symbol.Semicolon = true
ends_head (symbol.Word w) = not (stands_in_head w)
ends_head _ = false

-- a separator before a token may end the head
abbrev pub parted_at : Heading → Newline → Heading
parted_at h before = record h { parted = h.parted || has_newline before }

abbrev pub outside_by : Option BodyKind → Heading → Symbol → Newline → Heading
outside_by (Some awaited) h s before = record h { awaits = Some awaited; parted = false }
outside_by None h s before = if ends_head s then no_heading else parted_at h before

-- behind a token outside brackets that is none
abbrev pub outside : Heading → ListKind → Symbol → Lexeme → Heading
outside h kind s x = outside_by (body_behind s kind x) h s x.place.before

-- ---- brackets

abbrev pub deeper : Heading → Heading
deeper h = record h { depth = one_more h.depth }

abbrev pub opened : Heading → Newline → Heading
opened h before = deeper (if h.depth == 0 then parted_at h before else h)

abbrev pub closed : Heading → Heading
closed h = record h { depth = h.depth - 1 }

abbrev pub opens : Symbol → Bool
opens symbol.OpenRound = true
opens symbol.OpenSquare = true
opens _ = false

abbrev pub closes : Symbol → Bool
closes symbol.CloseRound = true
closes symbol.CloseSquare = true
closes _ = false

-- behind a token that is no brace
abbrev pub heading_behind : Symbol → Heading → ListKind → Lexeme → Heading
heading_behind s h kind x =
    if opens s then opened h x.place.before
    else (if closes s then closed h
    else (if h.depth == 0 then outside h kind s x else h))

-- behind a pair of braces
abbrev pub behind_braces : Heading → Heading
behind_braces h = if h.depth == 0 then no_heading else h

-- ---- braces

abbrev pub awaited_by : Option BodyKind → Bool → Option Awaited
awaited_by None parted = None
awaited_by (Some awaited) parted = Some (record { body = awaited; parted = parted })

-- the body that braces are which begin here, and whether they may be an expression as well
abbrev pub body_at : Heading → Newline → Option Awaited
body_at h before = if h.depth == 0 then awaited_by h.awaits (h.parted || has_newline before) else None
