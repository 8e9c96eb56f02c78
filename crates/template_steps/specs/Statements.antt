-- One statement of a list around which no expression is, as a machine on pieces.
use Rattle.std.specs.Prelude.{ℕ, Bool, true, false, not, ◌&&◌, ◌||◌, if◌then◌else◌, List, [], Option, Some, None, is_some}
use Rattle.std.specs.Option.{option_map}
use Rattle.pc_terms.specs.declared.problems.Span.{Span}
use Rattle.scan_tokens.specs.declared.tokens.Newline.{Newline}
use Rattle.source_grammar.specs.Lexemes.{Lexeme}
use Rattle.reading_machines.specs.Machines.{Machine}
use Rattle.parse_parts.specs.declared.built.Tall.{Tall}
use Rattle.parse_parts.specs.Reading.{is_nil}
use Rattle.expr_tails.specs.Ending.{is_first, is_wild}
use Rattle.expr_tails.specs.Symbols.{symbol_of}
use Rattle.expr_tails.specs.declared.items.Braces.{Braces}
use Rattle.expr_tails.specs.declared.items.Built.{Built}
use Rattle.expr_tails.specs.declared.items.Inside.TheVariants as inside
use Rattle.expr_tails.specs.declared.states.Context.{Context}
use Rattle.expr_tails.specs.declared.states.Limit.TheVariants as limit
use Rattle.expr_tails.specs.declared.states.State.{State as ExprState}
use Rattle.expr_tails.specs.declared.symbols.Symbol.{Symbol}
use Rattle.expr_tails.specs.declared.symbols.Symbol.TheVariants as symbol
use Rattle.expr_tails.specs.declared.symbols.Word.TheVariants as word
use Rattle.expr_steps.specs.Braces.{step_braces as expr_braces}
use Rattle.expr_steps.specs.Reading.{OneToken, Pair, begun as expr_begun, is_read, built_at}
use Rattle.expr_steps.specs.Steps.{step as expr_step}
use Rattle.def_steps.specs.Declarations.{is_declaration, declaration_at}
use Rattle.def_steps.specs.Definitions as definitions
use Rattle.import_steps.specs.Imports as imports
use Rattle.def_steps.specs.Modifiers.{begins_definition, is_in_modifiers, mods_at}
use Rattle.def_steps.specs.declared.states.Found.{Found}
use Rattle.def_steps.specs.declared.states.Tail.{Tail as DefTail}
use Rattle.def_steps.specs.declared.states.Tail.TheVariants as def_tail
use Rattle.def_steps.specs.declared.states.State.{State as DefState}
use Rattle.template_steps.specs.Heads.{no_marks, admitted}
use Rattle.parse_exprs.specs.Lists.{built_list}
use Rattle.parse_exprs.specs.declared.lists.BuiltList.{BuiltList}
use Rattle.template_steps.specs.Pieces.{Part, OfItem, OfBody, of_parts}
use Rattle.template_steps.specs.Templates as templates
use Rattle.template_steps.specs.Templates.{is_in_arguments}
use Rattle.template_steps.specs.declared.heads.Form.{Form}
use Rattle.template_steps.specs.declared.heads.Marks.{Marks}
use Rattle.template_steps.specs.declared.pieces.Body.{Body}
use Rattle.template_steps.specs.declared.pieces.Contents.{Contents}
use Rattle.template_steps.specs.declared.pieces.Contents.TheVariants as contents
use Rattle.template_steps.specs.declared.statements.ListKind.{ListKind}
use Rattle.template_steps.specs.declared.statements.ListKind.TheVariants as list
use Rattle.template_steps.specs.declared.statements.Statement.{Statement}
use Rattle.template_steps.specs.declared.statements.Statement.TheVariants as statement
use Rattle.template_steps.specs.declared.templates.Template.{Template}

-- ---- what is whole

-- `_` alone, which no expression binds
abbrev pub is_placeholder_in : Context → Bool
is_placeholder_in c = is_wild c.tail && (is_nil c.heads && is_first c)

abbrev pub is_placeholder : ExprState → Bool
is_placeholder e = is_placeholder_in e.context

abbrev pub binds_all_at : DefTail → Bool
binds_all_at (def_tail.InValue v right) = not (is_placeholder right)
binds_all_at (def_tail.InMethod m right) = not (is_placeholder right)
binds_all_at (def_tail.AtProcedure built) = is_nil built.free
binds_all_at _ = true

-- nothing in the definition is free
abbrev pub binds_all : DefState → Bool
binds_all d = binds_all_at d.tail

abbrev pub is_declared : ListKind → DefState → Bool
is_declared list.Template d = is_declaration d
is_declared _ d = false

abbrev pub is_whole_definition : ListKind → DefState → Bool
is_whole_definition kind d = (definitions.is_definition d && binds_all d) || is_declared kind d

-- what was read is a statement of a list of this kind
abbrev pub is_whole : ListKind → Statement → Bool
is_whole kind (statement.Import i) = imports.is_import i
is_whole kind (statement.Definition d) = is_whole_definition kind d
is_whole kind (statement.Template t) = templates.is_template t
is_whole kind (statement.Expr e) = is_read e && not (is_placeholder e)
is_whole kind _ = false

abbrev pub definition_tree : DefState → ℕ → Option Tall
definition_tree d end = if is_declaration d then (declaration_at d end).tall else (definitions.definition_at d).tall

-- the tree of the statement that was read, whose last piece ends here
abbrev pub built : Statement → ℕ → Option Tall
built (statement.Import i) end = (imports.import_at i).tall
built (statement.Definition d) end = definition_tree d end
built (statement.Template t) end = templates.template_at t end
built (statement.Expr e) end = (built_at e).tall
built _ end = None

-- ---- modifiers

abbrev pub marked_by : Symbol → Marks → Marks
marked_by (symbol.Word word.Abstract) marks = record marks { abstract_ = true }
marked_by (symbol.Word word.Sealed) marks = record marks { sealed_ = true }
marked_by (symbol.Word word.Case) marks = record marks { case_ = true }
marked_by _ marks = marks

abbrev pub marked : Marks → DefState → Symbol → Marks
marked marks d s = if is_in_arguments d.tail then marks else marked_by s marks

abbrev pub is_unit : ListKind → Bool
is_unit list.Unit = true
is_unit _ = false

abbrev pub is_procedure : ListKind → Bool
is_procedure list.Procedure = true
is_procedure _ = false

-- a unit has no definitions but templates
abbrev pub sorted_state : ListKind → Marks → DefState → Option Statement
sorted_state kind marks d =
    if is_in_modifiers d.tail then Some (statement.Modified marks d)
    else (if is_unit kind then None else Some (statement.Definition d))

abbrev pub sorted : ListKind → Marks → Option DefState → Option Statement
sorted kind marks None = None
sorted kind marks (Some d) = sorted_state kind marks d

abbrev pub modified_on : ListKind → Marks → DefState → Lexeme → Option Statement
modified_on kind marks d x = sorted kind (marked marks d (symbol_of x.kind x.word)) (definitions.step d x)

abbrev pub template_of_found : Form → Marks → Option Found → ℕ → Option Statement
template_of_found f marks None start = None
template_of_found f marks (Some found) start = Some (statement.Template (templates.begun f (admitted f found marks) start))

-- the template whose word starts here, behind this newline
abbrev pub template_behind : Form → Marks → DefState → ℕ → Newline → Option Statement
template_behind f marks d start before = template_of_found f marks (mods_at d.tail d.found before) start

-- the word of a template ends modifiers; in the arguments of an annotation it is one token of these
abbrev pub template_form : ListKind → DefState → Lexeme → Option Form
template_form kind d x = if is_procedure kind || is_in_arguments d.tail then None else templates.form_of x

abbrev pub behind_modifiers_by : Option Form → ListKind → Marks → DefState → Lexeme → Option Statement
behind_modifiers_by None kind marks d x = modified_on kind marks d x
behind_modifiers_by (Some f) kind marks d x = template_behind f marks d x.place.span.start x.place.before

abbrev pub behind_modifiers : ListKind → Marks → DefState → Lexeme → Option Statement
behind_modifiers kind marks d x = behind_modifiers_by (template_form kind d x) kind marks d x

-- ---- the first piece

abbrev pub expr_of : ListKind → Lexeme → Option Statement
expr_of kind x = if is_unit kind then None else option_map statement.Expr (expr_step (expr_begun limit.Expr) x)

-- the token begins a definition, or modifiers before one
abbrev pub begins_modifiers : ListKind → Symbol → Lexeme → Bool
begins_modifiers kind s x = begins_definition s || is_some (template_form kind definitions.begun x)

abbrev pub first_by : ListKind → Symbol → Lexeme → Option Statement
first_by kind s x =
    if begins_modifiers kind s x then behind_modifiers kind no_marks definitions.begun x else expr_of kind x

abbrev pub first_of : Symbol → ListKind → Lexeme → Option Statement
first_of (symbol.Word word.Import) kind x = Some (statement.Import (imports.begun x.place.span.start))
first_of s kind x = first_by kind s x

abbrev pub first_token : ListKind → Lexeme → Option Statement
first_token kind x = first_of (symbol_of x.kind x.word) kind x

-- ---- one piece more

abbrev pub step_token : ListKind → Statement → Lexeme → Option Statement
step_token kind statement.Begin x = first_token kind x
step_token kind (statement.Import i) x = option_map statement.Import (imports.step i x)
step_token kind (statement.Modified marks d) x = behind_modifiers kind marks d x
step_token kind (statement.Definition d) x = option_map statement.Definition (definitions.step d x)
step_token kind (statement.Template t) x = option_map statement.Template (templates.step t x)
step_token kind (statement.Expr e) x = option_map statement.Expr (expr_step e x)

abbrev pub braces_first : ListKind → Braces → Option Statement
braces_first kind b =
    if is_unit kind then None else option_map statement.Expr (expr_braces (expr_begun limit.Expr) b)

abbrev pub step_pair : ListKind → Statement → Braces → Option Statement
step_pair kind statement.Begin b = braces_first kind b
step_pair kind (statement.Import i) b = option_map statement.Import (imports.step_braces i b)
step_pair kind (statement.Modified marks d) b = sorted kind marks (definitions.step_braces d b)
step_pair kind (statement.Definition d) b = option_map statement.Definition (definitions.step_braces d b)
step_pair kind (statement.Template t) b = option_map statement.Template (templates.step_braces t b)
step_pair kind (statement.Expr e) b = option_map statement.Expr (expr_braces e b)

abbrev pub block_braces : Span → Newline → Built → Braces
block_braces span before block = record { span = span; before = before; inside = inside.Block block; selectors = None }

-- a block without `=` may stand behind the head that was read
abbrev pub asks_procedure : Statement → Bool
asks_procedure (statement.Definition d) = templates.is_named d
asks_procedure _ = false

abbrev pub procedure_by : DefState → Span → Newline → Option Built → Option Statement
procedure_by d span before None = None
procedure_by d span before (Some block) =
    option_map statement.Definition (definitions.step_braces d (block_braces span before block))

abbrev pub procedure_in : DefState → Span → Newline → Contents → Option Statement
procedure_in d span before (contents.Procedure block) = procedure_by d span before block
procedure_in d span before _ = None

abbrev pub procedure_of : Statement → Span → Newline → Contents → Option Statement
procedure_of (statement.Definition d) span before c = procedure_in d span before c
procedure_of _ span before c = None

abbrev pub template_of : Template → Newline → Contents → Option Statement
template_of t before (contents.Template statements) = option_map statement.Template (templates.step_body t before statements)
template_of t before _ = None

abbrev pub plain_of : ListKind → Statement → Option Braces → Option Statement
plain_of kind s None = None
plain_of kind s (Some braces) = step_pair kind s braces

abbrev pub body_in : ListKind → Statement → Newline → Contents → Option Braces → Option Statement
body_in kind (statement.Template t) before c plain = template_of t before c
body_in kind s before c plain = plain_of kind s plain

abbrev pub step_body : ListKind → Statement → Body → Option Statement
step_body kind s b = if asks_procedure s then procedure_of s b.span b.before b.contents else body_in kind s b.before b.contents b.plain

-- the statement with one piece more, if it can stand next
abbrev pub stepped : ListKind → Statement → Part → Option Statement
stepped kind s (OfItem (OneToken x)) = step_token kind s x
stepped kind s (OfItem (Pair b)) = step_pair kind s b
stepped kind s (OfBody b) = step_body kind s b

abbrev pub statements : ListKind → Machine Statement Part
statements kind = record { start = statement.Begin; step = stepped kind; whole = is_whole kind }

-- ---- lists

-- nothing is free in it
abbrev pub built_until : Statement → ℕ → Built
built_until s end = record { tall = built s end; free = [] }

-- the trees of a list of statements of this kind
abbrev pub list_of : ListKind → List Part → BuiltList
list_of kind parts = built_list of_parts (statements kind) built_until parts
