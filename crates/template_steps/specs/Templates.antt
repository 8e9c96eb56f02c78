-- Classes, traits and objects as a machine on tokens, braces and bodies.
use Rattle.std.specs.Prelude.{ℕ, Bool, true, false, not, ◌&&◌, ◌||◌, ◌==◌, if◌then◌else◌, Option, Some, None, is_some, codes}
use Rattle.std.specs.Str.{bytes_eq}
use Rattle.pc_terms.specs.declared.problems.Span.{Span}
use Rattle.positioned_trees.specs.declared.details.Modifiers.{Modifiers}
use Rattle.scan_tokens.specs.Words.{Bytes}
use Rattle.scan_tokens.specs.declared.tokens.Newline.{Newline}
use Rattle.scan_tokens.specs.declared.tokens.TokenKind.{TokenKind}
use Rattle.scan_tokens.specs.declared.tokens.TokenKind.TheVariants as token
use Rattle.source_grammar.specs.Lexemes.{Lexeme}
use Rattle.source_grammar.specs.Newlines.{is_near}
use Rattle.parse_parts.specs.Reading.{begun as type_begun, is_nil}
use Rattle.parse_parts.specs.declared.built.Kids.{Kids}
use Rattle.parse_parts.specs.declared.built.Tall.{Tall}
use Rattle.parse_parts.specs.declared.states.State.{State as TypeState}
use Rattle.parse_patterns.specs.Steps.{is_no}
use Rattle.expr_tails.specs.Ending.{at_tail}
use Rattle.expr_tails.specs.Symbols.{symbol_of}
use Rattle.expr_tails.specs.Types.{is_type, type_of}
use Rattle.expr_tails.specs.declared.items.Braces.{Braces}
use Rattle.expr_tails.specs.declared.states.Form.TheVariants as prim_form
use Rattle.expr_tails.specs.declared.states.Context.{Context}
use Rattle.expr_tails.specs.declared.states.Limit.TheVariants as limit
use Rattle.expr_tails.specs.declared.states.Tail.{Tail as ExprTail}
use Rattle.expr_tails.specs.declared.states.Tail.TheVariants as expr_tail
use Rattle.expr_tails.specs.declared.states.State.{State as ExprState}
use Rattle.expr_tails.specs.declared.symbols.Symbol.{Symbol}
use Rattle.expr_tails.specs.declared.symbols.Symbol.TheVariants as symbol
use Rattle.expr_steps.specs.Braces.{step_braces as expr_braces}
use Rattle.expr_steps.specs.Reading.{begun as expr_begun}
use Rattle.expr_steps.specs.Steps.{step as expr_step, type_on}
use Rattle.def_steps.specs.Definitions.{begun as mods_begun, step as def_step}
use Rattle.def_steps.specs.Heads.{goes_on}
use Rattle.def_steps.specs.Modifiers.{is_in_modifiers, may_end, nothing_found}
use Rattle.def_steps.specs.declared.states.Tail.{Tail as DefTail}
use Rattle.def_steps.specs.declared.states.Tail.TheVariants as def_tail
use Rattle.def_steps.specs.declared.states.State.{State as DefState}
use Rattle.template_steps.specs.ClassParams.{no_params, step_params}
use Rattle.template_steps.specs.Heads.{head_of, with_params, with_parent, with_args, with_statements, template_tree}
use Rattle.template_steps.specs.declared.class_params.ParamList.{ParamList}
use Rattle.template_steps.specs.declared.class_params.ParamTail.{ParamTail}
use Rattle.template_steps.specs.declared.class_params.ParamTail.TheVariants as param_tail
use Rattle.template_steps.specs.declared.class_params.Params.{Params}
use Rattle.template_steps.specs.declared.class_params.Params.TheVariants as params
use Rattle.template_steps.specs.declared.heads.Form.{Form}
use Rattle.template_steps.specs.declared.heads.Form.TheVariants as form
use Rattle.template_steps.specs.declared.heads.Head.{Head}
use Rattle.template_steps.specs.declared.templates.Tail.{Tail}
use Rattle.template_steps.specs.declared.templates.Tail.TheVariants as tail
use Rattle.template_steps.specs.declared.templates.Template.{Template}

abbrev pub is_word_kind : TokenKind → Bool
is_word_kind token.Word = true
is_word_kind _ = false

abbrev pub is_word : Bytes → Lexeme → Bool
is_word written x = is_word_kind x.kind && bytes_eq x.word written

-- which template the token begins
abbrev pub form_of : Lexeme → Option Form
form_of x =
    if is_word (codes "class") x then Some form.Class
    else (if is_word (codes "trait") x then Some form.Trait
    else (if is_word (codes "object") x then Some form.Object else None))

abbrev pub begun : Form → Modifiers → ℕ → Template
begun f modifiers start = record {
  form = f;
  modifiers = modifiers;
  tail = tail.AtName (record { found = nothing_found; tail = def_tail.AtDef start });
}

abbrev pub is_named_at : DefTail → Bool
is_named_at (def_tail.AtMethod m) = true
is_named_at _ = false

abbrev pub is_named : DefState → Bool
is_named d = is_named_at d.tail

-- the head that is whole before `with` or a body
abbrev pub head_behind_parents : Tail → Option Head
head_behind_parents (tail.AtMixins h) = Some h
head_behind_parents (tail.AtBody h) = Some h
head_behind_parents _ = None

abbrev pub is_template_at : Tail → Bool
is_template_at (tail.AtName name) = is_named name
is_template_at (tail.InParent h ty) = is_type ty
is_template_at (tail.AtEither h mods l) = is_some l
is_template_at (tail.AtParents h) = true
is_template_at t = is_some (head_behind_parents t)

abbrev pub is_template : Template → Bool
is_template t = is_template_at t.tail

abbrev pub named_head_at : DefTail → Option Head
named_head_at (def_tail.AtMethod m) = Some (head_of m)
named_head_at _ = None

abbrev pub named_head : DefState → Option Head
named_head d = named_head_at d.tail

abbrev pub either_head : Head → Option ParamList → Option Head
either_head h None = None
either_head h (Some l) = Some (with_params h l)

abbrev pub parent_head : Head → TypeState → Option Head
parent_head h ty = if is_type ty then Some (with_parent h (type_of ty)) else None

-- the head that ends at a tail
abbrev pub head_at : Tail → Option Head
head_at (tail.AtName name) = named_head name
head_at (tail.AtEither h mods l) = either_head h l
head_at (tail.AtParents h) = Some h
head_at (tail.InParent h ty) = parent_head h ty
head_at t = head_behind_parents t

abbrev pub tree_of : Form → Modifiers → ℕ → Option Head → Option Tall
tree_of f modifiers end None = None
tree_of f modifiers end (Some h) = template_tree f modifiers h end

-- the tree of the template that was read, whose last piece ends here
abbrev pub template_at : Template → ℕ → Option Tall
template_at t end = tree_of t.form t.modifiers end (head_at t.tail)

-- ---- the name, the type parameters, and what may follow them

abbrev pub at_name_of : Option DefState → Option Tail
at_name_of None = None
at_name_of (Some d) = Some (tail.AtName d)

abbrev pub name_on : DefState → Lexeme → Option Tail
name_on name x = at_name_of (def_step name x)

abbrev pub params_opened : Head → Newline → Option Tail
params_opened h before = if is_near before then Some (tail.InParams h no_params (param_tail.Begin true)) else None

abbrev pub in_mods_tail : Head → DefState → Option Tail
in_mods_tail h mods = if is_in_modifiers mods.tail then Some (tail.InMods h mods) else None

abbrev pub mods_on : Head → Option DefState → Option Tail
mods_on h None = None
mods_on h (Some mods) = in_mods_tail h mods

-- the modifiers of a constructor stand in the line of what is before them
abbrev pub mods_opened : Head → Lexeme → Option Tail
mods_opened h x = if is_no x.place.before then mods_on h (def_step mods_begun x) else None

abbrev pub extended : Head → Lexeme → Option Tail
extended h x = if is_word (codes "extends") x then Some (tail.InParent h type_begun) else None

abbrev pub is_class : Form → Bool
is_class form.Class = true
is_class _ = false

abbrev pub is_object : Form → Bool
is_object form.Object = true
is_object _ = false

abbrev pub behind_class_name : Head → Symbol → Lexeme → Option Tail
behind_class_name h symbol.OpenRound x = params_opened h x.place.before
behind_class_name h symbol.At x = mods_opened h x
behind_class_name h (symbol.Word w) x = mods_opened h x
behind_class_name h _ x = extended h x

abbrev pub behind_name : Form → Head → Symbol → Lexeme → Option Tail
behind_name f h s x = if is_class f then behind_class_name h s x else extended h x

abbrev pub behind_named : Form → Option Head → Symbol → Lexeme → Option Tail
behind_named f None s x = None
behind_named f (Some h) s x = behind_name f h s x

abbrev pub at_named : Form → DefState → Symbol → Lexeme → Option Tail
at_named f name symbol.OpenSquare x = if is_object f then None else name_on name x
at_named f name s x = behind_named f (named_head name) s x

abbrev pub at_name : Form → DefState → Lexeme → Option Tail
at_name f name x = if is_named name then at_named f name (symbol_of x.kind x.word) x else name_on name x

-- ---- the constructor

abbrev pub either_on : Head → Option DefState → Option Tail
either_on h None = None
either_on h (Some mods) = Some (tail.InEither h mods (Some (params.Open no_params (param_tail.Begin true))))

-- the arguments of the annotation that was read last, or the parameters
abbrev pub either_opened : Head → DefState → Lexeme → Option Tail
either_opened h mods x = either_on h (def_step mods x)

abbrev pub is_at_annotation : DefTail → Bool
is_at_annotation def_tail.AtAnnotation = true
is_at_annotation _ = false

abbrev pub round_opened : Head → DefState → Lexeme → Option Tail
round_opened h mods x =
    if is_at_annotation mods.tail && is_no x.place.before then either_opened h mods x else params_opened h x.place.before

abbrev pub is_open_round : Symbol → Bool
is_open_round symbol.OpenRound = true
is_open_round _ = false

abbrev pub in_mods : Head → DefState → Lexeme → Option Tail
in_mods h mods x =
    if is_open_round (symbol_of x.kind x.word) && may_end mods.tail then round_opened h mods x else mods_on h (def_step mods x)

abbrev pub params_on : Option Params → Lexeme → Option Params
params_on (Some (params.Open l at)) x = step_params l at x
params_on _ x = None

abbrev pub closed_list : Option Params → Option ParamList
closed_list (Some (params.Closed l)) = Some l
closed_list _ = None

abbrev pub is_in_arguments : DefTail → Bool
is_in_arguments (def_tail.InArguments bs) = true
is_in_arguments _ = false

abbrev pub either_within : Head → Option Params → DefState → Option Tail
either_within h ps mods =
    if is_in_arguments mods.tail then Some (tail.InEither h mods ps) else Some (tail.AtEither h mods (closed_list ps))

abbrev pub either_at : Head → Option Params → Option DefState → Option Tail
either_at h ps None = None
either_at h ps (Some mods) = either_within h ps mods

-- the brackets match, so both end at one token
abbrev pub in_either : Head → DefState → Option Params → Lexeme → Option Tail
in_either h mods ps x = either_at h (params_on ps x) (def_step mods x)

abbrev pub is_any_word : Symbol → Bool
is_any_word (symbol.Word w) = true
is_any_word _ = false

abbrev pub goes_on_with_mods : Symbol → Bool
goes_on_with_mods symbol.OpenRound = true
goes_on_with_mods symbol.At = true
goes_on_with_mods s = is_any_word s

abbrev pub behind_either : Head → Option ParamList → Lexeme → Option Tail
behind_either h None x = None
behind_either h (Some l) x = extended (with_params h l) x

abbrev pub at_either : Head → DefState → Option ParamList → Lexeme → Option Tail
at_either h mods l x = if goes_on_with_mods (symbol_of x.kind x.word) then in_mods h mods x else behind_either h l x

abbrev pub params_at : Head → Option Params → Option Tail
params_at h None = None
params_at h (Some (params.Open l at)) = Some (tail.InParams h l at)
params_at h (Some (params.Closed l)) = Some (tail.AtParents (with_params h l))

abbrev pub in_params : Head → ParamList → ParamTail → Lexeme → Option Tail
in_params h l at x = params_at h (step_params l at x)

-- ---- parents

abbrev pub mixed_in : Head → Lexeme → Option Tail
mixed_in h x = if is_word (codes "with") x then Some (tail.InParent h type_begun) else None

-- an operand without a tree, whose arguments come next
abbrev pub args_begun : Span → ExprState
args_begun span = record (expr_begun limit.Expr) {
  context = at_tail (expr_begun limit.Expr).context (expr_tail.AtPrim (record { tall = None; span = span }) prim_form.Plain);
}

abbrev pub call_at : Head → ExprTail → Option Tail
call_at h (expr_tail.AtCall call) = Some (tail.AtMixins (with_args h call.args))
call_at h _ = None

-- the arguments, where their bracket is closed; nothing in them may be free
abbrev pub args_at : Head → Context → Option Tail
args_at h c = if is_nil c.free then call_at h c.tail else None

abbrev pub args_by : Head → ExprState → Option Tail
args_by h args = if is_nil args.frames then args_at h args.context else Some (tail.InArgs h args)

abbrev pub args_on : Head → Option ExprState → Option Tail
args_on h None = None
args_on h (Some args) = args_by h args

abbrev pub opens_args : ℕ → Symbol → Newline → Bool
opens_args parents symbol.OpenRound before = (parents == 0) && is_no before
opens_args parents _ before = false

abbrev pub behind_parent : Head → TypeState → Lexeme → Option Tail
behind_parent h ty x =
    if opens_args h.parents (symbol_of x.kind x.word) x.place.before
    then args_on (with_parent h (type_of ty)) (expr_step (args_begun x.place.span) x)
    else mixed_in (with_parent h (type_of ty)) x

abbrev pub in_parent : Head → TypeState → Lexeme → Option Tail
in_parent h ty x =
    if goes_on ty x then Some (tail.InParent h (type_on ty x)) else (if is_type ty then behind_parent h ty x else None)

-- ---- one piece more

abbrev pub with_tail : Form → Modifiers → Option Tail → Option Template
with_tail f modifiers None = None
with_tail f modifiers (Some at) = Some (record { form = f; modifiers = modifiers; tail = at })

abbrev pub stepped_at : Tail → Form → Lexeme → Option Tail
stepped_at (tail.AtName name) f x = at_name f name x
stepped_at (tail.InMods h mods) f x = in_mods h mods x
stepped_at (tail.InParams h l at) f x = in_params h l at x
stepped_at (tail.InEither h mods ps) f x = in_either h mods ps x
stepped_at (tail.AtEither h mods l) f x = at_either h mods l x
stepped_at (tail.AtParents h) f x = extended h x
stepped_at (tail.InParent h ty) f x = in_parent h ty x
stepped_at (tail.InArgs h args) f x = args_on h (expr_step args x)
stepped_at (tail.AtMixins h) f x = mixed_in h x
stepped_at (tail.AtBody h) f x = None

-- the template with one token more, if it can stand next
abbrev pub step : Template → Lexeme → Option Template
step t x = with_tail t.form t.modifiers (stepped_at t.tail t.form x)

-- any tokens whose brackets match stand in the arguments of an annotation
abbrev pub in_annotation : DefState → Option DefState
in_annotation mods = if is_in_arguments mods.tail then Some mods else None

abbrev pub params_in_mods : ParamList → ℕ → Option DefState → Option Params
params_in_mods l start None = None
params_in_mods l start (Some mods) = Some (params.Open l (param_tail.InMods start mods))

abbrev pub braces_in_list : ParamList → ParamTail → Option Params
braces_in_list l (param_tail.InMods start mods) = params_in_mods l start (in_annotation mods)
braces_in_list l _ = None

abbrev pub braces_in_params : Option Params → Option Params
braces_in_params (Some (params.Open l at)) = braces_in_list l at
braces_in_params _ = None

abbrev pub in_mods_of : Head → Option DefState → Option Tail
in_mods_of h None = None
in_mods_of h (Some mods) = Some (tail.InMods h mods)

abbrev pub braces_at : Tail → Braces → Option Tail
braces_at (tail.InArgs h args) b = args_on h (expr_braces args b)
braces_at (tail.InMods h mods) b = in_mods_of h (in_annotation mods)
braces_at (tail.InEither h mods ps) b = Some (tail.InEither h mods (braces_in_params ps))
braces_at (tail.InParams h l at) b = params_at h (braces_in_list l at)
braces_at _ b = None

-- the template with a pair of braces in its annotations or arguments, if it can stand next
abbrev pub step_braces : Template → Braces → Option Template
step_braces t b = with_tail t.form t.modifiers (braces_at t.tail b)

abbrev pub is_at_body : Tail → Bool
is_at_body (tail.AtBody h) = true
is_at_body _ = false

abbrev pub with_body : Option Head → Option Kids → Option Tail
with_body None statements = None
with_body (Some h) statements = Some (tail.AtBody (with_statements h statements))

-- the template with its body, if it can stand next
abbrev pub step_body : Template → Newline → Option Kids → Option Template
step_body t before statements =
    if not (is_near before) || is_at_body t.tail then None
    else with_tail t.form t.modifiers (with_body (head_at t.tail) statements)
