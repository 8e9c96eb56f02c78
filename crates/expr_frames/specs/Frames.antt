-- Brackets: opened, with one element more, and closed.
use Rattle.std.specs.Prelude.{ℕ, Bool, true, false, not, ◌&&◌, ◌||◌, nat_lt, nat_le, if◌then◌else◌}
use Rattle.std.specs.Prelude.{List, [], ◌∷◌, ◌++◌, length, Option, Some, None, is_some, codes}
use Rattle.pc_terms.specs.declared.problems.Span.{Span}
use Rattle.pc_terms.specs.declared.tree_kinds.TreeKind.TheVariants as kind
use Rattle.positioned_trees.specs.declared.details.Name.{Name}
use Rattle.scan_tokens.specs.declared.tokens.Newline.{Newline}
use Rattle.source_grammar.specs.Newlines.{is_near}
use Rattle.parse_parts.specs.Built.{no_kids, joined}
use Rattle.parse_parts.specs.declared.built.Kids.{Kids}
use Rattle.parse_parts.specs.declared.states.State.{State as TypeState}
use Rattle.parse_parts.specs.Reading.{is_nil}
use Rattle.parse_parts.specs.Steps.{tail_end}
use Rattle.parse_patterns.specs.Steps.{is_no}
use Rattle.parse_patterns.specs.declared.states.Operand.{Operand}
use Rattle.tree_lower.specs.Lowering.{unlabelled}
use Rattle.expr_frames.specs.declared.frames.Args.{Args}
use Rattle.expr_frames.specs.declared.frames.Emptied.{Emptied}
use Rattle.expr_frames.specs.declared.frames.Grown.{Grown}
use Rattle.expr_frames.specs.declared.frames.Left.{Left}
use Rattle.expr_frames.specs.declared.generators.Finished.{Finished}
use Rattle.expr_tails.specs.declared.states.Asker.{Asker}
use Rattle.expr_tails.specs.declared.states.Asker.TheVariants as asker
use Rattle.expr_tails.specs.declared.states.Bracket.{Bracket}
use Rattle.expr_tails.specs.declared.states.Bracket.TheVariants as bracket
use Rattle.expr_tails.specs.declared.states.Context.{Context}
use Rattle.expr_tails.specs.declared.states.Element.{Element}
use Rattle.expr_tails.specs.declared.states.Element.TheVariants as element
use Rattle.expr_tails.specs.declared.states.Form.TheVariants as form
use Rattle.expr_tails.specs.declared.states.Frame.{Frame}
use Rattle.expr_tails.specs.declared.states.HeadKind.TheVariants as head
use Rattle.expr_tails.specs.declared.states.Limit.{Limit}
use Rattle.expr_tails.specs.declared.states.Limit.TheVariants as limit
use Rattle.expr_tails.specs.declared.states.Tail.{Tail}
use Rattle.expr_tails.specs.declared.states.Tail.TheVariants as tail
use Rattle.expr_tails.specs.declared.states.State.{State}
use Rattle.expr_tails.specs.declared.states.TypedOf.{TypedOf}
use Rattle.expr_tails.specs.declared.states.TypedOf.TheVariants as typed_of
use Rattle.expr_tails.specs.Ending.{fresh, at_tail, is_first, may_head, is_expr, expr_at}
use Rattle.expr_frames.specs.Generators.{nothing_yet, next_pattern, with_free, finished}
use Rattle.expr_frames.specs.Heads.{with_head}
use Rattle.expr_tails.specs.Tails.{operand_at, from_start, may_be_prim, is_prim_tail}
use Rattle.expr_tails.specs.Types.{type_of}

-- ---- opening

abbrev pub inner_context : Bracket → Context
inner_context (bracket.Generators gens part) = next_pattern
inner_context _ = fresh limit.Expr

abbrev pub opened : List Frame → Bracket → ℕ → Context → State
opened frames b start outer = record {
  frames = record { bracket = b; start = start; outer = outer } ∷ frames;
  context = inner_context b;
}

abbrev pub asked : Asker → Bracket
asked asker.If = bracket.IfTest
asked asker.While = bracket.WhileTest
asked asker.For = bracket.Generators [] nothing_yet

abbrev pub is_param_limit : Limit → Bool
is_param_limit limit.Param = true
is_param_limit _ = false

abbrev pub is_receiver : Tail → Bool
is_receiver (tail.AtGroup group) = may_be_prim group
is_receiver (tail.AtName name is_sign) = not is_sign
is_receiver (tail.AtWild span) = true
is_receiver at = is_prim_tail at

-- Args can follow the Prim
abbrev pub takes_args : Context → Bool
takes_args c = is_receiver c.tail && not (is_param_limit c.limit)

abbrev pub is_begin : Tail → Bool
is_begin tail.Begin = true
is_begin _ = false

-- an operand can begin here, after this newline
abbrev pub may_stand : Context → Newline → Bool
may_stand c before =
    is_begin c.tail && (not (is_param_limit c.limit) && (is_first c || (is_some c.sign || is_near before)))

-- The context before its operand. Its prefix operator stays.
abbrev pub left_context : Context → Context
left_context c = record {
  heads = c.heads;
  free = (operand_at c.tail c.free).free;
  operations = c.operations;
  sign = c.sign;
  tail = tail.Begin;
  limit = c.limit;
}

abbrev pub left_operand : Context → Operand
left_operand c = (operand_at c.tail c.free).operand

abbrev pub left : Context → Left
left c = record { operand = left_operand c; context = left_context c }

abbrev pub emptied : Context → Emptied
emptied c = record { tail = c.tail; context = at_tail c tail.Begin }

abbrev pub args_opened : List Frame → Context → State
args_opened frames c =
    opened frames (bracket.Args (left_operand c).tall no_kids false) (left_operand c).span.start (left_context c)

abbrev pub waiting_opened : List Frame → Context → Tail → Bool → Option State
waiting_opened frames c (tail.AtAsker asker start) joined =
    Some (opened frames (asked asker) start (at_tail c tail.Begin))
waiting_opened frames c (tail.AtUntil begun) joined =
    Some (opened frames (bracket.DoTest begun.kids) begun.start (at_tail c tail.Begin))
waiting_opened frames c (tail.AtNew new) joined =
    if joined then Some (opened frames (bracket.NewArgs new.kids false) new.span.start (at_tail c tail.Begin)) else None
waiting_opened frames c _ joined = None

-- after `(`
abbrev pub round_opened : List Frame → Context → ℕ → Newline → Option State
round_opened frames c start before =
    if takes_args c then (if is_no before then Some (args_opened frames c) else None)
    else (if may_stand c before then Some (opened frames (bracket.Group [] (may_head c)) start c)
    else waiting_opened frames c c.tail (is_no before))

-- ---- elements

abbrev pub is_typed_param : TypedOf → Bool
is_typed_param (typed_of.Infix operand) = false
is_typed_param _ = true

abbrev pub is_param_tail : Tail → Bool
is_param_tail (tail.AtName name is_sign) = true
is_param_tail (tail.AtWild span) = true
is_param_tail (tail.InTyped of ty) = is_typed_param of
is_param_tail _ = false

-- what was read is a parameter, where `=>` follows the parentheses
abbrev pub is_param : Context → Bool
is_param c = is_first c && (is_nil c.heads && is_param_tail c.tail)

abbrev pub wild_name : Span → Name
wild_name span = record { text = codes "_"; span = span }

abbrev pub param_alone : Name → Bool → Element
param_alone name binds = element.Param (record { name = name; binds = binds; span = name.span; ty = None })

abbrev pub param_typed : Name → Bool → TypeState → Element
param_typed name binds ty = element.Param (record {
  name = name;
  binds = binds;
  span = from_start name.span.start (tail_end ty.tail);
  ty = Some (type_of ty);
})

abbrev pub no_element : Element
no_element = element.Plain None []

abbrev pub typed_element : TypedOf → TypeState → Element
typed_element (typed_of.Name name) ty = param_typed name true ty
typed_element (typed_of.Wild span) ty = param_typed (wild_name span) false ty
typed_element (typed_of.Infix operand) ty = no_element

abbrev pub param_element : Tail → Element
param_element (tail.AtName name is_sign) = param_alone name true
param_element (tail.AtWild span) = param_alone (wild_name span) false
param_element (tail.InTyped of ty) = typed_element of ty
param_element _ = no_element

-- the element that ends here
abbrev pub element_at : Context → Element
element_at c = if is_param c then param_element c.tail else element.Plain (expr_at c).operand.tall (expr_at c).free

abbrev pub is_untouched : Context → Bool
is_untouched c = is_first c && (is_nil c.heads && is_begin c.tail)

-- the bracket can have one more, after the element that ends here
abbrev pub has_room : Bracket → Context → Bool
has_room (bracket.Group elements may_be_head) c = nat_lt (length elements) 2 || (may_be_head && is_param c)
has_room (bracket.Args receiver kids any) c = true
has_room (bracket.NewArgs kids any) c = true
has_room _ c = false

-- what stays free in an argument is the receiver's
abbrev pub with_arg : Option Kids → Context → Context → Args
with_arg kids outer c = record { kids = joined kids (expr_at c).operand.tall; outer = with_free outer (expr_at c).free }

-- what stays free in an element of a group is kept with it
abbrev pub with_element : Bracket → Context → Context → Grown
with_element (bracket.Group elements may_be_head) outer c = record {
  bracket = bracket.Group (elements ++ element_at c ∷ []) (may_be_head && is_param c);
  outer = outer;
}
with_element (bracket.Args receiver kids any) outer c = record {
  bracket = bracket.Args receiver (with_arg kids outer c).kids true;
  outer = (with_arg kids outer c).outer;
}
with_element (bracket.NewArgs kids any) outer c = record {
  bracket = bracket.NewArgs (with_arg kids outer c).kids true;
  outer = (with_arg kids outer c).outer;
}
with_element b outer c = record { bracket = b; outer = outer }

abbrev pub limit_in : Bracket → Limit
limit_in (bracket.Group elements may_be_head) = if nat_le 3 (length elements) then limit.Param else limit.Expr
limit_in _ = limit.Expr

abbrev pub grown_state : Grown → ℕ → List Frame → State
grown_state grown start fs = record {
  frames = record { bracket = grown.bracket; start = start; outer = grown.outer } ∷ fs;
  context = fresh (limit_in grown.bracket);
}

abbrev pub parted_in : Frame → List Frame → Context → State
parted_in f fs c = grown_state (with_element f.bracket f.outer c) f.start fs

-- after a comma
abbrev pub parted : List Frame → Context → Option State
parted [] c = None
parted (f ∷ fs) c = if is_expr c && has_room f.bracket c then Some (parted_in f fs c) else None

-- ---- closing

abbrev pub may_be_empty : Bracket → Bool
may_be_empty (bracket.Group elements may_be_head) = is_nil elements
may_be_empty (bracket.Args receiver kids any) = not any
may_be_empty (bracket.NewArgs kids any) = not any
may_be_empty _ = false

-- after a bracket of elements
abbrev pub closed_list : Bracket → Span → Context → Context
closed_list (bracket.Group elements may_be_head) span outer =
    at_tail outer (tail.AtGroup (record { span = span; elements = elements; may_be_head = may_be_head }))
closed_list (bracket.Args receiver kids any) span outer =
    at_tail outer (tail.AtCall (record { span = span; receiver = receiver; args = kids }))
closed_list (bracket.NewArgs kids any) span outer =
    at_tail outer (tail.AtPrim (record { tall = unlabelled kind.New span kids; span = span }) form.Plain)
closed_list _ span outer = outer

abbrev pub closed_element : Bracket → Span → Context → Context → Context
closed_element b span outer c = closed_list (with_element b outer c).bracket span (with_element b outer c).outer

abbrev pub behind_if : Span → Args → Context
behind_if span test = with_head test.outer span.start (head.IfThen test.kids)

abbrev pub behind_while : Span → Args → Context
behind_while span test = with_head test.outer span.start (head.WhileDo test.kids)

abbrev pub behind_do : Span → Args → Context
behind_do span test =
    at_tail test.outer (tail.AtEnded (record { tall = unlabelled kind.DoWhile span test.kids; span = span }))

abbrev pub behind_for : Span → Finished → Context
behind_for span found = with_head found.outer span.start (head.For found.generators false)

-- after a bracket that is not empty
abbrev pub closed_in : Bracket → Span → Context → Context → Context
closed_in bracket.IfTest span outer c = behind_if span (with_arg no_kids outer c)
closed_in bracket.WhileTest span outer c = behind_while span (with_arg no_kids outer c)
closed_in (bracket.DoTest kids) span outer c = behind_do span (with_arg kids outer c)
closed_in (bracket.Generators gens part) span outer c = behind_for span (finished gens part outer c)
closed_in b span outer c = closed_element b span outer c

abbrev pub closed_frame : Frame → Context → ℕ → Option Context
closed_frame f c end =
    if may_be_empty f.bracket && is_untouched c then Some (closed_list f.bracket (from_start f.start end) f.outer)
    else (if is_expr c then Some (closed_in f.bracket (from_start f.start end) f.outer c) else None)

abbrev pub in_state : List Frame → Option Context → Option State
in_state frames None = None
in_state frames (Some c) = Some (record { frames = frames; context = c })

-- after `)`
abbrev pub round_closed : List Frame → Context → ℕ → Option State
round_closed [] c end = None
round_closed (f ∷ fs) c end = in_state fs (closed_frame f c end)
