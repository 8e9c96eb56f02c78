-- The reader's state is the machine's, with the trees of its derivations as far as these are kept.
use Rattle.std.proofs.Common.{ℕ, Bool, true, false, List, [], ◌∷◌, ◌++◌, map, Option, Some, None, codes}
use Rattle.pc_terms.specs.declared.problems.Span.{Span}
use Rattle.pc_terms.specs.declared.tree_kinds.TreeKind.TheVariants as kind
use Rattle.positioned_trees.specs.declared.details.Name.{Name}
use Rattle.positioned_trees.specs.declared.trees.Tree.{Tree}
use Rattle.source_grammar.specs.Comprehensions.{gen_free}
use Rattle.source_grammar.specs.Definitions.{NoType, OfType}
use Rattle.source_grammar.specs.Expressions.{LPar, NamedLPar, WildLPar, PrefixSign, Expr, DoThenWhile, MatchExpr, LastGen, NoGuards, Infix, Prefix, Prim, NewOf, SelectPrim, SelectHole, ApplyPrim, Lambda, IfThen, IfElse, WhileDo, TryAlone, TryFinally, TryCatchFinally, ForRound, ForCurly, ThrowOf, ReturnOf, AssignName, AssignSelect, AssignApply}
use Rattle.source_grammar.specs.ExpressionTokens.{lpar_tokens, expr_tokens, infix_tokens, prefix_tokens, prim_tokens, heading_tokens}
use Rattle.source_grammar.specs.ExpressionTrees.{head_trees, ident, joined_built, yields, expr_built, enums_built, guards_built, infix_chain, prefix_built, prim_built, args_built, cases_built}
use Rattle.source_grammar.specs.Lexemes.{Place}
use Rattle.source_grammar.specs.Patterns.{pat_tree}
use Rattle.source_grammar.specs.Placeholders as grammar
use Rattle.source_grammar.specs.Placeholders.{trees_of, free_of}
use Rattle.source_grammar.specs.Spans.{from_to, span_of, end_behind}
use Rattle.source_grammar.specs.Types.{type_tree}
use Rattle.parse_parts.specs.Keeping.{kept, kept_all}
use Rattle.parse_parts.proofs.Shown as type_shown
use Rattle.parse_parts.proofs.Sound.{tokens_in as type_tokens_in}
use Rattle.parse_patterns.specs.declared.states.Operand.{Operand}
use Rattle.parse_patterns.specs.declared.states.Operation.{Operation}
use Rattle.parse_patterns.proofs.Shown as pattern_shown
use Rattle.tree_lower.specs.declared.comprehensions.Generator.{Generator}
use Rattle.tree_lower.specs.Keeping.{name_of, sign_name, places_shown, guards_shown, generator_shown}
use Rattle.expr_tails.specs.declared.states.Asker.{Asker}
use Rattle.expr_tails.specs.declared.states.Asker.TheVariants as asker
use Rattle.expr_tails.specs.declared.states.Begun.{Begun}
use Rattle.expr_tails.specs.declared.states.Bracket.{Bracket}
use Rattle.expr_tails.specs.declared.states.Bracket.TheVariants as bracket
use Rattle.expr_tails.specs.declared.states.Context.{Context}
use Rattle.expr_tails.specs.declared.states.Element.{Element}
use Rattle.expr_tails.specs.declared.states.Element.TheVariants as element
use Rattle.expr_tails.specs.declared.states.Form.{Form}
use Rattle.expr_tails.specs.declared.states.Form.TheVariants as form
use Rattle.expr_tails.specs.declared.states.Frame.{Frame}
use Rattle.expr_tails.specs.declared.states.Head.{Head}
use Rattle.expr_tails.specs.declared.states.HeadKind.{HeadKind}
use Rattle.expr_tails.specs.declared.states.HeadKind.TheVariants as head
use Rattle.expr_tails.specs.declared.states.Part.{Part}
use Rattle.expr_tails.specs.declared.states.Tail.{Tail}
use Rattle.expr_tails.specs.declared.states.Tail.TheVariants as tail
use Rattle.expr_tails.specs.declared.states.State.{State}
use Rattle.expr_tails.specs.declared.states.TypedOf.{TypedOf}
use Rattle.expr_tails.specs.declared.states.TypedOf.TheVariants as typed_of
use Rattle.expr_tails.specs.Operators.{pushed}
use Rattle.expr_frames.specs.Generators.{nothing_yet}
use Rattle.expr_frames.specs.Heads.{reach_of, reach_with}
use Rattle.expr_laws.proofs.Derived as derived
pub use Rattle.expr_laws.specs.Pictures.{built_shown, block_inside, cases_inside, enums_inside, pair_shown, item_shown}

-- ---- what was read of operands

abbrev pub prim_piece : Prim → Operand
prim_piece d = record { tall = kept (prim_built d).tree; span = span_of (prim_tokens d) }

abbrev pub prefix_piece : Prefix → Operand
prefix_piece d = record { tall = kept (prefix_built d).tree; span = span_of (prefix_tokens d) }

abbrev pub infix_piece : Infix → Operand
infix_piece d = record { tall = kept (joined_built (infix_chain d)).tree; span = span_of (infix_tokens d) }

abbrev pub expr_piece : Expr → Operand
expr_piece d = record { tall = kept (expr_built d).tree; span = span_of (expr_tokens d) }

-- an expression that has ended, whose placeholders are not bound yet
abbrev pub ended_built : Expr → grammar.Built
ended_built (MatchExpr chain word o cases c) =
    grammar.node kind.Match (span_of (expr_tokens (MatchExpr chain word o cases c))) (joined_built (infix_chain chain) ∷ cases_built cases)
ended_built (DoThenWhile word body sep until o test c) =
    grammar.node kind.DoWhile (span_of (expr_tokens (DoThenWhile word body sep until o test c))) (expr_built body ∷ expr_built test ∷ [])
ended_built expr = expr_built expr

abbrev pub ended_piece : Expr → Operand
ended_piece d = record { tall = kept (ended_built d).tree; span = span_of (expr_tokens d) }

abbrev pub form_of : Prim → Form
form_of (SelectPrim prim point id) = form.Select
form_of (SelectHole prim point) = form.Hole
form_of _ = form.Plain

abbrev pub operations_shown : List derived.Operation → List Operation
operations_shown [] = []
operations_shown (o ∷ os) = pushed (operations_shown os) (prefix_piece o.left) (name_of o.operator)

abbrev pub sign_shown : Option PrefixSign → Option Name
sign_shown None = None
sign_shown (Some sign) = Some (sign_name sign)

-- ---- elements

abbrev pub wild_name : Place → Name
wild_name place = record { text = codes "_"; span = place.span }

abbrev pub param_shown : LPar → Element
param_shown (NamedLPar id NoType) = element.Param (record { name = name_of id; binds = true; span = id.place.span; ty = None })
param_shown (NamedLPar id (OfType point type)) = element.Param (record {
  name = name_of id;
  binds = true;
  span = span_of (lpar_tokens (NamedLPar id (OfType point type)));
  ty = Some (kept (type_tree type));
})
param_shown (WildLPar place NoType) = element.Param (record { name = wild_name place; binds = false; span = place.span; ty = None })
param_shown (WildLPar place (OfType point type)) = element.Param (record {
  name = wild_name place;
  binds = false;
  span = span_of (lpar_tokens (WildLPar place (OfType point type)));
  ty = Some (kept (type_tree type));
})

abbrev pub element_shown : derived.Element → Element
element_shown (derived.ParamElement p) = param_shown p
element_shown (derived.ExprElement expr) = element.Plain (kept (expr_built expr).tree) (places_shown (expr_built expr).free)

-- those before the last comma, in their order
abbrev pub done_elements : List derived.DoneElement → List Element
done_elements [] = []
done_elements (d ∷ done) = done_elements done ++ element_shown d.element ∷ []

abbrev pub parens_shown : derived.Parens → List Element
parens_shown derived.NoElements = []
parens_shown (derived.Elements done e) = done_elements done ++ element_shown e ∷ []

-- ---- tails

abbrev pub typed_shown : derived.TypedOf → TypedOf
typed_shown (derived.OfName id) = typed_of.Name (name_of id)
typed_shown (derived.OfWild place) = typed_of.Wild place.span
typed_shown (derived.OfChain chain) = typed_of.Infix (infix_piece chain)

abbrev pub asker_shown : derived.Asker → Asker
asker_shown derived.IfAsker = asker.If
asker_shown derived.WhileAsker = asker.While
asker_shown derived.ForAsker = asker.For

abbrev pub begun : ℕ → List Tree → Begun
begun start trees = record { start = start; kids = kept_all trees }

abbrev pub is_empty : {A : Type 0} → List A → Bool
is_empty [] = true
is_empty (a ∷ rest) = false

abbrev pub tail_shown : derived.Tail → Tail
tail_shown derived.Begin = tail.Begin
tail_shown (derived.AtSign id) = tail.AtSign (name_of id)
tail_shown (derived.AtName id is_sign) = tail.AtName (name_of id) is_sign
tail_shown (derived.AtWild place) = tail.AtWild place.span
tail_shown (derived.AtGroup o parens c may_be_head) =
    tail.AtGroup (record { span = from_to o.span c.span; elements = parens_shown parens; may_be_head = may_be_head })
tail_shown (derived.AtPrim prim) = tail.AtPrim (prim_piece prim) (form_of prim)
tail_shown (derived.AtCall prim args) = tail.AtCall (record {
  span = span_of (prim_tokens (ApplyPrim prim args));
  receiver = kept (prim_built prim).tree;
  args = kept_all (trees_of (args_built args));
})
tail_shown (derived.AtDot prim point) = tail.AtDot (prim_piece prim) point.span
tail_shown (derived.AtSuper word) = tail.AtSuper word.span
tail_shown (derived.AtSuperDot word point) = tail.AtSuperDot word.span
tail_shown (derived.InNew word t) = tail.InNew word.span.start (end_behind word.span.end (type_tokens_in t)) (type_shown.shown t)
tail_shown (derived.AtNew word type) = tail.AtNew (record {
  span = span_of (prim_tokens (NewOf word type));
  kids = kept_all (type_tree type ∷ []);
})
tail_shown (derived.InTypes prim o done t) =
    tail.InTypes (begun (span_of (prim_tokens prim)).start ((prim_built prim).tree ∷ type_shown.done_trees done)) (type_shown.shown t)
tail_shown (derived.InTyped of point t) = tail.InTyped (typed_shown of) (type_shown.shown t)
tail_shown (derived.AtMatch chain word) = tail.AtMatch (infix_piece chain)
tail_shown (derived.AtReturn word) = tail.AtReturn word.span
tail_shown (derived.AtAsker a word) = tail.AtAsker (asker_shown a) word.span.start
tail_shown (derived.AtUntil word body sep until) = tail.AtUntil (begun word.span.start ((expr_built body).tree ∷ []))
tail_shown (derived.AtCatch word body catch) = tail.AtCatch (begun word.span.start ((expr_built body).tree ∷ []))
tail_shown (derived.AtCaught word body catch o cases c) =
    tail.AtCaught (begun word.span.start ((expr_built body).tree ∷ trees_of (cases_built cases))) c.span.end
tail_shown (derived.AtEnded expr) = tail.AtEnded (ended_piece expr)
tail_shown (derived.AtSemi expr p ps) = tail.AtSemi (expr_piece expr) (is_empty ps)
tail_shown (derived.AtGuardSemi test p ps) = tail.AtSemi (infix_piece test) false
tail_shown (derived.InPattern p) = tail.InPattern (pattern_shown.shown p)

-- ---- what is free

abbrev pub free_in : grammar.Built → List Span
free_in part = places_shown part.free

abbrev pub operations_free : List derived.Operation → List Span
operations_free [] = []
operations_free (o ∷ os) = operations_free os ++ free_in (prefix_built o.left)

abbrev pub typed_free : derived.TypedOf → List Span
typed_free (derived.OfChain chain) = free_in (joined_built (infix_chain chain))
typed_free _ = []

-- The placeholders before the tail. Those of a name, of `_` and of parentheses are added where the operand ends.
abbrev pub tail_free : derived.Tail → List Span
tail_free (derived.AtPrim prim) = free_in (prim_built prim)
tail_free (derived.AtCall prim args) = free_in (prim_built prim) ++ places_shown (free_of (args_built args))
tail_free (derived.AtDot prim point) = free_in (prim_built prim)
tail_free (derived.InTypes prim o done t) = free_in (prim_built prim)
tail_free (derived.InTyped of point t) = typed_free of
tail_free (derived.AtMatch chain word) = free_in (joined_built (infix_chain chain))
tail_free (derived.AtUntil word body sep until) = free_in (expr_built body)
tail_free (derived.AtCatch word body catch) = free_in (expr_built body)
tail_free (derived.AtCaught word body catch o cases c) = free_in (expr_built body) ++ places_shown (free_of (cases_built cases))
tail_free (derived.AtEnded expr) = free_in (ended_built expr)
tail_free (derived.AtSemi expr p ps) = free_in (expr_built expr)
tail_free (derived.AtGuardSemi test p ps) = free_in (joined_built (infix_chain test))
tail_free _ = []

-- ---- heads

abbrev pub head_start : derived.Head → ℕ
head_start (derived.Of heading) = (span_of (heading_tokens heading)).start
head_start (derived.DoHead word) = word.span.start

abbrev pub kind_shown : derived.Head → HeadKind
kind_shown (derived.Of (Lambda h arrow)) = head.Lambda (kept_all (head_trees h))
kind_shown (derived.Of (IfThen word o test c)) = head.IfThen (kept_all ((expr_built test).tree ∷ []))
kind_shown (derived.Of (IfElse word o test c body semi other)) = head.IfElse (kept_all ((expr_built test).tree ∷ (expr_built body).tree ∷ []))
kind_shown (derived.Of (WhileDo word o test c)) = head.WhileDo (kept_all ((expr_built test).tree ∷ []))
kind_shown (derived.DoHead word) = head.Do
kind_shown (derived.Of (TryAlone word)) = head.Try
kind_shown (derived.Of (TryFinally word body last)) = head.Finally (kept_all ((expr_built body).tree ∷ []))
kind_shown (derived.Of (TryCatchFinally word body catch o cases c last)) =
    head.Finally (kept_all ((expr_built body).tree ∷ trees_of (cases_built cases)))
kind_shown (derived.Of (ForRound word o enums c yield)) = head.For (map generator_shown (enums_built enums)) (yields yield)
kind_shown (derived.Of (ForCurly word o enums c yield)) = head.For (map generator_shown (enums_built enums)) (yields yield)
kind_shown (derived.Of (ThrowOf word)) = head.Throw
kind_shown (derived.Of (ReturnOf word)) = head.Return
kind_shown (derived.Of (AssignName id sign)) = head.Assign (kept_all ((ident id).tree ∷ []))
kind_shown (derived.Of (AssignSelect prim point id sign)) = head.Assign (kept_all ((prim_built (SelectPrim prim point id)).tree ∷ []))
kind_shown (derived.Of (AssignApply prim args sign)) = head.Update (kept (prim_built prim).tree) (kept_all (trees_of (args_built args)))

abbrev pub head_free : derived.Head → List Span
head_free (derived.Of (IfThen word o test c)) = free_in (expr_built test)
head_free (derived.Of (IfElse word o test c body semi other)) = free_in (expr_built test) ++ free_in (expr_built body)
head_free (derived.Of (WhileDo word o test c)) = free_in (expr_built test)
head_free (derived.Of (TryFinally word body last)) = free_in (expr_built body)
head_free (derived.Of (TryCatchFinally word body catch o cases c last)) = free_in (expr_built body) ++ places_shown (free_of (cases_built cases))
head_free (derived.Of (ForRound word o enums c yield)) = places_shown (gen_free (enums_built enums))
head_free (derived.Of (ForCurly word o enums c yield)) = places_shown (gen_free (enums_built enums))
head_free (derived.Of (AssignSelect prim point id sign)) = free_in (prim_built prim)
head_free (derived.Of (AssignApply prim args sign)) = free_in (prim_built prim) ++ places_shown (free_of (args_built args))
head_free _ = []

-- each head with what it and those further out can take
abbrev pub heads_shown : List derived.Head → List Head
heads_shown [] = []
heads_shown (h ∷ hs) =
    record { start = head_start h; kind = kind_shown h; free = head_free h; reach = reach_with (reach_of (heads_shown hs)) (kind_shown h) }
    ∷ heads_shown hs

-- ---- contexts and frames

abbrev pub context_with : derived.Context → List Span → Tail → Context
context_with c free at = record {
  heads = heads_shown c.heads;
  free = operations_free c.operations ++ free;
  operations = operations_shown c.operations;
  sign = sign_shown c.sign;
  tail = at;
  limit = c.limit;
}

abbrev pub context_shown : derived.Context → Context
context_shown c = context_with c (tail_free c.tail) (tail_shown c.tail)

abbrev pub done_trees : List derived.DoneExpr → List Tree
done_trees [] = []
done_trees (d ∷ done) = done_trees done ++ (expr_built d.expr).tree ∷ []

abbrev pub done_free : List derived.DoneExpr → List Span
done_free [] = []
done_free (d ∷ done) = done_free done ++ free_in (expr_built d.expr)

abbrev pub has_some : {A : Type 0} → List A → Bool
has_some [] = false
has_some (a ∷ rest) = true

abbrev pub guards_free : List derived.DoneGuard → List Span
guards_free done = places_shown (free_of (guards_built (derived.guards_before done NoGuards)))

abbrev pub done_gens : List derived.DoneGen → List Generator
done_gens [] = []
done_gens (d ∷ done) = done_gens done ++ map generator_shown (enums_built (LastGen d.gen))

abbrev pub gens_free : List derived.DoneGen → List Span
gens_free [] = []
gens_free (d ∷ done) = gens_free done ++ places_shown (gen_free (enums_built (LastGen d.gen)))

abbrev pub part_shown : derived.Part → Part
part_shown derived.PatPart = nothing_yet
part_shown (derived.FromPart pat arrow) = record { pattern = kept (pat_tree pat); from = None; guards = [] }
part_shown (derived.GuardPart pat arrow from done sep word) = record {
  pattern = kept (pat_tree pat);
  from = kept (expr_built from).tree;
  guards = guards_shown (guards_built (derived.guards_before done NoGuards));
}

abbrev pub part_free : derived.Part → List Span
part_free (derived.GuardPart pat arrow from done sep word) = free_in (expr_built from) ++ guards_free done
part_free _ = []

abbrev pub bracket_shown : derived.Bracket → Bracket
bracket_shown (derived.GroupBracket o done may_be_head) = bracket.Group (done_elements done) may_be_head
bracket_shown (derived.ArgsBracket prim o done) = bracket.Args (kept (prim_built prim).tree) (kept_all (done_trees done)) (has_some done)
bracket_shown (derived.NewArgsBracket word type o done) = bracket.NewArgs (kept_all (type_tree type ∷ done_trees done)) (has_some done)
bracket_shown (derived.IfTest word o) = bracket.IfTest
bracket_shown (derived.WhileTest word o) = bracket.WhileTest
bracket_shown (derived.DoTest word body sep until o) = bracket.DoTest (kept_all ((expr_built body).tree ∷ []))
bracket_shown (derived.GensBracket word o done part) = bracket.Generators (done_gens done) (part_shown part)

abbrev pub bracket_start : derived.Bracket → ℕ
bracket_start (derived.GroupBracket o done may_be_head) = o.span.start
bracket_start (derived.ArgsBracket prim o done) = (span_of (prim_tokens prim)).start
bracket_start (derived.NewArgsBracket word type o done) = word.span.start
bracket_start (derived.IfTest word o) = word.span.start
bracket_start (derived.WhileTest word o) = word.span.start
bracket_start (derived.DoTest word body sep until o) = word.span.start
bracket_start (derived.GensBracket word o done part) = word.span.start

-- what is free before the bracket, and in it up to the last comma; a group keeps it with its elements
abbrev pub bracket_free : derived.Bracket → List Span
bracket_free (derived.ArgsBracket prim o done) = free_in (prim_built prim) ++ done_free done
bracket_free (derived.NewArgsBracket word type o done) = done_free done
bracket_free (derived.DoTest word body sep until o) = free_in (expr_built body)
bracket_free (derived.GensBracket word o done part) = gens_free done ++ part_free part
bracket_free _ = []

abbrev pub frame_shown : derived.Frame → Frame
frame_shown f = record {
  bracket = bracket_shown f.bracket;
  start = bracket_start f.bracket;
  outer = context_with f.outer (bracket_free f.bracket) tail.Begin;
}

abbrev pub shown : derived.State → State
shown s = record { frames = map frame_shown s.frames; context = context_shown s.context }
