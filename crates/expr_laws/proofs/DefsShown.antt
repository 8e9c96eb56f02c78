-- The reader of definitions has the machine's state, with the trees of its derivations as far as these are kept.
use Rattle.std.proofs.Common.{ℕ, Bool, true, false, List, [], ◌∷◌, ◌++◌, length, Option, Some, None}
use Rattle.std.specs.Prelude.{min}
use Rattle.positioned_trees.specs.declared.details.Access.{Access}
use Rattle.positioned_trees.specs.declared.details.Access.TheVariants as access
use Rattle.positioned_trees.specs.declared.details.RightSide.TheVariants as right_side
use Rattle.positioned_trees.specs.declared.details.Variance.{Variance}
use Rattle.positioned_trees.specs.declared.details.Variance.TheVariants as variance
use Rattle.positioned_trees.specs.declared.trees.Tree.{Tree}
use Rattle.positioned_trees.specs.Trees.{max_number}
use Rattle.scan_tokens.specs.declared.roles.Bracket.{Bracket as WrittenBracket}
use Rattle.scan_tokens.specs.declared.roles.Bracket.TheVariants as written
use Rattle.source_grammar.specs.Brackets.{Opened}
use Rattle.source_grammar.specs.Definitions.{Mod, Abstract, Final, Sealed, Lazy, Override, CaseMod, Private, Protected, TypePart, NoType, OfType, ParList, items, VarianceSign, NoSign, PlusSign, MinusSign, Bound, NoBound, lower_tokens, upper_tokens}
use Rattle.source_grammar.specs.DefinitionTrees as grammar
use Rattle.source_grammar.specs.DefinitionTrees.{qualified, par_tree, par_list_trees, tpar_tree, tparams_trees, type_part_trees, bound_trees, has_bound}
use Rattle.source_grammar.specs.Expressions.{ValueWord, Val, Var, Block}
use Rattle.source_grammar.specs.ExpressionTrees.{block_built}
use Rattle.source_grammar.specs.Lexemes.{Place, Id}
use Rattle.source_grammar.specs.Spans.{from_to, end_behind}
use Rattle.source_grammar.specs.Types.{type_tree}
use Rattle.parse_parts.proofs.Shown as type_shown
use Rattle.parse_parts.specs.Keeping.{kept, kept_all}
use Rattle.tree_lower.specs.Keeping.{name_of}
use Rattle.expr_tails.specs.declared.items.Built.{Built}
use Rattle.expr_tails.specs.declared.symbols.Word.TheVariants as word
use Rattle.def_steps.specs.declared.states.Bracket.{Bracket}
use Rattle.def_steps.specs.declared.states.Bracket.TheVariants as bracket
use Rattle.def_steps.specs.declared.states.Found.{Found}
use Rattle.def_steps.specs.declared.states.Gap.{Gap}
use Rattle.def_steps.specs.declared.states.Gap.TheVariants as gap
use Rattle.def_steps.specs.declared.states.Method.{Method}
use Rattle.def_steps.specs.declared.states.ParamTail.{ParamTail}
use Rattle.def_steps.specs.declared.states.ParamTail.TheVariants as param_tail
use Rattle.def_steps.specs.declared.states.State.{State}
use Rattle.def_steps.specs.declared.states.Tail.{Tail}
use Rattle.def_steps.specs.declared.states.Tail.TheVariants as tail
use Rattle.def_steps.specs.declared.states.TypeParam.{TypeParam}
use Rattle.def_steps.specs.declared.states.TypeParamTail.{TypeParamTail}
use Rattle.def_steps.specs.declared.states.TypeParamTail.TheVariants as type_tail
use Rattle.def_steps.specs.declared.states.Value.{Value}
use Rattle.def_steps.specs.Heads.{method_tree}
use Rattle.def_steps.specs.Modifiers.{nothing_found, with_access, with_modifier}
use Rattle.expr_laws.proofs.DefsDerived as derived
use Rattle.expr_laws.proofs.DefsSteps.{is_fresh, variance_of}
use Rattle.expr_laws.proofs.Derived.{is_nil}
use Rattle.expr_laws.proofs.Shown as expr_shown
use Rattle.expr_laws.proofs.Shown.{built_shown}

-- ---- modifiers

abbrev pub access_of : derived.Access → Access
access_of derived.PrivateWord = access.Private
access_of derived.ProtectedWord = access.Protected

abbrev pub mod_shown : Mod → Found → Found
mod_shown (Abstract p) found = with_modifier found word.Abstract
mod_shown (Final p) found = with_modifier found word.Final
mod_shown (Sealed p) found = with_modifier found word.Sealed
mod_shown (Lazy p) found = with_modifier found word.Lazy
mod_shown (Override p) found = with_modifier found word.Override
mod_shown (CaseMod p) found = with_modifier found word.Case
mod_shown (Private p q) found = with_access found (qualified q access.Private)
mod_shown (Protected p q) found = with_access found (qualified q access.Protected)

-- the last one first
abbrev pub mods_shown : List Mod → Found
mods_shown [] = nothing_found
mods_shown (m ∷ ms) = mod_shown m (mods_shown ms)

abbrev pub gap_of : List Mod → List derived.ReadAnnotation → Gap
gap_of (m ∷ ms) done = gap.Joined
gap_of [] (a ∷ done) = gap.Near
gap_of [] [] = gap.Any

-- with the name or `this` between its brackets
abbrev pub limited : derived.Access → derived.InQualifier → Access
limited a (derived.NamedIn o id) = access.Public
limited a (derived.ThisIn o p) = access_of a

abbrev pub bracket_of : WrittenBracket → Bracket
bracket_of written.Square = bracket.Square
bracket_of _ = bracket.Round

-- those that are open between the parentheses of an annotation, and these
abbrev pub brackets_shown : List Opened → List Bracket
brackets_shown [] = bracket.Round ∷ []
brackets_shown (k ∷ ks) = bracket_of k.bracket ∷ brackets_shown ks

-- ---- values

abbrev pub is_var : ValueWord → Bool
is_var (Val p) = false
is_var (Var p) = true

abbrev pub word_start : ValueWord → ℕ
word_start (Val p) = p.span.start
word_start (Var p) = p.span.start

abbrev pub value_shown : ValueWord → Id → TypePart → Value
value_shown w id type = record {
  is_var = is_var w;
  named = record { start = word_start w; name = name_of id; kids = kept_all (type_part_trees type); has_type = grammar.has_type type };
}

-- ---- methods

-- as a tree can say it
abbrev pub counted : ℕ → ℕ
counted n = min n max_number

-- of the lists of parameters, the last one first
abbrev pub lists_trees : List ParList → List Tree
lists_trees [] = []
lists_trees (l ∷ ls) = lists_trees ls ++ par_list_trees l

abbrev pub lists_counts : List ParList → List ℕ
lists_counts [] = []
lists_counts (l ∷ ls) = lists_counts ls ++ counted (length (items l.pars)) ∷ []

abbrev pub signature_trees : derived.Signature → List Tree
signature_trees m = tparams_trees m.tparams ++ lists_trees m.lists

abbrev pub method_with : derived.Signature → List Tree → Bool → Bool → Method
method_with m trees has_type fresh = record {
  named = record { start = m.word.span.start; name = name_of m.id; kids = kept_all trees; has_type = has_type };
  type_params = counted (length (tparams_trees m.tparams));
  param_lists = lists_counts m.lists;
  is_fresh = fresh;
}

abbrev pub method_shown : derived.Signature → Method
method_shown m = method_with m (signature_trees m) false (is_fresh m.tparams m.lists)

abbrev pub typed_method_shown : derived.Signature → TypePart → Method
typed_method_shown m NoType = method_shown m
typed_method_shown m (OfType point type) = method_with m (signature_trees m ++ type_tree type ∷ []) true false

-- ---- type parameters

-- what the sign says of the name after it
abbrev pub sign_variance : Option VarianceSign → Variance
sign_variance None = variance.Invariant
sign_variance (Some v) = grammar.variance_of v

abbrev pub tpar_start : VarianceSign → Id → ℕ
tpar_start NoSign id = id.place.span.start
tpar_start (PlusSign p) id = p.span.start
tpar_start (MinusSign p) id = p.span.start

abbrev pub tpar_shown : VarianceSign → Id → Bound → Bound → TypeParam
tpar_shown v id lower upper = record {
  start = tpar_start v id;
  end = end_behind id.place.span.end (lower_tokens lower ++ upper_tokens upper);
  variance = grammar.variance_of v;
  name = name_of id;
  kids = kept_all (bound_trees lower ++ bound_trees upper);
  has_lower = has_bound lower;
  has_upper = has_bound upper;
}

abbrev pub tpars_trees : List derived.DoneTPar → List Tree
tpars_trees [] = []
tpars_trees (d ∷ done) = tpars_trees done ++ tpar_tree d.tpar ∷ []

abbrev pub ttail_shown : derived.TTail → TypeParamTail
ttail_shown derived.TBegin = type_tail.Begin
ttail_shown (derived.TAtSign id) = type_tail.AtSign (name_of id) (sign_variance (variance_of id))
ttail_shown (derived.TAtName v id) = type_tail.AtName (tpar_shown v id NoBound NoBound)
ttail_shown (derived.TInLower v id sign t) = type_tail.InBound (record (tpar_shown v id NoBound NoBound) { has_lower = true }) (type_shown.shown t)
ttail_shown (derived.TInUpper v id lower sign t) = type_tail.InBound (record (tpar_shown v id lower NoBound) { has_upper = true }) (type_shown.shown t)

-- the method whose type parameters are read
abbrev pub tpars_method : Place → Id → List derived.DoneTPar → Method
tpars_method p id done = record {
  named = record { start = p.span.start; name = name_of id; kids = kept_all (tpars_trees done); has_type = false };
  type_params = counted (length done);
  param_lists = [];
  is_fresh = false;
}

-- ---- parameters

abbrev pub pars_trees : List derived.DonePar → List Tree
pars_trees [] = []
pars_trees (d ∷ done) = pars_trees done ++ par_tree d.par ∷ []

abbrev pub ptail_shown : Bool → derived.PTail → ParamTail
ptail_shown first derived.PBegin = param_tail.Begin first
ptail_shown first (derived.PAtName id) = param_tail.AtName (name_of id)
ptail_shown first (derived.PInType id point t) = param_tail.InType (name_of id) (type_shown.shown t)
ptail_shown first (derived.PAtStar id point type star) = param_tail.AtStar (name_of id) (kept (type_tree type)) star.span.end

-- the method whose parameters are read
abbrev pub pars_method : derived.Signature → List derived.DonePar → Method
pars_method m done = method_with m (signature_trees m ++ pars_trees done) false false

-- ---- states

abbrev pub procedure_shown : Found → derived.Signature → Place → Block → Place → Built
procedure_shown found m o block k =
    let inside = built_shown (block_built (from_to o.span k.span) block) in
    record { tall = method_tree found (method_shown m) k.span.end inside.tall right_side.Procedure; free = inside.free }

abbrev pub tail_shown : derived.Found → derived.Tail → Tail
tail_shown found derived.AtMods = tail.AtMods (gap_of found.mods found.annotations)
tail_shown found (derived.AtAt sign) = tail.AtAt
tail_shown found (derived.AtAnnotation sign path) = tail.AtAnnotation
tail_shown found (derived.AtAnnotationDot sign path p) = tail.AtAnnotationDot
tail_shown found (derived.InArguments sign path o is ks) = tail.InArguments (brackets_shown ks)
tail_shown found (derived.AtAccess a p) = tail.AtAccess (access_of a)
tail_shown found (derived.AtAccessOpen a p o) = tail.AtAccessOpen (access_of a)
tail_shown found (derived.AtAccessName a p q) = tail.AtAccessName (limited a q)
tail_shown found (derived.AtValue w) = tail.AtValue (is_var w) (word_start w)
tail_shown found (derived.AtValueName w id) = tail.AtValueName (value_shown w id NoType)
tail_shown found (derived.InValueType w id point t) = tail.InValueType (value_shown w id NoType) (type_shown.shown t)
tail_shown found (derived.InValue w id type sign right) = tail.InValue (value_shown w id type) (expr_shown.shown right)
tail_shown found (derived.AtDef p) = tail.AtDef p.span.start
tail_shown found (derived.AtMethod m) = tail.AtMethod (method_shown m)
tail_shown found (derived.InTParams p id o done now) = tail.InTypeParams (tpars_method p id done) (ttail_shown now)
tail_shown found (derived.InParams m o done now) = tail.InParams (pars_method m done) (counted (length done)) (ptail_shown (is_nil done) now)
tail_shown found (derived.InResult m point t) = tail.InResult (method_shown m) (type_shown.shown t)
tail_shown found (derived.InMethod m type sign right) = tail.InMethod (typed_method_shown m type) (expr_shown.shown right)
tail_shown found (derived.AtType p) = tail.AtType p.span.start
tail_shown found (derived.AtTypeName p id) = tail.AtTypeName p.span.start (name_of id)
tail_shown found (derived.InAlias p id sign t) = tail.InAlias p.span.start (name_of id) (type_shown.shown t)
tail_shown found (derived.AtProcedure m o block k) = tail.AtProcedure (procedure_shown (mods_shown found.mods) m o block k)

abbrev pub shown : derived.State → State
shown s = record { found = mods_shown s.found.mods; tail = tail_shown s.found s.tail }
