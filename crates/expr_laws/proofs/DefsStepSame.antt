-- A step of the reader of definitions is one of the machine.
use Rattle.std.proofs.Common.{◌≡◌, Bool, true, false, ◌&&◌, if◌then◌else◌, List, [], ◌∷◌, ◌++◌, Option, Some, None, option_map, refl, ap, sym, ◌∙◌}
use Rattle.positioned_trees.specs.declared.details.Selector.{Selector}
use Rattle.source_grammar.specs.Brackets.{role, is_balanced}
use Rattle.source_grammar.specs.Definitions.{TypePart}
use Rattle.source_grammar.specs.Expressions.{ValueWord, Expr}
use Rattle.source_grammar.specs.ExpressionRules.{Rule}
use Rattle.source_grammar.specs.Lexemes.{Lexeme, Place, Id}
use Rattle.source_grammar.specs.Newlines.{is_near}
use Rattle.source_grammar.specs.Types.{WrittenType}
use Rattle.expr_tails.specs.declared.items.Braces.{Braces}
use Rattle.expr_tails.specs.declared.states.Limit.TheVariants as limit
use Rattle.expr_tails.specs.declared.symbols.Symbol.{Symbol}
use Rattle.expr_tails.specs.Symbols.{symbol_of}
use Rattle.expr_steps.specs.Reading as reading
use Rattle.def_steps.specs.declared.states.State.{State}
use Rattle.def_steps.specs.Definitions as definitions
use Rattle.def_steps.specs.Definitions.{step}
use Rattle.def_steps.specs.Heads as heads
use Rattle.expr_laws.proofs.Agreeing.{type-whole}
use Rattle.expr_laws.proofs.DefsDerived as derived
use Rattle.expr_laws.proofs.DefsDerived.{there, mark, def_at, value_def, method_def, alias_def, whole_expr, whole_in}
use Rattle.expr_laws.proofs.DefsGood.{Ran, GoodTail, GoodDefs}
use Rattle.expr_laws.proofs.DefsParamsSame.{tpar-same, par-same}
use Rattle.expr_laws.proofs.DefsSame.{Same, same-if, mods-same, path-same, path-dot-same, annotation-same, access-same, access-open-same, access-name-same, arguments-same, value-same, value-name-same, value-type-same, type-same, type-name-same, alias-same, def-same, method-same, result-same}
use Rattle.expr_laws.proofs.DefsShown.{mods_shown, value_shown, method_shown, typed_method_shown, tail_shown, shown}
use Rattle.expr_laws.proofs.DefsSteps as steps
use Rattle.expr_laws.proofs.DefsTokens.{marked_as, mark-as, Bracketed, brackets-agree}
use Rattle.expr_laws.proofs.Derived as exprs
use Rattle.expr_laws.proofs.Derived.{Item, OneToken, BlockPair, CasesPair, EnumsPair, OtherPair, is_some, is_nil, type_of, ended_expr}
use Rattle.expr_laws.proofs.LastingFrames.{Stands, stands-fits}
use Rattle.expr_laws.proofs.LastingSteps.{begun-stands, run-stands}
use Rattle.expr_laws.proofs.Moves as moves
use Rattle.expr_laws.proofs.Shown as expr_shown
use Rattle.expr_laws.proofs.Shown.{item_shown}
use Rattle.expr_laws.specs.Definitions.{within, IsLevelItem}

-- ---- right sides

value-right : (found : derived.Found) (w : ValueWord) (id : Id) (type : TypePart) (sign : Place) (o : Option exprs.State)
    → Same (definitions.in_value (mods_shown found.mods) (value_shown w id type) (option_map expr_shown.shown o)) (steps.in_value found w id type sign o)
value-right found w id type sign None = refl
value-right found w id type sign (Some r) = refl

method-right : (found : derived.Found) (m : derived.Signature) (type : TypePart) (sign : Place) (o : Option exprs.State)
    → Same (definitions.in_method (mods_shown found.mods) (typed_method_shown m type) (option_map expr_shown.shown o)) (steps.in_method found m type sign o)
method-right found m type sign None = refl
method-right found m type sign (Some r) = refl

-- a pair of braces after the head of a method
procedure-same : (found : derived.Found) (m : derived.Signature) (i : Item) (b : Braces) (selectors : Option (List Selector)) → item_shown selectors i ≡ reading.Pair b
    → Same (heads.procedure (mods_shown found.mods) (method_shown m) b) (steps.procedure found m i)
procedure-same found m i b selectors e = go i (λ c. heads.procedure (mods_shown found.mods) (method_shown m) c) e where
  none : (near : Bool) → Same (if near then None else None) None
  none true = refl
  none false = refl

  of_pair : reading.Item → Option State
  of_pair (reading.OneToken x) = None
  of_pair (reading.Pair c) = heads.procedure (mods_shown found.mods) (method_shown m) c

  go : (j : Item) (f : Braces → Option State) → item_shown selectors j ≡ reading.Pair b → Same (heads.procedure (mods_shown found.mods) (method_shown m) b) (steps.procedure found m j)
  go (OneToken x) f g = cc
  go (BlockPair o block k) f g = ap of_pair (sym g) ∙ same-if (is_near o.before) _ (there found (derived.AtProcedure m o block k)) refl
  go (CasesPair o cases k) f g = ap of_pair (sym g) ∙ none (is_near o.before)
  go (EnumsPair o enums k) f g = ap of_pair (sym g) ∙ none (is_near o.before)
  go (OtherPair o xs k) f g = ap of_pair (sym g) ∙ none (is_near o.before)

module _ (rule : Rule) where
  pub ran-stands : (r : exprs.State) → Ran rule r → Stands r
  ran-stands r k = run-stands k.items steps.right_side r (begun-stands limit.Expr) k.runs

  right-same : (r : exprs.State) (i : Item) (selectors : Option (List Selector)) → Ran rule r
      → reading.stepped (expr_shown.shown r) (item_shown selectors i) ≡ option_map expr_shown.shown (exprs.step r i)
  right-same r i selectors k = moves.step-same r i selectors (stands-fits r (ran-stands r k))

  -- ---- a token

  token-same : (t : derived.Tail) (found : derived.Found) (y : Symbol) (x : Lexeme) → Bracketed (role x) y → GoodTail rule found t
      → Same (definitions.stepped_at (tail_shown found t) (mods_shown found.mods) y x) (steps.stepped t found (marked_as y x) x)
  token-same derived.AtMods found y x b g = mods-same found y x
  token-same (derived.AtAt sign) found y x b g = path-same found sign y x
  token-same (derived.AtAnnotation sign path) found y x b g = annotation-same found sign path y x g.0
  token-same (derived.AtAnnotationDot sign path p) found y x b g = path-dot-same found sign path p y x
  token-same (derived.InArguments sign path o is ks) found y x b g = arguments-same found sign path o is ks y x b.agree b.plain g.2.2 g.0.0
  token-same (derived.AtAccess a p) found y x b g = access-same found a p y x
  token-same (derived.AtAccessOpen a p o) found y x b g = access-open-same found a p o y x
  token-same (derived.AtAccessName a p q) found y x b g = access-name-same found a p q y x
  token-same (derived.AtValue w) found y x b g = value-same found w y x
  token-same (derived.AtValueName w id) found y x b g = value-name-same found w id y x
  token-same (derived.InValueType w id p t) found y x b g = value-type-same found w id p t y x
  token-same (derived.InValue w id type sign r) found y x b g =
      ap (definitions.in_value (mods_shown found.mods) (value_shown w id type)) (right-same r (OneToken x) None g.1) ∙ value-right found w id type sign (exprs.step r (OneToken x))
  token-same (derived.AtDef p) found y x b g = def-same found p y x
  token-same (derived.AtMethod m) found y x b g = method-same found m y x
  token-same (derived.InTParams p id o done now) found y x b g = tpar-same found p id o done now y x g.1
  token-same (derived.InParams m o done now) found y x b g = par-same found m o done now y x
  token-same (derived.InResult m p t) found y x b g = result-same found m p t y x
  token-same (derived.InMethod m type sign r) found y x b g =
      ap (definitions.in_method (mods_shown found.mods) (typed_method_shown m type)) (right-same r (OneToken x) None g.1) ∙ method-right found m type sign (exprs.step r (OneToken x))
  token-same (derived.AtType p) found y x b g = type-same found p y x
  token-same (derived.AtTypeName p id) found y x b g = type-name-same found p id y x
  token-same (derived.InAlias p id sign t) found y x b g = alias-same found p id sign t x
  token-same (derived.AtProcedure m o block k) found y x b g = refl

  -- ---- a pair of braces

  pair-same : (t : derived.Tail) (found : derived.Found) (i : Item) (b : Braces) (selectors : Option (List Selector)) → item_shown selectors i ≡ reading.Pair b → is_balanced (within i) ≡ true → GoodTail rule found t
      → Same (definitions.braces_at (tail_shown found t) (mods_shown found.mods) b) (steps.paired t found i)
  pair-same (derived.InArguments sign path o is ks) found i b selectors e w g = ap (λ c. option_map shown (if c then there found (derived.InArguments sign path o (is ++ i ∷ []) ks) else None)) (sym w)
  pair-same (derived.InValue v id type sign r) found i b selectors e w g =
      ap (λ p. definitions.in_value (mods_shown found.mods) (value_shown v id type) (reading.stepped (expr_shown.shown r) p)) (sym e)
      ∙ ap (definitions.in_value (mods_shown found.mods) (value_shown v id type)) (right-same r i selectors g.1) ∙ value-right found v id type sign (exprs.step r i)
  pair-same (derived.AtMethod m) found i b selectors e w g = procedure-same found m i b selectors e
  pair-same (derived.InMethod m type sign r) found i b selectors e w g =
      ap (λ p. definitions.in_method (mods_shown found.mods) (typed_method_shown m type) (reading.stepped (expr_shown.shown r) p)) (sym e)
      ∙ ap (definitions.in_method (mods_shown found.mods) (typed_method_shown m type)) (right-same r i selectors g.1) ∙ method-right found m type sign (exprs.step r i)
  pair-same _ found i b selectors e w g = refl

  pub step-same : (s : derived.State) (i : Item) (selectors : Option (List Selector)) → IsLevelItem i → GoodDefs rule (Some s) → Same (definitions.stepped (shown s) (item_shown selectors i)) (steps.step s i)
  unfolding step
  step-same s (OneToken x) selectors l g =
      token-same s.tail s.found (symbol_of x.kind x.word) x (brackets-agree x l) g.1 ∙ ap (λ y. option_map shown (steps.stepped s.tail s.found y x)) (sym (mark-as x))
  step-same s (BlockPair o block k) selectors l g = pair-same s.tail s.found (BlockPair o block k) _ selectors refl l g.1
  step-same s (CasesPair o cases k) selectors l g = pair-same s.tail s.found (CasesPair o cases k) _ selectors refl l g.1
  step-same s (EnumsPair o enums k) selectors l g = pair-same s.tail s.found (EnumsPair o enums k) _ selectors refl l g.1
  step-same s (OtherPair o xs k) selectors l g = pair-same s.tail s.found (OtherPair o xs k) _ selectors refl l g.1

-- ---- where a definition ends

whole-right : (r : exprs.State) → reading.is_read (expr_shown.shown r) ≡ is_some (whole_expr r)
whole-right r = moves.whole-same r ∙ go r.frames where
  go : (fs : List exprs.Frame) → (is_nil fs && is_some (ended_expr r.context)) ≡ is_some (whole_in fs r.context)
  go [] = refl
  go (f ∷ fs) = refl

pub whole-same : (s : derived.State) → definitions.is_definition (shown s) ≡ is_some (def_at s.tail)
whole-same s = go s.tail where
  value : (w : ValueWord) (id : Id) (type : TypePart) (sign : Place) (o : Option Expr) → is_some o ≡ is_some (value_def w id type sign o)
  value w id type sign None = refl
  value w id type sign (Some e) = refl

  method : (m : derived.Signature) (type : TypePart) (sign : Place) (o : Option Expr) → is_some o ≡ is_some (method_def m type sign o)
  method m type sign None = refl
  method m type sign (Some e) = refl

  alias : (p : Place) (id : Id) (sign : Place) (o : Option WrittenType) → is_some o ≡ is_some (alias_def p id sign o)
  alias p id sign None = refl
  alias p id sign (Some type) = refl

  go : (t : derived.Tail) → definitions.is_definition_at (tail_shown s.found t) ≡ is_some (def_at t)
  go (derived.InValue w id type sign r) = whole-right r ∙ value w id type sign (whole_expr r)
  go (derived.InMethod m type sign r) = whole-right r ∙ method m type sign (whole_expr r)
  go (derived.InAlias p id sign t) = type-whole t ∙ alias p id sign (type_of t)
  go (derived.AtProcedure m o block k) = refl
  go _ = refl
