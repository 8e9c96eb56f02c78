-- What a state of the machine keeps, so that the reader's step from its picture is the machine's.
use Rattle.std.proofs.Common.{◌≡◌, Bool, true, false, List, [], ◌∷◌, ◌++◌, Option, None, refl, ap, sym, ◌∙◌, append_assoc, append-nil}
use Rattle.std.specs.Prelude.{not}
use Rattle.source_grammar.specs.Expressions.{PrefixSign, Expr, DoThenWhile, MatchExpr, Infix, LastPrefix, MorePrefixes, Prim}
use Rattle.source_grammar.specs.ExpressionRules.{infix_operators}
use Rattle.source_grammar.specs.Lexemes.{Id}
use Rattle.source_grammar.specs.Precedence.{are_of_one_side}
use Rattle.parse_patterns.proofs.Derived as patterns
use Rattle.expr_laws.proofs.Decided.{Decidable}
use Rattle.expr_laws.proofs.Derived as derived
use Rattle.expr_laws.proofs.Derived.{settled}
use Rattle.expr_laws.proofs.Ended.{IsPlain, chain_over}

-- ---- operators

-- the operators that wait, in their order
abbrev pub operators_of : List derived.Operation → List Id
operators_of [] = []
operators_of (o ∷ os) = operators_of os ++ o.operator ∷ []

pub settled-operators : (os : List derived.Operation) (d : Infix) → infix_operators (settled os d) ≡ operators_of os ++ infix_operators d
settled-operators [] d = refl
settled-operators (o ∷ os) d = settled-operators os (MorePrefixes o.left o.operator d) ∙ sym (append_assoc (operators_of os) (o.operator ∷ []) (infix_operators d))

abbrev pub AreOneSide : List derived.Operation → Type 0
AreOneSide os = are_of_one_side (operators_of os) ≡ true

pub one-chain : (os : List derived.Operation) (s : Option PrefixSign) (prim : Prim) → AreOneSide os → are_of_one_side (infix_operators (chain_over os s prim)) ≡ true
one-chain os s prim one = ap are_of_one_side (settled-operators os (LastPrefix (derived.signed s prim)) ∙ append-nil (operators_of os)) ∙ one

-- ---- tails

-- no operator and no sign stands before it
abbrev pub stands_alone : derived.Tail → Bool
stands_alone (derived.InTyped of point t) = true
stands_alone (derived.AtMatch chain word) = true
stands_alone (derived.AtReturn word) = true
stands_alone (derived.AtAsker a word) = true
stands_alone (derived.AtUntil word body sep until) = true
stands_alone (derived.AtCatch word body catch) = true
stands_alone (derived.AtCaught word body catch o cases c) = true
stands_alone (derived.AtEnded expr) = true
stands_alone (derived.AtSemi expr p ps) = true
stands_alone (derived.AtGuardSemi test p ps) = true
stands_alone (derived.InPattern p) = true
stands_alone _ = false

abbrev pub is_guard_semi : derived.Tail → Bool
is_guard_semi (derived.AtGuardSemi test p ps) = true
is_guard_semi _ = false

abbrev pub is_in_pattern : derived.Tail → Bool
is_in_pattern (derived.InPattern p) = true
is_in_pattern _ = false

-- where an Infix is read and no expression
abbrev pub is_of_infix : derived.Tail → Bool
is_of_infix (derived.AtGuardSemi test p ps) = true
is_of_infix s = not (stands_alone s)

-- these alone end so that the placeholders in them are not bound yet
abbrev pub has_ended : Expr → Bool
has_ended (MatchExpr chain word o cases c) = true
has_ended (DoThenWhile word body sep until o test c) = true
has_ended _ = false

-- a pattern of a generator has no type and no operator
abbrev pub is_plain : patterns.Current → Bool
is_plain (patterns.InInfix None [] s) = true
is_plain _ = false

pub record IsGenerator (p : patterns.State) : Type 0 where
  pub current : is_plain p.current ≡ true
  pub earlier : p.earlier ≡ []

abbrev pub TailFits : derived.Tail → Type 0
TailFits (derived.AtGroup o parens c head) = head ≡ true → derived.is_some (derived.params_of parens) ≡ true
TailFits (derived.AtEnded expr) = has_ended expr ≡ true
TailFits (derived.InPattern p) = IsGenerator p
TailFits _ = Unit {0}

-- ---- contexts

pub record IsFresh (os : List derived.Operation) (s : Option PrefixSign) : Type 0 where
  pub operations : os ≡ []
  pub sign : s ≡ None

pub record Fits (c : derived.Context) : Type 0 where
  pub decidable : Decidable c.operations c.tail
  pub plain : IsPlain c.tail
  pub tail : TailFits c.tail
  pub one_side : AreOneSide c.operations
  pub alone : stands_alone c.tail ≡ true → IsFresh c.operations c.sign
  pub guard : derived.is_guard_limit c.limit ≡ true → (c.heads ≡ []) × (is_of_infix c.tail ≡ true)
  pub semi : is_guard_semi c.tail ≡ true → derived.is_guard_limit c.limit ≡ true

-- ---- frames

-- a bracket that becomes a head stands before no operator
abbrev pub BracketFits : derived.Bracket → derived.Context → Type 0
BracketFits (derived.IfTest word o) outer = outer.operations ≡ []
BracketFits (derived.WhileTest word o) outer = outer.operations ≡ []
BracketFits (derived.GensBracket word o done part) outer = outer.operations ≡ []
BracketFits _ outer = Unit {0}

-- what is read of a generator is where its part says
abbrev pub PartFits : derived.Part → derived.Context → Type 0
PartFits derived.PatPart c = is_in_pattern c.tail ≡ true
PartFits (derived.FromPart pat arrow) c = (derived.is_expr_limit c.limit ≡ true) × (is_in_pattern c.tail ≡ false)
PartFits (derived.GuardPart pat arrow from done sep word) c = derived.is_guard_limit c.limit ≡ true

abbrev pub Together : derived.Bracket → derived.Context → Type 0
Together (derived.GensBracket word o done part) c = PartFits part c
Together _ c = Unit {0}

abbrev pub FramesFit : List derived.Frame → derived.Context → Type 0
FramesFit [] c = Unit {0}
FramesFit (f ∷ fs) c = BracketFits f.bracket f.outer × Together f.bracket c

pub record StateFits (s : derived.State) : Type 0 where
  pub context : Fits s.context
  pub frames : FramesFit s.frames s.context
