-- Behind an item the tail is calm, where no bracket is opened or closed and no `;` is read.
use Rattle.std.proofs.Common.{◌≡◌, Bool, true, false, ◌&&◌, ◌||◌, if◌then◌else◌, List, [], ◌∷◌, Option, Some, None, refl, ap, sym, subst}
use Rattle.std.specs.Prelude.{not}
use Rattle.scan_tokens.specs.declared.tokens.Newline.{Newline}
use Rattle.source_grammar.specs.Expressions.{LamHead, Args, ForRound, ForCurly, Infix, Prim, NamePrim, SelectPrim}
use Rattle.source_grammar.specs.ExpressionRules.{is_prefix_id}
use Rattle.source_grammar.specs.Lexemes.{Place, Lexeme, Arrow, Id, Literal, literal_place, Number}
use Rattle.source_grammar.specs.Newlines.{is_near}
use Rattle.source_grammar.specs.Types.{WrittenType}
use Rattle.parse_parts.proofs.Derived as types
use Rattle.parse_patterns.specs.Steps.{is_no}
use Rattle.parse_patterns.proofs.Derived.{when}
use Rattle.parse_patterns.proofs.Seen.{literal_of}
use Rattle.expr_tails.specs.declared.states.Limit.{Limit}
use Rattle.expr_tails.specs.declared.symbols.Word.{Word}
use Rattle.expr_tails.specs.declared.symbols.Word.TheVariants as word
use Rattle.expr_laws.proofs.Derived as derived
use Rattle.expr_laws.proofs.Derived.{Item, CasesPair, EnumsPair, Tail, Begin, AtSign, AtName, AtWild, AtPrim, AtCall, AtDot, AtSuperDot, AtSuper, InNew, AtNew, InTypes, InTyped, AtMatch, AtAsker, ForAsker, AtCatch, AtCaught, Head, Of, Context, Before, Tried, prim_at, is_first, is_param_limit, may_head, may_stand, may_begin_name, may_begin, at, fits, is_before_operator, named_tail, operated, name_behind, on_id, on_literal, on_number, eta, eta_receiver, on_underscore, dotted, on_dot, squared, types_on, typed_chain, typed_from, operand_chain, operand_at, on_colon, matched, equals_at, lambda, head_at, yielding, begun_with, begins, prim_word, is_prim_word, word_at, behind_else, one_of, with_heads, on_else, caught, finished, on_finally, until_at, done, on_until, before_word, tried, innermost, taken, takes_else, takes_catch, waits, called, new_with, as_prim, arg_of, prim_of, behind_receiver, tail_behind, at_some, behind_pair, decided_pair, receiver, in_type, new_type, types_type, typed_type, goes_on}
use Rattle.expr_laws.proofs.Lives.{is_calm, Calms, calms-none, calms-some, calms-if}
use Rattle.expr_laws.proofs.Seen.{Seen, AComma, ClosesSquare}

-- ---- names and operands

pub named-calm : (id : Id) → is_calm (named_tail id) ≡ true
named-calm id = go (is_prefix_id id) where
  go : (b : Bool) → is_calm (if b then AtSign id else AtName id false) ≡ true
  go true = refl
  go false = refl

operated-calms : (c : Context) (id : Id) (o : Option Prim) → Calms c (operated c id o)
operated-calms c id None = calms-none c
operated-calms c id (Some prim) = calms-some c _ refl refl

behind-calms : (id : Id) (s : Tail) (c : Context) → Calms c (name_behind id s c)
behind-calms id (AtDot prim point) c = calms-some c _ refl refl
behind-calms id (AtSuperDot w p) c = calms-some c _ refl refl
behind-calms id _ c = calms-none c

pub id-calms : (id : Id) (c : Context) → Calms c (on_id id c)
id-calms id c =
    calms-if (may_begin_name c id.place.before) c _ _ (calms-some c (at c (named_tail id)) (named-calm id) refl)
    (calms-if (is_before_operator c.tail && (is_no id.place.before && (not (is_param_limit c.limit) && fits c.operations id))) c _ _ (operated-calms c id (prim_at c.tail)) (behind-calms id c.tail c))

calms-when : (b : Bool) (c d : Context) → is_calm d.tail ≡ true → d.limit ≡ c.limit → Calms c (when b d)
calms-when true c d k l = calms-some c d k l
calms-when false c d k l = calms-none c

pub literal-calms : (l : Literal) (c : Context) → Calms c (on_literal l c)
literal-calms l c = calms-when (may_stand c (literal_place l).before) c _ refl refl

pub number-calms : (n : Number) (s : Tail) (c : Context) → Calms c (on_number n s c)
number-calms n (AtSign id) c = calms-some c _ refl refl
number-calms n _ c = literal-calms (literal_of n) c

eta-calms : (place : Place) (c : Context) (o : Option Prim) → Calms c (eta place c o)
eta-calms place c None = calms-none c
eta-calms place c (Some prim) = calms-some c _ refl refl

pub underscore-calms : (place : Place) (c : Context) → Calms c (on_underscore place c)
underscore-calms place c =
    calms-if (may_begin_name c place.before) c _ _ (calms-some c (at c (AtWild place)) refl refl)
    (calms-if (is_no place.before) c _ _ (eta-calms place c (eta_receiver c)) (calms-none c))

dotted-calms : (p : Place) (c : Context) (o : Option Prim) → Calms c (dotted p c o)
dotted-calms p c None = calms-none c
dotted-calms p c (Some prim) = calms-if (is_param_limit c.limit) c _ _ (calms-none c) (calms-some c (at c (AtDot prim p)) refl refl)

pub dot-calms : (p : Place) (s : Tail) (c : Context) → Calms c (on_dot p s c)
dot-calms p (AtSuper w) c = calms-some c _ refl refl
dot-calms p s c = dotted-calms p c (operand_at s)

pub square-calms : (o : Place) (c : Context) (v : Option Prim) → Calms c (squared o c v)
square-calms o c None = calms-none c
square-calms o c (Some prim) = calms-if (is_param_limit c.limit) c _ _ (calms-none c) (calms-some c (at c (InTypes prim o [] derived.type_begun)) refl refl)

pub types-calms : (y : Seen) (prim : Prim) (o : Place) (dones : List types.Done) (v : Option WrittenType) (c : Context) → Calms c (types_on y prim o dones v c)
types-calms y prim o dones None c = calms-none c
types-calms (AComma p) prim o dones (Some type) c = calms-some c _ refl refl
types-calms (ClosesSquare p) prim o dones (Some type) c = calms-some c _ refl refl
types-calms _ prim o dones (Some type) c = calms-none c

chain-calms : (p : Place) (c : Context) (o : Option Infix) → Calms c (typed_chain p c o)
chain-calms p c None = calms-none c
chain-calms p c (Some chain) = calms-some c _ refl refl

from-calms : (p : Place) (first : Bool) (s : Tail) (c : Context) → Calms c (typed_from p first s c)
from-calms p true (AtName id is_sign) c = calms-some c _ refl refl
from-calms p true (AtWild place) c = calms-some c _ refl refl
from-calms p first s c = chain-calms p c (operand_chain c)

pub colon-calms : (p : Place) (c : Context) → Calms c (on_colon p c)
colon-calms p c = calms-if (derived.is_expr_limit c.limit || is_param_limit c.limit) c _ _ (from-calms p (is_first c) c.tail c) (calms-none c)

-- ---- heads

assigned-calms : (p : Place) (s : Tail) (c : Context) → Calms c (equals_at p s c)
assigned-calms p (AtName id is_sign) c = calms-some c _ refl refl
assigned-calms p (AtPrim (SelectPrim prim point id)) c = calms-some c _ refl refl
assigned-calms p (AtCall prim args) c = calms-some c _ refl refl
assigned-calms p _ c = calms-none c

pub equals-calms : (p : Place) (c : Context) → Calms c (if may_head c then equals_at p c.tail c else None)
equals-calms p c = calms-if (may_head c) c _ _ (assigned-calms p c.tail c) (calms-none c)

lambda-calms : (a : Arrow) (c : Context) (o : Option LamHead) → Calms c (lambda a c o)
lambda-calms a c None = calms-none c
lambda-calms a c (Some h) = calms-some c _ refl refl

pub arrow-calms : (a : Arrow) (c : Context) → Calms c (if may_head c then lambda a c (head_at c.tail) else None)
arrow-calms a c = calms-if (may_head c) c _ _ (lambda-calms a c (head_at c.tail)) (calms-none c)

yield-calms : (p : Place) (hs : List Head) (c : Context) → Calms c (yielding p hs c)
yield-calms p (Of (ForRound w o enums k None) ∷ hs) c = calms-some c _ refl refl
yield-calms p (Of (ForCurly w o enums k None) ∷ hs) c = calms-some c _ refl refl
yield-calms p _ c = calms-none c

begun-calms : (w : Word) (p : Place) (c : Context) → Calms c (begun_with w p c)
begun-calms word.If p c = calms-some c _ refl refl
begun-calms word.While p c = calms-some c _ refl refl
begun-calms word.For p c = calms-some c _ refl refl
begun-calms word.Return p c = calms-some c _ refl refl
begun-calms word.Do p c = calms-some c _ refl refl
begun-calms word.Try p c = calms-some c _ refl refl
begun-calms word.Throw p c = calms-some c _ refl refl
begun-calms _ p c = calms-none c

begins-calms : (w : Word) (p : Place) (c : Context) → Calms c (begins w p c)
begins-calms w p c = calms-if (may_begin c) c _ _ (begun-calms w p c) (calms-none c)

matched-calms : (p : Place) (c : Context) (o : Option Infix) → Calms c (matched p c o)
matched-calms p c None = calms-none c
matched-calms p c (Some chain) = calms-if (derived.is_expr_limit c.limit) c _ _ (calms-some c (derived.without_chain c (AtMatch chain p)) refl refl) (calms-none c)

prim-word-calm : (w : Word) (p : Place) → is_calm (prim_word w p) ≡ true
prim-word-calm word.Super p = refl
prim-word-calm word.New p = refl
prim-word-calm _ p = refl

pub word-calms : (w : Word) (p : Place) (c : Context) → Calms c (word_at w p c)
word-calms word.Match p c = matched-calms p c (operand_chain c)
word-calms word.Yield p c = calms-if (may_begin c) c _ _ (yield-calms p c.heads c) (calms-none c)
word-calms w p c = calms-if (is_prim_word w) c _ _ (calms-when (may_stand c p.before) c (at c (prim_word w p)) (prim-word-calm w p) refl) (begins-calms w p c)

-- ---- words that a head takes

heads-calms : (c : Context) (o : Option (List Head)) → Calms c (with_heads c.limit o)
heads-calms c None = calms-none c
heads-calms c (Some hs) = calms-some c _ refl refl

else-calms : (p : Place) (c : Context) (o : Option Before) → Calms c (on_else p c o)
else-calms p c None = calms-none c
else-calms p c (Some b) = heads-calms c (behind_else (one_of b.seps) p c.heads (Some b.expr))

caught-calms : (p : Place) (c : Context) (o : Option Tried) → Calms c (caught p c.limit o)
caught-calms p c None = calms-none c
caught-calms p c (Some t) = calms-some c _ refl refl

finished-calms : (p : Place) (c : Context) (o : Option Tried) → Calms c (finished p c.limit o)
finished-calms p c None = calms-none c
finished-calms p c (Some t) = calms-some c _ refl refl

finally-calms : (p : Place) (s : Tail) (c : Context) → Calms c (on_finally p s c)
finally-calms p (AtCaught w body catch o cases k) c = calms-some c _ refl refl
finally-calms p _ c = finished-calms p c (tried c.heads (innermost c))

ended-until : (p : Place) (seps : List Place) (c : Context) (o : Option Tried) → Calms c (until_at seps p c.limit o)
ended-until p seps c None = calms-none c
ended-until p seps c (Some t) = calms-some c _ refl refl

until-calms : (p : Place) (c : Context) (o : Option Before) → Calms c (on_until p c o)
until-calms p c None = calms-none c
until-calms p c (Some b) = ended-until p b.seps c (done c.heads (Some b.expr))

pub taken-calms : (w : Word) (p : Place) (c : Context) → Calms c (taken w p c)
taken-calms word.Else p c = calms-if (takes_else c.heads) c _ _ (else-calms p c (before_word c.tail c)) (calms-none c)
taken-calms word.Catch p c = calms-if (takes_catch c.heads) c _ _ (caught-calms p c (tried c.heads (innermost c))) (calms-none c)
taken-calms word.Finally p c = finally-calms p c.tail c
taken-calms word.While p c = calms-if (waits c.heads) c _ _ (until-calms p c (before_word c.tail c)) (calms-none c)
taken-calms _ p c = calms-none c

-- ---- braces

abbrev CalmTail : Option Tail → Type 0
CalmTail o = (t : Tail) → o ≡ Some t → is_calm t ≡ true

tail-none : CalmTail None
tail-none t e = cc

tail-some : (s : Tail) → is_calm s ≡ true → CalmTail (Some s)
tail-some s k t e = (let same : s ≡ t = cc in subst (λ v. is_calm v ≡ true) same k)

tail-if : (b : Bool) (x y : Option Tail) → CalmTail x → CalmTail y → CalmTail (if b then x else y)
tail-if true x y p q = p
tail-if false x y p q = q

called-calm : (prim : Prim) (o : Option Args) → CalmTail (called prim o)
called-calm prim None = tail-none
called-calm prim (Some args) = tail-some (AtCall prim args) refl

new-calm : (w : Place) (type : WrittenType) (o : Option Args) → CalmTail (new_with w type o)
new-calm w type None = tail-none
new-calm w type (Some args) = tail-some _ refl

prim-calm : (o : Option Prim) → CalmTail (as_prim o)
prim-calm None = tail-none
prim-calm (Some prim) = tail-some (AtPrim prim) refl

receiver-calm : (o : Option Prim) (n : Newline) (i : Item) → CalmTail (behind_receiver o n i)
receiver-calm None n i = tail-none
receiver-calm (Some prim) n i = tail-if (is_near n) _ _ (called-calm prim (arg_of i)) tail-none

behind-calm : (s : Tail) (c : Context) (n : Newline) (i : Item) → CalmTail (tail_behind s c n i)
behind-calm (AtMatch chain w) c n (CasesPair o cases p) = tail-some _ refl
behind-calm (AtMatch chain w) c n _ = tail-none
behind-calm (AtCatch w body catch) c n (CasesPair o cases p) = tail-some _ refl
behind-calm (AtCatch w body catch) c n _ = tail-none
behind-calm (AtName id true) c n i = tail-if (is_param_limit c.limit) _ _ tail-none (tail-if (is_near n && not (is_no n)) _ _ (called-calm (NamePrim id) (arg_of i)) tail-none)
behind-calm (AtNew w type) c n i = tail-if (is_near n) _ _ (new-calm w type (arg_of i)) tail-none
behind-calm Begin c n i = tail-if (may_stand c n) _ _ (prim-calm (prim_of i)) tail-none
behind-calm s c n i = receiver-calm (receiver c) n i

some-calms : (c : Context) (o : Option Tail) → CalmTail o → Calms c (at_some c o)
some-calms c None k = calms-none c
some-calms c (Some s) k = calms-some c (at c s) (k s refl) refl

pair-at-calms : (s : Tail) (c : Context) (n : Newline) (i : Item) → Calms c (behind_pair s c n i)
pair-at-calms (AtAsker ForAsker w) c n (EnumsPair o enums p) = calms-some c _ refl refl
pair-at-calms (AtAsker a w) c n _ = calms-none c
pair-at-calms s c n i = some-calms c (tail_behind s c n i) (behind-calm s c n i)

pub pair-calms : (c : Context) (n : Newline) (i : Item) → Calms c (decided_pair c n i)
pair-calms c n i = pair-at-calms c.tail c n i

-- ---- types

pub type-calm : (l : Limit) (s : Tail) (x : Lexeme) (t : Tail) → in_type l s x ≡ Some t → is_calm t ≡ true
type-calm l (InNew w u) x t e = go (goes_on l u x) e where
  go : (o : Option types.State) → new_type w o ≡ Some t → is_calm t ≡ true
  go None f = cc
  go (Some v) f = (let same : InNew w v ≡ t = cc in ap is_calm (sym same))
type-calm l (InTypes prim o dones u) x t e = go (types.step u x) e where
  go : (v : Option types.State) → types_type prim o dones v ≡ Some t → is_calm t ≡ true
  go None f = cc
  go (Some v) f = (let same : InTypes prim o dones v ≡ t = cc in ap is_calm (sym same))
type-calm l (InTyped of p u) x t e = go (types.step u x) e where
  go : (o : Option types.State) → typed_type of p o ≡ Some t → is_calm t ≡ true
  go None f = cc
  go (Some v) f = (let same : InTyped of p v ≡ t = cc in ap is_calm (sym same))
type-calm l _ x t e = cc
