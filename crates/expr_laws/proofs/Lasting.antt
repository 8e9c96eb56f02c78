-- What the reader's step asks of a context holds of the context behind one token more.
use Rattle.std.proofs.Common.{◌≡◌, nat_lt, Bool, true, false, ◌&&◌, ◌||◌, if◌then◌else◌, List, [], ◌∷◌, ◌++◌, Option, Some, None, refl, ap, sym, ◌∙◌, subst}
use Rattle.std.specs.Prelude.{not, ◌==◌}
use Rattle.source_grammar.specs.ExpressionTrees.{is_placeholder_prim}
use Rattle.expr_tails.specs.declared.states.Limit.{Limit}
use Rattle.expr_tails.specs.declared.states.Limit.TheVariants as limit
use Rattle.expr_tails.specs.declared.symbols.Symbol.{Symbol}
use Rattle.expr_tails.specs.declared.symbols.Word.{Word}
use Rattle.expr_tails.specs.declared.symbols.Word.TheVariants as word
use Rattle.scan_tokens.specs.declared.tokens.Newline.{Newline}
use Rattle.scan_tokens.specs.declared.tokens.Newline.TheVariants.{No}
use Rattle.parse_parts.proofs.Derived as types
use Rattle.parse_patterns.specs.Operators.{same_side}
use Rattle.parse_patterns.proofs.Derived as patterns
use Rattle.parse_patterns.proofs.Derived.{when}
use Rattle.parse_patterns.proofs.Seen.{literal_of}
use Rattle.parse_patterns.proofs.Sides as pattern_sides
use Rattle.parse_patterns.proofs.Sides.{fits-side}
use Rattle.source_grammar.specs.Expressions.{Args, AssignApply, AssignName, AssignSelect, BlockPrim, CasesPrim, EtaPrim, Expr, ForCurly, ForRound, Infix, Lambda, LamHead, LiteralPrim, MatchExpr, MinusPrim, NamePrim, NewWith, PrefixSign, Prim, SelectPrim, Sep, SuperPrim, ThisPrim, ThrowOf, TryAlone, TryCatchFinally, TryFinally, TypeApplyPrim}
use Rattle.source_grammar.specs.ExpressionRules.{is_prefix_id}
use Rattle.source_grammar.specs.Lexemes.{Arrow, Id, Lexeme, Literal, literal_place, Number, Place}
use Rattle.source_grammar.specs.Newlines.{is_near}
use Rattle.source_grammar.specs.Patterns.{WildPat}
use Rattle.source_grammar.specs.Precedence.{are_of_one_side, is_right, precedence}
use Rattle.source_grammar.specs.Types.{LastType, WrittenType}
use Rattle.parse_patterns.specs.Steps.{is_no}
use Rattle.expr_laws.proofs.Decided.{Decidable}
use Rattle.expr_laws.proofs.Derived.{arg_of, as_prim, at, at_some, AtAsker, AtCall, AtCatch, AtCaught, AtDot, AtEnded, AtGuardSemi, AtMatch, AtName, AtNew, AtPrim, AtReturn, AtSemi, AtSign, AtSuper, AtSuperDot, AtUntil, AtWild, Before, before_word, Begin, begins, begun_with, behind_else, behind_pair, behind_receiver, BlockPair, called, CasesPair, caught, chain_at, Context, decided_at, decided_pair, DoHead, done, dotted, EnumsPair, equals_at, eta, eta_receiver, finished, fits, ForAsker, Frame, goes_on, guard_semi, Head, head_at, IfAsker, in_gens, in_type, innermost, InNew, InTyped, InTypes, is_before_operator, is_expr_limit, is_first, is_guard_limit, is_nil, is_none, is_param_limit, is_prim_word, is_some, Item, lambda, matched, may_begin, may_begin_name, may_head, may_stand, name_behind, named_tail, new_type, new_with, Of, OfChain, OfName, OfWild, on_colon, on_dot, on_else, on_finally, on_id, on_literal, on_number, on_semicolon, on_underscore, on_until, one_of, only_heads, operand_at, operand_chain, operated, Operation, prim_at, prim_of, prim_word, receiver, semi_at, semi_behind, sign_receiver, Tail, tail_behind, squared, taken, takes_catch, takes_else, Tried, tried, type_begun, typed_chain, typed_from, typed_type, types_on, types_type, until_at, waits, WhileAsker, with_head, with_heads, without_chain, word_at, yielding}
use Rattle.expr_laws.proofs.Ended.{IsPlain}
use Rattle.expr_laws.proofs.Fitting.{AreOneSide, Fits, is_guard_semi, is_in_pattern, is_of_infix, IsFresh, operators_of, TailFits, stands_alone}
use Rattle.expr_laws.proofs.Moves.{decided-fits, decided-limit, decided-pattern, fits-at, operand-fits}
use Rattle.expr_laws.proofs.Seen.{AComma, ClosesSquare, Seen}

-- ---- what is kept

-- the context behind an item
pub record Next (c d : Context) : Type 0 where
  pub fits : Fits d
  pub limit : d.limit ≡ c.limit
  pub out : is_in_pattern d.tail ≡ false

abbrev pub Lasts : Context → Option Context → Type 0
Lasts c o = (d : Context) → o ≡ Some d → Next c d

pub lasts-none : (c : Context) → Lasts c None
lasts-none c d e = cc

pub lasts-some : (c d : Context) → Next c d → Lasts c (Some d)
lasts-some c d n u e = (let same : d ≡ u = cc in subst (Next c) same n)

pub lasts-if : (b : Bool) (c : Context) (x y : Option Context) → (b ≡ true → Lasts c x) → (b ≡ false → Lasts c y) → Lasts c (if b then x else y)
lasts-if true c x y p q = p refl
lasts-if false c x y p q = q refl

lasts-when : (b : Bool) (c d : Context) → Next c d → Lasts c (when b d)
lasts-when true c d n = lasts-some c d n
lasts-when false c d n = lasts-none c

-- ---- tests

pub and-left : (x y : Bool) → (x && y) ≡ true → x ≡ true
and-left true y e = refl
and-left false y e = cc

pub and-right : (x y : Bool) → (x && y) ≡ true → y ≡ true
and-right true y e = e
and-right false y e = cc

pub not-guard : (l : Limit) → is_expr_limit l ≡ true → is_guard_limit l ≡ false
not-guard limit.Expr e = refl
not-guard _ e = cc

param-no-guard : (l : Limit) → (is_expr_limit l || is_param_limit l) ≡ true → is_guard_limit l ≡ false
param-no-guard limit.Expr e = refl
param-no-guard limit.Param e = refl
param-no-guard _ e = cc

pub first-fresh : (c : Context) → is_first c ≡ true → IsFresh c.operations c.sign
first-fresh c e = go c.operations c.sign e where
  go : (os : List Operation) (s : Option PrefixSign) → (is_nil os && is_none s) ≡ true → IsFresh os s
  go [] None e = record { operations = refl; sign = refl }
  go [] (Some s) e = cc
  go (o ∷ os) s e = cc

pub head-first : (c : Context) → may_head c ≡ true → IsFresh c.operations c.sign
head-first c e = first-fresh c (and-left (is_first c) (is_expr_limit c.limit) e)

pub head-limit : (c : Context) → may_head c ≡ true → is_guard_limit c.limit ≡ false
head-limit c e = not-guard c.limit (and-right (is_first c) (is_expr_limit c.limit) e)

-- what stands alone and is no Infix is in no guard
pub alone-limit : (c : Context) → Fits c → is_of_infix c.tail ≡ false → is_guard_limit c.limit ≡ false
alone-limit c f e = go (is_guard_limit c.limit) refl where
  go : (b : Bool) → is_guard_limit c.limit ≡ b → b ≡ false
  go true g = (let no : false ≡ true = sym e ∙ (f.guard g).1 in cc)
  go false g = refl

-- ---- tails

pub operand-next : (c : Context) (t : Tail) → Fits c → Decidable c.operations t → IsPlain t → TailFits t → stands_alone t ≡ false → is_guard_semi t ≡ false → is_of_infix t ≡ true → is_in_pattern t ≡ false
    → Next c (at c t)
operand-next c t f d p k a g i o = record { fits = operand-fits c c.tail t f d p k a g i; limit = refl; out = o }

pub prim-next : (c : Context) (prim : Prim) → Fits c → is_placeholder_prim prim ≡ false → Next c (at c (AtPrim prim))
prim-next c prim f p = operand-next c (AtPrim prim) f tt p tt refl refl refl refl

-- one that stands alone, in place of another
pub tail-next : (c : Context) (t : Tail) → Fits c → Decidable c.operations t → IsPlain t → TailFits t → stands_alone c.tail ≡ true → (is_of_infix c.tail ≡ true → is_of_infix t ≡ true)
    → (is_guard_semi t ≡ true → is_guard_semi c.tail ≡ true) → is_in_pattern t ≡ false → Next c (at c t)
tail-next c t f d p k a i g o = record { fits = fits-at c c.tail t f d p k (λ e. a) i g; limit = refl; out = o }

pub alone-next : (c : Context) (t : Tail) → Fits c → IsFresh c.operations c.sign → is_guard_limit c.limit ≡ false → Decidable c.operations t → IsPlain t → TailFits t → is_guard_semi t ≡ false → is_in_pattern t ≡ false
    → Next c (at c t)
alone-next c t f fresh l d p k g o = record {
  fits = record {
    decidable = d;
    plain = p;
    tail = k;
    one_side = f.one_side;
    alone = λ e. fresh;
    guard = λ e. (let no : false ≡ true = sym l ∙ e in cc);
    semi = λ e. (let no : false ≡ true = sym g ∙ e in cc);
  };
  limit = refl;
  out = o;
}

-- behind a head
pub head-next : (c : Context) (h : Head) → AreOneSide c.operations → is_guard_limit c.limit ≡ false → Next c (with_head c h)
head-next c h one l = record {
  fits = record {
    decidable = tt;
    plain = tt;
    tail = tt;
    one_side = one;
    alone = λ e. (let no : false ≡ true = e in cc);
    guard = λ e. (let no : false ≡ true = sym l ∙ e in cc);
    semi = λ e. (let no : false ≡ true = e in cc);
  };
  limit = refl;
  out = refl;
}

-- behind heads alone
pub only-next : (c : Context) (hs : List Head) (t : Tail) → Decidable [] t → IsPlain t → TailFits t → (is_guard_limit c.limit ≡ true → (hs ≡ []) × (is_of_infix t ≡ true)) → (is_guard_semi t ≡ true → is_guard_limit c.limit ≡ true)
    → is_in_pattern t ≡ false → Next c (only_heads hs t c.limit)
only-next c hs t d p k g s o = record {
  fits = record {
    decidable = d;
    plain = p;
    tail = k;
    one_side = refl;
    alone = λ e. record { operations = refl; sign = refl };
    guard = g;
    semi = s;
  };
  limit = refl;
  out = o;
}

no-guard : {A : Type 0} (c : Context) → is_guard_limit c.limit ≡ false → is_guard_limit c.limit ≡ true → A
no-guard c l e = absurd (let no : false ≡ true = sym l ∙ e in cc)

-- ---- names

-- operators of expressions as those of patterns, where what stands before them is not asked for
abbrev pub as_patterns : List Operation → List patterns.Operation
as_patterns [] = []
as_patterns (o ∷ os) = record { left = WildPat o.operator.place; operator = o.operator } ∷ as_patterns os

pub same-operators : (os : List Operation) → pattern_sides.operators_of (as_patterns os) ≡ operators_of os
same-operators [] = refl
same-operators (o ∷ os) = ap (λ ids. ids ++ o.operator ∷ []) (same-operators os)

pub same-fits : (os : List Operation) (id : Id) → patterns.fits (as_patterns os) id ≡ fits os id
same-fits [] id = refl
same-fits (o ∷ os) id =
    ap (λ b. if nat_lt (precedence id.name) (precedence o.operator.name) then b else (not (precedence o.operator.name == precedence id.name) || same_side (is_right o.operator.name) (is_right id.name))) (same-fits os id)

one-more : (os : List Operation) (id : Id) → AreOneSide os → fits os id ≡ true → are_of_one_side (operators_of os ++ id ∷ []) ≡ true
one-more os id one e =
    subst (λ ids. are_of_one_side (ids ++ id ∷ []) ≡ true) (same-operators os) (fits-side (as_patterns os) id (ap are_of_one_side (same-operators os) ∙ one) (same-fits os id ∙ e))

named-next : (c : Context) (id : Id) → Fits c → Next c (at c (named_tail id))
named-next c id f = go (is_prefix_id id) refl where
  go : (b : Bool) → is_prefix_id id ≡ b → Next c (at c (if b then AtSign id else AtName id false))
  go true e = operand-next c (AtSign id) f e tt tt refl refl refl refl
  go false e = operand-next c (AtName id false) f tt tt tt refl refl refl refl

operated-lasts : (c : Context) (id : Id) (o : Option Prim) → Fits c → fits c.operations id ≡ true → Lasts c (operated c id o)
operated-lasts c id None f e = lasts-none c
operated-lasts c id (Some prim) f e = lasts-some c _ (record {
  fits = record {
    decidable = tt;
    plain = tt;
    tail = tt;
    one_side = one-more c.operations id f.one_side e;
    alone = λ g. (let no : false ≡ true = g in cc);
    guard = λ g. ((f.guard g).0, refl);
    semi = λ g. (let no : false ≡ true = g in cc);
  };
  limit = refl;
  out = refl;
})

behind-lasts : (id : Id) (s : Tail) (c : Context) → Fits c → Lasts c (name_behind id s c)
behind-lasts id (AtDot prim point) c f = lasts-some c _ (prim-next c (SelectPrim prim point id) f refl)
behind-lasts id (AtSuperDot place point) c f = lasts-some c _ (prim-next c (SuperPrim place point id) f refl)
behind-lasts id _ c f = lasts-none c

pub id-lasts : (id : Id) (c : Context) → Fits c → Lasts c (on_id id c)
id-lasts id c f =
    lasts-if (may_begin_name c id.place.before) c _ _ (λ e. lasts-some c _ (named-next c id f))
    (λ e. lasts-if (is_before_operator c.tail && (is_no id.place.before && (not (is_param_limit c.limit) && fits c.operations id))) c _ _
    (λ g. operated-lasts c id (prim_at c.tail) f (and-right (not (is_param_limit c.limit)) (fits c.operations id)
    (and-right (is_no id.place.before) (not (is_param_limit c.limit) && fits c.operations id)
    (and-right (is_before_operator c.tail) (is_no id.place.before && (not (is_param_limit c.limit) && fits c.operations id)) g))))
    (λ g. behind-lasts id c.tail c f))

-- ---- operands of one token

pub literal-lasts : (l : Literal) (c : Context) → Fits c → Lasts c (on_literal l c)
literal-lasts l c f = lasts-when (may_stand c (literal_place l).before) c _ (prim-next c (LiteralPrim l) f refl)

pub number-lasts : (n : Number) (s : Tail) (c : Context) → Fits c → Lasts c (on_number n s c)
number-lasts n (AtSign id) c f = lasts-some c _ (prim-next c (MinusPrim id.place n) f refl)
number-lasts n _ c f = literal-lasts (literal_of n) c f

eta-lasts : (place : Place) (c : Context) (o : Option Prim) → Fits c → Lasts c (eta place c o)
eta-lasts place c None f = lasts-none c
eta-lasts place c (Some prim) f = lasts-some c _ (prim-next c (EtaPrim prim place) f refl)

pub underscore-lasts : (place : Place) (c : Context) → Fits c → Lasts c (on_underscore place c)
underscore-lasts place c f =
    lasts-if (may_begin_name c place.before) c _ _ (λ e. lasts-some c _ (operand-next c (AtWild place) f tt tt tt refl refl refl refl))
    (λ e. lasts-if (is_no place.before) c _ _ (λ g. eta-lasts place c (eta_receiver c) f) (λ g. lasts-none c))

-- ---- suffixes

dotted-lasts : (point : Place) (c : Context) (o : Option Prim) → Fits c → Lasts c (dotted point c o)
dotted-lasts point c None f = lasts-none c
dotted-lasts point c (Some prim) f =
    lasts-if (is_param_limit c.limit) c _ _ (λ e. lasts-none c) (λ e. lasts-some c _ (operand-next c (AtDot prim point) f tt tt tt refl refl refl refl))

pub dot-lasts : (point : Place) (s : Tail) (c : Context) → Fits c → Lasts c (on_dot point s c)
dot-lasts point (AtSuper place) c f = lasts-some c _ (operand-next c (AtSuperDot place point) f tt tt tt refl refl refl refl)
dot-lasts point s c f = dotted-lasts point c (operand_at s) f

pub square-lasts : (o : Place) (c : Context) (v : Option Prim) → Fits c → Lasts c (squared o c v)
square-lasts o c None f = lasts-none c
square-lasts o c (Some prim) f =
    lasts-if (is_param_limit c.limit) c _ _ (λ e. lasts-none c) (λ e. lasts-some c _ (operand-next c (InTypes prim o [] type_begun) f tt tt tt refl refl refl refl))

pub types-lasts : (y : Seen) (prim : Prim) (o : Place) (done : List types.Done) (v : Option WrittenType) (c : Context) → Fits c → Lasts c (types_on y prim o done v c)
types-lasts y prim o done None c f = lasts-none c
types-lasts (AComma p) prim o done (Some type) c f =
    lasts-some c _ (operand-next c (InTypes prim o (record { type = type; place = p } ∷ done) type_begun) f tt tt tt refl refl refl refl)
types-lasts (ClosesSquare p) prim o done (Some type) c f = lasts-some c _ (prim-next c (TypeApplyPrim prim o (types.listed done (LastType type)) p) f refl)
types-lasts _ prim o done (Some type) c f = lasts-none c

-- ---- what ends an Infix

chain-next : (c : Context) (t : Tail) → is_guard_limit c.limit ≡ false → Decidable [] t → IsPlain t → TailFits t → is_guard_semi t ≡ false → is_in_pattern t ≡ false → Next c (without_chain c t)
chain-next c t l d p k g o = only-next c c.heads t d p k (λ e. no-guard c l e) (λ e. (let no : false ≡ true = sym g ∙ e in cc)) o

typed-chain-lasts : (point : Place) (c : Context) (v : Option Infix) → is_guard_limit c.limit ≡ false → Lasts c (typed_chain point c v)
typed-chain-lasts point c None l = lasts-none c
typed-chain-lasts point c (Some chain) l = lasts-some c _ (chain-next c (InTyped (OfChain chain) point type_begun) l tt tt tt refl refl)

typed-lasts : (point : Place) (first : Bool) (s : Tail) (c : Context) → Fits c → is_guard_limit c.limit ≡ false → is_first c ≡ first → Lasts c (typed_from point first s c)
typed-lasts point true (AtName id is_sign) c f l e = lasts-some c _ (alone-next c (InTyped (OfName id) point type_begun) f (first-fresh c e) l tt tt tt refl refl)
typed-lasts point true (AtWild place) c f l e = lasts-some c _ (alone-next c (InTyped (OfWild place) point type_begun) f (first-fresh c e) l tt tt tt refl refl)
typed-lasts point first s c f l e = typed-chain-lasts point c (operand_chain c) l

pub colon-lasts : (point : Place) (c : Context) → Fits c → Lasts c (on_colon point c)
colon-lasts point c f =
    lasts-if (is_expr_limit c.limit || is_param_limit c.limit) c _ _ (λ e. typed-lasts point (is_first c) c.tail c f (param-no-guard c.limit e) refl) (λ e. lasts-none c)

pub match-lasts : (p : Place) (c : Context) (v : Option Infix) → Lasts c (matched p c v)
match-lasts p c None = lasts-none c
match-lasts p c (Some chain) =
    lasts-if (is_expr_limit c.limit) c _ _ (λ e. lasts-some c _ (chain-next c (AtMatch chain p) (not-guard c.limit e) tt tt tt refl refl)) (λ e. lasts-none c)

-- ---- heads

equals-at-lasts : (sign : Place) (s : Tail) (c : Context) → Fits c → is_guard_limit c.limit ≡ false → Lasts c (equals_at sign s c)
equals-at-lasts sign (AtName id is_sign) c f l = lasts-some c _ (head-next c (Of (AssignName id sign)) f.one_side l)
equals-at-lasts sign (AtPrim (SelectPrim prim point id)) c f l = lasts-some c _ (head-next c (Of (AssignSelect prim point id sign)) f.one_side l)
equals-at-lasts sign (AtCall prim args) c f l = lasts-some c _ (head-next c (Of (AssignApply prim args sign)) f.one_side l)
equals-at-lasts sign _ c f l = lasts-none c

pub equals-lasts : (sign : Place) (c : Context) → Fits c → Lasts c (if may_head c then equals_at sign c.tail c else None)
equals-lasts sign c f = lasts-if (may_head c) c _ _ (λ e. equals-at-lasts sign c.tail c f (head-limit c e)) (λ e. lasts-none c)

lambda-at-lasts : (arrow : Arrow) (c : Context) (v : Option LamHead) → Fits c → is_guard_limit c.limit ≡ false → Lasts c (lambda arrow c v)
lambda-at-lasts arrow c None f l = lasts-none c
lambda-at-lasts arrow c (Some head) f l = lasts-some c _ (head-next c (Of (Lambda head arrow)) f.one_side l)

pub lambda-lasts : (arrow : Arrow) (c : Context) → Fits c → Lasts c (if may_head c then lambda arrow c (head_at c.tail) else None)
lambda-lasts arrow c f = lasts-if (may_head c) c _ _ (λ e. lambda-at-lasts arrow c (head_at c.tail) f (head-limit c e)) (λ e. lasts-none c)

pub begun-head : (c : Context) → may_begin c ≡ true → may_head c ≡ true
begun-head c e = and-right (may_stand c No) (may_head c) e

yielding-lasts : (p : Place) (hs : List Head) (c : Context) → is_guard_limit c.limit ≡ false → Lasts c (yielding p hs c)
yielding-lasts p (Of (ForRound place o enums k None) ∷ hs) c l = lasts-some c _ (only-next c (Of (ForRound place o enums k (Some p)) ∷ hs) Begin tt tt tt (λ e. no-guard c l e) (λ e. (let no : false ≡ true = e in cc)) refl)
yielding-lasts p (Of (ForCurly place o enums k None) ∷ hs) c l = lasts-some c _ (only-next c (Of (ForCurly place o enums k (Some p)) ∷ hs) Begin tt tt tt (λ e. no-guard c l e) (λ e. (let no : false ≡ true = e in cc)) refl)
yielding-lasts p _ c l = lasts-none c

begun-lasts : (w : Word) (p : Place) (c : Context) → Fits c → may_head c ≡ true → Lasts c (begun_with w p c)
begun-lasts word.If p c f e = lasts-some c _ (alone-next c (AtAsker IfAsker p) f (head-first c e) (head-limit c e) tt tt tt refl refl)
begun-lasts word.While p c f e = lasts-some c _ (alone-next c (AtAsker WhileAsker p) f (head-first c e) (head-limit c e) tt tt tt refl refl)
begun-lasts word.For p c f e = lasts-some c _ (alone-next c (AtAsker ForAsker p) f (head-first c e) (head-limit c e) tt tt tt refl refl)
begun-lasts word.Return p c f e = lasts-some c _ (alone-next c (AtReturn p) f (head-first c e) (head-limit c e) (head-first c e).operations tt tt refl refl)
begun-lasts word.Do p c f e = lasts-some c _ (head-next c (DoHead p) f.one_side (head-limit c e))
begun-lasts word.Try p c f e = lasts-some c _ (head-next c (Of (TryAlone p)) f.one_side (head-limit c e))
begun-lasts word.Throw p c f e = lasts-some c _ (head-next c (Of (ThrowOf p)) f.one_side (head-limit c e))
begun-lasts _ p c f e = lasts-none c

prim-word-next : (w : Word) (p : Place) (c : Context) → Fits c → Next c (at c (prim_word w p))
prim-word-next word.Super p c f = operand-next c (AtSuper p) f tt tt tt refl refl refl refl
prim-word-next word.New p c f = operand-next c (InNew p type_begun) f tt tt tt refl refl refl refl
prim-word-next _ p c f = prim-next c (ThisPrim p) f refl

other-word-lasts : (w : Word) (p : Place) (c : Context) → Fits c → Lasts c (if is_prim_word w then when (may_stand c p.before) (at c (prim_word w p)) else begins w p c)
other-word-lasts w p c f =
    lasts-if (is_prim_word w) c _ _ (λ e. lasts-when (may_stand c p.before) c _ (prim-word-next w p c f))
    (λ e. lasts-if (may_begin c) c _ _ (λ g. begun-lasts w p c f (begun-head c g)) (λ g. lasts-none c))

pub word-lasts : (w : Word) (p : Place) (c : Context) → Fits c → Lasts c (word_at w p c)
word-lasts word.Match p c f = match-lasts p c (operand_chain c)
word-lasts word.Yield p c f = lasts-if (may_begin c) c _ _ (λ e. yielding-lasts p c.heads c (head-limit c (begun-head c e))) (λ e. lasts-none c)
word-lasts w p c f = other-word-lasts w p c f

-- ---- words that a head takes

-- in a guard no head stands
heads-limit : (c : Context) → Fits c → is_nil c.heads ≡ false → is_guard_limit c.limit ≡ false
heads-limit c f e = go (is_guard_limit c.limit) refl where
  go : (b : Bool) → is_guard_limit c.limit ≡ b → b ≡ false
  go true g = (let no : true ≡ false = sym (ap is_nil (f.guard g).0) ∙ e in cc)
  go false g = refl

else-some : (hs : List Head) → takes_else hs ≡ true → is_nil hs ≡ false
else-some [] e = cc
else-some (h ∷ hs) e = refl

catch-some : (hs : List Head) → takes_catch hs ≡ true → is_nil hs ≡ false
catch-some [] e = cc
catch-some (h ∷ hs) e = refl

waits-some : (hs : List Head) → waits hs ≡ true → is_nil hs ≡ false
waits-some [] e = cc
waits-some (h ∷ hs) e = refl

heads-begin : (c : Context) (hs : List Head) → is_guard_limit c.limit ≡ false → Next c (only_heads hs Begin c.limit)
heads-begin c hs l = only-next c hs Begin tt tt tt (λ e. no-guard c l e) (λ e. (let no : false ≡ true = e in cc)) refl

with-heads-lasts : (c : Context) (v : Option (List Head)) → is_guard_limit c.limit ≡ false → Lasts c (with_heads c.limit v)
with-heads-lasts c None l = lasts-none c
with-heads-lasts c (Some hs) l = lasts-some c _ (heads-begin c hs l)

else-lasts : (p : Place) (c : Context) (v : Option Before) → is_guard_limit c.limit ≡ false → Lasts c (on_else p c v)
else-lasts p c None l = lasts-none c
else-lasts p c (Some b) l = with-heads-lasts c (behind_else (one_of b.seps) p c.heads (Some b.expr)) l

caught-lasts : (p : Place) (c : Context) (v : Option Tried) → is_guard_limit c.limit ≡ false → Lasts c (caught p c.limit v)
caught-lasts p c None l = lasts-none c
caught-lasts p c (Some t) l = lasts-some c _ (only-next c t.heads (AtCatch t.word t.body p) tt tt tt (λ e. no-guard c l e) (λ e. (let no : false ≡ true = e in cc)) refl)

finished-lasts : (p : Place) (c : Context) (v : Option Tried) → (is_some v ≡ true → is_guard_limit c.limit ≡ false) → Lasts c (finished p c.limit v)
finished-lasts p c None l = lasts-none c
finished-lasts p c (Some t) l = lasts-some c _ (heads-begin c (Of (TryFinally t.word t.body p) ∷ t.heads) (l refl))

until-at-lasts : (seps : Sep) (p : Place) (c : Context) (v : Option Tried) → is_guard_limit c.limit ≡ false → Lasts c (until_at seps p c.limit v)
until-at-lasts seps p c None l = lasts-none c
until-at-lasts seps p c (Some t) l = lasts-some c _ (only-next c t.heads (AtUntil t.word t.body seps p) tt tt tt (λ e. no-guard c l e) (λ e. (let no : false ≡ true = e in cc)) refl)

until-lasts : (p : Place) (c : Context) (v : Option Before) → is_guard_limit c.limit ≡ false → Lasts c (on_until p c v)
until-lasts p c None l = lasts-none c
until-lasts p c (Some b) l = until-at-lasts b.seps p c (done c.heads (Some b.expr)) l

-- a `try` that takes the word is a head
tried-some : (hs : List Head) (v : Option Expr) → is_some (tried hs v) ≡ true → is_nil hs ≡ false
tried-some [] None e = cc
tried-some [] (Some body) e = cc
tried-some (h ∷ hs) v e = refl

finally-lasts : (p : Place) (s : Tail) (c : Context) → Fits c → c.tail ≡ s → Lasts c (on_finally p s c)
finally-lasts p (AtCaught place body catch o cases k) c f e =
    lasts-some c _ (heads-begin c (Of (TryCatchFinally place body catch o cases k p) ∷ c.heads) (alone-limit c f (ap is_of_infix e)))
finally-lasts p s c f e = finished-lasts p c (tried c.heads (innermost c)) (λ t. heads-limit c f (tried-some c.heads (innermost c) t))

pub taken-lasts : (w : Word) (p : Place) (c : Context) → Fits c → Lasts c (taken w p c)
taken-lasts word.Else p c f =
    lasts-if (takes_else c.heads) c _ _ (λ e. else-lasts p c (before_word c.tail c) (heads-limit c f (else-some c.heads e))) (λ e. lasts-none c)
taken-lasts word.Catch p c f =
    lasts-if (takes_catch c.heads) c _ _ (λ e. caught-lasts p c (tried c.heads (innermost c)) (heads-limit c f (catch-some c.heads e))) (λ e. lasts-none c)
taken-lasts word.Finally p c f = finally-lasts p c.tail c f refl
taken-lasts word.While p c f =
    lasts-if (waits c.heads) c _ _ (λ e. until-lasts p c (before_word c.tail c) (heads-limit c f (waits-some c.heads e))) (λ e. lasts-none c)
taken-lasts _ p c f = lasts-none c

-- ---- semicolons

guard-is : (l : Limit) → is_guard_limit l ≡ true → limit.Guard ≡ l
guard-is limit.Guard e = refl
guard-is _ e = cc

guard-semi-lasts : (p : Place) (c : Context) (v : Option Infix) → is_guard_limit c.limit ≡ true → Lasts c (guard_semi p v)
guard-semi-lasts p c None g = lasts-none c
guard-semi-lasts p c (Some test) g = lasts-some c _ (record {
  fits = record {
    decidable = tt;
    plain = tt;
    tail = tt;
    one_side = refl;
    alone = λ e. record { operations = refl; sign = refl };
    guard = λ e. (refl, refl);
    semi = λ e. refl;
  };
  limit = guard-is c.limit g;
  out = refl;
})

semi-behind-lasts : (p : Place) (c : Context) (v : Option Expr) → is_guard_limit c.limit ≡ false → Lasts c (semi_behind p c.limit c.heads v)
semi-behind-lasts p c None l = lasts-none c
semi-behind-lasts p c (Some expr) l = lasts-some c _ (only-next c c.heads (AtSemi expr p []) tt tt tt (λ e. no-guard c l e) (λ e. (let no : false ≡ true = e in cc)) refl)

first-semi-lasts : (p : Place) (c : Context) → Lasts c (if is_guard_limit c.limit then guard_semi p (chain_at c) else semi_behind p c.limit c.heads (innermost c))
first-semi-lasts p c = lasts-if (is_guard_limit c.limit) c _ _ (λ g. guard-semi-lasts p c (chain_at c) g) (λ l. semi-behind-lasts p c (innermost c) l)

semi-lasts : (p : Place) (many : Bool) (s : Tail) (c : Context) → Fits c → c.tail ≡ s → Lasts c (semi_at p many s c)
semi-lasts p many (AtSemi expr q qs) c f e =
    lasts-if many c _ _ (λ m. lasts-some c _ (only-next c c.heads (AtSemi expr q (qs ++ p ∷ [])) tt tt tt (λ g. no-guard c (alone-limit c f (ap is_of_infix e)) g) (λ g. (let no : false ≡ true = g in cc)) refl))
    (λ m. lasts-none c)
semi-lasts p many (AtGuardSemi test q qs) c f e =
    lasts-if many c _ _ (λ m. lasts-some c _ (tail-next c (AtGuardSemi test q (qs ++ p ∷ [])) f tt tt tt (ap stands_alone e) (λ g. refl) (λ g. ap is_guard_semi e) refl))
    (λ m. lasts-none c)
semi-lasts p many s c f e = first-semi-lasts p c

pub semicolon-lasts : (p : Place) (fs : List Frame) (c : Context) → Fits c → Lasts c (on_semicolon p fs c)
semicolon-lasts p fs c f =
    lasts-if (in_gens fs && not (waits c.heads)) c _ _ (λ e. semi-lasts p true c.tail c f refl)
    (λ e. lasts-if (waits c.heads) c _ _ (λ g. semi-lasts p true c.tail c f refl)
    (λ g. lasts-if (takes_else c.heads) c _ _ (λ h. semi-lasts p false c.tail c f refl) (λ h. lasts-none c)))

-- ---- braces

called-lasts : (c : Context) (prim : Prim) (v : Option Args) → Fits c → Lasts c (at_some c (called prim v))
called-lasts c prim None f = lasts-none c
called-lasts c prim (Some args) f = lasts-some c _ (operand-next c (AtCall prim args) f tt tt tt refl refl refl refl)

new-with-lasts : (c : Context) (place : Place) (type : WrittenType) (v : Option Args) → Fits c → Lasts c (at_some c (new_with place type v))
new-with-lasts c place type None f = lasts-none c
new-with-lasts c place type (Some args) f = lasts-some c _ (prim-next c (NewWith place type args) f refl)

braces-lasts : (c : Context) (i : Item) → Fits c → Lasts c (at_some c (as_prim (prim_of i)))
braces-lasts c (BlockPair o block k) f = lasts-some c _ (prim-next c (BlockPrim o block k) f refl)
braces-lasts c (CasesPair o cases k) f = lasts-some c _ (prim-next c (CasesPrim o cases k) f refl)
braces-lasts c _ f = lasts-none c

some-if : (b : Bool) (c : Context) (v : Option Tail) → Lasts c (at_some c v) → Lasts c (at_some c (if b then v else None))
some-if true c v l = l
some-if false c v l = lasts-none c

behind-receiver-lasts : (c : Context) (v : Option Prim) (before : Newline) (i : Item) → Fits c → Lasts c (at_some c (behind_receiver v before i))
behind-receiver-lasts c None before i f = lasts-none c
behind-receiver-lasts c (Some prim) before i f = some-if (is_near before) c (called prim (arg_of i)) (called-lasts c prim (arg_of i) f)

sign-receiver-lasts : (c : Context) (id : Id) (before : Newline) (i : Item) → Fits c → Lasts c (at_some c (if is_param_limit c.limit then None else sign_receiver id before i))
sign-receiver-lasts c id before i f = go (is_param_limit c.limit) where
  go : (b : Bool) → Lasts c (at_some c (if b then None else sign_receiver id before i))
  go true = lasts-none c
  go false = some-if (is_near before && not (is_no before)) c (called (NamePrim id) (arg_of i)) (called-lasts c (NamePrim id) (arg_of i) f)

tail-behind-lasts : (s : Tail) (c : Context) (before : Newline) (i : Item) → Fits c → c.tail ≡ s → Lasts c (at_some c (tail_behind s c before i))
tail-behind-lasts (AtMatch chain place) c before (CasesPair o cases p) f e =
    lasts-some c _ (tail-next c (AtEnded (MatchExpr chain place o cases p)) f tt tt refl (ap stands_alone e) (λ g. (let no : false ≡ true = sym (ap is_of_infix e) ∙ g in cc)) (λ g. (let no : false ≡ true = g in cc)) refl)
tail-behind-lasts (AtMatch chain place) c before _ f e = lasts-none c
tail-behind-lasts (AtCatch place body catch) c before (CasesPair o cases p) f e =
    lasts-some c _ (tail-next c (AtCaught place body catch o cases p) f tt tt tt (ap stands_alone e) (λ g. (let no : false ≡ true = sym (ap is_of_infix e) ∙ g in cc)) (λ g. (let no : false ≡ true = g in cc)) refl)
tail-behind-lasts (AtCatch place body catch) c before _ f e = lasts-none c
tail-behind-lasts (AtName id true) c before i f e = sign-receiver-lasts c id before i f
tail-behind-lasts (AtNew place type) c before i f e = some-if (is_near before) c (new_with place type (arg_of i)) (new-with-lasts c place type (arg_of i) f)
tail-behind-lasts Begin c before i f e = some-if (may_stand c before) c (as_prim (prim_of i)) (braces-lasts c i f)
tail-behind-lasts s c before i f e = behind-receiver-lasts c (receiver c) before i f

pair-at-lasts : (s : Tail) (c : Context) (before : Newline) (i : Item) → Fits c → c.tail ≡ s → Lasts c (behind_pair s c before i)
pair-at-lasts (AtAsker ForAsker place) c before (EnumsPair o enums p) f e = lasts-some c _ (head-next c (Of (ForCurly place o enums p None)) f.one_side (alone-limit c f (ap is_of_infix e)))
pair-at-lasts (AtAsker asker place) c before _ f e = lasts-none c
pair-at-lasts s c before i f e = tail-behind-lasts s c before i f e

pub pair-lasts : (c : Context) (before : Newline) (i : Item) → Fits c → Lasts c (decided_pair c before i)
pair-lasts c before i f = pair-at-lasts c.tail c before i f refl

-- ---- types

pub type-lasts : (x : Lexeme) (s : Tail) (c : Context) → Fits c → c.tail ≡ s → Lasts c (at_some c (in_type c.limit s x))
type-lasts x (InNew place t) c f e = go (goes_on c.limit t x) where
  go : (v : Option types.State) → Lasts c (at_some c (new_type place v))
  go None = lasts-none c
  go (Some u) = lasts-some c _ (operand-next c (InNew place u) f tt tt tt refl refl refl refl)
type-lasts x (InTypes prim o done t) c f e = go (types.step t x) where
  go : (v : Option types.State) → Lasts c (at_some c (types_type prim o done v))
  go None = lasts-none c
  go (Some u) = lasts-some c _ (operand-next c (InTypes prim o done u) f tt tt tt refl refl refl refl)
type-lasts x (InTyped of point t) c f e = go (types.step t x) where
  go : (v : Option types.State) → Lasts c (at_some c (typed_type of point v))
  go None = lasts-none c
  go (Some u) = lasts-some c _ (tail-next c (InTyped of point u) f tt tt tt (ap stands_alone e) (λ g. (let no : false ≡ true = sym (ap is_of_infix e) ∙ g in cc)) (λ g. (let no : false ≡ true = g in cc)) refl)
type-lasts x _ c f e = lasts-none c

-- ---- what the next item decides

pub decided-next : (c : Context) (y : Symbol) (before : Newline) → Fits c → is_in_pattern c.tail ≡ false → Next c (decided_at c.tail c y before)
decided-next c y before f o = record { fits = decided-fits c c.tail y before f; limit = decided-limit c c.tail y before; out = decided-pattern c c.tail y before ∙ o }
