-- The element that ends in parentheses or before a comma, the reader as the machine.
use Rattle.std.proofs.Common.{◌≡◌, Bool, true, false, ◌&&◌, if◌then◌else◌, List, [], ◌∷◌, length, Option, Some, None, refl, ap, sym, ◌∙◌, arith}
use Rattle.std.proofs.lemmas.List.{length-append}
use Rattle.source_grammar.specs.Definitions.{NoType, OfType}
use Rattle.source_grammar.specs.Expressions.{PrefixSign, LPar, NamedLPar, WildLPar, Expr, Infix}
use Rattle.source_grammar.specs.Lexemes.{Place, Id}
use Rattle.source_grammar.specs.Types.{WrittenType}
use Rattle.parse_parts.specs.Reading.{is_nil}
use Rattle.parse_parts.proofs.Derived as types
use Rattle.parse_parts.proofs.Shown as type_shown
use Rattle.tree_lower.specs.Keeping.{name_of}
use Rattle.expr_tails.specs.declared.tails.Ready.{Ready}
use Rattle.expr_tails.specs.declared.states.Element.{Element}
use Rattle.expr_tails.specs.declared.states.Element.TheVariants as element
use Rattle.expr_tails.specs.Ending.{is_expr, expr_at}
use Rattle.expr_tails.specs.Tails.{from_start}
use Rattle.expr_frames.specs.Frames as spec
use Rattle.expr_laws.proofs.Agreeing.{nil-heads, first-shown, begin-shown, expr-shown}
use Rattle.expr_laws.proofs.Derived as derived
use Rattle.expr_laws.proofs.Fitting.{Fits}
use Rattle.expr_laws.proofs.Headed.{none-all}
use Rattle.expr_laws.proofs.Innermost.{type-read-shown, type-read-end, expr-there}
use Rattle.expr_laws.proofs.Shown.{wild_name, param_shown, element_shown, done_elements, tail_shown, tail_free, heads_shown, context_shown}
use Rattle.source_grammar.specs.ExpressionTokens.{lpar_tokens}
use Rattle.source_grammar.specs.Spans.{span_of}
use Rattle.expr_tails.specs.Types.{type_of}

-- ---- what is tested of a context

-- nothing but the tail was read since the bracket or the comma
abbrev pub is_only : derived.Context → Bool
is_only c = derived.is_first c && derived.is_nil c.heads

and-assoc : (a b c : Bool) → (a && (b && c)) ≡ ((a && b) && c)
and-assoc true b c = refl
and-assoc false b c = refl

param-tested : (c : derived.Context) → spec.is_param (context_shown c) ≡ (is_only c && spec.is_param_tail (tail_shown c.tail))
param-tested c =
    ap (λ b. b && (is_nil (heads_shown c.heads) && spec.is_param_tail (tail_shown c.tail))) (first-shown c (tail_free c.tail) (tail_shown c.tail))
    ∙ ap (λ b. derived.is_first c && (b && spec.is_param_tail (tail_shown c.tail))) (nil-heads c.heads)
    ∙ and-assoc (derived.is_first c) (derived.is_nil c.heads) (spec.is_param_tail (tail_shown c.tail))

pub untouched-shown : (c : derived.Context) → spec.is_untouched (context_shown c) ≡ derived.is_untouched c
untouched-shown c =
    ap (λ b. b && (is_nil (heads_shown c.heads) && spec.is_begin (tail_shown c.tail))) (first-shown c (tail_free c.tail) (tail_shown c.tail))
    ∙ ap (λ b. derived.is_first c && (b && spec.is_begin (tail_shown c.tail))) (nil-heads c.heads)
    ∙ ap (λ b. derived.is_first c && (derived.is_nil c.heads && b)) (begin-shown c.tail)

-- ---- the innermost expression of one that ends

pub record Inner (c : derived.Context) : Type 0 where
  pub expr : Expr
  pub is : derived.innermost c ≡ Some expr

pub inner-of : (c : derived.Context) (e : Expr) → derived.ended_expr c ≡ Some e → Inner c
inner-of c e f = go (derived.waits c.heads) (derived.innermost c) refl f where
  go : (w : Bool) (o : Option Expr) → derived.innermost c ≡ o → (if w then None else derived.headed_all c.heads o) ≡ Some e → Inner c
  go true o g h = cc
  go false None g h = (let gone : None ≡ Some e = sym (none-all c.heads) ∙ h in cc)
  go false (Some d) g h = record { expr = d; is = g }

-- where nothing was read no expression ends
pub untouched-none : (c : derived.Context) → derived.is_untouched c ≡ true → derived.is_some (derived.ended_expr c) ≡ false
untouched-none c e = go c.tail e where
  ended : (w : Bool) → derived.is_some (if w then None else derived.headed_all c.heads None) ≡ false
  ended true = refl
  ended false = ap derived.is_some (none-all c.heads)

  not-begin : (a b : Bool) → (a && (b && false)) ≡ true → ⊥
  not-begin true true f = cc
  not-begin true false f = cc
  not-begin false b f = cc

  go : (s : derived.Tail) → (derived.is_first c && (derived.is_nil c.heads && derived.is_begin s)) ≡ true
      → derived.is_some (if derived.waits c.heads then None else derived.headed_all c.heads (derived.innermost_at s (derived.chain_of c.operations c.sign (derived.prim_at s)))) ≡ false
  go derived.Begin f = ended (derived.waits c.heads)
  go _ f = absurd (not-begin (derived.is_first c) (derived.is_nil c.heads) f)

-- ---- parameters

-- a parameter that ends at a tail
pub record IsParam (b : Bool) (s : derived.Tail) (e : derived.Element) : Type 0 where
  pub only : b ≡ true
  pub tested : spec.is_param_tail (tail_shown s) ≡ true
  pub shown : spec.param_element (tail_shown s) ≡ element_shown e
  pub param : derived.is_param e ≡ true

as-param : (b : Bool) (s : derived.Tail) (p : LPar) (e : derived.Element) → derived.ParamElement p ≡ e → b ≡ true → spec.is_param_tail (tail_shown s) ≡ true
    → spec.param_element (tail_shown s) ≡ param_shown p → IsParam b s e
as-param b s p e same only tested shown = record { only = only; tested = tested; shown = shown ∙ ap element_shown same; param = ap derived.is_param (sym same) }

named-typed : (id : Id) (point : Place) (t : types.State) (type : WrittenType) → derived.type_of t ≡ Some type
    → spec.param_typed (name_of id) true (type_shown.shown t) ≡ param_shown (NamedLPar id (OfType point type))
named-typed id point t type e =
    ap (λ n. element.Param (record { name = name_of id; binds = true; span = from_start id.place.span.start n; ty = Some (type_of (type_shown.shown t)) }))
    (sym (type-read-end point.span.end t type e))
    ∙ ap (λ k. element.Param (record { name = name_of id; binds = true; span = span_of (lpar_tokens (NamedLPar id (OfType point type))); ty = Some k })) (type-read-shown t type e)

wild-typed : (place point : Place) (t : types.State) (type : WrittenType) → derived.type_of t ≡ Some type
    → spec.param_typed (wild_name place) false (type_shown.shown t) ≡ param_shown (WildLPar place (OfType point type))
wild-typed place point t type e =
    ap (λ n. element.Param (record { name = wild_name place; binds = false; span = from_start place.span.start n; ty = Some (type_of (type_shown.shown t)) }))
    (sym (type-read-end point.span.end t type e))
    ∙ ap (λ k. element.Param (record { name = wild_name place; binds = false; span = span_of (lpar_tokens (WildLPar place (OfType point type))); ty = Some k })) (type-read-shown t type e)

param-there : (b : Bool) (s : derived.Tail) (e : derived.Element) → derived.param_element b s ≡ Some e → IsParam b s e
param-there true (derived.AtName id is_sign) e f =
    (let same : derived.ParamElement (NamedLPar id NoType) ≡ e = cc in as-param true (derived.AtName id is_sign) (NamedLPar id NoType) e same refl refl refl)
param-there true (derived.AtWild place) e f =
    (let same : derived.ParamElement (WildLPar place NoType) ≡ e = cc in as-param true (derived.AtWild place) (WildLPar place NoType) e same refl refl refl)
param-there true (derived.InTyped (derived.OfName id) point t) e f = go (derived.type_of t) refl f where
  go : (o : Option WrittenType) → derived.type_of t ≡ o → derived.typed_element (NamedLPar id) point o ≡ Some e → IsParam true (derived.InTyped (derived.OfName id) point t) e
  go None g h = cc
  go (Some type) g h =
      (let same : derived.ParamElement (NamedLPar id (OfType point type)) ≡ e = cc in
      as-param true (derived.InTyped (derived.OfName id) point t) (NamedLPar id (OfType point type)) e same refl refl (named-typed id point t type g))
param-there true (derived.InTyped (derived.OfWild place) point t) e f = go (derived.type_of t) refl f where
  go : (o : Option WrittenType) → derived.type_of t ≡ o → derived.typed_element (WildLPar place) point o ≡ Some e → IsParam true (derived.InTyped (derived.OfWild place) point t) e
  go None g h = cc
  go (Some type) g h =
      (let same : derived.ParamElement (WildLPar place (OfType point type)) ≡ e = cc in
      as-param true (derived.InTyped (derived.OfWild place) point t) (WildLPar place (OfType point type)) e same refl refl (wild-typed place point t type g))
param-there true (derived.InTyped (derived.OfChain chain) point t) e f = cc
param-there true _ e f = cc
param-there false _ e f = cc

-- a parameter ends an expression too
param-ends : (b : Bool) (s : derived.Tail) (e : derived.Element) (os : List derived.Operation) (sign : Option PrefixSign) → derived.param_element b s ≡ Some e
    → derived.is_some (derived.innermost_at s (derived.chain_of os sign (derived.prim_at s))) ≡ true
param-ends true (derived.AtName id is_sign) e os sign f = refl
param-ends true (derived.AtWild place) e os sign f = refl
param-ends true (derived.InTyped (derived.OfName id) point t) e os sign f = go (derived.type_of t) f where
  go : (o : Option WrittenType) → derived.typed_element (NamedLPar id) point o ≡ Some e → derived.is_some (derived.typed_expr (derived.OfName id) point o) ≡ true
  go None g = cc
  go (Some type) g = refl
param-ends true (derived.InTyped (derived.OfWild place) point t) e os sign f = go (derived.type_of t) f where
  go : (o : Option WrittenType) → derived.typed_element (WildLPar place) point o ≡ Some e → derived.is_some (derived.typed_expr (derived.OfWild place) point o) ≡ true
  go None g = cc
  go (Some type) g = refl
param-ends true (derived.InTyped (derived.OfChain chain) point t) e os sign f = cc
param-ends true _ e os sign f = cc
param-ends false _ e os sign f = cc

-- what ends here is no parameter
no-param : (b : Bool) (s : derived.Tail) (chain : Option Infix) (d : Expr) → derived.param_element b s ≡ None → derived.innermost_at s chain ≡ Some d
    → (b && spec.is_param_tail (tail_shown s)) ≡ false
no-param false s chain d f g = refl
no-param true (derived.AtName id is_sign) chain d f g = cc
no-param true (derived.AtWild place) chain d f g = cc
no-param true (derived.InTyped (derived.OfName id) point t) chain d f g = go (derived.type_of t) f g where
  go : (o : Option WrittenType) → derived.typed_element (NamedLPar id) point o ≡ None → derived.typed_expr (derived.OfName id) point o ≡ Some d → true ≡ false
  go None h k = cc
  go (Some type) h k = cc
no-param true (derived.InTyped (derived.OfWild place) point t) chain d f g = go (derived.type_of t) f g where
  go : (o : Option WrittenType) → derived.typed_element (WildLPar place) point o ≡ None → derived.typed_expr (derived.OfWild place) point o ≡ Some d → true ≡ false
  go None h k = cc
  go (Some type) h k = cc
no-param true (derived.InTyped (derived.OfChain c) point t) chain d f g = refl
no-param true _ chain d f g = refl

-- ---- the element

-- both end the same element
pub record IsElement (c : derived.Context) (e : derived.Element) : Type 0 where
  pub tested : spec.is_param (context_shown c) ≡ derived.is_param e
  pub shown : spec.element_at (context_shown c) ≡ element_shown e

abbrev plain : Ready → Element
plain r = element.Plain r.operand.tall r.free

pub element-there : (c : derived.Context) (e : derived.Element) → Fits c → derived.element_at c ≡ Some e → IsElement c e
element-there c e f g = go (derived.param_element (is_only c) c.tail) (derived.ended_expr c) refl refl g where
  param : IsParam (is_only c) c.tail e → IsElement c e
  param p =
      let tested : spec.is_param (context_shown c) ≡ true = param-tested c ∙ ap (λ b. b && spec.is_param_tail (tail_shown c.tail)) p.only ∙ p.tested in
      record {
        tested = tested ∙ sym p.param;
        shown = ap (λ b. if b then spec.param_element (tail_shown c.tail) else plain (expr_at (context_shown c))) tested ∙ p.shown;
      }

  expr : (x : Expr) → derived.ExprElement x ≡ e → derived.ended_expr c ≡ Some x → derived.param_element (is_only c) c.tail ≡ None → IsElement c e
  expr x same k n =
      let inner = inner-of c x k in
      let tested : spec.is_param (context_shown c) ≡ false = param-tested c ∙ no-param (is_only c) c.tail (derived.chain_at c) inner.expr n inner.is in
      record {
        tested = tested ∙ ap derived.is_param same;
        shown = ap (λ b. if b then spec.param_element (tail_shown c.tail) else plain (expr_at (context_shown c))) tested
            ∙ ap plain (expr-there c x f k) ∙ ap element_shown same;
      }

  go : (p : Option derived.Element) (o : Option Expr) → derived.param_element (is_only c) c.tail ≡ p → derived.ended_expr c ≡ o
      → derived.or_else p (derived.expr_element o) ≡ Some e → IsElement c e
  go (Some x) o h k i = (let same : Some x ≡ Some e = i in param (param-there (is_only c) c.tail e (h ∙ same)))
  go None (Some x) h k i = (let same : derived.ExprElement x ≡ e = cc in expr x same k h)
  go None None h k i = cc

-- an element ends where an expression does
pub element-ends : (c : derived.Context) → derived.is_some (derived.element_at c) ≡ derived.is_some (derived.ended_expr c)
element-ends c = go (derived.param_element (is_only c) c.tail) refl where
  plainly : (o : Option Expr) → derived.is_some (derived.expr_element o) ≡ derived.is_some o
  plainly None = refl
  plainly (Some x) = refl

  alone : (hs : List derived.Head) (a : Bool) (o : Option Expr) → (a && derived.is_nil hs) ≡ true → derived.is_some o ≡ true
      → true ≡ derived.is_some (if derived.waits hs then None else derived.headed_all hs o)
  alone [] a None n s = cc
  alone [] a (Some x) n s = refl
  alone (h ∷ hs) true o n s = cc
  alone (h ∷ hs) false o n s = cc

  only : (x : derived.Element) → IsParam (is_only c) c.tail x → is_only c ≡ true
  only x p = p.only

  go : (p : Option derived.Element) → derived.param_element (is_only c) c.tail ≡ p
      → derived.is_some (derived.or_else p (derived.expr_element (derived.ended_expr c))) ≡ derived.is_some (derived.ended_expr c)
  go None h = plainly (derived.ended_expr c)
  go (Some x) h =
      alone c.heads (derived.is_first c) (derived.innermost c) (only x (param-there (is_only c) c.tail x h)) (param-ends (is_only c) c.tail x c.operations c.sign h)

-- an element ends where the reader has one
pub element-tested : (c : derived.Context) → is_expr (context_shown c) ≡ derived.is_some (derived.element_at c)
element-tested c = expr-shown c ∙ sym (element-ends c)

pub done-length : (done : List derived.DoneElement) → length (done_elements done) ≡ length done
done-length [] = refl
done-length (d ∷ done) =
    (let one = length-append (done_elements done) (element_shown d.element ∷ []) in let rest = done-length done in omega (arith, one, rest))
