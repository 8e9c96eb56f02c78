-- What the reader tests of its state is what the machine tests of its own.
use Rattle.std.proofs.Common.{◌≡◌, nat_le, Bool, true, false, ◌&&◌, ◌||◌, if◌then◌else◌, List, [], ◌∷◌, ◌++◌, length, map, Option, Some, None, refl, ap, sym, ◌∙◌, arith}
use Rattle.std.specs.Prelude.{not, is_some}
use Rattle.std.proofs.lemmas.Bool.Decides.{nat_tests}
use Rattle.std.proofs.lemmas.List.{length-append}
use Rattle.pc_terms.specs.declared.problems.Span.{Span}
use Rattle.scan_tokens.specs.declared.tokens.Newline.{Newline}
use Rattle.source_grammar.specs.Expressions.{PrefixSign, Expr, Prim}
use Rattle.source_grammar.specs.Lexemes.{Place}
use Rattle.source_grammar.specs.Newlines.{is_near}
use Rattle.source_grammar.specs.Types.{WrittenType, SimpleType}
use Rattle.parse_parts.specs.Reading.{is_nil}
use Rattle.parse_parts.specs.Steps as type_spec
use Rattle.parse_parts.specs.Steps.{is_none}
use Rattle.parse_parts.proofs.Derived as types
use Rattle.parse_parts.proofs.Moves as type_moves
use Rattle.parse_parts.proofs.Shown as type_shown
use Rattle.expr_tails.specs.declared.states.Element.{Element}
use Rattle.expr_tails.specs.declared.states.Tail.{Tail}
use Rattle.expr_tails.specs.Ending as ending
use Rattle.expr_tails.specs.Tails as tails
use Rattle.expr_tails.specs.Types.{is_type, is_type_and_dot}
use Rattle.expr_frames.specs.Frames as frames
use Rattle.expr_laws.proofs.Derived as derived
use Rattle.expr_laws.proofs.Reach.{waits-shown}
use Rattle.expr_laws.proofs.Shown.{operations_shown, sign_shown, element_shown, done_elements, parens_shown, tail_shown, tail_free, heads_shown, context_with, context_shown}

-- ---- parts of a context

pub nil-heads : (hs : List derived.Head) → is_nil (heads_shown hs) ≡ derived.is_nil hs
nil-heads [] = refl
nil-heads (h ∷ hs) = refl

pub some-sign : (s : Option PrefixSign) → is_some (sign_shown s) ≡ derived.is_some s
some-sign None = refl
some-sign (Some s) = refl

pub first-shown : (c : derived.Context) (free : List Span) (at : Tail) → ending.is_first (context_with c free at) ≡ derived.is_first c
first-shown c free at = go c.operations c.sign where
  go : (os : List derived.Operation) (s : Option PrefixSign)
      → (is_nil (operations_shown os) && is_none (sign_shown s)) ≡ (derived.is_nil os && derived.is_none s)
  go [] None = refl
  go [] (Some s) = refl
  go (o ∷ os) s = refl

pub begin-shown : (s : derived.Tail) → frames.is_begin (tail_shown s) ≡ derived.is_begin s
begin-shown derived.Begin = refl
begin-shown _ = refl

-- a head can stand where the operand is read
pub head-shown : (c : derived.Context) (free : List Span) (at : Tail) → ending.may_head (context_with c free at) ≡ derived.may_head c
head-shown c free at = ap (λ b. b && derived.is_expr_limit c.limit) (first-shown c free at)

-- an operand can begin behind this newline
pub stand-shown : (c : derived.Context) (before : Newline) → frames.may_stand (context_shown c) before ≡ derived.may_stand c before
stand-shown c before =
    ap (λ b. b && (not (derived.is_param_limit c.limit) && (ending.is_first (context_shown c) || (is_some (sign_shown c.sign) || is_near before)))) (begin-shown c.tail)
    ∙ ap (λ b. derived.is_begin c.tail && (not (derived.is_param_limit c.limit) && (b || (is_some (sign_shown c.sign) || is_near before)))) (first-shown c (tail_free c.tail) (tail_shown c.tail))
    ∙ ap (λ b. derived.is_begin c.tail && (not (derived.is_param_limit c.limit) && (derived.is_first c || (b || is_near before)))) (some-sign c.sign)

-- ---- types inside

some-type : (hs : List types.Head) (o : Option SimpleType) → types.is_some o ≡ derived.is_some (derived.type_read [] hs o)
some-type hs None = refl
some-type hs (Some simple) = refl

pub type-whole : (t : types.State) → is_type (type_shown.shown t) ≡ derived.is_some (derived.type_of t)
type-whole t = go t.frames where
  go : (fs : List types.Frame)
      → (is_nil (map type_shown.frame_shown fs) && type_spec.is_whole (type_shown.tail_shown t.tail)) ≡ derived.is_some (derived.type_read fs t.heads (types.simple_of t.tail))
  go [] = type_moves.whole-same t.tail ∙ some-type t.heads (types.simple_of t.tail)
  go (f ∷ fs) = refl

pub type-dotted : (t : types.State) → is_type_and_dot (type_shown.shown t) ≡ derived.is_some (derived.dotted_of t)
type-dotted t = go t.frames t.tail where
  go : (fs : List types.Frame) (s : types.Tail)
      → (is_nil (map type_shown.frame_shown fs) && type_spec.is_dot (type_shown.tail_shown s)) ≡ derived.is_some (derived.dotted_read fs t.heads s)
  go [] (types.AtDot path d) = refl
  go [] _ = refl
  go (f ∷ fs) s = refl

-- ---- what ends at a tail

few : (xs : List Element) (a b c d : Element) → nat_le (length ((((xs ++ a ∷ []) ++ b ∷ []) ++ c ∷ []) ++ d ∷ [])) 3 ≡ false
few xs a b c d =
    let one = length-append (((xs ++ a ∷ []) ++ b ∷ []) ++ c ∷ []) (d ∷ []) in
    let two = length-append ((xs ++ a ∷ []) ++ b ∷ []) (c ∷ []) in
    let three = length-append (xs ++ a ∷ []) (b ∷ []) in
    let four = length-append xs (a ∷ []) in
    grind (arith, nat_tests, one, two, three, four)

pub parens-shown : (o c : Place) (parens : derived.Parens) → nat_le (length (parens_shown parens)) 3 ≡ derived.is_some (derived.parens_prim o parens c)
parens-shown o c derived.NoElements = refl
parens-shown o c (derived.Elements [] e) = refl
parens-shown o c (derived.Elements (d ∷ []) e) = refl
parens-shown o c (derived.Elements (d ∷ a ∷ []) e) = refl
parens-shown o c (derived.Elements (d ∷ a ∷ b ∷ done) e) =
    few (done_elements done) (element_shown b.element) (element_shown a.element) (element_shown d.element) (element_shown e)

-- an operator, `:` or `match` can follow
pub operand-some : (s : derived.Tail) → tails.is_operand (tail_shown s) ≡ derived.is_some (derived.operand_at s)
operand-some (derived.AtGroup o parens c h) = parens-shown o c parens
operand-some _ = refl

new-whole : (word : Place) (o : Option derived.Dotted) (p : Option WrittenType) → (derived.is_some p || derived.is_some o) ≡ derived.is_some (derived.dotted_prim word o p)
new-whole word (Some d) None = refl
new-whole word (Some d) (Some type) = refl
new-whole word None None = refl
new-whole word None (Some type) = refl

typed-some : (of : derived.TypedOf) (point : Place) (o : Option WrittenType) → derived.is_some o ≡ derived.is_some (derived.typed_expr of point o)
typed-some of point None = refl
typed-some of point (Some type) = refl

chain-some : (os : List derived.Operation) (s : Option PrefixSign) (o : Option Prim) → derived.is_some o ≡ derived.is_some (derived.infix_expr (derived.chain_of os s o))
chain-some os s None = refl
chain-some os s (Some prim) = refl

pub or-false : (b : Bool) → (b || false) ≡ b
or-false true = refl
or-false false = refl

-- the innermost expression can end
pub whole-shown : (c : derived.Context) → tails.is_whole (tail_shown c.tail) ≡ derived.is_some (derived.innermost c)
whole-shown c = go c.tail where
  go : (s : derived.Tail) → tails.is_whole (tail_shown s) ≡ derived.is_some (derived.innermost_at s (derived.chain_of c.operations c.sign (derived.prim_at s)))
  go (derived.InTyped of point t) = type-whole t ∙ typed-some of point (derived.type_of t)
  go (derived.InNew word t) =
      ap (λ b. b || is_type_and_dot (type_shown.shown t)) (type-whole t) ∙ ap (λ b. derived.is_some (derived.type_of t) || b) (type-dotted t)
      ∙ new-whole word (derived.dotted_of t) (derived.type_of t) ∙ chain-some c.operations c.sign (derived.dotted_prim word (derived.dotted_of t) (derived.type_of t))
  go (derived.AtGroup o parens p h) =
      or-false (nat_le (length (parens_shown parens)) 3) ∙ parens-shown o p parens ∙ chain-some c.operations c.sign (derived.parens_prim o parens p)
  go _ = refl

waits-rest : (h : derived.Head) (hs : List derived.Head) → derived.waits (h ∷ hs) ≡ false → derived.waits hs ≡ false
waits-rest (derived.DoHead word) hs w = cc
waits-rest _ hs w = w

headed-one : (h : derived.Head) (hs : List derived.Head) (e : Expr) → derived.waits (h ∷ hs) ≡ false → derived.is_some (derived.headed h e) ≡ true
headed-one (derived.DoHead word) hs e w = cc
headed-one _ hs e w = refl

pub headed-some : (hs : List derived.Head) (o : Option Expr) → derived.waits hs ≡ false → derived.is_some (derived.headed_all hs o) ≡ derived.is_some o
headed-some [] None w = refl
headed-some [] (Some e) w = refl
headed-some (h ∷ hs) None w = refl
headed-some (h ∷ hs) (Some e) w = headed-some hs (derived.headed h e) (waits-rest h hs w) ∙ headed-one h hs e w

pub and-false : (b : Bool) → (b && false) ≡ false
and-false true = refl
and-false false = refl

pub and-true : (b : Bool) → (b && true) ≡ b
and-true true = refl
and-true false = refl

-- an expression can end
pub expr-shown : (c : derived.Context) → ending.is_expr (context_shown c) ≡ derived.is_some (derived.ended_expr c)
expr-shown c =
    ap (λ b. tails.is_whole (tail_shown c.tail) && not b) (waits-shown c.heads) ∙ ap (λ b. b && not (derived.waits c.heads)) (whole-shown c)
    ∙ go (derived.waits c.heads) refl
  where
    go : (w : Bool) → derived.waits c.heads ≡ w
        → (derived.is_some (derived.innermost c) && not w) ≡ derived.is_some (if w then None else derived.headed_all c.heads (derived.innermost c))
    go true e = and-false (derived.is_some (derived.innermost c))
    go false e = and-true (derived.is_some (derived.innermost c)) ∙ sym (headed-some c.heads (derived.innermost c) e)
