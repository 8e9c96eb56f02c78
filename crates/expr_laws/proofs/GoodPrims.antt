-- The operands and operators that end in a good context are a chain of the grammar, and so is the innermost expression.
use Rattle.std.proofs.Common.{◌≡◌, Bool, true, false, ◌&&◌, List, [], ◌∷◌, ◌++◌, Option, Some, None, refl, ap, sym, ◌∙◌, subst}
use Rattle.std.specs.Prelude.{not}
use Rattle.scan_tokens.specs.declared.tokens.Newline.{Newline}
use Rattle.source_grammar.specs.Definitions.{NoType, OfType}
use Rattle.source_grammar.specs.Expressions.{NamedLPar, WildLPar, PrefixSign, Minus, Expr, DoThenWhile, TryCatch, ReturnAlone, InfixExpr, TypedExpr, MatchExpr, Infix, LastPrefix, MorePrefixes, Prim, Placeholder, NamePrim, UnitPrim, ExprInParentheses, PairPrim, TriplePrim, NewOf, SelectHole, ApplyPrim}
use Rattle.source_grammar.specs.ExpressionRules.{Rule, ProperExpr, ProperInfix, ProperPrefix, ProperPrim, takes_else, takes_catch, takes_finally, takes_operand, extends_type, is_hole, begins_with_number, is_minus_of_number}
use Rattle.source_grammar.specs.ExpressionTokens.{expr_tokens, infix_tokens, prefix_tokens, prim_tokens}
use Rattle.source_grammar.specs.Lexemes.{Place, Lexeme, open_round}
use Rattle.source_grammar.specs.Newlines.{newline_before}
use Rattle.source_grammar.specs.Types.{WrittenType}
use Rattle.expr_tails.specs.declared.states.Limit.{Limit}
use Rattle.expr_laws.proofs.Derived.{Item, Operation, Element, ParamElement, ExprElement, Parens, NoElements, Elements, TypedOf, OfName, OfWild, OfChain, Tail, AtSign, AtName, AtWild, AtGroup, AtPrim, AtCall, AtDot, InNew, AtNew, InTyped, AtReturn, AtCaught, AtEnded, Head, Context, Dotted, element_expr, parens_prim, dotted_of, type_of, dotted_prim, prim_at, signed, settled, chain_of, chain_at, typed_infix, typed_expr, infix_expr, innermost_at, receiver_at, at}
use Rattle.expr_laws.proofs.Ended.{chain_over}
use Rattle.expr_laws.proofs.FirstItems.{First, front-newline, prim-first, prefix-first, infix-first}
use Rattle.expr_laws.proofs.Fitting.{AreOneSide, one-chain, IsFresh, stands_alone, has_ended, Fits}
use Rattle.expr_laws.proofs.Good.{JoinedIf, NearIf, SignedIf, is_minus, operations_before, sign_before, tail_front, is_receiver, ProperChain, GoodElement, GoodParens, GoodTypedOf, GoodTail, GoodOperations, GoodLevel, GoodContext}

-- ---- the first token

-- what is asked of a first token is the same of these
pub record SameFront (xs ys : List Lexeme) : Type 0 where
  pub before : newline_before xs ≡ newline_before ys
  pub number : begins_with_number xs ≡ begins_with_number ys

front-here : (xs : List Lexeme) → SameFront xs xs
front-here xs = record { before = refl; number = refl }

pub front-append : {test : _} {is : List Item} (xs ys : List Lexeme) → First test is xs → SameFront (xs ++ ys) xs
front-append xs ys f = record {
  before = front-newline xs ys f;
  number = ap (λ zs. begins_with_number (zs ++ ys)) f.shown ∙ ap begins_with_number (sym f.shown);
}

pub prim-append : (d : Prim) (ys : List Lexeme) → SameFront (prim_tokens d ++ ys) (prim_tokens d)
prim-append d ys = front-append (prim_tokens d) ys (prim-first d)

front-as : (d x : Prim) (xs : List Lexeme) → Some x ≡ Some d → SameFront (prim_tokens x) xs → SameFront (prim_tokens d) xs
front-as d x xs e f = (let same : x ≡ d = cc in subst (λ p. SameFront (prim_tokens p) xs) same f)

parens-front : (o : Place) (parens : Parens) (k : Place) (d : Prim) → parens_prim o parens k ≡ Some d → SameFront (prim_tokens d) (open_round o ∷ [])
parens-front o NoElements k d e = front-as d (UnitPrim o k) _ e (record { before = refl; number = refl })
parens-front o (Elements [] x) k d e = front-as d _ _ e (record { before = refl; number = refl })
parens-front o (Elements (a ∷ []) x) k d e = front-as d _ _ e (record { before = refl; number = refl })
parens-front o (Elements (a ∷ b ∷ []) x) k d e = front-as d _ _ e (record { before = refl; number = refl })
parens-front o (Elements (a ∷ b ∷ c ∷ done) x) k d e = cc

-- the operand begins as its tail does
pub prim-front : (s : Tail) (d : Prim) → prim_at s ≡ Some d → SameFront (prim_tokens d) (tail_front s)
prim-front (AtSign id) d e = front-as d (NamePrim id) _ e (record { before = refl; number = refl })
prim-front (AtName id is_sign) d e = front-as d (NamePrim id) _ e (record { before = refl; number = refl })
prim-front (AtWild place) d e = front-as d (Placeholder place) _ e (record { before = refl; number = refl })
prim-front (AtGroup o parens k head) d e = parens-front o parens k d e
prim-front (AtPrim prim) d e = front-as d prim _ e (front-here (prim_tokens prim))
prim-front (AtCall prim args) d e = front-as d (ApplyPrim prim args) _ e (prim-append prim _)
prim-front (AtDot prim point) d e = front-as d (SelectHole prim point) _ e (prim-append prim _)
prim-front (InNew place t) d e = go (dotted_of t) (type_of t) e where
  go : (o : Option Dotted) (v : Option WrittenType) → dotted_prim place o v ≡ Some d → SameFront (prim_tokens d) (tail_front (InNew place t))
  go (Some x) v f = front-as d (SelectHole (NewOf place x.type) x.point) _ f (record { before = refl; number = refl })
  go None (Some type) f = front-as d (NewOf place type) _ f (record { before = refl; number = refl })
  go None None f = cc
prim-front (AtNew place type) d e = front-as d (NewOf place type) _ e (record { before = refl; number = refl })
prim-front _ d e = cc

-- parentheses are no name, no Hole and no `new`
pub record InParens (d : Prim) : Type 0 where
  pub receives : is_receiver d ≡ true
  pub no_hole : is_hole d ≡ false

parens-as : (d x : Prim) → Some x ≡ Some d → InParens x → InParens d
parens-as d x e p = (let same : x ≡ d = cc in subst InParens same p)

pub parens-plain : (o : Place) (parens : Parens) (k : Place) (d : Prim) → parens_prim o parens k ≡ Some d → InParens d
parens-plain o NoElements k d e = parens-as d (UnitPrim o k) e (record { receives = refl; no_hole = refl })
parens-plain o (Elements [] x) k d e = parens-as d (ExprInParentheses o _ k) e (record { receives = refl; no_hole = refl })
parens-plain o (Elements (a ∷ []) x) k d e = parens-as d (PairPrim o _ _ _ k) e (record { receives = refl; no_hole = refl })
parens-plain o (Elements (a ∷ b ∷ []) x) k d e = parens-as d (TriplePrim o _ _ _ _ _ k) e (record { receives = refl; no_hole = refl })
parens-plain o (Elements (a ∷ b ∷ c ∷ done) x) k d e = cc

-- ---- newlines

pub prefix-newline : (d : Option PrefixSign) (prim : Prim) → newline_before (prefix_tokens (signed d prim)) ≡ sign_before d (newline_before (prim_tokens prim))
prefix-newline None prim = refl
prefix-newline (Some sign) prim = refl

pub settled-newline : (os : List Operation) (d : Infix) → newline_before (infix_tokens (settled os d)) ≡ operations_before os (newline_before (infix_tokens d))
settled-newline [] d = refl
settled-newline (o ∷ os) d =
    settled-newline os (MorePrefixes o.left o.operator d) ∙ ap (operations_before os) (front-newline (prefix_tokens o.left) _ (prefix-first o.left))

-- what stands alone is directly behind the heads
pub alone-joined : (hs : List Head) (os : List Operation) (sign : Option PrefixSign) (n : Newline) → IsFresh os sign → JoinedIf hs (operations_before os (sign_before sign n)) → JoinedIf hs n
alone-joined hs os sign n f j =
    subst (λ s. JoinedIf hs (operations_before [] (sign_before s n))) f.sign (subst (λ ks. JoinedIf hs (operations_before ks (sign_before sign n))) f.operations j)

-- ---- what ended

abbrev pub is_at_return : Tail → Bool
is_at_return (AtReturn place) = true
is_at_return _ = false

abbrev pub is_at_caught : Tail → Bool
is_at_caught (AtCaught place body catch o cases k) = true
is_at_caught _ = false

-- an expression that is no `if` and no `try`
pub record IsInner (s : Tail) (e : Expr) : Type 0 where
  pub no_else : takes_else e ≡ false
  pub no_catch : takes_catch e ≡ false
  pub finally : takes_finally e ≡ is_at_caught s
  pub operand : takes_operand e ≡ is_at_return s

ended-inner : (e : Expr) → has_ended e ≡ true → IsInner (AtEnded e) e
ended-inner (MatchExpr chain place o cases k) h = record { no_else = refl; no_catch = refl; finally = refl; operand = refl }
ended-inner (DoThenWhile place body sep until o test k) h = record { no_else = refl; no_catch = refl; finally = refl; operand = refl }
ended-inner _ h = cc

pub not-new : (d : Prim) → is_receiver d ≡ true → extends_type d ≡ false
not-new (NewOf place type) e = cc
not-new _ e = refl

pub front-then : (xs ys zs : List Lexeme) → SameFront xs ys → SameFront ys zs → SameFront xs zs
front-then xs ys zs f g = record { before = f.before ∙ g.before; number = f.number ∙ g.number }

module _ (rule : Rule) where
  -- ---- operands

  pub level-same : (hs : List Head) (os : List Operation) (sign : Option PrefixSign) (xs ys : List Lexeme) → SameFront xs ys
      → GoodLevel rule hs os sign (newline_before ys) (begins_with_number ys) → GoodLevel rule hs os sign (newline_before xs) (begins_with_number xs)
  level-same hs os sign xs ys f l =
      subst (λ n. GoodLevel rule hs os sign n (begins_with_number xs)) (sym f.before) (subst (GoodLevel rule hs os sign (newline_before ys)) (sym f.number) l)

  pub element-proper : (x : Element) → GoodElement rule x → ProperExpr rule (element_expr x)
  element-proper (ParamElement (NamedLPar id NoType)) g = (tt, refl)
  element-proper (ParamElement (NamedLPar id (OfType p type))) g = (tt, refl)
  element-proper (ParamElement (WildLPar place NoType)) g = (tt, refl)
  element-proper (ParamElement (WildLPar place (OfType p type))) g = (tt, refl)
  element-proper (ExprElement e) g = g

  prim-as : (d x : Prim) → Some x ≡ Some d → ProperPrim rule x → ProperPrim rule d
  prim-as d x e p = (let same : x ≡ d = cc in subst (ProperPrim rule) same p)

  parens-proper : (o : Place) (parens : Parens) (k : Place) (d : Prim) → GoodParens rule parens → parens_prim o parens k ≡ Some d → ProperPrim rule d
  parens-proper o NoElements k d g e = prim-as d (UnitPrim o k) e tt
  parens-proper o (Elements [] x) k d g e = prim-as d _ e (element-proper x g.0)
  parens-proper o (Elements (a ∷ []) x) k d g e = prim-as d _ e (element-proper a.element g.1.0, element-proper x g.0)
  parens-proper o (Elements (a ∷ b ∷ []) x) k d g e = prim-as d _ e (element-proper b.element g.1.1.0, element-proper a.element g.1.0, element-proper x g.0)
  parens-proper o (Elements (a ∷ b ∷ c ∷ done) x) k d g e = cc

  pub prim-proper : (l : Limit) (s : Tail) (d : Prim) → GoodTail rule l s → prim_at s ≡ Some d → ProperPrim rule d
  prim-proper l (AtSign id) d g e = prim-as d (NamePrim id) e tt
  prim-proper l (AtName id is_sign) d g e = prim-as d (NamePrim id) e tt
  prim-proper l (AtWild place) d g e = prim-as d (Placeholder place) e tt
  prim-proper l (AtGroup o parens k head) d g e = parens-proper o parens k d g e
  prim-proper l (AtPrim prim) d g e = prim-as d prim e g.0
  prim-proper l (AtCall prim args) d g e = prim-as d (ApplyPrim prim args) e g
  prim-proper l (AtDot prim point) d g e = prim-as d (SelectHole prim point) e g.0
  prim-proper l (InNew place t) d g e = go (dotted_of t) (type_of t) e where
    go : (o : Option Dotted) (v : Option WrittenType) → dotted_prim place o v ≡ Some d → ProperPrim rule d
    go (Some x) v f = prim-as d (SelectHole (NewOf place x.type) x.point) f tt
    go None (Some type) f = prim-as d (NewOf place type) f tt
    go None None f = cc
  prim-proper l (AtNew place type) d g e = prim-as d (NewOf place type) e tt
  prim-proper l _ d g e = cc

  pub record Receiver (d : Prim) : Type 0 where
    pub proper : ProperPrim rule d
    pub receives : is_receiver d ≡ true

  receiver-as : (d x : Prim) → Some x ≡ Some d → Receiver x → Receiver d
  receiver-as d x e r = (let same : x ≡ d = cc in subst Receiver same r)

  pub receiver-good : (l : Limit) (s : Tail) (d : Prim) → GoodTail rule l s → receiver_at s ≡ Some d → Receiver d
  receiver-good l (AtName id false) d g e = receiver-as d (NamePrim id) e (record { proper = tt; receives = ap not (g refl) })
  receiver-good l (AtWild place) d g e = receiver-as d (Placeholder place) e (record { proper = tt; receives = refl })
  receiver-good l (AtGroup o parens k head) d g e = record { proper = parens-proper o parens k d g e; receives = (parens-plain o parens k d e).receives }
  receiver-good l (AtPrim prim) d g e = receiver-as d prim e (record { proper = g.0; receives = g.1 })
  receiver-good l (AtCall prim args) d g e = receiver-as d (ApplyPrim prim args) e (record { proper = g; receives = refl })
  receiver-good l _ d g e = cc

  -- ---- chains

  settled-proper : (os : List Operation) (d : Infix) → GoodOperations rule os → ProperInfix rule d → NearIf os (newline_before (infix_tokens d)) → ProperInfix rule (settled os d)
  settled-proper [] d g p n = p
  settled-proper (o ∷ os) d g p n =
      settled-proper os (MorePrefixes o.left o.operator d) g.1 (g.0.proper, g.0.before, g.0.joined, n, p)
      (subst (NearIf os) (sym (front-newline (prefix_tokens o.left) _ (prefix-first o.left))) g.0.near)

  pub signed-proper : (sign : Option PrefixSign) (d : Prim) → ProperPrim rule d → SignedIf sign (newline_before (prim_tokens d)) (begins_with_number (prim_tokens d)) → ProperPrefix rule (signed sign d)
  signed-proper None d p k = p
  signed-proper (Some sign) d p k = (p, k.0, minus sign k.1) where
    minus : (s : PrefixSign) → (is_minus s && begins_with_number (prim_tokens d)) ≡ false → is_minus_of_number s (prim_tokens d) ≡ false
    minus (Minus place) e = e
    minus _ e = refl

  -- a chain that ends in a context, where these heads stand before it
  pub record GoodChain (hs : List Head) (d : Infix) : Type 0 where
    pub chain : ProperChain rule d
    pub joined : JoinedIf hs (newline_before (infix_tokens d))

  chain-over : (hs : List Head) (os : List Operation) (sign : Option PrefixSign) (d : Prim) → AreOneSide os → GoodLevel rule hs os sign (newline_before (prim_tokens d)) (begins_with_number (prim_tokens d))
      → ProperPrim rule d → GoodChain hs (chain_over os sign d)
  chain-over hs os sign d one l p =
      let n = prefix-newline sign d in
      record {
        chain = record {
          proper = settled-proper os (LastPrefix (signed sign d)) l.operations (signed-proper sign d p l.signed) (subst (NearIf os) (sym n) l.near);
          one_side = one-chain os sign d one;
        };
        joined = subst (JoinedIf hs) (sym (settled-newline os (LastPrefix (signed sign d)) ∙ ap (operations_before os) n)) l.joined;
      }

  -- the operand that ends at the tail, with what stands before it
  pub operand-chain : (c : Context) (s : Tail) (v : Option Prim) (chain : Infix) → ((d : Prim) → v ≡ Some d → prim_at s ≡ Some d) → AreOneSide c.operations → GoodContext rule (at c s)
      → chain_of c.operations c.sign v ≡ Some chain → GoodChain c.heads chain
  operand-chain c s None chain there one g e = cc
  operand-chain c s (Some d) chain there one g e =
      let same : chain_over c.operations c.sign d ≡ chain = cc in
      let is = there d refl in
      subst (GoodChain c.heads) same
      (chain-over c.heads c.operations c.sign d one (level-same c.heads c.operations c.sign (prim_tokens d) (tail_front s) (prim-front s d is) g.level) (prim-proper c.limit s d g.tail is))

  -- ---- the innermost expression

  -- an expression behind these heads
  pub record GoodExpr (hs : List Head) (e : Expr) : Type 0 where
    pub proper : ProperExpr rule e
    pub joined : JoinedIf hs (newline_before (expr_tokens e))

  pub record Inner (hs : List Head) (s : Tail) (e : Expr) : Type 0 where
    pub good : GoodExpr hs e
    pub inner : IsInner s e

  inner-as : (hs : List Head) (s : Tail) (e x : Expr) → Some x ≡ Some e → Inner hs s x → Inner hs s e
  inner-as hs s e x f i = (let same : x ≡ e = cc in subst (Inner hs s) same i)

  typed-chain : (of : TypedOf) → GoodTypedOf rule of → ProperChain rule (typed_infix of)
  typed-chain (OfName id) g = record { proper = tt; one_side = refl }
  typed-chain (OfWild place) g = record { proper = tt; one_side = refl }
  typed-chain (OfChain chain) g = g

  pub alone-level : (c : Context) (s : Tail) → Fits (at c s) → stands_alone s ≡ true → GoodContext rule (at c s) → JoinedIf c.heads (newline_before (tail_front s))
  alone-level c s f a g = alone-joined c.heads c.operations c.sign (newline_before (tail_front s)) (f.alone a) g.level.joined

  chain-inner : (c : Context) (s : Tail) (e : Expr) → Fits (at c s) → GoodContext rule (at c s) → is_at_return s ≡ false → is_at_caught s ≡ false
      → infix_expr (chain_at (at c s)) ≡ Some e → Inner c.heads s e
  chain-inner c s e f g r k h = go (chain_at (at c s)) refl h where
    go : (o : Option Infix) → chain_at (at c s) ≡ o → infix_expr o ≡ Some e → Inner c.heads s e
    go None was i = cc
    go (Some chain) was i =
        let ends = operand-chain c s (prim_at s) chain (λ d there. there) f.one_side g was in
        inner-as c.heads s e (InfixExpr chain) i (record {
          good = record { proper = (ends.chain.proper, ends.chain.one_side); joined = ends.joined };
          inner = record { no_else = refl; no_catch = refl; finally = sym k; operand = sym r };
        })

  pub innermost-good : (c : Context) (s : Tail) (e : Expr) → Fits (at c s) → GoodContext rule (at c s) → innermost_at s (chain_at (at c s)) ≡ Some e → Inner c.heads s e
  innermost-good c (InTyped of point t) e f g h = go (type_of t) h where
    go : (v : Option WrittenType) → typed_expr of point v ≡ Some e → Inner c.heads (InTyped of point t) e
    go None i = cc
    go (Some type) i =
        let chain = typed-chain of g.tail in
        inner-as c.heads _ e (TypedExpr (typed_infix of) point type) i (record {
          good = record {
            proper = (chain.proper, chain.one_side);
            joined = subst (JoinedIf c.heads) (sym (front-newline (infix_tokens (typed_infix of)) _ (infix-first (typed_infix of)))) (alone-level c (InTyped of point t) f refl g);
          };
          inner = record { no_else = refl; no_catch = refl; finally = refl; operand = refl };
        })
  innermost-good c (AtReturn place) e f g h = inner-as c.heads _ e (ReturnAlone place) h (record {
    good = record { proper = tt; joined = alone-level c (AtReturn place) f refl g };
    inner = record { no_else = refl; no_catch = refl; finally = refl; operand = refl };
  })
  innermost-good c (AtCaught place body catch o cases k) e f g h = inner-as c.heads _ e (TryCatch place body catch o cases k) h (record {
    good = record { proper = g.tail; joined = alone-level c (AtCaught place body catch o cases k) f refl g };
    inner = record { no_else = refl; no_catch = refl; finally = refl; operand = refl };
  })
  innermost-good c (AtEnded x) e f g h = inner-as c.heads _ e x h (record {
    good = record { proper = g.tail; joined = alone-level c (AtEnded x) f refl g };
    inner = ended-inner x f.tail;
  })
  innermost-good c s e f g h = chain-inner c s e f g refl refl h
