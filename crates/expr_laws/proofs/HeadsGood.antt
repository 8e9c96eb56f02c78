-- The heads before an expression make one of the grammar with it, and so do those that a word takes.
use Rattle.std.proofs.Common.{◌≡◌, Bool, true, false, if◌then◌else◌, List, [], ◌∷◌, Option, Some, None, refl, ap, sym, ◌∙◌, subst}
use Rattle.scan_tokens.specs.declared.tokens.Newline.{Newline}
use Rattle.source_grammar.specs.Expressions.{Expr, Headed, Heading, IfThen, IfElse, TryAlone, ReturnOf}
use Rattle.source_grammar.specs.ExpressionRules.{Rule, ProperExpr, takes_else, takes_catch, takes_finally, takes_operand}
use Rattle.source_grammar.specs.ExpressionTokens.{expr_tokens, heading_tokens}
use Rattle.source_grammar.specs.Lexemes.{Place}
use Rattle.source_grammar.specs.Newlines.{newline_before}
use Rattle.expr_laws.proofs.Derived.{Head, Of, DoHead, Context, Tried, headed_all, innermost, waits, behind_else, tried, done, expr_at, ended_expr}
use Rattle.expr_laws.proofs.FirstItems.{front-newline, heading-first}
use Rattle.expr_laws.proofs.Fitting.{Fits}
use Rattle.expr_laws.proofs.Good.{JoinedIf, is_return, GoodHeads, GoodContext}
use Rattle.expr_laws.proofs.GoodPrims.{GoodExpr, innermost-good, is_at_return}
use Rattle.expr_laws.proofs.Headed.{none-all}
use Rattle.expr_laws.proofs.Taking.{none-tried}

-- ---- what a head leaves open

abbrev pub is_if_then : Heading → Bool
is_if_then (IfThen place o test k) = true
is_if_then _ = false

abbrev pub is_try : Heading → Bool
is_try (TryAlone place) = true
is_try _ = false

heading-else : (h : Heading) (body : Expr) → is_if_then h ≡ false → takes_else (Headed h body) ≡ takes_else body
heading-else (IfThen place o test k) body e = cc
heading-else (TryAlone place) body e = refl
heading-else _ body e = refl

heading-catch : (h : Heading) (body : Expr) → is_try h ≡ false → takes_catch (Headed h body) ≡ takes_catch body
heading-catch (IfThen place o test k) body e = refl
heading-catch (TryAlone place) body e = cc
heading-catch _ body e = refl

heading-finally : (h : Heading) (body : Expr) → is_try h ≡ false → takes_finally (Headed h body) ≡ takes_finally body
heading-finally (IfThen place o test k) body e = refl
heading-finally (TryAlone place) body e = cc
heading-finally _ body e = refl

heading-operand : (h : Heading) (body : Expr) → takes_operand (Headed h body) ≡ takes_operand body
heading-operand (IfThen place o test k) body = refl
heading-operand (TryAlone place) body = refl
heading-operand _ body = refl

all-operand : (hs : List Head) (body e : Expr) → headed_all hs (Some body) ≡ Some e → takes_operand e ≡ takes_operand body
all-operand [] body e k = (let same : body ≡ e = cc in ap takes_operand (sym same))
all-operand (Of h ∷ hs) body e k = all-operand hs (Headed h body) e k ∙ heading-operand h body
all-operand (DoHead place ∷ hs) body e k = (let gone : None ≡ Some e = sym (none-all hs) ∙ k in cc)

own-joined : (h : Heading) (hs : List Head) (n : Newline) → JoinedIf (Of h ∷ hs) n → JoinedIf (Of h ∷ []) n
own-joined (ReturnOf place) hs n j = j
own-joined _ hs n j = tt

module _ (rule : Rule) where
  -- an expression with the head before it
  headed-good : (h : Heading) (hs : List Head) (body : Expr) → GoodHeads rule (Of h ∷ hs) → GoodExpr rule (Of h ∷ hs) body → GoodExpr rule hs (Headed h body)
  headed-good h hs body g b = record {
    proper = (g.0 body (own-joined h hs (newline_before (expr_tokens body)) b.joined), b.proper);
    joined = subst (JoinedIf hs) (sym (front-newline (heading_tokens h) (expr_tokens body) (heading-first h))) g.1;
  }

  all-good : (hs : List Head) (body e : Expr) → GoodHeads rule hs → GoodExpr rule hs body → headed_all hs (Some body) ≡ Some e → ProperExpr rule e
  all-good [] body e g b k = (let same : body ≡ e = cc in subst (ProperExpr rule) same b.proper)
  all-good (Of h ∷ hs) body e g b k = all-good hs (Headed h body) e g.2 (headed-good h hs body g b) k
  all-good (DoHead place ∷ hs) body e g b k = absurd (let gone : None ≡ Some e = sym (none-all hs) ∙ k in cc)

  -- ---- an expression that ends

  pub record Ended (e : Expr) (returns : Bool) : Type 0 where
    pub proper : ProperExpr rule e
    pub operand : takes_operand e ≡ returns

  pub all-ended : (hs : List Head) (o : Option Expr) (e : Expr) (returns : Bool) → GoodHeads rule hs → ((body : Expr) → o ≡ Some body → GoodExpr rule hs body)
      → ((body : Expr) → o ≡ Some body → takes_operand body ≡ returns) → headed_all hs o ≡ Some e → Ended e returns
  all-ended hs None e returns g b r k = absurd (let gone : None ≡ Some e = sym (none-all hs) ∙ k in cc)
  all-ended hs (Some body) e returns g b r k = record { proper = all-good hs body e g (b body refl) k; operand = all-operand hs body e k ∙ r body refl }

  pub expr-good : (c : Context) (e : Expr) → Fits c → GoodContext rule c → expr_at c ≡ Some e → Ended e (is_at_return c.tail)
  expr-good c e f g k =
      all-ended c.heads (innermost c) e (is_at_return c.tail) g.level.heads
      (λ body i. (innermost-good rule c c.tail body f g i).good) (λ body i. (innermost-good rule c c.tail body f g i).inner.operand) k

  pub ended-good : (c : Context) (e : Expr) → Fits c → GoodContext rule c → ended_expr c ≡ Some e → Ended e (is_at_return c.tail)
  ended-good c e f g k = go (waits c.heads) k where
    go : (w : Bool) → (if w then None else expr_at c) ≡ Some e → Ended e (is_at_return c.tail)
    go true h = cc
    go false h = expr-good c e f g h

  -- so what was read is an expression of the grammar
  pub ended-proper : (c : Context) (e : Expr) → Fits c → GoodContext rule c → ended_expr c ≡ Some e → ProperExpr rule e
  ended-proper c e f g k = (ended-good c e f g k).proper

  -- ---- the head that takes a word

  pub record GoodElse (hs : List Head) : Type 0 where
    pub heads : GoodHeads rule hs
    pub rests : is_return hs ≡ false

  pub else-good : (semi : Option (Option Place)) (other : Place) (hs : List Head) (body : Expr) (next : List Head) → GoodHeads rule hs → GoodExpr rule hs body → takes_else body ≡ false
      → behind_else semi other hs (Some body) ≡ Some next → GoodElse next
  else-good semi other [] body next g b n k = cc
  else-good None other (h ∷ hs) body next g b n k = cc
  else-good (Some semi) other (Of (IfThen place o test p) ∷ hs) body next g b n k =
      let same : Of (IfElse place o test p body semi other) ∷ hs ≡ next = cc in
      subst GoodElse same (record { heads = ((λ d j. (g.0 d tt, b.proper, n)), g.1, g.2); rests = refl })
  else-good (Some semi) other (DoHead place ∷ hs) body next g b n k = cc
  else-good (Some semi) other (Of h ∷ hs) body next g b n k =
      else-good (Some semi) other hs (Headed h body) next g.2 (headed-good h hs body g b) (heading-else h body refl ∙ n) k

  -- a `try` or a `do` with what it has before the word
  pub record GoodTried (t : Tried) : Type 0 where
    pub heads : GoodHeads rule t.heads
    pub joined : JoinedIf t.heads t.word.before
    pub proper : ProperExpr rule t.body

  pub record TriedBody (body : Expr) (t : Tried) : Type 0 where
    pub good : GoodTried t
    pub no_catch : takes_catch t.body ≡ false
    pub finally : takes_finally t.body ≡ takes_finally body

  pub tried-good : (hs : List Head) (body : Expr) (t : Tried) → GoodHeads rule hs → GoodExpr rule hs body → takes_catch body ≡ false → tried hs (Some body) ≡ Some t → TriedBody body t
  tried-good [] body t g b n k = cc
  tried-good (Of (TryAlone place) ∷ hs) body t g b n k =
      let same : record { word = place; body = body; heads = hs } ≡ t = cc in
      subst (TriedBody body) same (record { good = record { heads = g.2; joined = g.1; proper = b.proper }; no_catch = n; finally = refl })
  tried-good (DoHead place ∷ hs) body t g b n k = absurd (let gone : None ≡ Some t = sym (none-tried hs) ∙ k in cc)
  tried-good (Of h ∷ hs) body t g b n k =
      let there = tried-good hs (Headed h body) t g.2 (headed-good h hs body g b) (heading-catch h body refl ∙ n) k in
      record { good = there.good; no_catch = there.no_catch; finally = there.finally ∙ heading-finally h body refl }

  pub record DoneBody (body : Expr) (t : Tried) : Type 0 where
    pub good : GoodTried t
    pub operand : takes_operand t.body ≡ takes_operand body

  pub done-good : (hs : List Head) (body : Expr) (t : Tried) → GoodHeads rule hs → GoodExpr rule hs body → done hs (Some body) ≡ Some t → DoneBody body t
  done-good [] body t g b k = cc
  done-good (DoHead place ∷ hs) body t g b k =
      let same : record { word = place; body = body; heads = hs } ≡ t = cc in
      subst (DoneBody body) same (record { good = record { heads = g.2; joined = g.1; proper = b.proper }; operand = refl })
  done-good (Of h ∷ hs) body t g b k =
      let there = done-good hs (Headed h body) t g.2 (headed-good h hs body g b) k in
      record { good = there.good; operand = there.operand ∙ heading-operand h body }
