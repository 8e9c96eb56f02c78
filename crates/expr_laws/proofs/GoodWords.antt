-- Words, `:`, `=`, `=>` and `;` lead from good contexts to good contexts.
use Rattle.std.proofs.Common.{◌≡◌, Bool, true, false, ◌&&◌, ◌||◌, if◌then◌else◌, List, [], ◌∷◌, ◌++◌, Option, Some, None, refl, ap, sym, ◌∙◌, subst}
use Rattle.std.specs.Prelude.{not}
use Rattle.scan_tokens.specs.declared.tokens.Newline.{Newline}
use Rattle.scan_tokens.specs.declared.tokens.Newline.TheVariants.{No}
use Rattle.source_grammar.specs.Brackets.{has_newline}
use Rattle.source_grammar.specs.Definitions.{Listed}
use Rattle.source_grammar.specs.Expressions.{LPar, LamHead, NamedHead, WildHead, LParHead, PrefixSign, Expr, Lambda, TryAlone, TryFinally, TryCatchFinally, ForRound, ForCurly, ThrowOf, AssignName, AssignSelect, AssignApply, Infix, Prim, SelectPrim, ApplyPrim}
use Rattle.source_grammar.specs.ExpressionRules.{Rule, takes_else, takes_catch, takes_finally, takes_operand}
use Rattle.source_grammar.specs.ExpressionRules as rules
use Rattle.source_grammar.specs.ExpressionTokens.{head_tokens, args_tokens}
use Rattle.source_grammar.specs.Lexemes.{Place, Lexeme, word_at, Arrow, arrow_token, dot, equals, id_token}
use Rattle.source_grammar.specs.Newlines.{newline_before}
use Rattle.parse_patterns.specs.Steps.{is_no}
use Rattle.parse_patterns.proofs.Derived.{when}
use Rattle.expr_tails.specs.declared.states.Limit.{Limit}
use Rattle.expr_tails.specs.declared.symbols.Word.{Word}
use Rattle.expr_tails.specs.declared.symbols.Word.TheVariants as word
use Rattle.expr_tails.specs.Symbols.{symbol_of, begins_expr}
use Rattle.expr_laws.proofs.Behind.{both, or-true}
use Rattle.expr_laws.proofs.Derived.{Operation, OfName, OfWild, OfChain, IfAsker, WhileAsker, ForAsker, Tail, Begin, AtSign, AtName, AtWild, AtGroup, AtPrim, AtCall, AtSuper, InNew, InTyped, AtMatch, AtReturn, AtAsker, AtUntil, AtCatch, AtCaught, AtSemi, AtGuardSemi, Head, Of, DoHead, Context, Before, Tried, Frame, head_at, head_over, params_of, chain_at, innermost, operand_at, is_nil, is_none, is_first, is_expr_limit, is_guard_limit, is_param_limit, may_stand, may_head, may_begin, waits, at, with_head, only_heads, type_begun, typed_chain, operand_chain, typed_from, on_colon, matched, equals_at, lambda, yielding, begun_with, before_word, one_of, behind_else, tried, done, with_heads, on_else, caught, finished, on_finally, until_at, on_until, prim_word, is_prim_word, begins, taken, in_gens, semi_behind, guard_semi, semi_at, on_semicolon}
use Rattle.expr_laws.proofs.Derived as derived
use Rattle.expr_laws.proofs.Fitting.{IsFresh, Fits}
use Rattle.expr_laws.proofs.Good.{JoinedIf, tail_front, is_return, rests_at, GoodTail, GoodHeads, GoodContext}
use Rattle.expr_laws.proofs.GoodDecided.{ReadyAt, joined-none, fresh-level}
use Rattle.expr_laws.proofs.GoodNames.{near-first, Rested, AllRested, rest-none, rest-some, rest-if, rest-when, rest-at, Stands, begun-level}
use Rattle.expr_laws.proofs.GoodPrims.{prim-append, alone-joined, is_at_return, is_at_caught, GoodExpr, operand-chain, innermost-good, alone-level}
use Rattle.expr_laws.proofs.GoodTypes.{begun-type}
use Rattle.expr_laws.proofs.HeadsGood.{GoodTried, else-good, tried-good, done-good}
use Rattle.expr_laws.proofs.Lasting.{and-left, head-first}
use Rattle.expr_laws.proofs.Naming.{operand-prim}
use Rattle.expr_laws.proofs.Seen.{word_text}
use Rattle.expr_laws.proofs.Taking.{none-tried}

-- ---- tests

fresh-first : (os : List Operation) (s : Option PrefixSign) → IsFresh os s → (is_nil os && is_none s) ≡ true
fresh-first os s f = ap (λ k. is_nil k && is_none s) f.operations ∙ ap is_none f.sign

fresh-rests : (hs : List Head) (os : List Operation) (s : Option PrefixSign) → IsFresh os s → is_return hs ≡ false → (is_none s && (not (is_return hs) || not (is_nil os))) ≡ true
fresh-rests hs os s f r = ap (λ k. is_none k && (not (is_return hs) || not (is_nil os))) f.sign ∙ ap (λ b. not b || not (is_nil os)) r

-- a head of a lambda begins as its tail does
lambda-front : (s : Tail) (h : LamHead) (ys : List Lexeme) → head_at s ≡ Some h → newline_before (head_tokens h ++ ys) ≡ newline_before (tail_front s)
lambda-front s h ys e = go s e where
  by : (x : LamHead) → Some x ≡ Some h → newline_before (head_tokens h ++ ys) ≡ newline_before (head_tokens x ++ ys)
  by x f = (let same : x ≡ h = cc in ap (λ k. newline_before (head_tokens k ++ ys)) (sym same))

  over : (o k : Place) (v : Option (Listed LPar)) → head_over o k v ≡ Some h → newline_before (head_tokens h ++ ys) ≡ o.before
  over o k None f = cc
  over o k (Some lpars) f = by (LParHead o lpars k) f

  if-over : (b : Bool) (o k : Place) (v : Option (Listed LPar)) → (if b then head_over o k v else None) ≡ Some h → newline_before (head_tokens h ++ ys) ≡ o.before
  if-over true o k v f = over o k v f
  if-over false o k v f = cc

  go : (t : Tail) → head_at t ≡ Some h → newline_before (head_tokens h ++ ys) ≡ newline_before (tail_front t)
  go (AtSign id) f = by (NamedHead id) f
  go (AtName id is_sign) f = by (NamedHead id) f
  go (AtWild place) f = by (WildHead place) f
  go (AtGroup o parens k head) f = if-over head o k (params_of parens) f
  go _ f = cc

-- behind `return` without an operand a word that begins one stands behind a newline
pub apart-word : (n : Newline) (b : Bool) → b ≡ true → (is_no n && b) ≡ false → has_newline n ≡ true
apart-word n b t e = go n (ap (λ k. is_no n && k) (sym t) ∙ e) where
  go : (m : Newline) → (is_no m && true) ≡ false → has_newline m ≡ true
  go No f = cc
  go _ f = refl

module _ (rule : Rule) where
  -- ---- heads

  -- behind one head more
  pub head-good : (c : Context) (h : Head) → IsFresh c.operations c.sign → GoodHeads rule (h ∷ c.heads) → is_return (h ∷ c.heads) ≡ false → AllRested rule (Some (with_head c h))
  head-good c h f g r = rest-some rule (with_head c h) (record {
    good = record { level = fresh-level rule (h ∷ c.heads) c.operations c.sign f g; tail = tt; param = λ e. fresh-first c.operations c.sign f };
    rests = fresh-rests (h ∷ c.heads) c.operations c.sign f r;
  })

  -- with nothing but heads before the tail
  pub only-good : (hs : List Head) (t : Tail) (l : Limit) → GoodHeads rule hs → JoinedIf hs (newline_before (tail_front t)) → GoodTail rule l t → rests_at t (only_heads hs t l) ≡ true
      → AllRested rule (Some (only_heads hs t l))
  only-good hs t l g j k r = rest-some rule (only_heads hs t l) (record {
    good = record { level = record { heads = g; operations = tt; joined = j; near = tt; signed = tt }; tail = k; param = λ e. refl };
    rests = r;
  })

  -- ---- what ends an Infix

  typed-chain-good : (point : Place) (c : Context) (s : Tail) (v : Option Infix) → Fits (at c s) → GoodContext rule (at c s) → operand_chain (at c s) ≡ v → AllRested rule (typed_chain point (at c s) v)
  typed-chain-good point c s None f g e = rest-none rule
  typed-chain-good point c s (Some chain) f g e =
      let ends = operand-chain rule c s (operand_at s) chain (λ d k. operand-prim s d k) f.one_side g e in
      only-good c.heads (InTyped (OfChain chain) point type_begun) c.limit g.level.heads ends.joined ends.chain refl

  typed-good : (point : Place) (first : Bool) (c : Context) (s : Tail) → Fits (at c s) → GoodContext rule (at c s) → AllRested rule (typed_from point first s (at c s))
  typed-good point true c (AtName id is_sign) f g = rest-at rule c (AtName id is_sign) (InTyped (OfName id) point type_begun) g g.level tt refl
  typed-good point true c (AtWild place) f g = rest-at rule c (AtWild place) (InTyped (OfWild place) point type_begun) g g.level tt refl
  typed-good point first c s f g = typed-chain-good point c s (operand_chain (at c s)) f g refl

  pub colon-good : (point : Place) (c : Context) (s : Tail) → Fits (at c s) → GoodContext rule (at c s) → AllRested rule (on_colon point (at c s))
  colon-good point c s f g = rest-if rule (is_expr_limit c.limit || is_param_limit c.limit) _ _ (λ e. typed-good point (is_first (at c s)) c s f g) (λ e. rest-none rule)

  match-good : (p : Place) (c : Context) (s : Tail) (v : Option Infix) → Fits (at c s) → GoodContext rule (at c s) → operand_chain (at c s) ≡ v → AllRested rule (matched p (at c s) v)
  match-good p c s None f g e = rest-none rule
  match-good p c s (Some chain) f g e =
      let ends = operand-chain rule c s (operand_at s) chain (λ d k. operand-prim s d k) f.one_side g e in
      rest-if rule (is_expr_limit c.limit) _ _ (λ k. only-good c.heads (AtMatch chain p) c.limit g.level.heads ends.joined ends.chain refl) (λ k. rest-none rule)

  -- ---- assignments and lambdas

  alone-at : (c : Context) (s : Tail) → IsFresh c.operations c.sign → GoodContext rule (at c s) → JoinedIf c.heads (newline_before (tail_front s))
  alone-at c s f g = alone-joined c.heads c.operations c.sign (newline_before (tail_front s)) f g.level.joined

  equals-at-good : (sign : Place) (c : Context) (s : Tail) → IsFresh c.operations c.sign → GoodContext rule (at c s) → AllRested rule (equals_at sign s (at c s))
  equals-at-good sign c (AtName id is_sign) f g = head-good c (Of (AssignName id sign)) f ((λ body j. tt), alone-at c (AtName id is_sign) f g, g.level.heads) refl
  equals-at-good sign c (AtPrim (SelectPrim prim point id)) f g =
      head-good c (Of (AssignSelect prim point id sign)) f (
        (λ body j. g.tail.0),
        subst (JoinedIf c.heads) ((prim-append prim (dot point ∷ id_token id ∷ [])).before ∙ sym (prim-append prim (dot point ∷ id_token id ∷ equals sign ∷ [])).before)
            (alone-at c (AtPrim (SelectPrim prim point id)) f g),
        g.level.heads,
      ) refl
  equals-at-good sign c (AtCall prim args) f g =
      head-good c (Of (AssignApply prim args sign)) f
      ((λ body j. g.tail), subst (JoinedIf c.heads) (sym ((prim-append (ApplyPrim prim args) (equals sign ∷ [])).before ∙ (prim-append prim (args_tokens args)).before)) (alone-at c (AtCall prim args) f g), g.level.heads) refl
  equals-at-good sign c _ f g = rest-none rule

  pub equals-good : (sign : Place) (c : Context) (s : Tail) → GoodContext rule (at c s) → AllRested rule (if may_head (at c s) then equals_at sign s (at c s) else None)
  equals-good sign c s g = rest-if rule (may_head (at c s)) _ _ (λ e. equals-at-good sign c s (head-first (at c s) e) g) (λ e. rest-none rule)

  lambda-at-good : (arrow : Arrow) (c : Context) (s : Tail) (v : Option LamHead) → head_at s ≡ v → IsFresh c.operations c.sign → GoodContext rule (at c s) → AllRested rule (lambda arrow (at c s) v)
  lambda-at-good arrow c s None e f g = rest-none rule
  lambda-at-good arrow c s (Some h) e f g =
      head-good c (Of (Lambda h arrow)) f ((λ body j. tt), subst (JoinedIf c.heads) (sym (lambda-front s h (arrow_token arrow ∷ []) e)) (alone-at c s f g), g.level.heads) refl

  pub lambda-good : (arrow : Arrow) (c : Context) (s : Tail) → GoodContext rule (at c s) → AllRested rule (if may_head (at c s) then lambda arrow (at c s) (head_at s) else None)
  lambda-good arrow c s g = rest-if rule (may_head (at c s)) _ _ (λ e. lambda-at-good arrow c s (head_at s) refl (head-first (at c s) e) g) (λ e. rest-none rule)

  -- ---- words that begin

  yielding-good : (place : Place) (hs : List Head) (c : Context) → GoodHeads rule hs → AllRested rule (yielding place hs c)
  yielding-good place (Of (ForRound w o enums k None) ∷ hs) c g =
      only-good (Of (ForRound w o enums k (Some place)) ∷ hs) Begin c.limit ((λ body j. g.0 body tt), g.1, g.2) tt tt refl
  yielding-good place (Of (ForCurly w o enums k None) ∷ hs) c g =
      only-good (Of (ForCurly w o enums k (Some place)) ∷ hs) Begin c.limit ((λ body j. g.0 body tt), g.1, g.2) tt tt refl
  yielding-good place _ c g = rest-none rule

  word-level : (c : Context) (s : Tail) (x : Lexeme) → may_begin (at c s) ≡ true → GoodContext rule (at c s) → ReadyAt s (at c s) x → Stands rule c x
  word-level c Begin x m g r = record {
    heads = g.level.heads;
    operations = g.level.operations;
    joined = r.0;
    near = near-first c.operations c.sign _ (and-left (is_first c) (is_expr_limit c.limit) (both (may_stand (at c Begin) No) (may_head (at c Begin)) m).1);
    signed = r.1;
  }
  word-level c _ x m g r = cc

  begun-good : (w : Word) (p : Place) (c : Context) (s : Tail) → IsFresh c.operations c.sign → JoinedIf c.heads p.before → GoodContext rule (at c s) → Stands rule c (word_at (word_text w) p)
      → AllRested rule (begun_with w p (at c s))
  begun-good word.If p c s f j g l = rest-at rule c s (AtAsker IfAsker p) g l tt refl
  begun-good word.While p c s f j g l = rest-at rule c s (AtAsker WhileAsker p) g l tt refl
  begun-good word.For p c s f j g l = rest-at rule c s (AtAsker ForAsker p) g l tt refl
  begun-good word.Return p c s f j g l = rest-at rule c s (AtReturn p) g l tt refl
  begun-good word.Do p c s f j g l = head-good c (DoHead p) f (tt, j, l.heads) refl
  begun-good word.Try p c s f j g l = head-good c (Of (TryAlone p)) f ((λ body k. tt), j, l.heads) refl
  begun-good word.Throw p c s f j g l = head-good c (Of (ThrowOf p)) f ((λ body k. tt), j, l.heads) refl
  begun-good _ p c s f j g l = rest-none rule

  prim-word-good : (w : Word) (p : Place) (c : Context) (s : Tail) → GoodContext rule (at c s) → Stands rule c (word_at (word_text w) p) → Rested rule (at c (prim_word w p))
  prim-word-good word.Super p c s g l = record { good = record { level = l; tail = tt; param = g.param }; rests = refl }
  prim-word-good word.New p c s g l = record { good = record { level = l; tail = begun-type c.limit; param = g.param }; rests = refl }
  prim-word-good _ p c s g l = record { good = record { level = l; tail = (tt, refl); param = g.param }; rests = refl }

  other-word-good : (w : Word) (p : Place) (c : Context) (s : Tail) → GoodContext rule (at c s) → ReadyAt s (at c s) (word_at (word_text w) p)
      → AllRested rule (if is_prim_word w then when (may_stand (at c s) p.before) (at (at c s) (prim_word w p)) else begins w p (at c s))
  other-word-good w p c s g r =
      let x : Lexeme = word_at (word_text w) p in
      rest-if rule (is_prim_word w) _ _ (λ e. rest-when rule (may_stand (at c s) p.before) _ (λ m. prim-word-good w p c s g (begun-level rule c s x m g r)))
      (λ e. rest-if rule (may_begin (at c s)) _ _
      (λ m.
      let f = head-first (at c s) (both (may_stand (at c s) No) (may_head (at c s)) m).1 in
      let l = word-level c s x m g r in
      begun-good w p c s f (alone-joined c.heads c.operations c.sign p.before f l.joined) g l)
      (λ m. rest-none rule))

  pub word-good : (w : Word) (p : Place) (c : Context) (s : Tail) → Fits (at c s) → GoodContext rule (at c s) → ReadyAt s (at c s) (word_at (word_text w) p) → AllRested rule (derived.word_at w p (at c s))
  word-good word.Match p c s f g r = match-good p c s (operand_chain (at c s)) f g refl
  word-good word.Yield p c s f g r = rest-if rule (may_begin (at c s)) _ _ (λ e. yielding-good p c.heads (at c s) g.level.heads) (λ e. rest-none rule)
  word-good w p c s f g r = other-word-good w p c s g r

  -- ---- words that a head takes

  record BeforeWord (hs : List Head) (s : Tail) (b : Before) : Type 0 where
    good : GoodExpr rule hs b.expr
    no_else : takes_else b.expr ≡ false
    apart : (until : Place) → (is_at_return s ≡ true → has_newline until.before ≡ true) → (not (takes_operand b.expr) || rules.is_apart b.seps until) ≡ true

  ended-before : (c : Context) (s : Tail) (b : Before) → Fits (at c s) → GoodContext rule (at c s) → derived.ended_before (innermost (at c s)) ≡ Some b → BeforeWord c.heads s b
  ended-before c s b f g e = go (innermost (at c s)) refl e where
    go : (o : Option Expr) → innermost (at c s) ≡ o → derived.ended_before o ≡ Some b → BeforeWord c.heads s b
    go None was h = cc
    go (Some x) was h =
        let inner = innermost-good rule c s x f g was in
        let same : record { expr = x; seps = [] } ≡ b = cc in
        subst (BeforeWord c.heads s) same (record {
          good = inner.good;
          no_else = inner.inner.no_else;
          apart = λ until k. ap (λ t. not t || has_newline until.before) inner.inner.operand ∙ newline (is_at_return s) until k;
        })
      where
        newline : (t : Bool) (until : Place) → (t ≡ true → has_newline until.before ≡ true) → (not t || has_newline until.before) ≡ true
        newline true until k = k refl
        newline false until k = refl

  before-good : (c : Context) (s : Tail) (b : Before) → Fits (at c s) → GoodContext rule (at c s) → before_word s (at c s) ≡ Some b → BeforeWord c.heads s b
  before-good c (AtSemi x p ps) b f g e =
      let same : record { expr = x; seps = p ∷ ps } ≡ b = cc in
      subst (BeforeWord c.heads (AtSemi x p ps)) same (record {
        good = record { proper = g.tail.0; joined = alone-level rule c (AtSemi x p ps) f refl g };
        no_else = g.tail.1;
        apart = λ until k. or-true (not (takes_operand x));
      })
  before-good c s b f g e = ended-before c s b f g e

  else-word : (p : Place) (c : Context) (s : Tail) (v : Option Before) → before_word s (at c s) ≡ v → Fits (at c s) → GoodContext rule (at c s) → AllRested rule (on_else p (at c s) v)
  else-word p c s None e f g = rest-none rule
  else-word p c s (Some b) e f g = go (behind_else (one_of b.seps) p c.heads (Some b.expr)) refl where
    before : BeforeWord c.heads s b
    before = before-good c s b f g e

    go : (v : Option (List Head)) → behind_else (one_of b.seps) p c.heads (Some b.expr) ≡ v → AllRested rule (with_heads c.limit v)
    go None h = rest-none rule
    go (Some next) h =
        let there = else-good rule (one_of b.seps) p c.heads b.expr next g.level.heads before.good before.no_else h in
        only-good next Begin c.limit there.heads (joined-none next) tt (ap (λ k. not k || false) there.rests)

  record TriedAt (s : Tail) (t : Tried) : Type 0 where
    good : GoodTried rule t
    no_catch : takes_catch t.body ≡ false
    finally : takes_finally t.body ≡ is_at_caught s

  tried-at : (c : Context) (s : Tail) (t : Tried) → Fits (at c s) → GoodContext rule (at c s) → tried c.heads (innermost (at c s)) ≡ Some t → TriedAt s t
  tried-at c s t f g e = go (innermost (at c s)) refl e where
    go : (o : Option Expr) → innermost (at c s) ≡ o → tried c.heads o ≡ Some t → TriedAt s t
    go None was h = absurd (let gone : None ≡ Some t = sym (none-tried c.heads) ∙ h in cc)
    go (Some x) was h =
        let inner = innermost-good rule c s x f g was in
        let there = tried-good rule c.heads x t g.level.heads inner.good inner.inner.no_catch h in
        record { good = there.good; no_catch = there.no_catch; finally = there.finally ∙ inner.inner.finally }

  caught-good : (p : Place) (c : Context) (s : Tail) (v : Option Tried) → tried c.heads (innermost (at c s)) ≡ v → Fits (at c s) → GoodContext rule (at c s) → AllRested rule (caught p c.limit v)
  caught-good p c s None e f g = rest-none rule
  caught-good p c s (Some t) e f g =
      let there = tried-at c s t f g e in
      only-good t.heads (AtCatch t.word t.body p) c.limit there.good.heads there.good.joined (there.good.proper, there.no_catch) refl

  finished-good : (p : Place) (c : Context) (s : Tail) (v : Option Tried) → tried c.heads (innermost (at c s)) ≡ v → is_at_caught s ≡ false → Fits (at c s) → GoodContext rule (at c s)
      → AllRested rule (finished p c.limit v)
  finished-good p c s None e k f g = rest-none rule
  finished-good p c s (Some t) e k f g =
      let there = tried-at c s t f g e in
      only-good (Of (TryFinally t.word t.body p) ∷ t.heads) Begin c.limit ((λ body j. (there.good.proper, there.finally ∙ k)), there.good.joined, there.good.heads) tt tt refl

  finally-good : (p : Place) (c : Context) (s : Tail) → Fits (at c s) → GoodContext rule (at c s) → AllRested rule (on_finally p s (at c s))
  finally-good p c (AtCaught w body catch o cases k) f g =
      only-good (Of (TryCatchFinally w body catch o cases k p) ∷ c.heads) Begin c.limit ((λ d j. g.tail), alone-level rule c (AtCaught w body catch o cases k) f refl g, g.level.heads) tt tt refl
  finally-good p c s f g = finished-good p c s (tried c.heads (innermost (at c s))) refl refl f g

  done-at : (p : Place) (c : Context) (s : Tail) (b : Before) (v : Option Tried) → done c.heads (Some b.expr) ≡ v → BeforeWord c.heads s b → (is_at_return s ≡ true → has_newline p.before ≡ true)
      → GoodContext rule (at c s) → AllRested rule (until_at b.seps p c.limit v)
  done-at p c s b None e w k g = rest-none rule
  done-at p c s b (Some t) e w k g =
      let there = done-good rule c.heads b.expr t g.level.heads w.good e in
      only-good t.heads (AtUntil t.word t.body b.seps p) c.limit there.good.heads there.good.joined
      (there.good.proper, ap (λ x. not x || rules.is_apart b.seps p) there.operand ∙ w.apart p k) refl

  until-word : (p : Place) (c : Context) (s : Tail) (v : Option Before) → before_word s (at c s) ≡ v → Fits (at c s) → GoodContext rule (at c s) → (is_at_return s ≡ true → has_newline p.before ≡ true)
      → AllRested rule (on_until p (at c s) v)
  until-word p c s None e f g k = rest-none rule
  until-word p c s (Some b) e f g k = done-at p c s b (done c.heads (Some b.expr)) refl (before-good c s b f g e) k g

  -- a word with which the operand of a `return` would begin
  pub return-apart : (w : Word) (p : Place) (c : Context) (s : Tail) → begins_expr (symbol_of (word_at (word_text w) p).kind (word_text w)) ≡ true → ReadyAt s (at c s) (word_at (word_text w) p)
      → is_at_return s ≡ true → has_newline p.before ≡ true
  return-apart w p c (AtReturn place) b r e = apart-word p.before _ b r
  return-apart w p c _ b r e = cc

  while-begins : (p : Place) → begins_expr (symbol_of (word_at (word_text word.While) p).kind (word_text word.While)) ≡ true
  unfolding symbol_of
  while-begins p = refl

  pub taken-good : (w : Word) (p : Place) (c : Context) (s : Tail) → Fits (at c s) → GoodContext rule (at c s) → ReadyAt s (at c s) (word_at (word_text w) p) → AllRested rule (taken w p (at c s))
  taken-good word.Else p c s f g r = rest-if rule (derived.takes_else c.heads) _ _ (λ e. else-word p c s (before_word s (at c s)) refl f g) (λ e. rest-none rule)
  taken-good word.Catch p c s f g r = rest-if rule (derived.takes_catch c.heads) _ _ (λ e. caught-good p c s (tried c.heads (innermost (at c s))) refl f g) (λ e. rest-none rule)
  taken-good word.Finally p c s f g r = finally-good p c s f g
  taken-good word.While p c s f g r =
      rest-if rule (waits c.heads) _ _ (λ e. until-word p c s (before_word s (at c s)) refl f g (return-apart word.While p c s (while-begins p) r)) (λ e. rest-none rule)
  taken-good _ p c s f g r = rest-none rule

  -- ---- semicolons

  guard-semi-good : (p : Place) (c : Context) (s : Tail) (v : Option Infix) → chain_at (at c s) ≡ v → Fits (at c s) → GoodContext rule (at c s) → AllRested rule (guard_semi p v)
  guard-semi-good p c s None e f g = rest-none rule
  guard-semi-good p c s (Some test) e f g =
      let ends = operand-chain rule c s (derived.prim_at s) test (λ d k. k) f.one_side g e in
      only-good [] (AtGuardSemi test p []) _ tt tt ends.chain refl

  semi-behind-good : (p : Place) (c : Context) (s : Tail) (v : Option Expr) → innermost (at c s) ≡ v → Fits (at c s) → GoodContext rule (at c s) → AllRested rule (semi_behind p c.limit c.heads v)
  semi-behind-good p c s None e f g = rest-none rule
  semi-behind-good p c s (Some x) e f g =
      let inner = innermost-good rule c s x f g e in
      only-good c.heads (AtSemi x p []) c.limit g.level.heads inner.good.joined (inner.good.proper, inner.inner.no_else) refl

  semi-good : (p : Place) (many : Bool) (c : Context) (s : Tail) → Fits (at c s) → GoodContext rule (at c s) → AllRested rule (semi_at p many s (at c s))
  semi-good p many c (AtSemi x q qs) f g =
      rest-if rule many _ _ (λ m. only-good c.heads (AtSemi x q (qs ++ p ∷ [])) c.limit g.level.heads (alone-level rule c (AtSemi x q qs) f refl g) g.tail refl) (λ m. rest-none rule)
  semi-good p many c (AtGuardSemi test q qs) f g =
      rest-if rule many _ _ (λ m. rest-at rule c (AtGuardSemi test q qs) (AtGuardSemi test q (qs ++ p ∷ [])) g g.level g.tail refl) (λ m. rest-none rule)
  semi-good p many c s f g =
      rest-if rule (is_guard_limit c.limit) _ _ (λ k. guard-semi-good p c s (chain_at (at c s)) refl f g) (λ k. semi-behind-good p c s (innermost (at c s)) refl f g)

  pub semicolon-good : (p : Place) (fs : List Frame) (c : Context) (s : Tail) → Fits (at c s) → GoodContext rule (at c s) → AllRested rule (on_semicolon p fs (at c s))
  semicolon-good p fs c s f g =
      rest-if rule (in_gens fs && not (waits c.heads)) _ _ (λ e. semi-good p true c s f g)
      (λ e. rest-if rule (waits c.heads) _ _ (λ k. semi-good p true c s f g)
      (λ k. rest-if rule (derived.takes_else c.heads) _ _ (λ h. semi-good p false c s f g) (λ h. rest-none rule)))
