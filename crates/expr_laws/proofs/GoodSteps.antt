-- Each item leads from a good state to a good state, so what is read is an expression of the grammar.
use Rattle.std.proofs.Common.{◌≡◌, Bool, true, false, ◌&&◌, if◌then◌else◌, List, [], ◌∷◌, Option, Some, None, refl, ap, sym, subst}
use Rattle.reading_machines.specs.Machines.{run, onward}
use Rattle.scan_tokens.specs.declared.tokens.Newline.{Newline}
use Rattle.source_grammar.specs.Expressions.{Expr, IfThen, WhileDo}
use Rattle.source_grammar.specs.ExpressionRules.{Rule, ProperExpr}
use Rattle.source_grammar.specs.Lexemes.{Place, Lexeme, word_at, open_curly}
use Rattle.expr_tails.specs.declared.states.Limit.{Limit}
use Rattle.expr_tails.specs.declared.symbols.Symbol.{Symbol}
use Rattle.expr_tails.specs.declared.symbols.Symbol.TheVariants as symbol
use Rattle.expr_tails.specs.declared.symbols.Word.{Word}
use Rattle.expr_tails.specs.declared.symbols.Word.TheVariants as word
use Rattle.expr_tails.specs.Symbols.{symbol_of, begins_expr}
use Rattle.expr_laws.proofs.Derived.{Item, OneToken, BlockPair, CasesPair, EnumsPair, OtherPair, Of, Tail, AtDot, InNew, InTypes, InTyped, InPattern, Context, Bracket, GroupBracket, ArgsBracket, NewArgsBracket, IfTest, WhileTest, DoTest, GensBracket, Frame, State, type_of, is_some, operand_at, at, fresh, state, in_state, decided_at, in_type, new_type, ended_expr, frame, gen_at, next_generator, begins_pattern, element_at, is_untouched, closed_in, closed_frame, or_else, is_if, on_word, token_at, or_decided, step_token, decided_pair, step_pair, step, begun, moved}
use Rattle.expr_laws.proofs.Derived as derived
use Rattle.expr_laws.proofs.FirstItems.{item_before}
use Rattle.expr_laws.proofs.Fitting.{Fits, is_in_pattern}
use Rattle.expr_laws.proofs.Good.{GoodContext, GoodFrame, GoodFrames, Good, ProperItem, ProperItems}
use Rattle.expr_laws.proofs.GoodDecided.{ReadyAt, Decided, decided-good}
use Rattle.expr_laws.proofs.GoodFrames.{AllGood, good-none, good-some, good-if, frames-same, context-good, fresh-good, parted-good, emptied-good, group-closed, call-closed, new-closed, test-closed, until-closed, opened-good}
use Rattle.expr_laws.proofs.GoodGens.{gens-closed, guarded-good, in-pattern-good, next-good}
use Rattle.expr_laws.proofs.GoodNames.{AllRested, rest-if, id-good, literal-good, number-good, underscore-good, dot-good, square-good, types-good, type-good}
use Rattle.expr_laws.proofs.GoodPairs.{item_front, pair-good}
use Rattle.expr_laws.proofs.GoodWords.{colon-good, equals-good, lambda-good, word-good, return-apart, taken-good, semicolon-good}
use Rattle.expr_laws.proofs.HeadsGood.{ended-proper}
use Rattle.expr_laws.proofs.LastingFrames.{BehindFits, FramesStand, Stands}
use Rattle.expr_laws.proofs.LastingSteps.{decided-stands, pattern-decided, pattern-pair, type-out, step-stands, begun-stands, run-stands}
use Rattle.expr_laws.proofs.Seen.{AColon, AComma, ADot, ALiteral, AnArrow, AnEquals, AnId, ANumber, AnUnderscore, ASemicolon, AWord, ClosesRound, OpensRound, OpensSquare, seen, Seen, shown_token, token-shown, word_text}
use Rattle.expr_laws.proofs.Settling.{none-on}

if-begins : (w : Word) (p : Place) → is_if w ≡ true → begins_expr (symbol_of (word_at (word_text w) p).kind (word_text w)) ≡ true
unfolding symbol_of
if-begins word.If p e = refl
if-begins _ p e = cc

curly-symbol : (o : Place) → symbol_of (open_curly o).kind (open_curly o).word ≡ symbol.OpenCurly
unfolding symbol_of
curly-symbol o = refl

-- no type goes on with braces
curly-out : (l : Limit) (s : Tail) (o : Place) → in_type l s (open_curly o) ≡ None
curly-out l (InNew place t) o = ap (new_type place) (none-on (open_curly o) l t refl)
curly-out l (InTypes prim p done t) o = refl
curly-out l (InTyped of point t) o = refl
curly-out l _ o = refl

module _ (rule : Rule) where
  -- ---- closed brackets

  bracket-closed : (b : Bracket) (p : Place) (c : Context) (s : Tail) (outer : Context) → Fits (at c s) → GoodContext rule (at c s) → GoodFrame rule (frame b outer) s → BehindFits b outer
      → AllRested rule (closed_in b p (at c s) outer)
  bracket-closed (GroupBracket o done head) p c s outer f g k h = group-closed rule o done head (element_at (at c s)) p (at c s) outer refl f g k
  bracket-closed (ArgsBracket prim o done) p c s outer f g k h = call-closed rule prim o done (ended_expr (at c s)) p (at c s) outer refl f g k
  bracket-closed (NewArgsBracket place type o done) p c s outer f g k h = new-closed rule place type o done (ended_expr (at c s)) p (at c s) outer refl f g k
  bracket-closed (IfTest place o) p c s outer f g k h =
      test-closed rule (IfTest place o) (λ test. Of (IfThen place o test p)) (ended_expr (at c s)) (at c s) outer refl f g k h (λ x q body j. q) (λ x. refl) (λ x. refl)
  bracket-closed (WhileTest place o) p c s outer f g k h =
      test-closed rule (WhileTest place o) (λ test. Of (WhileDo place o test p)) (ended_expr (at c s)) (at c s) outer refl f g k h (λ x q body j. q) (λ x. refl) (λ x. refl)
  bracket-closed (DoTest place body sep until o) p c s outer f g k h = until-closed rule place body sep until o p (ended_expr (at c s)) (at c s) outer refl f g k
  bracket-closed (GensBracket place o done part) p c s outer f g k h = gens-closed rule place o p done part c s outer f g k h

  closed-good : (p : Place) (fs : List Frame) (c : Context) (s : Tail) → Fits (at c s) → GoodContext rule (at c s) → FramesStand fs (at c s) → GoodFrames rule fs s → AllGood rule (derived.closed p fs (at c s))
  closed-good p [] c s f g h r = good-none rule
  closed-good p (k ∷ fs) c s f g h r =
      context-good rule fs k.outer (closed_frame p k (at c s)) h.rest h.out r.1
      (rest-if rule (is_untouched (at c s)) _ _ (λ e. emptied-good rule k.bracket p k.outer s r.0) (λ e. bracket-closed k.bracket p c s k.outer f g r.0 h.behind))

  -- ---- one token more

  good-else : (x y : Option State) → AllGood rule x → AllGood rule y → AllGood rule (or_else x y)
  good-else None y p q = q
  good-else (Some s) y p q = p

  rest-else : (x y : Option Context) → AllRested rule x → AllRested rule y → AllRested rule (or_else x y)
  rest-else None y p q = q
  rest-else (Some d) y p q = p

  word-state : (w : Word) (p : Place) (fs : List Frame) (c : Context) (s : Tail) → Fits (at c s) → is_in_pattern s ≡ false → FramesStand fs (at c s) → GoodContext rule (at c s) → GoodFrames rule fs s
      → ReadyAt s (at c s) (word_at (word_text w) p) → AllGood rule (on_word w p fs (at c s))
  word-state w p fs c s f o h g r d =
      good-else (if is_if w then derived.guarded p fs (at c s) else None) (in_state fs (or_else (derived.taken w p (at c s)) (derived.word_at w p (at c s))))
      (good-if rule (is_if w) _ _ (λ e. guarded-good rule p fs c s f g r (return-apart rule w p c s (if-begins w p e) d)) (λ e. good-none rule))
      (context-good rule fs (at c s) _ h o r
      (rest-else (derived.taken w p (at c s)) (derived.word_at w p (at c s)) (taken-good rule w p c s f g d) (word-good rule w p c s f g d)))

  moved-good : (y : Seen) (fs : List Frame) (c : Context) (s : Tail) → Fits (at c s) → is_in_pattern s ≡ false → FramesStand fs (at c s) → GoodContext rule (at c s) → GoodFrames rule fs s
      → ReadyAt s (at c s) (shown_token y) → AllGood rule (moved y fs (at c s))
  moved-good (AnId id) fs c s f o h g r d = context-good rule fs (at c s) _ h o r (id-good rule id c s g d)
  moved-good (ANumber n) fs c s f o h g r d = context-good rule fs (at c s) _ h o r (number-good rule n c s g d)
  moved-good (ALiteral l) fs c s f o h g r d = context-good rule fs (at c s) _ h o r (literal-good rule l c s g d)
  moved-good (AnUnderscore p) fs c s f o h g r d = context-good rule fs (at c s) _ h o r (underscore-good rule p c s g d)
  moved-good (AColon p) fs c s f o h g r d = context-good rule fs (at c s) _ h o r (colon-good rule p c s f g)
  moved-good (AnEquals p) fs c s f o h g r d = context-good rule fs (at c s) _ h o r (equals-good rule p c s g)
  moved-good (AnArrow a) fs c s f o h g r d = context-good rule fs (at c s) _ h o r (lambda-good rule a c s g)
  moved-good (ADot p) fs c s f o h g r d = context-good rule fs (at c s) _ h o r (dot-good rule p c s g d)
  moved-good (AComma p) fs c s f o h g r d = parted-good rule p fs (at c s) f g r
  moved-good (ASemicolon p) fs c s f o h g r d = context-good rule fs (at c s) _ h o r (semicolon-good rule p fs c s f g)
  moved-good (OpensRound p) fs c s f o h g r d = opened-good rule p fs c s h o r g d
  moved-good (ClosesRound p) fs c s f o h g r d = closed-good p fs c s f g h r
  moved-good (OpensSquare p) fs c s f o h g r d = context-good rule fs (at c s) _ h o r (square-good rule p c s (operand_at s) refl g d)
  moved-good (AWord w p) fs c s f o h g r d = word-state w p fs c s f o h g r d
  moved-good _ fs c s f o h g r d = good-none rule

  token-at-good : (s : Tail) (y : Seen) (x : Lexeme) (fs : List Frame) (c : Context) → shown_token y ≡ x → Fits (at c s) → FramesStand fs (at c s) → GoodContext rule (at c s) → GoodFrames rule fs s
      → ReadyAt s (at c s) (shown_token y) → AllGood rule (token_at s y x fs (at c s))
  token-at-good (InPattern p) y x fs c z f h g r d = in-pattern-good rule y x p fs z f.tail g.tail r
  token-at-good (InTypes prim o done t) y x fs c z f h g r d = context-good rule fs (at c (InTypes prim o done t)) _ h refl r (types-good rule y prim o done t (type_of t) c g)
  token-at-good (AtDot prim point) y x fs c z f h g r d = moved-good y fs c (AtDot prim point) f refl h g r d
  token-at-good s y x fs c z f h g r d =
      good-if rule (begins_pattern y && is_some (next_generator fs (at c s) x.place.before)) _ _
      (λ e. next-good rule y x fs c s z (begins (begins_pattern y) e) f g r)
      (λ e. moved-good y fs c s f refl h g r d)
    where
      begins : (b : Bool) → (b && is_some (next_generator fs (at c s) x.place.before)) ≡ true → b ≡ true
      begins true e = refl
      begins false e = cc

  -- what an item decides of the tail before it keeps the brackets good
  decided-frames : (fs : List Frame) (c : Context) (y : Symbol) (before : Newline) → FramesStand fs c → GoodFrames rule fs c.tail → GoodFrames rule fs (decided_at c.tail c y before).tail
  decided-frames fs c y before h r = go (is_in_pattern c.tail) refl where
    go : (b : Bool) → is_in_pattern c.tail ≡ b → GoodFrames rule fs (decided_at c.tail c y before).tail
    go true e = subst (λ d. GoodFrames rule fs d.tail) (pattern-decided c.tail c y before e) r
    go false e = frames-same rule fs c (decided_at c.tail c y before).tail h e r

  token-good : (x : Lexeme) (fs : List Frame) (c : Context) → Stands (state fs c) → Good rule (state fs c) → AllGood rule (step_token x fs c)
  token-good x fs c k g = go (in_type c.limit c.tail x) refl where
    y : Symbol
    y = symbol_of x.kind x.word

    next : Context
    next = decided_at c.tail c y x.place.before

    there : Stands (state fs next)
    there = decided-stands fs c y x.place.before k

    go : (v : Option Tail) → in_type c.limit c.tail x ≡ v → AllGood rule (or_decided v x fs c)
    go (Some s) e =
        let r = type-good rule x c c.tail s g.context e in
        good-some rule _ (record { context = r.good; rests = r.rests; frames = frames-same rule fs c s k.frames (type-out c.limit c.tail x s e) g.frames })
    go None e =
        let d : Decided rule next x = decided-good rule c c.tail x k.context g.context g.rests e in
        token-at-good next.tail (seen x) x fs next (token-shown x) there.context there.frames d.good (decided-frames fs c y x.place.before k.frames g.frames)
        (subst (ReadyAt next.tail next) (sym (token-shown x)) d.ready)

  -- ---- a pair of braces more

  pair-state : (o : Place) (i : Item) (fs : List Frame) (c : Context) → item_before i ≡ o.before → item_front i ≡ open_curly o → ProperItem rule i → Stands (state fs c) → Good rule (state fs c)
      → AllGood rule (step_pair o i fs c)
  pair-state o i fs c n x q k g = subst (λ m. AllGood rule (in_state fs (decided_pair next m i))) n (go (is_in_pattern next.tail) refl) where
    next : Context
    next = decided_at c.tail c symbol.OpenCurly o.before

    there : Stands (state fs next)
    there = decided-stands fs c symbol.OpenCurly o.before k

    decided : Decided rule next (open_curly o)
    decided = subst (λ y. Decided rule (decided_at c.tail c y o.before) (open_curly o)) (curly-symbol o) (decided-good rule c c.tail (open_curly o) k.context g.context g.rests (curly-out c.limit c.tail o))

    go : (b : Bool) → is_in_pattern next.tail ≡ b → AllGood rule (in_state fs (decided_pair next (item_before i) i))
    go true e = subst (λ v. AllGood rule (in_state fs v)) (sym (pattern-pair next.tail next (item_before i) i e)) (good-none rule)
    go false e =
        context-good rule fs next _ there.frames e (decided-frames fs c symbol.OpenCurly o.before k.frames g.frames)
        (pair-good rule next.tail next i there.context q decided.good (subst (ReadyAt next.tail next) (sym x) decided.ready))

  -- ---- any item

  pub step-good : (s : State) (i : Item) → ProperItem rule i → Stands s → Good rule s → AllGood rule (step s i)
  step-good s (OneToken x) q k g = token-good x s.frames s.context k g
  step-good s (BlockPair o block p) q k g = pair-state o (BlockPair o block p) s.frames s.context refl refl q k g
  step-good s (CasesPair o cases p) q k g = pair-state o (CasesPair o cases p) s.frames s.context refl refl q k g
  step-good s (EnumsPair o enums p) q k g = pair-state o (EnumsPair o enums p) s.frames s.context refl refl q k g
  step-good s (OtherPair o xs p) q k g = good-none rule

  pub begun-good : (l : Limit) → Good rule (begun l)
  begun-good l = fresh-good rule [] l tt

  pub run-good : (is : List Item) (s t : State) → ProperItems rule is → Stands s → Good rule s → run step is s ≡ Some t → Good rule t
  run-good [] s t q k g e = (let same : s ≡ t = cc in subst (Good rule) same g)
  run-good (i ∷ is) s t q k g e = go (step s i) refl e (λ u f r. run-good is u t q.1 (step-stands s i k u f) (step-good s i q.0 k g u f) r) where
    go : (o : Option State) → step s i ≡ o → onward o None (run step is) ≡ Some t → ((u : State) → step s i ≡ Some u → run step is u ≡ Some t → Good rule t) → Good rule t
    go None f h on = cc
    go (Some u) f h on = on u f h

  -- what was read from the beginning is an expression of the grammar
  pub read-proper : (l : Limit) (is : List Item) (s : State) (e : Expr) → ProperItems rule is → run step is (begun l) ≡ Some s → ended_expr s.context ≡ Some e → ProperExpr rule e
  read-proper l is s e q r k =
      ended-proper rule s.context e (run-stands is (begun l) s (begun-stands l) r).context (run-good is (begun l) s q (begun-stands l) (begun-good l) r).context k
