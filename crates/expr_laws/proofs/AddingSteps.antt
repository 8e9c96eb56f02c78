-- What was read is the items of the derivations in the state: each item that is taken stands behind them.
use Rattle.std.proofs.Common.{◌≡◌, Bool, true, false, ◌&&◌, if◌then◌else◌, List, [], ◌∷◌, ◌++◌, Option, Some, None, codes, refl, ap, sym, ◌∙◌, append_assoc, append-nil}
use Rattle.reading_machines.specs.Machines.{run, onward}
use Rattle.expr_tails.specs.declared.states.Limit.{Limit}
use Rattle.expr_tails.specs.declared.states.Limit.TheVariants as limit
use Rattle.expr_tails.specs.declared.symbols.Symbol.TheVariants as symbol
use Rattle.expr_tails.specs.declared.symbols.Word.{Word}
use Rattle.expr_tails.specs.declared.symbols.Word.TheVariants as word
use Rattle.parse_patterns.proofs.Derived as patterns
use Rattle.source_grammar.specs.Lexemes as lexemes
use Rattle.source_grammar.specs.Lexemes.{semicolon}
use Rattle.expr_laws.proofs.Derived as derived
use Rattle.source_grammar.specs.Expressions.{Expr, Infix, Sep}
use Rattle.source_grammar.specs.ExpressionTokens.{sep_tokens}
use Rattle.source_grammar.specs.Lexemes.{back_arrow_token, Lexeme, open_round, Place}
use Rattle.source_grammar.specs.Patterns.{pat_tokens}
use Rattle.expr_tails.specs.Symbols.{symbol_of}
use Rattle.expr_laws.proofs.Derived.{at, at_some, AtDot, AtGuardSemi, AtSemi, begins_pattern, begun, begun_pattern, BlockPair, Bracket, CasesPair, chain_at, Context, decided_at, decided_pair, done, DoneGen, ended_expr, EnumsPair, equals_at, Frame, fresh, FromPart, gen_at, GensBracket, guard_at, guard_with, guarded_by, guarded_in, GuardPart, head_at, headed_all, IfTest, in_pattern, in_state, in_type, InPattern, InTypes, is_apart, is_first, is_if, is_nil, is_none, is_some, Item, lambda, may_head, moved, next_by, next_in, next_pattern, on_colon, on_dot, on_id, on_literal, on_number, on_semicolon, on_underscore, on_word, OneToken, operand_at, or_decided, or_else, OtherPair, Part, PatPart, Tail, squared, State, step, step_pair, step_token, taken, token_at, type_of, types_on, unless, waits, WhileTest}
use Rattle.expr_laws.proofs.Items.{expr_items, infix_items, tokens}
use Rattle.expr_laws.proofs.PartsRead.{chain-read, expr-read, headed-read}
use Rattle.expr_laws.proofs.Read.{context_items, done_gens_items, done_guards_items, frames_items, heads_items, items_in, operations_items, part_items, sign_items, tail_items}
use Rattle.expr_laws.proofs.FramesSound.{Adds, adds-if, adds-none, adds-some, opened-adds, parted-adds, parted-bracket}
use Rattle.expr_laws.proofs.GeneratorsSound.{alone, GuardAlone, in_pattern-adds, IsGuard, next-read, pattern_context, SemiFirst}
use Rattle.expr_laws.proofs.ClosedSound.{closed-adds, OpenedIn, OpenedRight}
use Rattle.expr_laws.proofs.Fitting.{Fits, is_in_pattern, IsFresh, PartFits}
use Rattle.expr_laws.proofs.Seen.{AColon, AComma, ADot, ALiteral, AnArrow, AnEquals, AnId, ANumber, AnUnderscore, ASemicolon, AWord, ClosesRound, OpensRound, OpensSquare, Seen, seen, shown_token, token-shown, word_text}
use Rattle.expr_laws.proofs.LastingFrames.{FramesStand, Standing, Stands}
use Rattle.expr_laws.proofs.LastingSteps.{begun-stands, decided-stands, run-stands, step-stands}
use Rattle.expr_laws.proofs.Adding.{colon-grows, dot-grows, equals-grows, fresh-items, Grows, id-grows, lambda-grows, literal-grows, MinusAt, number-grows, square-grows, types-grows, underscore-grows, word-grows}
use Rattle.expr_laws.proofs.AddingWords.{decided-items, Decides, pair-grows, semicolon-grows, taken-grows, type-grows}

-- ---- states

-- a state with the same items
adds-at : (o : Option State) (is js : List Item) (i : Item) → is ≡ js → Adds o is i → Adds o js i
adds-at o is js i e a t f = a t f ∙ ap (λ ks. ks ++ i ∷ []) e

-- another name of the item
adds-as : (o : Option State) (is : List Item) (i j : Item) → i ≡ j → Adds o is i → Adds o is j
adds-as o is i j e a t f = a t f ∙ ap (λ k. is ++ k ∷ []) e

context-adds : (fs : List Frame) (c : Context) (v : Option Context) (i : Item) → Grows c v i → Adds (in_state fs v) (items_in (derived.state fs c)) i
context-adds fs c None i g = adds-none _ _
context-adds fs c (Some d) i g = adds-some _ _ _ (ap (λ is. frames_items fs ++ is) (g d refl) ∙ sym (append_assoc (frames_items fs) (context_items c) (i ∷ [])))

adds-else : (x y : Option State) (is : List Item) (i : Item) → Adds x is i → Adds y is i → Adds (or_else x y) is i
adds-else None y is i p q = q
adds-else (Some s) y is i p q = p

grows-else : (c : Context) (x y : Option Context) (i : Item) → Grows c x i → Grows c y i → Grows c (or_else x y) i
grows-else c None y i p q = q
grows-else c (Some d) y i p q = p

-- ---- what brackets ask

is-first : (c : Context) → IsFresh c.operations c.sign → is_first c ≡ true
is-first c f = ap (λ os. is_nil os && is_none c.sign) f.operations ∙ ap is_none f.sign

semi-first : (s : Tail) (c : Context) → Fits (at c s) → SemiFirst s (at c s)
semi-first (AtSemi expr p ps) c f = is-first (at c (AtSemi expr p ps)) (f.alone refl)
semi-first (AtGuardSemi test p ps) c f = is-first (at c (AtGuardSemi test p ps)) (f.alone refl)
semi-first _ c f = tt

guard-alone : (part : Part) (c : Context) → Fits c → PartFits part c → GuardAlone part c
guard-alone (GuardPart pat arrow from done sep place) c f k = (f.guard k).0
guard-alone _ c f k = tt

opened-right : (b : Bracket) (outer c : Context) (Rest : Type 0) → Fits c → Standing (derived.frame b outer) c Rest → OpenedRight b outer c
opened-right (IfTest place o) outer c Rest f h = is-first outer h.behind.fresh
opened-right (WhileTest place o) outer c Rest f h = is-first outer h.behind.fresh
opened-right (GensBracket place o done part) outer c Rest f h = (is-first outer h.behind.fresh, semi-first c.tail c f, guard-alone part c f h.together)
opened-right _ outer c Rest f h = tt

opened-in : (fs : List Frame) (c : Context) → Fits c → FramesStand fs c → OpenedIn fs c
opened-in [] c f h = tt
opened-in (g ∷ fs) c f h = opened-right g.bracket g.outer c (FramesStand fs g.outer) f h

-- ---- guards

guard-with-read : (part : Part) (o : Option Expr) (v : Option Infix) (sep : Sep) (place : Place) (is : List Item) (q : Part) → ((e : Expr) → o ≡ Some e → expr_items e ≡ is)
    → ((test : Infix) → v ≡ Some test → IsGuard part → infix_items test ≡ is) → guard_with part o v sep place ≡ Some q
    → part_items q ≡ part_items part ++ ((is ++ tokens (sep_tokens sep)) ++ OneToken (lexemes.word_at (codes "if") place) ∷ [])
guard-with-read PatPart o v sep place is q f g e = cc
guard-with-read (FromPart pat arrow) None v sep place is q f g e = cc
guard-with-read (FromPart pat arrow) (Some from) v sep place is q f g e =
    let same : GuardPart pat arrow from [] sep place ≡ q = cc in
    ap part_items (sym same)
    ∙ ap (λ js. tokens (pat_tokens pat) ++ OneToken (back_arrow_token arrow) ∷ (js ++ (tokens (sep_tokens sep) ++ OneToken (lexemes.word_at (codes "if") place) ∷ []))) (f from refl)
    ∙ go (tokens (pat_tokens pat)) (tokens (sep_tokens sep))
  where
    go : (a s : List Item)
        → a ++ OneToken (back_arrow_token arrow) ∷ (is ++ (s ++ OneToken (lexemes.word_at (codes "if") place) ∷ []))
        ≡ (a ++ OneToken (back_arrow_token arrow) ∷ []) ++ ((is ++ s) ++ OneToken (lexemes.word_at (codes "if") place) ∷ [])
    go a s = simp append_assoc
guard-with-read (GuardPart pat arrow from done before first) o None sep place is q f g e = cc
guard-with-read (GuardPart pat arrow from done before first) o (Some test) sep place is q f g e =
    let same : GuardPart pat arrow from (record { sep = before; word = first; test = test } ∷ done) sep place ≡ q = cc in
    ap part_items (sym same)
    ∙ ap (λ js. tokens (pat_tokens pat) ++ OneToken (back_arrow_token arrow) ∷ (expr_items from ++ ((done_guards_items done ++ (tokens (sep_tokens before) ++ OneToken (lexemes.word_at (codes "if") first) ∷ (js ++ [])))
    ++ (tokens (sep_tokens sep) ++ OneToken (lexemes.word_at (codes "if") place) ∷ [])))) (g test refl tt)
    ∙ go (tokens (pat_tokens pat)) (expr_items from) (done_guards_items done) (tokens (sep_tokens before)) (tokens (sep_tokens sep))
  where
    go : (a b d s r : List Item)
        → a ++ OneToken (back_arrow_token arrow) ∷ (b ++ ((d ++ (s ++ OneToken (lexemes.word_at (codes "if") first) ∷ (is ++ []))) ++ (r ++ OneToken (lexemes.word_at (codes "if") place) ∷ [])))
        ≡ (a ++ OneToken (back_arrow_token arrow) ∷ (b ++ (d ++ (s ++ OneToken (lexemes.word_at (codes "if") first) ∷ [])))) ++ ((is ++ r) ++ OneToken (lexemes.word_at (codes "if") place) ∷ [])
    go a b d s r = simp (append_assoc, append-nil)

guard-read : (part : Part) (c : Context) (s : Tail) (place : Place) (q : Part) → Fits (at c s) → GuardAlone part c → guard_at part s (at c s) place ≡ Some q
    → part_items q ≡ part_items part ++ (context_items (at c s) ++ OneToken (lexemes.word_at (codes "if") place) ∷ [])
guard-read part c (AtSemi expr p ps) place q f g e =
    guard-with-read part (unless (waits c.heads) (headed_all c.heads (Some expr))) None (p ∷ ps) place (heads_items c.heads ++ expr_items expr) q exprs (λ test k w. cc) e
    ∙ ap (λ js. part_items part ++ (js ++ OneToken (lexemes.word_at (codes "if") place) ∷ []))
    (append_assoc (heads_items c.heads) (expr_items expr) (tokens (sep_tokens (p ∷ ps)))
    ∙ ap (λ js. heads_items c.heads ++ js) (sym (fresh-items c (tail_items (AtSemi expr p ps)) (f.alone refl))))
  where
    exprs : (x : Expr) → unless (waits c.heads) (headed_all c.heads (Some expr)) ≡ Some x → expr_items x ≡ heads_items c.heads ++ expr_items expr
    exprs x k = go (waits c.heads) k where
      go : (w : Bool) → unless w (headed_all c.heads (Some expr)) ≡ Some x → expr_items x ≡ heads_items c.heads ++ expr_items expr
      go true h = cc
      go false h = headed-read c.heads expr x h
guard-read part c (AtGuardSemi test p ps) place q f g e =
    guard-with-read part None (Some test) (p ∷ ps) place (heads_items c.heads ++ infix_items test) q (λ x k. cc)
    (λ t k w. (let same : test ≡ t = cc in ap infix_items (sym same) ∙ ap (λ hs. heads_items hs ++ infix_items test) (sym (alone part c g w)))) e
    ∙ ap (λ js. part_items part ++ (js ++ OneToken (lexemes.word_at (codes "if") place) ∷ []))
    (append_assoc (heads_items c.heads) (infix_items test) (tokens (sep_tokens (p ∷ ps)))
    ∙ ap (λ js. heads_items c.heads ++ js) (sym (fresh-items c (tail_items (AtGuardSemi test p ps)) (f.alone refl))))
guard-read part c s place q f g e =
    guard-with-read part (ended_expr (at c s)) (chain_at (at c s)) [] place (context_items (at c s)) q (λ x k. expr-read (at c s) x f k) (λ test k w. chain-read (at c s) test (alone part c g w) k) e
    ∙ ap (λ js. part_items part ++ (js ++ OneToken (lexemes.word_at (codes "if") place) ∷ [])) (append-nil (context_items (at c s)))

guarded-adds : (p : Place) (fs : List Frame) (c : Context) → Fits c → FramesStand fs c → Adds (derived.guarded p fs c) (items_in (derived.state fs c)) (OneToken (lexemes.word_at (codes "if") p))
guarded-adds p [] c f h = adds-none _ _
guarded-adds p (k ∷ fs) c f h = go k.bracket k.outer h where
  guard : (v : Option Part) (place o : Place) (done : List DoneGen) (part : Part) (outer : Context) → guard_at part c.tail c p ≡ v → GuardAlone part c
      → Adds (guarded_in v place o done outer fs) (items_in (derived.state (derived.frame (GensBracket place o done part) outer ∷ fs) c)) (OneToken (lexemes.word_at (codes "if") p))
  guard None place o done part outer e g = adds-none _ _
  guard (Some q) place o done part outer e g =
      parted-bracket fs outer c (GensBracket place o done part) (GensBracket place o done q) (OneToken (lexemes.word_at (codes "if") p)) (fresh limit.Guard) refl
      (ap (λ is. OneToken (lexemes.word_at (codes "for") place) ∷ OneToken (open_round o) ∷ (done_gens_items done ++ is)) (guard-read part c c.tail p q f g e)
      ∙ ap (λ is. OneToken (lexemes.word_at (codes "for") place) ∷ OneToken (open_round o) ∷ is)
      (sym (append_assoc (done_gens_items done) (part_items part) (context_items c ++ OneToken (lexemes.word_at (codes "if") p) ∷ []))))

  go : (b : Bracket) (outer : Context) → Standing (derived.frame b outer) c (FramesStand fs outer)
      → Adds (guarded_by b p outer c fs) (items_in (derived.state (derived.frame b outer ∷ fs) c)) (OneToken (lexemes.word_at (codes "if") p))
  go (GensBracket place o done part) outer k = guard (guard_at part c.tail c p) place o done part outer refl (guard-alone part c f k.together)
  go _ outer k = adds-none _ _

-- ---- one token more

word-adds : (w : Word) (p : Place) (fs : List Frame) (c : Context) → Fits c → FramesStand fs c → Adds (on_word w p fs c) (items_in (derived.state fs c)) (OneToken (lexemes.word_at (word_text w) p))
word-adds w p fs c f h =
    adds-else (if is_if w then derived.guarded p fs c else None) (in_state fs (or_else (taken w p c) (derived.word_at w p c))) _ _ (go w)
    (context-adds fs c (or_else (taken w p c) (derived.word_at w p c)) _ (grows-else c (taken w p c) (derived.word_at w p c) _ (taken-grows w p c f) (word-grows w p c)))
  where
    go : (w : Word) → Adds (if is_if w then derived.guarded p fs c else None) (items_in (derived.state fs c)) (OneToken (lexemes.word_at (word_text w) p))
    go word.If = guarded-adds p fs c f h
    go _ = adds-none _ _

moved-adds : (y : Seen) (fs : List Frame) (c : Context) → Fits c → MinusAt c.tail → FramesStand fs c → Adds (moved y fs c) (items_in (derived.state fs c)) (OneToken (shown_token y))
moved-adds (AnId id) fs c f m h = context-adds fs c (on_id id c) _ (id-grows id c)
moved-adds (ANumber n) fs c f m h = context-adds fs c (on_number n c.tail c) _ (number-grows n c.tail c m refl)
moved-adds (ALiteral l) fs c f m h = context-adds fs c (on_literal l c) _ (literal-grows l c)
moved-adds (AnUnderscore p) fs c f m h = context-adds fs c (on_underscore p c) _ (underscore-grows p c)
moved-adds (AColon p) fs c f m h = context-adds fs c (on_colon p c) _ (colon-grows p c)
moved-adds (AnEquals p) fs c f m h = context-adds fs c (if may_head c then equals_at p c.tail c else None) _ (equals-grows p c)
moved-adds (AnArrow a) fs c f m h = context-adds fs c (if may_head c then lambda a c (head_at c.tail) else None) _ (lambda-grows a c)
moved-adds (ADot p) fs c f m h = context-adds fs c (on_dot p c.tail c) _ (dot-grows p c.tail c refl)
moved-adds (AComma p) fs c f m h = parted-adds p fs c f
moved-adds (ASemicolon p) fs c f m h = context-adds fs c (on_semicolon p fs c) _ (semicolon-grows p fs c f)
moved-adds (OpensRound p) fs c f m h = opened-adds p fs c
moved-adds (ClosesRound p) fs c f m h = closed-adds p fs c f (opened-in fs c f h)
moved-adds (OpensSquare p) fs c f m h = context-adds fs c (squared p c (operand_at c.tail)) _ (square-grows p c (operand_at c.tail) refl)
moved-adds (AWord w p) fs c f m h = word-adds w p fs c f h
moved-adds _ fs c f m h = adds-none _ _

-- the first token of the pattern of the next generator
next-adds : (fs : List Frame) (c : Context) (y : Seen) (x : Lexeme) → shown_token y ≡ x → Fits c → FramesStand fs c
    → Adds (begun_pattern (derived.next_generator fs c x.place.before) y x) (items_in (derived.state fs c)) (OneToken x)
next-adds [] c y x z f h = adds-none _ _
next-adds (k ∷ fs) c y x z f h = go k.bracket k.outer h where
  by : (b : Bool) (place o : Place) (done : List DoneGen) (d : DoneGen) (is : List Item) (outer : Context)
      → ((t : State) → (if b then Some (derived.state (derived.frame (GensBracket place o (d ∷ done) PatPart) outer ∷ fs) next_pattern) else None) ≡ Some t → items_in t ≡ is)
      → Adds (begun_pattern (if b then Some (derived.state (derived.frame (GensBracket place o (d ∷ done) PatPart) outer ∷ fs) next_pattern) else None) y x) is (OneToken x)
  by true place o done d is outer same =
      let gs : List Frame = derived.frame (GensBracket place o (d ∷ done) PatPart) outer ∷ fs in
      adds-at _ (items_in (derived.state gs next_pattern)) is _ (same (derived.state gs next_pattern) refl) (in_pattern-adds y x (patterns.machine).start gs z)
  by false place o done d is outer same = adds-none _ _

  next : (v : Option DoneGen) (place o : Place) (done : List DoneGen) (is : List Item) (outer : Context)
      → ((t : State) → next_in v place o done outer x.place.before fs ≡ Some t → items_in t ≡ is) → Adds (begun_pattern (next_in v place o done outer x.place.before fs) y x) is (OneToken x)
  next None place o done is outer same = adds-none _ _
  next (Some d) place o done is outer same = by (is_apart d.sep x.place.before) place o done d is outer same

  go : (b : Bracket) (outer : Context) → Standing (derived.frame b outer) c (FramesStand fs outer)
      → Adds (begun_pattern (next_by b outer c x.place.before fs) y x) (items_in (derived.state (derived.frame b outer ∷ fs) c)) (OneToken x)
  go (GensBracket place o done part) outer k =
      next (gen_at part c.tail c) place o done _ outer (λ t e. next-read place o done part c outer x.place.before fs t f (semi-first c.tail c f) (guard-alone part c f k.together) e)
  go _ outer k = adds-none _ _

pattern-adds : (y : Seen) (x : Lexeme) (p : patterns.State) (fs : List Frame) (c : Context) → shown_token y ≡ x → Fits (at c (InPattern p)) → c.heads ≡ []
    → Adds (in_pattern y x p fs) (items_in (derived.state fs (at c (InPattern p)))) (OneToken x)
pattern-adds y x p fs c z f n =
    adds-at _ (items_in (derived.state fs (pattern_context p))) _ _
    (ap (λ is. frames_items fs ++ is) (sym (fresh-items c (tail_items (InPattern p)) (f.alone refl)) ∙ ap (λ hs. heads_items hs ++ (operations_items c.operations ++ (sign_items c.sign ++ tail_items (InPattern p)))) (sym n)))
    (in_pattern-adds y x p fs z)

token-at-adds : (s : Tail) (y : Seen) (x : Lexeme) (fs : List Frame) (c : Context) → shown_token y ≡ x → Fits (at c s) → (is_in_pattern s ≡ true → c.heads ≡ []) → MinusAt s → FramesStand fs (at c s)
    → Adds (token_at s y x fs (at c s)) (items_in (derived.state fs (at c s))) (OneToken x)
token-at-adds (InPattern p) y x fs c z f n m h = pattern-adds y x p fs c z f (n refl)
token-at-adds (InTypes prim o done t) y x fs c z f n m h =
    adds-as _ _ _ _ (ap OneToken z)
    (context-adds fs (at c (InTypes prim o done t)) (types_on y prim o done (type_of t) (at c (InTypes prim o done t))) _ (types-grows y prim o done t (type_of t) (at c (InTypes prim o done t)) refl refl))
token-at-adds (AtDot prim point) y x fs c z f n m h = adds-as _ _ _ _ (ap OneToken z) (moved-adds y fs (at c (AtDot prim point)) f m h)
token-at-adds s y x fs c z f n m h =
    adds-if (begins_pattern y && is_some (derived.next_generator fs (at c s) x.place.before)) _ _ _ _
    (λ e. next-adds fs (at c s) y x z f h) (λ e. adds-as _ _ _ _ (ap OneToken z) (moved-adds y fs (at c s) f m h))

token-adds : (x : Lexeme) (fs : List Frame) (c : Context) → Stands (derived.state fs c) → Adds (step_token x fs c) (items_in (derived.state fs c)) (OneToken x)
token-adds x fs c k = go (in_type c.limit c.tail x) refl where
  next : Context
  next = decided_at c.tail c (symbol_of x.kind x.word) x.place.before

  there : Stands (derived.state fs next)
  there = decided-stands fs c (symbol_of x.kind x.word) x.place.before k

  decides : Decides c next
  decides = decided-items c c.tail (symbol_of x.kind x.word) x.place.before k.context

  go : (v : Option Tail) → in_type c.limit c.tail x ≡ v → Adds (or_decided v x fs c) (items_in (derived.state fs c)) (OneToken x)
  go (Some s) e = context-adds fs c (Some (at c s)) (OneToken x) (λ d h. type-grows x c.tail c refl d (ap (at_some c) e ∙ h))
  go None e =
      adds-at _ (items_in (derived.state fs next)) _ _ (ap (λ is. frames_items fs ++ is) decides.items)
      (token-at-adds next.tail (seen x) x fs next (token-shown x) there.context there.heads decides.minus there.frames)

pair-adds : (o : Place) (i : Item) (fs : List Frame) (c : Context) → Stands (derived.state fs c) → Adds (step_pair o i fs c) (items_in (derived.state fs c)) i
pair-adds o i fs c k =
    adds-at _ (items_in (derived.state fs next)) _ _ (ap (λ is. frames_items fs ++ is) (decided-items c c.tail symbol.OpenCurly o.before k.context).items)
    (context-adds fs next (decided_pair next o.before i) i (pair-grows next o.before i (decided-stands fs c symbol.OpenCurly o.before k).context))
  where
    next : Context
    next = decided_at c.tail c symbol.OpenCurly o.before

-- ---- any item

pub step-adds : (s : State) (i : Item) → Stands s → Adds (step s i) (items_in s) i
step-adds s (OneToken x) k = token-adds x s.frames s.context k
step-adds s (BlockPair o block p) k = pair-adds o (BlockPair o block p) s.frames s.context k
step-adds s (CasesPair o cases p) k = pair-adds o (CasesPair o cases p) s.frames s.context k
step-adds s (EnumsPair o enums p) k = pair-adds o (EnumsPair o enums p) s.frames s.context k
step-adds s (OtherPair o xs p) k = adds-none _ _

pub run-adds : (is : List Item) (s t : State) → Stands s → run step is s ≡ Some t → items_in t ≡ items_in s ++ is
run-adds [] s t k e = (let same : s ≡ t = cc in ap items_in (sym same) ∙ sym (append-nil (items_in s)))
run-adds (i ∷ is) s t k e = go (step s i) refl e (λ u f. run-adds is u t (step-stands s i k u f)) where
  go : (o : Option State) → step s i ≡ o → onward o None (run step is) ≡ Some t → ((u : State) → step s i ≡ Some u → run step is u ≡ Some t → items_in t ≡ items_in u ++ is) → items_in t ≡ items_in s ++ i ∷ is
  go None f g on = cc
  go (Some u) f g on = on u f g ∙ ap (λ js. js ++ is) (step-adds s i k u f) ∙ append_assoc (items_in s) (i ∷ []) is

-- Where the machine has read an expression, the items that it was given are that expression's.
pub read-items : (l : Limit) (is : List Item) (t : State) (e : Expr) → run step is (begun l) ≡ Some t → t.frames ≡ [] → ended_expr t.context ≡ Some e → is ≡ expr_items e
read-items l is t e r n h =
    sym (run-adds is (begun l) t (begun-stands l) r) ∙ ap (λ fs. frames_items fs ++ context_items t.context) n
    ∙ sym (expr-read t.context e (run-stands is (begun l) t (begun-stands l) r).context h)
