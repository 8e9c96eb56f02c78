-- What the reader's step asks of a state holds behind each item where it held before it, so it holds of all that is read.
use Rattle.std.proofs.Common.{◌≡◌, Bool, true, false, ◌&&◌, if◌then◌else◌, List, [], ◌∷◌, Option, Some, None, refl, ap, sym, subst}
use Rattle.reading_machines.specs.Machines.{run, onward}
use Rattle.scan_tokens.specs.declared.tokens.Newline.{Newline}
use Rattle.expr_tails.specs.declared.states.Limit.{Limit}
use Rattle.expr_tails.specs.declared.symbols.Symbol.{Symbol}
use Rattle.expr_tails.specs.declared.symbols.Symbol.TheVariants as symbol
use Rattle.expr_tails.specs.declared.symbols.Word.{Word}
use Rattle.source_grammar.specs.Lexemes.{Lexeme, Place}
use Rattle.expr_tails.specs.Symbols.{symbol_of}
use Rattle.expr_laws.proofs.Derived.{at, at_some, AtDot, begins_pattern, begun, behind_receiver, BlockPair, CasesPair, Context, decided_at, decided_pair, done, EnumsPair, equals_at, Frame, guarded, head_at, in_state, in_type, InPattern, InTypes, is_if, is_param_limit, is_some, Item, lambda, may_head, moved, next_generator, on_colon, on_dot, on_id, on_literal, on_number, on_semicolon, on_underscore, on_word, OneToken, operand_at, or_decided, or_else, OtherPair, receiver_at, Tail, squared, state, State, step, step_pair, step_token, taken, token_at, type_of, types_on, word_at}
use Rattle.expr_laws.proofs.Fitting.{Fits, is_in_pattern}
use Rattle.expr_laws.proofs.Lasting.{colon-lasts, decided-next, dot-lasts, equals-lasts, id-lasts, lambda-lasts, Lasts, literal-lasts, number-lasts, pair-lasts, semicolon-lasts, square-lasts, taken-lasts, type-lasts, types-lasts, underscore-lasts, word-lasts}
use Rattle.expr_laws.proofs.LastingFrames.{AllStand, begun-pattern-stands, closed-stands, context-stands, FramesStand, fresh-fits, generator-stands, guarded-stands, in-pattern-stands, next-stands, opened-stands, parted-stands, PatternStands, stand-if, stand-none, stand-some, Stands}
use Rattle.expr_laws.proofs.Seen.{AColon, AComma, ADot, ALiteral, AnArrow, AnEquals, AnId, ANumber, AnUnderscore, ASemicolon, AWord, ClosesRound, OpensRound, OpensSquare, seen, Seen, shown_token, token-shown}

-- ---- one token more

stand-else : (x y : Option State) → AllStand x → AllStand y → AllStand (or_else x y)
stand-else None y p q = q
stand-else (Some s) y p q = p

lasts-else : (c : Context) (x y : Option Context) → Lasts c x → Lasts c y → Lasts c (or_else x y)
lasts-else c None y p q = q
lasts-else c (Some d) y p q = p

word-stands : (w : Word) (p : Place) (fs : List Frame) (c : Context) → Fits c → is_in_pattern c.tail ≡ false → FramesStand fs c → AllStand (on_word w p fs c)
word-stands w p fs c f o h =
    stand-else (if is_if w then guarded p fs c else None) (in_state fs (or_else (taken w p c) (word_at w p c)))
    (stand-if (is_if w) _ _ (λ e. guarded-stands p fs c h) (λ e. stand-none))
    (context-stands fs c (or_else (taken w p c) (word_at w p c)) o h (lasts-else c (taken w p c) (word_at w p c) (taken-lasts w p c f) (word-lasts w p c f)))

moved-stands : (y : Seen) (fs : List Frame) (c : Context) → Fits c → is_in_pattern c.tail ≡ false → FramesStand fs c → AllStand (moved y fs c)
moved-stands (AnId id) fs c f o h = context-stands fs c (on_id id c) o h (id-lasts id c f)
moved-stands (ANumber n) fs c f o h = context-stands fs c (on_number n c.tail c) o h (number-lasts n c.tail c f)
moved-stands (ALiteral l) fs c f o h = context-stands fs c (on_literal l c) o h (literal-lasts l c f)
moved-stands (AnUnderscore p) fs c f o h = context-stands fs c (on_underscore p c) o h (underscore-lasts p c f)
moved-stands (AColon p) fs c f o h = context-stands fs c (on_colon p c) o h (colon-lasts p c f)
moved-stands (AnEquals p) fs c f o h = context-stands fs c (if may_head c then equals_at p c.tail c else None) o h (equals-lasts p c f)
moved-stands (AnArrow a) fs c f o h = context-stands fs c (if may_head c then lambda a c (head_at c.tail) else None) o h (lambda-lasts a c f)
moved-stands (ADot p) fs c f o h = context-stands fs c (on_dot p c.tail c) o h (dot-lasts p c.tail c f)
moved-stands (AComma p) fs c f o h = parted-stands p fs c h
moved-stands (ASemicolon p) fs c f o h = context-stands fs c (on_semicolon p fs c) o h (semicolon-lasts p fs c f)
moved-stands (OpensRound p) fs c f o h = opened-stands p fs c f o h
moved-stands (ClosesRound p) fs c f o h = closed-stands p fs c h
moved-stands (OpensSquare p) fs c f o h = context-stands fs c (squared p c (operand_at c.tail)) o h (square-lasts p c (operand_at c.tail) f)
moved-stands (AWord w p) fs c f o h = word-stands w p fs c f o h
moved-stands _ fs c f o h = stand-none

token-at-stands : (s : Tail) (y : Seen) (x : Lexeme) (fs : List Frame) (c : Context) → shown_token y ≡ x → Fits (at c s) → PatternStands s → FramesStand fs (at c s) → AllStand (token_at s y x fs (at c s))
token-at-stands (InPattern p) y x fs c z f k h = in-pattern-stands y x p fs (at c (InPattern p)) z f refl (record { generator = f.tail; frames = k }) h
token-at-stands (InTypes prim o done t) y x fs c z f k h =
    context-stands fs (at c (InTypes prim o done t)) (types_on y prim o done (type_of t) (at c (InTypes prim o done t))) refl h
    (types-lasts y prim o done (type_of t) (at c (InTypes prim o done t)) f)
token-at-stands (AtDot prim point) y x fs c z f k h = moved-stands y fs (at c (AtDot prim point)) f refl h
token-at-stands s y x fs c z f k h =
    stand-if (begins_pattern y && is_some (next_generator fs (at c s) x.place.before)) _ _
    (λ e. begun-pattern-stands (next_generator fs (at c s) x.place.before) y x z (generator-stands fs (at c s) x.place.before h))
    (λ e. moved-stands y fs (at c s) f refl h)

-- what an item decides of the tail before it
pub pattern-decided : (s : Tail) (c : Context) (y : Symbol) (before : Newline) → is_in_pattern s ≡ true → at c s ≡ decided_at s (at c s) y before
pattern-decided (InPattern p) c y before e = refl
pattern-decided _ c y before e = cc

pub decided-stands : (fs : List Frame) (c : Context) (y : Symbol) (before : Newline) → Stands (state fs c) → Stands (state fs (decided_at c.tail c y before))
decided-stands fs c y before k = go (is_in_pattern c.tail) refl where
  go : (b : Bool) → is_in_pattern c.tail ≡ b → Stands (state fs (decided_at c.tail c y before))
  go true e = subst (λ d. Stands (state fs d)) (pattern-decided c.tail c y before e) k
  go false e = next-stands fs c (decided_at c.tail c y before) (decided-next c y before k.context e) e k.frames

pub type-out : (l : Limit) (s : Tail) (x : Lexeme) (t : Tail) → in_type l s x ≡ Some t → is_in_pattern s ≡ false
type-out l (InPattern p) x t e = cc
type-out l _ x t e = refl

token-stands : (x : Lexeme) (fs : List Frame) (c : Context) → Stands (state fs c) → AllStand (step_token x fs c)
token-stands x fs c k = go (in_type c.limit c.tail x) refl where
  next : Context
  next = decided_at c.tail c (symbol_of x.kind x.word) x.place.before

  there : Stands (state fs next)
  there = decided-stands fs c (symbol_of x.kind x.word) x.place.before k

  go : (v : Option Tail) → in_type c.limit c.tail x ≡ v → AllStand (or_decided v x fs c)
  go (Some s) e = stand-some _ (next-stands fs c (at c s) (type-lasts x c.tail c k.context refl (at c s) (ap (at_some c) e)) (type-out c.limit c.tail x s e) k.frames)
  go None e = token-at-stands next.tail (seen x) x fs next (token-shown x) there.context there.pattern there.frames

-- ---- a pair of braces more

pub pattern-pair : (s : Tail) (c : Context) (before : Newline) (i : Item) → is_in_pattern s ≡ true → decided_pair (at c s) before i ≡ None
pattern-pair (InPattern p) c before i e = go (is_param_limit c.limit) where
  go : (b : Bool) → at_some (at c (InPattern p)) (behind_receiver (if b then None else receiver_at (InPattern p)) before i) ≡ None
  go true = refl
  go false = refl
pattern-pair _ c before i e = cc

pair-stands : (o : Place) (i : Item) (fs : List Frame) (c : Context) → Stands (state fs c) → AllStand (step_pair o i fs c)
pair-stands o i fs c k = go (is_in_pattern next.tail) refl where
  next : Context
  next = decided_at c.tail c symbol.OpenCurly o.before

  there : Stands (state fs next)
  there = decided-stands fs c symbol.OpenCurly o.before k

  go : (b : Bool) → is_in_pattern next.tail ≡ b → AllStand (in_state fs (decided_pair next o.before i))
  go true e = subst (λ v. AllStand (in_state fs v)) (sym (pattern-pair next.tail next o.before i e)) stand-none
  go false e = context-stands fs next (decided_pair next o.before i) e there.frames (pair-lasts next o.before i there.context)

-- ---- any item

pub step-stands : (s : State) (i : Item) → Stands s → AllStand (step s i)
step-stands s (OneToken x) k = token-stands x s.frames s.context k
step-stands s (BlockPair o block p) k = pair-stands o (BlockPair o block p) s.frames s.context k
step-stands s (CasesPair o cases p) k = pair-stands o (CasesPair o cases p) s.frames s.context k
step-stands s (EnumsPair o enums p) k = pair-stands o (EnumsPair o enums p) s.frames s.context k
step-stands s (OtherPair o xs p) k = stand-none

pub begun-stands : (l : Limit) → Stands (begun l)
begun-stands l = record { context = fresh-fits l; pattern = tt; heads = λ e. refl; frames = tt }

pub run-stands : (is : List Item) (s t : State) → Stands s → run step is s ≡ Some t → Stands t
run-stands [] s t k e = (let same : s ≡ t = cc in subst Stands same k)
run-stands (i ∷ is) s t k e = go (step s i) refl e (λ u f. run-stands is u t (step-stands s i k u f)) where
  go : (o : Option State) → step s i ≡ o → onward o None (run step is) ≡ Some t → ((u : State) → step s i ≡ Some u → run step is u ≡ Some t → Stands t) → Stands t
  go None f g on = cc
  go (Some u) f g on = on u f g
