-- A step of the machine of expressions is, bare, a step of its bare state over an item without trees.
use Rattle.std.proofs.Common.{◌≡◌, ℕ, false, ◌&&◌, ◌||◌, List, [], ◌∷◌, map, Option, Some, None, option_map, refl, ap, ◌∙◌, sym}
use Rattle.pc_terms.specs.declared.problems.Span.{Span}
use Rattle.positioned_trees.specs.declared.details.Selector.{Selector}
use Rattle.scan_tokens.specs.declared.tokens.Newline.{Newline}
use Rattle.source_grammar.specs.Lexemes.{Lexeme}
use Rattle.source_grammar.specs.Newlines.{is_near}
use Rattle.parse_patterns.specs.Reading.{begun as pattern_begun}
use Rattle.expr_tails.specs.declared.items.Braces.{Braces}
use Rattle.expr_tails.specs.declared.items.Inside.{Inside}
use Rattle.expr_tails.specs.declared.items.Inside.TheVariants as inside
use Rattle.expr_tails.specs.declared.states.Bracket.{Bracket}
use Rattle.expr_tails.specs.declared.states.Bracket.TheVariants as bracket
use Rattle.expr_tails.specs.declared.states.Context.{Context}
use Rattle.expr_tails.specs.declared.states.Form.TheVariants as form
use Rattle.expr_tails.specs.declared.states.Frame.{Frame}
use Rattle.expr_tails.specs.declared.states.HeadKind.TheVariants as head
use Rattle.expr_tails.specs.declared.states.State.{State}
use Rattle.expr_tails.specs.declared.states.Tail.{Tail}
use Rattle.expr_tails.specs.declared.states.Tail.TheVariants as tail
use Rattle.expr_tails.specs.declared.symbols.Symbol.{Symbol}
use Rattle.expr_tails.specs.declared.symbols.Symbol.TheVariants as symbol
use Rattle.expr_tails.specs.declared.symbols.Word.{Word}
use Rattle.expr_tails.specs.Ending.{at_tail}
use Rattle.expr_tails.specs.Symbols.{symbol_of}
use Rattle.expr_tails.specs.Tails.{no_operand}
use Rattle.expr_tails.specs.Types.{type_takes}
use Rattle.expr_frames.specs.Frames.{in_state, may_stand, takes_args}
use Rattle.expr_frames.specs.Generators.{begins_generator, ends_part, finished, generators_frame, guarded, next_generator, next_in, nothing_yet}
use Rattle.expr_steps.specs.declared.braces.Asks.{Asks}
use Rattle.expr_steps.specs.declared.braces.Asks.TheVariants as asks
use Rattle.expr_steps.specs.Braces.{answers, asks_at, behind, behind_asked, behind_at, behind_for, opened_by, step_braces, when_any}
use Rattle.expr_steps.specs.Reading.{Item, OneToken, Pair}
use Rattle.expr_steps.specs.Steps.{decided, decided_step, in_type, is_if, next_begun, on_arrow, on_colon, on_equals, on_id, on_literal, on_open_square, on_semicolon, on_token, on_underscore, on_word, number_at, dotted_at, state, step, taken_or, token_at, token_or_next, type_step, type_symbol, types_on, type_on}
use Rattle.parse_exprs.specs.Items.{braces_shape, inside_shape, shape_of}
use Rattle.shape_laws.proofs.Asked.{args-same, begins-next, ends-part as part-ends, stand-same, takes-type}
use Rattle.shape_laws.proofs.Bare.{bare, bare_bracket, bare_context, bare_frame, bare_tail, choice-same, frames-twice, not_begun, state-same, tail-twice, typed-twice}
use Rattle.shape_laws.proofs.Contexts.{arrow-same, at-same, colon-same, decided-same, dotted-same, equals-same, head-on, id-same, literal-same, number-same, semicolon-same, square-same, types-same, underscore-on, word-same}
use Rattle.shape_laws.proofs.Frames.{closed-same, guarded-same, in-state, next-frames, opened-same, parted-same, pattern-same, pattern-two, stated}

-- ---- tokens

word-on : (w : Word) (fs : List Frame) (c : Context) (before : Newline) (span : Span) → stated (on_word w fs c before span) ≡ stated (on_word w (map bare_frame fs) (bare_context c) before span)
word-on w fs c before span =
    choice-same stated (is_if w && ends_part fs c) (is_if w && ends_part (map bare_frame fs) (bare_context c))
    (guarded fs c) (in_state fs (taken_or w c before span)) (guarded (map bare_frame fs) (bare_context c)) (in_state (map bare_frame fs) (taken_or w (bare_context c) before span))
    (ap (λ b. is_if w && b) (part-ends fs c)) (guarded-same fs c)
    (in-state fs (taken_or w c before span) (taken_or w (bare_context c) before span) (word-same w c before span))

token-on : (s : Symbol) (fs : List Frame) (c : Context) (x : Lexeme) → stated (on_token s fs c x) ≡ stated (on_token s (map bare_frame fs) (bare_context c) x)
unfolding on_token
token-on symbol.Id fs c x = in-state fs (on_id c x) (on_id (bare_context c) x) (id-same c x)
token-on symbol.Number fs c x = in-state fs (number_at c.tail c x) (number_at (bare_tail c.tail) (bare_context c) x) (number-same c.tail c x)
token-on symbol.Literal fs c x = in-state fs (on_literal c x) (on_literal (bare_context c) x) (literal-same c x)
token-on symbol.Underscore fs c x =
    in-state fs (on_underscore c x.place.before x.place.span) (on_underscore (bare_context c) x.place.before x.place.span) (underscore-on c x.place.before x.place.span)
token-on symbol.Colon fs c x = in-state fs (on_colon c) (on_colon (bare_context c)) (colon-same c)
token-on symbol.Equals fs c x = in-state fs (on_equals c) (on_equals (bare_context c)) (equals-same c)
token-on symbol.Arrow fs c x = in-state fs (on_arrow c) (on_arrow (bare_context c)) (arrow-same c)
token-on symbol.Dot fs c x = in-state fs (dotted_at c.tail c x.place.span) (dotted_at (bare_tail c.tail) (bare_context c) x.place.span) (dotted-same c.tail c x.place.span)
token-on symbol.OpenRound fs c x = opened-same fs c x.place.span.start x.place.before
token-on symbol.CloseRound fs c x = closed-same fs c x.place.span.end
token-on symbol.OpenSquare fs c x = in-state fs (on_open_square c) (on_open_square (bare_context c)) (square-same c)
token-on symbol.Comma fs c x = parted-same fs c
token-on symbol.Semicolon fs c x = in-state fs (on_semicolon fs c) (on_semicolon (map bare_frame fs) (bare_context c)) (semicolon-same fs c)
token-on (symbol.Word w) fs c x = word-on w fs c x.place.before x.place.span
token-on _ fs c x = refl

next-within : (b : Bracket) (start : ℕ) (outer : Context) (fs : List Frame) (c : Context) (s : Symbol) (x : Lexeme)
    → stated (next_begun (next_in b start outer fs c) s x) ≡ stated (next_begun (next_in (bare_bracket b) 0 (bare_context outer) (map bare_frame fs) (bare_context c)) s x)
next-within (bracket.Generators gens part) start outer fs c s x =
    pattern-two (generators_frame (finished gens part outer c).generators nothing_yet start (finished gens part outer c).outer ∷ fs)
    (generators_frame (finished [] nothing_yet (bare_context outer) (bare_context c)).generators nothing_yet 0 (finished [] nothing_yet (bare_context outer) (bare_context c)).outer ∷ map bare_frame fs)
    pattern_begun s x
    (next-frames (finished gens part outer c).generators (finished [] nothing_yet (bare_context outer) (bare_context c)).generators part start outer fs c)
next-within _ start outer fs c s x = refl

next-same : (fs : List Frame) (c : Context) (s : Symbol) (x : Lexeme)
    → stated (next_begun (next_generator fs c) s x) ≡ stated (next_begun (next_generator (map bare_frame fs) (bare_context c)) s x)
next-same [] c s x = refl
next-same (f ∷ fs) c s x = next-within f.bracket f.start f.outer fs c s x

or-next : (fs : List Frame) (c : Context) (s : Symbol) (x : Lexeme) → stated (token_or_next fs c s x) ≡ stated (token_or_next (map bare_frame fs) (bare_context c) s x)
or-next fs c s x =
    choice-same stated (begins_generator fs c s x.place.before) (begins_generator (map bare_frame fs) (bare_context c) s x.place.before)
    (next_begun (next_generator fs c) s x) (on_token s fs c x)
    (next_begun (next_generator (map bare_frame fs) (bare_context c)) s x) (on_token s (map bare_frame fs) (bare_context c) x)
    (begins-next fs c s x.place.before) (next-same fs c s x) (token-on s fs c x)

token-at : (t : Tail) (fs : List Frame) (c : Context) (s : Symbol) (x : Lexeme) → stated (token_at t fs c s x) ≡ stated (token_at (bare_tail t) (map bare_frame fs) (bare_context c) s x)
token-at (tail.InPattern p) fs c s x = pattern-same fs p s x
token-at (tail.InTypes begun ty) fs c s x =
    in-state fs (types_on c begun ty s x.place.span.end) (types_on (bare_context c) not_begun ty s x.place.span.end) (types-same c begun not_begun ty s x.place.span.end)
token-at (tail.AtDot receiver point) fs c s x = token-on s fs c x
token-at _ fs c s x = or-next fs c s x

-- from any two contexts that are alike
token-two : (fs : List Frame) (c d : Context) (s : Symbol) (x : Lexeme) → bare_context c ≡ bare_context d → stated (decided_step fs c s x) ≡ stated (decided_step (map bare_frame fs) d s x)
token-two fs c d s x e =
    token-at c.tail fs c s x ∙ ap (λ n. stated (decided_step (map bare_frame fs) n s x)) e
    ∙ ap (λ gs. stated (decided_step gs (bare_context d) s x)) (sym (frames-twice fs)) ∙ sym (token-at d.tail (map bare_frame fs) d s x)

typed-on : (t : Tail) (x : Lexeme) → bare_tail (in_type t x) ≡ bare_tail (in_type (bare_tail t) x)
typed-on (tail.InNew start end ty) x = refl
typed-on (tail.InTypes begun ty) x = refl
typed-on (tail.InTyped of ty) x = ap (λ o. tail.InTyped o (type_on ty x)) (sym (typed-twice of))
typed-on t x = sym (tail-twice t)

pub step-same : (s : State) (x : Lexeme) → stated (step s x) ≡ stated (step (bare s) x)
unfolding step
step-same s x =
    choice-same stated (type_takes s.context.limit s.context.tail (type_symbol x)) (type_takes s.context.limit (bare_tail s.context.tail) (type_symbol x))
    (Some (type_step s.frames s.context x)) (decided_step s.frames (decided s.context y x.place.before) y x)
    (Some (type_step (map bare_frame s.frames) (bare_context s.context) x)) (decided_step (map bare_frame s.frames) (decided (bare_context s.context) y x.place.before) y x)
    (takes-type s.context.limit s.context.tail (type_symbol x))
    (ap Some (state-same s.frames (map bare_frame s.frames) (at_tail s.context (in_type s.context.tail x)) (at_tail (bare_context s.context) (in_type (bare_tail s.context.tail) x))
    (sym (frames-twice s.frames)) (at-same s.context (in_type s.context.tail x) (in_type (bare_tail s.context.tail) x) (typed-on s.context.tail x))))
    (token-two s.frames (decided s.context y x.place.before) (decided (bare_context s.context) y x.place.before) y x (decided-same s.context y x.place.before))
  where
    y : Symbol
    y = symbol_of x.kind x.word

-- ---- braces

asked-same : (t : Tail) (c : Context) (before : Newline) → asks_at t c before ≡ asks_at (bare_tail t) (bare_context c) before
asked-same (tail.AtAsker asker start) c before = refl
asked-same (tail.AtMatch operand) c before = refl
asked-same (tail.AtCatch begun) c before = refl
asked-same (tail.AtName name is_sign) c before = refl
asked-same (tail.AtNew new) c before = refl
asked-same _ c before =
    ap (λ b. when_any ((b && is_near before) || may_stand c before)) (args-same c)
    ∙ ap (λ b. when_any ((takes_args (bare_context c) && is_near before) || b)) (stand-same c before)

answers-same : (a : Asks) (within : Inside) → answers a within ≡ answers a (inside_shape within)
answers-same asks.Any (inside.Block built) = refl
answers-same asks.Any _ = refl
answers-same asks.Cases (inside.Block built) = refl
answers-same asks.Cases _ = refl
answers-same asks.Generators (inside.Block built) = refl
answers-same asks.Generators _ = refl

for-same : (c : Context) (start : ℕ) (within : Inside) → bare_context (behind_for (at_tail c tail.Begin) start within) ≡ bare_context (behind_for (at_tail (bare_context c) tail.Begin) start (inside_shape within))
for-same c start (inside.Generators gens) = head-on c start start (head.For [] false) (head.For [] false) refl
for-same c start (inside.Block built) = at-same c tail.Begin tail.Begin refl
for-same c start _ = at-same c tail.Begin tail.Begin refl

behind-tail : (t : Tail) (c : Context) (span : Span) (within : Inside) → bare_context (behind_at t c span within) ≡ bare_context (behind_at (bare_tail t) (bare_context c) span (inside_shape within))
behind-tail (tail.AtAsker asker start) c span within = for-same c start within
behind-tail (tail.AtMatch operand) c span within = at-same c (tail.AtEnded no_operand) (tail.AtEnded no_operand) refl
behind-tail (tail.AtCatch begun) c span within = at-same c (tail.AtCaught not_begun 0) (tail.AtCaught not_begun 0) refl
behind-tail (tail.AtNew new) c span within = at-same c (tail.AtPrim no_operand form.Plain) (tail.AtPrim no_operand form.Plain) refl
behind-tail tail.Begin c span within = at-same c (tail.AtPrim no_operand form.Plain) (tail.AtPrim no_operand form.Plain) refl
behind-tail _ c span within = at-same c called called refl where
  called : Tail
  called = tail.AtCall (record { span = record { start = 0; end = 0 }; receiver = None; args = None })

behind-same : (fs : List Frame) (c : Context) (b : Braces) → bare (behind (state fs c) b) ≡ bare (behind (state (map bare_frame fs) (bare_context c)) (braces_shape b))
unfolding behind
behind-same fs c b =
    state-same fs (map bare_frame fs) (behind_at c.tail c b.span b.inside) (behind_at (bare_tail c.tail) (bare_context c) b.span (inside_shape b.inside))
    (sym (frames-twice fs)) (behind-tail c.tail c b.span b.inside)

asked-braces : (o : Option Asks) (fs : List Frame) (c : Context) (b : Braces)
    → stated (behind_asked (opened_by o (state fs c)) b) ≡ stated (behind_asked (opened_by o (state (map bare_frame fs) (bare_context c))) (braces_shape b))
asked-braces None fs c b = refl
asked-braces (Some a) fs c b =
    choice-same stated (answers a b.inside) (answers a (inside_shape b.inside)) (Some (behind (state fs c) b)) None
    (Some (behind (state (map bare_frame fs) (bare_context c)) (braces_shape b))) None
    (answers-same a b.inside) (ap Some (behind-same fs c b)) refl

-- a pair of braces after a context
abbrev pub braces_on : List Frame → Context → Braces → Option State
braces_on fs c b = behind_asked (opened_by (asks_at c.tail c b.before) (state fs c)) b

braces-one : (fs : List Frame) (c : Context) (b : Braces) → stated (braces_on fs c b) ≡ stated (braces_on (map bare_frame fs) (bare_context c) (braces_shape b))
braces-one fs c b =
    ap (λ o. stated (behind_asked (opened_by o (state fs c)) b)) (asked-same c.tail c b.before)
    ∙ asked-braces (asks_at (bare_tail c.tail) (bare_context c) b.before) fs c b

abbrev pub no_selectors : List Selector → List Selector
no_selectors selectors = []

inside-twice : (within : Inside) → inside_shape (inside_shape within) ≡ inside_shape within
inside-twice (inside.Block built) = refl
inside-twice (inside.Cases cases) = refl
inside-twice (inside.Generators gens) = refl
inside-twice inside.Nothing = refl

selectors-twice : (o : Option (List Selector)) → option_map no_selectors (option_map no_selectors o) ≡ option_map no_selectors o
selectors-twice None = refl
selectors-twice (Some selectors) = refl

abbrev pub shaped : Braces → Inside → Option (List Selector) → Braces
shaped b within selectors = record { span = b.span; before = b.before; inside = within; selectors = selectors }

pub braces-twice : (b : Braces) → braces_shape (braces_shape b) ≡ braces_shape b
braces-twice b =
    ap (λ i. shaped b i (option_map no_selectors (option_map no_selectors b.selectors))) (inside-twice b.inside)
    ∙ ap (λ o. shaped b (inside_shape b.inside) o) (selectors-twice b.selectors)

pub shape-twice : (i : Item) → shape_of (shape_of i) ≡ shape_of i
shape-twice (OneToken x) = refl
shape-twice (Pair b) = ap Pair (braces-twice b)

pub braces-same : (s : State) (b : Braces) → stated (step_braces s b) ≡ stated (step_braces (bare s) (braces_shape b))
braces-same s b =
    braces-one s.frames c b ∙ ap (λ n. stated (braces_on (map bare_frame s.frames) n (braces_shape b))) (decided-same s.context symbol.OpenCurly b.before)
    ∙ ap (λ gs. stated (braces_on gs (bare_context d) (braces_shape b))) (sym (frames-twice s.frames))
    ∙ ap (λ e. stated (braces_on (map bare_frame (map bare_frame s.frames)) (bare_context d) e)) (sym (braces-twice b))
    ∙ sym (braces-one (map bare_frame s.frames) d (braces_shape b))
  where
    c : Context
    c = decided s.context symbol.OpenCurly b.before

    d : Context
    d = decided (bare_context s.context) symbol.OpenCurly b.before
