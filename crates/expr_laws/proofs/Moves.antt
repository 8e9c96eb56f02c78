-- A step of the reader is a step of the machine, with its trees as far as these are kept.
use Rattle.std.proofs.Common.{◌≡◌, Bool, true, false, ◌&&◌, if◌then◌else◌, List, [], ◌∷◌, map, Option, Some, None, option_map, refl, ap, sym, ◌∙◌, codes}
use Rattle.std.specs.Prelude.{not}
use Rattle.pc_terms.specs.declared.tree_kinds.TreeKind.TheVariants as kind
use Rattle.positioned_trees.specs.declared.details.Selector.{Selector}
use Rattle.scan_tokens.specs.declared.tokens.Newline.{Newline}
use Rattle.source_grammar.specs.Expressions.{PrefixSign, NewOf, SelectHole, Expr, ReturnOf}
use Rattle.source_grammar.specs.Lexemes.{Place, Lexeme, Id}
use Rattle.source_grammar.specs.Types.{WrittenType}
use Rattle.parse_parts.proofs.Derived as types
use Rattle.parse_patterns.specs.Steps.{is_no}
use Rattle.parse_patterns.proofs.Seen.{literal_as}
use Rattle.tree_lower.proofs.KeptTrees.{leaf-kept}
use Rattle.expr_tails.specs.declared.states.Form.TheVariants as form
use Rattle.expr_tails.specs.declared.states.Tail.TheVariants as tail
use Rattle.expr_tails.specs.declared.symbols.Symbol.{Symbol}
use Rattle.expr_tails.specs.declared.symbols.Symbol.TheVariants as symbol
use Rattle.expr_tails.specs.declared.symbols.Word.{Word}
use Rattle.expr_tails.specs.declared.symbols.Word.TheVariants as word
use Rattle.expr_tails.specs.Symbols.{begins_expr, begins_prim, symbol_of}
use Rattle.expr_steps.specs.Braces.{asks_at, answers, behind, behind_asked, opened}
use Rattle.expr_steps.specs.Reading.{stepped, is_read, built_at, built_of}
use Rattle.expr_steps.specs.Steps as spec
use Rattle.expr_steps.specs.Steps.{on_token, step}
use Rattle.expr_laws.proofs.Assigning.{equals-same, lambda-same, yield-same}
use Rattle.expr_laws.proofs.Begins.{begun-same, literal-same, begins-same}
use Rattle.expr_laws.proofs.Opened.{opened-same}
use Rattle.expr_laws.proofs.Closed.{in-frames, closed-same}
use Rattle.expr_laws.proofs.Closing.{parted-same}
use Rattle.expr_laws.proofs.Decided.{Decidable, decided-shown}
use Rattle.expr_laws.proofs.Derived as derived
use Rattle.expr_laws.proofs.Ended.{IsPlain}
use Rattle.expr_laws.proofs.Fitting.{stands_alone, is_guard_semi, is_of_infix, TailFits, Fits, PartFits, Together, FramesFit, StateFits, is_in_pattern}
use Rattle.expr_laws.proofs.Going.{dot-same, square-same, types-same, colon-same, match-same}
use Rattle.expr_laws.proofs.Inside.{type-goes}
use Rattle.expr_laws.proofs.Naming.{named-same, number-same, underscore-same}
use Rattle.expr_laws.proofs.Nexting.{pattern-same, guarded-same, next-same}
use Rattle.expr_laws.proofs.Pairs.{IsPair, a_block, some_cases, some_enums, braces_at, after, pair-at}
use Rattle.expr_laws.proofs.Seen.{shown_token, seen_as, arrow_as, token-shown}
use Rattle.expr_laws.proofs.Semicolons.{semicolon-same}
use Rattle.expr_laws.proofs.Shown.{tail_shown, context_shown, frame_shown, shown, item_shown, built_shown}
use Rattle.expr_laws.proofs.Taking.{else-same, catch-same, finally-same, while-same}
use Rattle.std.specs.Str.{bytes_eq}
use Rattle.expr_steps.specs.declared.braces.Asks.{Asks}
use Rattle.expr_steps.specs.declared.braces.Asks.TheVariants as asks
use Rattle.expr_steps.specs.declared.braces.Opened.{Opened}
use Rattle.expr_tails.specs.declared.items.Braces.{Braces}
use Rattle.expr_tails.specs.declared.items.Inside.TheVariants as inside
use Rattle.parse_parts.specs.Reading.{is_nil}
use Rattle.expr_laws.proofs.Agreeing.{expr-shown}
use Rattle.source_grammar.specs.ExpressionTrees.{expr_built}
use Rattle.expr_laws.proofs.Innermost.{expr-there}

-- ---- words

word-at : (w : Word) (c : derived.Context) (s : derived.Tail) (p : Place) → Fits (derived.at c s)
    → spec.word_at w (context_shown (derived.at c s)) p.before p.span ≡ option_map context_shown (derived.word_at w p (derived.at c s))
word-at word.This c s p f =
    begun-same c s p.before (spec.prim_tail word.This p.span) (derived.prim_word word.This p) (ap (λ t. tail.AtPrim (record { tall = t; span = p.span }) form.Plain) (leaf-kept kind.This [] p.span)) refl
word-at word.Super c s p f = begun-same c s p.before (spec.prim_tail word.Super p.span) (derived.prim_word word.Super p) refl refl
word-at word.New c s p f = begun-same c s p.before (spec.prim_tail word.New p.span) (derived.prim_word word.New p) refl refl
word-at word.Match c s p f = match-same c s p f.one_side
word-at word.Yield c s p f = yield-same c s p
word-at w c s p f = begins-same w p c s

taken-or : (w : Word) (c : derived.Context) (s : derived.Tail) (p : Place) → Fits (derived.at c s)
    → spec.taken_or w (context_shown (derived.at c s)) p.before p.span ≡ option_map context_shown (derived.or_else (derived.taken w p (derived.at c s)) (derived.word_at w p (derived.at c s)))
taken-or word.Else c s p f = else-same c s p _ _ f (begins-same word.Else p c s)
taken-or word.Catch c s p f = catch-same (derived.at c s) p _ _ f (begins-same word.Catch p c s)
taken-or word.Finally c s p f = finally-same c s p _ _ f (begins-same word.Finally p c s)
taken-or word.While c s p f = while-same c s p _ _ f (begins-same word.While p c s)
taken-or w c s p f = word-at w c s p f

word-same : (w : Word) (fs : List derived.Frame) (c : derived.Context) (s : derived.Tail) (p : Place) → Fits (derived.at c s) → FramesFit fs (derived.at c s)
    → spec.on_word w (map frame_shown fs) (context_shown (derived.at c s)) p.before p.span ≡ option_map shown (derived.on_word w p fs (derived.at c s))
word-same word.If fs c s p f k = guarded-same fs c s p _ _ f k (in-frames fs _ _ (taken-or word.If c s p f))
word-same w fs c s p f k = in-frames fs _ _ (taken-or w c s p f)

-- ---- one token behind what is decided

moved-same : (y : Symbol) (x : Lexeme) (fs : List derived.Frame) (c : derived.Context) (s : derived.Tail) → shown_token (seen_as y x) ≡ x → Fits (derived.at c s) → FramesFit fs (derived.at c s)
    → on_token y (map frame_shown fs) (context_shown (derived.at c s)) x ≡ option_map shown (derived.moved (seen_as y x) fs (derived.at c s))
unfolding on_token
moved-same symbol.Id x fs c s e f k = in-frames fs _ _ (named-same c s x)
moved-same symbol.Number x fs c s e f k = in-frames fs _ _ (number-same c s x e)
moved-same symbol.Literal x fs c s e f k = in-frames fs _ _ (literal-same c s (literal_as x.kind x.word x.place) x e)
moved-same symbol.Underscore x fs c s e f k = in-frames fs _ _ (underscore-same c s x.place)
moved-same symbol.Colon x fs c s e f k = in-frames fs _ _ (colon-same c s x.place f.one_side)
moved-same symbol.Equals x fs c s e f k = in-frames fs _ _ (equals-same c s x.place)
moved-same symbol.Arrow x fs c s e f k = in-frames fs _ _ (lambda-same c s (arrow_as x) f.tail)
moved-same symbol.Dot x fs c s e f k = in-frames fs _ _ (dot-same c s x.place)
moved-same symbol.OpenRound x fs c s e f k = opened-same fs c s x.place
moved-same symbol.CloseRound x fs c s e f k = closed-same fs (derived.at c s) x.place f k
moved-same symbol.OpenSquare x fs c s e f k = in-frames fs _ _ (square-same c s x.place)
moved-same symbol.Comma x fs c s e f k = parted-same fs (derived.at c s) x.place f
moved-same symbol.Semicolon x fs c s e f k = in-frames fs _ _ (semicolon-same fs c s x.place f)
moved-same (symbol.Word w) x fs c s e f k = word-same w fs c s x.place f k
moved-same _ x fs c s e f k = refl

token-same : (y : Symbol) (x : Lexeme) (fs : List derived.Frame) (c : derived.Context) (s : derived.Tail) → shown_token (seen_as y x) ≡ x → Fits (derived.at c s) → FramesFit fs (derived.at c s)
    → spec.token_at (tail_shown s) (map frame_shown fs) (context_shown (derived.at c s)) y x ≡ option_map shown (derived.token_at s (seen_as y x) x fs (derived.at c s))
token-same y x fs c (derived.InPattern p) e f k = pattern-same fs c p y x f k
token-same y x fs c (derived.InTypes prim o done t) e f k = in-frames fs _ _ (types-same y x c prim o done t)
token-same y x fs c (derived.AtDot prim point) e f k = moved-same y x fs c (derived.AtDot prim point) e f k
token-same y x fs c s e f k = next-same fs c s x.place.before y x _ _ f k (moved-same y x fs c s e f k)

-- ---- what is decided keeps what is asked

pub fits-at : (c : derived.Context) (s t : derived.Tail) → Fits (derived.at c s) → Decidable c.operations t → IsPlain t → TailFits t → (stands_alone t ≡ true → stands_alone s ≡ true)
    → (is_of_infix s ≡ true → is_of_infix t ≡ true) → (is_guard_semi t ≡ true → is_guard_semi s ≡ true) → Fits (derived.at c t)
fits-at c s t f d p k alone infix_too semi = record {
  decidable = d;
  plain = p;
  tail = k;
  one_side = f.one_side;
  alone = λ e. f.alone (alone e);
  guard = λ e. (let g = f.guard e in (g.0, infix_too g.1));
  semi = λ e. f.semi (semi e);
}

-- a tail of an operand, from another
pub operand-fits : (c : derived.Context) (s t : derived.Tail) → Fits (derived.at c s) → Decidable c.operations t → IsPlain t → TailFits t → stands_alone t ≡ false → is_guard_semi t ≡ false → is_of_infix t ≡ true → Fits (derived.at c t)
operand-fits c s t f d p k a g i =
    fits-at c s t f d p k (λ e. (let no : false ≡ true = sym a ∙ e in cc)) (λ e. i) (λ e. (let no : false ≡ true = sym g ∙ e in cc))

sign-fits : (c : derived.Context) (id : Id) (y : Symbol) (before : Newline) → Fits (derived.at c (derived.AtSign id)) → Fits (derived.sign_decided (derived.at c (derived.AtSign id)) id y before)
sign-fits c id y before f = go (is_no before && (begins_prim y && not (derived.is_param_limit c.limit))) (derived.is_number y && bytes_eq id.name (codes "-")) c.sign (derived.sign_of id) refl where
  now : derived.Context
  now = derived.at c (derived.AtSign id)

  named : Fits (derived.at c (derived.AtName id true))
  named = operand-fits c (derived.AtSign id) (derived.AtName id true) f tt tt tt refl refl refl

  signed : (s o : Option PrefixSign) → c.sign ≡ s → Fits (derived.with_sign now s o id)
  signed None (Some sign) e = record {
    decidable = tt;
    plain = tt;
    tail = tt;
    one_side = f.one_side;
    alone = λ g. (let no : false ≡ true = g in cc);
    guard = λ g. ((f.guard g).0, refl);
    semi = λ g. (let no : false ≡ true = g in cc);
  }
  signed None None e = named
  signed (Some s) o e = named

  go : (follows minus : Bool) (s o : Option PrefixSign) → c.sign ≡ s
      → Fits (if not follows then derived.at now (derived.AtName id true) else (if minus then derived.at now (derived.AtSign id) else derived.with_sign now s o id))
  go false minus s o e = named
  go true true s o e = f
  go true false s o e = signed s o e

new-fits : (c : derived.Context) (place : Place) (t : types.State) (o : Option WrittenType) (d : Option derived.Dotted) → Fits (derived.at c (derived.InNew place t)) → Fits (derived.at c (derived.new_tail place t o d))
new-fits c place t (Some type) d f = operand-fits c (derived.InNew place t) (derived.AtNew place type) f tt tt tt refl refl refl
new-fits c place t None (Some d) f = operand-fits c (derived.InNew place t) (derived.AtPrim (SelectHole (NewOf place d.type) d.point)) f tt refl tt refl refl refl
new-fits c place t None None f = f

pub decided-fits : (c : derived.Context) (s : derived.Tail) (y : Symbol) (before : Newline) → Fits (derived.at c s) → Fits (derived.decided_at s (derived.at c s) y before)
decided-fits c (derived.AtSign id) y before f = sign-fits c id y before f
decided-fits c (derived.InNew place t) y before f = new-fits c place t (derived.type_of t) (derived.dotted_of t) f
decided-fits c (derived.AtDot prim point) y before f = go (derived.is_id y) where
  go : (b : Bool) → Fits (if b then derived.at (derived.at c (derived.AtDot prim point)) (derived.AtDot prim point) else derived.at (derived.at c (derived.AtDot prim point)) (derived.AtPrim (SelectHole prim point)))
  go true = f
  go false = operand-fits c (derived.AtDot prim point) (derived.AtPrim (SelectHole prim point)) f tt refl tt refl refl refl
decided-fits c (derived.AtReturn place) y before f = go (is_no before && begins_expr y) where
  go : (b : Bool) → Fits (if b then derived.with_head (derived.at c (derived.AtReturn place)) (derived.Of (ReturnOf place)) else derived.at (derived.at c (derived.AtReturn place)) (derived.AtReturn place))
  go true = record {
    decidable = tt;
    plain = tt;
    tail = tt;
    one_side = f.one_side;
    alone = λ g. (let no : false ≡ true = g in cc);
    guard = λ g. (let no : false ≡ true = (f.guard g).1 in cc);
    semi = λ g. (let no : false ≡ true = g in cc);
  }
  go false = f
decided-fits c _ y before f = f

-- what is read of a generator stays where its part says
pub decided-limit : (c : derived.Context) (s : derived.Tail) (y : Symbol) (before : Newline) → (derived.decided_at s (derived.at c s) y before).limit ≡ c.limit
decided-limit c (derived.AtSign id) y before =
    go (is_no before && (begins_prim y && not (derived.is_param_limit c.limit))) (derived.is_number y && bytes_eq id.name (codes "-")) c.sign (derived.sign_of id)
  where
    now : derived.Context
    now = derived.at c (derived.AtSign id)

    go : (follows minus : Bool) (s o : Option PrefixSign)
        → (if not follows then derived.at now (derived.AtName id true) else (if minus then derived.at now (derived.AtSign id) else derived.with_sign now s o id)).limit ≡ c.limit
    go false minus s o = refl
    go true true s o = refl
    go true false None (Some sign) = refl
    go true false None None = refl
    go true false (Some s) o = refl
decided-limit c (derived.AtDot prim point) y before = go (derived.is_id y) where
  go : (b : Bool) → (if b then derived.at (derived.at c (derived.AtDot prim point)) (derived.AtDot prim point) else derived.at (derived.at c (derived.AtDot prim point)) (derived.AtPrim (SelectHole prim point))).limit ≡ c.limit
  go true = refl
  go false = refl
decided-limit c (derived.AtReturn place) y before = go (is_no before && begins_expr y) where
  go : (b : Bool) → (if b then derived.with_head (derived.at c (derived.AtReturn place)) (derived.Of (ReturnOf place)) else derived.at (derived.at c (derived.AtReturn place)) (derived.AtReturn place)).limit ≡ c.limit
  go true = refl
  go false = refl
decided-limit c _ y before = refl

pub decided-pattern : (c : derived.Context) (s : derived.Tail) (y : Symbol) (before : Newline) → is_in_pattern (derived.decided_at s (derived.at c s) y before).tail ≡ is_in_pattern s
decided-pattern c (derived.AtSign id) y before =
    go (is_no before && (begins_prim y && not (derived.is_param_limit c.limit))) (derived.is_number y && bytes_eq id.name (codes "-")) c.sign (derived.sign_of id)
  where
    now : derived.Context
    now = derived.at c (derived.AtSign id)

    go : (follows minus : Bool) (s o : Option PrefixSign)
        → is_in_pattern (if not follows then derived.at now (derived.AtName id true) else (if minus then derived.at now (derived.AtSign id) else derived.with_sign now s o id)).tail ≡ false
    go false minus s o = refl
    go true true s o = refl
    go true false None (Some sign) = refl
    go true false None None = refl
    go true false (Some s) o = refl
decided-pattern c (derived.InNew place t) y before = go (derived.type_of t) (derived.dotted_of t) where
  go : (o : Option WrittenType) (d : Option derived.Dotted) → is_in_pattern (derived.new_tail place t o d) ≡ false
  go (Some type) d = refl
  go None (Some d) = refl
  go None None = refl
decided-pattern c (derived.AtDot prim point) y before = go (derived.is_id y) where
  go : (b : Bool) → is_in_pattern (if b then derived.at (derived.at c (derived.AtDot prim point)) (derived.AtDot prim point) else derived.at (derived.at c (derived.AtDot prim point)) (derived.AtPrim (SelectHole prim point))).tail ≡ false
  go true = refl
  go false = refl
decided-pattern c (derived.AtReturn place) y before = go (is_no before && begins_expr y) where
  go : (b : Bool) → is_in_pattern (if b then derived.with_head (derived.at c (derived.AtReturn place)) (derived.Of (ReturnOf place)) else derived.at (derived.at c (derived.AtReturn place)) (derived.AtReturn place)).tail ≡ false
  go true = refl
  go false = refl
decided-pattern c _ y before = refl

part-decided : (part : derived.Part) (c : derived.Context) (s : derived.Tail) (y : Symbol) (before : Newline) → PartFits part (derived.at c s) → PartFits part (derived.decided_at s (derived.at c s) y before)
part-decided derived.PatPart c s y before k = decided-pattern c s y before ∙ k
part-decided (derived.FromPart pat arrow) c s y before k = (ap derived.is_expr_limit (decided-limit c s y before) ∙ k.0, decided-pattern c s y before ∙ k.1)
part-decided (derived.GuardPart pat arrow from done sep place) c s y before k = ap derived.is_guard_limit (decided-limit c s y before) ∙ k

together-decided : (b : derived.Bracket) (c : derived.Context) (s : derived.Tail) (y : Symbol) (before : Newline) → Together b (derived.at c s) → Together b (derived.decided_at s (derived.at c s) y before)
together-decided (derived.GensBracket place o done part) c s y before k = part-decided part c s y before k
together-decided _ c s y before k = tt

frames-decided : (fs : List derived.Frame) (c : derived.Context) (s : derived.Tail) (y : Symbol) (before : Newline) → FramesFit fs (derived.at c s) → FramesFit fs (derived.decided_at s (derived.at c s) y before)
frames-decided [] c s y before k = tt
frames-decided (f ∷ fs) c s y before k = (k.0, together-decided f.bracket c s y before k.1)

-- ---- any item

token-step : (x : Lexeme) (fs : List derived.Frame) (c : derived.Context) (s : derived.Tail) → Fits (derived.at c s) → FramesFit fs (derived.at c s)
    → step (record { frames = map frame_shown fs; context = context_shown (derived.at c s) }) x ≡ option_map shown (derived.step_token x fs (derived.at c s))
unfolding step
token-step x fs c s f k =
    type-goes fs c s x (spec.decided_step (map frame_shown fs) (spec.decided (context_shown (derived.at c s)) y x.place.before) y x)
    (ap (λ n. spec.decided_step (map frame_shown fs) n y x) (decided-shown c s y x.place.before f.decidable)
    ∙ token-same y x fs next next.tail (token-shown x) (decided-fits c s y x.place.before f) (frames-decided fs c s y x.place.before k))
  where
    y : Symbol
    y = symbol_of x.kind x.word

    next : derived.Context
    next = derived.decided_at s (derived.at c s) y x.place.before

pair-step : (o p : Place) (i : derived.Item) (selectors : Option (List Selector)) (fs : List derived.Frame) (c : derived.Context) (s : derived.Tail) → Fits (derived.at c s) → IsPair o p i
    → after (asks_at (spec.decided (context_shown (derived.at c s)) symbol.OpenCurly o.before).tail (spec.decided (context_shown (derived.at c s)) symbol.OpenCurly o.before) o.before) fs
    (spec.decided (context_shown (derived.at c s)) symbol.OpenCurly o.before) (braces_at o p i selectors)
    ≡ option_map shown (derived.step_pair o i fs (derived.at c s))
pair-step o p i selectors fs c s f k =
    ap (λ n. after (asks_at n.tail n o.before) fs n (braces_at o p i selectors)) (decided-shown c s symbol.OpenCurly o.before f.decidable)
    ∙ pair-at fs next next.tail o p i selectors (decided-fits c s symbol.OpenCurly o.before f) k
  where
    next : derived.Context
    next = derived.decided_at s (derived.at c s) symbol.OpenCurly o.before

-- braces that are nothing are not admitted
no-answer : (a : Asks) → answers a inside.Nothing ≡ false
no-answer asks.Any = refl
no-answer asks.Cases = refl
no-answer asks.Generators = refl

none-answers : (v : Option Opened) (b : Braces) → b.inside ≡ inside.Nothing → behind_asked v b ≡ None
none-answers None b e = refl
none-answers (Some o) b e = ap (λ x. if x then Some (behind o.state b) else None) (ap (answers o.asks) e ∙ no-answer o.asks)

pub step-same : (st : derived.State) (i : derived.Item) (selectors : Option (List Selector)) → StateFits st
    → stepped (shown st) (item_shown selectors i) ≡ option_map shown (derived.step st i)
step-same st (derived.OneToken x) selectors f = token-step x st.frames st.context st.context.tail f.context f.frames
step-same st (derived.BlockPair o block p) selectors f = pair-step o p (derived.BlockPair o block p) selectors st.frames st.context st.context.tail f.context (a_block block)
step-same st (derived.CasesPair o cases p) selectors f = pair-step o p (derived.CasesPair o cases p) selectors st.frames st.context st.context.tail f.context (some_cases cases)
step-same st (derived.EnumsPair o enums p) selectors f = pair-step o p (derived.EnumsPair o enums p) selectors st.frames st.context st.context.tail f.context (some_enums enums)
step-same st (derived.OtherPair o xs p) selectors f = none-answers (opened (shown st) o.before) _ refl

-- an expression has been read where the machine says so
pub whole-same : (st : derived.State) → is_read (shown st) ≡ derived.is_read st
whole-same st = ap (λ b. is_nil (map frame_shown st.frames) && b) (expr-shown st.context) ∙ ap (λ b. b && derived.is_some (derived.ended_expr st.context)) (nil-frames st.frames) where
  nil-frames : (fs : List derived.Frame) → is_nil (map frame_shown fs) ≡ derived.is_nil fs
  nil-frames [] = refl
  nil-frames (f ∷ fs) = refl

-- with its tree as far as it is kept, and the placeholder that it is
pub built-same : (st : derived.State) (e : Expr) → Fits st.context → derived.ended_expr st.context ≡ Some e → built_at (shown st) ≡ built_shown (expr_built e)
built-same st e f g = ap built_of (expr-there st.context e f g)
