-- What a state keeps so that it can be completed holds after each item where it held before it.
use Rattle.std.proofs.Common.{◌≡◌, Bool, true, false, ◌&&◌, if◌then◌else◌, List, [], ◌∷◌, Option, Some, None, refl, ap, sym, ◌∙◌, subst}
use Rattle.reading_machines.specs.Machines.{run, onward}
use Rattle.scan_tokens.specs.declared.tokens.Newline.{Newline}
use Rattle.source_grammar.specs.Expressions.{PrefixSign}
use Rattle.source_grammar.specs.Lexemes.{Lexeme, Place, Id}
use Rattle.source_grammar.specs.Types.{WrittenType}
use Rattle.expr_tails.specs.declared.states.Limit.TheVariants as limit
use Rattle.expr_tails.specs.declared.symbols.Symbol.{Symbol}
use Rattle.expr_tails.specs.declared.symbols.Symbol.TheVariants as symbol
use Rattle.expr_tails.specs.declared.symbols.Word.{Word}
use Rattle.expr_tails.specs.Symbols.{symbol_of, begins_expr}
use Rattle.parse_parts.proofs.Derived as types
use Rattle.parse_patterns.specs.Steps.{is_no}
use Rattle.expr_laws.proofs.Derived.{Item, OneToken, BlockPair, CasesPair, EnumsPair, OtherPair, Tail, AtSign, AtName, AtDot, AtReturn, InNew, InTypes, InPattern, Dotted, Context, Bracket, GensBracket, Frame, State, is_some, is_id, is_param_limit, may_head, in_gens, is_gens, at, with_sign, sign_of, new_tail, type_of, dotted_of, decided_at, state, in_state, on_id, on_literal, on_number, on_underscore, on_colon, equals_at, lambda, head_at, on_dot, squared, operand_at, types_on, or_else, is_if, guarded, taken, word_at, on_word, moved, begins_pattern, next_generator, token_at, in_type, or_decided, step_token, decided_pair, step_pair, step, begun}
use Rattle.expr_laws.proofs.Fitting.{Fits}
use Rattle.expr_laws.proofs.LastingFrames.{Stands}
use Rattle.expr_laws.proofs.LastingSteps.{decided-stands, step-stands, begun-stands}
use Rattle.expr_laws.proofs.Lives.{is_calm, is_param_tail, BracketLives, TailLives, ContextLives, FramesLive, Lives, AllLive, live-none, live-some, live-if, calm-lives, fresh-lives, frames-limit, calms-else, context-live}
use Rattle.expr_laws.proofs.LivesFrames.{begun-live, closed-live, guarded-live, in-pattern-live, next-live, opened-live, param-element, parted-live, semicolon-live}
use Rattle.expr_laws.proofs.LivesParam.{params, params-is, param-limit, param-calm, ParamDecided, param-decided, pair-params, AllParams, is_decided, moved-params, token-params, type-params}
use Rattle.expr_laws.proofs.LivesSteps.{arrow-calms, colon-calms, dot-calms, equals-calms, id-calms, literal-calms, number-calms, pair-calms, square-calms, taken-calms, type-calm, types-calms, underscore-calms, word-calms}
use Rattle.expr_laws.proofs.Seen.{Seen, AnId, ANumber, ALiteral, AnUnderscore, AColon, AnEquals, AnArrow, ADot, AComma, ASemicolon, OpensRound, ClosesRound, OpensSquare, AWord, seen}
use Rattle.expr_laws.proofs.TypesAlong.{is_case_limit}

-- ---- one token more, where no parameter is read

live-else : (x y : Option State) → AllLive x → AllLive y → AllLive (or_else x y)
live-else None y p q = q
live-else (Some s) y p q = p

word-live : (w : Word) (p : Place) (fs : List Frame) (c : Context) → is_param_limit c.limit ≡ false → is_case_limit c.limit ≡ false → FramesLive fs c.limit → AllLive (on_word w p fs c)
word-live w p fs c n l h =
    live-else (if is_if w then guarded p fs c else None) (in_state fs (or_else (taken w p c) (word_at w p c)))
    (live-if (is_if w) _ _ (λ e. guarded-live p fs c h) (λ e. live-none))
    (context-live fs c (or_else (taken w p c) (word_at w p c)) n l h (calms-else c (taken w p c) (word_at w p c) (taken-calms w p c) (word-calms w p c)))

moved-live : (y : Seen) (fs : List Frame) (c : Context) → Fits c → is_param_limit c.limit ≡ false → is_case_limit c.limit ≡ false → TailLives fs c c.tail → FramesLive fs c.limit → AllLive (moved y fs c)
moved-live (AnId id) fs c f n l t h = context-live fs c (on_id id c) n l h (id-calms id c)
moved-live (ANumber m) fs c f n l t h = context-live fs c (on_number m c.tail c) n l h (number-calms m c.tail c)
moved-live (ALiteral k) fs c f n l t h = context-live fs c (on_literal k c) n l h (literal-calms k c)
moved-live (AnUnderscore p) fs c f n l t h = context-live fs c (on_underscore p c) n l h (underscore-calms p c)
moved-live (AColon p) fs c f n l t h = context-live fs c (on_colon p c) n l h (colon-calms p c)
moved-live (AnEquals p) fs c f n l t h = context-live fs c (if may_head c then equals_at p c.tail c else None) n l h (equals-calms p c)
moved-live (AnArrow a) fs c f n l t h = context-live fs c (if may_head c then lambda a c (head_at c.tail) else None) n l h (arrow-calms a c)
moved-live (ADot p) fs c f n l t h = context-live fs c (on_dot p c.tail c) n l h (dot-calms p c.tail c)
moved-live (AComma p) fs c f n l t h = parted-live p fs c h
moved-live (ASemicolon p) fs c f n l t h = semicolon-live p fs c f n l h t
moved-live (OpensRound p) fs c f n l t h = opened-live p fs c n l h
moved-live (ClosesRound p) fs c f n l t h = closed-live p fs c h (λ e. (let no : true ≡ false = sym e ∙ n in cc))
moved-live (OpensSquare p) fs c f n l t h = context-live fs c (squared p c (operand_at c.tail)) n l h (square-calms p c (operand_at c.tail))
moved-live (AWord w p) fs c f n l t h = word-live w p fs c n l h
moved-live _ fs c f n l t h = live-none

token-at-live : (s : Tail) (y : Seen) (x : Lexeme) (fs : List Frame) (c : Context) → Fits (at c s) → is_param_limit c.limit ≡ false → is_case_limit c.limit ≡ false → TailLives fs (at c s) s → FramesLive fs c.limit
    → AllLive (token_at s y x fs (at c s))
token-at-live (InPattern p) y x fs c f n l t h = in-pattern-live y x p fs (record { frames = frames-limit fs c.limit limit.Expr n h; part = t })
token-at-live (InTypes prim o dones u) y x fs c f n l t h =
    context-live fs (at c (InTypes prim o dones u)) (types_on y prim o dones (type_of u) (at c (InTypes prim o dones u))) n l h (types-calms y prim o dones (type_of u) (at c (InTypes prim o dones u)))
token-at-live (AtDot prim p) y x fs c f n l t h = moved-live y fs (at c (AtDot prim p)) f n l t h
token-at-live s y x fs c f n l t h =
    live-if (begins_pattern y && is_some (next_generator fs (at c s) x.place.before)) _ _
    (λ e. begun-live (next_generator fs (at c s) x.place.before) y x (next-live fs (at c s) x.place.before h)) (λ e. moved-live y fs (at c s) f n l t h)

-- ---- what an item decides

record DecidedLives (fs : List Frame) (c d : Context) : Type 0 where
  context : ContextLives fs d
  limit : d.limit ≡ c.limit

calm-decided : (fs : List Frame) (c d : Context) → ContextLives fs c → is_param_limit c.limit ≡ false → is_calm d.tail ≡ true → d.limit ≡ c.limit → DecidedLives fs c d
calm-decided fs c d k n e l = record { context = fresh-lives fs d e (ap is_param_limit l ∙ n) (ap is_case_limit l ∙ k.no_case); limit = l }

decided-if : (b : Bool) (fs : List Frame) (c x y : Context) → DecidedLives fs c x → DecidedLives fs c y → DecidedLives fs c (if b then x else y)
decided-if true fs c x y p q = p
decided-if false fs c x y p q = q

signed-lives : (fs : List Frame) (c : Context) (s v : Option PrefixSign) (id : Id) → ContextLives fs c → is_param_limit c.limit ≡ false → DecidedLives fs c (with_sign c s v id)
signed-lives fs c None (Some sign) id k n = calm-decided fs c _ k n refl refl
signed-lives fs c None None id k n = calm-decided fs c _ k n refl refl
signed-lives fs c (Some s) v id k n = calm-decided fs c _ k n refl refl

new-tail-calm : (w : Place) (t : types.State) (o : Option WrittenType) (d : Option Dotted) → is_calm (new_tail w t o d) ≡ true
new-tail-calm w t (Some type) d = refl
new-tail-calm w t None (Some d) = refl
new-tail-calm w t None None = refl

decided-lives : (fs : List Frame) (c : Context) (s : Tail) (y : Symbol) (n : Newline) → ContextLives fs (at c s) → is_param_limit c.limit ≡ false → DecidedLives fs (at c s) (decided_at s (at c s) y n)
decided-lives fs c (AtSign id) y n k m =
    decided-if _ fs (at c (AtSign id)) _ _ (calm-decided fs (at c (AtSign id)) (at c (AtName id true)) k m refl refl)
    (decided-if _ fs (at c (AtSign id)) _ _ (calm-decided fs (at c (AtSign id)) (at c (AtSign id)) k m refl refl) (signed-lives fs (at c (AtSign id)) c.sign (sign_of id) id k m))
decided-lives fs c (InNew w t) y n k m = calm-decided fs (at c (InNew w t)) _ k m (new-tail-calm w t (type_of t) (dotted_of t)) refl
decided-lives fs c (AtDot prim p) y n k m =
    decided-if (is_id y) fs (at c (AtDot prim p)) _ _ (calm-decided fs (at c (AtDot prim p)) (at c (AtDot prim p)) k m refl refl) (calm-decided fs (at c (AtDot prim p)) _ k m refl refl)
decided-lives fs c (AtReturn w) y n k m =
    decided-if (is_no n && begins_expr y) fs (at c (AtReturn w)) _ _ (calm-decided fs (at c (AtReturn w)) _ k m refl refl) (calm-decided fs (at c (AtReturn w)) (at c (AtReturn w)) k m refl refl)
decided-lives fs c s y n k m = record { context = k; limit = refl }

-- ---- a parameter

no-gens : (fs : List Frame) → FramesLive fs limit.Param → in_gens fs ≡ false
no-gens [] h = refl
no-gens (f ∷ fs) h = go f.bracket h.bracket where
  go : (b : Bracket) → BracketLives b f.outer limit.Param → is_gens b ≡ false
  go (GensBracket w o dones part) k = cc
  go _ k = refl

params-live : (fs : List Frame) (o : Option State) → FramesLive fs limit.Param → AllParams fs o → AllLive o
params-live fs o h k t e =
    let r = k t e in
    subst Lives (sym r.1) (record {
      context = record { tail = calm-lives fs (params r.0) r.0 (param-calm r.0 r.2); param = λ f. record { heads = refl; operations = refl; sign = refl; tail = r.2 }; no_case = refl };
      frames = h;
    })

param-moved-live : (y : Seen) (fs : List Frame) (s : Tail) → is_decided s ≡ true → FramesLive fs limit.Param → AllLive (moved y fs (params s))
param-moved-live (AComma p) fs s e h = parted-live p fs (params s) h
param-moved-live (ClosesRound p) fs s e h = closed-live p fs (params s) h (λ k. param-element (params s) s refl e)
param-moved-live y fs s e h = params-live fs (moved y fs (params s)) h (moved-params y fs s e (no-gens fs h) refl)

param-live : (x : Lexeme) (fs : List Frame) (s : Tail) → is_param_tail s ≡ true → FramesLive fs limit.Param → AllLive (step_token x fs (params s))
param-live x fs s e h = go (in_type limit.Param s x) refl where
  go : (v : Option Tail) → in_type limit.Param s x ≡ v → AllLive (or_decided v x fs (params s))
  go (Some t) f = params-live fs (Some (state fs (params t))) h (λ u g. (t, (let same : state fs (params t) ≡ u = cc in sym same), type-params s x t e f))
  go None f =
      let d = param-decided s (symbol_of x.kind x.word) x.place.before e in
      subst (λ c. AllLive (token_at c.tail (seen x) x fs c)) (sym d.is)
      (subst AllLive (sym (token-params (seen x) x fs d.tail d.decided (no-gens fs h))) (param-moved-live (seen x) fs d.tail d.decided h))

-- ---- any item

token-live : (x : Lexeme) (fs : List Frame) (c : Context) → Stands (state fs c) → Lives (state fs c) → AllLive (step_token x fs c)
token-live x fs c k v = go (is_param_limit c.limit) refl where
  there : Context
  there = decided_at c.tail c (symbol_of x.kind x.word) x.place.before

  plain : is_param_limit c.limit ≡ false → (o : Option Tail) → in_type c.limit c.tail x ≡ o → AllLive (or_decided o x fs c)
  plain n (Some t) e = live-some (state fs (at c t)) (record { context = fresh-lives fs (at c t) (type-calm c.limit c.tail x t e) n v.context.no_case; frames = v.frames })
  plain n None e =
      let d = decided-lives fs c c.tail (symbol_of x.kind x.word) x.place.before v.context n in
      let f = decided-stands fs c (symbol_of x.kind x.word) x.place.before k in
      token-at-live there.tail (seen x) x fs there f.context (ap is_param_limit d.limit ∙ n) d.context.no_case d.context.tail (subst (FramesLive fs) (sym d.limit) v.frames)

  go : (b : Bool) → is_param_limit c.limit ≡ b → AllLive (step_token x fs c)
  go false n = plain n (in_type c.limit c.tail x) refl
  go true n =
      let l = param-limit c.limit n in
      let p = v.context.param n in
      subst (λ d. AllLive (step_token x fs d)) (sym (params-is c p l)) (param-live x fs c.tail p.tail (subst (FramesLive fs) l v.frames))

param-pair-live : (o : Place) (i : Item) (fs : List Frame) (s : Tail) → ParamDecided (decided_at s (params s) symbol.OpenCurly o.before) → AllLive (step_pair o i fs (params s))
param-pair-live o i fs s d t e =
    (let no : None ≡ Some t = sym (ap (λ u. in_state fs (decided_pair u o.before i)) d.is ∙ ap (in_state fs) (pair-params d.tail o.before i d.decided)) ∙ e in cc)

pair-live : (o : Place) (i : Item) (fs : List Frame) (c : Context) → Stands (state fs c) → Lives (state fs c) → AllLive (step_pair o i fs c)
pair-live o i fs c k v = go (is_param_limit c.limit) refl where
  there : Context
  there = decided_at c.tail c symbol.OpenCurly o.before

  go : (b : Bool) → is_param_limit c.limit ≡ b → AllLive (step_pair o i fs c)
  go false n =
      let d = decided-lives fs c c.tail symbol.OpenCurly o.before v.context n in
      context-live fs there (decided_pair there o.before i) (ap is_param_limit d.limit ∙ n) d.context.no_case (subst (FramesLive fs) (sym d.limit) v.frames) (pair-calms there o.before i)
  go true n =
      let p = v.context.param n in
      subst (λ d. AllLive (step_pair o i fs d)) (sym (params-is c p (param-limit c.limit n))) (param-pair-live o i fs c.tail (param-decided c.tail symbol.OpenCurly o.before p.tail))

pub step-lives : (s : State) (i : Item) → Stands s → Lives s → AllLive (step s i)
step-lives s (OneToken x) k v = token-live x s.frames s.context k v
step-lives s (BlockPair o block p) k v = pair-live o (BlockPair o block p) s.frames s.context k v
step-lives s (CasesPair o cases p) k v = pair-live o (CasesPair o cases p) s.frames s.context k v
step-lives s (EnumsPair o enums p) k v = pair-live o (EnumsPair o enums p) s.frames s.context k v
step-lives s (OtherPair o xs p) k v = live-none

-- ---- runs

-- what can be completed
pub record Keeps (s : State) : Type 0 where
  pub stands : Stands s
  pub lives : Lives s

pub begun-keeps : Keeps (begun limit.Expr)
begun-keeps = record {
  stands = begun-stands limit.Expr;
  lives = record { context = record { tail = tt; param = λ e. (let no : false ≡ true = e in cc); no_case = refl }; frames = tt };
}

pub run-keeps : (is : List Item) (s t : State) → Keeps s → run step is s ≡ Some t → Keeps t
run-keeps [] s t k e = (let same : s ≡ t = cc in subst Keeps same k)
run-keeps (i ∷ is) s t k e = go (step s i) refl e (λ u f. run-keeps is u t (record { stands = step-stands s i k.stands u f; lives = step-lives s i k.stands k.lives u f })) where
  go : (o : Option State) → step s i ≡ o → onward o None (run step is) ≡ Some t → ((u : State) → step s i ≡ Some u → run step is u ≡ Some t → Keeps t) → Keeps t
  go None f g on = cc
  go (Some u) f g on = on u f g
