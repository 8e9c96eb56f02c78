-- Turns of the ask on top.
use Rattle.std.proofs.Common.{◌≡◌, ℕ, ◌||◌, Bool, true, false, not, List, [], ◌∷◌, ◌++◌, Option, Some, None, refl, sym, ap, ◌∙◌, subst, append-nil, true≢false}
use Rattle.pc_terms.specs.declared.problems.Problem.{Problem}
use Rattle.ask_history.specs.Sources.{Bytes, Sources, some_of}
use Rattle.ask_history.specs.Engine.{EngineState, TurnGives, IsOnTop, IsCheckOf, files_due, is_idle}
use Rattle.ask_history.specs.declared.calls.Call.{Call}
use Rattle.ask_history.specs.declared.answers.Answer.{Answer}
use Rattle.ask_history.specs.declared.engine.Turn.{Turn}
use Rattle.ask_history.specs.declared.engine.Turn.TheVariants as turn

module _ {A : Type 0} where
  pub not_empty : (below : List A) (x : A) → below ++ x ∷ [] ≡ [] → ⊥
  not_empty [] x h = cc
  not_empty (b ∷ below) x h = cc

  pub last_same : (below below' : List A) (x y : A) → below ++ x ∷ [] ≡ below' ++ y ∷ [] → x ≡ y
  last_same [] [] x y h = cc
  last_same [] (b ∷ below') x y h = let gone : [] ≡ below' ++ y ∷ [] = cc in absurd (not_empty below' y (sym gone))
  last_same (b ∷ below) [] x y h = let gone : below ++ x ∷ [] ≡ [] = cc in absurd (not_empty below x gone)
  last_same (b ∷ below) (b' ∷ below') x y h = let same : below ++ x ∷ [] ≡ below' ++ y ∷ [] = cc in last_same below below' x y same

module _ (answer_of : Sources → Call → Answer) (problems_of : Sources → Bytes → List Problem) where
  -- where an ask is on top, a turn changes nothing that is seen
  pub same_on_top : (old new : EngineState) (t : Turn) (ask : ℕ × Call) → TurnGives answer_of problems_of old t new → IsOnTop old.asks ask → new ≡ old
  same_on_top old new turn.Safe ask gives top = gives.1
  same_on_top old new (turn.Ready ticket found) ask gives top = gives.1
  same_on_top old new (turn.Checked file problems) ask gives top = absurd (not_empty top.0 ask (sym top.1 ∙ gives.0.0))
  same_on_top old new turn.Idle ask gives top = gives.1
  same_on_top old new (turn.NoMemory ticket) ask gives top = gives.1
  same_on_top old new (turn.CheckNoMemory file) ask gives top = absurd (not_empty top.0 ask (sym top.1 ∙ gives.0.0))

  -- and what is ready is the answer of that ask
  pub ready_on_top : (old new : EngineState) (ticket : ℕ) (found : Answer) (ask : ℕ × Call) → TurnGives answer_of problems_of old (turn.Ready ticket found) new → IsOnTop old.asks ask
      → found ≡ answer_of old.sources ask.1
  ready_on_top old new ticket found ask gives top =
      let there = gives.0 in
      let same : (ticket, there.0) ≡ ask = last_same there.1.0 top.0 (ticket, there.0) ask (sym there.1.1 ∙ top.1) in
      there.2 ∙ ap (λ a. answer_of old.sources a.1) same

  -- no turn stages anything
  pub staged_still : (old new : EngineState) (t : Turn) → TurnGives answer_of problems_of old t new → old.staged ≡ None → new.staged ≡ None
  staged_still old new turn.Safe gives none = ap (λ s. s.staged) gives.1 ∙ none
  staged_still old new (turn.Ready ticket found) gives none = ap (λ s. s.staged) gives.1 ∙ none
  staged_still old new (turn.Checked file problems) gives none = ap (λ s. s.staged) gives.2 ∙ none
  staged_still old new turn.Idle gives none = ap (λ s. s.staged) gives.1 ∙ none
  staged_still old new (turn.NoMemory ticket) gives none = ap (λ s. s.staged) gives.1 ∙ none
  staged_still old new (turn.CheckNoMemory file) gives none = ap (λ s. s.staged) gives.1 ∙ none

-- what a loop over turns of the ask on top keeps
pub record TurnsKeep (old now : EngineState) : Type 0 where
  pub staged : now.staged ≡ None
  pub same : (ask : ℕ × Call) → IsOnTop old.asks ask → now ≡ old

pub keep_start : (state : EngineState) → state.staged ≡ None → TurnsKeep state state
keep_start state none = record { staged = none; same = λ ask top. refl }

pub keep_more : (old now new : EngineState) → TurnsKeep old now → new.staged ≡ None → ((ask : ℕ × Call) → IsOnTop now.asks ask → new ≡ now) → TurnsKeep old new
keep_more old now new keep none same = record {
  staged = none;
  same = λ ask top. let here : now ≡ old = keep.same ask top in same ask (subst (λ s. IsOnTop s.asks ask) (sym here) top) ∙ here;
}

-- what was found for the ask on top after some turns
pub found_after : (answer_of : Sources → Call → Answer) (P : Answer → Type 0) (old now : EngineState) (ask : ℕ × Call) → TurnsKeep old now → IsOnTop old.asks ask
    → ((a : ℕ × Call) → IsOnTop now.asks a → P (answer_of now.sources a.1)) → P (answer_of old.sources ask.1)
found_after answer_of P old now ask keep top finds =
    let here : now ≡ old = keep.same ask top in
    subst (λ s. P (answer_of s.sources ask.1)) here (finds ask (subst (λ s. IsOnTop s.asks ask) (sym here) top))
