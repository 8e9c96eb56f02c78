-- The engine after a settling.
use Rattle.std.proofs.Common.{◌≡◌, ℕ, Bool, true, false, not, ◌||◌, ◌&&◌, ◌==◌, if◌then◌else◌, List, [], ◌∷◌, ◌++◌, map, filter, All, Option, Some, None, is_some, IsTrue, refl, sym, ap, ◌∙◌, subst, true≢false}
use Rattle.std.specs.List.{list_any}
use Rattle.std.proofs.lemmas.Bool.{eq-eqb, or_right}
use Rattle.std.proofs.lemmas.List.Elements.{filter-append, All-nil, All-cons, All-head, All-tail, All-weaker}
use Rattle.std.proofs.lemmas.List.{append-nil}
use Rattle.ask_history.specs.Sources.{Bytes, Sources, is_mutation}
use Rattle.ask_history.specs.Journal.{call_of, is_closed, is_settled, is_open, settles, after, taking_effect}
use Rattle.ask_history.specs.Engine.{EngineState, IsOnTop, is_open_in, is_staged, settled_state, mutation_settled, ask_settled}
use Rattle.ask_history.specs.declared.calls.Call.{Call}
use Rattle.ask_history.specs.declared.answers.Answer.{Answer}
use Rattle.ask_history.specs.declared.engine.Effect.TheVariants.{Applies, Dropped}
use Rattle.ask_history.specs.declared.events.Event.{Event}
use Rattle.schedule_player.specs.Around.{asks_of, fed_of, around, AreStacked}
use Rattle.schedule_player.specs.Steps.{top_ask}
use Rattle.schedule_player.specs.SessionState.{SessionState}
use Rattle.schedule_player.specs.InStep.{IsAsked, IsServed}
use Rattle.schedule_player.proofs.Tops.{fed_top, fed_among, new_top, map_last, filter_none}
use Rattle.schedule_player.proofs.Pushing.{call_stays}

-- ---- lists

pub all_front : {A : Type 0} (P : A → Type 0) (xs ys : List A) → All P (xs ++ ys) → All P xs
all_front P [] ys h = All-nil P
all_front P (x ∷ xs) ys h = All-cons P x xs (All-head P x (xs ++ ys) h) (all_front P xs ys (All-tail P x (xs ++ ys) h))

pub all_back : {A : Type 0} (P : A → Type 0) (xs ys : List A) → All P (xs ++ ys) → All P ys
all_back P [] ys h = h
all_back P (x ∷ xs) ys h = all_back P xs ys (All-tail P x (xs ++ ys) h)

-- what was asked before is asked after one event more
pub asked_stays : (journal : List Event) (event : Event) (asks : List (ℕ × Call)) → All (IsAsked journal) asks → All (IsAsked (journal ++ event ∷ [])) asks
asked_stays journal event asks h =
    All-weaker (IsAsked journal) (IsAsked (journal ++ event ∷ [])) (λ ask is. record { call = call_stays journal event ask.0 ask.1 is.call; asks = is.asks }) asks h

-- ---- the ask on top

pub record TopServed (session : SessionState) (state : EngineState) (ticket : ℕ) : Type 0 where
  pub below : List (ℕ × Call)
  pub call : Call
  pub top : state.asks ≡ below ++ (ticket, call) ∷ []
  pub fed : map (λ ask. ask.0) below ≡ fed_of (around session.outers)
  pub asked : All (IsAsked session.journal) below
  pub here : IsAsked session.journal (ticket, call)

module _ (session : SessionState) (state : EngineState) (served : IsServed session state) (live : session.closed ≡ false) where
  pub fed_live : map (λ ask. ask.0) state.asks ≡ fed_of session.outers
  fed_live = served.fed ∙ ap (λ b. if b then [] else fed_of session.outers) live

  pub top_served : (ticket : ℕ) → top_ask session.outers ≡ Some (ticket, true) → TopServed session state ticket
  top_served ticket top =
      let found = map_last state.asks (fed_of (around session.outers)) ticket (fed_live ∙ fed_top session.outers ticket true top) in
      let all = subst (All (IsAsked session.journal)) found.2 served.asked in
      record {
        below = found.0;
        call = found.1;
        top = found.2;
        fed = found.3;
        asked = all_front (IsAsked session.journal) found.0 ((ticket, found.1) ∷ []) all;
        here = All-head (IsAsked session.journal) (ticket, found.1) [] (all_back (IsAsked session.journal) found.0 ((ticket, found.1) ∷ []) all);
      }

  is_open_last : (below : List (ℕ × Call)) (ticket : ℕ) (call : Call) → is_open_in (below ++ (ticket, call) ∷ []) ticket ≡ true
  is_open_last [] ticket call = ap (λ b. b || false) (eq-eqb ticket ticket refl)
  is_open_last (ask ∷ below) ticket call = or_right (ask.0 == ticket) _ (is_open_last below ticket call)

  -- it may be settled
  pub may_settle_top : (ticket : ℕ) → top_ask session.outers ≡ Some (ticket, true) → (is_staged state.staged ticket || is_open_in state.asks ticket) ≡ true
  may_settle_top ticket top =
      let there = top_served ticket top in
      or_right (is_staged state.staged ticket) _ (ap (λ asks. is_open_in asks ticket) there.top ∙ is_open_last there.below ticket there.call)

  -- and it is taken off
  pub settled_top : (ticket : ℕ) → top_ask session.outers ≡ Some (ticket, true) → AreStacked session.outers
      → (there : TopServed session state ticket) × (settled_state state ticket Dropped ≡ record state { asks = there.below })
  settled_top ticket top stacked =
      let there = top_served ticket top in
      let none : list_any (λ u. u == ticket) (map (λ ask. ask.0) there.below) ≡ false =
      ap (list_any (λ u. u == ticket)) there.fed ∙ fed_among (around session.outers) ticket (new_top session.outers ticket true top stacked) in
      let left : filter (λ ask. not (ask.0 == ticket)) state.asks ≡ there.below =
      ap (filter (λ ask. not (ask.0 == ticket))) there.top
      ∙ filter-append (λ ask. not (ask.0 == ticket)) there.below ((ticket, there.call) ∷ [])
      ∙ (λ j. filter_none there.below ticket none j ++ (if not (eq-eqb ticket ticket refl j) then (ticket, there.call) ∷ [] else []))
      ∙ append-nil there.below in
      (there, ap (λ staged. if is_staged staged ticket then mutation_settled state Dropped staged else ask_settled state ticket) served.staged ∙ ap (λ asks. record state { asks = asks }) left)
