-- Events that settle nothing leave all tickets unsettled.
use Rattle.std.proofs.Common.{◌≡◌, ℕ, true, false, ◌||◌, if◌then◌else◌, List, [], ◌∷◌, ◌++◌, refl, ◌∙◌}
use Rattle.std.specs.List.{list_any}
use Rattle.std.proofs.lemmas.List.Folds.{list_any-append}
use Rattle.ask_history.specs.Journal.{is_settled, is_cancelled, settles}
use Rattle.ask_history.specs.declared.events.Event.{Event}
use Rattle.ask_history.specs.declared.events.Event.TheVariants.{Cancel}
use Rattle.work_queue.specs.Queue.{cancelling}

pub is_settled-unsettled : (journal events : List Event) (t : ℕ) → is_settled journal t ≡ false → list_any (settles t) events ≡ false → is_settled (journal ++ events) t ≡ false
is_settled-unsettled journal events t h k = list_any-append (settles t) journal events ∙ (λ j. h j || k j)

pub cancelling-unsettled : (journal : List Event) (ticket t : ℕ) → list_any (settles t) (cancelling journal ticket) ≡ false
cancelling-unsettled journal ticket t =
    elim (is_settled journal ticket || is_cancelled journal ticket) as (λ b. list_any (settles t) (if b then [] else Cancel ticket ∷ []) ≡ false) [ true ↦ refl | false ↦ refl ]
