-- Ends of lines.
use Rattle.std.proofs.Common.{◌≡◌, ℕ, Bool, true, false, not, ◌&&◌, if◌then◌else◌, List, [], ◌∷◌, ◌++◌, All, Some, refl, sym, ap, ◌∙◌, subst}
use Rattle.std.proofs.lemmas.List.Elements.{All-head}
use Rattle.ask_history.specs.Journal.{is_closed, is_open}
use Rattle.ask_history.specs.Plain.{mark_of}
use Rattle.ask_history.specs.Schedule.{settle_open}
use Rattle.ask_history.specs.declared.events.Mark.{Mark}
use Rattle.ask_history.specs.declared.events.Event.{Event}
use Rattle.ask_history.specs.declared.events.Event.TheVariants.{Settle}
use Rattle.ask_history.proofs.Underway.{Holds, is_among}
use Rattle.schedule_player.specs.Around.{HasMark, HasMarks, ending, asks_of, top_work}
use Rattle.schedule_player.specs.Steps.{Ends, top_ask}
use Rattle.schedule_player.specs.declared.outers.Work.{Work}
use Rattle.schedule_player.specs.declared.outers.Work.TheVariants.{Ask, Beside, Passed}
use Rattle.schedule_player.specs.declared.outers.Outer.{Outer}
use Rattle.schedule_player.proofs.Served.{all_front, all_back}
use Rattle.schedule_player.proofs.Tops.{work_is}

pub marks_front : (without : List ℕ) (journal more : List Event) → HasMarks without (journal ++ more) → HasMarks without journal
marks_front without journal more h = all_front (HasMark without) journal more h

pub mark_last : (without : List ℕ) (journal : List Event) (ticket : ℕ) (m : Mark) → HasMarks without (journal ++ Settle ticket m ∷ []) → mark_of without ticket ≡ m
mark_last without journal ticket m h = All-head (HasMark without) (Settle ticket m) [] (all_back (HasMark without) journal (Settle ticket m ∷ []) h)

module _ (outers : List Outer) (ticket : ℕ) (fed : Bool) (top : top_ask outers ≡ Some (ticket, fed)) (journal : List Event) where
  ask_ending : (without : List ℕ) → ending without (top_work outers) [] journal ≡ settle_open ticket (mark_of without ticket) journal
  ask_ending without = ap (λ w. ending without w [] journal) (work_is (top_work outers) ticket fed top).1

  -- where the session is shut down, the ask is settled
  pub ends_closed : Holds (asks_of outers) journal → is_closed journal ≡ true → Ends (top_work outers) journal journal
  ends_closed holds closed = record {
    marks = λ without h. h;
    ends = λ without h. ask_ending without
        ∙ ap (λ b. if b then journal ++ Settle ticket (mark_of without ticket) ∷ [] else journal)
        (holds.opens ticket ∙ ap (λ b. not b && is_among (asks_of outers) ticket) closed);
  }

  -- and else it is settled now
  pub ends_settled : (m : Mark) → is_open journal ticket ≡ true → Ends (top_work outers) journal (journal ++ Settle ticket m ∷ [])
  ends_settled m open_ = record {
    marks = λ without h. marks_front without journal (Settle ticket m ∷ []) h;
    ends = λ without h. ask_ending without
        ∙ ap (λ b. if b then journal ++ Settle ticket (mark_of without ticket) ∷ [] else journal) open_
        ∙ ap (λ k. journal ++ Settle ticket k ∷ []) (mark_last without journal ticket m h);
  }
