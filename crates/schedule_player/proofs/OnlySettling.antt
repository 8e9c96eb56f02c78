-- Settlings check nothing.
use Rattle.std.proofs.Common.{◌≡◌, ℕ, Bool, true, false, List, [], ◌∷◌, ◌++◌, ◌&&◌, refl, sym, ap, ◌∙◌, true≢false, append-nil, append_assoc}
use Rattle.std.proofs.lemmas.List.Folds.{list_all-append}
use Rattle.std.specs.List.{list_all}
use Rattle.std.proofs.lemmas.Bool.{and_parts}
use Rattle.pc_terms.specs.declared.problems.Problem.{Problem}
use Rattle.ask_history.specs.Sources.{Bytes, Sources}
use Rattle.ask_history.specs.Walk.{walk}
use Rattle.ask_history.specs.Journal.{findings, finding_step}
use Rattle.ask_history.specs.declared.events.Event.{Event}
use Rattle.ask_history.specs.declared.events.Event.TheVariants.{Accept, Cancel, Close, Settle, Checked}
use Rattle.ask_history.proofs.Walks.{walk-append}
use Rattle.schedule_player.specs.Owed.{is_settle}
use Rattle.schedule_player.specs.Steps.{OnlySettles}

module _ (problems_of : Sources → Bytes → List Problem) where
  none_found : (events before : List Event) (found : _) → list_all is_settle events ≡ true → walk (finding_step problems_of) found before events ≡ found
  none_found [] before found h = refl
  none_found (Settle ticket m ∷ events) before found h = none_found events (before ++ Settle ticket m ∷ []) found h
  none_found (Accept ticket client tag call ∷ events) before found h = absurd (true≢false (sym h))
  none_found (Cancel ticket ∷ events) before found h = absurd (true≢false (sym h))
  none_found (Close ∷ events) before found h = absurd (true≢false (sym h))
  none_found (Checked file ∷ events) before found h = absurd (true≢false (sym h))

  pub settles_find_nothing : (old new : List Event) → OnlySettles old new → findings problems_of new ≡ findings problems_of old
  settles_find_nothing old new settles =
      ap (findings problems_of) settles.more ∙ walk-append (finding_step problems_of) [] [] old settles.settlings ∙ none_found settles.settlings _ _ settles.only

pub settles_start : (journal : List Event) → OnlySettles journal journal
settles_start journal = record { settlings = []; more = sym (append-nil journal); only = refl }

pub settles_then : {old now new : List Event} → OnlySettles old now → OnlySettles now new → OnlySettles old new
settles_then {old} {now} {new} a b = record {
  settlings = a.settlings ++ b.settlings;
  more = b.more ∙ ap (λ js. js ++ b.settlings) a.more ∙ append_assoc old a.settlings b.settlings;
  only = list_all-append is_settle a.settlings b.settlings ∙ (λ j. a.only j && b.only j);
}
