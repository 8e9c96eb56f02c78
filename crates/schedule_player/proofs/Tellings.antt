-- Reporters that are told of more checks.
use Rattle.std.proofs.Common.{◌≡◌, ℕ, List, [], ◌∷◌, ◌++◌, Option, sym, subst}
use Rattle.std.specs.declared.alloc.Global.{Global}
use Rattle.std.specs.declared.dyn_box.DynBox.{DynBox}
use Rattle.report_hub.specs.Telling.{Finding}
use Rattle.report_hub.specs.Hub.{OfEach, IsTold, IsToldMost}
use Rattle.report_hub.proofs.Reports.{OfEach-told_none, OfEach-told_more}
use Rattle.schedule_player.specs.Reporting.{KeepsTold}

module _ {Kind : Type 0} {At : Kind → Type 0} {told : DynBox Kind Global At → List Finding} {faults : DynBox Kind Global At → ℕ} where
  pub told_still : {f f' : List Finding} {r r' : List (Option (DynBox Kind Global At))} → f' ≡ f → r' ≡ r → KeepsTold told faults f r f' r'
  told_still {f} {f'} {r} {r'} e d = record {
    keeps = λ start h. subst (λ x. OfEach (IsToldMost told faults x) start r') (sym e) (subst (λ x. OfEach (IsToldMost told faults f) start x) (sym d) h);
  }

  pub told_then : {f g h : List Finding} {r s t : List (Option (DynBox Kind Global At))} → KeepsTold told faults f r g s → KeepsTold told faults g s h t → KeepsTold told faults f r h t
  told_then a b = record { keeps = λ start k. b.keeps start (a.keeps start k) }

  pub told_one : {f f' : List Finding} {r s s' : List (Option (DynBox Kind Global At))} (finding : Finding) → f' ≡ f ++ finding ∷ [] → s ≡ r → OfEach (IsTold told faults finding) s s' → KeepsTold told faults f r f' s'
  told_one {f} {f'} {r} {s} {s'} finding e d one = record {
    keeps = λ start h. subst (λ x. OfEach (IsToldMost told faults x) start s') (sym e)
        (OfEach-told_more told faults f finding start s s' (subst (λ x. OfEach (IsToldMost told faults f) start x) (sym d) h) one);
  }

-- from the first report on
pub told_from : {Kind : Type 0} {At : Kind → Type 0} (told : DynBox Kind Global At → List Finding) (faults : DynBox Kind Global At → ℕ) (f : List Finding) (r r' : List (Option (DynBox Kind Global At)))
    → KeepsTold told faults [] r f r' → OfEach (IsToldMost told faults f) r r'
told_from told faults f r r' keeps = keeps.keeps r (OfEach-told_none told faults r)
