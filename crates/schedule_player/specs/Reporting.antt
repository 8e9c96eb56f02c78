-- Reporters that are told of more checks.
use Rattle.std.specs.Prelude.{ℕ, List, Option}
use Rattle.std.specs.declared.alloc.Global.{Global}
use Rattle.std.specs.declared.dyn_box.DynBox.{DynBox}
use Rattle.report_hub.specs.Telling.{Finding}
use Rattle.report_hub.specs.Hub.{OfEach, IsToldMost}

module _ {Kind : Type 0} {At : Kind → Type 0} where
  -- Who was told the findings before, since some time, is now told those after, since then.
  pub record KeepsTold (told : DynBox Kind Global At → List Finding) (faults : DynBox Kind Global At → ℕ)
      (before : List Finding) (old : List (Option (DynBox Kind Global At))) (after : List Finding) (new : List (Option (DynBox Kind Global At))) : Type 0 where
    pub keeps : (start : List (Option (DynBox Kind Global At))) → OfEach (IsToldMost told faults before) start old → OfEach (IsToldMost told faults after) start new
