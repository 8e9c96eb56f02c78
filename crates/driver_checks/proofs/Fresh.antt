-- An engine to which nothing was fed can be driven before a session begins.
use Rattle.std.proofs.Common.{◌≡◌, List, [], refl, sym, subst}
use Rattle.ask_history.specs.Engine.{EngineState, fresh_state}
use Rattle.counting_word.specs.declared.view.Entry.{Entry}
use Rattle.counting_word.specs.History.{journal_of}
use Rattle.engine_driver.specs.Serving.{CanDrive}

pub fresh_drives : (history : List Entry) (state : EngineState) → history ≡ [] → state ≡ fresh_state → CanDrive (journal_of history) state
fresh_drives history state none fresh =
    subst (λ (es : List Entry). CanDrive (journal_of es) state) (sym none)
    (subst (CanDrive []) (sym fresh) (record { sources = refl; asks = refl; staged = refl; files = λ file h. h }))
