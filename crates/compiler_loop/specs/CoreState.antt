-- What callers see of a core.
use Rattle.ask_history.specs.Engine.{EngineState}
use Rattle.compiler_loop.specs.LoadedView.{files_of, checked_of, skipped_of}
use Rattle.compiler_loop.specs.CoreParts.{staged_of, asks_of}
use Rattle.compiler_loop.specs.declared.core_loop.Core.{Core}

abbrev pub state_of : Core → EngineState
state_of core = record {
  sources = files_of core.loaded;
  asks = asks_of core.tasks;
  staged = staged_of core.staged;
  checked = checked_of core.loaded;
  skipped = skipped_of core.loaded;
}
