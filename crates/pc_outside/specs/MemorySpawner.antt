-- Which calls on a spawner in memory fail, and what a call leaves.
use Rattle.std.specs.Prelude.{◌≡◌, ℕ, Bool, List}
use Rattle.pc_outside.specs.declared.memory_spawner.MemorySpawner.{MemorySpawner}
use Rattle.pc_outside.specs.FailurePlan.{is_planned}
use Rattle.pc_outside.specs.Counting.{one_more, faults_after_spawn}

-- the numbers of the calls that are to fail
abbrev pub failing_of : MemorySpawner → List ℕ
failing_of spawner = spawner.plan.failing.items

-- how many calls there were
abbrev pub calls_of : MemorySpawner → ℕ
calls_of spawner = spawner.plan.calls

-- how many of them failed
abbrev pub faults_of : MemorySpawner → ℕ
faults_of spawner = spawner.faults

-- whether the next call is to fail
abbrev pub next_is_planned : MemorySpawner → Bool
next_is_planned spawner = is_planned (failing_of spawner) (calls_of spawner)

-- what a call leaves after its answer
pub record Spawns (result : Bool) (old new : MemorySpawner) : Type 0 where
  pub failing : failing_of new ≡ failing_of old
  pub calls : calls_of new ≡ one_more (calls_of old)
  pub faults : faults_of new ≡ faults_after_spawn result (faults_of old)
