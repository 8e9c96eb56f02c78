-- What a spawner over the system counts.
use Rattle.std.specs.Prelude.{ℕ}
use Rattle.pc_outside.specs.declared.thread_spawner.ThreadSpawner.{ThreadSpawner}

-- how many calls failed
abbrev pub faults_of : ThreadSpawner → ℕ
faults_of spawner = spawner.faults
