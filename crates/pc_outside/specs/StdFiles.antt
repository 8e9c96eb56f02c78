-- What files over the system count.
use Rattle.std.specs.Prelude.{ℕ}
use Rattle.pc_outside.specs.declared.std_files.StdFiles.{StdFiles}

-- how many reads failed
abbrev pub faults_of : {R : Type 0} → StdFiles R → ℕ
faults_of files = files.faults
