-- The parts of a core.
use Rattle.std.proofs.Common.{◌≡◌, List, [], ◌∷◌, ◌++◌, Result, Ok, Err, IsOk, OnOk, refl, ap}
use Rattle.std.proofs.lemmas.Bool.{false≢true}
use Rattle.compiler_loop.specs.declared.tasks.NewFile.{NewFile}
use Rattle.compiler_loop.specs.CoreParts.{pairs_of}

pub pairs_of_push : (files : List NewFile) (file : NewFile) → pairs_of (files ++ file ∷ []) ≡ pairs_of files ++ (file.name, file.source.text) ∷ []
pairs_of_push [] file = refl
pairs_of_push (first ∷ files) file = ap (λ rest. (first.name, first.source.text) ∷ rest) (pairs_of_push files file)

-- what a call that cannot fail ensures
pub of_ok : {T E P : Type 0} (r : Result T E) → IsOk r → OnOk r P → P
of_ok (Ok x) ok p = p
of_ok (Err e) ok p = absurd (false≢true ok)
