-- Two paths are equal exactly where `==` says so.
use Rattle.std.proofs.Common.{◌≡◌, Decides, refl, ap}
use denote.Enum.Bare.{same_true, true_same}
use Rattle.std.proofs.lemmas.Slice.Eq.{bytes_eq-Decides, slice_eq-Decides}
use Rattle.std.proofs.lemmas.Bool.Decides.{Decides-eqb, Decides-and}
use Rattle.pc_terms.specs.contracts.symbols.SymKind as kind
use Rattle.pc_terms.specs.contracts.symbols.SymKindPartialEq.TheImpl as kinds
use Rattle.pc_terms.specs.contracts.symbols.SymStepPartialEq.TheImpl as steps
use Rattle.pc_terms.specs.declared.symbols.SymKind.{SymKind}
use Rattle.pc_terms.specs.declared.symbols.SymPath.{SymPath}
use Rattle.pc_terms.specs.declared.symbols.SymStep.{SymStep}
use Rattle.type_substitution.specs.Substitution.{path_eq}

kind-exact : (x y : SymKind) → Decides ((kinds.ghosts).eq x y) (x ≡ y)
kind-exact x y = (same_true kind.the_type tt x y, true_same kind.the_type x y)

pub step-exact : (x y : SymStep) → Decides ((steps.ghosts).eq x y) (x ≡ y)
step-exact x y =
    let fields = Decides-and _ _ (kind-exact x.kind y.kind) (Decides-and _ _ (bytes_eq-Decides x.name y.name) (Decides-eqb x.ordinal y.ordinal)) in (
      λ h. let p = fields.0 h in λ i. record { kind = p.0 i; name = p.1.0 i; ordinal = p.1.1 i },
      λ e. fields.1 (ap (λ s. s.kind) e, (ap (λ s. s.name) e, ap (λ s. s.ordinal) e)),
    )

pub path-exact : (x y : SymPath) → Decides (path_eq x y) (x ≡ y)
path-exact x y =
    let same = slice_eq-Decides step-exact x.steps y.steps _ refl in
    (λ h i. record { steps = same.0 h i }, λ e. same.1 (ap (λ p. p.steps) e))
