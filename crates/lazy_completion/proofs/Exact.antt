-- Two items are equal exactly where `==` says so.
use Rattle.std.proofs.Common.{◌≡◌, ℕ, Bool, true, false, ◌&&◌, List, Decides, refl, sym, ap, ◌∙◌, true≢false, subst, not, eqb, T}
use denote.Enum.Bare.{same_true, true_same}
use Rattle.std.proofs.lemmas.Slice.Eq.{bytes_eq-Decides, slice_eq-Decides}
use Rattle.std.proofs.lemmas.Bool.Decides.{Decides-eqb}
use Rattle.item_questions.specs.Rounds.{IsExact}
use Rattle.pc_terms.specs.declared.symbols.SymPath.{SymPath}
use Rattle.pc_terms.specs.declared.items.Item.{Item}
use Rattle.pc_terms.specs.declared.items.Item.TheVariants as item
use Rattle.pc_terms.specs.contracts.symbols.SymKind as kind
use Rattle.pc_terms.specs.contracts.symbols.SymKindPartialEq.TheImpl as kinds
use Rattle.pc_terms.specs.contracts.symbols.SymStepPartialEq.TheImpl as steps
use Rattle.pc_terms.specs.contracts.symbols.SymPathPartialEq.TheImpl as paths
use Rattle.lazy_completion.specs.Fitting.{item_eq}

both : {P Q : Type 0} (a b : Bool) → Decides a P → Decides b Q → Decides (a && b) (P × Q)
both true b p q = (λ h. (p.0 refl, q.0 h), λ h. q.1 h.1)
both false b p q = (λ h. absurd (true≢false (sym h)), λ h. p.1 h.0)

kind-exact : IsExact ((kinds.ghosts).eq)
kind-exact x y = (same_true kind.the_type tt x y, true_same kind.the_type x y)

step-exact : IsExact ((steps.ghosts).eq)
step-exact x y =
    let fields = both _ _ (kind-exact x.kind y.kind) (both _ _ (bytes_eq-Decides x.name y.name) (Decides-eqb x.ordinal y.ordinal)) in (
      λ h. let p = fields.0 h in λ i. record { kind = p.0 i; name = p.1.0 i; ordinal = p.1.1 i },
      λ e. fields.1 (ap (λ s. s.kind) e, (ap (λ s. s.name) e, ap (λ s. s.ordinal) e)),
    )

path-exact : IsExact ((paths.ghosts).eq)
path-exact x y =
    let same = slice_eq-Decides step-exact x.steps y.steps _ refl in
    (λ h i. record { steps = same.0 h i }, λ e. same.1 (ap (λ p. p.steps) e))

abbrev path_or : Item → SymPath → SymPath
path_or (item.Parents p) other = p
path_or (item.Signature p) other = p
path_or (item.Qualifier f n) other = other

abbrev file_or : Item → List ℕ → List ℕ
file_or (item.Qualifier f n) other = f
file_or _ other = other

abbrev byte_or : Item → ℕ → ℕ
byte_or (item.Qualifier f n) other = n
byte_or _ other = other

abbrev sort : Item → ℕ
sort (item.Parents p) = 0
sort (item.Signature p) = 1
sort (item.Qualifier f n) = 2

differ : (m n : ℕ) → m ≡ n → T (not (eqb m n)) → ⊥
differ m n e t = subst T (ap not (sym (ap (eqb m) e) ∙ eqb_same m)) t
  where
    eqb_same : (m : ℕ) → eqb m m ≡ true
    eqb_same m = (Decides-eqb m m).1 refl

pub item-exact : IsExact item_eq
item-exact (item.Parents x) (item.Parents y) = let same = path-exact x y in (λ h. ap item.Parents (same.0 h), λ e. same.1 (ap (λ k. path_or k x) e))
item-exact (item.Signature x) (item.Signature y) = let same = path-exact x y in (λ h. ap item.Signature (same.0 h), λ e. same.1 (ap (λ k. path_or k x) e))
item-exact (item.Qualifier f m) (item.Qualifier h n) =
    let same = both _ _ (bytes_eq-Decides f h) (Decides-eqb m n) in
    (λ e. let p = same.0 e in λ i. item.Qualifier (p.0 i) (p.1 i), λ e. same.1 (ap (λ k. file_or k f) e, ap (λ k. byte_or k m) e))
item-exact (item.Parents x) (item.Signature y) = (λ h. absurd (true≢false (sym h)), λ e. absurd (differ 0 1 (ap sort e) tt))
item-exact (item.Parents x) (item.Qualifier f n) = (λ h. absurd (true≢false (sym h)), λ e. absurd (differ 0 2 (ap sort e) tt))
item-exact (item.Signature x) (item.Parents y) = (λ h. absurd (true≢false (sym h)), λ e. absurd (differ 1 0 (ap sort e) tt))
item-exact (item.Signature x) (item.Qualifier f n) = (λ h. absurd (true≢false (sym h)), λ e. absurd (differ 1 2 (ap sort e) tt))
item-exact (item.Qualifier f n) (item.Parents y) = (λ h. absurd (true≢false (sym h)), λ e. absurd (differ 2 0 (ap sort e) tt))
item-exact (item.Qualifier f n) (item.Signature y) = (λ h. absurd (true≢false (sym h)), λ e. absurd (differ 2 1 (ap sort e) tt))
