-- No two definitions have one path.
use Rattle.std.proofs.Common.{◌≡◌, ℕ, suc, ◌+◌, ◌<◌, ◌≤◌, true, cond, List, [], ◌∷◌, ◌++◌, map, length, take, drop, get_or, Option, Some, None, inl, inr, ◌⊎◌, ⊎_elim, refl, sym, ap, ◌∙◌, subst, arith}
use Rattle.std.specs.List.{count_by}
use Rattle.std.proofs.Math.Seq.{drop-cons}
use Rattle.std.proofs.lemmas.Bool.{and_parts, and_from, cases_lt, eq-eqb}
use Rattle.std.proofs.lemmas.List.{map-append, length-take, length_push, take-append-drop, append_cancel_right}
use Rattle.std.proofs.lemmas.List.Elements.{filter-append}
use Rattle.std.proofs.lemmas.List.Sums.{sum_by-cons, sum_by-append}
use Rattle.std.proofs.lemmas.Option.{slice_get-get_or}
use Rattle.std.proofs.lemmas.Slice.Eq.{bytes_eq-Decides}
use Rattle.pc_terms.specs.declared.symbols.SymKind.{SymKind}
use Rattle.pc_terms.specs.declared.symbols.SymStep.{SymStep}
use Rattle.symbol_table.specs.declared.definitions.Found.{Found}
use Rattle.symbol_table.specs.declared.definitions.Standing.{Standing}
use Rattle.symbol_table.specs.declared.name_spaces.NameSpace.{NameSpace}
use Rattle.symbol_table.specs.declared.name_spaces.NameSpace.TheVariants as space
use Rattle.symbol_table.specs.Found.{IsOwner, owner_steps, steps_of, owner_rank, has_name, is_named, all_named, kind_in, kind_of, kinds_named, is_admitted, own_step, next_found, AreNext, ArePathsApart}
use Rattle.symbol_table.specs.Owners.{may_follow, ordinal_after}
use Rattle.symbol_table.specs.Symbols.{is_def, space_of, is_same_space}
use Rattle.symbol_table.proofs.Kids.{owner_steps-more}
use Rattle.symbol_table.proofs.Seeing.{ordinal_of_def}
use Rattle.symbol_table.proofs.Places.{is_one, slice_get-last, last_step-push}

-- ---- the same step twice

pub same_space : (x : NameSpace) → is_same_space x x ≡ true
same_space space.Packages = refl
same_space space.Terms = refl
same_space space.Types = refl

-- a definition is named as its step says
pub named_itself : (before : List Found) (owner : Option ℕ) (kind : SymKind) (name : List ℕ) (standing : Standing)
    → is_named owner (space_of kind) name (next_found before owner kind name standing) ≡ true
named_itself before owner kind name standing =
    and_from _ _ (eq-eqb (owner_rank owner) (owner_rank owner) refl)
    (ap (has_name (space_of kind) name) (last_step-push (owner_steps before owner) (own_step before owner kind name))
    ∙ and_from _ _ ((bytes_eq-Decides name name).1 refl) (same_space (space_of kind)))

def_of_follower : (kinds rest : List SymKind) (kind : SymKind) → may_follow (kinds ++ kind ∷ rest) kind ≡ true → is_def kind ≡ true
def_of_follower [] rest kind h = (and_parts _ _ h).1
def_of_follower (first ∷ kinds) rest kind h = (and_parts _ _ h).1

count_through : (kinds rest : List SymKind) (kind : SymKind) → is_def kind ≡ true
    → count_by is_def (kinds ++ kind ∷ rest) ≡ count_by is_def kinds + (1 + count_by is_def rest)
count_through kinds rest kind h =
    sum_by-append is_one kinds (kind ∷ rest)
    ∙ ap (λ n. count_by is_def kinds + n) (sum_by-cons is_one kind rest ∙ ap (λ b. cond b 1 0 + count_by is_def rest) h)

-- where one has a step, another one that may follow it has a higher ordinal
clash : (kinds rest : List SymKind) (kind : SymKind) → may_follow (kinds ++ kind ∷ rest) kind ≡ true
    → ordinal_after (kinds ++ kind ∷ rest) kind ≡ ordinal_after kinds kind → ⊥
clash kinds rest kind follows same =
    let methods : is_def kind ≡ true = def_of_follower kinds rest kind follows in
    omega (arith, count_through kinds rest kind methods, ordinal_of_def (kinds ++ kind ∷ rest) kind methods, ordinal_of_def kinds kind methods, same)

-- the kinds under a name, split at one that has it
kinds_through : (before rest : List Found) (one : Found) (owner : Option ℕ) (kind : SymKind) (name : List ℕ)
    → is_named owner (space_of kind) name one ≡ true → kind_of one ≡ kind
    → kinds_named (before ++ one ∷ rest) owner kind name ≡ kinds_named before owner kind name ++ kind ∷ kinds_named rest owner kind name
kinds_through before rest one owner kind name named own =
    ap (map kind_of)
    (filter-append (is_named owner (space_of kind) name) before (one ∷ rest)
    ∙ ap (λ b. all_named before owner (space_of kind) name ++ cond b (one ∷ all_named rest owner (space_of kind) name) (all_named rest owner (space_of kind) name)) named)
    ∙ map-append kind_of (all_named before owner (space_of kind) name) (one ∷ all_named rest owner (space_of kind) name)
    ∙ ap (λ k. kinds_named before owner kind name ++ k ∷ kinds_named rest owner kind name) own

own_clash : (before rest : List Found) (owner : Option ℕ) (kind : SymKind) (name : List ℕ) (standing : Standing)
    → is_admitted (before ++ next_found before owner kind name standing ∷ rest) owner kind name ≡ true
    → (own_step (before ++ next_found before owner kind name standing ∷ rest) owner kind name).ordinal ≡ (own_step before owner kind name).ordinal → ⊥
own_clash before rest owner kind name standing admitted same =
    let one : Found = next_found before owner kind name standing in
    let kinds = kinds_through before rest one owner kind name (named_itself before owner kind name standing)
    (ap kind_in (last_step-push (owner_steps before owner) (own_step before owner kind name))) in
    clash (kinds_named before owner kind name) (kinds_named rest owner kind name) kind
    (ap (λ ks. may_follow ks kind) (sym kinds) ∙ admitted) (ap (λ ks. ordinal_after ks kind) (sym kinds) ∙ same)

-- ---- the last of a list

pub none_last : {X : Type 0} (xs : List X) (x : X) → [] ≡ xs ++ x ∷ [] → ⊥
none_last xs x e = omega (arith, ap length e, length_push xs x)

pub lasts : {X : Type 0} (xs ys : List X) (x y : X) → xs ++ x ∷ [] ≡ ys ++ y ∷ [] → x ≡ y
lasts [] [] x y e = cc
lasts [] (b ∷ ys) x y e = absurd (omega (arith, ap length e, length_push ys y))
lasts (a ∷ xs) [] x y e = absurd (omega (arith, ap length e, length_push xs x))
lasts (a ∷ xs) (b ∷ ys) x y e =
    let tails : xs ++ x ∷ [] ≡ ys ++ y ∷ [] = cc in
    lasts xs ys x y tails

pub fronts : {X : Type 0} (xs ys : List X) (x y : X) → xs ++ x ∷ [] ≡ ys ++ y ∷ [] → xs ≡ ys
fronts xs ys x y e = append_cancel_right xs ys (x ∷ []) (e ∙ ap (λ z. ys ++ z ∷ []) (sym (lasts xs ys x y e)))

-- ---- one more definition

pub split_at : (found : List Found) (at : ℕ) (d : Found) → at < length found → found ≡ take at found ++ get_or found at d ∷ drop (suc at) found
split_at found at d h = sym (take-append-drop at found) ∙ ap (λ ds. take at found ++ ds) (drop-cons found at d h)

pub earlier_owner : (found : List Found) (at : ℕ) (owner : Option ℕ) → IsOwner (take at found) owner → IsOwner found owner
earlier_owner found at None h = tt
earlier_owner found at (Some number) h = omega (arith, length-take at found)

pub steps_at : (found : List Found) (at : ℕ) (d : Found) → at < length found → owner_steps found (Some at) ≡ (get_or found at d).decl.path.steps
steps_at found at d h = ap steps_of (slice_get-get_or found at d h)

old_or_last : (found : List Found) (last : Found) (owner : Option ℕ) → IsOwner (found ++ last ∷ []) owner → IsOwner found owner ⊎ (owner ≡ Some (length found))
old_or_last found last None h = inl tt
old_or_last found last (Some number) h = ⊎_elim
    (λ (below : number < length found). inl below)
    (λ (above : length found ≤ number).
    let here : number ≡ length found = omega (arith, length_push found last) in
    inr (ap Some here))
    (cases_lt number (length found))

module _ (found : List Found) (owner : Option ℕ) (kind : SymKind) (name : List ℕ) (standing : Standing) (owned : IsOwner found owner)
    (admitted : is_admitted found owner kind name ≡ true) (nexts : AreNext found) (apart : ArePathsApart found) where
  abbrev last : Found
  last = next_found found owner kind name standing

  abbrev own : SymStep
  own = own_step found owner kind name

  -- no earlier definition has its path
  new_path : (other : Option ℕ) → IsOwner found other → owner_steps found owner ++ own ∷ [] ≡ owner_steps found other → ⊥
  new_path None h same = none_last (owner_steps found owner) own (sym same)
  new_path (Some at) h same =
      let d : Found = last in
      let next = nexts.each at d h in
      let there : owner_steps found (Some at) ≡ owner_steps (take at found) next.owner ++ own_step (take at found) next.owner next.kind next.name ∷ [] =
      steps_at found at d h ∙ ap (λ f. f.decl.path.steps) next.is in
      let one = own_step (take at found) next.owner next.kind next.name in
      let step : own ≡ one = lasts (owner_steps found owner) (owner_steps (take at found) next.owner) own one (same ∙ there) in
      let whole : take at found ++ drop at found ≡ found = take-append-drop at found in
      let above : owner_steps found next.owner ≡ owner_steps (take at found) next.owner =
      ap (λ f. owner_steps f next.owner) (sym whole) ∙ owner_steps-more (take at found) (drop at found) next.owner next.owned in
      let same_owner : owner ≡ next.owner =
      apart.each owner next.owner owned (earlier_owner found at next.owner next.owned)
      (fronts (owner_steps found owner) (owner_steps (take at found) next.owner) own one (same ∙ there) ∙ sym above) in
      let same_kind : kind ≡ next.kind = ap (λ s. s.kind) step in
      let same_name : name ≡ next.name = ap (λ s. s.name) step in
      let split : found ≡ take at found ++ next_found (take at found) next.owner next.kind next.name next.standing ∷ drop (suc at) found =
      split_at found at d h ∙ ap (λ f. take at found ++ f ∷ drop (suc at) found) next.is in
      let still : is_admitted (take at found ++ next_found (take at found) next.owner next.kind next.name next.standing ∷ drop (suc at) found) next.owner next.kind next.name ≡ true =
      (λ i. is_admitted (sym split i) (sym same_owner i) (sym same_kind i) (sym same_name i)) ∙ admitted in
      own_clash (take at found) (drop (suc at) found) next.owner next.kind next.name next.standing still
      ((λ i. (own_step (sym split i) (sym same_owner i) (sym same_kind i) (sym same_name i)).ordinal) ∙ ap (λ s. s.ordinal) step)

  last_steps : owner_steps (found ++ last ∷ []) (Some (length found)) ≡ owner_steps found owner ++ own ∷ []
  last_steps = ap steps_of (slice_get-last found last)

  -- the last one against an earlier one, or the root
  last_apart : (other : Option ℕ) → IsOwner found other → owner_steps (found ++ last ∷ []) (Some (length found)) ≡ owner_steps (found ++ last ∷ []) other → ⊥
  last_apart other h same = new_path other h (sym last_steps ∙ same ∙ owner_steps-more found (last ∷ []) other h)

  abbrev SamePath : Option ℕ → Option ℕ → Type 0
  SamePath one other = owner_steps (found ++ last ∷ []) one ≡ owner_steps (found ++ last ∷ []) other

  pub ArePathsApart-push : ArePathsApart (found ++ last ∷ [])
  ArePathsApart-push = record {
    each = λ one other h k same. ⊎_elim
        (λ (old : IsOwner found one). ⊎_elim
        (λ (older : IsOwner found other). apart.each one other old older
        (sym (owner_steps-more found (last ∷ []) one old) ∙ same ∙ owner_steps-more found (last ∷ []) other older))
        (λ (new : other ≡ Some (length found)). absurd (last_apart one old (sym (subst (λ o. SamePath one o) new same))))
        (old_or_last found last other k))
        (λ (new : one ≡ Some (length found)). ⊎_elim
        (λ (older : IsOwner found other). absurd (last_apart other older (subst (λ o. SamePath o other) new same)))
        (λ (newer : other ≡ Some (length found)). new ∙ sym newer)
        (old_or_last found last other k))
        (old_or_last found last one h);
  }

pub ArePathsApart-nil : ArePathsApart []
ArePathsApart-nil = record { each = only }
  where
    only : (one other : Option ℕ) → IsOwner [] one → IsOwner [] other → owner_steps [] one ≡ owner_steps [] other → one ≡ other
    only None None h k e = refl
    only (Some number) other h k e = absurd (omega arith)
    only one (Some number) h k e = absurd (omega arith)
