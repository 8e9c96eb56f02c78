-- Linearisations under the values that are known.
use Rattle.std.proofs.Common.{◌≡◌, ℕ, zero, suc, ◌+◌, ◌≤◌, ◌-◌, List, [], ◌∷◌, refl, sym, ap, subst, ◌∙◌, arith}
use Rattle.item_questions.specs.Questions.{Gives, Answer, Known, Needs, AtCyclic, Infos, run, bind}
use Rattle.item_questions.proofs.Answers.{needs≢known, cyclic≢known, known-injective}
use Rattle.pc_terms.specs.declared.items.Item.{Item}
use Rattle.pc_terms.specs.declared.items.ItemValue.{ItemValue}
use Rattle.pc_terms.specs.declared.symbols.SymPath.{SymPath}
use Rattle.pc_terms.specs.declared.types.Ty.{Ty}
use Rattle.item_answers.specs.Asking.{each}
use Rattle.item_answers.proofs.Binding.{followed_by, run-bind}
use Rattle.class_parents.specs.Parents.{classes_of, followed}
use Rattle.class_parents.specs.Linearisation.{behind_each_other, linearised}

-- where a question stops, but for want of steps
pub data Halt : Type 0 where
  Lacks : Item → Halt
  Circles : Item → Halt

abbrev pub halted : {A : Type 0} → Halt → Answer Item A
halted (Lacks k) = Needs k
halted (Circles k) = AtCyclic k

pub halted-after : {A B : Type 0} (h : Halt) (next : A → Answer Item B) → followed_by (halted h) next ≡ halted h
halted-after (Lacks k) next = refl
halted-after (Circles k) next = refl

followed_by-known : {A B : Type 0} (r : Answer Item A) (next : A → Answer Item B) (b : B) → followed_by r next ≡ Known b
    → (a : A) × (r ≡ Known a) × (next a ≡ Known b)
followed_by-known (Known a) next b h = (a, refl, h)
followed_by-known (Needs k) next b h = absurd (needs≢known k b h)
followed_by-known (AtCyclic k) next b h = absurd (cyclic≢known k b h)

plus-zero : (n : ℕ) → n ≡ zero + n
plus-zero n = omega arith

plus-suc : (more n : ℕ) → suc (more + n) ≡ suc more + n
plus-suc more n = omega arith

module _ (known : Infos Item ItemValue) where
  -- the parents of a class, its linearisation and those of several classes, in what is known
  abbrev pub parents_at : SymPath → Answer Item (List Ty)
  parents_at class = run known (followed class)

  abbrev pub line : ℕ → SymPath → Answer Item (List SymPath)
  line n class = run known (linearised n class)

  abbrev pub lines : ℕ → List SymPath → Answer Item (List (List SymPath))
  lines n classes = run known (each (linearised n) classes)

  abbrev ends : SymPath → List (List SymPath) → Answer Item (List SymPath)
  ends class lists = Known (class ∷ behind_each_other lists)

  abbrev continues : ℕ → SymPath → List Ty → Answer Item (List SymPath)
  continues n class types = followed_by (lines n (classes_of types)) (ends class)

  line-is : (n : ℕ) (class : SymPath) → line (suc n) class ≡ followed_by (parents_at class) (continues n class)
  unfolding linearised
  line-is n class =
      run-bind known (followed class) (λ types. bind (each (linearised n) (classes_of types)) (λ lists. Gives (class ∷ behind_each_other lists)))
      ∙ ap (followed_by (parents_at class))
      (λ i types. run-bind known (each (linearised n) (classes_of types)) (λ lists. Gives (class ∷ behind_each_other lists)) i)

  pub endless-line : (class : SymPath) (l : List SymPath) → line zero class ≡ Known l → ⊥
  unfolding linearised
  endless-line class l h = cyclic≢known _ l h

  abbrev adds : ℕ → List SymPath → List SymPath → Answer Item (List (List SymPath))
  adds n classes first = followed_by (lines n classes) (λ lists. Known (first ∷ lists))

  lines-is : (n : ℕ) (class : SymPath) (classes : List SymPath) → lines n (class ∷ classes) ≡ followed_by (line n class) (adds n classes)
  lines-is n class classes =
      run-bind known (linearised n class) (λ first. bind (each (linearised n) classes) (λ lists. Gives (first ∷ lists)))
      ∙ ap (followed_by (line n class)) (λ i first. run-bind known (each (linearised n) classes) (λ lists. Gives (first ∷ lists)) i)

  -- ---- what follows

  pub line-known : (n : ℕ) (class : SymPath) (types : List Ty) (lists : List (List SymPath)) → parents_at class ≡ Known types
      → lines n (classes_of types) ≡ Known lists → line (suc n) class ≡ Known (class ∷ behind_each_other lists)
  line-known n class types lists h g =
      line-is n class ∙ ap (λ r. followed_by r (continues n class)) h ∙ ap (λ r. followed_by r (ends class)) g

  pub line-halts : (n : ℕ) (class : SymPath) (halt : Halt) → parents_at class ≡ halted halt → line (suc n) class ≡ halted halt
  line-halts n class halt h = line-is n class ∙ ap (λ r. followed_by r (continues n class)) h ∙ halted-after halt (continues n class)

  pub line-halts-later : (n : ℕ) (class : SymPath) (types : List Ty) (halt : Halt) → parents_at class ≡ Known types
      → lines n (classes_of types) ≡ halted halt → line (suc n) class ≡ halted halt
  line-halts-later n class types halt h g =
      line-is n class ∙ ap (λ r. followed_by r (continues n class)) h ∙ ap (λ r. followed_by r (ends class)) g ∙ halted-after halt (ends class)

  pub lines-known : (n : ℕ) (class : SymPath) (classes first : List SymPath) (lists : List (List SymPath)) → line n class ≡ Known first
      → lines n classes ≡ Known lists → lines n (class ∷ classes) ≡ Known (first ∷ lists)
  lines-known n class classes first lists h g =
      lines-is n class classes ∙ ap (λ r. followed_by r (adds n classes)) h ∙ ap (λ r. followed_by r (λ lists. Known (first ∷ lists))) g

  pub lines-halts : (n : ℕ) (class : SymPath) (classes : List SymPath) (halt : Halt) → line n class ≡ halted halt
      → lines n (class ∷ classes) ≡ halted halt
  lines-halts n class classes halt h = lines-is n class classes ∙ ap (λ r. followed_by r (adds n classes)) h ∙ halted-after halt (adds n classes)

  pub lines-halts-later : (n : ℕ) (class : SymPath) (classes first : List SymPath) (halt : Halt) → line n class ≡ Known first
      → lines n classes ≡ halted halt → lines n (class ∷ classes) ≡ halted halt
  lines-halts-later n class classes first halt h g =
      lines-is n class classes ∙ ap (λ r. followed_by r (adds n classes)) h
      ∙ ap (λ r. followed_by r (λ lists. Known (first ∷ lists))) g ∙ halted-after halt (λ lists. Known (first ∷ lists))

  -- ---- more room changes nothing

  abbrev KeepsLines : ℕ → Type 0
  KeepsLines n = (class : SymPath) (l : List SymPath) → line n class ≡ Known l → line (suc n) class ≡ Known l

  lines-more : (n : ℕ) → KeepsLines n → (classes : List SymPath) (lists : List (List SymPath)) → lines n classes ≡ Known lists
      → lines (suc n) classes ≡ Known lists
  lines-more n keeps [] lists h = h
  lines-more n keeps (class ∷ classes) lists h =
      let first = followed_by-known (line n class) (adds n classes) lists (sym (lines-is n class classes) ∙ h) in
      let others = followed_by-known (lines n classes) (λ lists. Known (first.0 ∷ lists)) lists first.2 in
      lines-known (suc n) class classes first.0 others.0 (keeps class first.0 first.1) (lines-more n keeps classes others.0 others.1) ∙ others.2

  pub line-more : (n : ℕ) → KeepsLines n
  line-more zero class l h = absurd (endless-line class l h)
  line-more (suc n) class l h =
      let types = followed_by-known (parents_at class) (continues n class) l (sym (line-is n class) ∙ h) in
      let lists = followed_by-known (lines n (classes_of types.0)) (ends class) l types.2 in
      line-known (suc n) class types.0 lists.0 types.1 (lines-more n (line-more n) (classes_of types.0) lists.0 lists.1) ∙ lists.2

  -- ---- what a linearisation is made of

  pub line-is-known : (n : ℕ) (class : SymPath) (l : List SymPath) → line (suc n) class ≡ Known l
      → (types : List Ty) × (lists : List (List SymPath)) × (parents_at class ≡ Known types) × (lines n (classes_of types) ≡ Known lists)
      × (l ≡ class ∷ behind_each_other lists)
  line-is-known n class l h =
      let types = followed_by-known (parents_at class) (continues n class) l (sym (line-is n class) ∙ h) in
      let lists = followed_by-known (lines n (classes_of types.0)) (ends class) l types.2 in
      (types.0, lists.0, types.1, lists.1, sym (known-injective (class ∷ behind_each_other lists.0) l lists.2))

  pub lines-first : (n : ℕ) (class : SymPath) (classes : List SymPath) (lists : List (List SymPath)) → lines n (class ∷ classes) ≡ Known lists
      → (first : List SymPath) × (others : List (List SymPath)) × (line n class ≡ Known first) × (lines n classes ≡ Known others)
      × ((first ∷ others) ≡ lists)
  lines-first n class classes lists h =
      let first = followed_by-known (line n class) (adds n classes) lists (sym (lines-is n class classes) ∙ h) in
      let others = followed_by-known (lines n classes) (λ lists. Known (first.0 ∷ lists)) lists first.2 in
      (first.0, others.0, first.1, others.1, known-injective (first.0 ∷ others.0) lists others.2)

  lines-plus : (more n : ℕ) (classes : List SymPath) (lists : List (List SymPath)) → lines n classes ≡ Known lists → lines (more + n) classes ≡ Known lists
  lines-plus zero n classes lists h = subst (λ k. lines k classes ≡ Known lists) (plus-zero n) h
  lines-plus (suc more) n classes lists h =
      subst (λ k. lines k classes ≡ Known lists) (plus-suc more n) (lines-more (more + n) (line-more (more + n)) classes lists (lines-plus more n classes lists h))

  pub lines-at : (few many : ℕ) (classes : List SymPath) (lists : List (List SymPath)) → few ≤ many → lines few classes ≡ Known lists
      → lines many classes ≡ Known lists
  lines-at few many classes lists le h = subst (λ n. lines n classes ≡ Known lists) (omega (arith, le)) (lines-plus (many - few) few classes lists h)

  line-plus : (more n : ℕ) (class : SymPath) (l : List SymPath) → line n class ≡ Known l → line (more + n) class ≡ Known l
  line-plus zero n class l h = subst (λ k. line k class ≡ Known l) (plus-zero n) h
  line-plus (suc more) n class l h = subst (λ k. line k class ≡ Known l) (plus-suc more n) (line-more (more + n) class l (line-plus more n class l h))

  pub line-at : (few many : ℕ) (class : SymPath) (l : List SymPath) → few ≤ many → line few class ≡ Known l → line many class ≡ Known l
  line-at few many class l le h = subst (λ n. line n class ≡ Known l) (omega (arith, le)) (line-plus (many - few) few class l h)
