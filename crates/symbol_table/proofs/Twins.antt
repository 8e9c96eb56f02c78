-- Two definitions of one owner differ in their order.
use Rattle.std.proofs.Common.{◌≡◌, ℕ, suc, ◌<◌, ◌==◌, Bool, true, false, cond, ◌⊎◌, ⊎_elim, List, [], ◌∷◌, ◌++◌, map, length, take, drop, get_or, Option, refl, sym, ap, subst, ◌∙◌, arith}
use Rattle.std.specs.Cmp.Lexicographic.{slice_cmp}
use Rattle.std.specs.List.{All, filter}
use Rattle.std.specs.Ordering.{is_eq, ordering_then, nat_cmp}
use Rattle.std.specs.declared.cmp.Ordering.{Ordering}
use Rattle.std.specs.declared.cmp.Ordering.TheVariants.{Less, Equal, Greater}
use Rattle.std.proofs.lemmas.Bool.{false≢true, and_parts, and_from, cases_order, cases_Bool, eq-eqb, lt-ltb, le-ltb, ne_eqb}
use Rattle.std.proofs.lemmas.List.{get_or-take, length-take-le, take-take}
use Rattle.std.proofs.lemmas.List.Elements.{filter-append}
use Rattle.std.proofs.lemmas.Slice.Eq.{bytes_eq-Decides}
use Rattle.pc_terms.specs.declared.symbols.SymKind.{SymKind}
use Rattle.pc_terms.specs.declared.symbols.SymKind.TheVariants as symbol
use Rattle.pc_terms.specs.declared.symbols.SymStep.{SymStep}
use Rattle.symbol_table.specs.declared.definitions.Found.{Found}
use Rattle.symbol_table.specs.declared.name_spaces.NameSpace.{NameSpace}
use Rattle.symbol_table.specs.declared.name_spaces.NameSpace.TheVariants as space
use Rattle.symbol_table.specs.Found.{AreNext, ArePathsApart, owner_steps, owner_rank, has_name, is_named, kind_of, kinds_named, own_step}
use Rattle.symbol_table.specs.Order.{space_rank, step_cmp}
use Rattle.symbol_table.specs.Owners.{may_follow}
use Rattle.symbol_table.specs.Sources.{definition_in}
use Rattle.symbol_table.specs.Symbols.{is_def, space_of, is_same_space}
use Rattle.symbol_table.proofs.CaseClasses.{alone}
use Rattle.symbol_table.proofs.Filtered.{filter_none}
use Rattle.symbol_table.proofs.Numbered.{IsAmong, among, own-push, owner-among, last-among, kind-among, path-among}
use Rattle.symbol_table.proofs.PathsApart.{same_space, split_at}

-- ---- what is equal in order

numbers_equal : (a b : ℕ) → nat_cmp a b ≡ Equal → a ≡ b
numbers_equal a b e = ⊎_elim
    (λ (h : a ≡ b). h)
    (λ (n : (a < b) ⊎ (b < a)). ⊎_elim
    (λ (h : a < b). absurd (false≢true (ap is_eq (sym (ap (λ t. cond t Less (cond (a == b) Equal Greater)) (lt-ltb a b h))) ∙ ap is_eq e)))
    (λ (h : b < a). absurd (false≢true (ap is_eq (sym ((λ i. cond (le-ltb a b (omega (arith, h)) i) Less (cond (ne_eqb a b (λ s. omega (arith, h, s)) i) Equal Greater)))) ∙ ap is_eq e)))
    n)
    (cases_order a b)

then_equal : (a b : Ordering) → ordering_then a b ≡ Equal → (a ≡ Equal) × (b ≡ Equal)
then_equal Less b e = absurd (false≢true (ap is_eq e))
then_equal Equal b e = (refl, e)
then_equal Greater b e = absurd (false≢true (ap is_eq e))

names_equal : (a b : List ℕ) → slice_cmp nat_cmp a b ≡ Equal → a ≡ b
names_equal [] [] e = refl
names_equal [] (y ∷ ys) e = absurd (false≢true (ap is_eq e))
names_equal (x ∷ xs) [] e = absurd (false≢true (ap is_eq e))
names_equal (x ∷ xs) (y ∷ ys) e =
    let parts = then_equal (nat_cmp x y) (slice_cmp nat_cmp xs ys) e in
    λ i. numbers_equal x y parts.0 i ∷ names_equal xs ys parts.1 i

spaces_equal : (a b : NameSpace) → space_rank a ≡ space_rank b → a ≡ b
spaces_equal space.Packages space.Packages e = refl
spaces_equal space.Terms space.Terms e = refl
spaces_equal space.Types space.Types e = refl
spaces_equal space.Packages space.Terms e = absurd (omega arith)
spaces_equal space.Packages space.Types e = absurd (omega arith)
spaces_equal space.Terms space.Packages e = absurd (omega arith)
spaces_equal space.Terms space.Types e = absurd (omega arith)
spaces_equal space.Types space.Packages e = absurd (omega arith)
spaces_equal space.Types space.Terms e = absurd (omega arith)

-- two steps that no order tells apart
pub record AreTwins (a b : SymStep) : Type 0 where
  pub name : a.name ≡ b.name
  pub space : space_of a.kind ≡ space_of b.kind
  pub ordinal : a.ordinal ≡ b.ordinal

pub twins : (a b : SymStep) → step_cmp a b ≡ Equal → AreTwins a b
twins a b e =
    let first = then_equal (slice_cmp nat_cmp a.name b.name) _ e in
    let second = then_equal (nat_cmp (space_rank (space_of a.kind)) (space_rank (space_of b.kind))) _ first.1 in record {
      name = names_equal a.name b.name first.0;
      space = spaces_equal _ _ (numbers_equal _ _ second.0);
      ordinal = numbers_equal a.ordinal b.ordinal second.1;
    }

-- ---- twins of one owner are one

def_kind : (own : SymKind) → is_def own ≡ true → own ≡ symbol.Def
def_kind symbol.Def h = refl
def_kind _ h = absurd (false≢true h)

module _ (now : List Found) (nexts : AreNext now) (apart : ArePathsApart now) (j k : ℕ) (d : Found) (up : j < k) (h : k < length now)
    (owner : (get_or now j d).owner ≡ (get_or now k d).owner) (twin : AreTwins (definition_in (get_or now j d).decl).own (definition_in (get_or now k d).decl).own) where
  abbrev x : Found
  x = get_or now j d

  abbrev y : Found
  y = get_or now k d

  abbrev a : SymStep
  a = (definition_in x.decl).own

  abbrev b : SymStep
  b = (definition_in y.decl).own

  is_x : IsAmong now x
  is_x = among now nexts j d (omega (arith, up, h))

  is_y : IsAmong now y
  is_y = among now nexts k d h

  named_later : is_named y.owner (space_of b.kind) b.name x ≡ true
  named_later = and_from _ _ (eq-eqb _ _ (ap owner_rank owner))
      (ap (has_name (space_of b.kind) b.name) (last-among now x is_x)
      ∙ and_from _ _ ((bytes_eq-Decides a.name b.name).1 twin.name) (ap (λ s. is_same_space s (space_of b.kind)) twin.space ∙ same_space (space_of b.kind)))

  later_def : is_def b.kind ≡ true
  later_def = ⊎_elim
      (λ (yes : is_def b.kind ≡ true). yes)
      (λ (plain : is_def b.kind ≡ false).
      let within : j < length (take k now) = omega (arith, up, h, length-take-le k now (omega (arith, h))) in
      let none = alone now nexts k d h plain j d within in
      absurd (false≢true (sym none ∙ ap (is_named y.owner (space_of b.kind) b.name) (get_or-take k now j d up) ∙ named_later)))
      (cases_Bool (is_def b.kind))

  first_kind : (kinds : List SymKind) (first own : SymKind) → may_follow (first ∷ kinds) own ≡ true → is_def first ≡ true
  first_kind kinds first own e = (and_parts _ _ e).0

  earlier_def : is_def a.kind ≡ true
  earlier_def = ⊎_elim
      (λ (yes : is_def a.kind ≡ true). yes)
      (λ (plain : is_def a.kind ≡ false).
      let next = nexts.each k d h in
      let own : b ≡ own_step (take k now) next.owner next.kind next.name =
      ap (λ f. (definition_in f.decl).own) next.is ∙ own-push (owner_steps (take k now) next.owner) (own_step (take k now) next.owner next.kind next.name) in
      let low : j < length (take k now) = omega (arith, up, h, length-take-le k now (omega (arith, h))) in
      let read : get_or (take k now) j d ≡ x = get_or-take k now j d up in
      let p : Found → Bool = is_named next.owner (space_of next.kind) next.name in
      let before : All (λ z. is_named x.owner (space_of a.kind) a.name z ≡ false) (take j now) = alone now nexts j d (omega (arith, up, h)) plain in
      let same : All (λ z. p z ≡ false) (take j now) =
      subst (λ (q : Option ℕ × (NameSpace × List ℕ)). All (λ z. is_named q.0 q.1.0 q.1.1 z ≡ false) (take j now))
      (λ i. ((owner ∙ ap (λ f. f.owner) next.is) i, ((twin.space ∙ ap (λ s. space_of s.kind) own) i, (twin.name ∙ ap (λ s. s.name) own) i))) before in
      let here : p x ≡ true =
      (λ i. is_named (sym (ap (λ f. f.owner) next.is) i) (space_of (sym own i).kind) (sym own i).name x) ∙ named_later in
      let split : take k now ≡ take j now ++ x ∷ drop (suc j) (take k now) =
      split_at (take k now) j d low ∙ (λ i. taken i ++ read i ∷ drop (suc j) (take k now)) in
      let listed : kinds_named (take k now) next.owner next.kind next.name ≡ kind_of x ∷ map kind_of (filter p (drop (suc j) (take k now))) =
      ap (map kind_of) (ap (filter p) split ∙ filter-append p (take j now) (x ∷ drop (suc j) (take k now))
      ∙ (λ i. filter_none p (take j now) same i ++ cond (here i) (x ∷ filter p (drop (suc j) (take k now))) (filter p (drop (suc j) (take k now))))) in
      absurd (false≢true (sym plain ∙ ap is_def (sym (kind-among now x is_x))
      ∙ first_kind (map kind_of (filter p (drop (suc j) (take k now)))) (kind_of x) next.kind (ap (λ ks. may_follow ks next.kind) (sym listed) ∙ next.admitted))))
      (cases_Bool (is_def a.kind))
    where
      taken : take j (take k now) ≡ take j now
      taken = take-take j k now (omega (arith, up))

  -- so they have one path
  pub one_path : x.decl.path ≡ y.decl.path
  one_path =
      let own : a ≡ b = λ i. record { kind = (def_kind a.kind earlier_def ∙ sym (def_kind b.kind later_def)) i; name = twin.name i; ordinal = twin.ordinal i } in
      sym (path-among now x is_x)
      ∙ (λ i. record { steps = (owner-among now x is_x ∙ ap (owner_steps now) owner ∙ sym (owner-among now y is_y)) i ++ own i ∷ [] })
      ∙ path-among now y is_y
