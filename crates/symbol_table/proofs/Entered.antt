-- What is entered when trees are entered one after the other, and what one tree comes to.
use Rattle.std.proofs.Common.{◌≡◌, ℕ, ◌≤◌, true, false, if◌then◌else◌, ◌⊎◌, inl, inr, ⊎_elim, List, [], ◌∷◌, ◌++◌, map, length, length-append, Option, Some, None, refl, sym, ap, ◌∙◌, subst, append_assoc, append-nil, arith}
use Rattle.std.specs.List.{All, filter, flat_map}
use Rattle.std.specs.Option.{IsSomeAnd}
use Rattle.std.proofs.lemmas.Grind.{flat_map-append}
use Rattle.std.proofs.lemmas.List.{map-append}
use Rattle.std.proofs.lemmas.List.Elements.{All-nil, All-append, All-weaker, All-cons, filter-append}
use Rattle.pc_terms.specs.Bytes.{Bytes}
use Rattle.pc_terms.specs.declared.problems.Problem.{Problem}
use Rattle.positioned_trees.specs.declared.trees.Tree.{Tree}
use Rattle.symbol_table.specs.declared.definitions.Found.{Found}
use Rattle.symbol_table.specs.declared.walking.Entering.{Entering}
use Rattle.symbol_table.specs.Definitions.{decl_of, definition_at}
use Rattle.symbol_table.specs.Entering.{Enters, new_definitions, decls_of, site_qualifiers}
use Rattle.symbol_table.specs.Items.{is_live_site}
use Rattle.symbol_table.specs.Owners.{defines}
use Rattle.symbol_table.specs.Problems.{site_problems}
use Rattle.symbol_table.specs.Sites.{Site}
use Rattle.symbol_table.proofs.Below.{IsDead, IsStill}
use Rattle.symbol_table.proofs.Filtered.{filter_none, filter_all, flat_map_none}

-- ---- lists one after the other

joined : {A : Type 0} (a b c p q : List A) → b ≡ a ++ p → c ≡ b ++ q → c ≡ a ++ (p ++ q)
joined a b c p q first second = second ∙ ap (λ xs. xs ++ q) first ∙ append_assoc a p q

none_more : {A : Type 0} (a b more : List A) → b ≡ a → more ≡ [] → b ≡ a ++ more
none_more a b more same none = same ∙ sym (append-nil a) ∙ ap (λ xs. a ++ xs) (sym none)

module _ (roots : List Tree) where
  pub new-append : (xs ys : List Site) → new_definitions roots (xs ++ ys) ≡ new_definitions roots xs ++ new_definitions roots ys
  new-append xs ys =
      ap (map (definition_at roots)) (filter-append (defines roots) xs ys)
      ∙ map-append (definition_at roots) (filter (defines roots) xs) (filter (defines roots) ys)

  decls-append : (more others : List Found) (xs ys : List Site) → decls_of more ≡ map decl_of (new_definitions roots xs) → decls_of others ≡ map decl_of (new_definitions roots ys)
      → decls_of (more ++ others) ≡ map decl_of (new_definitions roots (xs ++ ys))
  decls-append more others xs ys first second =
      map-append (λ d. d.decl) more others ∙ (λ i. first i ++ second i)
      ∙ sym (ap (map decl_of) (new-append xs ys) ∙ map-append decl_of (new_definitions roots xs) (new_definitions roots ys))

  qualifiers-append : (name : Bytes) (xs ys : List Site)
      → flat_map (site_qualifiers name) (filter (is_live_site roots) (xs ++ ys))
      ≡ flat_map (site_qualifiers name) (filter (is_live_site roots) xs) ++ flat_map (site_qualifiers name) (filter (is_live_site roots) ys)
  qualifiers-append name xs ys =
      ap (flat_map (site_qualifiers name)) (filter-append (is_live_site roots) xs ys)
      ∙ flat_map-append (site_qualifiers name) (filter (is_live_site roots) xs) (filter (is_live_site roots) ys)

-- ---- owners

-- owned by this one, or by one that has at least this number
abbrev pub IsOfOwner : Option ℕ → ℕ → Found → Type 0
IsOfOwner owner least d = (d.owner ≡ owner) ⊎ IsSomeAnd d.owner (λ number. least ≤ number)

least_weaker : (least more : ℕ) → least ≤ more → (o : Option ℕ) → IsSomeAnd o (λ number. more ≤ number) → IsSomeAnd o (λ number. least ≤ number)
least_weaker least more h None w = w
least_weaker least more h (Some number) w = omega arith

of_owner_weaker : (owner : Option ℕ) (least more : ℕ) → least ≤ more → (d : Found) → IsOfOwner owner more d → IsOfOwner owner least d
of_owner_weaker owner least more h d = ⊎_elim (λ e. inl e) (λ w. inr (least_weaker least more h d.owner w))

-- ---- entered

abbrev Widens : Option ℕ → Option ℕ → Entering → Entering → Type 0
Widens other owner b a = (d : Found) → IsOfOwner other (length b.definitions.found.items) d → IsOfOwner owner (length a.definitions.found.items) d

entered_both : (roots : List Tree) (name : Bytes) (owner other : Option ℕ) (a b c : Entering) (xs ys : List Site) → Widens other owner b a
    → Enters roots name owner a b xs → Enters roots name other b c ys → Enters roots name owner a c (xs ++ ys)
entered_both roots name owner other a b c xs ys widens p q = record {
  more = p.more ++ q.more;
  found = joined _ _ _ p.more q.more p.found q.found;
  decls = decls-append roots p.more q.more xs ys p.decls q.decls;
  qualifiers = joined _ _ _ _ _ p.qualifiers q.qualifiers ∙ ap (λ zs. a.qualifiers ++ zs) (sym (qualifiers-append roots name xs ys));
  told = joined _ _ _ _ _ p.told q.told ∙ ap (λ zs. a.told ++ zs) (sym (flat_map-append (site_problems roots) xs ys));
  owners = All-append (IsOfOwner owner (length a.definitions.found.items)) p.more q.more p.owners
      (All-weaker (IsOfOwner other (length b.definitions.found.items)) (IsOfOwner owner (length a.definitions.found.items)) widens q.more q.owners);
}

pub Enters-grows : (roots : List Tree) (name : Bytes) (owner : Option ℕ) (a b : Entering) (sites : List Site) → Enters roots name owner a b sites
    → length a.definitions.found.items ≤ length b.definitions.found.items
Enters-grows roots name owner a b sites p = omega (arith, ap length p.found, length-append a.definitions.found.items p.more)

pub Enters-append : (roots : List Tree) (name : Bytes) (owner : Option ℕ) (a b c : Entering) (xs ys : List Site)
    → Enters roots name owner a b xs → Enters roots name owner b c ys → Enters roots name owner a c (xs ++ ys)
Enters-append roots name owner a b c xs ys p q =
    entered_both roots name owner owner a b c xs ys (of_owner_weaker owner _ _ (Enters-grows roots name owner a b xs p)) p q

-- what a new one owns is owned by no earlier one
pub new_above : (least more : ℕ) → least ≤ more → (d : Found) → IsOfOwner (Some least) more d → IsSomeAnd d.owner (λ number. least ≤ number)
new_above least more h d = ⊎_elim
    (λ e. subst (λ o. IsSomeAnd o (λ number. least ≤ number)) (sym e) (omega arith))
    (λ w. least_weaker least more h d.owner w)

of_new : (owner : Option ℕ) (least more : ℕ) → least ≤ more → (d : Found) → IsOfOwner (Some least) more d → IsOfOwner owner least d
of_new owner least more h d w = inr (new_above least more h d w)

-- a new definition, and then what it owns
pub Enters-through : (roots : List Tree) (name : Bytes) (owner : Option ℕ) (a b c : Entering) (site : Site) (below : List Site)
    → Enters roots name owner a b (site ∷ []) → Enters roots name (Some (length a.definitions.found.items)) b c below → Enters roots name owner a c (site ∷ below)
Enters-through roots name owner a b c site below p q =
    entered_both roots name owner (Some (length a.definitions.found.items)) a b c (site ∷ []) below
    (of_new owner _ _ (Enters-grows roots name owner a b (site ∷ []) p)) p q

pub Enters-nothing : (roots : List Tree) (name : Bytes) (owner : Option ℕ) (a : Entering) → Enters roots name owner a a []
Enters-nothing roots name owner a = record {
  more = [];
  found = sym (append-nil a.definitions.found.items);
  decls = refl;
  qualifiers = sym (append-nil a.qualifiers);
  told = sym (append-nil a.told);
  owners = All-nil (IsOfOwner owner (length a.definitions.found.items));
}

-- ---- sites of which nothing comes, or nothing but imports

pub Enters-dead : (roots : List Tree) (name : Bytes) (owner : Option ℕ) (a : Entering) (sites : List Site) → All (IsDead roots) sites → Enters roots name owner a a sites
Enters-dead roots name owner a sites dead = record {
  more = [];
  found = sym (append-nil a.definitions.found.items);
  decls = ap (λ zs. map decl_of (map (definition_at roots) zs))
      (sym (filter_none (defines roots) sites (All-weaker (IsDead roots) (λ s. defines roots s ≡ false) (λ s d. d.undefined) sites dead)));
  qualifiers = none_more a.qualifiers a.qualifiers _ refl
      (ap (flat_map (site_qualifiers name))
      (filter_none (is_live_site roots) sites (All-weaker (IsDead roots) (λ s. is_live_site roots s ≡ false) (λ s d. d.lost) sites dead)));
  told = none_more a.told a.told _ refl
      (flat_map_none (site_problems roots) sites (All-weaker (IsDead roots) (λ s. site_problems roots s ≡ []) (λ s d. d.untold) sites dead));
  owners = All-nil (IsOfOwner owner (length a.definitions.found.items));
}

pub Enters-still : (roots : List Tree) (name : Bytes) (owner : Option ℕ) (a b : Entering) (sites : List Site) → All (IsStill roots) sites
    → b ≡ record a { qualifiers = a.qualifiers ++ flat_map (site_qualifiers name) sites } → Enters roots name owner a b sites
Enters-still roots name owner a b sites still same = record {
  more = [];
  found = ap {A = Entering} (λ e. e.definitions.found.items) same ∙ sym (append-nil a.definitions.found.items);
  decls = ap (λ zs. map decl_of (map (definition_at roots) zs))
      (sym (filter_none (defines roots) sites (All-weaker (IsStill roots) (λ s. defines roots s ≡ false) (λ s d. d.undefined) sites still)));
  qualifiers = ap {A = Entering} (λ e. e.qualifiers) same
      ∙ ap (λ zs. a.qualifiers ++ flat_map (site_qualifiers name) zs)
      (sym (filter_all (is_live_site roots) sites (All-weaker (IsStill roots) (λ s. is_live_site roots s ≡ true) (λ s d. d.live) sites still)));
  told = none_more a.told b.told _ (ap {A = Entering} (λ e. e.told) same)
      (flat_map_none (site_problems roots) sites (All-weaker (IsStill roots) (λ s. site_problems roots s ≡ []) (λ s d. d.untold) sites still));
  owners = All-nil (IsOfOwner owner (length a.definitions.found.items));
}

-- ---- one site

-- a site that defines a symbol, to which this is added
pub Enters-one : (roots : List Tree) (name : Bytes) (owner : Option ℕ) (a b : Entering) (site : Site) (last : Found)
    → defines roots site ≡ true → is_live_site roots site ≡ true → site_problems roots site ≡ [] → site_qualifiers name site ≡ []
    → b.definitions.found.items ≡ a.definitions.found.items ++ last ∷ [] → b.qualifiers ≡ a.qualifiers → b.told ≡ a.told
    → last.owner ≡ owner → last.decl ≡ decl_of (definition_at roots site)
    → Enters roots name owner a b (site ∷ [])
Enters-one roots name owner a b site last defined live untold plain found qualifiers told owned decl = record {
  more = last ∷ [];
  found = found;
  decls = (λ i. decl i ∷ []) ∙ ap (λ t. map decl_of (map (definition_at roots) (if t then site ∷ [] else []))) (sym defined);
  qualifiers = none_more a.qualifiers b.qualifiers _ qualifiers
      (ap (λ t. flat_map (site_qualifiers name) (if t then site ∷ [] else [])) live ∙ append-nil (site_qualifiers name site) ∙ plain);
  told = none_more a.told b.told _ told (append-nil (site_problems roots site) ∙ untold);
  owners = All-cons (IsOfOwner owner (length a.definitions.found.items)) last [] (inl owned) (All-nil (IsOfOwner owner (length a.definitions.found.items)));
}

-- a site that is refused, at which this is told
pub Enters-refused : (roots : List Tree) (name : Bytes) (owner : Option ℕ) (a b : Entering) (site : Site) (problem : Problem)
    → defines roots site ≡ false → is_live_site roots site ≡ false → site_problems roots site ≡ problem ∷ []
    → b.definitions.found.items ≡ a.definitions.found.items → b.qualifiers ≡ a.qualifiers → b.told ≡ a.told ++ problem ∷ []
    → Enters roots name owner a b (site ∷ [])
Enters-refused roots name owner a b site problem undefined lost wrong found qualifiers told = record {
  more = [];
  found = found ∙ sym (append-nil a.definitions.found.items);
  decls = ap (λ t. map decl_of (map (definition_at roots) (if t then site ∷ [] else []))) (sym undefined);
  qualifiers = none_more a.qualifiers b.qualifiers _ qualifiers (ap (λ t. flat_map (site_qualifiers name) (if t then site ∷ [] else [])) lost);
  told = told ∙ ap (λ zs. a.told ++ zs) (sym (append-nil (site_problems roots site) ∙ wrong));
  owners = All-nil (IsOfOwner owner (length a.definitions.found.items));
}
