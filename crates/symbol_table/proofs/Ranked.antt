-- Definitions in their order, and what each owner owns among them.
use Rattle.std.proofs.Common.{◌≡◌, ℕ, ◌+◌, ◌-◌, ◌<◌, ◌≤◌, ◌==◌, nat_lt, Bool, true, false, cond, ◌&&◌, ⊎_elim, if◌then◌else◌, List, [], ◌∷◌, ◌++◌, length, take, drop, get_or, Some, refl, sym, ap, ◌∙◌, append-nil, arith}
use Rattle.std.proofs.Math.Seq.{get_or-append_seam}
use Rattle.std.specs.Cmp.{IsTotalOrder, IsStrictWeakOrder}
use Rattle.std.specs.Cmp.Lexicographic.{options_total}
use Rattle.std.specs.List.{All, filter, slice_range}
use Rattle.std.specs.List.Sorted.{IsSorted, IsNonDecreasingBy, IsPartitionedBy}
use Rattle.std.specs.Ordering.{is_lt, nat_cmp, ordering_then}
use Rattle.std.specs.declared.cmp.Ordering.{Ordering}
use Rattle.std.specs.declared.cmp.Ordering.TheVariants.{Less, Equal, Greater}
use Rattle.std.proofs.lemmas.Bool.{false≢true, cases_lt, lt-ltb, ltb-true, ltb-false, le-leb, eq-eqb, ne_eqb}
use Rattle.std.proofs.lemmas.Cmp.{nat_cmp_total, nat_list_cmp_total, on_total, then_total}
use Rattle.std.proofs.lemmas.List.{take-append-drop, length-take, length-drop, get_or-take, get_or-drop, get_or_append_left, get_or_default, length_push}
use Rattle.std.proofs.lemmas.List.Elements.{filter-append}
use Rattle.std.proofs.lemmas.List.Folds.{drop_split}
use Rattle.std.proofs.lemmas.List.Sorted.{ranks_by, IsNonDecreasingBy-from_all_adjacent, IsPartitionedBy-ltb}
use Rattle.pc_terms.specs.Show.{last_step}
use Rattle.symbol_table.specs.declared.definitions.Found.{Found}
use Rattle.symbol_table.specs.declared.groups.Group.{Group}
use Rattle.symbol_table.specs.Found.{owner_rank}
use Rattle.symbol_table.specs.Groups.{part}
use Rattle.symbol_table.specs.Order.{space_rank, step_cmp, found_cmp, IsOwnedBelow, owned_by, AreGroups}
use Rattle.symbol_table.specs.Symbols.{space_of}
use Rattle.symbol_table.proofs.CaseClasses.{at_some}
use Rattle.symbol_table.proofs.Filtered.{filter_none, filter_all}

-- ---- the order

pub step_total : IsTotalOrder step_cmp
step_total = then_total (on_total (λ s. s.name) nat_list_cmp_total) (then_total (on_total (λ s. space_rank (space_of s.kind)) nat_cmp_total) (on_total (λ s. s.ordinal) nat_cmp_total))

pub found_total : IsTotalOrder found_cmp
found_total = then_total (on_total (λ d. owner_rank d.owner) nat_cmp_total) (on_total (λ d. last_step d.decl.path.steps) (options_total step_total))

pub found_ranks : IsStrictWeakOrder (λ x y. is_lt (found_cmp x y))
found_ranks = ranks_by found_total (λ d. d)

below_first : (a b : ℕ) (rest : Ordering) → a < b → is_lt (ordering_then (nat_cmp a b) rest) ≡ true
below_first a b rest h = ap (λ t. is_lt (ordering_then (cond t Less (cond (a == b) Equal Greater)) rest)) (lt-ltb a b h)

rank_up : (x y : Found) → is_lt (found_cmp y x) ≡ false → owner_rank x.owner ≤ owner_rank y.owner
rank_up x y h = ⊎_elim
    (λ (less : owner_rank y.owner < owner_rank x.owner). absurd (false≢true (sym h ∙ below_first (owner_rank y.owner) (owner_rank x.owner) _ less)))
    (λ (up : owner_rank x.owner ≤ owner_rank y.owner). up)
    (cases_lt (owner_rank y.owner) (owner_rank x.owner))

ranks_rise : (found : List Found) → IsSorted found_cmp found → IsNonDecreasingBy (λ d. owner_rank d.owner) found
ranks_rise found sorted = IsNonDecreasingBy-from_all_adjacent (λ d. owner_rank d.owner) found
    (λ k d h. rank_up (get_or found k d) (get_or found (k + 1) d) (sorted k d (omega arith) h))

pub parted : (found : List Found) (rank : ℕ) → IsSorted found_cmp found → IsPartitionedBy (λ d. nat_lt (owner_rank d.owner) rank) found
parted found rank sorted = IsPartitionedBy-ltb (λ d. owner_rank d.owner) found rank (ranks_rise found sorted)

-- ---- what one owner owns

module _ (found : List Found) (rank start end : ℕ) (within : start ≤ length found) (inside : end ≤ length found)
    (lower : IsOwnedBelow found rank start) (upper : IsOwnedBelow found (rank + 1) end) where
  abbrev owns : Found → Bool
  owns d = owner_rank d.owner == rank

  ordered : start ≤ end
  ordered = ⊎_elim
      (λ (wrong : end < start).
      let one = at_some found end (omega (arith, wrong, within)) in
      absurd (omega (arith, ltb-true _ _ (lower.0 end one.0 (omega arith) wrong), ltb-false _ _ (upper.1 end one.0 (omega arith) (omega (arith, wrong, within))))))
      (λ (right : start ≤ end). right)
      (cases_lt end start)

  none_first : All (λ d. owns d ≡ false) (take start found)
  none_first k d h =
      let low : k < start = omega (arith, h, length-take start found) in
      ap owns (get_or-take start found k d low)
      ∙ ne_eqb _ rank (λ e. omega (arith, e, ltb-true _ _ (lower.0 k d (omega arith) low)))

  all_between : All (λ d. owns d ≡ true) (slice_range found start end)
  all_between k d h =
      let short : k < end - start = omega (arith, h, length-take (end - start) (drop start found)) in
      let at : get_or (slice_range found start end) k d ≡ get_or found (start + k) d = get_or-take (end - start) (drop start found) k d short ∙ get_or-drop start found k d in
      ap owns at
      ∙ eq-eqb _ rank (omega (
        arith,
        ltb-false _ _ (lower.1 (start + k) d (omega arith) (omega (arith, short, inside))),
        ltb-true _ _ (upper.0 (start + k) d (omega arith) (omega (arith, short))),
      ))

  none_last : All (λ d. owns d ≡ false) (drop end found)
  none_last k d h =
      let far : end + k < length found = omega (arith, h, length-drop end found) in
      ap owns (get_or-drop end found k d)
      ∙ ne_eqb _ rank (λ e. omega (arith, e, ltb-false _ _ (upper.1 (end + k) d (omega arith) far)))

  pub group-part : part found (record { start = start; end = end }) ≡ filter owns found
  group-part =
      (λ i. if le-leb start end ordered i && le-leb end (length found) inside i then slice_range found start end else [])
      ∙ sym (ap (filter owns) (sym (take-append-drop start found) ∙ ap (λ xs. take start found ++ xs) (drop_split found start end ordered))
      ∙ filter-append owns (take start found) (slice_range found start end ++ drop end found)
      ∙ ap (λ xs. filter owns (take start found) ++ xs) (filter-append owns (slice_range found start end) (drop end found))
      ∙ (λ i. filter_none owns (take start found) none_first i ++ (filter_all owns (slice_range found start end) all_between i ++ filter_none owns (drop end found) none_last i))
      ∙ append-nil (slice_range found start end))

-- ---- of all

-- the first of the definitions have their groups
pub record HasGroups (found : List Found) (groups : List Group) (count : ℕ) : Type 0 where
  pub long : length groups ≡ count
  pub each : (at : ℕ) (d : Found) (g : Group) → at < count → part found (get_or groups at g) ≡ owned_by found (Some (get_or found at d).number)

pub no_groups : (found : List Found) → HasGroups found [] 0
no_groups found = record { long = refl; each = λ at d g h. absurd (omega arith) }

pub one_group : (found : List Found) (groups : List Group) (count : ℕ) (one : Found) (group : Group) → HasGroups found groups count → count < length found → one ≡ get_or found count one
    → part found group ≡ owned_by found (Some one.number) → HasGroups found (groups ++ group ∷ []) (count + 1)
one_group found groups count one group so within read owns = record {
  long = length_push groups group ∙ ap (λ n. n + 1) so.long;
  each = λ at d g h. ⊎_elim
      (λ (below : at < count). ap (part found) (get_or_append_left groups (group ∷ []) g at (omega (arith, below, so.long))) ∙ so.each at d g below)
      (λ (above : count ≤ at).
      let here : at ≡ length groups = omega (arith, above, h, so.long) in
      let there : at ≡ count = omega (arith, above, h) in
      ap (λ n. part found (get_or (groups ++ group ∷ []) n g)) here ∙ ap (part found) (get_or-append_seam groups group [] g) ∙ owns
      ∙ ap (λ (f : Found). owned_by found (Some f.number)) (read ∙ get_or_default found count one d within ∙ ap (λ n. get_or found n d) (sym there)))
      (cases_lt at count);
}

pub all_groups : (found : List Found) (groups : List Group) → HasGroups found groups (length found) → AreGroups found groups
all_groups found groups so = record { count = so.long; each = so.each }
