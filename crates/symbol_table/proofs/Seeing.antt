-- What the names say of the definitions so far, and of one more.
use Rattle.std.proofs.Common.{◌≡◌, ℕ, ◌+◌, Bool, true, false, cond, ◌&&◌, if◌then◌else◌, List, [], ◌∷◌, ◌++◌, map, Option, Some, None, refl, sym, ap, ◌∙◌}
use Rattle.std.specs.List.{count_by}
use Rattle.std.proofs.lemmas.Bool.{false≢true, and_parts}
use Rattle.std.proofs.lemmas.List.{map-append}
use Rattle.std.proofs.lemmas.List.Sums.{sum_by_push}
use Rattle.pc_terms.specs.declared.symbols.SymKind.{SymKind}
use Rattle.pc_terms.specs.declared.symbols.SymKind.TheVariants as symbol
use Rattle.symbol_table.specs.declared.definitions.Found.{Found}
use Rattle.symbol_table.specs.declared.owned_names.Seen.{Seen}
use Rattle.symbol_table.specs.Found.{kind_of, seen_of}
use Rattle.symbol_table.specs.Names.{ordinal_for, seen_after}
use Rattle.symbol_table.specs.Owners.{may_follow, ordinal_after}
use Rattle.symbol_table.specs.Symbols.{is_def}

ordinal_none : (kind : SymKind) → ordinal_after [] kind ≡ 0
ordinal_none symbol.Def = refl
ordinal_none _ = refl

pub ordinal_of_def : (kinds : List SymKind) (kind : SymKind) → is_def kind ≡ true → count_by is_def kinds ≡ ordinal_after kinds kind
ordinal_of_def kinds symbol.Def h = refl
ordinal_of_def kinds _ h = absurd (false≢true h)

same_if : (a b : Bool) (x y : Option ℕ) → (b ≡ true → x ≡ y) → (if a && b then x else None) ≡ (if a && b then y else None)
same_if true true x y h = h refl
same_if true false x y h = refl
same_if false b x y h = refl

-- the ordinal of a further definition is known from what is seen
pub ordinal-seen : (found : List Found) (kind : SymKind)
    → ordinal_for (seen_of found) kind ≡ (if may_follow (map kind_of found) kind then Some (ordinal_after (map kind_of found) kind) else None)
ordinal-seen [] kind = ap Some (sym (ordinal_none kind))
ordinal-seen (first ∷ others) kind =
    same_if (is_def (kind_of first)) (is_def kind) _ _ (λ h. ap Some (ordinal_of_def (map kind_of (first ∷ others)) kind h))

one : (b : Bool) → 0 + cond b 1 0 ≡ (if b then 1 else 0)
one true = refl
one false = refl

count_more : (found : List Found) (last : Found) → is_def (kind_of last) ≡ true
    → count_by is_def (map kind_of (found ++ last ∷ [])) ≡ count_by is_def (map kind_of found) + 1
count_more found last h =
    ap (count_by is_def) (map-append kind_of found (last ∷ []))
    ∙ sum_by_push (λ own. cond (is_def own) 1 0) (map kind_of found) (kind_of last)
    ∙ ap (λ b. count_by is_def (map kind_of found) + cond b 1 0) h

abbrev seen_as : Found → ℕ → Option Seen
seen_as first methods = Some (record { kind = kind_of first; number = first.number; methods = methods })

-- of one more definition that may follow those that are seen
pub seen_of-push : (found : List Found) (last : Found) → may_follow (map kind_of found) (kind_of last) ≡ true
    → seen_of (found ++ last ∷ []) ≡ seen_after (seen_of found) (kind_of last) last.number
seen_of-push [] last h = ap (seen_as last) (one (is_def (kind_of last)))
seen_of-push (first ∷ others) last h =
    ap (seen_as first) (count_more (first ∷ others) last (and_parts _ _ h).1)
    ∙ ap (λ b. if b then seen_as first (count_by is_def (map kind_of (first ∷ others)) + 1) else seen_of (first ∷ others)) (sym h)

-- a second one is not seen
pub seen_of-second : (found : List Found) (kind : SymKind) (number : ℕ) → may_follow (map kind_of found) kind ≡ false
    → seen_after (seen_of found) kind number ≡ seen_of found
seen_of-second [] kind number h = absurd (false≢true (sym h))
seen_of-second (first ∷ others) kind number h =
    ap (λ b. if b then seen_as first (count_by is_def (map kind_of (first ∷ others)) + 1) else seen_of (first ∷ others)) h
