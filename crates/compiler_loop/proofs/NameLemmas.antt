-- Names that are in a list.
use Rattle.std.proofs.Common.{◌≡◌, ℕ, ◌+◌, ◌<◌, length, take, get_or, Bool, true, false, cond, ◌||◌, List, [], ◌∷◌, ◌++◌, refl, sym, ap, ◌∙◌}
use Rattle.std.specs.List.{list_any}
use Rattle.std.specs.Str.{bytes_eq}
use Rattle.std.proofs.lemmas.List.Folds.{list_any-append, list_any_more}
use Rattle.std.proofs.lemmas.Slice.Eq.{bytes_eq-Decides}
use Rattle.std.proofs.Math.Bool.{or-true, or-false}
use Rattle.indexmap.specs.IndexSet.{insert_key}
use Rattle.ask_history.specs.Sources.{Bytes}

-- a set knows a name where it knew it before, or it was put in
pub knows_inserted : (keys : List Bytes) (key name : Bytes) → list_any (bytes_eq name) (insert_key bytes_eq keys key) ≡ (list_any (bytes_eq name) keys || bytes_eq name key)
knows_inserted keys key name = by (list_any (bytes_eq key) keys) refl (bytes_eq name key) refl where
  by : (there : Bool) → list_any (bytes_eq key) keys ≡ there → (same : Bool) → bytes_eq name key ≡ same
      → list_any (bytes_eq name) (cond there keys (keys ++ key ∷ [])) ≡ (list_any (bytes_eq name) keys || same)
  by true there false same = sym (or-false (list_any (bytes_eq name) keys))
  by true there true same =
      let e : name ≡ key = (bytes_eq-Decides name key).0 same in
      ap (λ n. list_any (bytes_eq n) keys) e ∙ there ∙ sym (or-true (list_any (bytes_eq name) keys))
  by false there same is =
      list_any-append (bytes_eq name) keys (key ∷ []) ∙ ap (λ b. list_any (bytes_eq name) keys || b) (or-false (bytes_eq name key) ∙ is)

-- one more name of a list put in
pub knows_one_more : (names : List Bytes) (i : ℕ) (name : Bytes) (keys after : List Bytes) → i < length names → name ≡ get_or names i name
    → after ≡ insert_key bytes_eq keys name → ((n : Bytes) → list_any (bytes_eq n) keys ≡ list_any (bytes_eq n) (take i names))
    → (n : Bytes) → list_any (bytes_eq n) after ≡ list_any (bytes_eq n) (take (i + 1) names)
knows_one_more names i name keys after within at is knows n =
    ap (list_any (bytes_eq n)) is ∙ knows_inserted keys name n ∙ ap (λ b. b || bytes_eq n name) (knows n)
    ∙ ap (λ k. list_any (bytes_eq n) (take i names) || bytes_eq n k) at ∙ sym (list_any_more (bytes_eq n) names i name within)
