-- An ask about thin sources is answered as fits it.
use Rattle.std.proofs.Common.{◌≡◌, ℕ, Bool, true, false, cond, [], ◌∷◌, Option, Some, None, is_some, nat_lt, length, refl, ◌||◌}
use Rattle.std.specs.Str.{bytes_eq}
use Rattle.std.proofs.lemmas.Bool.{false≢true, true≢false}
use Rattle.ask_history.specs.Sources.{Bytes, Sources, is_mutation, is_loaded, text_of}
use Rattle.ask_history.specs.Engine.{can_find, asked_file}
use Rattle.ask_history.specs.declared.calls.Call.{Call}
use Rattle.ask_history.specs.declared.calls.Call.TheVariants.{Reload, Remove, TypeAt, MembersAt, ScopeAt, LinkAt, Structure, LoadedTyped}
use Rattle.ask_history.specs.declared.answers.Answer.{Answer}
use Rattle.ask_history.specs.declared.answers.Answer.TheVariants as answer
use Rattle.compiler_loop.specs.Thin.{unit_of}
use Rattle.compiler_loop.specs.ThinAnswer.{thin_answer, tree_answer, unread, are_thin, units_of, info_at, located}

-- the file is loaded just where it has a text
is_loaded-text_of : (sources : Sources) (name : Bytes) → is_loaded sources name ≡ is_some (text_of sources name)
is_loaded-text_of [] name = refl
is_loaded-text_of (file ∷ files) name =
    elim (bytes_eq name file.0) as (λ b. (b || is_loaded files name) ≡ is_some (cond b (Some file.1) (text_of files name)))
    [ true ↦ refl | false ↦ is_loaded-text_of files name ]

abbrev pub Fits : Sources → Call → Answer → Type 0
Fits sources call given =
    (is_loaded sources (asked_file call) ≡ false → given ≡ answer.NoUnit)
    × (is_loaded sources (asked_file call) ≡ true → can_find call given ≡ true)

abbrev FitsTree : Bytes → ℕ → Bool → Answer → Type 0
FitsTree file offset loaded given = (loaded ≡ false → given ≡ answer.NoUnit) × (loaded ≡ true → can_find (TypeAt file offset) given ≡ true)

tree_fits : (sources : Sources) (file : Bytes) (offset : ℕ) (text : Option Bytes) → FitsTree file offset (is_some text) (tree_answer sources offset text)
tree_fits sources file offset None = (λ h. refl, λ h. absurd (false≢true h))
tree_fits sources file offset (Some text) = (λ h. absurd (true≢false h), λ h. found) where
  found : can_find (TypeAt file offset) (tree_answer sources offset (Some text)) ≡ true
  found = elim (are_thin [] (units_of sources)) as (λ b. can_find (TypeAt file offset) (cond b (cond (nat_lt (length text) offset) answer.NoTree (answer.Tree (info_at (unit_of text) (located (length text) offset (unit_of text))))) answer.Unread) ≡ true) [
    | true ↦ elim (nat_lt (length text) offset) as (λ b. can_find (TypeAt file offset) (cond b answer.NoTree (answer.Tree (info_at (unit_of text) (located (length text) offset (unit_of text))))) ≡ true) [ true ↦ refl | false ↦ refl ]
    | false ↦ refl
  ]

unread_fits : (sources : Sources) (call : Call) → can_find call answer.Unread ≡ true → Fits sources call (unread sources (asked_file call))
unread_fits sources call can = at (is_loaded sources (asked_file call)) where
  at : (b : Bool) → (b ≡ false → cond b answer.Unread answer.NoUnit ≡ answer.NoUnit) × (b ≡ true → can_find call (cond b answer.Unread answer.NoUnit) ≡ true)
  at true = (λ h. absurd (true≢false h), λ h. can)
  at false = (λ h. refl, λ h. absurd (false≢true h))

pub thin_fits : (sources : Sources) (call : Call) → is_mutation call ≡ false → Fits sources call (thin_answer sources call)
thin_fits sources (Reload pairs) ask = absurd (true≢false ask)
thin_fits sources (Remove names) ask = absurd (true≢false ask)
thin_fits sources (TypeAt file offset) ask = rw (is_loaded-text_of sources file) (tree_fits sources file offset (text_of sources file))
thin_fits sources (MembersAt file offset) ask = unread_fits sources (MembersAt file offset) refl
thin_fits sources (ScopeAt file offset) ask = unread_fits sources (ScopeAt file offset) refl
thin_fits sources (LinkAt file offset) ask = unread_fits sources (LinkAt file offset) refl
thin_fits sources (Structure file) ask = unread_fits sources (Structure file) refl
thin_fits sources (LoadedTyped file) ask = unread_fits sources (LoadedTyped file) refl
