-- The newline rule (SLS 1.2) by the regions of a whole list of tokens, each from the token that begins it up to the one that ends it.
-- A list of tokens stands here as what each of them does in a line.
use Rattle.std.specs.Prelude.{◌≡◌, ◌<◌, ℕ, zero, suc, ◌+◌, Bool, true, false, ◌⊎◌, List, [], ◌∷◌, ◌++◌, length, map, drop, Option, Some, None, IsSome}
use Rattle.scan_tokens.specs.declared.roles.Bracket.TheVariants.{Curly}
use Rattle.scan_tokens.specs.declared.roles.Role.{Role}
use Rattle.scan_tokens.specs.declared.roles.Role.TheVariants.{Opens, Closes, Case, Arrow}
use Rattle.scan_tokens.specs.declared.regions.Region.{Region}
use Rattle.scan_tokens.specs.declared.regions.Region.TheVariants.{Within, InCase}
use Rattle.scan_tokens.specs.declared.tokens.Newline.TheVariants.{No}
use Rattle.scan_tokens.specs.declared.tokens.Token.{Token}
use Rattle.scan_tokens.specs.Words.{Bytes}
use Rattle.scan_tokens.specs.Newlines.{can_end, can_begin, is_template, role_at, newline_in, bytes_between}

abbrev pub next_is_template : List Role → Bool
next_is_template [] = false
next_is_template (r ∷ rs) = is_template r

-- the region that the first of these tokens begins
abbrev pub begun_first : List Role → Option Region
begun_first [] = None
begun_first (Opens b ∷ rs) = Some (Within b)
begun_first (Case ∷ rs) = case_before (next_is_template rs) where
  case_before : Bool → Option Region
  case_before true = None
  case_before false = Some InCase
begun_first (r ∷ rs) = None

-- the region that token i begins
abbrev pub begun_at : List Role → ℕ → Option Region
begun_at rs i = begun_first (drop i rs)

-- The first of these tokens ends the region of token i, where `Open` says of which tokens the regions are open before it: a closing
-- bracket ends a bracket of its kind, and a case, in which no other bracket is open; an arrow ends a case in which nothing is open.
abbrev pub EndedByFirst : List Role → (ℕ → Option Region) → (ℕ → Type 0) → ℕ → Type 0
EndedByFirst [] begun Open i = ⊥
EndedByFirst (Closes b ∷ rs) begun Open i =
    ((begun i ≡ Some InCase) ⊎ (begun i ≡ Some (Within b))) × ((j : ℕ) → i < j → Open j → begun j ≡ Some InCase)
EndedByFirst (Arrow ∷ rs) begun Open i = (begun i ≡ Some InCase) × ((j : ℕ) → i < j → Open j → ⊥)
EndedByFirst (r ∷ rs) begun Open i = ⊥

-- token i begins a region, and no token before token k ends it
abbrev pub IsOpen : List Role → ℕ → ℕ → Type 0
IsOpen rs zero i = ⊥
IsOpen rs (suc k) i =
    ((i ≡ k) × IsSome (begun_at rs k)) ⊎ (IsOpen rs k i × (EndedByFirst (drop k rs) (begun_at rs) (IsOpen rs k) i → ⊥))

-- no region is open there, or the innermost one is between { and }
abbrev pub AreEnabled : List Role → ℕ → Type 0
AreEnabled rs k =
    ((i : ℕ) → IsOpen rs k i → ⊥)
    ⊎ ((i : ℕ) × IsOpen rs k i × ((j : ℕ) → i < j → IsOpen rs k j → ⊥) × (begun_at rs i ≡ Some (Within Curly)))

abbrev pub roles_of : Bytes → List Token → List Role
roles_of text ts = map (role_at text) ts

-- A newline counts between t and u, which follows it at once: t can end a statement, u can begin one, and newlines are enabled there.
pub record Counts (text : Bytes) (front : List Token) (t u : Token) (back : List Token) : Type 0 where
  pub ends : can_end (role_at text t) ≡ true
  pub begins : can_begin (role_at text u) (next_is_template (roles_of text back)) ≡ true
  pub enabled : AreEnabled (roles_of text (front ++ t ∷ u ∷ back)) (length front + 1)

-- the newline before u is that of the bytes between the tokens where it counts, and else none
pub record IsMarked (text : Bytes) (front : List Token) (t u : Token) (back : List Token) : Type 0 where
  pub counts : Counts text front t u back → u.before ≡ newline_in No (bytes_between text t.span.end u.span.start)
  pub not : (Counts text front t u back → ⊥) → u.before ≡ No
