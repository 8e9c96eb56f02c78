-- The stack of open regions has those that are open by the whole list of tokens, the innermost first.
use Rattle.std.proofs.Common.{◌≡◌, ◌<◌, ◌≤◌, ℕ, zero, suc, ◌+◌, Bool, true, false, ◌&&◌, cond, ◌⊎◌, inl, inr, List, [], ◌∷◌, ◌++◌, length, drop, Option, Some, None, IsSome, refl, ap, sym, ◌∙◌, subst, arith}
use Rattle.scan_tokens.specs.declared.roles.Bracket.{Bracket}
use Rattle.scan_tokens.specs.declared.roles.Bracket.TheVariants.{Round, Square, Curly}
use Rattle.scan_tokens.specs.declared.roles.Role.{Role}
use Rattle.scan_tokens.specs.declared.roles.Role.TheVariants.{Opens, Closes, Case, Template, Arrow, Continues, Ends, Begins}
use Rattle.scan_tokens.specs.declared.regions.Region.{Region}
use Rattle.scan_tokens.specs.declared.regions.Region.TheVariants.{Within, InCase}
use Rattle.scan_tokens.specs.declared.tokens.Newline.{Newline}
use Rattle.scan_tokens.specs.declared.tokens.Newline.TheVariants.{No}
use Rattle.scan_tokens.specs.declared.tokens.Token.{Token}
use Rattle.scan_tokens.specs.Words.{Bytes}
use Rattle.scan_tokens.specs.Newlines.{without_cases, same_bracket, without_bracket, without_case, turned, enables, can_end, can_begin, role_at, template_follows, newline_in, bytes_between, marked}
use Rattle.scan_tokens.specs.Regions.{next_is_template, begun_first, begun_at, EndedByFirst, IsOpen, AreEnabled, roles_of, Counts, IsMarked}
use Rattle.scan_tokens.proofs.Steps.{which, both}

abbrev Among : ℕ → List ℕ → Type 0
Among i [] = ⊥
Among i (p ∷ ps) = (i ≡ p) ⊎ Among i ps

abbrev Descends : ℕ → List ℕ → Type 0
Descends k [] = Unit {0}
Descends k (p ∷ ps) = (p < k) × Descends p ps

Descends-below : (k i : ℕ) (ps : List ℕ) → Descends k ps → Among i ps → i < k
Descends-below k i [] d a = absurd a
Descends-below k i (p ∷ ps) d (inl e) = omega arith
Descends-below k i (p ∷ ps) d (inr a) = let l = Descends-below p i ps d.1 a in omega arith

Descends-more : (k m : ℕ) (ps : List ℕ) → k ≤ m → Descends k ps → Descends m ps
Descends-more k m [] l d = tt
Descends-more k m (p ∷ ps) l d = (omega arith, d.1)

abbrev AreBegun : (ℕ → Option Region) → List ℕ → List Region → Type 0
AreBegun begun [] [] = Unit {0}
AreBegun begun (p ∷ ps) (q ∷ qs) = (begun p ≡ Some q) × AreBegun begun ps qs
AreBegun begun _ _ = ⊥

-- the regions that are open before token k are these
record Represents (begun : ℕ → Option Region) (Open : ℕ → Type 0) (k : ℕ) (stack : List Region) : Type 0 where
  pub places : List ℕ
  pub descends : Descends k places
  pub begun_there : AreBegun begun places stack
  pub all : (i : ℕ) → Open i → Among i places
  pub only : (i : ℕ) → Among i places → Open i

-- what is open after a token: what it begins, and what was open and it does not end
abbrev After : (rs : List Role) → (ℕ → Option Region) → (ℕ → Type 0) → ℕ → ℕ → Type 0
After here begun Open k i = ((i ≡ k) × IsSome (begun k)) ⊎ (Open i × (EndedByFirst here begun Open i → ⊥))

begins : (here : List Role) (begun : ℕ → Option Region) (Open : ℕ → Type 0) (k : ℕ) (q : Region) (stack : List Region)
    → begun k ≡ Some q → ((i : ℕ) → EndedByFirst here begun Open i → ⊥)
    → Represents begun Open k stack → Represents begun (After here begun Open k) (suc k) (q ∷ stack)
begins here begun Open k q stack e none r = record {
  places = k ∷ r.places;
  descends = (omega arith, r.descends);
  begun_there = (e, r.begun_there);
  all = λ i o. all i o;
  only = λ i a. only i a;
} where
  all : (i : ℕ) → After here begun Open k i → Among i (k ∷ r.places)
  all i (inl o) = inl o.0
  all i (inr o) = inr (r.all i o.0)

  only : (i : ℕ) → Among i (k ∷ r.places) → After here begun Open k i
  only i (inl s) = inl (s, let P : Option Region → Type 0 = λ o. IsSome o in subst P (sym e) refl)
  only i (inr a) = inr (r.only i a, none i)

-- a token that begins nothing keeps what it does not end
keeps : (here : List Role) (begun : ℕ → Option Region) (Open : ℕ → Type 0) (k : ℕ) (left : List Region) (places : List ℕ)
    → begun k ≡ None → Descends k places → AreBegun begun places left
    → ((i : ℕ) → Open i → Among i places ⊎ EndedByFirst here begun Open i)
    → ((i : ℕ) → Among i places → Open i × (EndedByFirst here begun Open i → ⊥))
    → Represents begun (After here begun Open k) (suc k) left
keeps here begun Open k left places e d b all only = record {
  places = places;
  descends = Descends-more k (suc k) places (omega arith) d;
  begun_there = b;
  all = λ i o. from i o;
  only = λ i a. inr (only i a);
} where
  from : (i : ℕ) → After here begun Open k i → Among i places
  from i (inl o) = let P : Option Region → Type 0 = λ x. IsSome x in let none : IsSome {T = Region} None = subst P e o.1 in cc
  from i (inr o) = elim (all i o.0) [ inl a ↦ a | inr f ↦ absurd (o.1 f) ]

-- ---- closing brackets

-- what is open is among these places, or is a case that begins after all of them
abbrev Within_or_after : (ℕ → Option Region) → (ℕ → Type 0) → List ℕ → Type 0
Within_or_after begun Open ps = (i : ℕ) → Open i → Among i ps ⊎ ((begun i ≡ Some InCase) × ((j : ℕ) → Among j ps → j < i))

inner_case : (begun : ℕ → Option Region) (Open : ℕ → Type 0) (i : ℕ) (ps : List ℕ) → Within_or_after begun Open ps
    → ((j : ℕ) → Among j ps → j < i) → (j : ℕ) → i < j → Open j → begun j ≡ Some InCase
inner_case begun Open i ps within above j l o =
    elim (within j o) [ inl a ↦ (let m = above j a in absurd (omega arith)) | inr f ↦ f.0 ]

-- a case that begins after these places is ended by a closing bracket
case_ended : (b : Bracket) (later : List Role) (begun : ℕ → Option Region) (Open : ℕ → Type 0) (i : ℕ) (ps : List ℕ)
    → Within_or_after begun Open ps → (begun i ≡ Some InCase) × ((j : ℕ) → Among j ps → j < i)
    → EndedByFirst (Closes b ∷ later) begun Open i
case_ended b later begun Open i ps within e = (inl e.0, inner_case begun Open i ps within e.1)

same_bracket-is : (b o : Bracket) → same_bracket o b ≡ true → o ≡ b
same_bracket-is Round Round e = refl
same_bracket-is Square Square e = refl
same_bracket-is Curly Curly e = refl
same_bracket-is Round Square e = cc
same_bracket-is Round Curly e = cc
same_bracket-is Square Round e = cc
same_bracket-is Square Curly e = cc
same_bracket-is Curly Round e = cc
same_bracket-is Curly Square e = cc

same_bracket-refl : (b : Bracket) → same_bracket b b ≡ true
same_bracket-refl Round = refl
same_bracket-refl Square = refl
same_bracket-refl Curly = refl

-- a bracket is not ended while another one is open in it
outer_stays : (b : Bracket) (later : List Role) (begun : ℕ → Option Region) (Open : ℕ → Type 0) (i p : ℕ) (o : Bracket)
    → i < p → Open p → begun p ≡ Some (Within o) → EndedByFirst (Closes b ∷ later) begun Open i → ⊥
outer_stays b later begun Open i p o l there e f =
    let inner : begun p ≡ Some InCase = f.1 p l there in
    let q : Some (Within o) ≡ Some InCase = sym e ∙ inner in
    cc

-- a bracket of another kind is not ended
other_stays : (b o : Bracket) (later : List Role) (begun : ℕ → Option Region) (Open : ℕ → Type 0) (p : ℕ)
    → same_bracket o b ≡ false → begun p ≡ Some (Within o) → EndedByFirst (Closes b ∷ later) begun Open p → ⊥
other_stays b o later begun Open p d e f =
    elim f.0 [
      | inl c ↦ (let q : Some (Within o) ≡ Some InCase = sym e ∙ c in cc)
      | inr w ↦ (let q : Some (Within o) ≡ Some (Within b) = sym e ∙ w in let r : o ≡ b = cc in
          let P : Bracket → Type 0 = λ x. same_bracket x b ≡ false in
          let g : same_bracket b b ≡ false = subst P r d in let h : false ≡ true = sym g ∙ same_bracket-refl b in cc)
    ]

closes_at : (b : Bracket) (later : List Role) (begun : ℕ → Option Region) (Open : ℕ → Type 0) (k : ℕ) (places : List ℕ) (stack : List Region)
    → begun k ≡ None → Descends k places → AreBegun begun places stack → ((i : ℕ) → Among i places → Open i) → Within_or_after begun Open places
    → Represents begun (After (Closes b ∷ later) begun Open k) (suc k) (without_bracket b (without_cases stack))
closes_at b later begun Open k [] [] e d r only within =
    keeps (Closes b ∷ later) begun Open k [] [] e tt tt
    (λ i o. elim (within i o) [ inl a ↦ inl a | inr f ↦ inr (case_ended b later begun Open i [] within f) ])
    (λ i a. absurd a)
closes_at b later begun Open k [] (q ∷ stack) e d r only within = absurd r
closes_at b later begun Open k (p ∷ places) [] e d r only within = absurd r
closes_at b later begun Open k (p ∷ places) (InCase ∷ stack) e d r only within =
    closes_at b later begun Open k places stack e (Descends-more p k places (omega arith) d.1) r.1 (λ i a. only i (inr a)) further where
      further : Within_or_after begun Open places
      further i o = go (within i o) where
        go : Among i (p ∷ places) ⊎ ((begun i ≡ Some InCase) × ((j : ℕ) → Among j (p ∷ places) → j < i))
            → Among i places ⊎ ((begun i ≡ Some InCase) × ((j : ℕ) → Among j places → j < i))
        go (inl (inl s)) = inr (ap begun s ∙ r.0, λ j a. (let l = Descends-below p j places d.1 a in omega arith))
        go (inl (inr a)) = inl a
        go (inr f) = inr (f.0, λ j a. f.1 j (inr a))
closes_at b later begun Open k (p ∷ places) (Within o ∷ stack) e d r only within =
    go (same_bracket o b) refl where
      open_there : Open p
      open_there = only p (inl refl)

      -- what is open inside the bracket at p is a case
      inside : (j : ℕ) → p < j → Open j → begun j ≡ Some InCase
      inside j l x = elim (within j x) [
        | inl a ↦ elim a [ inl s ↦ absurd (omega arith) | inr m ↦ (let n = Descends-below p j places d.1 m in absurd (omega arith)) ]
        | inr f ↦ f.0
      ]

      outer : (i : ℕ) → Among i places → Open i × (EndedByFirst (Closes b ∷ later) begun Open i → ⊥)
      outer i a = (only i (inr a), outer_stays b later begun Open i p o (Descends-below p i places d.1 a) (only p (inl refl)) r.0)

      go : (same : Bool) → same_bracket o b ≡ same
          → Represents begun (After (Closes b ∷ later) begun Open k) (suc k) (without_bracket b (Within o ∷ stack))
      go true is =
          rw is (keeps (Closes b ∷ later) begun Open k stack places e (Descends-more p k places (omega arith) d.1) r.1
          (λ i x. elim (within i x) [
            | inl a ↦ elim a [
              | inl s ↦ inr (inr (ap begun s ∙ r.0 ∙ ap (λ w. Some (Within w)) (same_bracket-is b o is)), λ j l y. inside j (omega arith) y)
              | inr m ↦ inl m
            ]
            | inr f ↦ inr (case_ended b later begun Open i (p ∷ places) within f)
          ])
          outer)
      go false isnt =
          rw isnt (keeps (Closes b ∷ later) begun Open k (Within o ∷ stack) (p ∷ places) e d r
          (λ i x. elim (within i x) [ inl a ↦ inl a | inr f ↦ inr (case_ended b later begun Open i (p ∷ places) within f) ])
          (λ i a. stays i a)) where
            stays : (i : ℕ) → Among i (p ∷ places) → Open i × (EndedByFirst (Closes b ∷ later) begun Open i → ⊥)
            stays i (inl s) = (only i (inl s), other_stays b o later begun Open i isnt (ap begun s ∙ r.0))
            stays i (inr a) = outer i a

-- ---- arrows, and all tokens

arrow_at : (later : List Role) (begun : ℕ → Option Region) (Open : ℕ → Type 0) (k : ℕ) (places : List ℕ) (stack : List Region)
    → begun k ≡ None → Descends k places → AreBegun begun places stack → ((i : ℕ) → Open i → Among i places) → ((i : ℕ) → Among i places → Open i)
    → Represents begun (After (Arrow ∷ later) begun Open k) (suc k) (without_case stack)
arrow_at later begun Open k [] [] e d r all only = keeps (Arrow ∷ later) begun Open k [] [] e tt tt (λ i o. inl (all i o)) (λ i a. absurd a)
arrow_at later begun Open k [] (q ∷ stack) e d r all only = absurd r
arrow_at later begun Open k (p ∷ places) [] e d r all only = absurd r
arrow_at later begun Open k (p ∷ places) (InCase ∷ stack) e d r all only =
    keeps (Arrow ∷ later) begun Open k stack places e (Descends-more p k places (omega arith) d.1) r.1
    (λ i o. elim (all i o) [ inl s ↦ inr (ap begun s ∙ r.0, λ j l y. last j (omega arith) (all j y)) | inr m ↦ inl m ])
    (λ i a. (only i (inr a), λ f. f.1 p (Descends-below p i places d.1 a) (only p (inl refl)))) where
      last : (j : ℕ) → p < j → Among j (p ∷ places) → ⊥
      last j l (inl s) = omega arith
      last j l (inr m) = let n = Descends-below p j places d.1 m in omega arith
arrow_at later begun Open k (p ∷ places) (Within o ∷ stack) e d r all only =
    keeps (Arrow ∷ later) begun Open k (Within o ∷ stack) (p ∷ places) e d r (λ i o. inl (all i o)) (λ i a. stays i a) where
      stays : (i : ℕ) → Among i (p ∷ places) → Open i × (EndedByFirst (Arrow ∷ later) begun Open i → ⊥)
      stays i (inl s) = (only i (inl s), λ f. (let q : Some (Within o) ≡ Some InCase = sym (ap begun s ∙ r.0) ∙ f.0 in cc))
      stays i (inr a) = (only i (inr a), λ f. f.1 p (Descends-below p i places d.1 a) (only p (inl refl)))

same_regions : (here : List Role) (begun : ℕ → Option Region) (Open : ℕ → Type 0) (k : ℕ) (stack : List Region)
    → begun k ≡ None → ((i : ℕ) → EndedByFirst here begun Open i → ⊥)
    → Represents begun Open k stack → Represents begun (After here begun Open k) (suc k) stack
same_regions here begun Open k stack e none r =
    keeps here begun Open k stack r.places e r.descends r.begun_there (λ i o. inl (r.all i o)) (λ i a. (r.only i a, none i))

turn_represents : (role : Role) (later : List Role) (begun : ℕ → Option Region) (Open : ℕ → Type 0) (k : ℕ) (stack : List Region)
    → begun k ≡ begun_first (role ∷ later) → Represents begun Open k stack
    → Represents begun (After (role ∷ later) begun Open k) (suc k) (turned role (next_is_template later) stack)
turn_represents (Opens b) later begun Open k stack e r = begins (Opens b ∷ later) begun Open k (Within b) stack e (λ i f. f) r
turn_represents (Closes b) later begun Open k stack e r =
    closes_at b later begun Open k r.places stack e r.descends r.begun_there r.only (λ i o. inl (r.all i o))
turn_represents Arrow later begun Open k stack e r = arrow_at later begun Open k r.places stack e r.descends r.begun_there r.all r.only
turn_represents Case later begun Open k stack e r =
    elim (which (next_is_template later)) [
      | inl is ↦ rw is (same_regions (Case ∷ later) begun Open k stack (e ∙ rw is refl) (λ i f. f) r)
      | inr isnt ↦ rw isnt (begins (Case ∷ later) begun Open k InCase stack (e ∙ rw isnt refl) (λ i f. f) r)
    ]
turn_represents Template later begun Open k stack e r = same_regions (Template ∷ later) begun Open k stack e (λ i f. f) r
turn_represents Continues later begun Open k stack e r = same_regions (Continues ∷ later) begun Open k stack e (λ i f. f) r
turn_represents Ends later begun Open k stack e r = same_regions (Ends ∷ later) begun Open k stack e (λ i f. f) r
turn_represents Begins later begun Open k stack e r = same_regions (Begins ∷ later) begun Open k stack e (λ i f. f) r

-- the stack before token k
abbrev regions_at : List Role → ℕ → List Region → List Region
regions_at rs zero stack = stack
regions_at [] (suc k) stack = stack
regions_at (r ∷ rs) (suc k) stack = regions_at rs k (turned r (next_is_template rs) stack)

regions_at-suc : (rs : List Role) (k : ℕ) (stack : List Region) (role : Role) (later : List Role) → drop k rs ≡ role ∷ later
    → regions_at rs (suc k) stack ≡ turned role (next_is_template later) (regions_at rs k stack)
regions_at-suc [] zero stack role later e = cc
regions_at-suc [] (suc k) stack role later e = cc
regions_at-suc (r ∷ rs) zero stack role later e = ap first e where
  first : List Role → List Region
  first [] = stack
  first (x ∷ xs) = turned x (next_is_template xs) stack
regions_at-suc (r ∷ rs) (suc k) stack role later e = regions_at-suc rs k (turned r (next_is_template rs) stack) role later e

dropped : (rs : List Role) (k : ℕ) → k < length rs → (role : Role) × ((later : List Role) × (drop k rs ≡ role ∷ later))
dropped [] k l = absurd (omega arith)
dropped (r ∷ rs) zero l = (r, (rs, refl))
dropped (r ∷ rs) (suc k) l = dropped rs k (omega arith)

represents : (rs : List Role) (k : ℕ) → k ≤ length rs → Represents (begun_at rs) (IsOpen rs k) k (regions_at rs k [])
represents rs zero l = record { places = []; descends = tt; begun_there = tt; all = λ i o. absurd o; only = λ i a. absurd a }
represents rs (suc k) l = go (dropped rs k (omega arith)) (represents rs k (omega arith)) where
  go : (role : Role) × ((later : List Role) × (drop k rs ≡ role ∷ later)) → Represents (begun_at rs) (IsOpen rs k) k (regions_at rs k [])
      → Represents (begun_at rs) (IsOpen rs (suc k)) (suc k) (regions_at rs (suc k) [])
  go d r =
      let role = d.0 in
      let later = d.1.0 in
      let e : drop k rs ≡ role ∷ later = d.1.1 in
      let P : List Role → Type 0 = λ xs. Represents (begun_at rs) (After xs (begun_at rs) (IsOpen rs k) k) (suc k) (regions_at rs (suc k) []) in
      let Q : List Region → Type 0 = λ st. Represents (begun_at rs) (After (role ∷ later) (begun_at rs) (IsOpen rs k) k) (suc k) st in
      subst P (sym e) (subst Q (sym (regions_at-suc rs k [] role later e)) (turn_represents role later (begun_at rs) (IsOpen rs k) k (regions_at rs k []) (ap begun_first e) r))

enabled-is : (rs : List Role) (k : ℕ) (stack : List Region) → Represents (begun_at rs) (IsOpen rs k) k stack → enables stack ≡ true → AreEnabled rs k
enabled-is rs k stack r e = go r.places stack r.descends r.begun_there r.all r.only e where
  go : (places : List ℕ) (stack : List Region) → Descends k places → AreBegun (begun_at rs) places stack → ((i : ℕ) → IsOpen rs k i → Among i places)
      → ((i : ℕ) → Among i places → IsOpen rs k i) → enables stack ≡ true → AreEnabled rs k
  go [] stack d b all only e = inl (λ i o. all i o)
  go (p ∷ places) [] d b all only e = absurd b
  go (p ∷ places) (Within Curly ∷ stack) d b all only e = inr (p, only p (inl refl), λ j l o. (go2 j l (all j o)), b.0) where
    go2 : (j : ℕ) → p < j → Among j (p ∷ places) → ⊥
    go2 j l (inl s) = omega arith
    go2 j l (inr m) = let n = Descends-below p j places d.1 m in omega arith
  go (p ∷ places) (Within Round ∷ stack) d b all only e = cc
  go (p ∷ places) (Within Square ∷ stack) d b all only e = cc
  go (p ∷ places) (InCase ∷ stack) d b all only e = cc

-- the innermost region is the first of the stack
innermost_is : (rs : List Role) (k p : ℕ) (places : List ℕ) (q : Region) → Descends p places → begun_at rs p ≡ Some q → IsOpen rs k p
    → ((i : ℕ) → IsOpen rs k i → Among i (p ∷ places)) → AreEnabled rs k → Some q ≡ Some (Within Curly)
innermost_is rs k p places q d b o all (inl none) = absurd (none p o)
innermost_is rs k p places q d b o all (inr (i, open_i, inner, curly)) = go (all i open_i) where
  go : Among i (p ∷ places) → Some q ≡ Some (Within Curly)
  go (inl s) = sym b ∙ ap (begun_at rs) (sym s) ∙ curly
  go (inr m) = absurd (inner p (Descends-below p i places d m) o)

enabled-isnt : (rs : List Role) (k : ℕ) (stack : List Region) → Represents (begun_at rs) (IsOpen rs k) k stack → enables stack ≡ false → AreEnabled rs k → ⊥
enabled-isnt rs k stack r e a = go r.places stack r.descends r.begun_there r.all r.only e where
  go : (places : List ℕ) (stack : List Region) → Descends k places → AreBegun (begun_at rs) places stack → ((i : ℕ) → IsOpen rs k i → Among i places)
      → ((i : ℕ) → Among i places → IsOpen rs k i) → enables stack ≡ false → ⊥
  go [] [] d b all only e = cc
  go [] (q ∷ stack) d b all only e = absurd b
  go (p ∷ places) [] d b all only e = absurd b
  go (p ∷ places) (Within Curly ∷ stack) d b all only e = cc
  go (p ∷ places) (Within Round ∷ stack) d b all only e = let f = innermost_is rs k p places (Within Round) d.1 b.0 (only p (inl refl)) all a in cc
  go (p ∷ places) (Within Square ∷ stack) d b all only e = let f = innermost_is rs k p places (Within Square) d.1 b.0 (only p (inl refl)) all a in cc
  go (p ∷ places) (InCase ∷ stack) d b all only e = let f = innermost_is rs k p places InCase d.1 b.0 (only p (inl refl)) all a in cc

-- ---- the marks

template_follows-marked : (text : Bytes) (end : ℕ) (ended : Bool) (stack : List Region) (ts : List Token)
    → next_is_template (roles_of text (marked text end ended stack ts)) ≡ template_follows text ts
unfolding role_at
template_follows-marked text end ended stack [] = refl
template_follows-marked text end ended stack (t ∷ ts) = refl

-- the newline before u, where these regions are open before t
abbrev MarkedAfter : Bytes → List Region → List Token → List Token → Type 0
MarkedAfter text stack front (t ∷ u ∷ back) =
    u.before ≡ cond (can_end (role_at text t) && can_begin (role_at text u) (next_is_template (roles_of text back))
    && enables (regions_at (roles_of text (front ++ t ∷ u ∷ back)) (length front + 1) stack))
    (newline_in No (bytes_between text t.span.end u.span.start)) No
MarkedAfter text stack front _ = Unit {0}

marked-next : (text : Bytes) (end : ℕ) (ended : Bool) (stack : List Region) (ts : List Token) → MarkedAfter text stack [] (marked text end ended stack ts)
unfolding role_at
marked-next text end ended stack [] = tt
marked-next text end ended stack (t ∷ []) = tt
marked-next text end ended stack (t ∷ u ∷ []) = refl
marked-next text end ended stack (t ∷ u ∷ v ∷ ts) = refl

front_more : (n : ℕ) → suc n + 1 ≡ suc (n + 1)
front_more n = omega arith

marked-after : (text : Bytes) (end : ℕ) (ended : Bool) (stack : List Region) (ts front rest : List Token)
    → marked text end ended stack ts ≡ front ++ rest → MarkedAfter text stack front rest
unfolding role_at
marked-after text end ended stack ts [] rest e =
    let P : List Token → Type 0 = λ xs. MarkedAfter text stack [] xs in subst P e (marked-next text end ended stack ts)
marked-after text end ended stack ts (f ∷ front) [] e = tt
marked-after text end ended stack ts (f ∷ front) (t ∷ []) e = tt
marked-after text end ended stack [] (f ∷ front) (t ∷ u ∷ back) e = cc
marked-after text end ended stack (s ∷ ts) (f ∷ front) (t ∷ u ∷ back) e =
    let rest = front ++ t ∷ u ∷ back in
    let template = template_follows text ts in
    let there = turned (role_at text s) template stack in
    let left : marked text s.span.end (can_end (role_at text s)) there ts ≡ rest = ap tail_of e in
    let role_same : role_at text f ≡ role_at text s = sym (ap first_role e) in
    let template_same : next_is_template (roles_of text rest) ≡ template =
    ap (λ xs. next_is_template (roles_of text xs)) (sym left) ∙ template_follows-marked text s.span.end (can_end (role_at text s)) there ts in
    let same : regions_at (roles_of text (f ∷ rest)) (suc (length front) + 1) stack ≡ regions_at (roles_of text rest) (length front + 1) there =
    ap (λ n. regions_at (roles_of text (f ∷ rest)) n stack) (front_more (length front))
    ∙ ap (λ r. regions_at (roles_of text rest) (length front + 1) (turned r (next_is_template (roles_of text rest)) stack)) role_same
    ∙ ap (λ b. regions_at (roles_of text rest) (length front + 1) (turned (role_at text s) b stack)) template_same in
    marked-after text s.span.end (can_end (role_at text s)) there ts front (t ∷ u ∷ back) left
    ∙ ap (λ st. cond (can_end (role_at text t) && can_begin (role_at text u) (next_is_template (roles_of text back)) && enables st)
    (newline_in No (bytes_between text t.span.end u.span.start)) No) (sym same) where
      tail_of : List Token → List Token
      tail_of [] = []
      tail_of (x ∷ xs) = xs

      first_role : List Token → Role
      first_role [] = Begins
      first_role (x ∷ xs) = role_at text x

length_roles : (text : Bytes) (front : List Token) (t u : Token) (back : List Token) → length front + 1 ≤ length (roles_of text (front ++ t ∷ u ∷ back))
length_roles text [] t u back = omega arith
length_roles text (f ∷ front) t u back = let l = length_roles text front t u back in omega arith

is_marked : (text : Bytes) (front : List Token) (t u : Token) (back : List Token) → MarkedAfter text [] front (t ∷ u ∷ back) → IsMarked text front t u back
is_marked text front t u back e =
    record { counts = λ c. e ∙ on (enabled c.enabled) c.ends c.begins; not = λ n. e ∙ off n } where
      rs : List Role
      rs = roles_of text (front ++ t ∷ u ∷ back)

      k : ℕ
      k = length front + 1

      stack : List Region
      stack = regions_at rs k []

      r : Represents (begun_at rs) (IsOpen rs k) k stack
      r = represents rs k (length_roles text front t u back)

      ends : Bool
      ends = can_end (role_at text t)

      begin : Bool
      begin = can_begin (role_at text u) (next_is_template (roles_of text back))

      gap : Newline
      gap = newline_in No (bytes_between text t.span.end u.span.start)

      enabled : AreEnabled rs k → enables stack ≡ true
      enabled a = elim (which (enables stack)) [ inl is ↦ is | inr isnt ↦ absurd (enabled-isnt rs k stack r isnt a) ]

      on : enables stack ≡ true → ends ≡ true → begin ≡ true → cond (ends && begin && enables stack) gap No ≡ gap
      on a b c = rw (a, b, c) refl

      off : (Counts text front t u back → ⊥) → cond (ends && begin && enables stack) gap No ≡ No
      off n = elim (which (ends && begin && enables stack)) [
        | inl is ↦ (let one = both (ends && begin) (enables stack) is in let two = both ends begin one.0 in
            absurd (n (record { ends = two.0; begins = two.1; enabled = enabled-is rs k stack r one.1 })))
        | inr isnt ↦ rw isnt refl
      ]

pub marked-between : (text : Bytes) (ts front : List Token) (t u : Token) (back : List Token)
    → marked text 0 false [] ts ≡ front ++ t ∷ u ∷ back → IsMarked text front t u back
marked-between text ts front t u back e = is_marked text front t u back (marked-after text 0 false [] ts front (t ∷ u ∷ back) e)

pub marked-first : (text : Bytes) (ts : List Token) (t : Token) (rest : List Token) → marked text 0 false [] ts ≡ t ∷ rest → t.before ≡ No
marked-first text [] t rest e = cc
marked-first text (s ∷ ts) t rest e = sym (ap before_first e) where
  before_first : List Token → Newline
  before_first [] = No
  before_first (x ∷ xs) = x.before
