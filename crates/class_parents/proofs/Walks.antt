-- The walk down the parents comes to the linearisation.
use Rattle.std.proofs.Common.{◌≡◌, ℕ, zero, suc, ◌+◌, ◌≤◌, Bool, true, false, ◌||◌, List, [], ◌∷◌, ◌++◌, length, Some, refl, sym, ap, subst, ◌∙◌, true≢false, ◌⊎◌, inl, inr, arith}
use Rattle.item_questions.specs.Questions.{Answer, Known, Needs, AtCyclic, Infos}
use Rattle.item_questions.proofs.Answers.{some-injective, needs≢known, cyclic≢known, cyclic≢needs, known-injective, needs-injective, cyclic-injective}
use Rattle.pc_terms.specs.declared.items.Item.{Item}
use Rattle.pc_terms.specs.declared.items.ItemValue.{ItemValue}
use Rattle.pc_terms.specs.declared.symbols.SymPath.{SymPath}
use Rattle.pc_terms.specs.declared.types.Ty.{Ty}
use Rattle.type_substitution.specs.Substitution.{path_eq}
use Rattle.type_substitution.proofs.Exact.{path-exact}
use Rattle.class_parents.specs.Parents.{is_in, classes_of}
use Rattle.class_parents.specs.Linearisation.{onto, behind_each_other}
use Rattle.class_parents.specs.Walk.{WalkEnd, after, entering, walked}
use Rattle.class_parents.specs.declared.walking.Visit.{Visit}
use Rattle.class_parents.specs.declared.walking.Visit.TheVariants.{Enter, Leave}
use Rattle.class_parents.proofs.Lines.{Halt, Lacks, Circles, halted, parents_at, line, lines, line-known, line-halts, line-halts-later, lines-known, lines-halts, lines-halts-later, line-at}
use Rattle.class_parents.proofs.Steps.{enter-seen, enter-new, leave-new, left-once, no-steps, ended}
use Rattle.class_parents.proofs.Lists.{Within, onto-within, onto-new, onto-assoc, left-within, or-either, or-right}

module _ (known : Infos Item ItemValue) where
  abbrev goes : ℕ → List Visit → List SymPath → WalkEnd
  goes = walked (parents_at known)

  -- a class of these has a linearisation, all of whose classes are of these
  abbrev Settled : List SymPath → SymPath → Type 0
  Settled found class = (l : List SymPath) × (line known (length found) class ≡ Known l) × Within l found

  pub record IsClosed (found : List SymPath) : Type 0 where
    pub settled : (class : SymPath) → is_in class found ≡ true → Settled found class

  -- The walk through these classes ends with what they add, or it stops at one of them.
  pub record Finishes (n : ℕ) (classes : List SymPath) (rest : List Visit) (found : List SymPath) (outcome : Answer Item (List SymPath)) : Type 0 where
    pub lists : List (List SymPath)
    pub now : List SymPath
    pub left : ℕ
    pub fewer : left ≤ n
    pub values : lines known (length now) classes ≡ Known lists
    pub is : now ≡ onto (behind_each_other lists) found
    pub closed : IsClosed now
    pub goes_on : goes left rest now ≡ Some outcome
    pub room : length now + left ≤ length found + n
    pub grows : length found ≤ length now

  pub record Stops (n : ℕ) (classes found : List SymPath) (outcome : Answer Item (List SymPath)) : Type 0 where
    pub halt : Halt
    pub is : outcome ≡ halted halt
    pub values : (m : ℕ) → length found + n ≤ m → lines known m classes ≡ halted halt

  abbrev Ends : ℕ → List SymPath → List Visit → List SymPath → Answer Item (List SymPath) → Type 0
  Ends n classes rest found outcome = Finishes n classes rest found outcome ⊎ Stops n classes found outcome

  -- ---- what is closed

  closed-more : (class : SymPath) (found : List SymPath) (l : List SymPath) → IsClosed found → line known (suc (length found)) class ≡ Known l
      → Within l (class ∷ found) → IsClosed (class ∷ found)
  closed-more class found l closed h within = record {
    settled = λ other g. elim (or-either (path_eq other class) (is_in other found) g) [
      | inl same ↦ subst (Settled (class ∷ found)) (sym ((path-exact other class).0 same)) (l, h, within)
      | inr old ↦
          let settled = closed.settled other old in (
            settled.0,
            line-at known (length found) (suc (length found)) other settled.0 (omega arith) settled.1,
            λ x in_l. or-right (path_eq x class) (is_in x found) (settled.2 x in_l),
          )
    ];
  }

  -- the linearisation of a class whose parents' come to this
  own-within : (class : SymPath) (lists : List (List SymPath)) (found : List SymPath)
      → Within (class ∷ behind_each_other lists) (class ∷ onto (behind_each_other lists) found)
  own-within class lists found x h = elim (or-either (path_eq x class) (is_in x (behind_each_other lists)) h) [
    | inl same ↦ ap (λ b. b || is_in x (onto (behind_each_other lists) found)) same
    | inr old ↦ or-right (path_eq x class) (is_in x (onto (behind_each_other lists) found)) (left-within (behind_each_other lists) found x old)
  ]

  -- ---- the walk through some classes

  abbrev Walks : ℕ → Type 0
  Walks bound = (n : ℕ) → n ≤ bound → (classes : List SymPath) (rest : List Visit) (found : List SymPath) (outcome : Answer Item (List SymPath))
      → IsClosed found → goes n (entering classes ++ rest) found ≡ Some outcome → Ends n classes rest found outcome

  module _ (class : SymPath) (classes : List SymPath) (rest : List Visit) (found : List SymPath) (outcome : Answer Item (List SymPath)) where
    -- past a class that was found before
    past-seen : (n : ℕ) → Settled found class → Ends n classes rest found outcome → Ends (suc n) (class ∷ classes) rest found outcome
    past-seen n settled (inl f) = inl (record {
      lists = settled.0 ∷ f.lists;
      now = f.now;
      left = f.left;
      fewer = omega (arith, f.fewer);
      values = lines-known known (length f.now) class classes settled.0 f.lists
          (line-at known (length found) (length f.now) class settled.0 f.grows settled.1) f.values;
      is = f.is ∙ ap (onto (behind_each_other f.lists)) (sym (onto-within settled.0 found settled.2))
          ∙ sym (onto-assoc (behind_each_other f.lists) settled.0 found);
      closed = f.closed;
      goes_on = f.goes_on;
      room = omega (arith, f.room);
      grows = f.grows;
    })
    past-seen n settled (inr s) = inr (record {
      halt = s.halt;
      is = s.is;
      values = λ m g. lines-halts-later known m class classes settled.0 s.halt
          (line-at known (length found) m class settled.0 (omega (arith, g)) settled.1) (s.values m (omega (arith, g)));
    })

    -- past a class whose parents have been visited
    past-left : (n left : ℕ) (own now : List SymPath) → is_in class found ≡ false → (lists : List (List SymPath)) → own ≡ class ∷ behind_each_other lists
        → now ≡ onto (behind_each_other lists) found → line known (suc (length now)) class ≡ Known own → length now + suc left ≤ length found + n
        → length found ≤ length now → Ends left classes rest (class ∷ now) outcome → Ends (suc n) (class ∷ classes) rest found outcome
    past-left n left own now new lists is_own is_now has room grows (inl g) = inl (record {
      lists = own ∷ g.lists;
      now = g.now;
      left = g.left;
      fewer = omega (arith, g.fewer, room, grows);
      values = lines-known known (length g.now) class classes own g.lists (line-at known (suc (length now)) (length g.now) class own g.grows has) g.values;
      is =
          let both : class ∷ now ≡ onto own found =
          ap (λ xs. class ∷ xs) is_now ∙ sym (onto-new class (behind_each_other lists) found new) ∙ ap (λ xs. onto xs found) (sym is_own) in
          g.is ∙ ap (onto (behind_each_other g.lists)) both ∙ sym (onto-assoc (behind_each_other g.lists) own found);
      closed = g.closed;
      goes_on = g.goes_on;
      room = omega (arith, g.room, room);
      grows = omega (arith, g.grows, grows);
    })
    past-left n left own now new lists is_own is_now has room grows (inr s) = inr (record {
      halt = s.halt;
      is = s.is;
      values = λ m q. lines-halts-later known m class classes own s.halt
          (line-at known (suc (length now)) m class own (omega (arith, q, room)) has) (s.values m (omega (arith, q, room)));
    })

    -- where a class stops the walk
    stops-here : (n : ℕ) (halt : Halt) → parents_at known class ≡ halted halt → outcome ≡ halted halt → Ends (suc n) (class ∷ classes) rest found outcome
    stops-here n halt h is = inr (record { halt = halt; is = is; values = values })
      where
        values : (m : ℕ) → length found + suc n ≤ m → lines known m (class ∷ classes) ≡ halted halt
        values zero q = absurd (omega (arith, q))
        values (suc m) q = lines-halts known (suc m) class classes halt (line-halts known m class halt h)

    -- where one of its parents does
    stops-below : (n : ℕ) (types : List Ty) → parents_at known class ≡ Known types → Stops n (classes_of types) found outcome
        → Ends (suc n) (class ∷ classes) rest found outcome
    stops-below n types h s = inr (record { halt = s.halt; is = s.is; values = values })
      where
        values : (m : ℕ) → length found + suc n ≤ m → lines known m (class ∷ classes) ≡ halted s.halt
        values zero q = absurd (omega (arith, q))
        values (suc m) q =
            lines-halts known (suc m) class classes s.halt (line-halts-later known m class types s.halt h (s.values m (omega (arith, q))))

    -- past the parents of a class
    past-parents : (bound n : ℕ) → Walks bound → n ≤ bound → is_in class found ≡ false → (types : List Ty) → parents_at known class ≡ Known types
        → Finishes n (classes_of types) (Leave class ∷ (entering classes ++ rest)) found outcome → Ends (suc n) (class ∷ classes) rest found outcome
    past-parents bound n again le new types h f = by f.left refl
      where
        own : List SymPath
        own = class ∷ behind_each_other f.lists

        has : line known (suc (length f.now)) class ≡ Known own
        has = line-known known (length f.now) class types f.lists h f.values

        within : Within own (class ∷ f.now)
        within = subst (λ xs. Within own (class ∷ xs)) (sym f.is) (own-within class f.lists found)

        by : (left : ℕ) → f.left ≡ left → Ends (suc n) (class ∷ classes) rest found outcome
        by zero e = absurd (no-steps (parents_at known) (Leave class ∷ (entering classes ++ rest)) f.now outcome
            (subst (λ k. goes k (Leave class ∷ (entering classes ++ rest)) f.now ≡ Some outcome) e f.goes_on))
        by (suc left) e =
            let goes_on = subst (λ k. goes k (Leave class ∷ (entering classes ++ rest)) f.now ≡ Some outcome) e f.goes_on in
            let fewer = subst (λ k. k ≤ n) e f.fewer in
            let room = subst (λ k. length f.now + k ≤ length found + n) e f.room in
            let fresh = left-once (parents_at known) left class (entering classes ++ rest) f.now outcome goes_on in
            past-left n left own f.now new f.lists refl f.is has room f.grows
            (again left (omega (arith, fewer, le)) classes rest (class ∷ f.now) outcome (closed-more class f.now own f.closed has within)
            (sym (leave-new (parents_at known) left class (entering classes ++ rest) f.now fresh) ∙ goes_on))

    past-entered : (bound n : ℕ) → Walks bound → n ≤ bound → is_in class found ≡ false → (types : List Ty) → parents_at known class ≡ Known types
        → Ends n (classes_of types) (Leave class ∷ (entering classes ++ rest)) found outcome → Ends (suc n) (class ∷ classes) rest found outcome
    past-entered bound n again le new types h (inl f) = past-parents bound n again le new types h f
    past-entered bound n again le new types h (inr s) = stops-below n types h s

    -- past a class that is new
    past-new : (bound n : ℕ) → Walks bound → n ≤ bound → IsClosed found → is_in class found ≡ false → (parents : Answer Item (List Ty))
        → parents_at known class ≡ parents
        → after parents (λ types. goes n (entering (classes_of types) ++ (Leave class ∷ (entering classes ++ rest))) found) ≡ Some outcome
        → Ends (suc n) (class ∷ classes) rest found outcome
    past-new bound n again le closed new (Known types) e h =
        past-entered bound n again le new types e (again n le (classes_of types) (Leave class ∷ (entering classes ++ rest)) found outcome closed h)
    past-new bound n again le closed new (Needs k) e h = stops-here n (Lacks k) e (sym (some-injective (Needs k) outcome h))
    past-new bound n again le closed new (AtCyclic k) e h = stops-here n (Circles k) e (sym (some-injective (AtCyclic k) outcome h))

    past-one : (bound n : ℕ) → Walks bound → n ≤ bound → IsClosed found → (b : Bool) → is_in class found ≡ b
        → goes (suc n) (Enter class ∷ (entering classes ++ rest)) found ≡ Some outcome → Ends (suc n) (class ∷ classes) rest found outcome
    past-one bound n again le closed true e h =
        past-seen n (closed.settled class e) (again n le classes rest found outcome closed (sym (enter-seen (parents_at known) n class (entering classes ++ rest) found e) ∙ h))
    past-one bound n again le closed false e h =
        past-new bound n again le closed e (parents_at known class) refl (sym (enter-new (parents_at known) n class (entering classes ++ rest) found e) ∙ h)

  walks : (bound : ℕ) → Walks bound
  walks bound n le [] rest found outcome closed h = inl (record {
    lists = [];
    now = found;
    left = n;
    fewer = omega arith;
    values = refl;
    is = refl;
    closed = closed;
    goes_on = h;
    room = omega arith;
    grows = omega arith;
  })
  walks zero zero le (class ∷ classes) rest found outcome closed h = absurd (no-steps (parents_at known) (Enter class ∷ (entering classes ++ rest)) found outcome h)
  walks zero (suc n) le (class ∷ classes) rest found outcome closed h = absurd (omega (arith, le))
  walks (suc bound) zero le (class ∷ classes) rest found outcome closed h = absurd (no-steps (parents_at known) (Enter class ∷ (entering classes ++ rest)) found outcome h)
  walks (suc bound) (suc n) le (class ∷ classes) rest found outcome closed h =
      past-one class classes rest found outcome bound n (walks bound) (omega (arith, le)) closed (is_in class found) refl h

  -- ---- the whole walk

  closed-none : IsClosed []
  closed-none = record { settled = λ class h. absurd (true≢false (sym h)) }

  none-right : (xs : List SymPath) → onto xs [] ≡ xs
  none-right [] = refl
  none-right (x ∷ xs) = ap (λ ys. x ∷ ys) (none-right xs)

  one-line : (n : ℕ) (class : SymPath) (lists : List (List SymPath)) → lines known n (class ∷ []) ≡ Known lists
      → line known n class ≡ Known (onto (behind_each_other lists) [])
  one-line n class lists h = by (line known n class) refl
    where
      by : (r : Answer Item (List SymPath)) → line known n class ≡ r → line known n class ≡ Known (onto (behind_each_other lists) [])
      by (Known l) e =
          let same = known-injective (l ∷ []) lists (sym (lines-known known n class [] l [] e refl) ∙ h) in
          e ∙ ap Known (sym (none-right l) ∙ ap (λ xs. onto (behind_each_other xs) []) same)
      by (Needs k) e = absurd (needs≢known k lists (sym (lines-halts known n class [] (Lacks k) e) ∙ h))
      by (AtCyclic k) e = absurd (cyclic≢known k lists (sym (lines-halts known n class [] (Circles k) e) ∙ h))

  known≢halted : (xs : List SymPath) (halt : Halt) → ◌≡◌ {A = Answer Item (List SymPath)} (Known xs) (halted halt) → ⊥
  known≢halted xs (Lacks k) h = needs≢known k xs (sym h)
  known≢halted xs (Circles k) h = cyclic≢known k xs (sym h)

  lists≢halted : (xs : List (List SymPath)) (halt : Halt) → ◌≡◌ {A = Answer Item (List (List SymPath))} (Known xs) (halted halt) → ⊥
  lists≢halted xs (Lacks k) h = needs≢known k xs (sym h)
  lists≢halted xs (Circles k) h = cyclic≢known k xs (sym h)

  same-halt : (one other : Halt) → ◌≡◌ {A = Answer Item (List (List SymPath))} (halted one) (halted other)
      → ◌≡◌ {A = Answer Item (List SymPath)} (halted one) (halted other)
  same-halt (Lacks j) (Lacks k) h = ap Needs (needs-injective j k h)
  same-halt (Circles j) (Circles k) h = ap AtCyclic (cyclic-injective j k h)
  same-halt (Lacks j) (Circles k) h = absurd (cyclic≢needs k j (sym h))
  same-halt (Circles j) (Lacks k) h = absurd (cyclic≢needs j k h)

  one-halt : (n : ℕ) (class : SymPath) (halt : Halt) → lines known n (class ∷ []) ≡ halted halt → line known n class ≡ halted halt
  one-halt n class halt h = by (line known n class) refl
    where
      by : (r : Answer Item (List SymPath)) → line known n class ≡ r → line known n class ≡ halted halt
      by (Known l) e = absurd (lists≢halted (l ∷ []) halt (sym (lines-known known n class [] l [] e refl) ∙ h))
      by (Needs k) e = e ∙ same-halt (Lacks k) halt (sym (lines-halts known n class [] (Lacks k) e) ∙ h)
      by (AtCyclic k) e = e ∙ same-halt (Circles k) halt (sym (lines-halts known n class [] (Circles k) e) ∙ h)

  -- The walk from a class comes to its linearisation.
  pub walk-known : (n : ℕ) (class : SymPath) (found : List SymPath) → goes n (Enter class ∷ []) [] ≡ Some (Known found) → line known n class ≡ Known found
  walk-known n class found h = by (walks n n (omega arith) (class ∷ []) [] [] (Known found) closed-none h)
    where
      by : Ends n (class ∷ []) [] [] (Known found) → line known n class ≡ Known found
      by (inl f) =
          line-at known (length f.now) n class (onto (behind_each_other f.lists) []) (omega (arith, f.room)) (one-line (length f.now) class f.lists f.values)
          ∙ ap Known (sym f.is) ∙ ended (parents_at known) f.left f.now (Known found) f.goes_on
      by (inr s) = absurd (known≢halted found s.halt s.is)

  -- Where it stops, the linearisation stops.
  pub walk-halts : (n : ℕ) (class : SymPath) (halt : Halt) → goes n (Enter class ∷ []) [] ≡ Some (halted halt) → line known n class ≡ halted halt
  walk-halts n class halt h = by (walks n n (omega arith) (class ∷ []) [] [] (halted halt) closed-none h)
    where
      by : Ends n (class ∷ []) [] [] (halted halt) → line known n class ≡ halted halt
      by (inl f) = absurd (known≢halted f.now halt (ended (parents_at known) f.left f.now (halted halt) f.goes_on))
      by (inr s) = one-halt n class s.halt (s.values n (omega arith)) ∙ sym s.is
