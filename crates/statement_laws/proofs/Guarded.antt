-- A machine that asks something of each item beside its step: what it asks depends on the items before, and not on its state.
use Rattle.std.proofs.Common.{◌≡◌, Bool, true, false, ◌&&◌, if◌then◌else◌, List, [], ◌∷◌, map, Option, Some, None, option_map, refl, ap, sym, ◌∙◌}
use Rattle.reading_machines.specs.Machines.{run, onward}

-- `test` is what is asked of an item, and `next` what is known behind it
module _ {K T : Type 0} (test : K → T → Bool) (next : K → T → K) where
  abbrev pub passes : K → List T → Bool
  passes k [] = true
  passes k (i ∷ is) = test k i && passes (next k i) is

  abbrev pub behind : K → List T → K
  behind k [] = k
  behind k (i ∷ is) = behind (next k i) is

-- Its states are made by `at` of what is known and of a state of the machine that asks nothing, and its items by `to` of that machine's.
pub record Guard (K S P T U : Type 0) : Type 0 where
  pub at : K → S → P
  pub test : K → T → Bool
  pub next : K → T → K
  pub inner : S → T → Option S
  pub to : T → U
  pub step : P → U → Option P
  pub same : (k : K) (s : S) (i : T) → step (at k s) (to i) ≡ (if test k i then option_map (at (next k i)) (inner s i) else None)

module _ {K S P T U : Type 0} (g : Guard K S P T U) where
  pub guarded-run : (is : List T) (k : K) (s : S) → passes g.test g.next k is ≡ true → run g.step (map g.to is) (g.at k s) ≡ option_map (g.at (behind g.test g.next k is)) (run g.inner is s)
  guarded-run [] k s e = refl
  guarded-run (i ∷ is) k s e = ap (λ o. onward o None (run g.step (map g.to is))) (g.same k s i) ∙ go (g.test k i) (g.inner s i) e (λ t f. guarded-run is (g.next k i) t f) where
    go : (b : Bool) (o : Option S) → (b && passes g.test g.next (g.next k i) is) ≡ true
        → ((t : S) → passes g.test g.next (g.next k i) is ≡ true → run g.step (map g.to is) (g.at (g.next k i) t) ≡ option_map (g.at (behind g.test g.next (g.next k i) is)) (run g.inner is t))
        → onward (if b then option_map (g.at (g.next k i)) o else None) None (run g.step (map g.to is)) ≡ option_map (g.at (behind g.test g.next (g.next k i) is)) (onward o None (run g.inner is))
    go false o f on = cc
    go true None f on = refl
    go true (Some t) f on = on t f

  pub record Passed (is : List T) (k : K) (s : S) (p : P) : Type 0 where
    pub passed : passes g.test g.next k is ≡ true
    pub state : S
    pub runs : run g.inner is s ≡ Some state
    pub there : g.at (behind g.test g.next k is) state ≡ p

  pub guarded-back : (is : List T) (k : K) (s : S) (p : P) → run g.step (map g.to is) (g.at k s) ≡ Some p → Passed is k s p
  guarded-back [] k s p e = record { passed = refl; state = s; runs = refl; there = cc }
  guarded-back (i ∷ is) k s p e =
      go (g.test k i) (g.inner s i) refl refl (ap (λ o. onward o None (run g.step (map g.to is))) (sym (g.same k s i)) ∙ e) (λ t f. guarded-back is (g.next k i) t p f)
    where
      go : (b : Bool) (o : Option S) → g.test k i ≡ b → g.inner s i ≡ o → onward (if b then option_map (g.at (g.next k i)) o else None) None (run g.step (map g.to is)) ≡ Some p
          → ((t : S) → run g.step (map g.to is) (g.at (g.next k i) t) ≡ Some p → Passed is (g.next k i) t p) → Passed (i ∷ is) k s p
      go false o b f h on = cc
      go true None b f h on = cc
      go true (Some t) b f h on =
          (let r = on t h in
          record {
            passed = ap (λ c. c && passes g.test g.next (g.next k i) is) b ∙ r.passed;
            state = r.state;
            runs = ap (λ o. onward o None (run g.inner is)) f ∙ r.runs;
            there = r.there;
          })
