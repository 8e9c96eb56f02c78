-- A loop over the tokens of a machine that keeps how many of them are the longest part.
use Rattle.std.proofs.Common.{◌≡◌, ℕ, ◌+◌, Bool, ◌&&◌, List, [], ◌∷◌, Option, Some, None, refl, ap, sym, subst, ◌∙◌}
use Rattle.reading_machines.specs.Machines.{Machine, onward, noted, run, reading, reading_of}

-- the tokens that are left lead to the same reading, and to the same state
pub record LeadsOn {S T : Type 0} (m : Machine S T) (follows : List T → Bool) (all left : List T) (n : ℕ) (best : Option ℕ) (s : S) : Type 0 where
  pub same : reading m follows left n best s ≡ reading_of m follows all
  pub runs : run m.step left s ≡ run m.step all m.start

-- where the next token is refused
pub record Stops {S T : Type 0} (m : Machine S T) (follows : List T → Bool) (all : List T) (n : ℕ) (best : Option ℕ) (s : S) : Type 0 where
  pub reading_is : reading_of m follows all ≡ record { state = s; reached = n; best = best }
  pub run_is : run m.step all m.start ≡ None

-- where no token is left
pub record Ends {S T : Type 0} (m : Machine S T) (follows : List T → Bool) (all : List T) (n : ℕ) (best : Option ℕ) (s : S) : Type 0 where
  pub reading_is : reading_of m follows all ≡ record { state = s; reached = n; best = best }
  pub run_is : run m.step all m.start ≡ Some s

pub begins : {S T : Type 0} (m : Machine S T) (follows : List T → Bool) (all : List T) → LeadsOn m follows all all 0 None m.start
begins m follows all = record { same = refl; runs = refl }

pub begins-at : {S T : Type 0} (m : Machine S T) (follows : List T → Bool) (all : List T) (s : S) → m.start ≡ s → LeadsOn m follows all all 0 None s
begins-at m follows all s e = subst (LeadsOn m follows all all 0 None) e (begins m follows all)

pub stops : {S T : Type 0} (m : Machine S T) (follows : List T → Bool) (all left rest : List T) (n : ℕ) (best now : Option ℕ) (s : S) (t : T)
    → LeadsOn m follows all left n best s → left ≡ t ∷ rest → now ≡ noted (m.whole s && follows (t ∷ rest)) n best → m.step s t ≡ None
    → Stops m follows all n now s
stops {S} {T} m follows all left rest n best now s t leads e b k =
    record {
      reading_is = sym leads.same ∙ ap (λ ts. reading m follows ts n best s) e
          ∙ ap (λ o. onward o (record { state = s; reached = n; best = there }) (reading m follows rest (n + 1) there)) k
          ∙ ap (λ (c : Option ℕ). record { state = s; reached = n; best = c }) (sym b);
      run_is = sym leads.runs ∙ ap (λ ts. run m.step ts s) e ∙ ap (λ o. onward o None (run m.step rest)) k;
    }
  where
    there : Option ℕ
    there = noted (m.whole s && follows (t ∷ rest)) n best

pub goes_on : {S T : Type 0} (m : Machine S T) (follows : List T → Bool) (all left rest : List T) (n : ℕ) (best now : Option ℕ) (s next : S) (t : T)
    → LeadsOn m follows all left n best s → left ≡ t ∷ rest → now ≡ noted (m.whole s && follows (t ∷ rest)) n best → m.step s t ≡ Some next
    → LeadsOn m follows all rest (n + 1) now next
goes_on {S} {T} m follows all left rest n best now s next t leads e b k =
    record {
      same = ap (λ c. reading m follows rest (n + 1) c next) b
          ∙ sym (sym leads.same ∙ ap (λ ts. reading m follows ts n best s) e
          ∙ ap (λ o. onward o (record { state = s; reached = n; best = there }) (reading m follows rest (n + 1) there)) k);
      runs = sym (sym leads.runs ∙ ap (λ ts. run m.step ts s) e ∙ ap (λ o. onward o None (run m.step rest)) k);
    }
  where
    there : Option ℕ
    there = noted (m.whole s && follows (t ∷ rest)) n best

pub ends : {S T : Type 0} (m : Machine S T) (follows : List T → Bool) (all left : List T) (n : ℕ) (best now : Option ℕ) (s : S)
    → LeadsOn m follows all left n best s → left ≡ [] → now ≡ noted (m.whole s && follows []) n best
    → Ends m follows all n now s
ends {S} {T} m follows all left n best now s leads e b =
    record {
      reading_is = sym leads.same ∙ ap (λ ts. reading m follows ts n best s) e ∙ ap (λ (c : Option ℕ). record { state = s; reached = n; best = c }) (sym b);
      run_is = sym leads.runs ∙ ap (λ ts. run m.step ts s) e;
    }
