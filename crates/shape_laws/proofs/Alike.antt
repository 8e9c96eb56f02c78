-- Two runs of a machine in step, over items that it does not tell apart.
use Rattle.std.proofs.Common.{◌≡◌, ℕ, ◌+◌, Bool, ◌&&◌, List, [], ◌∷◌, map, Option, Some, None, option_map, refl, ap, ◌∙◌, sym, subst}
use Rattle.reading_machines.specs.Machines.{Machine, Reading, noted, onward, reading, run}

-- `bare` is what a machine asks of a state, and `shape` what it asks of an item
pub record Blind {S T : Type 0} (m : Machine S T) (bare : S → S) (shape : T → T) : Type 0 where
  pub twice : (x : T) → shape (shape x) ≡ shape x
  pub step : (s : S) (x : T) → option_map bare (m.step s x) ≡ option_map bare (m.step (bare s) (shape x))
  pub whole : (s : S) → m.whole s ≡ m.whole (bare s)

step-two : {S T : Type 0} (m : Machine S T) (bare : S → S) (shape : T → T) → Blind m bare shape → (s t : S) (x : T) → bare s ≡ bare t
    → option_map bare (m.step s x) ≡ option_map bare (m.step t (shape x))
step-two m bare shape blind s t x e =
    blind.step s x ∙ ap (λ u. option_map bare (m.step u (shape x))) e ∙ ap (λ y. option_map bare (m.step (bare t) y)) (sym (blind.twice x)) ∙ sym (blind.step t (shape x))

whole-two : {S T : Type 0} (m : Machine S T) (bare : S → S) (shape : T → T) → Blind m bare shape → (s t : S) → bare s ≡ bare t → m.whole s ≡ m.whole t
whole-two m bare shape blind s t e = blind.whole s ∙ ap m.whole e ∙ sym (blind.whole t)

-- where one goes on, the other does
go-on : {S B : Type 0} (bare : S → S) (f : B → B → Type 0) (o p : Option S) (a b : B) (k l : S → B) → option_map bare o ≡ option_map bare p
    → f a b → ((s t : S) → bare s ≡ bare t → f (k s) (l t)) → f (onward o a k) (onward p b l)
go-on bare f None None a b k l e stuck next = stuck
go-on bare f None (Some t) a b k l e stuck next = cc
go-on bare f (Some s) None a b k l e stuck next = cc
go-on bare f (Some s) (Some t) a b k l e stuck next = next s t (let h : Some (bare s) ≡ Some (bare t) = e in cc)

pub runs-alike : {S T : Type 0} (m : Machine S T) (bare : S → S) (shape : T → T) → Blind m bare shape → (xs : List T) (s t : S) → bare s ≡ bare t
    → option_map bare (run m.step xs s) ≡ option_map bare (run m.step (map shape xs) t)
runs-alike m bare shape blind [] s t e = ap Some e
runs-alike m bare shape blind (x ∷ xs) s t e =
    go-on bare (λ o p. option_map bare o ≡ option_map bare p) (m.step s x) (m.step t (shape x)) None None (run m.step xs) (run m.step (map shape xs))
    (step-two m bare shape blind s t x e) refl (λ u v g. runs-alike m bare shape blind xs u v g)

-- what was read is a part at the same places
pub wholes-alike : {S T : Type 0} (m : Machine S T) (bare : S → S) (shape : T → T) → Blind m bare shape → (xs : List T) (s : S)
    → option_map m.whole (run m.step (map shape xs) s) ≡ option_map m.whole (run m.step xs s)
wholes-alike {S} {T} m bare shape blind xs s = go (run m.step (map shape xs) s) (run m.step xs s) (sym (runs-alike m bare shape blind xs s s refl)) where
  go : (o p : Option S) → option_map bare o ≡ option_map bare p → option_map m.whole o ≡ option_map m.whole p
  go None None e = refl
  go None (Some t) e = cc
  go (Some u) None e = cc
  go (Some u) (Some t) e = ap Some (whole-two m bare shape blind u t (let h : Some (bare u) ≡ Some (bare t) = e in cc))

-- they come equally far, and note the same
pub record AsFar {S : Type 0} (a b : Reading S) : Type 0 where
  pub reached : a.reached ≡ b.reached
  pub best : a.best ≡ b.best

pub readings-alike : {S T : Type 0} (m : Machine S T) (bare : S → S) (shape : T → T) → Blind m bare shape
    → (follows : List T → Bool) → ((xs : List T) → follows (map shape xs) ≡ follows xs)
    → (xs : List T) (n : ℕ) (best : Option ℕ) (s t : S) → bare s ≡ bare t
    → AsFar (reading m follows (map shape xs) n best t) (reading m follows xs n best s)
readings-alike m bare shape blind follows same [] n best s t e =
    record { reached = refl; best = ap (λ b. noted (b && follows []) n best) (whole-two m bare shape blind t s (sym e)) }
readings-alike {S} {T} m bare shape blind follows same (x ∷ xs) n best s t e =
    go-on bare (λ a b. AsFar b a) (m.step s x) (m.step t (shape x))
    (record { state = s; reached = n; best = now s (x ∷ xs) }) (record { state = t; reached = n; best = now t (map shape (x ∷ xs)) })
    (reading m follows xs (n + 1) (now s (x ∷ xs))) (reading m follows (map shape xs) (n + 1) (now t (map shape (x ∷ xs))))
    (step-two m bare shape blind s t x e)
    (record { reached = refl; best = noted-same })
    (λ u v g. from noted-same u v (readings-alike m bare shape blind follows same xs (n + 1) (now s (x ∷ xs)) u v g))
  where
    now : S → List T → Option ℕ
    now u ys = noted (m.whole u && follows ys) n best

    noted-same : now t (map shape (x ∷ xs)) ≡ now s (x ∷ xs)
    noted-same =
        ap (λ b. noted (b && follows (map shape (x ∷ xs))) n best) (whole-two m bare shape blind t s (sym e))
        ∙ ap (λ b. noted (m.whole s && b) n best) (same (x ∷ xs))

    from : now t (map shape (x ∷ xs)) ≡ now s (x ∷ xs) → (u v : S)
        → AsFar (reading m follows (map shape xs) (n + 1) (now s (x ∷ xs)) v) (reading m follows xs (n + 1) (now s (x ∷ xs)) u)
        → AsFar (reading m follows (map shape xs) (n + 1) (now t (map shape (x ∷ xs))) v) (reading m follows xs (n + 1) (now s (x ∷ xs)) u)
    from h u v r = subst (λ b. AsFar (reading m follows (map shape xs) (n + 1) b v) (reading m follows xs (n + 1) (now s (x ∷ xs)) u)) (sym h) r
