-- A machine whose states are pictures of another's states reads as that one does.
use Rattle.std.proofs.Common.{◌≡◌, ℕ, ◌+◌, Bool, ◌&&◌, List, [], ◌∷◌, Option, Some, None, option_map, refl, ap, ◌∙◌}
use Rattle.reading_machines.specs.Machines.{Machine, Reading, onward, run, noted, reading}

abbrev pub pictured : {S U : Type 0} → (S → U) → Reading S → Reading U
pictured f r = record { state = f r.state; reached = r.reached; best = r.best }

-- where the states keep something
pub reading-pictured-where : {S U T : Type 0} (f : S → U) (m : Machine S T) (k : Machine U T) (follows : List T → Bool) (Keeps : S → Type 0)
    → ((s : S) (x : T) → Keeps s → k.step (f s) x ≡ option_map f (m.step s x)) → ((s : S) → Keeps s → k.whole (f s) ≡ m.whole s)
    → ((s : S) (x : T) (t : S) → Keeps s → m.step s x ≡ Some t → Keeps t)
    → (ts : List T) (n : ℕ) (best : Option ℕ) (s : S) → Keeps s → reading k follows ts n best (f s) ≡ pictured f (reading m follows ts n best s)
reading-pictured-where f m k follows Keeps steps wholes keeps [] n best s g =
    ap (λ b. record { state = f s; reached = n; best = noted (b && follows []) n best }) (wholes s g)
reading-pictured-where {S} {U} {T} f m k follows Keeps steps wholes keeps (t ∷ ts) n best s g =
    ap (λ b. onward (k.step (f s) t) (record { state = f s; reached = n; best = noted (b && follows (t ∷ ts)) n best }) (reading k follows ts (n + 1) (noted (b && follows (t ∷ ts)) n best))) (wholes s g)
    ∙ ap (λ o. onward o (record { state = f s; reached = n; best = now }) (reading k follows ts (n + 1) now)) (steps s t g)
    ∙ go (m.step s t) refl (λ next h. reading-pictured-where f m k follows Keeps steps wholes keeps ts (n + 1) now next h)
  where
    now : Option ℕ
    now = noted (m.whole s && follows (t ∷ ts)) n best

    go : (o : Option S) → m.step s t ≡ o → ((next : S) → Keeps next → reading k follows ts (n + 1) now (f next) ≡ pictured f (reading m follows ts (n + 1) now next))
        → onward (option_map f o) (record { state = f s; reached = n; best = now }) (reading k follows ts (n + 1) now)
        ≡ pictured f (onward o (record { state = s; reached = n; best = now }) (reading m follows ts (n + 1) now))
    go None e on = refl
    go (Some next) e on = on next (keeps s t next g e)

pub reading-pictured : {S U T : Type 0} (f : S → U) (m : Machine S T) (k : Machine U T) (follows : List T → Bool)
    → ((s : S) (x : T) → k.step (f s) x ≡ option_map f (m.step s x)) → ((s : S) → k.whole (f s) ≡ m.whole s)
    → (ts : List T) (n : ℕ) (best : Option ℕ) (s : S) → reading k follows ts n best (f s) ≡ pictured f (reading m follows ts n best s)
reading-pictured f m k follows steps wholes ts n best s =
    reading-pictured-where f m k follows (λ s. Unit {0}) (λ s x g. steps s x) (λ s g. wholes s) (λ s x t g e. tt) ts n best s tt

-- a machine that admits all tokens stops in the state to which they lead
pub reading-through : {S T : Type 0} (m : Machine S T) (follows : List T → Bool) (ts : List T) (n : ℕ) (best : Option ℕ) (s t : S)
    → run m.step ts s ≡ Some t → (reading m follows ts n best s).state ≡ t
reading-through m follows [] n best s t e = cc
reading-through {S} {T} m follows (x ∷ ts) n best s t e =
    go (m.step s x) e (λ next now r. reading-through m follows ts (n + 1) now next t r)
  where
    go : (o : Option S) → onward o None (run m.step ts) ≡ Some t → ((next : S) (now : Option ℕ) → run m.step ts next ≡ Some t → (reading m follows ts (n + 1) now next).state ≡ t)
        → (onward o (record { state = s; reached = n; best = noted (m.whole s && follows (x ∷ ts)) n best }) (reading m follows ts (n + 1) (noted (m.whole s && follows (x ∷ ts)) n best))).state ≡ t
    go None e on = cc
    go (Some next) e on = on next _ e
