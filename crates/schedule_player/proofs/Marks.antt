-- A legal journal has the marks of its own tickets out of memory.
use Rattle.std.proofs.Common.{◌≡◌, ℕ, Bool, true, false, not, ◌||◌, ◌&&◌, ◌==◌, if◌then◌else◌, List, [], ◌∷◌, ◌++◌, All, IsTrue, refl, sym, ap, ◌∙◌, subst, true≢false}
use Rattle.std.specs.List.{list_any}
use Rattle.std.proofs.Math.Bool.{or-false}
use Rattle.std.proofs.lemmas.Bool.{or_parts, or_from, eqb-true, eq-eqb, false_from_ne_true, or_right}
use Rattle.std.proofs.lemmas.List.{append-nil}
use Rattle.std.proofs.lemmas.List.Folds.{list_any-append}
use Rattle.std.proofs.lemmas.List.Elements.{All-nil, All-cons, All-head, All-tail, All-push}
use Rattle.ask_history.specs.Journal.{is_settled, settles, out_of_memory}
use Rattle.ask_history.specs.Plain.{mark_of}
use Rattle.ask_history.specs.Legal.{is_legal, may_follow}
use Rattle.ask_history.specs.declared.events.Mark.{Mark}
use Rattle.ask_history.specs.declared.events.Mark.TheVariants as mark
use Rattle.ask_history.specs.declared.events.Event.{Event}
use Rattle.ask_history.specs.declared.events.Event.TheVariants.{Accept, Cancel, Close, Settle, Checked}
use Rattle.ask_history.proofs.Pushes.{legal-induction}
use Rattle.ask_history.proofs.Accepted.{settled_once}
use Rattle.schedule_player.specs.Around.{HasMark, HasMarks}

-- the ticket of an event, where it is settled without memory
abbrev unmade : Event → List ℕ
unmade (Settle ticket mark.NoMemory) = ticket ∷ []
unmade _ = []

out_of_memory-push : (journal : List Event) (event : Event) → out_of_memory (journal ++ event ∷ []) ≡ out_of_memory journal ++ unmade event
out_of_memory-push [] (Accept ticket client tag call) = refl
out_of_memory-push [] (Cancel ticket) = refl
out_of_memory-push [] Close = refl
out_of_memory-push [] (Settle ticket mark.Done) = refl
out_of_memory-push [] (Settle ticket mark.NoMemory) = refl
out_of_memory-push [] (Checked file) = refl
out_of_memory-push (Accept ticket client tag call ∷ journal) event = out_of_memory-push journal event
out_of_memory-push (Cancel ticket ∷ journal) event = out_of_memory-push journal event
out_of_memory-push (Close ∷ journal) event = out_of_memory-push journal event
out_of_memory-push (Settle ticket mark.Done ∷ journal) event = out_of_memory-push journal event
out_of_memory-push (Settle ticket mark.NoMemory ∷ journal) event = ap (λ ts. ticket ∷ ts) (out_of_memory-push journal event)
out_of_memory-push (Checked file ∷ journal) event = out_of_memory-push journal event

-- what is out of memory is settled
settled_unmade : (journal : List Event) (t : ℕ) → list_any (λ u. u == t) (out_of_memory journal) ≡ true → is_settled journal t ≡ true
settled_unmade [] t h = h
settled_unmade (Accept ticket client tag call ∷ journal) t h = settled_unmade journal t h
settled_unmade (Cancel ticket ∷ journal) t h = settled_unmade journal t h
settled_unmade (Close ∷ journal) t h = settled_unmade journal t h
settled_unmade (Settle ticket mark.Done ∷ journal) t h = or_right (ticket == t) _ (settled_unmade journal t h)
settled_unmade (Settle ticket mark.NoMemory ∷ journal) t h = by (ticket == t) refl (settled_unmade journal t)
  where
    by : (b : Bool) → (ticket == t) ≡ b → (list_any (λ u. u == t) (out_of_memory journal) ≡ true → is_settled journal t ≡ true) → ((ticket == t) || is_settled journal t) ≡ true
    by true e next = ap (λ b. b || is_settled journal t) e
    by false e next = ap (λ b. b || is_settled journal t) e ∙ next (sym (ap (λ b. b || list_any (λ u. u == t) (out_of_memory journal)) e) ∙ h)
settled_unmade (Checked file ∷ journal) t h = settled_unmade journal t h

OwnMarks : List Event → Type 0
OwnMarks journal = HasMarks (out_of_memory journal) journal

-- a ticket more, that no event before settles
marks_wider : (without more : List ℕ) (events : List Event) → ((t : ℕ) → list_any (settles t) events ≡ true → list_any (λ u. u == t) more ≡ false) → HasMarks without events → HasMarks (without ++ more) events
marks_wider without more [] apart h = All-nil (HasMark (without ++ more))
marks_wider without more (event ∷ events) apart h =
    All-cons (HasMark (without ++ more)) event events (one event (λ t k. apart t (ap (λ x. x || list_any (settles t) events) k)) (All-head (HasMark without) event events h))
    (marks_wider without more events (λ t k. apart t (or_right (settles t event) _ k)) (All-tail (HasMark without) event events h))
  where
    one : (e : Event) → ((t : ℕ) → settles t e ≡ true → list_any (λ u. u == t) more ≡ false) → HasMark without e → HasMark (without ++ more) e
    one (Settle ticket m) none k =
        ap (λ b. if b then mark.NoMemory else mark.Done) (list_any-append (λ u. u == ticket) without more ∙ ap (λ b. list_any (λ u. u == ticket) without || b) (none ticket (eq-eqb ticket ticket refl)) ∙ or-false _) ∙ k
    one (Accept ticket client tag call) none k = k
    one (Cancel ticket) none k = k
    one Close none k = k
    one (Checked file) none k = k

own-more : (journal : List Event) (event : Event) → IsTrue (is_legal journal) → IsTrue (may_follow journal event) → OwnMarks journal → OwnMarks (journal ++ event ∷ [])
unfolding OwnMarks
own-more journal event legal may own = subst (λ ts. HasMarks ts (journal ++ event ∷ [])) (sym (out_of_memory-push journal event)) (by event may)
  where
    same : (e : Event) → unmade e ≡ [] → HasMark (out_of_memory journal ++ unmade e) e → HasMarks (out_of_memory journal ++ unmade e) (journal ++ e ∷ [])
    same e none has = All-push (HasMark (out_of_memory journal ++ unmade e)) journal e (subst (λ ts. HasMarks ts journal) (sym (ap (λ ts. out_of_memory journal ++ ts) none ∙ append-nil _)) own) has

    fresh : (t : ℕ) → is_settled journal t ≡ false → list_any (λ u. u == t) (out_of_memory journal) ≡ false
    fresh t h = false_from_ne_true _ (λ k. true≢false (sym (settled_unmade journal t k) ∙ h))

    by : (e : Event) → IsTrue (may_follow journal e) → HasMarks (out_of_memory journal ++ unmade e) (journal ++ e ∷ [])
    by (Accept ticket client tag call) m = same (Accept ticket client tag call) refl tt
    by (Cancel ticket) m = same (Cancel ticket) refl tt
    by Close m = same Close refl tt
    by (Checked file) m = same (Checked file) refl tt
    by (Settle ticket mark.Done) m = same (Settle ticket mark.Done) refl
        (ap (λ b. if b then mark.NoMemory else mark.Done) (ap (list_any (λ u. u == ticket)) (append-nil (out_of_memory journal)) ∙ fresh ticket (settled_once journal ticket mark.Done m)))
    by (Settle ticket mark.NoMemory) m =
        All-push (HasMark (out_of_memory journal ++ ticket ∷ [])) journal (Settle ticket mark.NoMemory)
        (marks_wider (out_of_memory journal) (ticket ∷ []) journal apart own)
        (ap (λ b. if b then mark.NoMemory else mark.Done) (list_any-append (λ u. u == ticket) (out_of_memory journal) (ticket ∷ []) ∙ or_right _ _ (ap (λ b. b || false) (eq-eqb ticket ticket refl))))
      where
        apart : (t : ℕ) → list_any (settles t) journal ≡ true → list_any (λ u. u == t) (ticket ∷ []) ≡ false
        apart t k = or_from _ _ (false_from_ne_true _ (λ e. true≢false (sym k ∙ (ap (is_settled journal) (sym (eqb-true ticket t e)) ∙ settled_once journal ticket mark.NoMemory m)))) refl

pub own_marks : (journal : List Event) → IsTrue (is_legal journal) → HasMarks (out_of_memory journal) journal
unfolding OwnMarks
own_marks journal legal = legal-induction OwnMarks own-more (All-nil (HasMark [])) journal legal
