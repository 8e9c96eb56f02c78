-- Nothing follows a shutdown whose calls are all settled.
use Rattle.std.proofs.Common.{◌≡◌, ℕ, ◌<◌, true, true≢false, not, ◌==◌, List, [], ◌∷◌, ◌++◌, IsTrue, refl, sym, ap, ◌∙◌, subst, append-nil}
use mathlib.Core.List.{IsPrefix}
use Rattle.std.proofs.lemmas.Bool.{and_parts}
use Rattle.ask_history.specs.Journal.{accepted, call_of, is_closed, is_open, is_settled}
use Rattle.ask_history.specs.Legal.{may_follow, is_legal, is_next}
use Rattle.ask_history.specs.declared.events.Event.{Event}
use Rattle.ask_history.specs.declared.events.Event.TheVariants.{Accept, Cancel, Close, Settle, Checked}
use Rattle.ask_history.proofs.Accepted.{accepted_below}
use Rattle.ask_history.proofs.Plays.{settled_tickets}
use Rattle.journal_laws.proofs.Tickets.{may_first}
use Rattle.ask_history.specs.Journal.{all_settled}
use Rattle.counting_word.specs.declared.view.Entry.{Entry}
use Rattle.counting_word.specs.History.{journal_of}
use Rattle.counting_word.proofs.Counting.{journal_of-append}
use Rattle.std.specs.Prelude.{is_some}

not_closed : (journal : List Event) → is_closed journal ≡ true → not (is_closed journal) ≡ true → ⊥
not_closed journal shut h = true≢false (sym h ∙ ap not shut)

-- behind the shutdown only settlings may follow
only_settlings : (journal : List Event) (event : Event) → is_closed journal ≡ true → IsTrue (may_follow journal event)
    → (t : ℕ) × (IsTrue (is_open journal t))
only_settlings journal (Accept ticket client tag call) shut may = absurd (not_closed journal shut (and_parts (ticket == accepted journal) (not (is_closed journal)) may).1)
only_settlings journal (Cancel ticket) shut may = absurd (not_closed journal shut (and_parts _ (not (is_closed journal)) may).1)
only_settlings journal Close shut may = absurd (not_closed journal shut may)
only_settlings journal (Settle ticket mark) shut may = (ticket, (and_parts (is_open journal ticket) (is_next journal ticket) may).0)
only_settlings journal (Checked file) shut may = absurd (not_closed journal shut (and_parts _ (not (is_closed journal)) may).1)

-- every accepted call is settled
abbrev pub AreAllSettled : List Event → Type 0
AreAllSettled journal = (t : ℕ) → t < accepted journal → is_settled journal t ≡ true

none_open : (journal : List Event) (t : ℕ) → IsTrue (is_legal journal) → AreAllSettled journal → IsTrue (is_open journal t) → ⊥
none_open journal t legal settled open_ =
    let parts = and_parts (is_some (call_of journal t)) (not (is_settled journal t)) open_ in
    true≢false (sym parts.1 ∙ ap not (settled t (accepted_below journal legal t parts.0)))

pub nothing_more : (journal more : List Event) → IsTrue (is_legal (journal ++ more)) → is_closed journal ≡ true → AreAllSettled journal → more ≡ []
nothing_more journal [] legal shut settled = refl
nothing_more journal (event ∷ more) legal shut settled =
    let first = may_first journal event more legal in
    let open_ = only_settlings journal event shut first.1 in
    absurd (none_open journal open_.0 first.0 settled open_.1)

-- of histories
pub whole_seen : (whole seen : List Entry) → IsPrefix whole seen → IsTrue (is_legal (journal_of seen)) → is_closed (journal_of whole) ≡ true → AreAllSettled (journal_of whole) → seen ≡ whole
whole_seen whole seen begins legal shut settled =
    sym begins.1
    ∙ by begins.0
    (nothing_more (journal_of whole) (journal_of begins.0)
    (subst (λ js. IsTrue (is_legal js)) (ap journal_of (sym begins.1) ∙ journal_of-append whole begins.0) legal) shut settled)
  where
    by : (more : List Entry) → journal_of more ≡ [] → whole ++ more ≡ whole
    by [] none = append-nil whole
    by (entry ∷ more) none = cc

-- of the journal of a desk
pub whole_journal : (whole seen : List Event) → IsPrefix whole seen → IsTrue (is_legal seen) → is_closed whole ≡ true → AreAllSettled whole → seen ≡ whole
whole_journal whole seen begins legal shut settled =
    sym begins.1
    ∙ ap (λ more. whole ++ more) (nothing_more whole begins.0 (subst (λ js. IsTrue (is_legal js)) (sym begins.1) legal) shut settled)
    ∙ append-nil whole

pub all_are_settled : (journal : List Event) → IsTrue (is_legal journal) → AreAllSettled journal → all_settled journal ≡ true
all_are_settled journal legal settled = settled_tickets (is_settled journal) journal (λ t called. settled t (accepted_below journal legal t called))
