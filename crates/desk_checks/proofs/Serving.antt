-- The loop that settles all calls in order.
use Rattle.std.proofs.Common.{◌≡◌, ◌≢◌, ◌⊎◌, inl, inr, ℕ, ◌+◌, ◌<◌, ◌≤◌, Bool, true, false, true≢false, ◌||◌, IsTrue, if◌then◌else◌, List, [], ◌∷◌, ◌++◌, refl, sym, ap, ◌∙◌, subst, arith, append-nil}
use Rattle.std.proofs.Math.Bool.{or-false}
use Rattle.std.proofs.lemmas.Bool.{cases_eq, ne_eqb}
use Rattle.std.proofs.lemmas.List.Folds.{list_any-append}
use Rattle.ask_history.specs.Journal.{accepted, is_close, is_closed, is_open, is_settled, settles}
use Rattle.ask_history.specs.Legal.{is_legal, is_next}
use Rattle.ask_history.specs.declared.engine.Effect.{Effect}
use Rattle.ask_history.specs.declared.events.Event.{Event}
use Rattle.ask_history.specs.declared.events.Event.TheVariants.{Settle}
use Rattle.ask_history.specs.declared.events.Mark.{Mark}
use Rattle.ask_history.proofs.Orders.{is_settled-append, is_settled-here, is_open-from, is_next-from}
use Rattle.ask_history.proofs.Pushes.{list_any-push}
use Rattle.ask_history.proofs.Walks.{is_legal-prefix}
use Rattle.work_queue.specs.Queue.{mark_of}
use Rattle.work_queue.specs.declared.limits.Settling.{Settling}
use Rattle.counting_word.specs.declared.view.Entry.{Entry}
use Rattle.counting_word.specs.declared.view.View.{View}
use Rattle.counting_word.specs.History.{journal_of}
use Rattle.counting_word.proofs.Counting.{journal_of-append}
use Rattle.ask_desk.specs.declared.driving.News.{News}
use Rattle.ask_desk.specs.Driving.{Looks, Settles, settled_as, settling}
use Rattle.ask_desk.proofs.Working.{later_stays, later_open}

-- Before the shutdown, the calls below this ticket are settled, and no others.
pub record IsServing (journal : List Event) (ticket : ℕ) : Type 0 where
  pub done : is_closed journal ≡ false → (k : ℕ) → k < ticket → is_settled journal k ≡ true
  pub ahead : is_closed journal ≡ false → (k : ℕ) → ticket ≤ k → is_settled journal k ≡ false

pub serving-none : (journal : List Event) → journal ≡ [] → IsServing journal 0
serving-none journal none = record {
  done = λ open_ k within. absurd (let no_k : ⊥ = omega arith in no_k);
  ahead = λ open_ k within. ap (λ js. is_settled js k) none;
}

module _ (old new : View) (news : News) (ticket : ℕ) (looks : Looks old new news) (serving : IsServing (journal_of old.seen) ticket) where
  pub serving-looked : IsServing (journal_of new.seen) ticket
  serving-looked = record {
    done = λ open_ k within.
        let s = later_stays old.seen new.seen looks.works.later looks.works.legal open_ in
        s.settled k ∙ serving.done (later_open old.seen new.seen looks.works.later open_) k within;
    ahead = λ open_ k within.
        let s = later_stays old.seen new.seen looks.works.later looks.works.legal open_ in
        s.settled k ∙ serving.ahead (later_open old.seen new.seen looks.works.later open_) k within;
  }

  -- the next call is open and may be settled
  module _ (unshut : news.is_closed ≡ false) where
    open_now : is_closed (journal_of new.seen) ≡ false
    open_now = sym looks.shut ∙ unshut

    pub serving-open : (news.is_closed ≡ true) ⊎ (ticket < news.accepted) → IsTrue (is_open (journal_of new.seen) ticket)
    serving-open (inl closed) = absurd (true≢false (sym closed ∙ unshut))
    serving-open (inr more) =
        is_open-from (journal_of new.seen) ticket looks.works.legal (subst (λ n. ticket < n) looks.accepted_calls more) (serving-looked.ahead open_now ticket (omega arith))

    pub serving-next : IsTrue (is_next (journal_of new.seen) ticket)
    serving-next = is_next-from (journal_of new.seen) ticket (serving-looked.done open_now)

module _ (old new : View) (ticket : ℕ) (what : Settling) (effect : Effect) (settles_it : Settles old new ticket what effect) (serving : IsServing (journal_of old.seen) ticket) where
  abbrev before : List Entry
  before = settles_it.before

  abbrev mark : Mark
  mark = mark_of what

  written : (b : Bool) → is_closed (journal_of before) ≡ b → is_closed (journal_of new.seen) ≡ false
      → (is_closed (journal_of before) ≡ false) × (journal_of new.seen ≡ journal_of before ++ Settle ticket mark ∷ [])
  written true e open_ =
      absurd
      (true≢false
      (sym
      (ap (λ es. is_closed (journal_of es)) settles_it.works.seen ∙ ap is_closed (journal_of-append before (settling old.name (journal_of before) ticket what))
      ∙ list_any-append is_close (journal_of before) (journal_of (settling old.name (journal_of before) ticket what))
      ∙ ap (λ b. b || is_closed (journal_of (settling old.name (journal_of before) ticket what))) e)
      ∙ open_))
  written false e open_ = (
    e,
    ap journal_of (settles_it.works.seen ∙ ap (λ b. before ++ (if b then [] else settled_as old.name (journal_of before) ticket what ∷ [])) e)
        ∙ journal_of-append before (settled_as old.name (journal_of before) ticket what ∷ []),
  )

  pub serving-settled : IsServing (journal_of new.seen) (ticket + 1)
  serving-settled = record {
    done = λ open_ k within. done_now open_ k within (cases_eq k ticket);
    ahead = λ open_ k within.
        let w = written (is_closed (journal_of before)) refl open_ in
        ap (λ js. is_settled js k) w.1 ∙ list_any-push (settles k) (journal_of before) (Settle ticket mark)
        ∙ (λ j. kept open_ w.0 k j || ne_eqb ticket k (λ e. absurd (let no_k : ⊥ = omega (arith, e) in no_k)) j)
        ∙ ap (λ b. b || false) (serving.ahead (was_open open_ w.0) k (omega arith));
  }
    where
      legal_before : is_closed (journal_of new.seen) ≡ false → IsTrue (is_legal (journal_of before))
      legal_before open_ =
          is_legal-prefix (journal_of before) (Settle ticket mark ∷ [])
          (subst (λ js. IsTrue (is_legal js)) (written (is_closed (journal_of before)) refl open_).1 settles_it.works.legal)

      was_open : is_closed (journal_of new.seen) ≡ false → is_closed (journal_of before) ≡ false → is_closed (journal_of old.seen) ≡ false
      was_open open_ unshut = later_open old.seen before settles_it.works.later unshut

      kept : is_closed (journal_of new.seen) ≡ false → is_closed (journal_of before) ≡ false → (k : ℕ) → is_settled (journal_of before) k ≡ is_settled (journal_of old.seen) k
      kept open_ unshut k = let s = later_stays old.seen before settles_it.works.later (legal_before open_) unshut in s.settled k

      done_now : is_closed (journal_of new.seen) ≡ false → (k : ℕ) → k < ticket + 1 → ((k ≡ ticket) ⊎ (k ≢ ticket)) → is_settled (journal_of new.seen) k ≡ true
      done_now open_ k within (inl e) =
          ap (is_settled (journal_of new.seen)) e ∙ ap (λ js. is_settled js ticket) (written (is_closed (journal_of before)) refl open_).1
          ∙ is_settled-here (journal_of before) ticket mark
      done_now open_ k within (inr n) =
          let w = written (is_closed (journal_of before)) refl open_ in
          ap (λ js. is_settled js k) w.1
          ∙ is_settled-append (journal_of before) k (Settle ticket mark ∷ []) (kept open_ w.0 k ∙ serving.done (was_open open_ w.0) k (below n within))
        where
          below : k ≢ ticket → k < ticket + 1 → k < ticket
          below n within = omega (arith, n)
