-- What a call under the lock does to its pass: it takes the lead, writes, and gives the lead back.
use Rattle.std.proofs.Common.{◌≡◌, ℕ, ◌+◌, ◌<◌, ◌≤◌, Bool, true, false, true≢false, IsTrue, Option, None, is_some, if◌then◌else◌, List, [], ◌∷◌, ◌++◌, length, Some, refl, sym, ap, ◌∙◌, subst, arith, append_assoc, append-nil}
use mathlib.Core.List.{IsPrefix}
use Rattle.ask_history.specs.Journal.{accepted, call_of, call_under, first_of_two, is_settled}
use Rattle.ask_history.specs.Legal.{is_legal}
use Rattle.ask_history.specs.declared.calls.Call.{Call}
use Rattle.ask_history.proofs.Accepted.{accepted_below, next_unaccepted, settled_accepted}
use Rattle.counting_word.proofs.Naming.{taker_of-append, taker_of-begins}
use Rattle.ask_history.specs.declared.events.Event.{Event}
use Rattle.ask_history.proofs.Orders.{is_settled-append}
use Rattle.response_cell.specs.declared.cells.Cell.{Cell}
use Rattle.work_queue.specs.Queue.{QueueState}
use Rattle.work_queue.specs.declared.limits.Limits.{Limits}
use Rattle.counting_word.specs.declared.view.Entry.{Entry}
use Rattle.counting_word.specs.declared.view.Found.TheVariants.{Nothing}
use Rattle.counting_word.specs.declared.view.Name.{Name}
use Rattle.counting_word.specs.declared.view.View.{View}
use Rattle.counting_word.specs.History.{journal_of, taker_of, has}
use Rattle.counting_word.specs.Views.{appended, loaded}
use Rattle.counting_word.specs.Calls.{entry_of, TakesLead, GivesLead, leading, following, Grows}
use Rattle.counting_word.specs.Steps.{Learns}
use Rattle.counting_word.proofs.Beginnings.{begins-trans, length-begins}
use Rattle.counting_word.proofs.Counting.{journal_of-append}
use Rattle.ask_desk.specs.Answers.{written, entries_for, caller_entry, closing}
use Rattle.work_queue.specs.Indexes.{close_index}
use Rattle.ask_desk.specs.Facts.{IsPass}
use Rattle.ask_desk.specs.Locked.{IsDesk}
use Rattle.ask_desk.specs.Passes.{Writes, Accepts, Closes}
use Rattle.ask_history.specs.declared.events.Event.TheVariants.{Accept}
use Rattle.work_queue.specs.Refusal.{refusal}
use Rattle.std.specs.Prelude.{unwrap_or}
use Rattle.std.proofs.lemmas.Bool.{eq-eqb}

pub written-seen : (view : View) (events : List Event) → (written view events).seen ≡ view.seen ++ entries_for view.name events
written-seen view [] = sym (append-nil view.seen)
written-seen view (event ∷ events) =
    written-seen (appended view (caller_entry view.name event)) events
    ∙ append_assoc view.seen (caller_entry view.name event ∷ []) (entries_for view.name events)

pub written-own : (view : View) (events : List Event) → (written view events).name.own ≡ view.name.own ++ entries_for view.name events
written-own view [] = sym (append-nil view.name.own)
written-own view (event ∷ events) =
    written-own (appended view (caller_entry view.name event)) events
    ∙ append_assoc view.name.own (caller_entry view.name event ∷ []) (entries_for view.name events)

entries_for-events : (name : Name) (events : List Event) → journal_of (entries_for name events) ≡ events
entries_for-events name [] = refl
entries_for-events name (event ∷ events) = ap (λ es. event ∷ es) (entries_for-events name events)

pub written-journal : (view : View) (events : List Event) → journal_of (written view events).seen ≡ journal_of view.seen ++ events
written-journal view events =
    ap journal_of (written-seen view events) ∙ journal_of-append view.seen (entries_for view.name events)
    ∙ ap (λ es. journal_of view.seen ++ es) (entries_for-events view.name events)

-- what writing leaves
pub record Leaves (old new : View) : Type 0 where
  pub leads : new.leads ≡ old.leads
  pub loads : new.loads ≡ old.loads
  pub number : new.name.number ≡ old.name.number
  pub got : new.name.got ≡ old.name.got
  pub given : new.name.given ≡ old.name.given
  pub made : new.name.made ≡ old.name.made

pub written-leaves : (view : View) (events : List Event) → Leaves view (written view events)
written-leaves view [] = record { leads = refl; loads = refl; number = refl; got = refl; given = refl; made = refl }
written-leaves view (event ∷ events) =
    let l = written-leaves (appended view (caller_entry view.name event)) events in
    record { leads = l.leads; loads = l.loads; number = l.number; got = l.got; given = l.given; made = l.made }

-- what is settled in a beginning is settled in what follows it
pub settled-begins : (xs ys : List Entry) (t : ℕ) → IsPrefix xs ys → IsTrue (is_settled (journal_of xs) t) → IsTrue (is_settled (journal_of ys) t)
settled-begins xs ys t p h =
    ap (λ es. is_settled (journal_of es) t) (sym p.1) ∙ ap (λ js. is_settled js t) (journal_of-append xs p.0) ∙ is_settled-append (journal_of xs) t (journal_of p.0) h

-- the state of the desk, as the pass that leads sees it
pub desk_led : (queue : QueueState) (cells : List Cell) (limits : Limits) (old scribe new : View) → TakesLead old scribe new
    → IsDesk queue cells scribe.seen scribe.name.given limits → IsDesk queue cells new.seen new.name.given limits
desk_led queue cells limits old scribe new takes desk =
    subst (λ (v : View). IsDesk queue cells v.seen v.name.given limits) (sym takes.view) desk

pub desk_given : (queue : QueueState) (cells : List Cell) (limits : Limits) (old new scribe : View) → GivesLead old new scribe
    → IsDesk queue cells old.seen old.name.given limits → (scribe.leads ≡ true) × IsDesk queue cells scribe.seen scribe.name.given limits
desk_given queue cells limits old new scribe gives desk =
    (ap (λ (v : View). v.leads) gives.lead, subst (λ (v : View). IsDesk queue cells v.seen v.name.given limits) (sym gives.lead) desk)

module _ (old scribe led done new next : View) (events : List Event) (takes : TakesLead old scribe led) (did : done ≡ written led events) (gives : GivesLead done new next) where
  abbrev lead : View
  lead = leading old scribe.seen scribe.name.given

  is : new ≡ following (written lead events)
  is = gives.view ∙ ap following (did ∙ ap (λ v. written v events) takes.view)

  pub writes : Writes old scribe.seen events new
  writes =
      let after = written-leaves lead events in
      let seen : new.seen ≡ scribe.seen ++ entries_for old.name events = ap (λ (v : View). v.seen) is ∙ written-seen lead events in
      let further : IsPrefix scribe.seen new.seen = (entries_for old.name events, sym seen) in
      let more : length scribe.seen ≤ length new.seen = length-begins scribe.seen new.seen further in
      let known : old.known ≤ length scribe.seen = takes.known in
      let loads : new.loads ≡ (old.loads + 1) + 1 = ap (λ (v : View). v.loads) is ∙ ap (λ n. n + 1) after.loads in
      record {
        moves = record {
          begins = begins-trans old.seen scribe.seen new.seen takes.begins further;
          known = omega arith;
          counted = ap (λ (v : View). v.known) is ∙ sym (ap (λ (v : View). length v.seen) is);
          loads = omega arith;
          number = ap (λ (v : View). v.name.number) is ∙ after.number;
          made = ap (λ (v : View). v.name.made) is ∙ after.made;
        };
        seen = seen;
        own = ap (λ (v : View). v.name.own) is ∙ written-own lead events;
        got = ap (λ (v : View). v.name.got) is ∙ after.got;
        begins = takes.begins;
        known = takes.known;
      }

  pub stays_pass : (number : ℕ) → IsPass old number → IsPass new number
  stays_pass number pass =
      let w = writes in
      record {
        follows = ap (λ (v : View). v.leads) gives.view;
        knows = gives.knows;
        named = w.moves.number ∙ pass.named;
        settled = λ t h. settled-begins old.seen new.seen t w.moves.begins (pass.settled t (subst (λ ts. IsTrue (has ts t)) w.got h));
      }

-- a pass that looks at the word, or meets another, stays a pass
pub looks_pass : (view : View) (number found : ℕ) → IsPass view number → Learns view found → IsPass (loaded view found) number
looks_pass view number found pass learns =
    record {
      follows = pass.follows;
      knows = record { counted = learns.seen; legal = learns.legal; own = learns.own; authors = learns.authors };
      named = pass.named;
      settled = pass.settled;
    }

pub meets_pass : (old other new : View) (number : ℕ) → IsPass old number → Grows old other new → IsPass new number
meets_pass old other new number pass grows =
    record {
      follows = grows.follows;
      knows = grows.knows;
      named = ap (λ n. n.number) grows.name ∙ pass.named;
      settled = λ t h. settled-begins old.seen new.seen t grows.begins (pass.settled t (subst (λ ts. IsTrue (has ts t)) (ap (λ n. n.got) grows.name) h));
    }

-- who took a ticket in what the pass had seen took it in all that the leader has seen
pub taker_led : (old scribe new : View) (ticket n : ℕ) → TakesLead old scribe new → taker_of old.seen ticket ≡ Some n → taker_of new.seen ticket ≡ Some n
taker_led old scribe new ticket n takes h =
    ap (λ (v : View). taker_of v.seen ticket) takes.view ∙ taker_of-begins old.seen scribe.seen ticket n takes.begins h

-- a ticket that is taken is accepted
call_taken : (history : List Entry) (ticket : ℕ) → is_some (taker_of history ticket) ≡ is_some (call_of (journal_of history) ticket)
call_taken [] ticket = refl
call_taken (entry ∷ history) ticket = by (call_under ticket entry.event) (call_taken history ticket)
  where
    by : (o : Option Call) → is_some (taker_of history ticket) ≡ is_some (call_of (journal_of history) ticket)
        → is_some (if is_some o then Some entry.author else taker_of history ticket) ≡ is_some (first_of_two o (call_of (journal_of history) ticket))
    by None same = same
    by (Some call) same = refl

pub accepted_led : (old scribe new : View) (ticket : ℕ) → TakesLead old scribe new → IsTrue (is_some (taker_of old.seen ticket))
    → ticket < accepted (journal_of new.seen)
accepted_led old scribe new ticket takes h =
    let there : IsTrue (is_some (taker_of scribe.seen ticket)) =
    ap (λ es. is_some (taker_of es ticket)) (sym takes.begins.1) ∙ ap is_some (taker_of-append old.seen takes.begins.0 ticket h) ∙ h in
    let led : IsTrue (is_some (taker_of new.seen ticket)) = ap (λ (v : View). is_some (taker_of v.seen ticket)) takes.view ∙ there in
    accepted_below (journal_of new.seen) takes.knows.legal ticket (sym (call_taken new.seen ticket) ∙ led)

taker_last : (ticket : ℕ) (entry : Entry) → IsTrue (is_some (call_under ticket entry.event)) → (xs : List Entry) → is_some (taker_of xs ticket) ≡ false
    → taker_of (xs ++ entry ∷ []) ticket ≡ Some entry.author
taker_last ticket entry under [] h = ap (λ b. if b then Some entry.author else None) under
taker_last ticket entry under (x ∷ xs) h = first (is_some (call_under ticket x.event)) h (taker_last ticket entry under xs)
  where
    first : (b : Bool) → is_some (if b then Some x.author else taker_of xs ticket) ≡ false
        → (is_some (taker_of xs ticket) ≡ false → taker_of (xs ++ entry ∷ []) ticket ≡ Some entry.author)
        → (if b then Some x.author else taker_of (xs ++ entry ∷ []) ticket) ≡ Some entry.author
    first true h later = absurd (true≢false h)
    first false h later = later h

-- the next ticket is taken by the pass that accepts its call, and its answer was not handed out
pub next_mine : (history : List Entry) (entry : Entry) (ticket : ℕ) → IsTrue (is_legal (journal_of history)) → ticket ≡ accepted (journal_of history)
    → IsTrue (is_some (call_under ticket entry.event)) → taker_of (history ++ entry ∷ []) ticket ≡ Some entry.author
next_mine history entry ticket legal next under = taker_last ticket entry under history none
  where
    none : is_some (taker_of history ticket) ≡ false
    none = call_taken history ticket ∙ next_unaccepted (journal_of history) legal ticket (omega arith)

-- a call that writes nothing
pub writes_none : (old scribe led new next : View) → TakesLead old scribe led → GivesLead led new next → Writes old new.seen [] new
writes_none old scribe led new next takes gives =
    let w = writes old scribe led led new next [] takes refl gives in
    let same : scribe.seen ≡ new.seen = sym (append-nil scribe.seen) ∙ sym w.seen in
    subst (λ before. Writes old before [] new) same w

-- a ticket that the pass took, and whose answer it did not get, was not given
pub ungiven_led : (old scribe led : View) (ticket : ℕ) → TakesLead old scribe led → (n : ℕ) → old.name.number ≡ Some n → taker_of old.seen ticket ≡ Some n
    → has old.name.got ticket ≡ false → has led.name.given ticket ≡ false
ungiven_led old scribe led ticket takes n number taken fresh =
    by (has scribe.name.given ticket) refl ∙ refl
  where
    same : has led.name.given ticket ≡ has scribe.name.given ticket
    same = ap (λ (v : View). has v.name.given ticket) takes.view

    by : (b : Bool) → has scribe.name.given ticket ≡ b → has led.name.given ticket ≡ false
    by true e = absurd (true≢false (sym (takes.given.got_mine n number ticket e (taker_of-begins old.seen scribe.seen ticket n takes.begins taken)) ∙ fresh))
    by false e = same ∙ e

-- a call that was accepted
pub accepts_call : (limits : Limits) (old scribe led done new next : View) (number ticket tag : ℕ) (call : Call) → IsPass old number → TakesLead old scribe led
    → done ≡ written led (Accept ticket number tag call ∷ []) → GivesLead done new next
    → ticket ≡ accepted (journal_of led.seen) → refusal limits (journal_of led.seen) call ≡ None → Accepts limits old new ticket tag call
accepts_call limits old scribe led done new next number ticket tag call pass takes did gives first free =
    let seen : led.seen ≡ scribe.seen = ap (λ (v : View). v.seen) takes.view in
    let mine : unwrap_or old.name.number 0 ≡ number = ap (λ o. unwrap_or o 0) pass.named in
    let w = writes old scribe led done new next (Accept ticket number tag call ∷ []) takes did gives in
    let entry : Entry = entry_of old.name (Accept ticket number tag call) Nothing in
    let legal : IsTrue (is_legal (journal_of scribe.seen)) = subst (λ es. IsTrue (is_legal (journal_of es))) seen takes.knows.legal in
    let first' : ticket ≡ accepted (journal_of scribe.seen) = first ∙ ap (λ es. accepted (journal_of es)) seen in
    let taken : taker_of (scribe.seen ++ entry ∷ []) ticket ≡ Some entry.author =
    next_mine scribe.seen entry ticket legal first' (ap (λ b. is_some (if b then Some call else None)) (eq-eqb ticket ticket refl)) in
    record {
      before = scribe.seen;
      next = first';
      free = ap (λ es. refusal limits (journal_of es) call) (sym seen) ∙ free;
      writes = subst (λ n. Writes old scribe.seen (Accept ticket n tag call ∷ []) new) (sym mine) w;
      mine = ap (λ es. taker_of es ticket) w.seen ∙ taken ∙ ap Some mine ∙ sym (w.moves.number ∙ pass.named);
      fresh = ap (λ ts. has ts ticket) w.got ∙ unheld (has old.name.got ticket) refl;
    }
  where
    unheld : (b : Bool) → has old.name.got ticket ≡ b → has old.name.got ticket ≡ false
    unheld true e =
        let in_old = pass.settled ticket e in
        let in_led : IsTrue (is_settled (journal_of led.seen) ticket) =
        settled-begins old.seen led.seen ticket (subst (IsPrefix old.seen) (sym (ap (λ (v : View). v.seen) takes.view)) takes.begins) in_old in
        absurd (true≢false (sym (settled_accepted (journal_of led.seen) takes.knows.legal ticket in_led) ∙ next_unaccepted (journal_of led.seen) takes.knows.legal ticket (omega arith)))
    unheld false e = e

-- a shutdown
pub closes_call : (old scribe led done new next : View) (index : ℕ) → TakesLead old scribe led → done ≡ written led (closing (journal_of led.seen)) → GivesLead done new next
    → close_index (journal_of done.seen) ≡ Some index
    → ((ticket : ℕ) → ticket < accepted (journal_of done.seen) → is_settled (journal_of done.seen) ticket ≡ true)
    → Closes old new index
closes_call old scribe led done new next index takes did gives there settled =
    let seen : led.seen ≡ scribe.seen = ap (λ (v : View). v.seen) takes.view in
    let same : done.seen ≡ new.seen = sym (ap (λ (v : View). v.seen) gives.view) in
    record {
      before = scribe.seen;
      writes = writes old scribe led done new next (closing (journal_of scribe.seen)) takes (did ∙ ap (λ es. written led (closing (journal_of es))) seen) gives;
      index = ap (λ es. close_index (journal_of es)) (sym same) ∙ there;
      settled = subst (λ (es : List Entry). (ticket : ℕ) → ticket < accepted (journal_of es) → is_settled (journal_of es) ticket ≡ true) same settled;
    }
