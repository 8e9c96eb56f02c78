-- Lines only add to a journal.
use Rattle.std.proofs.Common.{◌≡◌, ℕ, zero, suc, ◌+◌, ◌-◌, Bool, true, false, not, ◌&&◌, ◌==◌, if◌then◌else◌, List, [], ◌∷◌, ◌++◌, length, Option, Some, None, refl, sym, ap, ◌∙◌, subst, append-nil, append_assoc}
use Rattle.ask_history.specs.Sources.{is_mutation}
use Rattle.ask_history.specs.Journal.{accepted, is_closed, is_cancelled, is_open, ticket_of}
use Rattle.ask_history.specs.Closing.{after_close, settled, open_tickets}
use Rattle.ask_history.specs.Checks.{due, check_begins, check_done, first_checked, checks_alone}
use Rattle.ask_history.specs.Nested.{Nested, End, Then, deeper, others}
use Rattle.ask_history.specs.Plain.{mark_of}
use Rattle.ask_history.specs.Schedule.{Play, Part, all_of, before, settle_open, accept_call, play_call, cancel_ticket, play_checks, play_line, parts_of}
use Rattle.ask_history.specs.declared.calls.Call.{Call}
use Rattle.ask_history.specs.declared.events.Mark.{Mark}
use Rattle.ask_history.specs.declared.events.Event.{Event}
use Rattle.ask_history.specs.declared.events.Event.TheVariants.{Accept, Cancel, Close, Settle, Checked}
use Rattle.ask_history.specs.declared.script.Order.{Order}
use Rattle.ask_history.specs.declared.script.Order.TheVariants as order
use Rattle.schedule_player.specs.Around.{ending, in_check, resume}
use Rattle.schedule_player.specs.declared.outers.Work.{Work}
use Rattle.schedule_player.specs.declared.outers.Work.TheVariants.{Ask, Checks, Check, Beside, Passed}
use Rattle.schedule_player.specs.declared.outers.Outer.{Outer}

pub record IsMore (old new : List Event) : Type 0 where
  pub more : List Event
  pub is : new ≡ old ++ more

more_none : (journal : List Event) → IsMore journal journal
more_none journal = record { more = []; is = sym (append-nil journal) }

more_one : (journal events : List Event) → IsMore journal (journal ++ events)
more_one journal events = record { more = events; is = refl }

pub more_then : (old now new : List Event) → IsMore old now → IsMore now new → IsMore old new
more_then old now new a b = record { more = a.more ++ b.more; is = b.is ∙ ap (λ js. js ++ b.more) a.is ∙ append_assoc old a.more b.more }

unfoldable pub Grows : Play → Type 0
Grows play = (journal : List Event) → IsMore journal (play journal)

unfoldable pub AllGrow : List Part → Type 0
AllGrow [] = Unit {0}
AllGrow (part ∷ parts) = Grows part.play × AllGrow parts

grows-all : (parts : List Part) → AllGrow parts → Grows (all_of parts)
unfolding Grows AllGrow
grows-all [] grow journal = more_none journal
grows-all (part ∷ parts) grow journal = more_then journal (part.play journal) (all_of parts (part.play journal)) (grow.0 journal) (grows-all parts grow.1 (part.play journal))

grow-before : (check : ℕ) (play : Play) (parts : List Part) → Grows play → AllGrow parts → AllGrow (before check play parts)
unfolding Grows AllGrow
grow-before check play [] one grow = (one, tt)
grow-before check play (part ∷ parts) one grow = by (check == part.check)
  where
    by : (b : Bool) → AllGrow (if b then record { check = check; play = λ journal. part.play (play journal) } ∷ parts else record { check = check; play = play } ∷ part ∷ parts)
    by true = (λ journal. more_then journal (play journal) (part.play (play journal)) (one journal) (grow.0 (play journal)), grow.1)
    by false = (one, grow)

more_if : (b : Bool) (old new other : List Event) → IsMore old new → IsMore old other → IsMore old (if b then new else other)
more_if true old new other a c = a
more_if false old new other a c = c

grows-settle : (ticket : ℕ) (m : Mark) (journal : List Event) → IsMore journal (settle_open ticket m journal)
grows-settle ticket m journal = more_if (is_open journal ticket) journal _ _ (more_one journal (Settle ticket m ∷ [])) (more_none journal)

grows-call : (without : List ℕ) (tag : ℕ) (call : Call) (inner : Play) → Grows inner → (journal : List Event) → IsMore journal (play_call without tag call inner journal)
unfolding Grows
grows-call without tag call inner grow journal =
    more_if (is_closed journal) journal _ _ (grow journal)
    (more_if (is_mutation call) journal _ _
    (more_then journal (journal ++ Accept (accepted journal) 0 tag call ∷ []) _ (more_one journal _) (more_one (journal ++ Accept (accepted journal) 0 tag call ∷ []) _))
    (more_then journal (journal ++ Accept (accepted journal) 0 tag call ∷ []) _ (more_one journal _)
    (more_then (journal ++ Accept (accepted journal) 0 tag call ∷ []) (inner (journal ++ Accept (accepted journal) 0 tag call ∷ [])) _ (grow (journal ++ Accept (accepted journal) 0 tag call ∷ []))
    (grows-settle (accepted journal) (mark_of without (accepted journal)) (inner (journal ++ Accept (accepted journal) 0 tag call ∷ []))))))

grows-cancel : (ticket : Option ℕ) (journal : List Event) → IsMore journal (cancel_ticket ticket journal)
grows-cancel None journal = more_none journal
grows-cancel (Some ticket) journal = more_if (is_open journal ticket && not (is_cancelled journal ticket)) journal _ _ (more_one journal (Cancel ticket ∷ [])) (more_none journal)

grows-first : (names : List (List ℕ)) (journal : List Event) → IsMore journal (first_checked names journal)
grows-first [] journal = more_none journal
grows-first (name ∷ names) journal = more_one journal (Checked name ∷ [])

grows-done : (journal : List Event) → IsMore journal (check_done journal)
grows-done journal = more_if (is_closed journal) journal _ _ (more_none journal) (grows-first (due journal) journal)

grows-alone : (count : ℕ) (journal : List Event) → IsMore journal (checks_alone count journal)
grows-alone zero journal = more_none journal
grows-alone (suc count) journal =
    more_if (check_begins journal) journal _ _ (more_then journal (check_done journal) _ (grows-done journal) (grows-alone count (check_done journal))) (more_none journal)

grows-checks : (next : ℕ) (parts : List Part) → AllGrow parts → (journal : List Event) → IsMore journal (play_checks next parts journal)
unfolding Grows AllGrow
grows-checks next [] grow journal = grows-alone (length (due journal)) journal
grows-checks next (part ∷ parts) grow journal =
    more_then journal (checks_alone (part.check - next) journal) _ (grows-alone (part.check - next) journal)
    (more_if (check_begins (checks_alone (part.check - next) journal)) (checks_alone (part.check - next) journal) _ _
    (more_then (checks_alone (part.check - next) journal) (part.play (checks_alone (part.check - next) journal)) _ (grow.0 (checks_alone (part.check - next) journal))
    (more_then (part.play (checks_alone (part.check - next) journal)) (check_done (part.play (checks_alone (part.check - next) journal))) _ (grows-done (part.play (checks_alone (part.check - next) journal)))
    (grows-checks (part.check + 1) parts grow.1 (check_done (part.play (checks_alone (part.check - next) journal))))))
    (more_then (checks_alone (part.check - next) journal) (part.play (checks_alone (part.check - next) journal)) _ (grow.0 (checks_alone (part.check - next) journal))
    (grows-all parts grow.1 (part.play (checks_alone (part.check - next) journal)))))

grows-line : (without : List ℕ) (number : ℕ) (what : Order) (inner : List Part) → AllGrow inner → Grows (play_line without number what inner)
unfolding Grows
grows-line without number (order.Call call) inner grow = grows-call without number call (all_of inner) (grows-all inner grow)
grows-line without number (order.Cancel tag) inner grow = λ journal. grows-cancel (ticket_of journal 0 tag) journal
grows-line without number order.Close inner grow = λ journal. more_if (is_closed journal) journal _ _ (more_none journal) (more_one journal _)
grows-line without number (order.Wait tag) inner grow = λ journal. more_none journal
grows-line without number order.Idle inner grow = grows-checks 0 inner grow

grow-parts : (without : List ℕ) (lines : Nested) → AllGrow (parts_of without lines)
unfolding AllGrow
grow-parts without End = tt
grow-parts without (Then number line inner rest) =
    grow-before line.check (play_line without number line.order (parts_of without inner)) (parts_of without rest)
    (grows-line without number line.order (parts_of without inner) (grow-parts without inner)) (grow-parts without rest)

grows-ending : (without : List ℕ) (work : Work) (parts : List Part) → AllGrow parts → (journal : List Event) → IsMore journal (ending without work parts journal)
unfolding Grows AllGrow
grows-ending without (Ask ticket is_fed turns) parts grow journal =
    more_then journal (all_of parts journal) _ (grows-all parts grow journal) (grows-settle ticket (mark_of without ticket) (all_of parts journal))
grows-ending without (Checks next) parts grow journal = grows-checks next parts grow journal
grows-ending without (Check number turns) [] grow journal = more_then journal (check_done journal) _ (grows-done journal) (grows-checks (number + 1) [] grow (check_done journal))
grows-ending without (Check number turns) (part ∷ parts) grow journal =
    more_if (number == part.check) journal _ _
    (more_then journal (part.play journal) _ (grow.0 journal) (more_then (part.play journal) (check_done (part.play journal)) _ (grows-done (part.play journal)) (grows-checks (number + 1) parts grow.1 (check_done (part.play journal)))))
    (more_then journal (check_done journal) _ (grows-done journal) (grows-checks (number + 1) (part ∷ parts) grow (check_done journal)))
grows-ending without Beside parts grow journal = grows-all parts grow journal
grows-ending without Passed parts grow journal = more_none journal

pub grows-resume : (without : List ℕ) (outers : List Outer) (rest : Nested) (journal : List Event) → IsMore journal (resume without outers rest journal)
unfolding Grows
grows-resume without [] rest journal = grows-all (parts_of without rest) (grow-parts without rest) journal
grows-resume without (outer ∷ outers) rest journal =
    more_then journal (ending without outer.work (parts_of without (deeper outer.level rest)) journal) _
    (grows-ending without outer.work (parts_of without (deeper outer.level rest)) (grow-parts without (deeper outer.level rest)) journal)
    (grows-resume without outers (others outer.level rest) (ending without outer.work (parts_of without (deeper outer.level rest)) journal))
