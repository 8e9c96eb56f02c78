-- What playing lines keeps.
use Rattle.std.proofs.Common.{◌≡◌, ℕ, zero, suc, ◌+◌, ◌-◌, Bool, true, false, not, ◌||◌, ◌&&◌, if◌then◌else◌, ◌==◌, List, [], ◌∷◌, ◌++◌, length, map, filter, Option, Some, None, is_some, refl, sym, ap, ◌∙◌}
use Rattle.std.specs.List.{list_any, list_all}
use Rattle.std.specs.Str.{bytes_eq}
use Rattle.std.specs.Cmp.Lexicographic.{nat_list_eq_equiv}
use Rattle.std.proofs.lemmas.Bool.{and_parts, and_from, and_right, not-false, or_left, or_right, eq-eqb, cond-true, cond-false}
use Rattle.ask_history.specs.Sources.{Bytes, Sources, is_mutation, is_loaded}
use Rattle.ask_history.specs.Journal.{accepted, call_of, is_closed, is_cancelled, is_settled, is_open, tickets, all_settled, after, checked, ticket_of, first_of_two}
use Rattle.ask_history.specs.Checks.{due, check_begins, check_done, first_checked, checks_alone}
use Rattle.ask_history.specs.Nested.{Nested, End, Then, nested}
use Rattle.ask_history.specs.Plain.{mark_of}
use Rattle.ask_history.specs.Schedule.{Play, Part, all_of, before, settle_open, accept_call, play_call, cancel_ticket, play_checks, play_line, parts_of, journal_of}
use Rattle.ask_history.specs.declared.calls.Call.{Call}
use Rattle.ask_history.specs.declared.events.Mark.{Mark}
use Rattle.ask_history.specs.declared.events.Event.{Event}
use Rattle.ask_history.specs.declared.events.Event.TheVariants.{Accept, Settle, Checked}
use Rattle.ask_history.specs.declared.events.Event.TheVariants as event
use Rattle.ask_history.specs.declared.script.Order.{Order}
use Rattle.ask_history.specs.declared.script.Order.TheVariants as order
use Rattle.ask_history.specs.declared.script.Line.{Line}
use Rattle.ask_history.proofs.Underway.{Holds, holds-none, holds-aside, holds-accept, holds-mutation, holds-settle, holds-settled, is_new}
use Rattle.ask_history.proofs.Shutdowns.{holds-close}

-- What holds before some lines holds after them.
unfoldable pub Keeps : Play → Type 0
Keeps play = (under : List ℕ) (journal : List Event) → Holds under journal → Holds under (play journal)

unfoldable pub AllKeep : List Part → Type 0
AllKeep [] = Unit {0}
AllKeep (part ∷ parts) = Keeps part.play × AllKeep parts

pub keeps-all : (parts : List Part) → AllKeep parts → Keeps (all_of parts)
unfolding Keeps AllKeep
keeps-all [] keep under journal h = h
keeps-all (part ∷ parts) keep under journal h = keeps-all parts keep.1 under (part.play journal) (keep.0 under journal h)

keep-before : (check : ℕ) (play : Play) (parts : List Part) → Keeps play → AllKeep parts → AllKeep (before check play parts)
unfolding Keeps AllKeep
keep-before check play [] one keep = (one, tt)
keep-before check play (part ∷ parts) one keep = by (check == part.check)
  where
    by : (b : Bool) → AllKeep (if b then record { check = check; play = λ journal. part.play (play journal) } ∷ parts else record { check = check; play = play } ∷ part ∷ parts)
    by true = (λ under journal h. keep.0 under (play journal) (one under journal h), keep.1)
    by false = (one, keep)

-- ---- calls and cancels

pub keeps-call : (without : List ℕ) (tag : ℕ) (call : Call) (inner : Play) → Keeps inner → Keeps (play_call without tag call inner)
unfolding Keeps
keeps-call without tag call inner keep under journal h = by (is_closed journal) refl
  where
    ticket : ℕ
    ticket = accepted journal

    m : Mark
    m = mark_of without (accepted journal)

    opened : List Event
    opened = journal ++ Accept (accepted journal) 0 tag call ∷ []

    settle : (now : List Event) (new : Holds (accepted journal ∷ under) now) (shut : is_closed journal ≡ false) (b : Bool) → is_open now (accepted journal) ≡ b
        → Holds under (if b then now ++ Settle (accepted journal) (mark_of without (accepted journal)) ∷ [] else now)
    settle now new shut true e = holds-settle under (accepted journal) now new (is_new under journal h shut tag call) e (mark_of without (accepted journal))
    settle now new shut false e = holds-settled under (accepted journal) now new e

    accept : (shut : is_closed journal ≡ false) (b : Bool) → is_mutation call ≡ b
        → Holds under (if b then (journal ++ Accept (accepted journal) 0 tag call ∷ []) ++ Settle (accepted journal) (mark_of without (accepted journal)) ∷ []
        else settle_open (accepted journal) (mark_of without (accepted journal)) (inner (journal ++ Accept (accepted journal) 0 tag call ∷ [])))
    accept shut true e = holds-mutation under journal h shut tag call (mark_of without (accepted journal))
    accept shut false e =
        let now : List Event = inner (journal ++ Accept (accepted journal) 0 tag call ∷ []) in
        settle now (keep (accepted journal ∷ under) (journal ++ Accept (accepted journal) 0 tag call ∷ []) (holds-accept under journal h shut tag call e)) shut
        (is_open now (accepted journal)) refl

    by : (b : Bool) → is_closed journal ≡ b
        → Holds under (if b then inner journal else accept_call (accepted journal) (mark_of without (accepted journal)) tag call inner journal)
    by true e = keep under journal h
    by false e = accept e (is_mutation call) refl

pub keeps-cancel : (ticket : Option ℕ) (under : List ℕ) (journal : List Event) → Holds under journal → Holds under (cancel_ticket ticket journal)
keeps-cancel None under journal h = h
keeps-cancel (Some ticket) under journal h = by (is_open journal ticket && not (is_cancelled journal ticket)) refl
  where
    by : (b : Bool) → (is_open journal ticket && not (is_cancelled journal ticket)) ≡ b → Holds under (if b then journal ++ event.Cancel ticket ∷ [] else journal)
    by true e =
        let open_there = (and_parts (is_open journal ticket) (not (is_cancelled journal ticket)) e).0 in
        let shut = (and_parts (not (is_closed journal)) (list_any (λ u. u == ticket) under) (sym (h.opens ticket) ∙ open_there)).0 in
        holds-aside under journal h (event.Cancel ticket) (and_from (is_open journal ticket && not (is_cancelled journal ticket)) (not (is_closed journal)) e shut) refl refl (λ t. refl) (λ t. refl)
    by false e = h

-- ---- checks

pub first_passes : (p : Bytes → Bool) (names : List Bytes) (first : Bytes) (rest : List Bytes) → filter p names ≡ first ∷ rest
    → (p first ≡ true) × (list_any (bytes_eq first) names ≡ true)
first_passes p [] first rest h = cc
first_passes p (n ∷ names) first rest h = by (p n) refl (first_passes p names first rest)
  where
    by : (b : Bool) → p n ≡ b → (filter p names ≡ first ∷ rest → (p first ≡ true) × (list_any (bytes_eq first) names ≡ true))
        → (p first ≡ true) × (list_any (bytes_eq first) (n ∷ names) ≡ true)
    by true e next =
        let same : n ∷ filter p names ≡ first ∷ rest = sym (cond-true (p n) (n ∷ filter p names) (filter p names) e) ∙ h in
        let is : first ≡ n = cc in
        (ap p is ∙ e, or_left (bytes_eq first n) _ (ap (bytes_eq first) (sym is) ∙ nat_list_eq_equiv.refl first))
    by false e next =
        let found = next (sym (cond-false (p n) (n ∷ filter p names) (filter p names) e) ∙ h) in
        (found.0, or_right (bytes_eq first n) _ found.1)

pub loaded_names : (files : Sources) (name : Bytes) → list_any (bytes_eq name) (map (λ file. file.0) files) ≡ is_loaded files name
loaded_names [] name = refl
loaded_names (file ∷ files) name = ap (λ b. bytes_eq name file.0 || b) (loaded_names files name)

pub keeps-check_done : Keeps check_done
unfolding Keeps
keeps-check_done under journal h = by (is_closed journal) refl
  where
    checks : (names : List Bytes) → due journal ≡ names → is_closed journal ≡ false → Holds under (first_checked names journal)
    checks [] e shut = h
    checks (name ∷ names) e shut =
        let found = first_passes (λ n. not (list_any (bytes_eq n) (checked journal))) (map (λ file. file.0) (after journal)) name names e in
        holds-aside under journal h (Checked name)
        (and_from (is_loaded (after journal) name && not (list_any (bytes_eq name) (checked journal))) (not (is_closed journal))
        (and_from (is_loaded (after journal) name) _ (sym (loaded_names (after journal) name) ∙ found.1) found.0) (ap not shut))
        refl refl (λ t. refl) (λ t. refl)

    by : (b : Bool) → is_closed journal ≡ b → Holds under (if b then journal else first_checked (due journal) journal)
    by true e = h
    by false e = checks (due journal) refl e

keeps-alone : (count : ℕ) → Keeps (checks_alone count)
unfolding Keeps
keeps-alone zero under journal h = h
keeps-alone (suc count) under journal h = by (check_begins journal) (keeps-alone count under (check_done journal) (keeps-check_done under journal h))
  where
    by : (b : Bool) → Holds under (checks_alone count (check_done journal)) → Holds under (if b then checks_alone count (check_done journal) else journal)
    by true more = more
    by false more = h

keeps-checks : (next : ℕ) (parts : List Part) → AllKeep parts → Keeps (play_checks next parts)
unfolding Keeps AllKeep
keeps-checks next [] keep under journal h = keeps-alone (length (due journal)) under journal h
keeps-checks next (part ∷ parts) keep under journal h = by (check_begins reached) (keeps-checks (part.check + 1) parts keep.1)
  where
    reached : List Event
    reached = checks_alone (part.check - next) journal

    there : Holds under (checks_alone (part.check - next) journal)
    there = keeps-alone (part.check - next) under journal h

    by : (b : Bool) → ((u : List ℕ) (js : List Event) → Holds u js → Holds u (play_checks (part.check + 1) parts js))
        → Holds under (if b then play_checks (part.check + 1) parts (check_done (part.play (checks_alone (part.check - next) journal)))
        else all_of parts (part.play (checks_alone (part.check - next) journal)))
    by true more = more under _ (keeps-check_done under _ (keep.0 under _ there))
    by false more = keeps-all parts keep.1 under _ (keep.0 under _ there)

-- ---- lines

keeps-line : (without : List ℕ) (number : ℕ) (what : Order) (inner : List Part) → AllKeep inner → Keeps (play_line without number what inner)
unfolding Keeps
keeps-line without number (order.Call call) inner keep = keeps-call without number call (all_of inner) (keeps-all inner keep)
keeps-line without number (order.Cancel tag) inner keep = λ under journal h. keeps-cancel (ticket_of journal 0 tag) under journal h
keeps-line without number order.Close inner keep = λ under journal h. holds-close under journal h
keeps-line without number (order.Wait tag) inner keep = λ under journal h. h
keeps-line without number order.Idle inner keep = keeps-checks 0 inner keep

keep-parts : (without : List ℕ) (lines : Nested) → AllKeep (parts_of without lines)
unfolding AllKeep
keep-parts without End = tt
keep-parts without (Then number line inner rest) =
    keep-before line.check (play_line without number line.order (parts_of without inner)) (parts_of without rest)
    (keeps-line without number line.order (parts_of without inner) (keep-parts without inner)) (keep-parts without rest)

pub holds-schedule : (without : List ℕ) (lines : List Line) → Holds [] (journal_of without lines)
unfolding Keeps
holds-schedule without lines = keeps-all (parts_of without (nested 1 lines)) (keep-parts without (nested 1 lines)) [] [] holds-none

-- ---- where no ticket is open, every call is settled

some_later : (b : Bool) (call : Call) (later : Option Call) → is_some later ≡ true → is_some (first_of_two (if b then Some call else None) later) ≡ true
some_later true call later h = refl
some_later false call later h = h

pub settled_tickets : (settled : ℕ → Bool) (events : List Event) → ((t : ℕ) → is_some (call_of events t) ≡ true → settled t ≡ true) → list_all settled (tickets events) ≡ true
settled_tickets settled [] h = refl
settled_tickets settled (Accept ticket client tag call ∷ events) h =
    and_from (settled ticket) (list_all settled (tickets events))
    (h ticket (ap (λ b. is_some (first_of_two (if b then Some call else None) (call_of events ticket))) (eq-eqb ticket ticket refl)))
    (settled_tickets settled events (λ t later. h t (some_later (ticket == t) call (call_of events t) later)))
settled_tickets settled (event.Cancel ticket ∷ events) h = settled_tickets settled events h
settled_tickets settled (event.Close ∷ events) h = settled_tickets settled events h
settled_tickets settled (Settle ticket m ∷ events) h = settled_tickets settled events h
settled_tickets settled (Checked file ∷ events) h = settled_tickets settled events h

pub all_settled-schedule : (without : List ℕ) (lines : List Line) → all_settled (journal_of without lines) ≡ true
all_settled-schedule without lines = settled_tickets (is_settled journal) journal called
  where
    journal : List Event
    journal = journal_of without lines

    called : (t : ℕ) → is_some (call_of (journal_of without lines) t) ≡ true → is_settled (journal_of without lines) t ≡ true
    called t there =
        not-false (is_settled (journal_of without lines) t)
        (ap (λ b. b && not (is_settled (journal_of without lines) t)) (sym there)
        ∙ (holds-schedule without lines).opens t
        ∙ and_right (not (is_closed (journal_of without lines))) false refl)
