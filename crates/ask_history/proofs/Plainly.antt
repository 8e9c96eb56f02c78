-- The journal of calls without inner lines.
use Rattle.std.proofs.Common.{◌≡◌, ℕ, ◌+◌, Bool, true, false, not, ◌||◌, ◌&&◌, if◌then◌else◌, ◌==◌, List, [], ◌∷◌, ◌++◌, map, refl, ap, ◌∙◌, subst}
use Rattle.std.proofs.Math.Bool.{or-false}
use Rattle.std.proofs.lemmas.Bool.{cond-true, cond-false, eq-eqb}
use Rattle.ask_history.specs.Sources.{is_mutation}
use Rattle.ask_history.specs.Journal.{accepted, is_close, is_closed, is_open}
use Rattle.ask_history.specs.Nested.{End, deeper, others, nested}
use Rattle.ask_history.specs.Plain.{mark_of, play, plain_line, plain_journal}
use Rattle.ask_history.specs.Plain as plain
use Rattle.ask_history.specs.Schedule.{Play, Part, all_of, before, settle_open, play_call, parts_of, journal_of}
use Rattle.ask_history.specs.declared.calls.Call.{Call}
use Rattle.ask_history.specs.declared.events.Mark.{Mark}
use Rattle.ask_history.specs.declared.events.Event.{Event}
use Rattle.ask_history.specs.declared.events.Event.TheVariants.{Accept, Settle}
use Rattle.ask_history.proofs.Pushes.{list_any-push}
use Rattle.ask_history.proofs.Underway.{Holds, holds-none, holds-accept, accept-shut}
use Rattle.ask_history.proofs.Plays.{Keeps, keeps-call}

pub all_of-before : (check : ℕ) (one : Play) (parts : List Part) (journal : List Event) → all_of (before check one parts) journal ≡ all_of parts (one journal)
all_of-before check one [] journal = refl
all_of-before check one (part ∷ parts) journal = by (check == part.check)
  where
    by : (b : Bool) → all_of (if b then record { check = check; play = λ js. part.play (one js) } ∷ parts else record { check = check; play = one } ∷ part ∷ parts) journal
        ≡ all_of parts (part.play (one journal))
    by true = refl
    by false = refl

none_under : (number : ℕ) (calls : List Call) → deeper 0 (nested number (map plain_line calls)) ≡ End
none_under number [] = refl
none_under number (call ∷ calls) = refl

all_after : (number : ℕ) (calls : List Call) → others 0 (nested number (map plain_line calls)) ≡ nested number (map plain_line calls)
all_after number [] = refl
all_after number (call ∷ calls) = refl

module _ (without : List ℕ) (journal : List Event) (h : Holds [] journal) (shut : is_closed journal ≡ false) (tag : ℕ) (call : Call) where
  played : (inner : Play) → inner (journal ++ Accept (accepted journal) 0 tag call ∷ []) ≡ journal ++ Accept (accepted journal) 0 tag call ∷ []
      → play_call without tag call inner journal ≡ plain.play_call without journal tag call
  played inner none = cond-false (is_closed journal) (inner journal) _ shut ∙ by (is_mutation call) refl
    where
      m : Mark
      m = mark_of without (accepted journal)

      by : (b : Bool) → is_mutation call ≡ b
          → (if b then (journal ++ Accept (accepted journal) 0 tag call ∷ []) ++ Settle (accepted journal) (mark_of without (accepted journal)) ∷ []
          else settle_open (accepted journal) (mark_of without (accepted journal)) (inner (journal ++ Accept (accepted journal) 0 tag call ∷ [])))
          ≡ plain.play_call without journal tag call
      by true e = refl
      by false e =
          ap (settle_open (accepted journal) (mark_of without (accepted journal))) none
          ∙ cond-true (is_open (journal ++ Accept (accepted journal) 0 tag call ∷ []) (accepted journal)) _ _
          ((holds-accept [] journal h shut tag call e).opens (accepted journal)
          ∙ (λ j. not (accept-shut [] journal h shut tag call j) && (eq-eqb (accepted journal) (accepted journal) refl j || false)))

  settled-shut : is_closed (plain.play_call without journal tag call) ≡ false
  settled-shut =
      list_any-push is_close (journal ++ Accept (accepted journal) 0 tag call ∷ []) (Settle (accepted journal) (mark_of without (accepted journal)))
      ∙ or-false (is_closed (journal ++ Accept (accepted journal) 0 tag call ∷ [])) ∙ accept-shut [] journal h shut tag call

plainly : (without : List ℕ) (journal : List Event) (tag : ℕ) (calls : List Call) → Holds [] journal → is_closed journal ≡ false
    → all_of (parts_of without (nested tag (map plain_line calls))) journal ≡ play without journal tag calls
unfolding Keeps
plainly without journal tag [] h shut = refl
plainly without journal tag (call ∷ calls) h shut =
    let inner : Play = all_of (parts_of without (deeper 0 (nested (tag + 1) (map plain_line calls)))) in
    let none : (js : List Event) → inner js ≡ js = λ js. ap (λ lines. all_of (parts_of without lines) js) (none_under (tag + 1) calls) in
    let now : play_call without tag call inner journal ≡ plain.play_call without journal tag call =
    played without journal h shut tag call inner (none (journal ++ Accept (accepted journal) 0 tag call ∷ [])) in
    let same : Holds [] (plain.play_call without journal tag call) =
    subst (Holds []) (played without journal h shut tag call (λ js. js) refl) (keeps-call without tag call (λ js. js) (λ under js k. k) [] journal h) in
    all_of-before 0 (play_call without tag call inner) (parts_of without (others 0 (nested (tag + 1) (map plain_line calls)))) journal
    ∙ (λ j. all_of (parts_of without (all_after (tag + 1) calls j)) (now j))
    ∙ plainly without (plain.play_call without journal tag call) (tag + 1) calls same (settled-shut without journal h shut tag call)

pub plain-schedule : (without : List ℕ) (calls : List Call) → journal_of without (map plain_line calls) ≡ plain_journal without calls
plain-schedule without calls = plainly without [] 1 calls holds-none refl
