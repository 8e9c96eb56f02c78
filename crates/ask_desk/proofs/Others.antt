-- What may still be settled and checked where others went on with a journal before the shutdown.
use Rattle.std.proofs.Common.{◌≡◌, ℕ, true, false, true≢false, not, ◌&&◌, IsTrue, List, Option, Some, None, is_some, refl, sym, ap, ◌∙◌}
use Rattle.std.specs.List.{list_any}
use Rattle.std.specs.Str.{bytes_eq}
use Rattle.std.proofs.lemmas.Bool.{and_parts, and_from}
use Rattle.ask_history.specs.Sources.{Bytes, is_loaded}
use Rattle.ask_history.specs.Journal.{after, checked, call_of, is_closed, is_settled, is_open}
use Rattle.ask_history.specs.Legal.{may_follow}
use Rattle.ask_history.specs.declared.calls.Call.{Call}
use Rattle.ask_history.specs.declared.events.Event.{Event}
use Rattle.ask_history.specs.declared.events.Event.TheVariants.{Checked}
use Rattle.journal_laws.specs.Stays.{Stays}

pub open_stays : (before now : List Event) (t : ℕ) → Stays before now → IsTrue (is_open before t) → IsTrue (is_open now t)
open_stays before now t stays h =
    let parts = and_parts (is_some (call_of before t)) (not (is_settled before t)) h in
    and_from (is_some (call_of now t)) (not (is_settled now t)) (by (call_of before t) refl parts.0) (ap not (stays.settled t) ∙ parts.1)
  where
    by : (o : Option Call) → call_of before t ≡ o → IsTrue (is_some o) → IsTrue (is_some (call_of now t))
    by (Some call) e some = ap is_some (stays.calls t call e)
    by None e some = absurd (true≢false (sym some))

pub check_stays : (before now : List Event) (file : Bytes) → Stays before now → is_closed now ≡ false → IsTrue (may_follow before (Checked file))
    → IsTrue (may_follow now (Checked file))
check_stays before now file stays open_ may =
    let both = and_parts (is_loaded (after before) file && not (list_any (bytes_eq file) (checked before))) (not (is_closed before)) may in
    and_from (is_loaded (after now) file && not (list_any (bytes_eq file) (checked now))) (not (is_closed now))
    ((λ j. is_loaded (stays.sources j) file && not (list_any (bytes_eq file) (stays.files j))) ∙ both.0) (ap not open_)
