-- What feeding a call leaves, and where a driver begins.
use Rattle.std.proofs.Common.{◌≡◌, ℕ, ◌+◌, ◌<◌, ◌≤◌, true, false, is_some, IsTrue, List, [], ◌∷◌, ◌++◌, Some, None, refl, sym, ap, ◌∙◌, subst, arith}
use Rattle.std.specs.List.{AllByRecursion}
use Rattle.std.proofs.lemmas.List.{map-append}
use Rattle.ask_history.specs.Sources.{is_mutation}
use Rattle.ask_history.specs.Engine.{EngineState, stopped_state}
use Rattle.ask_history.specs.Journal.{accepted, call_of, is_closed, is_settled}
use Rattle.ask_history.specs.Legal.{is_legal}
use Rattle.ask_history.specs.declared.calls.Call.{Call}
use Rattle.ask_history.specs.declared.events.Event.{Event}
use Rattle.ask_history.proofs.Accepted.{accepted_below}
use Rattle.ask_history.proofs.Orders.{is_next-from, is_open-from}
use Rattle.journal_laws.proofs.Settling.{next_ask, next_settled}
use Rattle.engine_driver.specs.Board.{Waits, CanFeed}
use Rattle.engine_driver.specs.Serving.{IsAsked, Drives, CanDrive, IsServed, IsStaging}
use Rattle.engine_driver.proofs.Later.{all_so}
use Rattle.engine_driver.proofs.Asks.{all_more, tickets_of, MaySettle}

asked_later : (journal : List Event) (n n' : ℕ) → n ≤ n' → (ask : ℕ × Call) → IsAsked journal n ask → IsAsked journal n' ask
asked_later journal n n' less ask asked = record {
  fed = let f = asked.fed in omega arith;
  unsettled = asked.unsettled;
  called = asked.called;
  asks = asked.asks;
}

-- ---- an ask

fed_within : (journal : List Event) (n : ℕ) (call : Call) → IsTrue (is_legal journal) → call_of journal n ≡ Some call → n < accepted journal
fed_within journal n call legal is = accepted_below journal legal n (ap is_some is)

pub drives_fed : (journal : List Event) (state : EngineState) (n : ℕ) (opened : List ℕ) (call : Call) → Drives journal state n opened → CanFeed journal n call
    → is_mutation call ≡ false → Drives journal (record state { asks = state.asks ++ (n, call) ∷ [] }) (n + 1) (opened ++ n ∷ [])
drives_fed journal state n opened call drives can ask = record {
  legal = drives.legal;
  sources = drives.sources;
  staged = drives.staged;
  serves = λ k.
      let serves = drives.serves k in
      let last : ℕ × Call = (n, call) in
      let within = fed_within journal n call drives.legal can.called in
      record {
        within = omega arith;
        first = next_ask journal n call drives.legal serves.first can.called ask;
        opens = ap (λ ts. ts ++ n ∷ []) serves.opens ∙ sym (map-append (λ (ask : ℕ × Call). ask.0) state.asks (last ∷ []));
        asked = all_more (IsAsked journal n) (IsAsked journal (n + 1)) state.asks last
            (λ ask asked. asked_later journal n (n + 1) (omega arith) ask asked) serves.asked
            (record { fed = (let less : n < n + 1 = omega arith in less); unsettled = can.waiting.unsettled; called = can.called; asks = ask });
        files = serves.files;
      };
}

-- ---- a settled ticket is passed over

pub drives_passed : (journal : List Event) (state : EngineState) (n : ℕ) (opened : List ℕ) → Drives journal state n opened → n < accepted journal
    → is_settled journal n ≡ true → Drives journal state (n + 1) opened
drives_passed journal state n opened drives there settled = record {
  legal = drives.legal;
  sources = drives.sources;
  staged = drives.staged;
  serves = λ k.
      let serves = drives.serves k in
      record {
        within = omega arith;
        first = next_settled journal n serves.first settled;
        opens = serves.opens;
        asked = all_so (IsAsked journal n) (IsAsked journal (n + 1)) state.asks (λ ask asked. asked_later journal n (n + 1) (omega arith) ask asked) serves.asked;
        files = serves.files;
      };
}

-- ---- the next ticket may be settled

pub waits_open : (journal : List Event) (state : EngineState) (n : ℕ) (opened : List ℕ) → Drives journal state n opened → n < accepted journal → Waits journal n → MaySettle journal n
waits_open journal state n opened drives there waiting = record {
  unanswered = is_open-from journal n drives.legal there waiting.unsettled;
  next = (drives.serves waiting.unshut).first;
}

pub feeds_open : (journal : List Event) (state : EngineState) (n : ℕ) (opened : List ℕ) (call : Call) → Drives journal state n opened → CanFeed journal n call → MaySettle journal n
feeds_open journal state n opened call drives can = waits_open journal state n opened drives (fed_within journal n call drives.legal can.called) can.waiting

pub staging_open : (journal : List Event) (state : EngineState) (n : ℕ) (opened : List ℕ) → IsStaging journal state n opened → MaySettle journal n
staging_open journal state n opened staging =
    waits_open journal (record state { staged = None }) n opened staging.drives
    (fed_within journal n staging.call staging.drives.legal staging.called) staging.waiting

-- ---- the beginning

pub drives_start : (journal : List Event) (state : EngineState) → IsTrue (is_legal journal) → CanDrive journal state → Drives journal state 0 []
drives_start journal state legal can = record {
  legal = legal;
  sources = can.sources;
  staged = can.staged;
  serves = λ k. record {
    within = omega arith;
    first = is_next-from journal 0 (λ k less. absurd (omega arith));
    opens = ap tickets_of (sym can.asks);
    asked = subst (AllByRecursion (IsAsked journal 0)) (sym can.asks) tt;
    files = can.files;
  };
}

-- a driver that fed nothing
pub drives_new : (journal : List Event) (state : EngineState) (n : ℕ) (opened : List ℕ) → IsTrue (is_legal journal) → CanDrive journal state → n ≡ 0 → opened ≡ [] → Drives journal state n opened
drives_new journal state n opened legal can count none =
    subst (λ (k : ℕ). Drives journal state k opened) (sym count) (subst (Drives journal state 0) (sym none) (drives_start journal state legal can))

-- ---- the end

pub served_stopped : (journal : List Event) (state state' : EngineState) (n : ℕ) (opened : List ℕ) → Drives journal state n opened → is_closed journal ≡ true → state' ≡ stopped_state state
    → IsServed journal state'
served_stopped journal state state' n opened drives shut is =
    subst (IsServed journal) (sym is) (record { legal = drives.legal; shut = shut; sources = drives.sources; asks = refl; staged = drives.staged })
