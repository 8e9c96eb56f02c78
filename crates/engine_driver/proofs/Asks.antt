-- The open asks, and the tickets that the driver keeps of them.
use Rattle.std.proofs.Common.{◌≡◌, ℕ, ◌<◌, Bool, true, false, true≢false, not, ◌||◌, ◌==◌, if◌then◌else◌, is_some, IsTrue, List, [], ◌∷◌, ◌++◌, map, filter, Some, refl, sym, ap, ◌∙◌, subst, arith}
use Rattle.std.specs.List.{find, list_any, AllByRecursion}
use Rattle.std.proofs.lemmas.Bool.{and_from, eqb-true}
use Rattle.std.proofs.lemmas.Bool.Decides.{nat_tests}
use Rattle.ask_history.specs.Engine.{EngineState, is_open_in, is_staged, IsOnTop}
use Rattle.ask_history.specs.Journal.{call_of, is_open, is_settled}
use Rattle.ask_history.specs.Legal.{is_next}
use Rattle.ask_history.specs.declared.calls.Call.{Call}
use Rattle.ask_history.specs.declared.events.Event.{Event}
use Rattle.engine_driver.specs.Serving.{IsAsked, Serves}
use Rattle.ask_history.specs.Journal.{is_cancelled}
use Rattle.journal_laws.proofs.Settling.{next_below}

abbrev pub tickets_of : List (ℕ × Call) → List ℕ
tickets_of asks = map (λ (ask : ℕ × Call). ask.0) asks

-- an open ask of this ticket
pub open_in : (asks : List (ℕ × Call)) (ticket : ℕ) → list_any (λ open_. open_ == ticket) (tickets_of asks) ≡ is_open_in asks ticket
open_in [] ticket = refl
open_in (ask ∷ asks) ticket = ap (λ b. (ask.0 == ticket) || b) (open_in asks ticket)

pub record HasAsk (P : ℕ × Call → Type 0) (ticket : ℕ) : Type 0 where
  pub call : Call
  pub holds : P (ticket, call)

pub find_ask : (P : ℕ × Call → Type 0) (asks : List (ℕ × Call)) (ticket : ℕ) → is_open_in asks ticket ≡ true → AllByRecursion P asks → HasAsk P ticket
find_ask P [] ticket h all = absurd (true≢false (sym h))
find_ask P (ask ∷ asks) ticket h all = by (ask.0 == ticket) refl h (λ k. find_ask P asks ticket k all.1)
  where
    by : (b : Bool) → (ask.0 == ticket) ≡ b → (b || is_open_in asks ticket) ≡ true → (is_open_in asks ticket ≡ true → HasAsk P ticket) → HasAsk P ticket
    by true e k later = let same : ask.0 ≡ ticket = eqb-true ask.0 ticket e in record { call = ask.1; holds = subst (λ t. P (t, ask.1)) same all.0 }
    by false e k later = later k

-- the asks that are left where one is taken off
pub tickets_left : (asks : List (ℕ × Call)) (ticket : ℕ) → tickets_of (filter (λ ask. not (ask.0 == ticket)) asks) ≡ filter (λ t. not (t == ticket)) (tickets_of asks)
tickets_left [] ticket = refl
tickets_left (ask ∷ asks) ticket = by (not (ask.0 == ticket)) (tickets_left asks ticket)
  where
    by : (b : Bool) → tickets_of (filter (λ ask. not (ask.0 == ticket)) asks) ≡ filter (λ t. not (t == ticket)) (tickets_of asks)
        → tickets_of (if b then ask ∷ filter (λ ask. not (ask.0 == ticket)) asks else filter (λ ask. not (ask.0 == ticket)) asks)
        ≡ (if b then ask.0 ∷ filter (λ t. not (t == ticket)) (tickets_of asks) else filter (λ t. not (t == ticket)) (tickets_of asks))
    by true e = ap (λ (ts : List ℕ). ask.0 ∷ ts) e
    by false e = e

-- what holds of each that is left
pub all_left : (P Q : ℕ × Call → Type 0) (asks : List (ℕ × Call)) (ticket : ℕ) → ((ask : ℕ × Call) → (ask.0 == ticket) ≡ false → P ask → Q ask)
    → AllByRecursion P asks → AllByRecursion Q (filter (λ ask. not (ask.0 == ticket)) asks)
all_left P Q [] ticket f all = tt
all_left P Q (ask ∷ asks) ticket f all = by (ask.0 == ticket) refl (all_left P Q asks ticket f all.1)
  where
    by : (b : Bool) → (ask.0 == ticket) ≡ b → AllByRecursion Q (filter (λ ask. not (ask.0 == ticket)) asks)
        → AllByRecursion Q (if not b then ask ∷ filter (λ ask. not (ask.0 == ticket)) asks else filter (λ ask. not (ask.0 == ticket)) asks)
    by true e rest = rest
    by false e rest = (f ask e all.0, rest)

pub all_more : (P Q : ℕ × Call → Type 0) (asks : List (ℕ × Call)) (last : ℕ × Call) → ((ask : ℕ × Call) → P ask → Q ask) → AllByRecursion P asks → Q last
    → AllByRecursion Q (asks ++ last ∷ [])
all_more P Q [] last f all here = (here, tt)
all_more P Q (ask ∷ asks) last f all here = (f ask all.0, all_more P Q asks last f all.1 here)

-- no open ask has the next ticket
pub none_next : (journal : List Event) (next : ℕ) (asks : List (ℕ × Call)) → AllByRecursion (IsAsked journal next) asks → is_open_in asks next ≡ false
none_next journal next [] all = refl
none_next journal next (ask ∷ asks) all = let fed = all.0.fed in ap (λ b. b || is_open_in asks next) (apart ask.0 fed) ∙ none_next journal next asks all.1
  where
    apart : (k : ℕ) → k < next → (k == next) ≡ false
    apart k h = grind (arith, nat_tests)

-- an open ask's ticket is open, and may be settled
pub record MaySettle (journal : List Event) (ticket : ℕ) : Type 0 where
  pub unanswered : IsTrue (is_open journal ticket)
  pub next : IsTrue (is_next journal ticket)

pub may_settle : (journal : List Event) (state : EngineState) (next : ℕ) (opened : List ℕ) (ticket : ℕ) → Serves journal state next opened
    → list_any (λ open_. open_ == ticket) opened ≡ true → MaySettle journal ticket
may_settle journal state next opened ticket serves there =
    let inside : is_open_in state.asks ticket ≡ true = sym (open_in state.asks ticket) ∙ sym (ap (list_any (λ open_. open_ == ticket)) serves.opens) ∙ there in
    let ask = find_ask (IsAsked journal next) state.asks ticket inside serves.asked in
    let fed = ask.holds.fed in
    record {
      unanswered = and_from (is_some (call_of journal ticket)) (not (is_settled journal ticket)) (ap is_some ask.holds.called) (ap not ask.holds.unsettled);
      next = next_below journal ticket next (omega arith) serves.first;
    }

pub settled_open : (journal : List Event) (state : EngineState) (next : ℕ) (opened : List ℕ) (ticket : ℕ) → Serves journal state next opened
    → list_any (λ open_. open_ == ticket) opened ≡ true → (is_staged state.staged ticket || is_open_in state.asks ticket) ≡ true
settled_open journal state next opened ticket serves there =
    ap (λ b. is_staged state.staged ticket || b) (sym (open_in state.asks ticket) ∙ sym (ap (list_any (λ open_. open_ == ticket)) serves.opens) ∙ there)
    ∙ or_true (is_staged state.staged ticket)
  where
    or_true : (b : Bool) → (b || true) ≡ true
    or_true true = refl
    or_true false = refl

-- ---- the ask on top

top_of : (P : ℕ × Call → Type 0) (below : List (ℕ × Call)) (ask : ℕ × Call) → AllByRecursion P (below ++ ask ∷ []) → P ask
top_of P [] ask all = all.0
top_of P (first ∷ below) ask all = top_of P below ask all.1

pub top_asked : (journal : List Event) (state : EngineState) (next : ℕ) (opened : List ℕ) (ask : ℕ × Call) → Serves journal state next opened → IsOnTop state.asks ask
    → IsAsked journal next ask
top_asked journal state next opened ask serves top =
    top_of (IsAsked journal next) top.0 ask (subst (AllByRecursion (IsAsked journal next)) top.1 serves.asked)

pub top_opened : (journal : List Event) (state : EngineState) (next : ℕ) (opened : List ℕ) (ask : ℕ × Call) → Serves journal state next opened → IsOnTop state.asks ask
    → list_any (λ open_. open_ == ask.0) opened ≡ true
top_opened journal state next opened ask serves top =
    ap (list_any (λ open_. open_ == ask.0)) serves.opens ∙ ap (λ asks. list_any (λ open_. open_ == ask.0) (tickets_of asks)) top.1 ∙ last top.0
  where
    own : (t : ℕ) → (t == t) ≡ true
    own t = grind (arith, nat_tests)

    or_true : (b : Bool) → (b || true) ≡ true
    or_true true = refl
    or_true false = refl

    last : (below : List (ℕ × Call)) → list_any (λ open_. open_ == ask.0) (tickets_of (below ++ ask ∷ [])) ≡ true
    last [] = ap (λ b. b || false) (own ask.0)
    last (first ∷ below) = ap (λ b. (first.0 == ask.0) || b) (last below) ∙ or_true (first.0 == ask.0)

-- the first cancelled one is open, and cancelled
pub record IsDropped (journal : List Event) (opened : List ℕ) (ticket : ℕ) : Type 0 where
  pub there : list_any (λ open_. open_ == ticket) opened ≡ true
  pub cancelled : IsTrue (is_cancelled journal ticket)

pub first_dropped : (journal : List Event) (opened : List ℕ) (ticket : ℕ) → find (is_cancelled journal) opened ≡ Some ticket → IsDropped journal opened ticket
first_dropped journal [] ticket h = cc
first_dropped journal (t ∷ ts) ticket h = by (is_cancelled journal t) refl h (λ k. first_dropped journal ts ticket k)
  where
    or_true : (b : Bool) → (b || true) ≡ true
    or_true true = refl
    or_true false = refl

    own : (t == t) ≡ true
    own = grind (arith, nat_tests)

    by : (b : Bool) → is_cancelled journal t ≡ b → (if b then Some t else find (is_cancelled journal) ts) ≡ Some ticket
        → (find (is_cancelled journal) ts ≡ Some ticket → IsDropped journal ts ticket) → IsDropped journal (t ∷ ts) ticket
    by true e k later = let same : t ≡ ticket = cc in subst (IsDropped journal (t ∷ ts)) same (record { there = ap (λ b. b || list_any (λ open_. open_ == t) ts) own; cancelled = e })
    by false e k later = let d = later k in record { there = ap (λ b. (t == ticket) || b) d.there ∙ or_true (t == ticket); cancelled = d.cancelled }
