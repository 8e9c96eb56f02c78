-- The numbers of call lines.
use Rattle.std.proofs.Common.{◌≡◌, ℕ, ◌+◌, ◌<◌, ◌≤◌, Bool, true, false, ◌||◌, ◌==◌, cond, fold, nat_lt, nat_le, count_by, List, [], ◌∷◌, ◌++◌, length, None, refl, sym, ap, ◌∙◌, arith, append_assoc}
use Rattle.std.specs.List.{list_any, list_all}
use Rattle.std.proofs.lemmas.Bool.{and_from, and_parts}
use Rattle.std.proofs.lemmas.Bool.Decides.{nat_tests}
use Rattle.std.proofs.lemmas.List.{length-append}
use Rattle.ask_history.specs.Journal.{ticket_of}
use Rattle.ask_history.specs.Nested.{number_after}
use Rattle.ask_history.specs.declared.calls.Call.{Call}
use Rattle.ask_history.specs.declared.events.Event.{Event}
use Rattle.ask_history.specs.declared.script.Order.{Order}
use Rattle.ask_history.specs.declared.script.Order.TheVariants as order
use Rattle.ask_history.specs.declared.script.Line.{Line}
use Rattle.script_text.specs.Standing.{is_call, is_call_line, is_call_above}
use Rattle.client_scripts.specs.Lines.{call_under, call_lines, next_number}
use Rattle.client_scripts.specs.Clients.{calls_of}
use Rattle.client_scripts.proofs.Histories.{no_ticket}

pub calls-append : (n : ℕ) (front back : List Line) → call_lines n (front ++ back) ≡ call_lines n front ++ call_lines (next_number n front) back
calls-append n [] back = refl
calls-append n (line ∷ front) back =
    ap (λ cs. call_under n line.order ++ cs) (calls-append (number_after line.order n) front back)
    ∙ sym (append_assoc (call_under n line.order) (call_lines (number_after line.order n) front) (call_lines (next_number (number_after line.order n) front) back))

pub next-append : (n : ℕ) (front back : List Line) → next_number n (front ++ back) ≡ next_number (next_number n front) back
next-append n [] back = refl
next-append n (line ∷ front) back = next-append (number_after line.order n) front back

-- a call line has the number, and takes it
one_line : (n : ℕ) (o : Order) → number_after o n ≡ n + length (call_under n o)
one_line n (order.Call call) = refl
one_line n (order.Cancel k) = omega arith
one_line n order.Close = omega arith
one_line n (order.Wait k) = omega arith
one_line n order.Idle = omega arith

-- numbers count the call lines
pub counted : (n : ℕ) (lines : List Line) → next_number n lines ≡ n + length (call_lines n lines)
counted n [] = omega arith
counted n (line ∷ lines) =
    let rest = counted (number_after line.order n) lines in
    let here = one_line n line.order in
    let all = length-append (call_under n line.order) (call_lines (number_after line.order n) lines) in
    omega arith

-- a number not below the next one is of no call line
none_above : (n k : ℕ) (lines : List Line) → next_number n lines ≤ k → list_any (λ (call : ℕ × Call). call.0 == k) (call_lines n lines) ≡ false
none_above n k [] h = refl
none_above n k (line ∷ lines) h = by line.order (λ m e. none_above m k lines e) h
  where
    apart : (m : ℕ) → next_number (m + 1) lines ≤ k → (m == k) ≡ false
    apart m e = let c = counted (m + 1) lines in grind (arith, nat_tests)

    by : (o : Order) → ((m : ℕ) → next_number m lines ≤ k → list_any (λ (call : ℕ × Call). call.0 == k) (call_lines m lines) ≡ false)
        → next_number (number_after o n) lines ≤ k → list_any (λ (call : ℕ × Call). call.0 == k) (call_under n o ++ call_lines (number_after o n) lines) ≡ false
    by (order.Call call) rest e = ap (λ b. b || list_any (λ (call : ℕ × Call). call.0 == k) (call_lines (n + 1) lines)) (apart n e) ∙ rest (n + 1) e
    by (order.Cancel number) rest e = rest n e
    by order.Close rest e = rest n e
    by (order.Wait number) rest e = rest n e
    by order.Idle rest e = rest n e

-- the next call line has no ticket yet
pub next_unaccepted : (c : ℕ) (journal : List Event) (above : List Line) → calls_of c journal ≡ call_lines 1 above → ticket_of journal c (next_number 1 above) ≡ None
next_unaccepted c journal above h =
    no_ticket c (next_number 1 above) journal
    (ap (list_any (λ (call : ℕ × Call). call.0 == next_number 1 above)) h ∙ none_above 1 (next_number 1 above) above (omega arith))

-- what passes for each number of a call line
pub all_numbers : (test : ℕ → Bool) (n : ℕ) (lines : List Line) → ((k : ℕ) → n ≤ k → k < next_number n lines → test k ≡ true)
    → list_all (λ (call : ℕ × Call). test call.0) (call_lines n lines) ≡ true
all_numbers test n [] f = refl
all_numbers test n (line ∷ lines) f = by line.order (λ m g. all_numbers test m lines g) f
  where
    by : (o : Order) → ((m : ℕ) → ((k : ℕ) → m ≤ k → k < next_number m lines → test k ≡ true) → list_all (λ (call : ℕ × Call). test call.0) (call_lines m lines) ≡ true)
        → ((k : ℕ) → n ≤ k → k < next_number (number_after o n) lines → test k ≡ true)
        → list_all (λ (call : ℕ × Call). test call.0) (call_under n o ++ call_lines (number_after o n) lines) ≡ true
    by (order.Call call) rest g =
        let c = counted (n + 1) lines in
        and_from (test n) _ (g n (omega arith) (omega arith)) (rest (n + 1) (λ k low high. g k (omega arith) high))
    by (order.Cancel number) rest g = rest n g
    by order.Close rest g = rest n g
    by (order.Wait number) rest g = rest n g
    by order.Idle rest g = rest n g

-- the call lines, counted in two ways
pub count_lines : (n m : ℕ) (lines : List Line) → m + length (call_lines n lines) ≡ fold (λ (k : ℕ) (line : Line). k + cond (is_call_line line) 1 0) m lines
count_lines n m [] = omega arith
count_lines n m (line ∷ lines) =
    same line.order (call_lines (number_after line.order n) lines) ∙ count_lines (number_after line.order n) (m + cond (is_call line.order) 1 0) lines
  where
    same : (o : Order) (rest : List (ℕ × Call)) → m + length (call_under n o ++ rest) ≡ (m + cond (is_call o) 1 0) + length rest
    same (order.Call call) rest = omega arith
    same (order.Cancel number) rest = omega arith
    same order.Close rest = omega arith
    same (order.Wait number) rest = omega arith
    same order.Idle rest = omega arith

-- a number that a line may name is of a call line above it
pub named_above : (k : ℕ) (above : List Line) → is_call_above above k ≡ true → (0 < k) × (k ≤ length (call_lines 1 above))
named_above k above h =
    let both = and_parts (nat_lt 0 k) (nat_le k (count_by is_call_line above)) h in
    (low both.0, high both.1)
  where
    low : nat_lt 0 k ≡ true → 0 < k
    low e = grind (arith, nat_tests)

    high : nat_le k (count_by is_call_line above) ≡ true → k ≤ length (call_lines 1 above)
    high e = let same : 0 + length (call_lines 1 above) ≡ count_by is_call_line above = count_lines 1 0 above in grind (arith, nat_tests)

-- there are no more call lines than lines
pub calls_few : (n : ℕ) (lines : List Line) → length (call_lines n lines) ≤ length lines
calls_few n [] = omega arith
calls_few n (line ∷ lines) =
    let rest = calls_few (number_after line.order n) lines in
    let all = length-append (call_under n line.order) (call_lines (number_after line.order n) lines) in
    let here = one line.order in
    omega arith
  where
    one : (o : Order) → length (call_under n o) ≤ 1
    one (order.Call call) = omega arith
    one (order.Cancel number) = omega arith
    one order.Close = omega arith
    one (order.Wait number) = omega arith
    one order.Idle = omega arith
