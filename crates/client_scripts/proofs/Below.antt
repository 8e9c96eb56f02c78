-- What stands before the calls of the lines below a line.
use Rattle.std.proofs.Common.{◌≡◌, ℕ, ◌+◌, ◌≤◌, Bool, true, false, ◌||◌, List, [], ◌∷◌, ◌++◌, Option, Some, None, refl, sym, ap, ◌∙◌, subst, arith}
use Rattle.std.specs.List.{list_all}
use Rattle.std.proofs.lemmas.Bool.{and_parts}
use Rattle.std.proofs.lemmas.List.Folds.{list_any-append}
use Rattle.ask_history.specs.Journal.{ticket_of, is_settled, is_cancelled, cancels}
use Rattle.ask_history.specs.Nested.{number_after}
use Rattle.ask_history.specs.declared.calls.Call.{Call}
use Rattle.ask_history.specs.declared.events.Event.{Event}
use Rattle.ask_history.specs.declared.events.Event.TheVariants.{Accept}
use Rattle.ask_history.specs.declared.script.Order.{Order}
use Rattle.ask_history.specs.declared.script.Order.TheVariants as order
use Rattle.ask_history.specs.declared.script.Line.{Line}
use Rattle.client_scripts.specs.Lines.{next_number}
use Rattle.client_scripts.specs.Clients.{passes, is_answered, is_ended, has_come}
use Rattle.client_scripts.specs.OfScripts.{OfScript}
use Rattle.std.specs.Option.{option_or}
use Rattle.client_scripts.proofs.Histories.{ticket_of-append}
use Rattle.client_scripts.proofs.Numbers.{counted}

-- two divisions of one list of lines, at a line and at a call line whose number is not below that of the next behind the first
above_comes : (test : Order → Bool) (n : ℕ) (above below above' below' : List Line) (line line' : Line) (call : Call) → above ++ line ∷ below ≡ above' ++ line' ∷ below'
    → line'.order ≡ order.Call call → test (order.Call call) ≡ true → next_number n above ≤ next_number n above' → list_all (λ (l : Line). test l.order) above' ≡ true → test line.order ≡ true
above_comes test n [] below [] below' line line' call same is passes_ few all =
    let here : line ≡ line' = cc in ap (λ (l : Line). test l.order) here ∙ ap test is ∙ passes_
above_comes test n [] below (first ∷ above') below' line line' call same is passes_ few all =
    let here : line ≡ first = cc in
    ap (λ (l : Line). test l.order) here ∙ (and_parts (test first.order) (list_all (λ (l : Line). test l.order) above') all).0
above_comes test n (first ∷ above) below [] below' line line' call same is passes_ few all =
    let here : first ≡ line' = cc in
    let next : number_after first.order n ≡ n + 1 = ap (λ (l : Line). number_after l.order n) here ∙ ap (λ o. number_after o n) is in
    let more = counted (number_after first.order n) above in
    absurd (omega arith)
above_comes test n (first ∷ above) below (first' ∷ above') below' line line' call same is passes_ few all =
    let here : first ≡ first' = cc in
    let rest : above ++ line ∷ below ≡ above' ++ line' ∷ below' = cc in
    above_comes test (number_after first.order n) above below above' below' line line' call rest is passes_
    (subst (λ (l : Line). next_number (number_after first.order n) above ≤ next_number (number_after l.order n) above') (sym here) few)
    (and_parts (test first'.order) (list_all (λ (l : Line). test l.order) above') all).1

-- what a line waits for has come where a call of a line below it is accepted
pub below_comes : (c : ℕ) (lines above below : List Line) (line : Line) (journal before behind : List Event) (t tag : ℕ) (call : Call) → OfScript c lines journal
    → lines ≡ above ++ line ∷ below → journal ≡ before ++ Accept t c tag call ∷ behind → next_number 1 above ≤ tag → has_come c before line.order ≡ true
below_comes c lines above below line journal before behind t tag call of split at under =
    let own = of.accepts before behind t tag call at in
    let low : next_number 1 above ≤ next_number 1 own.0.above = subst (λ n. next_number 1 above ≤ n) own.1 under in
    above_comes (has_come c before) 1 above below own.0.above own.0.below line own.0.line call (sym split ∙ own.0.split) own.0.orders refl low own.0.stands.come

pub below_wait : (c : ℕ) (lines above below : List Line) (line : Line) (journal before behind : List Event) (t tag : ℕ) (call : Call) (k : ℕ) → OfScript c lines journal
    → lines ≡ above ++ line ∷ below → line.order ≡ order.Wait k → journal ≡ before ++ Accept t c tag call ∷ behind → next_number 1 above ≤ tag → is_answered c before k ≡ true
below_wait c lines above below line journal before behind t tag call k of split is at under =
    sym (ap (has_come c before) is) ∙ below_comes c lines above below line journal before behind t tag call of split at under

-- what is not cancelled in a journal is not in its beginning
never_cancelled : (before behind : List Event) (u : ℕ) → is_cancelled (before ++ behind) u ≡ false → is_cancelled before u ≡ false
never_cancelled before behind u h = by (is_cancelled before u) refl
  where
    by : (b : Bool) → is_cancelled before u ≡ b → b ≡ false
    by true e = sym (list_any-append (cancels u) before behind ∙ ap (λ b. b || is_cancelled behind u) e) ∙ h
    by false e = refl

ended_settled : (c k : ℕ) (before : List Event) → ((u : ℕ) → ticket_of before c k ≡ Some u → is_cancelled before u ≡ false) → is_ended c before k ≡ true → is_answered c before k ≡ true
ended_settled c k before none h = by (ticket_of before c k) refl h
  where
    by : (o : Option ℕ) → ticket_of before c k ≡ o → passes (λ u. is_cancelled before u || is_settled before u) o ≡ true → passes (is_settled before) o ≡ true
    by None e m = m
    by (Some u) e m = sym (ap (λ b. b || is_settled before u) (none u e)) ∙ m

pub below_cancel : (c : ℕ) (lines above below : List Line) (line : Line) (journal before behind : List Event) (t tag : ℕ) (call : Call) (k : ℕ) → OfScript c lines journal
    → lines ≡ above ++ line ∷ below → line.order ≡ order.Cancel k → journal ≡ before ++ Accept t c tag call ∷ behind → next_number 1 above ≤ tag
    → ((u : ℕ) → ticket_of journal c k ≡ Some u → is_cancelled journal u ≡ false) → is_answered c before k ≡ true
below_cancel c lines above below line journal before behind t tag call k of split is at under none =
    ended_settled c k before (λ u e. never_cancelled before (Accept t c tag call ∷ behind) u (subst (λ js. is_cancelled js u ≡ false) at (none u (stays u e))))
    (sym (ap (has_come c before) is) ∙ below_comes c lines above below line journal before behind t tag call of split at under)
  where
    stays : (u : ℕ) → ticket_of before c k ≡ Some u → ticket_of journal c k ≡ Some u
    stays u e =
        ap (λ js. ticket_of js c k) at ∙ ticket_of-append before (Accept t c tag call ∷ behind) c k
        ∙ ap (λ o. option_or o (ticket_of (Accept t c tag call ∷ behind) c k)) e
