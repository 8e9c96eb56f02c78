-- A client at a line of its script.
use Rattle.std.proofs.Common.{◌≡◌, ℕ, suc, ◌+◌, ◌<◌, ◌^◌, true, List, [], ◌∷◌, ◌++◌, take, drop, get_or, length, Result, Ok, Err, IfOk, IfErr, refl, sym, ap, ◌∙◌, subst, arith}
use Rattle.std.proofs.lemmas.Bool.{and_parts}
use Rattle.std.proofs.lemmas.List.{take_more, set-get_or, set_split, length-take-le}
use Rattle.ask_history.specs.Engine.{has_file_names}
use Rattle.ask_history.specs.Nested.{number_after}
use Rattle.ask_history.specs.declared.calls.Call.{Call}
use Rattle.ask_history.specs.declared.script.Order.{Order}
use Rattle.ask_history.specs.declared.script.Order.TheVariants as order
use Rattle.ask_history.specs.declared.script.Line.{Line}
use Rattle.script_text.specs.declared.kinds.ScriptKind.TheVariants as kind
use Rattle.script_text.specs.Standing.{is_meant, is_call_above}
use Rattle.work_queue.specs.Reloads.{reloaded_by}
use Rattle.work_queue.specs.declared.limits.PostRefused.{PostRefused}
use Rattle.client_scripts.specs.declared.client.Client.{Client}
use Rattle.client_scripts.specs.Lines.{next_number, AreMeant, MayPost, AllMayPost}
use Rattle.client_scripts.specs.Passes.{PassState, Closes}
use Rattle.client_scripts.specs.Holding.{IsHolding, IsPlaying, Posts, Rests, CancelsAt, ReceivesAt, HasStopped}
use Rattle.client_scripts.proofs.Numbers.{counted, calls_few}
use Rattle.client_scripts.proofs.Playing.{playing_idle, playing_closed, playing_unheld, playing_waited, playing_cancelled, playing_posted, stopped}

pub split_at : {X : Type 0} (xs : List X) (at : ℕ) (x : X) → at < length xs → x ≡ get_or xs at x → xs ≡ take at xs ++ x ∷ drop (suc at) xs
split_at xs at x within e = sym (set-get_or xs at x) ∙ set_split xs at (get_or xs at x) within ∙ ap (λ y. take at xs ++ y ∷ drop (suc at) xs) (sym e)

pub order_here : (lines : List Line) (at : ℕ) (line : Line) {meant : Order} → line ≡ get_or lines at line → (get_or lines at line).order ≡ meant → line.order ≡ meant
order_here lines at line there is = ap (λ (l : Line). l.order) there ∙ is

module _ (lines : List Line) (at : ℕ) (line : Line) (within : at < length lines) (there : line ≡ get_or lines at line) where
  pub line_meant : AreMeant lines → is_meant kind.Client (take at lines) line.order ≡ true
  line_meant meant = meant (take at lines) (drop (suc at) lines) line (split_at lines at line within there)

  pub line_posts : AllMayPost lines → (call : Call) → line.order ≡ order.Call call → (has_file_names call ≡ true) × (length (reloaded_by call) < 2 ^ 32)
  line_posts may call is = subst MayPost is (may (take at lines) (drop (suc at) lines) line (split_at lines at line within there))

  module _ {T : Type 0} (number_of : T → ℕ) (old : PassState) (client : Client T) (playing : IsPlaying number_of old.number lines (take at lines) old client) where
    pub number_fits : length lines < 2 ^ 63 → client.next + 1 < 2 ^ 64
    number_fits short =
        let a = playing.counts in let b = counted 1 (take at lines) in let c = calls_few 1 (take at lines) in let d = length-take-le at lines (omega arith) in omega arith

    to_next : (new : PassState) (client' : Client T) → IsPlaying number_of old.number lines (take at lines ++ line ∷ []) new client' → IsPlaying number_of old.number lines (take (at + 1) lines) new client'
    to_next new client' h = subst (λ ls. IsPlaying number_of old.number lines ls new client') (sym (take_more lines at line within ∙ ap (λ l. take at lines ++ l ∷ []) (sym there))) h

    pub step_posted : (new : PassState) (client' : Client T) (call : Call) (result : Result Unit PostRefused) → line.order ≡ order.Call call
        → IfOk result (λ done. Posts number_of old new client client' call)
        → IfOk result (λ done. IsPlaying number_of old.number lines (take (at + 1) lines) new client')
    step_posted new client' call (Ok done) is h =
        to_next new client' (playing_posted number_of lines (take at lines) (drop (suc at) lines) line (split_at lines at line within there) old client playing new client' call is h)
    step_posted new client' call (Err why) is h = tt

    pub step_idle : line.order ≡ order.Idle → IsPlaying number_of old.number lines (take (at + 1) lines) old client
    step_idle is = to_next old client (playing_idle number_of lines (take at lines) (drop (suc at) lines) line (split_at lines at line within there) old client playing is)

    pub step_closed : (new : PassState) → line.order ≡ order.Close → Closes old new → IsPlaying number_of old.number lines (take (at + 1) lines) new client
    step_closed new is closes = to_next new client (playing_closed number_of lines (take at lines) (drop (suc at) lines) line (split_at lines at line within there) old client playing new is closes)

    pub step_cancelled : (new : PassState) (index k : ℕ) → line.order ≡ order.Cancel k → index + 1 ≡ k → CancelsAt old new index
        → IsPlaying number_of old.number lines (take (at + 1) lines) new client
    step_cancelled new index k is same h =
        to_next new client (playing_cancelled number_of lines (take at lines) (drop (suc at) lines) line (split_at lines at line within there) old client playing new index k is same h)

    pub step_waited : (new : PassState) (client' : Client T) (index k : ℕ) → line.order ≡ order.Wait k → index + 1 ≡ k → ReceivesAt old new index
        → IsHolding number_of new client'.held.items → client'.next ≡ client.next → IsPlaying number_of old.number lines (take (at + 1) lines) new client'
    step_waited new client' index k is same received holding next =
        to_next new client'
        (playing_waited number_of lines (take at lines) (drop (suc at) lines) line (split_at lines at line within there) old client playing new client' index k is same received holding next)

    unheld : (o : Order) (k : ℕ) → line.order ≡ o → number_after o (next_number 1 (take at lines)) ≡ next_number 1 (take at lines)
        → is_call_above (take at lines) k ≡ true → (0 < k → length client.held.items < k) → IsPlaying number_of old.number lines (take (at + 1) lines) old client
    unheld o k is same named none =
        to_next old client (playing_unheld number_of lines (take at lines) (drop (suc at) lines) line (split_at lines at line within there) old client playing o k is same named none)

    pub step_no_cancel : (k : ℕ) → AreMeant lines → line.order ≡ order.Cancel k → (0 < k → length client.held.items < k) → IsPlaying number_of old.number lines (take (at + 1) lines) old client
    step_no_cancel k meant is none =
        unheld (order.Cancel k) k is refl (and_parts (is_call_above (take at lines) k) _ (sym (ap (is_meant kind.Client (take at lines)) is) ∙ line_meant meant)).0 none

    pub step_no_wait : (k : ℕ) → AreMeant lines → line.order ≡ order.Wait k → (0 < k → length client.held.items < k) → IsPlaying number_of old.number lines (take (at + 1) lines) old client
    step_no_wait k meant is none = unheld (order.Wait k) k is refl (sym (ap (is_meant kind.Client (take at lines)) is) ∙ line_meant meant) none

    pub step_stopped : (new : PassState) (result : Result Unit PostRefused) → IfErr result (λ why. Rests old new) → IfErr result (λ why. HasStopped old.number lines new)
    step_stopped new (Ok done) h = h
    step_stopped new (Err why) h = stopped number_of lines (take at lines) old new client playing h
