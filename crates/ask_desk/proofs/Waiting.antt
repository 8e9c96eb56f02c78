-- The loop that waits for an answer.
use Rattle.std.proofs.Common.{◌≡◌, ℕ, ◌≤◌, false, [], ◌∷◌, refl, ap, ◌∙◌, arith, append-nil}
use mathlib.Core.List.{IsPrefix}
use Rattle.ask_history.specs.declared.answers.Answer.{Answer}
use Rattle.counting_word.specs.declared.view.View.{View}
use Rattle.counting_word.specs.History.{taker_of, has}
use Rattle.counting_word.proofs.Beginnings.{begins-trans}
use Rattle.ask_desk.specs.Passes.{Receives, FindsNone}

-- looks that found no answer yet
pub record IsWaiting (old now : View) (ticket : ℕ) : Type 0 where
  pub begins : IsPrefix old.seen now.seen
  pub known : old.known ≤ now.known
  pub loads : old.loads ≤ now.loads
  pub number : now.name.number ≡ old.name.number
  pub made : now.name.made ≡ old.name.made
  pub own : now.name.own ≡ old.name.own
  pub got : now.name.got ≡ old.name.got
  pub mine : taker_of now.seen ticket ≡ now.name.number
  pub fresh : has now.name.got ticket ≡ false

pub waiting-none : (old : View) (ticket : ℕ) → taker_of old.seen ticket ≡ old.name.number → has old.name.got ticket ≡ false → IsWaiting old old ticket
waiting-none old ticket mine fresh = record {
  begins = ([], append-nil old.seen);
  known = omega arith;
  loads = omega arith;
  number = refl;
  made = refl;
  own = refl;
  got = refl;
  mine = mine;
  fresh = fresh;
}

module _ (old now next : View) (ticket : ℕ) (waiting : IsWaiting old now ticket) where
  pub waiting-more : FindsNone now next ticket → IsWaiting old next ticket
  waiting-more finds =
      let w = finds.writes in
      record {
        begins = begins-trans old.seen now.seen next.seen waiting.begins w.moves.begins;
        known = let a = waiting.known in let b = w.moves.known in let c = w.moves.counted in omega arith;
        loads = let a = waiting.loads in let b = w.moves.loads in omega arith;
        number = w.moves.number ∙ waiting.number;
        made = w.moves.made ∙ waiting.made;
        own = w.own ∙ append-nil now.name.own ∙ waiting.own;
        got = w.got ∙ waiting.got;
        mine = finds.mine;
        fresh = ap (λ ts. has ts ticket) w.got ∙ waiting.fresh;
      }

  pub waiting-got : (answer : Answer) → Receives now next ticket answer → Receives old next ticket answer
  waiting-got answer receives =
      let m = receives.moves in
      record {
        moves = record {
          begins = begins-trans old.seen now.seen next.seen waiting.begins m.begins;
          known = let a = waiting.known in let b = m.known in omega arith;
          counted = m.counted;
          loads = let a = waiting.loads in let b = m.loads in omega arith;
          number = m.number ∙ waiting.number;
          made = m.made ∙ waiting.made;
        };
        own = receives.own ∙ waiting.own;
        got = receives.got ∙ ap (λ ts. ticket ∷ ts) waiting.got;
        answer_seen = receives.answer_seen;
      }
