-- What a look for an answer comes to.
use Rattle.std.specs.Prelude.{◌≡◌, ℕ}
use Rattle.counting_word.specs.declared.view.View.{View}
use Rattle.ask_desk.specs.declared.locked.Tried.{Tried}
use Rattle.ask_desk.specs.declared.locked.Tried.TheVariants.{Got, NotYet}
use Rattle.ask_desk.specs.Passes.{Receives, FindsNone}

-- The answer is handed out where the settling stands in what the pass has then seen; else the ticket comes back.
abbrev pub Tries : {B : Type 0} → View → View → ℕ → Tried B → Type 0
Tries old new ticket (Got answer) = Receives old new ticket answer
Tries old new ticket (NotYet back) = FindsNone old new ticket × (back.ticket ≡ ticket)
