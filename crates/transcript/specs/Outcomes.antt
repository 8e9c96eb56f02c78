-- What a table of a journal keeps.
use Rattle.std.specs.Prelude.{◌≡◌, ℕ, Bool, ◌&&◌, nat_eq, List}
use Rattle.std.specs.HashMap as hash
use Rattle.ask_history.specs.Journal.{ticket_of}
use Rattle.ask_history.specs.Indices.{cancel_index, settle_index, close_index}
use Rattle.ask_history.specs.declared.events.Event.{Event}
use Rattle.transcript.specs.declared.outcomes.Outcomes.{Outcomes}

abbrev pub pair_eq : ℕ × ℕ → ℕ × ℕ → Bool
pair_eq p q = nat_eq p.0 q.0 && nat_eq p.1 q.1

-- The table tells of each call and of each ticket what a walk along the journal finds.
pub record IsTableOf (journal : List Event) (table : Outcomes) : Type 0 where
  pub tickets : (client tag : ℕ) → hash.get pair_eq table.tickets (client, tag) ≡ ticket_of journal client tag
  pub cancels : (t : ℕ) → hash.get nat_eq table.cancels t ≡ cancel_index journal t
  pub settles : (t : ℕ) → hash.get nat_eq table.settles t ≡ settle_index journal t
  pub closed : table.closed ≡ close_index journal
