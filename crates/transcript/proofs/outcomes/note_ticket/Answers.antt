use Rattle.std.proofs.Common.{◌≡◌, false, is_some, rules}
use Rattle.std.specs.HashMap as hash
use Rattle.transcript.specs.Outcomes.{pair_eq}
use Rattle.transcript.proofs.Tables.{ticket_kept}
use Rattle.transcript.proofs.outcomes.note_ticket.Goals as goal

pub returns-in_ok-insert : goal.returns-in_ok-insert
returns-in_ok-insert c = λ q k.
    let gone : is_some (hash.get pair_eq c.args.tickets.now (c.args.client, c.args.tag)) ≡ false = search rules in
    ticket_kept (λ x y. hash.get pair_eq c.args.tickets.now (x, y)) (λ x y. hash.get pair_eq c.insert.new.self (x, y))
    c.args.client c.args.tag c.args.ticket q k (c.in_ok-insert.ensures.updates.0 (q, k)) gone
