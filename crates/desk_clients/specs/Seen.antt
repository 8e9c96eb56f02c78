-- What a client sees of its pass at a desk.
use Rattle.std.specs.Prelude.{ℕ, List, map, unwrap_or}
use Rattle.client_scripts.specs.History.{Entry}
use Rattle.client_scripts.specs.Passes.{PassState}
use Rattle.counting_word.specs.declared.view.Entry.{Entry as Noted}
use Rattle.counting_word.specs.declared.view.View.{View}
use Rattle.ask_desk.specs.Answers.{found_answer}

abbrev pub seen_entry : Noted → Entry
seen_entry noted = record { event = noted.event; author = noted.author; answer = found_answer noted.found }

-- its number, what it has seen of the history, and the tickets whose answers it got
abbrev pub seen_state : View → PassState
seen_state view = record { number = unwrap_or view.name.number 0; history = map seen_entry view.seen; got = view.name.got }
