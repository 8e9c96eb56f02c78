-- An entry that stands where a call has picked none.
use Rattle.ask_history.specs.declared.events.Event.TheVariants.{Close}
use Rattle.counting_word.specs.declared.view.Entry.{Entry}
use Rattle.counting_word.specs.declared.view.Found.TheVariants.{Nothing}

abbrev pub blank_entry : Entry
blank_entry = record { event = Close; author = 0; found = Nothing }
