-- What each kind of step makes of a view.
use Rattle.std.specs.Prelude.{ℕ, ◌+◌, Bool, true, false, ◌||◌, if◌then◌else◌, List, [], ◌∷◌, ◌++◌, max, Some, None}
use Rattle.counting_word.specs.declared.view.Entry.{Entry}
use Rattle.counting_word.specs.declared.view.Name.{Name}
use Rattle.counting_word.specs.declared.view.View.{View}
use Rattle.counting_word.specs.History.{engine_number}

abbrev pub nameless : Name
nameless = record { number = None; own = []; got = []; given = []; made = 0 }

-- the view of the first seat: the engine's, which leads and has seen the empty history
abbrev pub first_view : View
first_view = record {
  leads = true;
  seen = [];
  older = [];
  known = 0;
  loads = 0;
  name = record { number = Some engine_number; own = []; got = []; given = []; made = 0 };
}

-- a load that found this number; it compares what was joined, and needs the older beginnings no more
abbrev pub loaded : View → ℕ → View
loaded view found = record view { older = []; known = found; loads = view.loads + 1 }

-- a load that hands out the answer of a ticket
abbrev pub handed : View → ℕ → ℕ → View
handed view ticket found =
    record (loaded view found) { name = record view.name { got = ticket ∷ view.name.got; given = ticket ∷ view.name.given } }

-- an append of the view's own
abbrev pub appended : View → Entry → View
appended view entry =
    record view { seen = view.seen ++ entry ∷ []; name = record view.name { own = view.name.own ++ entry ∷ [] } }

-- a seat that only knows what this view has seen
abbrev pub note_of : View → View
note_of view = record { leads = false; seen = view.seen; older = []; known = view.known; loads = 0; name = nameless }

-- the scribe takes over the lead, and the tickets whose answers were given
abbrev pub scribe_of : View → View
scribe_of view = record { leads = view.leads; seen = view.seen; older = []; known = view.known; loads = 0; name = record nameless { given = view.name.given } }

abbrev pub after_scribe : View → View
after_scribe view = record view { leads = false; name = record view.name { given = [] } }

-- a pass for a client, split off the engine's, which counts it
abbrev pub client_of : View → View
client_of view = record (note_of view) { name = record nameless { number = Some view.name.made } }

abbrev pub after_client : View → View
after_client view = record view { name = record view.name { made = view.name.made + 1 } }

-- the longer of two lists, of which one begins the other
abbrev pub is_longer : {A : Type 0} → List A → List A → Bool
is_longer [] ys = false
is_longer (x ∷ xs) [] = true
is_longer (x ∷ xs) (y ∷ ys) = is_longer xs ys

abbrev pub longer_of : List Entry → List Entry → List Entry
longer_of xs ys = if is_longer xs ys then xs else ys

-- what two views have seen together: all that the leading one has seen, else the longer
abbrev pub seen_of_both : View → View → List Entry
seen_of_both view other = if view.leads then view.seen else (if other.leads then other.seen else longer_of view.seen other.seen)

-- A view that takes in another's. It keeps what both had seen as older beginnings, until a load compares them.
abbrev pub joined : View → View → View
joined view other = record {
  leads = view.leads || other.leads;
  seen = seen_of_both view other;
  older = view.seen ∷ other.seen ∷ view.older;
  known = max view.known other.known;
  loads = view.loads;
  name = record view.name { given = if other.leads then other.name.given else view.name.given };
}

-- what a seat is left with whose view was taken in
abbrev pub spent : View
spent = record { leads = false; seen = []; older = []; known = 0; loads = 0; name = nameless }
