-- Each kind of step keeps the rule, and tells what it is said to tell.
use Rattle.std.proofs.Common.{◌≡◌, ℕ, ◌+◌, ◌<◌, ◌^◌, ◌%◌, inl, inr, true, IsTrue, List, [], ◌∷◌, ◌++◌, length, set, Option, Some, None, is_some, true≢false, refl, ap, sym, ◌∙◌, subst, arith, length-append}
use Rattle.std.proofs.Math.Nat.{mod-eq_of_lt}
use Rattle.std.specs.Prelude.{slice_index, slice_set}
use mathlib.Core.Option as maybe
use mathlib.Core.Option.{some}
use lib.ListN.{get_elem?}
use Rattle.atomic_table.specs.Table.{Me, step, Allows, Splits, Joins, opening, keeps}
use Rattle.ask_history.specs.Journal.{is_settled}
use Rattle.ask_history.specs.Legal.{is_legal}
use Rattle.counting_word.specs.declared.view.Entry.{Entry}
use Rattle.counting_word.specs.declared.view.View.{View}
use Rattle.counting_word.specs.History.{journal_of, taker_of, has, engine_number, are_made}
use Rattle.counting_word.specs.Views.{first_view, loaded, handed, appended, note_of, scribe_of, after_scribe, client_of, after_client, joined, spent}
use Rattle.counting_word.specs.Rule.{Counted, Named, Holds}
use Rattle.counting_word.specs.Steps.{Learns, Loads, Appends, HandsOut}
use Rattle.counting_word.proofs.Beginnings.{length-begins, at_set}
use Rattle.counting_word.proofs.Counting.{legal_beginning, counted_first, loads_keep, hands_keep, others_follow, appends_keep, notes_keep, clients_keep, scribes_keep, both_see, joins_keep}
use Rattle.counting_word.proofs.Naming.{are_made-begins, named_first, loads_name, hands_name, appends_name, notes_name, clients_name, scribes_name, joins_name}

pub starts : (slots : List ℕ) → Holds (opening (0 ∷ []) slots first_view)
starts slots = (0, [], 0, [], counted_first, named_first)

module _ (leader : ℕ) (history : List Entry) (made : ℕ) (given : List ℕ) (words : List ℕ) (views : List View)
    (counted : Counted leader history words views) (named : Named made given history views)
    (seat : ℕ) (view : View) (there : get_elem? views seat ≡ some view) where
  learns : Learns view (length history)
  learns =
      let f = counted.each seat view there in
      let g = named.each seat view there in
      record {
        seen = length-begins view.seen history f.seen;
        known = f.known;
        whole = λ h. ap length (f.whole h);
        older = f.older;
        legal = legal_beginning view.seen history f.seen counted.legal;
        own = λ n e. g.own n e ∙ sym (g.seen n e);
        authors = λ e. are_made-begins view.name.made view.seen history f.seen (subst (λ n. IsTrue (are_made n history)) (sym (g.engine e)) named.authors);
        got = λ l n e ticket h taken.
            g.got n e ticket (subst (λ ts. IsTrue (has ts ticket)) (g.leads l) h) (ap (λ es. taker_of es ticket) (sym (f.whole l)) ∙ taken);
        settled = λ l ticket h.
            ap (λ es. is_settled (journal_of es) ticket) (f.whole l) ∙ (named.settled ticket (subst (λ ts. IsTrue (has ts ticket)) (g.leads l) h)).0;
      }

  found_there : slice_index words 0 ≡ length history
  found_there = ap (λ ws. slice_index ws 0) counted.word

  same_words : slice_set words 0 (slice_index words 0) ≡ words
  same_words = ap (λ n. slice_set words 0 n) found_there ∙ ap (λ ws. slice_set ws 0 (length history)) counted.word ∙ sym counted.word

pub loads : (slots seat : ℕ) (me : Me ℕ View) → Allows Holds slots seat me 0 (λ n. n) (Loads (step slots 0 0 0 maybe.none) me)
loads slots seat me s holds homes there fits =
    let leader = holds.0 in
    let history = holds.1 in
    let made = holds.2 in
    let given = holds.3 in
    let counted = holds.4 in
    let named = holds.5 in
    let found = found_there leader history made given s.words s.views counted named seat me.0 there in
    let words = same_words leader history made given s.words s.views counted named seat me.0 there in
    let after : List View = set s.views seat (loaded me.0 (slice_index s.words 0)) in (
      loaded me.0 (slice_index s.words 0),
      keeps,
      tt,
      (
        leader,
        history,
        made,
        given,
        subst (λ ws. Counted leader history ws after) (sym words)
            (subst (λ n. Counted leader history s.words (set s.views seat (loaded me.0 n))) (sym found)
            (loads_keep leader history s.views seat me.0 there s.words counted)),
        loads_name made given history s.views seat me.0 there named (slice_index s.words 0),
      ),
      (refl, refl, subst (Learns me.0) (sym found) (learns leader history made given s.words s.views counted named seat me.0 there)),
    )

pub hands_out : (slots seat : ℕ) (me : Me ℕ View) (ticket n : ℕ) → me.0.leads ≡ true → me.0.name.number ≡ Some n → taker_of me.0.seen ticket ≡ Some n
    → IsTrue (is_settled (journal_of me.0.seen) ticket) → Allows Holds slots seat me 0 (λ n. n) (HandsOut ticket (step slots 0 0 0 maybe.none) me)
hands_out slots seat me ticket n leads number taken settled s holds homes there fits =
    let leader = holds.0 in
    let history = holds.1 in
    let made = holds.2 in
    let given = holds.3 in
    let counted = holds.4 in
    let named = holds.5 in
    let whole : me.0.seen ≡ history = (counted.each seat me.0 there).whole leads in
    let found = found_there leader history made given s.words s.views counted named seat me.0 there in
    let words = same_words leader history made given s.words s.views counted named seat me.0 there in
    let after : List View = set s.views seat (handed me.0 ticket (slice_index s.words 0)) in (
      handed me.0 ticket (slice_index s.words 0),
      keeps,
      tt,
      (
        leader,
        history,
        made,
        ticket ∷ given,
        subst (λ ws. Counted leader history ws after) (sym words)
            (subst (λ n. Counted leader history s.words (set s.views seat (handed me.0 ticket n))) (sym found)
            (hands_keep leader history s.views seat me.0 there ticket s.words counted)),
        hands_name made given history s.views seat me.0 there named ticket n (slice_index s.words 0)
            (others_follow leader history s.views seat me.0 there s.words counted leads)
            number
            (ap (λ es. taker_of es ticket) (sym whole) ∙ taken)
            (ap (λ es. is_settled (journal_of es) ticket) (sym whole) ∙ settled)
            leads,
      ),
      (refl, refl, subst (Learns me.0) (sym found) (learns leader history made given s.words s.views counted named seat me.0 there)),
    )

pub appends : (slots seat : ℕ) (me : Me ℕ View) (entry : Entry) → me.0.leads ≡ true → me.0.name.number ≡ Some entry.author → length me.0.seen + 1 < 2 ^ 64
    → IsTrue (is_legal (journal_of (me.0.seen ++ entry ∷ [])))
    → Allows Holds slots seat me 0 (λ n. (n + 1) % 2 ^ 64) (Appends entry (step slots 0 1 0 maybe.none) me)
appends slots seat me entry leads number room legal s holds homes there fits =
    let counted = holds.4 in
    let whole : me.0.seen ≡ holds.1 = (counted.each seat me.0 there).whole leads in
    let found : slice_index s.words 0 ≡ length me.0.seen = ap (λ ws. slice_index ws 0) counted.word ∙ ap length (sym whole) in
    let more : (length me.0.seen + 1) % 2 ^ 64 ≡ length (me.0.seen ++ entry ∷ []) =
    mod-eq_of_lt (omega arith) ∙ sym (length-append me.0.seen (entry ∷ [])) in
    let words : slice_set s.words 0 ((slice_index s.words 0 + 1) % 2 ^ 64) ≡ length (me.0.seen ++ entry ∷ []) ∷ [] =
    ap (λ n. slice_set s.words 0 ((n + 1) % 2 ^ 64)) found ∙ ap (λ ws. slice_set ws 0 ((length me.0.seen + 1) % 2 ^ 64)) counted.word
    ∙ ap (λ n. n ∷ []) more in (
      appended me.0 entry,
      keeps,
      tt,
      (
        holds.0,
        me.0.seen ++ entry ∷ [],
        holds.2,
        holds.3,
        subst (λ ws. Counted holds.0 (me.0.seen ++ entry ∷ []) ws (set s.views seat (appended me.0 entry))) (sym words)
            (appends_keep holds.0 holds.1 s.views seat me.0 there s.words counted entry leads legal),
        appends_name holds.2 holds.3 holds.1 s.views seat me.0 there holds.5 entry number whole,
      ),
      (refl, refl, found),
    )

pub notes : (seat : ℕ) (view : View) → Splits Holds seat view view (note_of view)
notes seat view s holds there = (
  holds.0,
  holds.1,
  holds.2,
  holds.3,
  notes_keep holds.0 holds.1 s.views seat view there s.words holds.4,
  notes_name holds.2 holds.3 holds.1 s.views seat view there holds.5,
)

pub scribes : (seat : ℕ) (view : View) → view.leads ≡ true → Splits Holds seat view (after_scribe view) (scribe_of view)
scribes seat view leads s holds there = (
  length (set s.views seat (after_scribe view)),
  holds.1,
  holds.2,
  holds.3,
  scribes_keep holds.0 holds.1 s.views seat view there s.words holds.4 leads,
  scribes_name holds.2 holds.3 holds.1 s.views seat view there holds.5 leads,
)

pub clients : (seat : ℕ) (view : View) → view.name.number ≡ Some engine_number → view.name.made < engine_number → Splits Holds seat view (after_client view) (client_of view)
clients seat view engine few s holds there = (
  holds.0,
  holds.1,
  holds.2 + 1,
  holds.3,
  clients_keep holds.0 holds.1 s.views seat view there s.words holds.4,
  clients_name holds.2 holds.3 holds.1 s.views seat view there holds.5 engine few (holds.4.each seat view there).seen,
)

pub joins : (seat : ℕ) (view : View) (place : ℕ) (other : View) → Joins Holds seat view place other (joined view other) spent
joins seat view place other s holds there apart placed =
    let was : get_elem? s.views place ≡ some other =
    elim (at_set s.views seat place (joined view other) other placed) [ inl t ↦ absurd (apart t.0) | inr t ↦ t.1 ] in
    let kept = joins_keep holds.0 holds.1 s.views s.words holds.4 seat view there place other apart was other.leads refl in
    let both = both_see holds.0 holds.1 s.views s.words holds.4 seat view there place other apart was in (
      kept.0,
      holds.1,
      holds.2,
      holds.3,
      kept.1,
      joins_name holds.2 holds.3 holds.1 s.views seat view there holds.5 place other apart was both.one both.seen,
    )

pub number_of : (number : Option ℕ) → IsTrue (is_some number) → (n : ℕ) × (number ≡ Some n)
number_of None h = absurd (true≢false (sym h))
number_of (Some n) h = (n, refl)
