-- Each kind of step keeps the rule.
use Rattle.std.proofs.Common.{◌≡◌, ◌≢◌, ℕ, zero, suc, Bool, true, false, ◌||◌, true≢false, IsTrue, List, [], ◌∷◌, ◌++◌, length, set, if◌then◌else◌, refl, ap, sym, ◌∙◌, subst, arith}
use mathlib.Core.List.{IsPrefix}
use mathlib.Core.Option.{some, some-injective, some-ne-none}
use lib.ListN.{get_elem?}
use Rattle.ask_history.specs.Legal.{is_legal}
use Rattle.ask_history.proofs.Walks.{is_legal-prefix}
use Rattle.ask_history.specs.declared.events.Event.{Event}
use Rattle.counting_word.specs.declared.view.Entry.{Entry}
use Rattle.counting_word.specs.declared.view.View.{View}
use Rattle.counting_word.specs.History.{journal_of, AllBegin}
use Rattle.counting_word.specs.Views.{first_view, loaded, handed, appended, note_of, scribe_of, after_scribe, client_of, after_client, is_longer, longer_of, seen_of_both, joined, spent}
use Rattle.counting_word.specs.Rule.{Fits, Counted}
use Rattle.counting_word.proofs.Beginnings.{begins_itself, begins_none, begins_more, begins-trans, length-begins, set_there, set_elsewhere, more_there, more_last, each_set, each_more}

pub off : {A : Type 0} (b : Bool) → b ≡ false → b ≡ true → A
off b e h = absurd (true≢false (sym h ∙ e))

pub journal_of-append : (xs ys : List Entry) → journal_of (xs ++ ys) ≡ journal_of xs ++ journal_of ys
journal_of-append [] ys = refl
journal_of-append (x ∷ xs) ys = ap (λ es. x.event ∷ es) (journal_of-append xs ys)

-- what begins a legal history is legal
pub legal_beginning : (xs ys : List Entry) → IsPrefix xs ys → IsTrue (is_legal (journal_of ys)) → IsTrue (is_legal (journal_of xs))
legal_beginning xs ys p legal =
    is_legal-prefix (journal_of xs) (journal_of p.0) (subst (λ es. IsTrue (is_legal es)) (ap journal_of (sym p.1) ∙ journal_of-append xs p.0) legal)

-- one event more, as its entry
pub legal_more : (xs : List Entry) (entry : Entry) (event : Event) → entry.event ≡ event → IsTrue (is_legal (journal_of xs ++ event ∷ []))
    → IsTrue (is_legal (journal_of (xs ++ entry ∷ [])))
legal_more xs entry event same legal =
    subst (λ es. IsTrue (is_legal es)) (ap (λ e. journal_of xs ++ e ∷ []) (sym same) ∙ sym (journal_of-append xs (entry ∷ []))) legal

-- ---- the start

fits_first : Fits 0 [] 0 first_view
fits_first = record { lead = λ _. refl; whole = λ _. refl; seen = begins_none []; older = tt; known = omega arith }

pub counted_first : Counted 0 [] (0 ∷ []) (first_view ∷ [])
counted_first = record { leading = (first_view, refl, refl); legal = refl; word = refl; each = one }
  where
    one : (seat : ℕ) (view : View) → get_elem? (first_view ∷ []) seat ≡ some view → Fits 0 [] seat view
    one zero view e = subst (Fits 0 [] 0) (some-injective _ _ e) fits_first
    one (suc seat) view e = absurd (some-ne-none view (sym e))

-- ---- a load

module _ (leader : ℕ) (history : List Entry) (views : List View) (seat : ℕ) (view : View) (there : get_elem? views seat ≡ some view) where
  -- what is known of the leader, where this seat changes its view and keeps or lacks the lead
  same_leader : (words : List ℕ) → Counted leader history words views → (new : View) → new.leads ≡ view.leads
      → (other : View) × (get_elem? (set views seat new) leader ≡ some other) × (other.leads ≡ true)
  same_leader words counted new same = by (new.leads) refl
    where
      was : View
      was = counted.leading.0

      by : (b : Bool) → new.leads ≡ b → (other : View) × (get_elem? (set views seat new) leader ≡ some other) × (other.leads ≡ true)
      by true h =
          let here : seat ≡ leader = (counted.each seat view there).lead (sym same ∙ h) in
          (new, subst (λ n. get_elem? (set views seat new) n ≡ some new) here (set_there views seat view new there), h)
      by false h =
          let apart : leader ≢ seat = λ e. off view.leads (sym same ∙ h) (subst (λ (w : View). w.leads ≡ true) (some-injective _ _ (sym counted.leading.1 ∙ ap (λ n. get_elem? views n) e ∙ there)) counted.leading.2) in
          (was, set_elsewhere views seat leader was new apart counted.leading.1, counted.leading.2)

  loads_fit : (words : List ℕ) → Counted leader history words views → Fits leader history seat (loaded view (length history))
  loads_fit words counted =
      let f = counted.each seat view there in
      record { lead = f.lead; whole = f.whole; seen = f.seen; older = tt; known = omega arith }

  pub loads_keep : (words : List ℕ) → Counted leader history words views → Counted leader history words (set views seat (loaded view (length history)))
  loads_keep words counted =
      record {
        leading = same_leader words counted (loaded view (length history)) refl;
        legal = counted.legal;
        word = counted.word;
        each = each_set (Fits leader history) views seat (loaded view (length history)) (λ j u _ e. counted.each j u e) (loads_fit words counted);
      }

  pub hands_keep : (ticket : ℕ) (words : List ℕ) → Counted leader history words views → Counted leader history words (set views seat (handed view ticket (length history)))
  hands_keep ticket words counted =
      let f = counted.each seat view there in
      record {
        leading = same_leader words counted (handed view ticket (length history)) refl;
        legal = counted.legal;
        word = counted.word;
        each = each_set (Fits leader history) views seat (handed view ticket (length history)) (λ j u _ e. counted.each j u e)
            record { lead = f.lead; whole = f.whole; seen = f.seen; older = tt; known = omega arith };
      }

-- ---- an append

all_begin-more : (beginnings : List (List Entry)) (xs ys : List Entry) → IsPrefix xs ys → AllBegin beginnings xs → AllBegin beginnings ys
all_begin-more [] xs ys p h = tt
all_begin-more (b ∷ bs) xs ys p h = (begins-trans b xs ys h.0 p, all_begin-more bs xs ys p h.1)

module _ (leader : ℕ) (history : List Entry) (views : List View) (seat : ℕ) (view : View) (there : get_elem? views seat ≡ some view) (words : List ℕ) (counted : Counted leader history words views) where
  -- no other seat leads
  pub others_follow : view.leads ≡ true → (j : ℕ) (u : View) → j ≢ seat → get_elem? views j ≡ some u → u.leads ≡ true → ⊥
  others_follow leads j u apart e h = apart ((counted.each j u e).lead h ∙ sym ((counted.each seat view there).lead leads))

  pub appends_keep : (entry : Entry) → view.leads ≡ true → IsTrue (is_legal (journal_of (view.seen ++ entry ∷ [])))
      → Counted leader (view.seen ++ entry ∷ []) (length (view.seen ++ entry ∷ []) ∷ []) (set views seat (appended view entry))
  appends_keep entry leads legal =
      let f = counted.each seat view there in
      let now : List Entry = view.seen ++ entry ∷ [] in
      let further : IsPrefix history now = (entry ∷ [], ap (λ es. es ++ entry ∷ []) (sym (f.whole leads))) in
      record {
        leading = same_leader leader history views seat view there words counted (appended view entry) refl;
        legal = legal;
        word = refl;
        each = each_set (Fits leader now) views seat (appended view entry)
            (λ j u apart e.
            let g = counted.each j u e in
            record {
              lead = g.lead;
              whole = λ h. absurd (others_follow leads j u apart e h);
              seen = begins-trans u.seen history now g.seen further;
              older = g.older;
              known = omega (arith, g.known, length-begins history now further);
            })
            record {
              lead = f.lead;
              whole = λ _. refl;
              seen = begins_itself now;
              older = all_begin-more view.older view.seen now (begins_more view.seen (entry ∷ [])) f.older;
              known = omega (arith, f.known, length-begins history now further);
            };
      }

  -- ---- seats that are split off

  pub fits_note : (j : ℕ) → Fits leader history j (note_of view)
  fits_note j =
      let f = counted.each seat view there in
      record { lead = λ h. absurd (true≢false (sym h)); whole = λ h. absurd (true≢false (sym h)); seen = f.seen; older = tt; known = f.known }

  pub notes_keep : Counted leader history words (set views seat view ++ note_of view ∷ [])
  notes_keep =
      let was = same_leader leader history views seat view there words counted view refl in
      record {
        leading = (was.0, more_there (set views seat view) leader (note_of view) was.0 was.1, was.2);
        legal = counted.legal;
        word = counted.word;
        each = each_more (Fits leader history) (set views seat view) (note_of view)
            (each_set (Fits leader history) views seat view (λ j u _ e. counted.each j u e) (counted.each seat view there))
            (fits_note (length (set views seat view)));
      }

  pub clients_keep : Counted leader history words (set views seat (after_client view) ++ client_of view ∷ [])
  clients_keep =
      let f = counted.each seat view there in
      let was = same_leader leader history views seat view there words counted (after_client view) refl in
      let left : List View = set views seat (after_client view) in
      record {
        leading = (was.0, more_there left leader (client_of view) was.0 was.1, was.2);
        legal = counted.legal;
        word = counted.word;
        each = each_more (Fits leader history) left (client_of view)
            (each_set (Fits leader history) views seat (after_client view) (λ j u _ e. counted.each j u e)
            record { lead = f.lead; whole = f.whole; seen = f.seen; older = f.older; known = f.known })
            record { lead = λ h. absurd (true≢false (sym h)); whole = λ h. absurd (true≢false (sym h)); seen = f.seen; older = tt; known = f.known };
      }

  pub scribes_keep : view.leads ≡ true → Counted (length (set views seat (after_scribe view))) history words (set views seat (after_scribe view) ++ scribe_of view ∷ [])
  scribes_keep leads =
      let f = counted.each seat view there in
      let left : List View = set views seat (after_scribe view) in
      let next : ℕ = length left in
      record {
        leading = (scribe_of view, more_last left (scribe_of view), leads);
        legal = counted.legal;
        word = counted.word;
        each = each_more (Fits next history) left (scribe_of view)
            (each_set (Fits next history) views seat (after_scribe view)
            (λ j u apart e.
            let g = counted.each j u e in
            record {
              lead = λ h. absurd (others_follow leads j u apart e h);
              whole = g.whole;
              seen = g.seen;
              older = g.older;
              known = g.known;
            })
            record { lead = λ h. absurd (true≢false (sym h)); whole = λ h. absurd (true≢false (sym h)); seen = f.seen; older = f.older; known = f.known })
            record { lead = λ _. refl; whole = f.whole; seen = f.seen; older = tt; known = f.known };
      }

-- ---- views that are joined

-- what two seats have seen together of one list, where a seat that leads has seen it all
pub record Together (history : List Entry) (a b : Bool) (xs ys zs : List Entry) : Type 0 where
  pub one : IsPrefix xs zs
  pub other : IsPrefix ys zs
  pub seen : IsPrefix zs history
  pub whole : (a || b) ≡ true → zs ≡ history

longer : (xs ys zs : List Entry) → IsPrefix xs zs → IsPrefix ys zs → (b : Bool) → is_longer xs ys ≡ b
    → IsPrefix xs (if b then xs else ys) × IsPrefix ys (if b then xs else ys)
longer xs ys zs p q true h = (begins_itself xs, less xs ys zs p q h)
  where
    less : (xs ys zs : List Entry) → IsPrefix xs zs → IsPrefix ys zs → is_longer xs ys ≡ true → IsPrefix ys xs
    less [] ys zs p q h = absurd (true≢false (sym h))
    less (x ∷ xs) [] zs p q h = begins_none (x ∷ xs)
    less (x ∷ xs) (y ∷ ys) [] p q h = absurd (cc (p.1))
    less (x ∷ xs) (y ∷ ys) (z ∷ zs) p q h =
        let heads : y ≡ x = cc (p.1, q.1) in
        let rest = less xs ys zs (p.0, cc (p.1)) (q.0, cc (q.1)) h in
        (rest.0, cc (heads, rest.1))
longer xs ys zs p q false h = (more xs ys zs p q h, begins_itself ys)
  where
    more : (xs ys zs : List Entry) → IsPrefix xs zs → IsPrefix ys zs → is_longer xs ys ≡ false → IsPrefix xs ys
    more [] ys zs p q h = begins_none ys
    more (x ∷ xs) [] zs p q h = absurd (true≢false h)
    more (x ∷ xs) (y ∷ ys) [] p q h = absurd (cc (p.1))
    more (x ∷ xs) (y ∷ ys) (z ∷ zs) p q h =
        let heads : x ≡ y = cc (p.1, q.1) in
        let rest = more xs ys zs (p.0, cc (p.1)) (q.0, cc (q.1)) h in
        (rest.0, cc (heads, rest.1))

longer_seen : (xs ys zs : List Entry) → IsPrefix xs zs → IsPrefix ys zs → IsPrefix (longer_of xs ys) zs
longer_seen xs ys zs p q = by (is_longer xs ys)
  where
    by : (b : Bool) → IsPrefix (if b then xs else ys) zs
    by true = p
    by false = q

pub together : (history xs ys : List Entry) (a b : Bool) → IsPrefix xs history → IsPrefix ys history → (a ≡ true → xs ≡ history) → (b ≡ true → ys ≡ history)
    → Together history a b xs ys (if a then xs else (if b then ys else longer_of xs ys))
together history xs ys true b p q one other =
    let all = one refl in
    record { one = begins_itself xs; other = subst (IsPrefix ys) (sym all) q; seen = p; whole = λ _. all }
together history xs ys false true p q one other =
    let all = other refl in
    record { one = subst (IsPrefix xs) (sym all) p; other = begins_itself ys; seen = q; whole = λ _. all }
together history xs ys false false p q one other =
    let both = longer xs ys history p q (is_longer xs ys) refl in
    record { one = both.0; other = both.1; seen = longer_seen xs ys history p q; whole = λ h. absurd (true≢false (sym h)) }

module _ (leader : ℕ) (history : List Entry) (views : List View) (words : List ℕ) (counted : Counted leader history words views)
    (seat : ℕ) (view : View) (there : get_elem? views seat ≡ some view) (place : ℕ) (other : View) (apart : place ≢ seat) (placed : get_elem? views place ≡ some other) where
  pub both_see : Together history view.leads other.leads view.seen other.seen (seen_of_both view other)
  both_see =
      let f = counted.each seat view there in
      let g = counted.each place other placed in
      together history view.seen other.seen view.leads other.leads f.seen g.seen f.whole g.whole

  -- the seat leads now where the other did
  fits_both : (next : ℕ) → ((view.leads || other.leads) ≡ true → seat ≡ next) → Fits next history seat (joined view other)
  fits_both next lead =
      let f = counted.each seat view there in
      let g = counted.each place other placed in
      let t = both_see in
      record {
        lead = lead;
        whole = t.whole;
        seen = t.seen;
        older = (t.one, (t.other, all_begin-more view.older view.seen (seen_of_both view other) t.one f.older));
        known = omega (arith, f.known, g.known);
      }

  fits_spent : (next j : ℕ) → Fits next history j spent
  fits_spent next j =
      record { lead = λ h. absurd (true≢false (sym h)); whole = λ h. absurd (true≢false (sym h)); seen = begins_none history; older = tt; known = omega arith }

  pub joins_keep : (b : Bool) → other.leads ≡ b → (next : ℕ) × Counted next history words (set (set views seat (joined view other)) place spent)
  joins_keep true h =
      let here : get_elem? (set views seat (joined view other)) seat ≡ some (joined view other) = set_there views seat view (joined view other) there in (
        seat,
        record {
          leading = (joined view other, set_elsewhere (set views seat (joined view other)) place seat (joined view other) spent (λ e. apart (sym e)) here, leads);
          legal = counted.legal;
          word = counted.word;
          each = each_set (Fits seat history) (set views seat (joined view other)) place spent
              (λ j u away e. each_now j u e away)
              (fits_spent seat place);
        },
      )
    where
      leads : (view.leads || other.leads) ≡ true
      leads = ap (λ b. view.leads || b) h ∙ or_true view.leads
        where
          or_true : (b : Bool) → (b || true) ≡ true
          or_true true = refl
          or_true false = refl

      each_now : (j : ℕ) (u : View) → get_elem? (set views seat (joined view other)) j ≡ some u → j ≢ place → Fits seat history j u
      each_now = each_set (λ j u. j ≢ place → Fits seat history j u) views seat (joined view other)
          (λ j u away e elsewhere.
          let g = counted.each j u e in
          record {
            lead = λ l. absurd (elsewhere (g.lead l ∙ sym ((counted.each place other placed).lead h)));
            whole = g.whole;
            seen = g.seen;
            older = g.older;
            known = g.known;
          })
          (λ _. fits_both seat (λ _. refl))
  joins_keep false h =
      let was = same_leader leader history views seat view there words counted (joined view other) same in (
        leader,
        record {
          leading = (was.0, set_elsewhere (set views seat (joined view other)) place leader was.0 spent elsewhere was.1, was.2);
          legal = counted.legal;
          word = counted.word;
          each = each_set (Fits leader history) (set views seat (joined view other)) place spent
              (λ j u _ e.
              each_set (Fits leader history) views seat (joined view other)
              (λ j u _ e. counted.each j u e)
              (fits_both leader (λ l. (counted.each seat view there).lead (sym same ∙ l))) j u e)
              (fits_spent leader place);
        },
      )
    where
      same : (view.leads || other.leads) ≡ view.leads
      same = ap (λ b. view.leads || b) h ∙ or_false view.leads
        where
          or_false : (b : Bool) → (b || false) ≡ b
          or_false true = refl
          or_false false = refl

      elsewhere : leader ≢ place
      elsewhere e =
          off other.leads h
          (subst (λ (w : View). w.leads ≡ true) (some-injective _ _ (sym counted.leading.1 ∙ ap (λ n. get_elem? views n) e ∙ placed)) counted.leading.2)
