-- Each kind of step keeps what the rule says of numbers, authors and tickets.
use Rattle.std.proofs.Common.{◌≡◌, ◌≢◌, inl, inr, ℕ, zero, suc, ◌+◌, ◌<◌, ◌==◌, Bool, true, false, ◌||◌, true≢false, IsTrue, List, [], ◌∷◌, ◌++◌, set, if◌then◌else◌, Some, None, is_some, refl, ap, sym, ◌∙◌, subst, arith, append-nil}
use Rattle.std.proofs.lemmas.List.Folds.{list_all-append}
use Rattle.std.proofs.lemmas.List.Elements.{filter-append}
use Rattle.std.proofs.lemmas.Bool.{and_parts, and_from, eq-eqb, eqb-true}
use Rattle.std.proofs.lemmas.Bool.Decides.{nat_tests}
use mathlib.Core.List.{IsPrefix}
use mathlib.Core.Option.{some, some-injective, some-ne-none}
use lib.ListN.{get_elem?}
use Rattle.ask_history.specs.Journal.{call_under, is_settled}
use Rattle.ask_history.proofs.Orders.{is_settled-append}
use Rattle.counting_word.specs.declared.view.Entry.{Entry}
use Rattle.counting_word.specs.declared.view.View.{View}
use Rattle.counting_word.specs.History.{journal_of, entries_by, taker_of, has, engine_number, is_made, are_made}
use Rattle.counting_word.specs.Views.{first_view, loaded, handed, appended, note_of, scribe_of, after_scribe, client_of, after_client, seen_of_both, joined, spent}
use Rattle.counting_word.specs.Rule.{FitsName, AreApart, Named}
use Rattle.counting_word.proofs.Counting.{journal_of-append}
use Rattle.counting_word.proofs.Beginnings.{at_set, at_more, each_set, each_more}

none_some : {A : Type 0} (n : ℕ) → None ≡ Some n → A
none_some n e = absurd (cc)

-- ---- authors and tickets, in a history and in what begins it

no_more : (xs ys zs : List Entry) → (xs ++ ys) ++ zs ≡ xs → ys ≡ []
no_more [] [] zs e = refl
no_more [] (y ∷ ys) zs e = absurd (cc)
no_more (x ∷ xs) ys zs e = no_more xs ys zs (cc)

-- what lies between a list and one that has the same entries of an author has them too
pub between : (n : ℕ) (xs ys zs : List Entry) → IsPrefix xs ys → IsPrefix ys zs → entries_by n xs ≡ entries_by n zs → entries_by n ys ≡ entries_by n zs
between n xs ys zs p q same =
    let front : entries_by n ys ≡ entries_by n xs ++ entries_by n p.0 = ap (entries_by n) (sym p.1) ∙ filter-append (λ (entry : Entry). entry.author == n) xs p.0 in
    let whole : entries_by n zs ≡ entries_by n ys ++ entries_by n q.0 = ap (entries_by n) (sym q.1) ∙ filter-append (λ (entry : Entry). entry.author == n) ys q.0 in
    let none : entries_by n p.0 ≡ [] =
    no_more (entries_by n xs) (entries_by n p.0) (entries_by n q.0) (ap (λ es. es ++ entries_by n q.0) (sym front) ∙ sym whole ∙ sym same) in
    front ∙ ap (λ es. entries_by n xs ++ es) none ∙ append-nil (entries_by n xs) ∙ same

one_by : (b : Bool) (entry : Entry) → List Entry
one_by true entry = entry ∷ []
one_by false entry = []

pub entries_by-mine : (n : ℕ) (history : List Entry) (entry : Entry) → entry.author ≡ n → entries_by n (history ++ entry ∷ []) ≡ entries_by n history ++ entry ∷ []
entries_by-mine n history entry e =
    filter-append (λ (x : Entry). x.author == n) history (entry ∷ [])
    ∙ ap (λ b. entries_by n history ++ (if b then entry ∷ [] else [])) (eq-eqb entry.author n e)

pub entries_by-others : (n : ℕ) (history : List Entry) (entry : Entry) → (entry.author == n) ≡ false → entries_by n (history ++ entry ∷ []) ≡ entries_by n history
entries_by-others n history entry e =
    filter-append (λ (x : Entry). x.author == n) history (entry ∷ [])
    ∙ ap (λ b. entries_by n history ++ (if b then entry ∷ [] else [])) e
    ∙ append-nil (entries_by n history)

-- nobody else's entry is by an author who was not made
entries_by-none : (made n : ℕ) (history : List Entry) → IsTrue (are_made made history) → is_made made n ≡ false → entries_by n history ≡ []
entries_by-none made n [] h e = refl
entries_by-none made n (entry ∷ history) h e =
    let parts = and_parts (is_made made entry.author) (are_made made history) h in
    ap (λ b. if b then entry ∷ entries_by n history else entries_by n history) (differs (entry.author == n) refl parts.0)
    ∙ entries_by-none made n history parts.1 e
  where
    differs : (b : Bool) → (entry.author == n) ≡ b → IsTrue (is_made made entry.author) → (entry.author == n) ≡ false
    differs true same h = absurd (true≢false (sym h ∙ ap (is_made made) (eqb-true entry.author n same) ∙ e))
    differs false same h = same

pub taker_of-append : (history more : List Entry) (ticket : ℕ) → IsTrue (is_some (taker_of history ticket)) → taker_of (history ++ more) ticket ≡ taker_of history ticket
taker_of-append [] more ticket h = absurd (true≢false (sym h))
taker_of-append (entry ∷ history) more ticket h = by (is_some (call_under ticket entry.event)) h (taker_of-append history more ticket)
  where
    by : (b : Bool) → IsTrue (is_some (if b then Some entry.author else taker_of history ticket))
        → (IsTrue (is_some (taker_of history ticket)) → taker_of (history ++ more) ticket ≡ taker_of history ticket)
        → (if b then Some entry.author else taker_of (history ++ more) ticket) ≡ (if b then Some entry.author else taker_of history ticket)
    by true h later = refl
    by false h later = later h

-- a ticket that is taken in a beginning is taken there by whom it is in the whole
pub taker_of-begins : (xs ys : List Entry) (ticket n : ℕ) → IsPrefix xs ys → taker_of xs ticket ≡ Some n → taker_of ys ticket ≡ Some n
taker_of-begins xs ys ticket n p h =
    ap (λ es. taker_of es ticket) (sym p.1) ∙ taker_of-append xs p.0 ticket (ap is_some h) ∙ h

taker_is_made : (made : ℕ) (history : List Entry) (ticket n : ℕ) → IsTrue (are_made made history) → taker_of history ticket ≡ Some n → IsTrue (is_made made n)
taker_is_made made [] ticket n h e = none_some n e
taker_is_made made (entry ∷ history) ticket n h e =
    let parts = and_parts (is_made made entry.author) (are_made made history) h in
    by (is_some (call_under ticket entry.event)) parts.0 (taker_is_made made history ticket n parts.1) e
  where
    by : (b : Bool) → IsTrue (is_made made entry.author) → (taker_of history ticket ≡ Some n → IsTrue (is_made made n)) → (if b then Some entry.author else taker_of history ticket) ≡ Some n → IsTrue (is_made made n)
    by true one later e = let same : entry.author ≡ n = cc in subst (λ k. IsTrue (is_made made k)) same one
    by false one later e = later e

one_more_made : (made n : ℕ) → IsTrue (is_made made n) → IsTrue (is_made (made + 1) n)
one_more_made made n h = grind (arith, nat_tests)

are_more_made : (made : ℕ) (history : List Entry) → IsTrue (are_made made history) → IsTrue (are_made (made + 1) history)
are_more_made made [] h = refl
are_more_made made (entry ∷ history) h =
    let parts = and_parts (is_made made entry.author) (are_made made history) h in
    and_from (is_made (made + 1) entry.author) (are_made (made + 1) history) (one_more_made made entry.author parts.0) (are_more_made made history parts.1)

pub are_made-begins : (made : ℕ) (xs ys : List Entry) → IsPrefix xs ys → IsTrue (are_made made ys) → IsTrue (are_made made xs)
are_made-begins made xs ys p h =
    (and_parts (are_made made xs) (are_made made p.0)
    (sym (list_all-append (λ (entry : Entry). is_made made entry.author) xs p.0) ∙ ap (are_made made) p.1 ∙ h)).0

-- ---- the start

fits_name-first : FitsName 0 [] [] first_view
fits_name-first =
    record {
      number = λ n e. let same : engine_number ≡ n = cc in subst (λ k. IsTrue (is_made 0 k)) same refl;
      own = λ n e. refl;
      seen = λ n e. refl;
      got = λ n e ticket h k. absurd (true≢false (sym h));
      leads = λ h. refl;
      engine = λ e. refl;
    }

pub named_first : Named 0 [] [] (first_view ∷ [])
named_first = record { each = one; apart = alone; authors = refl; settled = λ ticket h. absurd (true≢false (sym h)) }
  where
    one : (seat : ℕ) (view : View) → get_elem? (first_view ∷ []) seat ≡ some view → FitsName 0 [] [] view
    one zero view e = subst (FitsName 0 [] []) (some-injective _ _ e) fits_name-first
    one (suc seat) view e = absurd (some-ne-none view (sym e))

    alone : AreApart (first_view ∷ [])
    alone zero zero v w n e f h k = refl
    alone zero (suc j) v w n e f h k = absurd (some-ne-none w (sym f))
    alone (suc i) j v w n e f h k = absurd (some-ne-none v (sym e))

-- ---- numbers stay apart

module _ (views : List View) (seat : ℕ) (view : View) (there : get_elem? views seat ≡ some view) (apart : AreApart views) where
  was_named : (new : View) → new.name.number ≡ view.name.number → (i : ℕ) (u : View) → get_elem? (set views seat new) i ≡ some u
      → (old : View) × (get_elem? views i ≡ some old) × (old.name.number ≡ u.name.number)
  was_named new same i u e =
      elim (at_set views seat i new u e) [
        | inl t ↦ (view, subst (λ k. get_elem? views k ≡ some view) (sym t.0) there, sym same ∙ ap (λ (w : View). w.name.number) t.1)
        | inr t ↦ (u, t.1, refl)
      ]

  pub apart_set : (new : View) → new.name.number ≡ view.name.number → AreApart (set views seat new)
  apart_set new same i j v w n e f h k =
      let a = was_named new same i v e in
      let b = was_named new same j w f in
      apart i j a.0 b.0 n a.1 b.1 (a.2 ∙ h) (b.2 ∙ k)

pub apart_without : (views : List View) → AreApart views → (seat : ℕ) (new : View) → new.name.number ≡ None → AreApart (set views seat new)
apart_without views apart seat new none i j v w n e f h k =
    elim (at_set views seat i new v e) [
      | inl a ↦ none_some n (sym none ∙ ap (λ (u : View). u.name.number) a.1 ∙ h)
      | inr a ↦ elim (at_set views seat j new w f) [
        | inl b ↦ none_some n (sym none ∙ ap (λ (u : View). u.name.number) b.1 ∙ k)
        | inr b ↦ apart i j v w n a.1 b.1 h k
      ]
    ]

pub apart_more : (views : List View) → AreApart views → (new : View)
    → ((n i : ℕ) (v : View) → get_elem? views i ≡ some v → v.name.number ≡ Some n → new.name.number ≡ Some n → ⊥) → AreApart (views ++ new ∷ [])
apart_more views apart new fresh i j v w n e f h k =
    elim (at_more views i new v e) [
      | inl a ↦ elim (at_more views j new w f) [
        | inl b ↦ apart i j v w n a b h k
        | inr b ↦ absurd (fresh n i v a h (ap (λ (u : View). u.name.number) b.1 ∙ k))
      ]
      | inr a ↦ elim (at_more views j new w f) [
        | inl b ↦ absurd (fresh n j w b k (ap (λ (u : View). u.name.number) a.1 ∙ h))
        | inr b ↦ a.0 ∙ sym b.0
      ]
    ]

-- ---- the steps

module _ (made : ℕ) (given : List ℕ) (history : List Entry) (views : List View) (seat : ℕ) (view : View) (there : get_elem? views seat ≡ some view) (named : Named made given history views) where
  -- a view with the same name, that has seen as much and does not begin to lead
  fits_same : (new : View) → new.name ≡ view.name → new.seen ≡ view.seen → (new.leads ≡ true → view.leads ≡ true) → FitsName made given history new
  fits_same new name seen leads =
      let f = named.each seat view there in
      record {
        number = λ n e. f.number n (ap (λ m. m.number) (sym name) ∙ e);
        own = λ n e. ap (λ m. m.own) name ∙ f.own n (ap (λ m. m.number) (sym name) ∙ e);
        seen = λ n e. ap (entries_by n) seen ∙ f.seen n (ap (λ m. m.number) (sym name) ∙ e);
        got = λ n e ticket h k. subst (λ ts. IsTrue (has ts ticket)) (ap (λ m. m.got) (sym name)) (f.got n (ap (λ m. m.number) (sym name) ∙ e) ticket h k);
        leads = λ h. ap (λ m. m.given) name ∙ f.leads (leads h);
        engine = λ e. ap (λ m. m.made) name ∙ f.engine (ap (λ m. m.number) (sym name) ∙ e);
      }

  same_names : (new : View) → new.name.number ≡ view.name.number → FitsName made given history new → Named made given history (set views seat new)
  same_names new number fits =
      record {
        each = each_set (λ _. FitsName made given history) views seat new (λ j u _ e. named.each j u e) fits;
        apart = apart_set views seat view there named.apart new number;
        authors = named.authors;
        settled = named.settled;
      }

  pub loads_name : (found : ℕ) → Named made given history (set views seat (loaded view found))
  loads_name found = same_names (loaded view found) refl (fits_same (loaded view found) refl refl (λ h. h))

  fits_nameless : (new : View) → new.name.number ≡ None → (new.leads ≡ true → new.name.given ≡ given) → FitsName made given history new
  fits_nameless new none leads =
      record {
        number = λ n e. none_some n (sym none ∙ e);
        own = λ n e. none_some n (sym none ∙ e);
        seen = λ n e. none_some n (sym none ∙ e);
        got = λ n e ticket h k. none_some n (sym none ∙ e);
        leads = leads;
        engine = λ e. none_some engine_number (sym none ∙ e);
      }

  -- a seat without a number more
  more_nameless : (left new : View) → left.name.number ≡ view.name.number → FitsName made given history left → new.name.number ≡ None → (new.leads ≡ true → new.name.given ≡ given)
      → Named made given history (set views seat left ++ new ∷ [])
  more_nameless left new number fits none leads =
      let before = same_names left number fits in
      record {
        each = each_more (λ _. FitsName made given history) (set views seat left) new before.each (fits_nameless new none leads);
        apart = apart_more (set views seat left) before.apart new (λ n i v e h k. none_some n (sym none ∙ k));
        authors = named.authors;
        settled = named.settled;
      }

  pub notes_name : Named made given history (set views seat view ++ note_of view ∷ [])
  notes_name = more_nameless view (note_of view) refl (named.each seat view there) refl (λ h. absurd (true≢false (sym h)))

  pub scribes_name : view.leads ≡ true → Named made given history (set views seat (after_scribe view) ++ scribe_of view ∷ [])
  scribes_name leads =
      let f = named.each seat view there in
      more_nameless (after_scribe view) (scribe_of view) refl
      record { number = f.number; own = f.own; seen = f.seen; got = f.got; leads = λ h. absurd (true≢false (sym h)); engine = f.engine }
      refl (λ _. f.leads leads)

  -- ---- an append

  not_mine : (author : ℕ) → view.name.number ≡ Some author → (j : ℕ) (u : View) (n : ℕ) → j ≢ seat → get_elem? views j ≡ some u → u.name.number ≡ Some n → (author == n) ≡ false
  not_mine author number j u n away e h = by (author == n) refl
    where
      by : (b : Bool) → (author == n) ≡ b → (author == n) ≡ false
      by true same = absurd (away (named.apart j seat u view n e there h (number ∙ ap Some (eqb-true author n same))))
      by false same = same

  given_stay : (entry : Entry) (ticket : ℕ) → IsTrue (has given ticket) → taker_of (history ++ entry ∷ []) ticket ≡ taker_of history ticket
  given_stay entry ticket h = taker_of-append history (entry ∷ []) ticket (named.settled ticket h).1

  appends_name-whole : (entry : Entry) → view.name.number ≡ Some entry.author → view.seen ≡ history
      → Named made given (history ++ entry ∷ []) (set views seat (appended view entry))
  appends_name-whole entry number whole =
      let f = named.each seat view there in
      let now : List Entry = history ++ entry ∷ [] in
      record {
        each = each_set (λ _. FitsName made given now) views seat (appended view entry)
            (λ j u away e.
            let g = named.each j u e in
            record {
              number = g.number;
              own = λ n h. g.own n h ∙ sym (entries_by-others n history entry (not_mine entry.author number j u n away e h));
              seen = λ n h. g.seen n h ∙ sym (entries_by-others n history entry (not_mine entry.author number j u n away e h));
              got = λ n h ticket k t. g.got n h ticket k (sym (given_stay entry ticket k) ∙ t);
              leads = g.leads;
              engine = g.engine;
            })
            record {
              number = f.number;
              own = λ n h.
                  let same : entry.author ≡ n = cc in
                  ap (λ es. es ++ entry ∷ []) (f.own n h) ∙ sym (entries_by-mine n history entry same);
              seen = λ n h. ap (λ es. entries_by n (es ++ entry ∷ [])) whole;
              got = λ n h ticket k t. f.got n h ticket k (sym (given_stay entry ticket k) ∙ t);
              leads = f.leads;
              engine = f.engine;
            };
        apart = apart_set views seat view there named.apart (appended view entry) refl;
        authors = list_all-append (λ (e : Entry). is_made made e.author) history (entry ∷ [])
            ∙ and_from (are_made made history) (are_made made (entry ∷ [])) named.authors (and_from (is_made made entry.author) true (f.number entry.author number) refl);
        settled = λ ticket h.
            let was = named.settled ticket h in (
              ap (λ es. is_settled es ticket) (journal_of-append history (entry ∷ [])) ∙ is_settled-append (journal_of history) ticket (entry.event ∷ []) was.0,
              ap is_some (given_stay entry ticket h) ∙ was.1,
            );
      }

  pub appends_name : (entry : Entry) → view.name.number ≡ Some entry.author → view.seen ≡ history
      → Named made given (view.seen ++ entry ∷ []) (set views seat (appended view entry))
  appends_name entry number whole =
      subst (λ es. Named made given (es ++ entry ∷ []) (set views seat (appended view entry))) (sym whole) (appends_name-whole entry number whole)

  -- ---- an answer handed out

  either_has : (ticket t : ℕ) (tickets : List ℕ) → (P : Type 0) → (ticket ≡ t → P) → (IsTrue (has tickets t) → P) → IsTrue (has (ticket ∷ tickets) t) → P
  either_has ticket t tickets P here further = by (ticket == t) refl
    where
      by : (b : Bool) → (ticket == t) ≡ b → IsTrue (b || has tickets t) → P
      by true same h = here (eqb-true ticket t same)
      by false same h = further h

  has_first : (ticket t : ℕ) (tickets : List ℕ) → ticket ≡ t → IsTrue (has (ticket ∷ tickets) t)
  has_first ticket t tickets same = ap (λ b. b || has tickets t) (eq-eqb ticket t same)

  has_more : (ticket t : ℕ) (tickets : List ℕ) → IsTrue (has tickets t) → IsTrue (has (ticket ∷ tickets) t)
  has_more ticket t tickets h = ap (λ b. (ticket == t) || b) h ∙ or_true (ticket == t)
    where
      or_true : (b : Bool) → (b || true) ≡ true
      or_true true = refl
      or_true false = refl

  pub hands_name : (ticket n found : ℕ) → ((j : ℕ) (u : View) → j ≢ seat → get_elem? views j ≡ some u → u.leads ≡ true → ⊥)
      → view.name.number ≡ Some n → taker_of history ticket ≡ Some n → IsTrue (is_settled (journal_of history) ticket)
      → (view.leads ≡ true) → Named made (ticket ∷ given) history (set views seat (handed view ticket found))
  hands_name ticket n found follow number taken settled leads =
      let f = named.each seat view there in
      record {
        each = each_set (λ _. FitsName made (ticket ∷ given) history) views seat (handed view ticket found)
            (λ j u away e.
            let g = named.each j u e in
            record {
              number = g.number;
              own = g.own;
              seen = g.seen;
              got = λ m h t k took.
                  either_has ticket t given (IsTrue (has u.name.got t))
                  (λ same.
                  let one : Some n ≡ Some m = sym taken ∙ ap (taker_of history) same ∙ took in
                  absurd (away (named.apart j seat u view m e there h (number ∙ one))))
                  (λ was. g.got m h t was took)
                  k;
              leads = λ h. absurd (follow j u away e h);
              engine = g.engine;
            })
            record {
              number = f.number;
              own = f.own;
              seen = f.seen;
              got = λ m h t k took.
                  either_has ticket t given (IsTrue (has (ticket ∷ view.name.got) t))
                  (λ same. has_first ticket t view.name.got same)
                  (λ was. has_more ticket t view.name.got (f.got m h t was took))
                  k;
              leads = λ h. ap (λ ts. ticket ∷ ts) (f.leads leads);
              engine = f.engine;
            };
        apart = apart_set views seat view there named.apart (handed view ticket found) refl;
        authors = named.authors;
        settled = λ t h.
            either_has ticket t given (IsTrue (is_settled (journal_of history) t) × IsTrue (is_some (taker_of history t)))
            (λ same. (subst (λ k. IsTrue (is_settled (journal_of history) k)) same settled, ap is_some (ap (taker_of history) (sym same) ∙ taken)))
            (named.settled t)
            h;
      }

  -- ---- a pass for a client

  not_yet_made : view.name.number ≡ Some engine_number → view.name.made < engine_number → (n : ℕ) → Some view.name.made ≡ Some n → is_made made n ≡ false
  not_yet_made engine few n e =
      let same : view.name.made ≡ n = cc in
      let here : view.name.made ≡ made = (named.each seat view there).engine engine in
      grind (arith, nat_tests)

  pub clients_name : view.name.number ≡ Some engine_number → view.name.made < engine_number → IsPrefix view.seen history
      → Named (made + 1) given history (set views seat (after_client view) ++ client_of view ∷ [])
  clients_name engine few begins =
      let f = named.each seat view there in
      let fresh = not_yet_made engine few in
      let left : List View = set views seat (after_client view) in
      record {
        each = each_more (λ _. FitsName (made + 1) given history) left (client_of view)
            (each_set (λ _. FitsName (made + 1) given history) views seat (after_client view)
            (λ j u away e.
            let g = named.each j u e in
            record {
              number = λ n h. one_more_made made n (g.number n h);
              own = g.own;
              seen = g.seen;
              got = g.got;
              leads = g.leads;
              engine = λ h. absurd (away (named.apart j seat u view engine_number e there h engine));
            })
            record {
              number = λ n h. one_more_made made n (f.number n h);
              own = f.own;
              seen = f.seen;
              got = f.got;
              leads = f.leads;
              engine = λ h. ap (λ k. k + 1) (f.engine h);
            })
            record {
              number = λ n h.
                  let same : view.name.made ≡ n = cc in
                  let here : view.name.made ≡ made = f.engine engine in
                  grind (arith, nat_tests);
              own = λ n h. sym (entries_by-none made n history named.authors (fresh n h));
              seen = λ n h. entries_by-none made n view.seen (are_made-begins made view.seen history begins named.authors) (fresh n h) ∙ sym (entries_by-none made n history named.authors (fresh n h));
              got = λ n h ticket k took. absurd (true≢false (sym (taker_is_made made history ticket n named.authors took) ∙ fresh n h));
              leads = λ h. absurd (true≢false (sym h));
              engine = λ h. let same : view.name.made ≡ engine_number = cc in absurd (omega arith);
            };
        apart = apart_more left (apart_set views seat view there named.apart (after_client view) refl) (client_of view)
            (λ n i v e h k.
            let was = was_named views seat view there named.apart (after_client view) refl i v e in
            true≢false (sym ((named.each i was.0 was.1).number n (was.2 ∙ h)) ∙ fresh n k));
        authors = are_more_made made history named.authors;
        settled = named.settled;
      }

  -- ---- views that are joined

  pub joins_name : (place : ℕ) (other : View) → place ≢ seat → get_elem? views place ≡ some other
      → IsPrefix view.seen (seen_of_both view other) → IsPrefix (seen_of_both view other) history
      → Named made given history (set (set views seat (joined view other)) place spent)
  joins_name place other apart placed begins seen =
      let f = named.each seat view there in
      let g = named.each place other placed in
      let one = same_names (joined view other) refl
      record {
        number = f.number;
        own = f.own;
        seen = λ n h. between n view.seen (seen_of_both view other) history begins seen (f.seen n h);
        got = f.got;
        leads = leads other.leads refl f.leads g.leads;
        engine = f.engine;
      } in
      record {
        each = each_set (λ _. FitsName made given history) (set views seat (joined view other)) place spent
            (λ j u _ e. one.each j u e)
            (fits_nameless spent refl (λ h. absurd (true≢false (sym h))));
        apart = apart_without (set views seat (joined view other)) one.apart place spent refl;
        authors = named.authors;
        settled = named.settled;
      }
    where
      leads : (b : Bool) → other.leads ≡ b → (view.leads ≡ true → view.name.given ≡ given) → (other.leads ≡ true → other.name.given ≡ given)
          → (view.leads || b) ≡ true → (if b then other.name.given else view.name.given) ≡ given
      leads true same mine theirs h = theirs same
      leads false same mine theirs h = mine (or_false view.leads h)
        where
          or_false : (b : Bool) → (b || false) ≡ true → b ≡ true
          or_false true h = refl
          or_false false h = h
