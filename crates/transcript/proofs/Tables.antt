-- What a table tells of a journal that has one event more.
use Rattle.std.proofs.Common.{◌≡◌, ℕ, ◌+◌, Bool, true, false, ◌==◌, cond, if◌then◌else◌, nat_eq, List, [], ◌∷◌, ◌++◌, length, Option, Some, None, is_some, is_none, refl, sym, ap, ◌∙◌, arith, add-zero, zero-add}
use Rattle.std.specs.List.{position_from}
use Rattle.std.proofs.lemmas.Bool.{and_parts, eqb-true}
use Rattle.std.specs.Option.{option_or}
use Rattle.std.specs.HashMap as hash
use Rattle.ask_history.specs.Journal.{ticket_of, ticket_under, cancels, settles, is_close}
use Rattle.ask_history.specs.Indices.{index_of}
use Rattle.ask_history.specs.declared.events.Event.{Event}
use Rattle.ask_history.specs.declared.events.Event.TheVariants.{Accept, Cancel, Close, Settle, Checked}
use Rattle.transcript.specs.Outcomes.{pair_eq, IsTableOf}
use Rattle.transcript.specs.declared.outcomes.Outcomes.{Outcomes}

or-none : {X : Type 0} (o : Option X) → option_or o None ≡ o
or-none None = refl
or-none (Some x) = refl

or-assoc : {X : Type 0} (a b c : Option X) → option_or a (option_or b c) ≡ option_or (option_or a b) c
or-assoc None b c = refl
or-assoc (Some x) b c = refl

none_from : {X : Type 0} (o : Option X) → is_some o ≡ false → o ≡ None
none_from None h = refl
none_from (Some x) h = cc

first_kept : (old new : Option ℕ) (b : Bool) (ticket : ℕ) → new ≡ cond b (Some ticket) old → (b ≡ true → old ≡ None) → new ≡ option_or old (if b then Some ticket else None)
first_kept old new true ticket h none = h ∙ sym (ap (λ o. option_or o (Some ticket)) (none refl))
first_kept old new false ticket h none = h ∙ sym (or-none old)

-- a ticket put in where the key had none
pub ticket_kept : (old new : ℕ → ℕ → Option ℕ) (client tag ticket c k : ℕ)
    → new c k ≡ cond (pair_eq (client, tag) (c, k)) (Some ticket) (old c k) → is_some (old client tag) ≡ false
    → new c k ≡ option_or (old c k) (if pair_eq (client, tag) (c, k) then Some ticket else None)
ticket_kept old new client tag ticket c k h gone = first_kept (old c k) (new c k) (pair_eq (client, tag) (c, k)) ticket h absent
  where
    absent : pair_eq (client, tag) (c, k) ≡ true → old c k ≡ None
    absent e =
        let same = and_parts (nat_eq client c) (nat_eq tag k) e in
        let one : c ≡ client = sym (eqb-true client c same.0) in
        let two : k ≡ tag = sym (eqb-true tag k same.1) in
        (λ j. old (one j) (two j)) ∙ none_from (old client tag) gone

-- the first index that passes, in a list that has one element more
position_from-push : {X : Type 0} (test : X → Bool) (from : ℕ) (xs : List X) (x : X)
    → position_from test from (xs ++ x ∷ []) ≡ option_or (position_from test from xs) (cond (test x) (Some (from + length xs)) None)
position_from-push test from [] x = ap (λ n. cond (test x) (Some n) None) (sym (add-zero from))
position_from-push test from (y ∷ xs) x =
    let moved : from + 1 + length xs ≡ from + length (y ∷ xs) = omega arith in
    let next = position_from-push test (from + 1) xs x ∙ ap (λ n. option_or (position_from test (from + 1) xs) (cond (test x) (Some n) None)) moved in
    elim (test y) as (λ b. cond b (Some from) (position_from test (from + 1) (xs ++ x ∷ []))
    ≡ option_or (cond b (Some from) (position_from test (from + 1) xs)) (cond (test x) (Some (from + length (y ∷ xs))) None))
    [ true ↦ refl | false ↦ next ]

index_of-push : (test : Event → Bool) (journal : List Event) (event : Event)
    → index_of test (journal ++ event ∷ []) ≡ option_or (index_of test journal) (cond (test event) (Some (length journal)) None)
index_of-push test journal event =
    position_from-push test 0 journal event ∙ ap (λ n. option_or (index_of test journal) (cond (test event) (Some n) None)) (zero-add (length journal))

index_of-other : (test : Event → Bool) (journal : List Event) (event : Event) → test event ≡ false → index_of test (journal ++ event ∷ []) ≡ index_of test journal
index_of-other test journal event e =
    index_of-push test journal event ∙ ap (λ b. option_or (index_of test journal) (cond b (Some (length journal)) None)) e ∙ or-none (index_of test journal)

ticket_of-push : (journal : List Event) (event : Event) (c k : ℕ) → ticket_of (journal ++ event ∷ []) c k ≡ option_or (ticket_of journal c k) (ticket_under c k event)
ticket_of-push [] event c k = or-none (ticket_under c k event)
ticket_of-push (first ∷ journal) event c k =
    ap (option_or (ticket_under c k first)) (ticket_of-push journal event c k) ∙ or-assoc (ticket_under c k first) (ticket_of journal c k) (ticket_under c k event)

ticket_of-other : (journal : List Event) (event : Event) (c k : ℕ) → ticket_under c k event ≡ None → ticket_of (journal ++ event ∷ []) c k ≡ ticket_of journal c k
ticket_of-other journal event c k e = ticket_of-push journal event c k ∙ ap (option_or (ticket_of journal c k)) e ∙ or-none (ticket_of journal c k)

module _ (journal : List Event) (table next : Outcomes) (h : IsTableOf journal table) where
  pub table-accept : (ticket client tag : ℕ) (call : _)
      → ((c k : ℕ) → hash.get pair_eq next.tickets (c, k) ≡ option_or (hash.get pair_eq table.tickets (c, k)) (if pair_eq (client, tag) (c, k) then Some ticket else None))
      → next.cancels ≡ table.cancels → next.settles ≡ table.settles → next.closed ≡ table.closed
      → IsTableOf (journal ++ Accept ticket client tag call ∷ []) next
  table-accept ticket client tag call tickets cs ss cl = let event : Event = Accept ticket client tag call in record {
    tickets = λ c k. tickets c k ∙ ap (λ o. option_or o (if pair_eq (client, tag) (c, k) then Some ticket else None)) (h.tickets c k) ∙ sym (ticket_of-push journal event c k);
    cancels = λ t. ap (λ m. hash.get nat_eq m t) cs ∙ h.cancels t ∙ sym (index_of-other (cancels t) journal event refl);
    settles = λ t. ap (λ m. hash.get nat_eq m t) ss ∙ h.settles t ∙ sym (index_of-other (settles t) journal event refl);
    closed = cl ∙ h.closed ∙ sym (index_of-other is_close journal event refl);
  }

  pub table-cancel : (ticket index : ℕ) → index ≡ length journal
      → next.tickets ≡ table.tickets
      → ((t : ℕ) → hash.get nat_eq next.cancels t ≡ option_or (hash.get nat_eq table.cancels t) (if ticket == t then Some index else None))
      → next.settles ≡ table.settles → next.closed ≡ table.closed
      → IsTableOf (journal ++ Cancel ticket ∷ []) next
  table-cancel ticket index at ts cancelled ss cl = let event : Event = Cancel ticket in record {
    tickets = λ c k. ap (λ m. hash.get pair_eq m (c, k)) ts ∙ h.tickets c k ∙ sym (ticket_of-other journal event c k refl);
    cancels = λ t. cancelled t ∙ (λ j. option_or (h.cancels t j) (if ticket == t then Some (at j) else None)) ∙ sym (index_of-push (cancels t) journal event);
    settles = λ t. ap (λ m. hash.get nat_eq m t) ss ∙ h.settles t ∙ sym (index_of-other (settles t) journal event refl);
    closed = cl ∙ h.closed ∙ sym (index_of-other is_close journal event refl);
  }

  pub table-settle : (ticket index : ℕ) (mark : _) → index ≡ length journal
      → next.tickets ≡ table.tickets → next.cancels ≡ table.cancels
      → ((t : ℕ) → hash.get nat_eq next.settles t ≡ option_or (hash.get nat_eq table.settles t) (if ticket == t then Some index else None))
      → next.closed ≡ table.closed
      → IsTableOf (journal ++ Settle ticket mark ∷ []) next
  table-settle ticket index mark at ts cs done cl = let event : Event = Settle ticket mark in record {
    tickets = λ c k. ap (λ m. hash.get pair_eq m (c, k)) ts ∙ h.tickets c k ∙ sym (ticket_of-other journal event c k refl);
    cancels = λ t. ap (λ m. hash.get nat_eq m t) cs ∙ h.cancels t ∙ sym (index_of-other (cancels t) journal event refl);
    settles = λ t. done t ∙ (λ j. option_or (h.settles t j) (if ticket == t then Some (at j) else None)) ∙ sym (index_of-push (settles t) journal event);
    closed = cl ∙ h.closed ∙ sym (index_of-other is_close journal event refl);
  }

  pub table-close :
      next.tickets ≡ table.tickets → next.cancels ≡ table.cancels → next.settles ≡ table.settles
      → next.closed ≡ option_or table.closed (Some (length journal))
      → IsTableOf (journal ++ Close ∷ []) next
  table-close ts cs ss cl = record {
    tickets = λ c k. ap (λ m. hash.get pair_eq m (c, k)) ts ∙ h.tickets c k ∙ sym (ticket_of-other journal Close c k refl);
    cancels = λ t. ap (λ m. hash.get nat_eq m t) cs ∙ h.cancels t ∙ sym (index_of-other (cancels t) journal Close refl);
    settles = λ t. ap (λ m. hash.get nat_eq m t) ss ∙ h.settles t ∙ sym (index_of-other (settles t) journal Close refl);
    closed = cl ∙ ap (λ o. option_or o (Some (length journal))) h.closed ∙ sym (index_of-push is_close journal Close);
  }

  pub table-checked : (file : List ℕ)
      → next.tickets ≡ table.tickets → next.cancels ≡ table.cancels → next.settles ≡ table.settles → next.closed ≡ table.closed
      → IsTableOf (journal ++ Checked file ∷ []) next
  table-checked file ts cs ss cl = let event : Event = Checked file in record {
    tickets = λ c k. ap (λ m. hash.get pair_eq m (c, k)) ts ∙ h.tickets c k ∙ sym (ticket_of-other journal event c k refl);
    cancels = λ t. ap (λ m. hash.get nat_eq m t) cs ∙ h.cancels t ∙ sym (index_of-other (cancels t) journal event refl);
    settles = λ t. ap (λ m. hash.get nat_eq m t) ss ∙ h.settles t ∙ sym (index_of-other (settles t) journal event refl);
    closed = cl ∙ h.closed ∙ sym (index_of-other is_close journal event refl);
  }

pub none-closed : (closed : Option ℕ) (index n : ℕ) → is_none closed ≡ true → index ≡ n → Some index ≡ option_or closed (Some n)
none-closed None index n h e = ap Some e
none-closed (Some k) index n h e = cc

pub some-closed : (closed : Option ℕ) (n : ℕ) → is_none closed ≡ false → closed ≡ option_or closed (Some n)
some-closed None n h = cc
some-closed (Some k) n h = refl
