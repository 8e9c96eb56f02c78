-- Values that may first need items: what a rule asks for, in which order, and what it gives then. `K` are the items, and
-- `V` their ordinary values.
use Rattle.std.specs.Prelude.{Option, None, Some}

-- What is known of an item: its value, or that it cannot be found without itself.
pub data Info (V : Type 0) : Type 0 where
  Has : V → Info V
  Cyclic : Info V

-- A value, or the end of a rule at a cyclic item, or an item that is needed with what goes on once it is known.
pub data Asks (K V A : Type 0) : Type 0 where
  Gives : A → Asks K V A
  Ends : K → Asks K V A
  Ask : K → (Info V → Asks K V A) → Asks K V A

-- What a question comes to: its value, or the first item that nothing is known of, or the item that ended it.
pub data Answer (K A : Type 0) : Type 0 where
  Known : A → Answer K A
  Needs : K → Answer K A
  AtCyclic : K → Answer K A

-- what is known of each item
abbrev pub Infos : Type 0 → Type 0 → Type 0
Infos K V = K → Option (Info V)

module _ {K V : Type 0} where
  module _ {A : Type 0} where
    -- the answer where this is known of the item that is asked for; a cyclic one ends it
    abbrev pub asked : K → Option (Info V) → (V → Answer K A) → Answer K A
    asked k None next = Needs k
    asked k (Some Cyclic) next = AtCyclic k
    asked k (Some (Has v)) next = next v

    -- the same where the rule is told of a cyclic item, and may go on
    abbrev pub asked_on : K → Option (Info V) → (Info V → Answer K A) → Answer K A
    asked_on k None next = Needs k
    asked_on k (Some i) next = next i

    -- the answer for an item: a cyclic item ends it, whatever the rule would do then
    abbrev pub run : Infos K V → Asks K V A → Answer K A
    run infos (Gives a) = Known a
    run infos (Ends k) = AtCyclic k
    run infos (Ask k next) = asked k (infos k) (λ v. run infos (next (Has v)))

    -- the answer for a unit
    abbrev pub run_on : Infos K V → Asks K V A → Answer K A
    run_on infos (Gives a) = Known a
    run_on infos (Ends k) = AtCyclic k
    run_on infos (Ask k next) = asked_on k (infos k) (λ i. run_on infos (next i))

    -- where a cyclic item ended the question, what the rule does with it
    abbrev pub caught : Asks K V A → (K → Asks K V A) → Asks K V A
    caught (Gives a) f = Gives a
    caught (Ends k) f = f k
    caught (Ask k next) f = Ask k (λ i. caught (next i) f)

    abbrev pub bind : {B : Type 0} → Asks K V A → (A → Asks K V B) → Asks K V B
    bind (Gives a) f = f a
    bind (Ends k) f = Ends k
    bind (Ask k next) f = Ask k (λ i. bind (next i) f)

  -- the value of an item; a cyclic one ends the question
  abbrev pub value_of : K → Asks K V V
  value_of k = Ask k (elim [ Has v ↦ Gives v | Cyclic ↦ Ends k ])

-- for `do`
infixl 10 ◌>>=◌
abbrev pub ◌>>=◌ : {K V A B : Type 0} → Asks K V A → (A → Asks K V B) → Asks K V B
q >>= f = bind q f
