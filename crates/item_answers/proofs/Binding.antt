-- The answer of one question after another.
use Rattle.std.proofs.Common.{◌≡◌, Option, None, Some, Result, Ok, Err, IsErrAnd, MatchResult, refl, sym, ap, subst, ◌∙◌}
use Rattle.item_questions.specs.Questions.{Info, Has, Cyclic, Asks, Gives, Ends, Ask, Answer, Known, Needs, AtCyclic, Infos, asked, run, bind}
use Rattle.pc_terms.specs.declared.items.Item.{Item}
use Rattle.item_answers.specs.Asking.{Stops}
use Rattle.item_answers.specs.declared.stopping.Stopped.{Stopped}
use Rattle.item_answers.specs.declared.stopping.Stopped.TheVariants as stopped

-- an answer, and what comes after it
abbrev pub followed_by : {K A B : Type 0} → Answer K A → (A → Answer K B) → Answer K B
followed_by (Known a) next = next a
followed_by (Needs k) next = Needs k
followed_by (AtCyclic k) next = AtCyclic k

module _ {K V A B : Type 0} where
  asked-then : (k : K) (o : Option (Info V)) (first : V → Answer K A) (next : A → Answer K B)
      → asked k o (λ v. followed_by (first v) next) ≡ followed_by (asked k o first) next
  asked-then k None first next = refl
  asked-then k (Some Cyclic) first next = refl
  asked-then k (Some (Has v)) first next = refl

  pub run-bind : (known : Infos K V) (q : Asks K V A) (f : A → Asks K V B) → run known (bind q f) ≡ followed_by (run known q) (λ a. run known (f a))
  run-bind known (Gives a) f = refl
  run-bind known (Ends k) f = refl
  run-bind known (Ask k next) f =
      (λ i. asked k (known k) (λ v. run-bind known (next (Has v)) f i))
      ∙ asked-then k (known k) (λ v. run known (next (Has v))) (λ a. run known (f a))

  pub bind-known : (known : Infos K V) (q : Asks K V A) (f : A → Asks K V B) (a : A) → run known q ≡ Known a → run known (bind q f) ≡ run known (f a)
  bind-known known q f a h = run-bind known q f ∙ ap (λ r. followed_by r (λ x. run known (f x))) h

  pub bind-needs : (known : Infos K V) (q : Asks K V A) (f : A → Asks K V B) (k : K) → run known q ≡ Needs k → run known (bind q f) ≡ Needs k
  bind-needs known q f k h = run-bind known q f ∙ ap (λ r. followed_by r (λ x. run known (f x))) h

  pub bind-cyclic : (known : Infos K V) (q : Asks K V A) (f : A → Asks K V B) (k : K) → run known q ≡ AtCyclic k → run known (bind q f) ≡ AtCyclic k
  bind-cyclic known q f k h = run-bind known q f ∙ ap (λ r. followed_by r (λ x. run known (f x))) h

-- what stops a question stops all that comes after it
pub bind-stops : {V A B : Type 0} (known : Infos Item V) (q : Asks Item V A) (f : A → Asks Item V B) (why : Stopped) → Stops why (run known q) → Stops why (run known (bind q f))
bind-stops known q f stopped.NoMemory h = tt
bind-stops known q f (stopped.Needs k) h = bind-needs known q f k h
bind-stops known q f (stopped.Cyclic k) h = bind-cyclic known q f k h

-- what a `?` hands on
pub handed-on : {T : Type 0} (r : Result T Stopped) (why : Stopped) (P : T → Type 0) (Q : Stopped → Type 0) → IsErrAnd r (λ w. w ≡ why) → Q why → MatchResult r P Q
handed-on (Ok value) why P Q is q = absurd is
handed-on (Err w) why P Q is q = subst Q (sym is) q
