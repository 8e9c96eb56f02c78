-- The steps of the rules that follow parents, under the values that are known.
use Rattle.std.proofs.Common.{◌≡◌, ℕ, suc, ◌+◌, ◌-◌, ◌<◌, true, false, if◌then◌else◌, List, [], ◌∷◌, ◌++◌, Result, IsErrAnd, MatchResult, refl, sym, ap, subst, ◌∙◌}
use Rattle.item_questions.specs.Questions.{Gives, Answer, Known, Infos, run, bind}
use Rattle.pc_terms.specs.declared.items.Item.{Item}
use Rattle.pc_terms.specs.declared.items.ItemValue.{ItemValue}
use Rattle.pc_terms.specs.declared.symbols.SymPath.{SymPath}
use Rattle.pc_terms.specs.declared.types.Ty.{Ty}
use Rattle.item_answers.specs.Asking.{Asking, parents_of, Stops}
use Rattle.item_answers.specs.declared.stopping.Stopped.{Stopped}
use Rattle.item_answers.proofs.Binding.{bind-known, bind-stops, handed-on}
use Rattle.class_parents.proofs.Counted.{goes-on, ends-with}
use Rattle.class_parents.specs.Parents.{is_in, any_ref, plain_class, classes_of, class_types, max_steps, reached, followed}

module _ (known : Infos Item ItemValue) where
  -- ---- where parents lead

  pub reached-seen : (n : ℕ) (class : SymPath) (todo seen : List SymPath) → is_in class seen ≡ true
      → run known (reached (suc n) (class ∷ todo) seen) ≡ run known (reached n todo seen)
  unfolding reached
  reached-seen n class todo seen e =
      ap (λ b. run known (if b then reached n todo seen else bind (parents_of class) (λ types. reached n (classes_of types ++ todo) (seen ++ class ∷ [])))) e

  pub reached-known : (n : ℕ) (class : SymPath) (todo seen : List SymPath) (types : List Ty) → is_in class seen ≡ false
      → run known (parents_of class) ≡ Known types
      → run known (reached (suc n) (class ∷ todo) seen) ≡ run known (reached n (classes_of types ++ todo) (seen ++ class ∷ []))
  unfolding reached
  reached-known n class todo seen types e h =
      ap (λ b. run known (if b then reached n todo seen else bind (parents_of class) (λ types. reached n (classes_of types ++ todo) (seen ++ class ∷ [])))) e
      ∙ bind-known known (parents_of class) (λ types. reached n (classes_of types ++ todo) (seen ++ class ∷ [])) types h

  pub reached-stops : (n : ℕ) (class : SymPath) (todo seen : List SymPath) (why : Stopped) → is_in class seen ≡ false
      → Stops why (run known (parents_of class)) → Stops why (run known (reached (suc n) (class ∷ todo) seen))
  unfolding reached
  reached-stops n class todo seen why e h =
      subst (λ b. Stops why (run known (if b then reached n todo seen else bind (parents_of class) (λ types. reached n (classes_of types ++ todo) (seen ++ class ∷ []))))) (sym e)
      (bind-stops known (parents_of class) (λ types. reached n (classes_of types ++ todo) (seen ++ class ∷ [])) why h)

  pub reached-all : (n : ℕ) (seen : List SymPath) → run known (reached (suc n) [] seen) ≡ Known seen
  unfolding reached
  reached-all n seen = refl

  -- ---- the same, as the code makes these steps

  pub reach-stops : {T : Type 0} (class : SymPath) (todo seen : List SymPath) (why : Stopped) (r : Result T Stopped) (P : T → Type 0)
      → is_in class seen ≡ false → Stops why (run known (parents_of class)) → IsErrAnd r (λ w. w ≡ why)
      → MatchResult r P (λ w. (n : ℕ) → Stops w (run known (reached (suc n) (class ∷ todo) seen)))
  reach-stops class todo seen why r P e h is =
      handed-on r why P (λ w. (n : ℕ) → Stops w (run known (reached (suc n) (class ∷ todo) seen))) is (λ n. reached-stops n class todo seen why e h)

  pub reach-known : (class : SymPath) (todo seen : List SymPath) (types slice : List Ty) (todo_now seen_now : List SymPath) → is_in class seen ≡ false
      → run known (parents_of class) ≡ Known types → slice ≡ types → todo_now ≡ classes_of slice ++ todo
      → seen_now ≡ (if is_in class seen then seen else seen ++ class ∷ [])
      → (n : ℕ) → run known (reached (suc n) (class ∷ todo) seen) ≡ run known (reached n todo_now seen_now)
  reach-known class todo seen types slice todo_now seen_now e h same was is n =
      reached-known n class todo seen types e h
      ∙ ap (λ ts. run known (reached n ts (seen ++ class ∷ []))) (ap (λ xs. classes_of xs ++ todo) (sym same) ∙ sym was)
      ∙ ap (λ ks. run known (reached n todo_now ks)) (sym (is ∙ ap (λ b. if b then seen else seen ++ class ∷ []) e))

  -- ---- a loop of such steps

  abbrev comes_to : ℕ → List SymPath × List SymPath → Answer Item (List SymPath)
  comes_to n left = run known (reached n left.0 left.1)

  at-hand : (step : ℕ) (whole : Answer Item (List SymPath)) (todo now seen : List SymPath) → todo ≡ now → run known (reached (max_steps - step) todo seen) ≡ whole
      → comes_to (max_steps - step) (now, seen) ≡ whole
  at-hand step whole todo now seen is so = ap (λ xs. run known (reached (max_steps - step) xs seen)) (sym is) ∙ so

  pub reach-on : (step : ℕ) (whole : Answer Item (List SymPath)) (class : SymPath) (todo rest seen todo_now seen_now : List SymPath) → step < max_steps → todo ≡ class ∷ rest
      → ((n : ℕ) → run known (reached (suc n) (class ∷ rest) seen) ≡ run known (reached n todo_now seen_now))
      → run known (reached (max_steps - step) todo seen) ≡ whole → run known (reached (max_steps - (step + 1)) todo_now seen_now) ≡ whole
  reach-on step whole class todo rest seen todo_now seen_now lt is again so =
      goes-on comes_to max_steps step whole (class ∷ rest, seen) (todo_now, seen_now) lt again (at-hand step whole todo (class ∷ rest) seen is so)

  pub reach-halts : {T : Type 0} (step : ℕ) (whole : Answer Item (List SymPath)) (class : SymPath) (todo rest seen : List SymPath) (why : Stopped)
      (r : Result T Stopped) (P : T → Type 0) → step < max_steps → todo ≡ class ∷ rest
      → ((n : ℕ) → Stops why (run known (reached (suc n) (class ∷ rest) seen))) → run known (reached (max_steps - step) todo seen) ≡ whole
      → IsErrAnd r (λ w. w ≡ why) → MatchResult r P (λ w. Stops w whole)
  reach-halts step whole class todo rest seen why r P lt is again so e =
      handed-on r why P (λ w. Stops w whole) e
      (ends-with comes_to max_steps step whole (class ∷ rest, seen) (Stops why) lt again (at-hand step whole todo (class ∷ rest) seen is so))

  pub reach-ends : (step : ℕ) (whole : Answer Item (List SymPath)) (todo seen : List SymPath) → step < max_steps → todo ≡ []
      → run known (reached (max_steps - step) todo seen) ≡ whole → whole ≡ Known seen
  reach-ends step whole todo seen lt is so =
      ends-with comes_to max_steps step whole ([], seen) (λ r. r ≡ Known seen) lt (λ n. reached-all n seen) (at-hand step whole todo [] seen is so)

  -- ---- the parents as they are followed

  abbrev kept_of : SymPath → List Ty → List SymPath → List Ty
  kept_of class types seen = if is_in class seen then plain_class any_ref ∷ [] else class_types types

  abbrev reaching : SymPath → List Ty → Asking (List Ty)
  reaching class types = bind (reached max_steps (classes_of types) []) (λ seen. Gives (kept_of class types seen))

  pub followed-known : (class : SymPath) (types : List Ty) (seen : List SymPath) → run known (parents_of class) ≡ Known types
      → run known (reached max_steps (classes_of types) []) ≡ Known seen
      → run known (followed class) ≡ Known (kept_of class types seen)
  followed-known class types seen h g =
      bind-known known (parents_of class) (reaching class) types h
      ∙ bind-known known (reached max_steps (classes_of types) []) (λ seen. Gives (kept_of class types seen)) seen g

  pub followed-cyclic : (class : SymPath) (types : List Ty) (seen : List SymPath) → run known (parents_of class) ≡ Known types
      → run known (reached max_steps (classes_of types) []) ≡ Known seen → is_in class seen ≡ true
      → run known (followed class) ≡ Known (plain_class any_ref ∷ [])
  followed-cyclic class types seen h g e =
      followed-known class types seen h g ∙ ap (λ b. Known (if b then plain_class any_ref ∷ [] else class_types types)) e

  pub followed-plain : (class : SymPath) (types : List Ty) (seen : List SymPath) → run known (parents_of class) ≡ Known types
      → run known (reached max_steps (classes_of types) []) ≡ Known seen → is_in class seen ≡ false
      → run known (followed class) ≡ Known (class_types types)
  followed-plain class types seen h g e =
      followed-known class types seen h g ∙ ap (λ b. Known (if b then plain_class any_ref ∷ [] else class_types types)) e

  pub followed-stops : (class : SymPath) (why : Stopped) → Stops why (run known (parents_of class)) → Stops why (run known (followed class))
  followed-stops class why h = bind-stops known (parents_of class) (reaching class) why h

  pub followed-stops-later : (class : SymPath) (types : List Ty) (why : Stopped) → run known (parents_of class) ≡ Known types
      → Stops why (run known (reached max_steps (classes_of types) [])) → Stops why (run known (followed class))
  followed-stops-later class types why h g =
      subst (λ r. Stops why r) (sym (bind-known known (parents_of class) (reaching class) types h))
      (bind-stops known (reached max_steps (classes_of types) []) (λ seen. Gives (kept_of class types seen)) why g)

  -- ---- the same, as the code makes them

  pub followed-halts : {T : Type 0} (class : SymPath) (why : Stopped) (r : Result T Stopped) (P : T → Type 0) → Stops why (run known (parents_of class))
      → IsErrAnd r (λ w. w ≡ why) → MatchResult r P (λ w. Stops w (run known (followed class)))
  followed-halts class why r P h is = handed-on r why P (λ w. Stops w (run known (followed class))) is (followed-stops class why h)

  pub followed-halts-later : {T : Type 0} (class : SymPath) (types slice : List Ty) (why : Stopped) (r : Result T Stopped) (P : T → Type 0)
      → run known (parents_of class) ≡ Known types → slice ≡ types → Stops why (run known (reached max_steps (classes_of slice) []))
      → IsErrAnd r (λ w. w ≡ why) → MatchResult r P (λ w. Stops w (run known (followed class)))
  followed-halts-later class types slice why r P h same g is =
      handed-on r why P (λ w. Stops w (run known (followed class))) is
      (followed-stops-later class types why h (subst (λ xs. Stops why (run known (reached max_steps (classes_of xs) []))) same g))
