-- The steps of the rules that follow parents and bounds, under the values that are known.
use Rattle.std.proofs.Common.{◌≡◌, ℕ, suc, ◌+◌, ◌-◌, ◌<◌, Bool, true, false, if◌then◌else◌, List, [], ◌∷◌, ◌++◌, map, Option, None, Some, Result, IsErrAnd, MatchOption, MatchResult, refl, sym, ap, subst, ◌∙◌}
use Rattle.item_questions.specs.Questions.{Gives, Answer, Known, Infos, run, bind}
use Rattle.pc_terms.specs.declared.items.Item.{Item}
use Rattle.pc_terms.specs.declared.items.ItemValue.{ItemValue}
use Rattle.pc_terms.specs.declared.symbols.SymPath.{SymPath}
use Rattle.pc_terms.specs.declared.types.Sig.{Sig}
use Rattle.pc_terms.specs.declared.types.Ty.{Ty}
use Rattle.type_substitution.specs.Substitution.{path_eq, substituted}
use Rattle.item_answers.specs.Asking.{Asking, signature_of, Stops}
use Rattle.item_answers.specs.declared.stopping.Stopped.{Stopped}
use Rattle.item_answers.proofs.Binding.{bind-known, bind-stops, handed-on}
use Rattle.class_parents.proofs.Counted.{goes-on, ends-with}
use Rattle.class_parents.specs.Parents.{is_in, any, plain_class, max_steps, followed}
use Rattle.base_classes.specs.BaseTypes.{param_of, upper_bound, bound_by, bounded, upper, template_of, args_of, paths_of, with_args, parents_as, searched, searched_at, base_type}

module _ (known : Infos Item ItemValue) where
  -- ---- bounds

  pub bounded-plain : (n : ℕ) (seen : List SymPath) (ty : Ty) → param_of ty ≡ None → run known (bounded (suc n) seen ty) ≡ Known ty
  unfolding bounded
  bounded-plain n seen ty e = ap (λ o. run known (bound_by (bounded n) seen ty o)) e

  pub bounded-seen : (n : ℕ) (seen : List SymPath) (ty : Ty) (path : SymPath) → param_of ty ≡ Some path → is_in path seen ≡ true
      → run known (bounded (suc n) seen ty) ≡ Known (plain_class any)
  unfolding bounded
  bounded-seen n seen ty path e h =
      ap (λ o. run known (bound_by (bounded n) seen ty o)) e
      ∙ ap (λ b. run known (if b then Gives (plain_class any) else bind (signature_of path) (λ signature. bounded n (seen ++ path ∷ []) (upper_bound signature)))) h

  pub bounded-known : (n : ℕ) (seen : List SymPath) (ty : Ty) (path : SymPath) (signature : Sig) → param_of ty ≡ Some path
      → is_in path seen ≡ false → run known (signature_of path) ≡ Known signature
      → run known (bounded (suc n) seen ty) ≡ run known (bounded n (seen ++ path ∷ []) (upper_bound signature))
  unfolding bounded
  bounded-known n seen ty path signature e h g =
      ap (λ o. run known (bound_by (bounded n) seen ty o)) e
      ∙ ap (λ b. run known (if b then Gives (plain_class any) else bind (signature_of path) (λ signature. bounded n (seen ++ path ∷ []) (upper_bound signature)))) h
      ∙ bind-known known (signature_of path) (λ signature. bounded n (seen ++ path ∷ []) (upper_bound signature)) signature g

  pub bounded-stops : (n : ℕ) (seen : List SymPath) (ty : Ty) (path : SymPath) (why : Stopped) → param_of ty ≡ Some path
      → is_in path seen ≡ false → Stops why (run known (signature_of path)) → Stops why (run known (bounded (suc n) seen ty))
  unfolding bounded
  bounded-stops n seen ty path why e h g =
      subst (λ r. Stops why r) (sym (
      ap (λ o. run known (bound_by (bounded n) seen ty o)) e
      ∙ ap (λ b. run known (if b then Gives (plain_class any) else bind (signature_of path) (λ signature. bounded n (seen ++ path ∷ []) (upper_bound signature)))) h
      ))
      (bind-stops known (signature_of path) (λ signature. bounded n (seen ++ path ∷ []) (upper_bound signature)) why g)

  -- ---- the same, as the code makes these steps

  pub bound-stops : {T : Type 0} (seen : List SymPath) (path : SymPath) (why : Stopped) (r : Result T Stopped) (P : T → Type 0) → is_in path seen ≡ false
      → Stops why (run known (signature_of path)) → IsErrAnd r (λ w. w ≡ why)
      → MatchResult r P (λ w. (n : ℕ) (ty : Ty) → param_of ty ≡ Some path → Stops w (run known (bounded (suc n) seen ty)))
  bound-stops seen path why r P e h is =
      handed-on r why P (λ w. (n : ℕ) (ty : Ty) → param_of ty ≡ Some path → Stops w (run known (bounded (suc n) seen ty))) is
      (λ n ty own. bounded-stops n seen ty path why own e h)

  pub bound-known : (seen : List SymPath) (path copy : SymPath) (signature : Sig) (bound : Ty) (seen_now : List SymPath) → is_in path seen ≡ false
      → run known (signature_of path) ≡ Known signature → bound ≡ upper_bound signature → copy ≡ path
      → seen_now ≡ (if is_in copy seen then seen else seen ++ copy ∷ [])
      → (n : ℕ) (ty : Ty) → param_of ty ≡ Some path → run known (bounded (suc n) seen ty) ≡ run known (bounded n seen_now bound)
  bound-known seen path copy signature bound seen_now e h same copied is n ty own =
      bounded-known n seen ty path signature own e h
      ∙ ap (λ b. run known (bounded n (seen ++ path ∷ []) b)) (sym same)
      ∙ ap (λ ks. run known (bounded n ks bound)) (sym (is ∙ ap (λ p. if is_in p seen then seen else seen ++ p ∷ []) copied
      ∙ ap (λ b. if b then seen else seen ++ path ∷ []) e))

  -- ---- base types

  pub with_args-known : (class : SymPath) (arg : Ty) (args types : List Ty) (signature : Sig) → run known (signature_of class) ≡ Known signature
      → run known (with_args class (arg ∷ args) types) ≡ Known (map (substituted (paths_of signature.tparams) (arg ∷ args)) types)
  with_args-known class arg args types signature h =
      bind-known known (signature_of class) (λ signature. Gives (map (substituted (paths_of signature.tparams) (arg ∷ args)) types)) signature h

  pub with_args-stops : (class : SymPath) (arg : Ty) (args types : List Ty) (why : Stopped) → Stops why (run known (signature_of class))
      → Stops why (run known (with_args class (arg ∷ args) types))
  with_args-stops class arg args types why h =
      bind-stops known (signature_of class) (λ signature. Gives (map (substituted (paths_of signature.tparams) (arg ∷ args)) types)) why h

  -- the same of all arguments, of which there are some
  pub with_args-all : (class : SymPath) (args types : List Ty) (signature : Sig) → (args ≡ [] → ⊥) → run known (signature_of class) ≡ Known signature
      → run known (with_args class args types) ≡ Known (map (substituted (paths_of signature.tparams) args) types)
  with_args-all class [] types signature some h = absurd (some refl)
  with_args-all class (arg ∷ args) types signature some h = with_args-known class arg args types signature h

  pub with_args-halts : (class : SymPath) (args types : List Ty) (why : Stopped) → (args ≡ [] → ⊥) → Stops why (run known (signature_of class))
      → Stops why (run known (with_args class args types))
  with_args-halts class [] types why some h = absurd (some refl)
  with_args-halts class (arg ∷ args) types why some h = with_args-stops class arg args types why h

  pub parents_as-known : (class : SymPath) (ty : Ty) (types : List Ty) → run known (followed class) ≡ Known types
      → run known (parents_as class ty) ≡ run known (with_args class (args_of ty) types)
  parents_as-known class ty types h = bind-known known (followed class) (λ types. with_args class (args_of ty) types) types h

  pub with_args-none : (class : SymPath) (args types : List Ty) → args ≡ [] → run known (with_args class args types) ≡ Known types
  with_args-none class args types e = ap (λ xs. run known (with_args class xs types)) e

  pub args-halt : {T : Type 0} (class : SymPath) (args types : List Ty) (why : Stopped) (r : Result T Stopped) (P : T → Type 0) → (args ≡ [] → ⊥)
      → Stops why (run known (signature_of class)) → IsErrAnd r (λ w. w ≡ why) → MatchResult r P (λ w. Stops w (run known (with_args class args types)))
  args-halt class args types why r P some h is =
      handed-on r why P (λ w. Stops w (run known (with_args class args types))) is (with_args-halts class args types why some h)

  pub parents_as-stops : (class : SymPath) (ty : Ty) (why : Stopped) → Stops why (run known (followed class)) → Stops why (run known (parents_as class ty))
  parents_as-stops class ty why h = bind-stops known (followed class) (λ types. with_args class (args_of ty) types) why h

  pub parents-halt : {T : Type 0} (class : SymPath) (ty : Ty) (why : Stopped) (r : Result T Stopped) (P : T → Type 0) → Stops why (run known (followed class))
      → IsErrAnd r (λ w. w ≡ why) → MatchResult r P (λ w. Stops w (run known (parents_as class ty)))
  parents-halt class ty why r P h is = handed-on r why P (λ w. Stops w (run known (parents_as class ty))) is (parents_as-stops class ty why h)

  pub parents-plain : (class : SymPath) (ty : Ty) (types : List Ty) → run known (followed class) ≡ Known types → args_of ty ≡ []
      → run known (parents_as class ty) ≡ Known types
  parents-plain class ty types h e = parents_as-known class ty types h ∙ with_args-none class (args_of ty) types e

  pub parents-with : (class : SymPath) (ty : Ty) (types args : List Ty) (r : Result (List Ty) Stopped) → run known (followed class) ≡ Known types → args_of ty ≡ args
      → MatchResult r (λ news. run known (with_args class args types) ≡ Known news) (λ why. Stops why (run known (with_args class args types)))
      → MatchResult r (λ news. run known (parents_as class ty) ≡ Known news) (λ why. Stops why (run known (parents_as class ty)))
  parents-with class ty types args r h e =
      subst (λ a. MatchResult r (λ news. a ≡ Known news) (λ why. Stops why a))
      (sym (parents_as-known class ty types h ∙ ap (λ xs. run known (with_args class xs types)) e))

  pub searched-none : (n : ℕ) (class : SymPath) (seen : List SymPath) → run known (searched (suc n) class [] seen) ≡ Known None
  unfolding searched
  searched-none n class seen = refl

  -- what has no class is passed over
  pub searched-other : (n : ℕ) (class : SymPath) (ty : Ty) (todo : List Ty) (seen : List SymPath) → template_of ty ≡ None
      → run known (searched (suc n) class (ty ∷ todo) seen) ≡ run known (searched n class todo seen)
  unfolding searched
  searched-other n class ty todo seen e = ap (λ o. run known (searched_at (searched n class) class ty todo seen o)) e

  abbrev looked : ℕ → SymPath → Ty → List Ty → List SymPath → SymPath → Bool → Bool → Asking (Option Ty)
  looked n class ty todo seen own is_found is_seen =
      if is_found then Gives (Some ty) else (if is_seen then searched n class todo seen
      else bind (parents_as own ty) (λ types. searched n class (types ++ todo) (seen ++ own ∷ [])))

  searched-looked : (n : ℕ) (class : SymPath) (ty : Ty) (todo : List Ty) (seen : List SymPath) (own : SymPath) → template_of ty ≡ Some own
      → run known (searched (suc n) class (ty ∷ todo) seen) ≡ run known (looked n class ty todo seen own (path_eq own class) (is_in own seen))
  unfolding searched
  searched-looked n class ty todo seen own e = ap (λ o. run known (searched_at (searched n class) class ty todo seen o)) e

  pub searched-found : (n : ℕ) (class : SymPath) (ty : Ty) (todo : List Ty) (seen : List SymPath) (own : SymPath) → template_of ty ≡ Some own
      → path_eq own class ≡ true → run known (searched (suc n) class (ty ∷ todo) seen) ≡ Known (Some ty)
  searched-found n class ty todo seen own e f =
      searched-looked n class ty todo seen own e ∙ ap (λ b. run known (looked n class ty todo seen own b (is_in own seen))) f

  pub searched-seen : (n : ℕ) (class : SymPath) (ty : Ty) (todo : List Ty) (seen : List SymPath) (own : SymPath) → template_of ty ≡ Some own
      → path_eq own class ≡ false → is_in own seen ≡ true
      → run known (searched (suc n) class (ty ∷ todo) seen) ≡ run known (searched n class todo seen)
  searched-seen n class ty todo seen own e f g =
      searched-looked n class ty todo seen own e ∙ ap (λ b. run known (looked n class ty todo seen own b (is_in own seen))) f
      ∙ ap (λ b. run known (looked n class ty todo seen own false b)) g

  pub searched-known : (n : ℕ) (class : SymPath) (ty : Ty) (todo : List Ty) (seen : List SymPath) (own : SymPath) (types : List Ty)
      → template_of ty ≡ Some own → path_eq own class ≡ false → is_in own seen ≡ false → run known (parents_as own ty) ≡ Known types
      → run known (searched (suc n) class (ty ∷ todo) seen) ≡ run known (searched n class (types ++ todo) (seen ++ own ∷ []))
  searched-known n class ty todo seen own types e f g h =
      searched-looked n class ty todo seen own e ∙ ap (λ b. run known (looked n class ty todo seen own b (is_in own seen))) f
      ∙ ap (λ b. run known (looked n class ty todo seen own false b)) g
      ∙ bind-known known (parents_as own ty) (λ types. searched n class (types ++ todo) (seen ++ own ∷ [])) types h

  pub searched-stops : (n : ℕ) (class : SymPath) (ty : Ty) (todo : List Ty) (seen : List SymPath) (own : SymPath) (why : Stopped)
      → template_of ty ≡ Some own → path_eq own class ≡ false → is_in own seen ≡ false → Stops why (run known (parents_as own ty))
      → Stops why (run known (searched (suc n) class (ty ∷ todo) seen))
  searched-stops n class ty todo seen own why e f g h =
      subst (λ r. Stops why r) (sym (
      searched-looked n class ty todo seen own e ∙ ap (λ b. run known (looked n class ty todo seen own b (is_in own seen))) f
      ∙ ap (λ b. run known (looked n class ty todo seen own false b)) g
      ))
      (bind-stops known (parents_as own ty) (λ types. searched n class (types ++ todo) (seen ++ own ∷ [])) why h)

  -- ---- the same, as the code makes these steps

  pub follow-stops : {T : Type 0} (ty : Ty) (todo : List Ty) (seen : List SymPath) (own : SymPath) (why : Stopped) (r : Result T Stopped) (P : T → Type 0)
      → template_of ty ≡ Some own → is_in own seen ≡ false → Stops why (run known (parents_as own ty)) → IsErrAnd r (λ w. w ≡ why)
      → MatchResult r P (λ w. (n : ℕ) (class : SymPath) → path_eq own class ≡ false → Stops w (run known (searched (suc n) class (ty ∷ todo) seen)))
  follow-stops ty todo seen own why r P e g h is =
      handed-on r why P (λ w. (n : ℕ) (class : SymPath) → path_eq own class ≡ false → Stops w (run known (searched (suc n) class (ty ∷ todo) seen))) is
      (λ n class f. searched-stops n class ty todo seen own why e f g h)

  pub follow-known : (ty : Ty) (todo : List Ty) (seen : List SymPath) (own : SymPath) (types todo_now : List Ty) (seen_now : List SymPath)
      → template_of ty ≡ Some own → is_in own seen ≡ false → run known (parents_as own ty) ≡ Known types → todo_now ≡ types ++ todo
      → seen_now ≡ (if is_in own seen then seen else seen ++ own ∷ [])
      → (n : ℕ) (class : SymPath) → path_eq own class ≡ false → run known (searched (suc n) class (ty ∷ todo) seen) ≡ run known (searched n class todo_now seen_now)
  follow-known ty todo seen own types todo_now seen_now e g h was is n class f =
      searched-known n class ty todo seen own types e f g h
      ∙ ap (λ ts. run known (searched n class ts (seen ++ own ∷ []))) (sym was)
      ∙ ap (λ ks. run known (searched n class todo_now ks)) (sym (is ∙ ap (λ b. if b then seen else seen ++ own ∷ []) g))

  -- the step as a whole
  pub search-handed : {T : Type 0} (ty : Ty) (todo : List Ty) (seen : List SymPath) (class : SymPath) (why : Stopped) (r : Result T Stopped) (P : T → Type 0)
      → ((n : ℕ) → Stops why (run known (searched (suc n) class (ty ∷ todo) seen))) → IsErrAnd r (λ w. w ≡ why)
      → MatchResult r P (λ w. (n : ℕ) → Stops w (run known (searched (suc n) class (ty ∷ todo) seen)))
  search-handed ty todo seen class why r P h is = handed-on r why P (λ w. (n : ℕ) → Stops w (run known (searched (suc n) class (ty ∷ todo) seen))) is h

  -- ---- base types as a whole

  pub based-halts : {T : Type 0} (ty : Ty) (class : SymPath) (why : Stopped) (r : Result T Stopped) (P : T → Type 0) → Stops why (run known (upper ty))
      → IsErrAnd r (λ w. w ≡ why) → MatchResult r P (λ w. Stops w (run known (base_type ty class)))
  based-halts ty class why r P h is =
      handed-on r why P (λ w. Stops w (run known (base_type ty class))) is
      (bind-stops known (upper ty) (λ bound. searched max_steps class (bound ∷ []) []) why h)

  pub based-as : (ty bound : Ty) (class : SymPath) (r : Result (Option Ty) Stopped) → run known (upper ty) ≡ Known bound
      → MatchResult r (λ base. run known (searched max_steps class (bound ∷ []) []) ≡ Known base) (λ why. Stops why (run known (searched max_steps class (bound ∷ []) [])))
      → MatchResult r (λ base. run known (base_type ty class) ≡ Known base) (λ why. Stops why (run known (base_type ty class)))
  based-as ty bound class r h =
      subst (λ a. MatchResult r (λ base. a ≡ Known base) (λ why. Stops why a)) (sym (bind-known known (upper ty) (λ b. searched max_steps class (b ∷ []) []) bound h))

-- ---- loops of such steps

module _ (known : Infos Item ItemValue) (step : ℕ) (whole : Answer Item Ty) (path : SymPath) (bound : Ty) (seen : List SymPath) where
  abbrev bounds_to : ℕ → List SymPath × Ty → Answer Item Ty
  bounds_to n left = run known (bounded n left.0 left.1)

  -- where the parameter leads, or that it was met before
  abbrev Leads : List SymPath → Option Ty → Type 0
  Leads seen_now further = (n : ℕ) (ty : Ty) → param_of ty ≡ Some path
      → MatchOption further (run known (bounded (suc n) seen ty) ≡ Known (plain_class any)) (λ next. run known (bounded (suc n) seen ty) ≡ run known (bounded n seen_now next))

  pub bound-on : (further : Option Ty) (next : Ty) (seen_now : List SymPath) → step < max_steps → param_of bound ≡ Some path → Leads seen_now further → further ≡ Some next
      → run known (bounded (max_steps - step) seen bound) ≡ whole → run known (bounded (max_steps - (step + 1)) seen_now next) ≡ whole
  bound-on further next seen_now lt own leads is so =
      goes-on bounds_to max_steps step whole (seen, bound) (seen_now, next) lt (λ n. subst (Leads seen_now) is leads n bound own) so

  pub bound-any : (further : Option Ty) (seen_now : List SymPath) → step < max_steps → param_of bound ≡ Some path → Leads seen_now further → further ≡ None
      → run known (bounded (max_steps - step) seen bound) ≡ whole → whole ≡ Known (plain_class any)
  bound-any further seen_now lt own leads is so =
      ends-with bounds_to max_steps step whole (seen, bound) (λ r. r ≡ Known (plain_class any)) lt (λ n. subst (Leads seen_now) is leads n bound own) so

  pub bound-halts : {T : Type 0} (why : Stopped) (r : Result T Stopped) (P : T → Type 0) → step < max_steps → param_of bound ≡ Some path
      → ((n : ℕ) (ty : Ty) → param_of ty ≡ Some path → Stops why (run known (bounded (suc n) seen ty)))
      → run known (bounded (max_steps - step) seen bound) ≡ whole → IsErrAnd r (λ w. w ≡ why) → MatchResult r P (λ w. Stops w whole)
  bound-halts why r P lt own again so e =
      handed-on r why P (λ w. Stops w whole) e (ends-with bounds_to max_steps step whole (seen, bound) (Stops why) lt (λ n. again n bound own) so)

pub bound-plain : (known : Infos Item ItemValue) (step : ℕ) (whole : Answer Item Ty) (bound : Ty) (seen : List SymPath) → step < max_steps → param_of bound ≡ None
    → run known (bounded (max_steps - step) seen bound) ≡ whole → whole ≡ Known bound
bound-plain known step whole bound seen lt own so =
    ends-with (λ n ty. run known (bounded n seen ty)) max_steps step whole bound (λ r. r ≡ Known bound) lt (λ n. bounded-plain known n seen bound own) so

module _ (known : Infos Item ItemValue) (step : ℕ) (whole : Answer Item (Option Ty)) (class : SymPath) (todo : List Ty) (seen : List SymPath) where
  abbrev searches_to : ℕ → List Ty × List SymPath → Answer Item (Option Ty)
  searches_to n left = run known (searched n class left.0 left.1)

  at-hand : (now : List Ty) → todo ≡ now → run known (searched (max_steps - step) class todo seen) ≡ whole → searches_to (max_steps - step) (now, seen) ≡ whole
  at-hand now is so = ap (λ xs. run known (searched (max_steps - step) class xs seen)) (sym is) ∙ so

  -- what looking at the first comes to
  abbrev Looks : Ty → List Ty → List Ty → List SymPath → Option Ty → Type 0
  Looks ty rest todo_now seen_now found = (n : ℕ) → MatchOption found
      (run known (searched (suc n) class (ty ∷ rest) seen) ≡ run known (searched n class todo_now seen_now))
      (λ base. run known (searched (suc n) class (ty ∷ rest) seen) ≡ Known (Some base))

  pub search-found : (found : Option Ty) (ty base : Ty) (rest todo_now : List Ty) (seen_now : List SymPath) → step < max_steps → todo ≡ ty ∷ rest
      → Looks ty rest todo_now seen_now found → found ≡ Some base
      → run known (searched (max_steps - step) class todo seen) ≡ whole → whole ≡ Known (Some base)
  search-found found ty base rest todo_now seen_now lt is looks some so =
      ends-with searches_to max_steps step whole (ty ∷ rest, seen) (λ r. r ≡ Known (Some base)) lt (subst (Looks ty rest todo_now seen_now) some looks) (at-hand (ty ∷ rest) is so)

  pub search-none : step < max_steps → todo ≡ [] → run known (searched (max_steps - step) class todo seen) ≡ whole → whole ≡ Known None
  search-none lt is so =
      ends-with searches_to max_steps step whole ([], seen) (λ r. r ≡ Known None) lt (λ n. searched-none known n class seen) (at-hand [] is so)

  pub search-halts : {T : Type 0} (ty : Ty) (rest : List Ty) (why : Stopped) (r : Result T Stopped) (P : T → Type 0) → step < max_steps → todo ≡ ty ∷ rest
      → ((n : ℕ) → Stops why (run known (searched (suc n) class (ty ∷ rest) seen)))
      → run known (searched (max_steps - step) class todo seen) ≡ whole → IsErrAnd r (λ w. w ≡ why) → MatchResult r P (λ w. Stops w whole)
  search-halts ty rest why r P lt is again so e =
      handed-on r why P (λ w. Stops w whole) e (ends-with searches_to max_steps step whole (ty ∷ rest, seen) (Stops why) lt again (at-hand (ty ∷ rest) is so))
