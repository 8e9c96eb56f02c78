-- Questions one after another, as the code asks them, under the values that are known.
use Rattle.std.proofs.Common.{◌≡◌, ℕ, ◌+◌, ◌<◌, ◌≤◌, List, [], ◌∷◌, ◌++◌, length, drop, get_or, Result, IsErrAnd, MatchResult, refl, sym, ap, subst, ◌∙◌}
use Rattle.std.proofs.lemmas.List.{at_drop_more, at_drop_all, append_assoc, append-nil}
use Rattle.item_questions.specs.Questions.{Gives, Answer, Known, Needs, AtCyclic, Infos, run, bind}
use Rattle.pc_terms.specs.declared.items.Item.{Item}
use Rattle.pc_terms.specs.declared.items.ItemValue.{ItemValue}
use Rattle.item_answers.specs.Asking.{Asking, each, Stops}
use Rattle.item_answers.specs.declared.stopping.Stopped.{Stopped}
use Rattle.item_answers.specs.declared.stopping.Stopped.TheVariants as stopped
use Rattle.pc_terms.specs.declared.types.Ty.{Ty}
use Rattle.type_members.specs.Members.{members_offered, all_offered}
use Rattle.type_members.specs.declared.members.Member.{Member}
use Rattle.type_members.specs.declared.offers.Offer.{Offer}
use Rattle.item_answers.proofs.Binding.{followed_by, run-bind, bind-known, bind-stops, handed-on}

module _ (known : Infos Item ItemValue) where
  pub halts : {T A B : Type 0} (q : Asking A) (f : A → Asking B) (why : Stopped) (r : Result T Stopped) (P : T → Type 0) → Stops why (run known q)
      → IsErrAnd r (λ w. w ≡ why) → MatchResult r P (λ w. Stops w (run known (bind q f)))
  halts q f why r P h is = handed-on r why P (λ w. Stops w (run known (bind q f))) is (bind-stops known q f why h)

  pub goes_on : {A B : Type 0} (q : Asking A) (f : A → Asking B) (a : A) (r : Result B Stopped) → run known q ≡ Known a
      → MatchResult r (λ b. run known (f a) ≡ Known b) (λ why. Stops why (run known (f a)))
      → MatchResult r (λ b. run known (bind q f) ≡ Known b) (λ why. Stops why (run known (bind q f)))
  goes_on q f a r h = subst (λ x. MatchResult r (λ b. x ≡ Known b) (λ why. Stops why x)) (sym (bind-known known q f a h))

  -- the same, where what the code asks about is equal to what the rule does
  pub halts-at : {S T A B : Type 0} (q : S → Asking A) (now s : S) (f : A → Asking B) (why : Stopped) (r : Result T Stopped) (P : T → Type 0) → now ≡ s
      → Stops why (run known (q now)) → IsErrAnd r (λ w. w ≡ why) → MatchResult r P (λ w. Stops w (run known (bind (q s) f)))
  halts-at q now s f why r P e h = halts (q s) f why r P (subst (λ x. Stops why (run known (q x))) e h)

  pub known-at : {S A : Type 0} (q : S → Asking A) (now s : S) (a : A) → now ≡ s → run known (q now) ≡ Known a → run known (q s) ≡ Known a
  known-at q now s a e h = ap (λ x. run known (q x)) (sym e) ∙ h

  pub tells-at : {S B : Type 0} (q : S → Asking B) (now s : S) (r : Result B Stopped) → now ≡ s
      → MatchResult r (λ b. run known (q now) ≡ Known b) (λ why. Stops why (run known (q now)))
      → MatchResult r (λ b. run known (q s) ≡ Known b) (λ why. Stops why (run known (q s)))
  tells-at q now s r e h = subst (λ x. MatchResult r (λ b. run known (q x) ≡ Known b) (λ why. Stops why (run known (q x)))) e h

-- ---- lists

abbrev put_behind : {Y : Type 0} → List Y → Answer Item (List Y) → Answer Item (List Y)
put_behind so_far r = followed_by r (λ more. Known (so_far ++ more))

put-twice : {Y : Type 0} (so_far new : List Y) (r : Answer Item (List Y)) → put_behind so_far (put_behind new r) ≡ put_behind (so_far ++ new) r
put-twice so_far new (Known more) = ap Known (sym (append_assoc so_far new more))
put-twice so_far new (Needs k) = refl
put-twice so_far new (AtCyclic k) = refl

put-none : {Y : Type 0} (r : Answer Item (List Y)) → put_behind [] r ≡ r
put-none (Known more) = refl
put-none (Needs k) = refl
put-none (AtCyclic k) = refl

-- A list of questions that are asked in turn: `left` is what comes of those that are left.
module _ {X Y : Type 0} (known : Infos Item ItemValue) (left : List X → Asking (List Y)) (all : List X) (so_far : List Y) (i : ℕ) where
  abbrev pub AreAsked : Type 0
  AreAsked = put_behind so_far (run known (left (drop i all))) ≡ run known (left all)

  -- what the first of these gives, and what the others do then
  abbrev pub Begins : X → List Y → Type 0
  Begins x new = (xs : List X) → run known (left (x ∷ xs)) ≡ put_behind new (run known (left xs))

  abbrev pub StopsAt : Stopped → X → Type 0
  StopsAt why x = (xs : List X) → Stops why (run known (left (x ∷ xs)))

  at-first : (x : X) → i < length all → x ≡ get_or all i x → AreAsked → put_behind so_far (run known (left (x ∷ drop (i + 1) all))) ≡ run known (left all)
  at-first x within is so =
      ap (λ z. put_behind so_far (run known (left (z ∷ drop (i + 1) all)))) is
      ∙ sym (at_drop_more (λ xs. put_behind so_far (run known (left xs))) all i x within) ∙ so

  pub asked-on : (x : X) (new now : List Y) → i < length all → x ≡ get_or all i x → Begins x new → now ≡ so_far ++ new → AreAsked
      → put_behind now (run known (left (drop (i + 1) all))) ≡ run known (left all)
  asked-on x new now within is begins e so =
      ap (λ ys. put_behind ys (run known (left (drop (i + 1) all)))) e
      ∙ sym (put-twice so_far new (run known (left (drop (i + 1) all))))
      ∙ ap (put_behind so_far) (sym (begins (drop (i + 1) all)))
      ∙ at-first x within is so

  put-stops : (why : Stopped) (r : Answer Item (List Y)) → Stops why r → Stops why (put_behind so_far r)
  put-stops stopped.NoMemory r h = tt
  put-stops (stopped.Needs k) r h = ap (put_behind so_far) h
  put-stops (stopped.Cyclic k) r h = ap (put_behind so_far) h

  pub asked-halts : {T : Type 0} (x : X) (why : Stopped) (r : Result T Stopped) (P : T → Type 0) → i < length all → x ≡ get_or all i x → StopsAt why x → AreAsked
      → IsErrAnd r (λ w. w ≡ why) → MatchResult r P (λ w. Stops w (run known (left all)))
  asked-halts x why r P within is stops so e =
      handed-on r why P (λ w. Stops w (run known (left all))) e
      (subst (Stops why) (at-first x within is so) (put-stops why (run known (left (x ∷ drop (i + 1) all))) (stops (drop (i + 1) all))))

  pub asked-all : length all ≤ i → run known (left []) ≡ Known [] → AreAsked → run known (left all) ≡ Known so_far
  asked-all past none so =
      sym so ∙ at_drop_all (λ xs. put_behind so_far (run known (left xs))) all i past ∙ ap (put_behind so_far) none ∙ ap Known (append-nil so_far)

pub asked-first : {X Y : Type 0} (known : Infos Item ItemValue) (left : List X → Asking (List Y)) (all : List X) → AreAsked known left all [] 0
asked-first known left all = put-none (run known (left all))

module _ {X Y : Type 0} (known : Infos Item ItemValue) (ask : X → Asking Y) (x : X) where
  pub each-begins : (y : Y) → run known (ask x) ≡ Known y → (xs : List X) → run known (each ask (x ∷ xs)) ≡ put_behind (y ∷ []) (run known (each ask xs))
  each-begins y h xs =
      bind-known known (ask x) (λ z. bind (each ask xs) (λ zs. Gives (z ∷ zs))) y h ∙ run-bind known (each ask xs) (λ ys. Gives (y ∷ ys))

  pub each-stops : (why : Stopped) → Stops why (run known (ask x)) → (xs : List X) → Stops why (run known (each ask (x ∷ xs)))
  each-stops why h xs = bind-stops known (ask x) (λ z. bind (each ask xs) (λ zs. Gives (z ∷ zs))) why h

module _ (known : Infos Item ItemValue) (ty : Ty) (offer : Offer) where
  pub offered-begins : (members : List Member) → run known (members_offered ty offer) ≡ Known members → (others : List Offer)
      → run known (all_offered ty (offer ∷ others)) ≡ put_behind members (run known (all_offered ty others))
  offered-begins members h others =
      bind-known known (members_offered ty offer) (λ own. bind (all_offered ty others) (λ more. Gives (own ++ more))) members h
      ∙ run-bind known (all_offered ty others) (λ more. Gives (members ++ more))

  pub offered-stops : (why : Stopped) → Stops why (run known (members_offered ty offer)) → (others : List Offer) → Stops why (run known (all_offered ty (offer ∷ others)))
  offered-stops why h others =
      bind-stops known (members_offered ty offer) (λ own. bind (all_offered ty others) (λ more. Gives (own ++ more))) why h
