-- What a step of a completion keeps: the settling of the last locked item, the locking of one that it needs, and the
-- settling of all as cyclic.
use Rattle.std.proofs.Common.{◌≡◌, ℕ, suc, ◌<◌, ◌≤◌, Bool, true, false, ◌||◌, List, [], ◌∷◌, ◌++◌, length, Option, None, Some, is_some, option_map, if◌then◌else◌, refl, sym, ap, ◌∙◌, true≢false, subst, ◌⊎◌, arith}
use Rattle.std.specs.List.{list_any}
use Rattle.std.proofs.lemmas.List.Folds.{list_any-append}
use Rattle.indexmap.specs.IndexSet.{insert_key}
use Rattle.item_questions.specs.Questions.{Cyclic, Known, Needs, AtCyclic}
use Rattle.item_questions.specs.Rounds.{is_item, Agrees}
use Rattle.item_questions.proofs.Answers.{none≢some, some-injective}
use Rattle.item_questions.proofs.Circles.{settled-final, held-cyclic}
use Rattle.pc_terms.specs.declared.items.Item.{Item}
use Rattle.pc_terms.specs.declared.items.ItemValue.{ItemValue}
use Rattle.pc_terms.specs.declared.items.ItemValue.TheVariants as given
use Rattle.lazy_completion.specs.declared.memo.Memo.{Memo}
use Rattle.lazy_completion.specs.Fitting.{item_eq, is_own}
use Rattle.lazy_completion.specs.Memo.{value, locked, is_locked, Settles, SettlesCyclic}
use Rattle.lazy_completion.specs.Typing.{Asking, owned, info, infos, within, answer, final_info}
use Rattle.lazy_completion.specs.Completion.{IsOf, IsUnderWay, Keeps, StaysOrHas, Chained, distance, total}
use Rattle.lazy_completion.proofs.Exact.{item-exact}
use Rattle.lazy_completion.proofs.Memos.{exact-refl, locked_beside, same-last}
use Rattle.lazy_completion.proofs.Chains.{chained-pop, chained-push, chained-more, chained-held, none-of}
use Rattle.lazy_completion.proofs.Distances.{far, distance-le, total-less}
use Rattle.lazy_completion.proofs.Typings.{own-known, info-own, needs-none, within-none, none-within, within-keeps, within-so}

-- the same values and the same locks
pub record IsSame (old new : Memo) : Type 0 where
  pub values : (k : Item) → value new k ≡ value old k
  pub locks : locked new ≡ locked old

module _ (items : List Item) (typing : Item → Asking ItemValue) where
  -- a memo of the same values is as right
  pub right-same : (old new : Memo) → ((k : Item) → value new k ≡ value old k) → IsOf items typing old → IsOf items typing new
  right-same old new same right = record {
    so = λ k i h. right.so k i (ap (option_map info) (sym (same k)) ∙ h);
    listed = λ k h. right.listed k (ap is_some (sym (same k)) ∙ h);
  }

  pub keeps-same : (old new : Memo) → ((k : Item) → value new k ≡ value old k) → Keeps old new
  keeps-same old new same k v h = same k ∙ h

  pub under_way-same : (old new : Memo) → IsSame old new → IsUnderWay items typing old → IsUnderWay items typing new
  under_way-same old new same way = record {
    right = right-same old new same.values way.right;
    listed = λ k h. way.listed k (ap (list_any (item_eq k)) (sym same.locks) ∙ h);
    chained =
        let known : value new ≡ value old = λ i k. same.values k i in
        subst (λ f. Chained (within items (infos f)) (owned typing) (locked new)) (sym known)
        (subst (Chained (within items (infos (value old))) (owned typing)) (sym same.locks) way.chained);
  }

  -- what a step comes to
  pub record Steps (old new : Memo) : Type 0 where
    pub under_way : IsUnderWay items typing new
    pub nearer : total (distance new) items < total (distance old) items
    pub stays : StaysOrHas old new
    pub kept : Keeps old new

  -- a step brings an item of the list nearer
  nearer-at : (old new : Memo) → Keeps old new → StaysOrHas old new → (k : Item) → is_item item_eq items k ≡ true → distance new k < distance old k
      → total (distance new) items < total (distance old) items
  nearer-at old new keeps stays k listed less = total-less item_eq item-exact (distance old) (distance new) (distance-le old new keeps stays) items k listed less

  distance-is : (memo : Memo) (k : Item) (has locks : Bool) → is_some (value memo k) ≡ has → is_locked memo k ≡ locks → distance memo k ≡ far has locks
  distance-is memo k has locks p q i = far (p i) (q i)

  module _ (old : Memo) (way : IsUnderWay items typing old) where
    so_far : Agrees (final_info items typing) (within items (infos (value old)))
    so_far = within-so items typing (value old) way.right.so

    module _ (new : Memo) (v : ItemValue) (s : Settles old new v) (is : answer items typing (value old) s.last ≡ Known v) where
      last-locked : is_locked old s.last ≡ true
      last-locked = locked_beside old new v s s.last ∙ ap (λ b. is_locked new s.last || (b || false)) (exact-refl item_eq item-exact s.last) ∙ or_true (is_locked new s.last)
        where
          or_true : (a : Bool) → (a || true) ≡ true
          or_true true = refl
          or_true false = refl

      last-listed : is_item item_eq items s.last ≡ true
      last-listed = way.listed s.last last-locked

      own : is_own s.last v ≡ true
      own = own-known (within items (infos (value old))) s.last (typing s.last) v is

      at_last : value new s.last ≡ Some v
      at_last = s.values s.last ∙ ap (λ b. if b then Some v else value old s.last) (exact-refl item_eq item-exact s.last)

      elsewhere : (k : Item) → item_eq s.last k ≡ false → value new k ≡ value old k
      elsewhere k e = s.values k ∙ ap (λ b. if b then Some v else value old k) e

      settle-keeps : Keeps old new
      settle-keeps k w h = by (item_eq s.last k) refl
        where
          by : (b : Bool) → item_eq s.last k ≡ b → value new k ≡ Some w
          by true e = absurd (none≢some w (sym (old.apart s.last last-locked) ∙ ap (value old) ((item-exact s.last k).0 e) ∙ h))
          by false e = elsewhere k e ∙ h

      settle-stays : StaysOrHas old new
      settle-stays k h = by (is_locked new k) refl (item_eq s.last k) refl
        where
          by : (a : Bool) → is_locked new k ≡ a → (b : Bool) → item_eq s.last k ≡ b → (is_locked new k || is_some (value new k)) ≡ true
          by true p b q = ap (λ b. b || is_some (value new k)) p
          by false p true q =
              ap (λ b. b || is_some (value new k)) p ∙ ap is_some (ap (value new) (sym ((item-exact s.last k).0 q)) ∙ at_last)
          by false p false q = absurd (true≢false (sym h ∙ locked_beside old new v s k ∙ (λ i. p i || (q i || false))))

      settle-right : IsOf items typing new
      settle-right = record { so = so; listed = listed }
        where
          so : Agrees (final_info items typing) (infos (value new))
          so k i h = by (item_eq s.last k) refl
            where
              by : (b : Bool) → item_eq s.last k ≡ b → final_info items typing k ≡ i
              by true e =
                  let same : s.last ≡ k = (item-exact s.last k).0 e in
                  let new_is : infos (value new) k ≡ Some (info v) = ap (option_map info) (ap (value new) (sym same) ∙ at_last) in
                  ap (final_info items typing) (sym same)
                  ∙ settled-final item_eq item-exact items (owned typing) (within items (infos (value old))) so_far s.last v last-listed is
                  ∙ sym (info-own s.last v own) ∙ some-injective (info v) i (sym new_is ∙ h)
              by false e = way.right.so k i (ap (option_map info) (sym (elsewhere k e)) ∙ h)

          listed : (k : Item) → is_some (value new k) ≡ true → is_item item_eq items k ≡ true
          listed k h = by (item_eq s.last k) refl
            where
              by : (b : Bool) → item_eq s.last k ≡ b → is_item item_eq items k ≡ true
              by true e = ap (is_item item_eq items) (sym ((item-exact s.last k).0 e)) ∙ last-listed
              by false e = way.right.listed k (ap is_some (sym (elsewhere k e)) ∙ h)

      still-listed : (k : Item) → is_locked new k ≡ true → is_item item_eq items k ≡ true
      still-listed k h = way.listed k (locked_beside old new v s k ∙ ap (λ b. b || (item_eq s.last k || false)) h)

      pub settle-step : Steps old new
      settle-step = record {
        under_way = record {
          right = settle-right;
          listed = still-listed;
          chained =
              subst (Chained (within items (infos (value new))) (owned typing)) (sym s.now)
              (chained-more (owned typing) (within items (infos (value old))) (within items (infos (value new)))
              (within-keeps items (value old) (value new) settle-keeps) s.others
              (none-of item_eq item-exact (within items (infos (value new))) s.others (λ k there.
              let locks : is_locked new k ≡ true = ap (list_any (item_eq k)) s.now ∙ there in
              within-none items (value new) k (still-listed k locks) (new.apart k locks)))
              (chained-pop (owned typing) (within items (infos (value old))) s.others s.last
              (subst (Chained (within items (infos (value old))) (owned typing)) s.was way.chained)));
        };
        nearer =
            let before = distance-is old s.last false true (ap is_some (old.apart s.last last-locked)) last-locked in
            let after = distance-is new s.last true (is_locked new s.last) (ap is_some at_last) refl in
            nearer-at old new settle-keeps settle-stays s.last last-listed (omega (arith, before, after));
        stays = settle-stays;
        kept = settle-keeps;
      }

    module _ (new : Memo) (j last : Item) (others : List Item) (split : locked old ≡ others ++ last ∷ [])
        (is : answer items typing (value old) last ≡ Needs j) where
      pub needed-none : (is_item item_eq items j ≡ true) × (value old j ≡ None)
      needed-none = none-within items (value old) j (needs-none (within items (infos (value old))) (owned typing last) j is)

      module _ (unlocked : is_locked old j ≡ false) (same : (k : Item) → value new k ≡ value old k) (locks : locked new ≡ insert_key item_eq (locked old) j) where
        lock-added : locked new ≡ locked old ++ j ∷ []
        lock-added = locks ∙ ap (λ b. if b then locked old else locked old ++ j ∷ []) unlocked

        lock-locks : (k : Item) → is_locked new k ≡ (is_locked old k || (item_eq k j || false))
        lock-locks k = ap (list_any (item_eq k)) lock-added ∙ list_any-append (item_eq k) (locked old) (j ∷ [])

        lock-stays : StaysOrHas old new
        lock-stays k h = ap (λ b. b || is_some (value new k)) (lock-locks k ∙ ap (λ b. b || (item_eq k j || false)) h)

        lock-listed : (k : Item) → is_locked new k ≡ true → is_item item_eq items k ≡ true
        lock-listed k h = by (is_locked old k) refl (item_eq k j) refl
          where
            by : (a : Bool) → is_locked old k ≡ a → (b : Bool) → item_eq k j ≡ b → is_item item_eq items k ≡ true
            by true p b q = way.listed k p
            by false p true q = ap (is_item item_eq items) ((item-exact k j).0 q) ∙ needed-none.0
            by false p false q = absurd (true≢false (sym h ∙ lock-locks k ∙ (λ i. p i || (q i || false))))

        lock-now : is_locked new j ≡ true
        lock-now = lock-locks j ∙ (λ i. unlocked i || (exact-refl item_eq item-exact j i || false))

        pub lock-step : Steps old new
        lock-step = record {
          under_way = record {
            right = right-same old new same way.right;
            listed = lock-listed;
            chained =
                let known : value new ≡ value old = λ i k. same k i in
                subst (λ f. Chained (within items (infos f)) (owned typing) (locked new)) (sym known)
                (subst (Chained (within items (infos (value old))) (owned typing)) (sym lock-added)
                (chained-push (owned typing) (within items (infos (value old))) (locked old) j way.chained
                (λ others' last' split'. ap (λ k. answer items typing (value old) k) (same-last (locked old) others' others last' last split' split) ∙ is)));
          };
          nearer =
              let before = distance-is old j false false (ap is_some needed-none.1) unlocked in
              let after = distance-is new j false true (ap is_some (same j ∙ needed-none.1)) lock-now in
              nearer-at old new (keeps-same old new same) lock-stays j needed-none.0 (omega (arith, before, after));
          stays = lock-stays;
          kept = keeps-same old new same;
        }

    -- the item that is needed is locked already, or a cyclic item ended the typing
    abbrev pub IsStuck : Item → Type 0
    IsStuck last = ((j : Item) × (answer items typing (value old) last ≡ Needs j) × (is_locked old j ≡ true))
        ⊎ ((j : Item) × (answer items typing (value old) last ≡ AtCyclic j))

    module _ (new : Memo) (last : Item) (others : List Item) (split : locked old ≡ others ++ last ∷ []) (stuck : IsStuck last) (s : SettlesCyclic old new) where
      all-cyclic : (k : Item) → is_locked old k ≡ true → final_info items typing k ≡ Cyclic
      all-cyclic =
          held-cyclic item_eq item-exact items (owned typing) (within items (infos (value old))) so_far (is_locked old)
          (chained-held (owned typing) (within items (infos (value old))) item_eq item-exact items so_far (is_locked old) (locked old) (λ j h. h) way.chained
          (λ others' last' split'. subst IsStuck (sym (same-last (locked old) others' others last' last split' split)) stuck))

      now-cyclic : (k : Item) → is_locked old k ≡ true → value new k ≡ Some given.Cyclic
      now-cyclic k h = s.values k ∙ ap (λ b. if b then Some given.Cyclic else value old k) h

      as_before : (k : Item) → is_locked old k ≡ false → value new k ≡ value old k
      as_before k h = s.values k ∙ ap (λ b. if b then Some given.Cyclic else value old k) h

      cyclic-keeps : Keeps old new
      cyclic-keeps k w h = by (is_locked old k) refl
        where
          by : (b : Bool) → is_locked old k ≡ b → value new k ≡ Some w
          by true e = absurd (none≢some w (sym (old.apart k e) ∙ h))
          by false e = as_before k e ∙ h

      cyclic-stays : StaysOrHas old new
      cyclic-stays k h = or_second (is_locked new k) (ap is_some (now-cyclic k h))
        where
          or_second : (a : Bool) {b : Bool} → b ≡ true → (a || b) ≡ true
          or_second true h = refl
          or_second false h = h

      cyclic-right : IsOf items typing new
      cyclic-right = record { so = so; listed = listed }
        where
          so : Agrees (final_info items typing) (infos (value new))
          so k i h = by (is_locked old k) refl
            where
              by : (b : Bool) → is_locked old k ≡ b → final_info items typing k ≡ i
              by true e = all-cyclic k e ∙ some-injective Cyclic i (sym (ap (option_map info) (now-cyclic k e)) ∙ h)
              by false e = way.right.so k i (ap (option_map info) (sym (as_before k e)) ∙ h)

          listed : (k : Item) → is_some (value new k) ≡ true → is_item item_eq items k ≡ true
          listed k h = by (is_locked old k) refl
            where
              by : (b : Bool) → is_locked old k ≡ b → is_item item_eq items k ≡ true
              by true e = way.listed k e
              by false e = way.right.listed k (ap is_some (sym (as_before k e)) ∙ h)

      last-is-locked : is_locked old last ≡ true
      last-is-locked =
          ap (list_any (item_eq last)) split ∙ list_any-append (item_eq last) others (last ∷ [])
          ∙ ap (λ b. list_any (item_eq last) others || (b || false)) (exact-refl item_eq item-exact last) ∙ or_true (list_any (item_eq last) others)
        where
          or_true : (a : Bool) → (a || true) ≡ true
          or_true true = refl
          or_true false = refl

      pub cyclic-step : Steps old new
      cyclic-step = record {
        under_way = record {
          right = cyclic-right;
          listed = λ k h. absurd (true≢false (sym h ∙ ap (list_any (item_eq k)) s.now));
          chained = subst (Chained (within items (infos (value new))) (owned typing)) (sym s.now) tt;
        };
        nearer =
            let before = distance-is old last false true (ap is_some (old.apart last last-is-locked)) last-is-locked in
            let after = distance-is new last true (is_locked new last) (ap is_some (now-cyclic last last-is-locked)) refl in
            nearer-at old new cyclic-keeps cyclic-stays last (way.listed last last-is-locked) (omega (arith, before, after));
        stays = cyclic-stays;
        kept = cyclic-keeps;
      }

  -- all that were locked are cyclic, where a look at the locks came first
  pub cyclic-after : (old mid new : Memo) → IsSame old mid → SettlesCyclic mid new → SettlesCyclic old new
  cyclic-after old mid new same s = record {
    now = s.now;
    values = λ k. s.values k ∙ (λ i. if list_any (item_eq k) (same.locks i) then Some given.Cyclic else same.values k i);
  }

  -- the first lock of a completion
  module _ (old new : Memo) (j : Item) (right : IsOf items typing old) (none_locked : locked old ≡ []) (listed : is_item item_eq items j ≡ true)
      (same : (k : Item) → value new k ≡ value old k) (locks : locked new ≡ insert_key item_eq (locked old) j) where
    alone : locked new ≡ j ∷ []
    alone = locks ∙ ap (λ ks. insert_key item_eq ks j) none_locked

    pub first-locked : is_locked new j ≡ true
    first-locked = ap (list_any (item_eq j)) alone ∙ ap (λ b. b || false) (exact-refl item_eq item-exact j)

    pub first-lock : IsUnderWay items typing new
    first-lock = record {
      right = right-same old new same right;
      listed = λ k h. ap (is_item item_eq items) ((item-exact k j).0 (without (item_eq k j) (sym (ap (list_any (item_eq k)) alone) ∙ h))) ∙ listed;
      chained = subst (Chained (within items (infos (value new))) (owned typing)) (sym alone) (tt, tt);
    }
      where
        without : (b : Bool) → (b || false) ≡ true → b ≡ true
        without true h = refl
        without false h = h

  -- once nothing is locked, the item has its value
  pub finished : (memo : Memo) (j : Item) → IsUnderWay items typing memo → length (locked memo) ≤ 0 → (is_locked memo j || is_some (value memo j)) ≡ true
      → infos (value memo) j ≡ Some (final_info items typing j)
  finished memo j way none h = by (value memo j) refl
    where
      empty : (ks : List Item) → length ks ≤ 0 → list_any (item_eq j) ks ≡ false
      empty [] n = refl
      empty (k ∷ ks) n = absurd (too_many (length ks) n)
        where
          too_many : (n : ℕ) → suc n ≤ 0 → ⊥
          too_many n h = omega (arith, h)

      by : (o : Option ItemValue) → value memo j ≡ o → infos (value memo) j ≡ Some (final_info items typing j)
      by None e = absurd (true≢false (sym h ∙ (λ i. empty (locked memo) none i || is_some (e i))))
      by (Some v) e = let known : infos (value memo) j ≡ Some (info v) = ap (option_map info) e in known ∙ ap Some (sym (way.right.so j (info v) known))

pub keeps-trans : (a b c : Memo) → Keeps a b → Keeps b c → Keeps a c
keeps-trans a b c p q k v h = q k v (p k v h)

-- what was locked or had a value, is locked or has one after a step
pub stays-on : (old new : Memo) → StaysOrHas old new → Keeps old new → (j : Item) → (is_locked old j || is_some (value old j)) ≡ true
    → (is_locked new j || is_some (value new j)) ≡ true
stays-on old new stays keeps j h = by (is_locked old j) refl (value old j) refl
  where
    or_second : (a : Bool) {b : Bool} → b ≡ true → (a || b) ≡ true
    or_second true h = refl
    or_second false h = h

    by : (b : Bool) → is_locked old j ≡ b → (o : Option ItemValue) → value old j ≡ o → (is_locked new j || is_some (value new j)) ≡ true
    by true p o q = stays j p
    by false p (Some v) q = or_second (is_locked new j) (ap is_some (keeps j v q))
    by false p None q = absurd (true≢false (sym h ∙ (λ i. p i || is_some (q i))))
