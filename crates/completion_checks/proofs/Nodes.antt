-- What the question of a node comes to.
use Rattle.std.proofs.Common.{◌≡◌, ℕ, zero, suc, ◌<◌, Bool, true, false, ◌||◌, List, [], length, slice_get, nat_lt, Option, None, Some, is_some, option_map, if◌then◌else◌, refl, sym, ap, ◌∙◌, true≢false, arith}
use Rattle.std.proofs.lemmas.Bool.Decides.{Decides-ltb}
use Rattle.std.proofs.lemmas.Bool.{ltb-false}
use Rattle.item_questions.specs.Questions.{Cyclic, Gives, Infos, run, asked as answered}
use Rattle.item_questions.specs.Rounds.{is_item}
use Rattle.item_questions.proofs.Answers.{none≢some}
use Rattle.pc_terms.specs.declared.symbols.SymPath.{SymPath}
use Rattle.pc_terms.specs.declared.items.Item.{Item}
use Rattle.pc_terms.specs.declared.items.Item.TheVariants as item
use Rattle.pc_terms.specs.declared.items.ItemValue.{ItemValue}
use Rattle.pc_terms.specs.declared.items.ItemValue.TheVariants as given
use Rattle.pc_terms.specs.declared.items.Asked.{Asked}
use Rattle.pc_terms.specs.declared.items.Asked.TheVariants as found
use Rattle.lazy_completion.specs.declared.memo.Memo.{Memo}
use Rattle.lazy_completion.specs.Memo.{value}
use Rattle.lazy_completion.specs.Completion.{IsOf}
use Rattle.lazy_completion.specs.Fitting.{item_eq, is_cyclic}
use Rattle.lazy_completion.specs.Typing.{Asking, own, info, infos, within, asked, answer}
use Rattle.lazy_completion.proofs.Exact.{item-exact}
use Rattle.completion_checks.specs.Graph.{node, nodes, named, need, typed_node, typing}

no-parents : (n : ℕ) (p : SymPath) → is_item item_eq (nodes n) (item.Parents p) ≡ false
no-parents zero p = refl
no-parents (suc n) p = no-parents n p

no-signature : (n : ℕ) (p : SymPath) → is_item item_eq (nodes n) (item.Signature p) ≡ false
no-signature zero p = refl
no-signature (suc n) p = no-signature n p

-- each node is a qualifier
pub node-qualifier : (n : ℕ) (k : Item) → is_item item_eq (nodes n) k ≡ true → (f : List ℕ) × (m : ℕ) × (k ≡ item.Qualifier f m)
node-qualifier n (item.Parents p) h = absurd (true≢false (sym h ∙ no-parents n p))
node-qualifier n (item.Signature p) h = absurd (true≢false (sym h ∙ no-signature n p))
node-qualifier n (item.Qualifier f m) h = (f, m, refl)

pub node-listed : (n m : ℕ) → m < n → is_item item_eq (nodes n) (node m) ≡ true
node-listed zero m h = absurd (omega (arith, h))
node-listed (suc n) m h = by (λ below. node-listed n m below) (nat_lt m n) refl
  where
    here : m ≡ n → is_item item_eq (nodes (suc n)) (node m) ≡ true
    here e = ap (λ b. b || is_item item_eq (nodes n) (node m)) ((item-exact (node m) (node n)).1 (ap node e))

    later : (b : Bool) → is_item item_eq (nodes n) (node m) ≡ true → (b || is_item item_eq (nodes n) (node m)) ≡ true
    later true e = refl
    later false e = e

    by : (m < n → is_item item_eq (nodes n) (node m) ≡ true) → (b : Bool) → nat_lt m n ≡ b → is_item item_eq (nodes (suc n)) (node m) ≡ true
    by listed true e = later (item_eq (node m) (node n)) (listed ((Decides-ltb m n).0 e))
    by listed false e = here (omega (arith, h, ltb-false m n e))

-- what is needed is a node
pub need-node : (needs : List ℕ) (n m : ℕ) → need needs n ≡ Some m → m < length needs
need-node needs n m h = by (slice_get needs n) h
  where
    kept : (i : ℕ) (b : Bool) → nat_lt i (length needs) ≡ b → ◌≡◌ {A = Option ℕ} (if b then Some i else None) (Some m) → m < length needs
    kept i true below e = let same : i ≡ m = ap (λ o. elim o as (λ _. ℕ) [ Some x ↦ x | None ↦ i ]) e in let less = (Decides-ltb i (length needs)).0 below in omega (arith, same, less)
    kept i false above e = absurd (none≢some m e)

    by : (o : Option ℕ) → named o (length needs) ≡ Some m → m < length needs
    by None e = absurd (none≢some m e)
    by (Some i) e = kept i (nat_lt i (length needs)) refl e

-- what a node comes to, by what is known of the one that it needs
abbrev pub found_for : ℕ → Option ItemValue → Asked ItemValue
found_for m None = found.Needs (node m)
found_for m (Some v) = if is_cyclic v then found.Cyclic (node m) else found.Known (given.Qualifier None)

module _ (needs : List ℕ) (known : Item → Option ItemValue) (f : List ℕ) (n : ℕ) where
  abbrev told : Infos Item ItemValue
  told = within (nodes (length needs)) (infos known)

  abbrev comes_to : Asking ItemValue → Asked ItemValue
  comes_to q = asked (run told (own (item.Qualifier f n) q))

  -- a node that needs another one
  pub answer-need : (m : ℕ) → need needs n ≡ Some m
      → asked (answer (nodes (length needs)) (typing needs) known (item.Qualifier f n)) ≡ found_for m (known (node m))
  answer-need m at =
      ap (λ o. comes_to (typed_node o)) at
      ∙ ap (λ b. asked (answered (node m) (if b then infos known (node m) else Some Cyclic) (λ v. run told (own (item.Qualifier f n) (Gives (given.Qualifier None)))))) (node-listed (length needs) m (need-node needs n m at))
      ∙ by (known (node m))
    where
      by : (o : Option ItemValue) → asked (answered (node m) (option_map info o) (λ v. run told (own (item.Qualifier f n) (Gives (given.Qualifier None))))) ≡ found_for m o
      by None = refl
      by (Some given.Cyclic) = refl
      by (Some (given.Parents ts)) = refl
      by (Some (given.Signature s)) = refl
      by (Some (given.Qualifier q)) = refl

-- what an item comes to that is such a node, by what was looked up under the name that was made
pub looked-up : (needs : List ℕ) (known : Item → Option ItemValue) (k : Item) (f : List ℕ) (n : ℕ) → k ≡ item.Qualifier f n
    → (m : ℕ) → need needs n ≡ Some m → (made : List ℕ) → made ≡ [] → (o : Option ItemValue) → o ≡ known (item.Qualifier made m)
    → asked (answer (nodes (length needs)) (typing needs) known k) ≡ found_for m o
looked-up needs known k f n here m at made empty o seen =
    ap (λ j. asked (answer (nodes (length needs)) (typing needs) known j)) here
    ∙ answer-need needs known f n m at
    ∙ ap (found_for m) (ap (λ g. known (item.Qualifier g m)) (sym empty) ∙ sym seen)

-- a memo without values is right for all items
pub empty_right : (items : List Item) (typing : Item → Asking ItemValue) (memo : Memo) → ((k : Item) → value memo k ≡ None) → IsOf items typing memo
empty_right items typing memo empty = record {
  so = λ k i h. absurd (none≢some i (sym (ap (option_map info) (empty k)) ∙ h));
  listed = λ k h. absurd (true≢false (sym h ∙ ap is_some (empty k)));
}
