-- What entering one tree comes to, wherever it stands.
use Rattle.std.proofs.Common.{◌≡◌, ℕ, ◌<◌, ◌≤◌, Bool, true, false, if◌then◌else◌, List, [], ◌∷◌, ◌++◌, length, Option, Some, None, refl, sym, ap, subst, ◌∙◌, append-nil, arith}
use Rattle.std.specs.List.{flat_map}
use Rattle.std.proofs.lemmas.Bool.{false≢true}
use Rattle.std.proofs.lemmas.List.{length_push}
use Rattle.std.proofs.lemmas.Option.{cond_some}
use Rattle.pc_terms.specs.Bytes.{Bytes}
use Rattle.pc_terms.specs.declared.symbols.SymKind.{SymKind}
use Rattle.pc_terms.specs.declared.tree_kinds.TreeKind.{TreeKind}
use Rattle.positioned_trees.specs.Trees.{all_trees}
use Rattle.positioned_trees.specs.declared.details.Detail.{Detail}
use Rattle.positioned_trees.specs.declared.trees.Tree.{Tree}
use Rattle.positioned_trees.specs.declared.trees.Tree.TheViews.{out-Tree}
use Rattle.symbol_table.specs.declared.definitions.Found.{Found}
use Rattle.symbol_table.specs.declared.definitions.Standing.{Standing}
use Rattle.symbol_table.specs.declared.walking.Entering.{Entering}
use Rattle.symbol_table.specs.Entering.{EntersKid, EntersKids, standing_of, told_of}
use Rattle.symbol_table.specs.Found.{IsOwner, AreNext, is_admitted, number_for, next_found, defined}
use Rattle.symbol_table.specs.Items.{tree_qualifiers}
use Rattle.symbol_table.specs.Problems.{misplaced}
use Rattle.symbol_table.specs.Symbols.{symbol_in, is_local, stands_wrongly}
use Rattle.symbol_table.proofs.Turns.{misplaced_turn, quiet_turn, second_turn, defined_turn}

pub owner_grown : (old new : List Found) (owner : Option ℕ) → IsOwner old owner → length old ≤ length new → IsOwner new owner
owner_grown old new None h grows = tt
owner_grown old new (Some number) h grows = omega arith

-- ---- what a number says

none-some : (b : Bool) (n : ℕ) → None ≡ (if b then Some n else None) → b ≡ false
none-some true n h = cc
none-some false n h = refl

-- a definition that has a number is added
pub record IsAdded (found new : List Found) (owner : Option ℕ) (kind : SymKind) (name : List ℕ) (standing : Standing) (number : ℕ) : Type 0 where
  pub admitted : is_admitted found owner kind name ≡ true
  pub last : length found ≡ number
  pub grown : new ≡ found ++ next_found found owner kind name standing ∷ []
  pub inside : number < length new

pub added : (found new : List Found) (owner : Option ℕ) (kind : SymKind) (name : List ℕ) (standing : Standing) (number : ℕ)
    → Some number ≡ number_for found owner kind name → new ≡ defined found owner kind name standing → IsAdded found new owner kind name standing number
added found new owner kind name standing number is new_is =
    let parts = cond_some (is_admitted found owner kind name) (length found) number (sym is) in
    let all : new ≡ found ++ next_found found owner kind name standing ∷ [] =
    new_is ∙ ap (λ b. if b then found ++ next_found found owner kind name standing ∷ [] else found) parts.0 in record {
      admitted = parts.0;
      last = parts.1;
      grown = all;
      inside = omega (arith, parts.1, ap length all, length_push found (next_found found owner kind name standing));
    }

-- ---- the four cases

module _ (file : ℕ) (name : Bytes) (owner : Option ℕ) (outer : TreeKind) (parts : Detail) (kid : Tree) (a : Entering) where
  abbrev found : List Found
  found = a.definitions.found.items

  abbrev label : List ℕ
  label = (out-Tree kid).label

  pub kid-misplaced : (b : Entering) → stands_wrongly outer (out-Tree kid).kind ≡ true → b.definitions.found.items ≡ found → b.qualifiers ≡ a.qualifiers
      → b.told ≡ a.told ++ misplaced (out-Tree kid).label_span ∷ [] → EntersKid file name owner outer parts kid a b
  kid-misplaced b wrong same qualifiers told roots before [] at knows = absurd (false≢true at.owned)
  kid-misplaced b wrong same qualifiers told roots before (next ∷ others) at knows =
      misplaced_turn roots name file owner outer parts next others kid before a at knows b wrong same qualifiers told

  module _ (right : stands_wrongly outer (out-Tree kid).kind ≡ false) where
    pub kid-quiet : (b : Entering) → is_local (symbol_in outer kid) ≡ true
        → b ≡ record a { qualifiers = a.qualifiers ++ flat_map (tree_qualifiers name) (all_trees kid) } → EntersKid file name owner outer parts kid a b
    kid-quiet b local same roots before [] at knows = absurd (false≢true at.owned)
    kid-quiet b local same roots before (next ∷ others) at knows =
        quiet_turn roots name file owner outer parts next others kid before a at knows right b local same

    module _ (own : SymKind) (is : own ≡ symbol_in outer kid) (defining : is_local own ≡ false) (b : Entering)
        (grown : b.definitions.found.items ≡ defined found owner own label (standing_of file parts kid)) (qualifiers : b.qualifiers ≡ a.qualifiers) where
      local_not : is_local (symbol_in outer kid) ≡ false
      local_not = ap is_local (sym is) ∙ defining

      pub kid-second : None ≡ number_for found owner own label → b.told ≡ a.told ++ told_of None kid → EntersKid file name owner outer parts kid a b
      kid-second none told roots before [] at knows = absurd (false≢true at.owned)
      kid-second none told roots before (next ∷ others) at knows =
          let second : is_admitted found owner own label ≡ false = none-some (is_admitted found owner own label) (length found) none in
          second_turn roots name file owner outer parts next others kid before a at knows right local_not b
          (ap (λ k. is_admitted found owner k label) (sym is) ∙ second)
          (grown ∙ ap (λ t. if t then found ++ next_found found owner own label (standing_of file parts kid) ∷ [] else found) second) qualifiers told

      pub kid-defined : (c : Entering) (number : ℕ) → Some number ≡ number_for found owner own label → b.told ≡ a.told ++ told_of (Some number) kid
          → IsOwner found owner → AreNext b.definitions.found.items → EntersKids file name (Some number) (out-Tree kid).kind kid b c
          → EntersKid file name owner outer parts kid a c
      kid-defined c number some told owned nexts entered roots before [] at knows = absurd (false≢true at.owned)
      kid-defined c number some told owned nexts entered roots before (next ∷ others) at knows =
          let one = added found b.definitions.found.items owner own label (standing_of file parts kid) number some grown in
          defined_turn roots name file owner outer parts next others kid before a at knows right local_not b c
          (ap (λ k. is_admitted found owner k label) (sym is) ∙ one.admitted)
          (one.grown ∙ ap (λ k. found ++ next_found found owner k label (standing_of file parts kid) ∷ []) is) qualifiers (told ∙ append-nil a.told) owned nexts
          (subst (λ n. EntersKids file name (Some n) (out-Tree kid).kind kid b c) (sym one.last) entered)
