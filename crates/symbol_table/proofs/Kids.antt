-- The kids of a tree, entered one after the other.
use Rattle.std.proofs.Common.{◌≡◌, ℕ, ◌+◌, ◌<◌, List, [], ◌∷◌, ◌++◌, length, take, drop, get_or, Option, Some, None, refl, sym, ap, ◌∙◌, subst, append_assoc, append-nil, arith}
use Rattle.std.specs.List.{slice_get}
use Rattle.std.proofs.lemmas.List.{get_or_append_left, length-append, take_more, take_all}
use Rattle.std.proofs.lemmas.Option.{slice_get-get_or}
use Rattle.pc_terms.specs.Bytes.{Bytes}
use Rattle.pc_terms.specs.declared.tree_kinds.TreeKind.{TreeKind}
use Rattle.positioned_trees.specs.declared.details.Detail.{Detail}
use Rattle.positioned_trees.specs.declared.trees.Tree.{Tree}
use Rattle.positioned_trees.specs.declared.trees.Tree.TheViews.{out-Tree}
use Rattle.symbol_table.specs.declared.definitions.Found.{Found}
use Rattle.symbol_table.specs.declared.walking.Entering.{Entering}
use Rattle.symbol_table.specs.Entering.{IsAt, Knows, Enters, EntersKid, EntersKids}
use Rattle.symbol_table.specs.Found.{IsOwner, owner_steps, steps_of}
use Rattle.symbol_table.specs.Owners.{in_earlier_sources}
use Rattle.symbol_table.specs.Sites.{Kid, kid_after, sites_from}
use Rattle.symbol_table.proofs.Entered.{Enters-append, Enters-nothing}
use Rattle.symbol_table.proofs.Spreads.{kids_from, sites_from-out}

-- ---- one kid more

pub kids_from-push : (file : ℕ) (around : List Kid) (before kids : List Tree) (kid : Tree)
    → kids_from file around before (kids ++ kid ∷ []) ≡ kids_from file around before kids ++ sites_from file kid (before ++ kids) around
kids_from-push file around before [] kid =
    append-nil (sites_from file kid before around) ∙ ap (λ trees. sites_from file kid trees around) (sym (append-nil before))
kids_from-push file around before (first ∷ kids) kid =
    ap (λ sites. sites_from file first before around ++ sites) (kids_from-push file around (before ++ first ∷ []) kids kid)
    ∙ sym (append_assoc (sites_from file first before around) (kids_from file around (before ++ first ∷ []) kids) (sites_from file kid (before ++ first ∷ [] ++ kids) around))
    ∙ ap (λ trees. sites_from file first before around ++ kids_from file around (before ++ first ∷ []) kids ++ sites_from file kid trees around)
    (append_assoc before (first ∷ []) kids)

-- ---- more definitions

slice_get-more : {X : Type 0} (xs ys : List X) (n : ℕ) (d : X) → n < length xs → slice_get (xs ++ ys) n ≡ slice_get xs n
slice_get-more xs ys n d h =
    slice_get-get_or (xs ++ ys) n d (omega (arith, length-append xs ys)) ∙ ap Some (get_or_append_left xs ys d n h) ∙ sym (slice_get-get_or xs n d h)

pub owner_steps-more : (found more : List Found) (owner : Option ℕ) → IsOwner found owner → owner_steps (found ++ more) owner ≡ owner_steps found owner
owner_steps-more found more None h = refl
owner_steps-more [] more (Some number) h = absurd (omega arith)
owner_steps-more (first ∷ found) more (Some number) h = ap steps_of (slice_get-more (first ∷ found) more number first h)

IsAt-more : (roots : List Tree) (file : ℕ) (owner : Option ℕ) (kind : TreeKind) (parts : Detail) (around : List Kid) (found more : List Found) → IsOwner found owner
    → IsAt roots file owner kind parts around found → IsAt roots file owner kind parts around (found ++ more)
IsAt-more roots file owner _ parts around found more owned at = record {
  path = owner_steps-more found more owner owned ∙ at.path;
  symbols = at.symbols;
  wrong = at.wrong;
  detail = at.detail;
  owned = at.owned;
  live = at.live;
}

-- ---- the loop

-- the first kids of a tree are entered
pub record EntersFirst (file : ℕ) (name : Bytes) (owner : Option ℕ) (kind : TreeKind) (tree : Tree) (count : ℕ) (old now : Entering) : Type 0 where
  pub entered : (roots before : List Tree) (outer : List Kid)
      → IsAt roots file owner kind (out-Tree tree).detail (kid_after tree before ∷ outer) old.definitions.found.items
      → Knows old.definitions.found.items owner (kid_after tree before ∷ outer) (in_earlier_sources roots file (kid_after tree before ∷ outer))
      → Enters roots name owner old now (kids_from file (kid_after tree before ∷ outer) [] (take count (out-Tree tree).kids))
      × Knows now.definitions.found.items owner (kid_after tree before ∷ outer)
      (in_earlier_sources roots file (kid_after tree before ∷ outer) ++ take count (out-Tree tree).kids)

pub EntersFirst-none : (file : ℕ) (name : Bytes) (owner : Option ℕ) (kind : TreeKind) (tree : Tree) (old : Entering) → EntersFirst file name owner kind tree 0 old old
EntersFirst-none file name owner _ tree old = record {
  entered = λ roots before outer at knows. (
    Enters-nothing roots name owner old,
    subst (λ trees. Knows old.definitions.found.items owner (kid_after tree before ∷ outer) trees)
        (sym (append-nil (in_earlier_sources roots file (kid_after tree before ∷ outer)))) knows,
  );
}

pub EntersFirst-more : (file : ℕ) (name : Bytes) (owner : Option ℕ) (kind : TreeKind) (tree : Tree) (count : ℕ) (kid : Tree) (old now new : Entering)
    → IsOwner old.definitions.found.items owner → count < length (out-Tree tree).kids → kid ≡ get_or (out-Tree tree).kids count kid
    → EntersFirst file name owner kind tree count old now → EntersKid file name owner kind (out-Tree tree).detail kid now new
    → EntersFirst file name owner kind tree (count + 1) old new
EntersFirst-more file name owner kind tree count kid old now new owned within read first turn =
    let kids : List Tree = (out-Tree tree).kids in
    let taken : take (count + 1) kids ≡ take count kids ++ kid ∷ [] = take_more kids count kid within ∙ ap (λ k. take count kids ++ k ∷ []) (sym read) in record {
      entered = λ roots before outer at knows.
          let around : List Kid = kid_after tree before ∷ outer in
          let done = first.entered roots before outer at knows in
          let still : IsAt roots file owner kind (out-Tree tree).detail around now.definitions.found.items =
          subst (λ f. IsAt roots file owner kind (out-Tree tree).detail around f) (sym done.0.found)
          (IsAt-more roots file owner kind (out-Tree tree).detail around old.definitions.found.items done.0.more owned at) in
          let next = turn roots (take count kids) around still done.1 in
          let all : Enters roots name owner old new (kids_from file around [] (take count kids) ++ sites_from file kid (take count kids) around) =
          Enters-append roots name owner old now new (kids_from file around [] (take count kids)) (sites_from file kid (take count kids) around) done.0 next.0 in (
            subst (λ sites. Enters roots name owner old new sites)
                (sym (ap (kids_from file around []) taken ∙ kids_from-push file around [] (take count kids) kid)) all,
            subst (λ trees. Knows new.definitions.found.items owner around (in_earlier_sources roots file around ++ trees)) (sym taken) next.1,
          );
    }

pub EntersKids-all : (file : ℕ) (name : Bytes) (owner : Option ℕ) (kind : TreeKind) (tree : Tree) (old new : Entering) (count : ℕ) → length (out-Tree tree).kids < count + 1
    → EntersFirst file name owner kind tree count old new → EntersKids file name owner kind tree old new
EntersKids-all file name owner _ tree old new count all first roots before outer at knows =
    let kids : List Tree = (out-Tree tree).kids in
    let around : List Kid = kid_after tree before ∷ outer in
    let done = first.entered roots before outer at knows in
    let whole : take count kids ≡ kids = take_all count kids (omega arith) in (
      subst (λ sites. Enters roots name owner old new (drop 1 sites)) (sym (sites_from-out file tree before outer))
          (subst (λ some. Enters roots name owner old new (kids_from file around [] some)) whole done.0),
      subst (λ some. Knows new.definitions.found.items owner around (in_earlier_sources roots file around ++ some)) whole done.1,
    )
