-- What entering one tree comes to, in each of the four cases of the walk.
use Rattle.std.proofs.Common.{◌≡◌, ℕ, ◌≤◌, Bool, true, false, not, if◌then◌else◌, List, [], ◌∷◌, ◌++◌, map, length, drop, Option, Some, refl, sym, ap, ◌∙◌, subst, append_assoc, arith}
use Rattle.std.specs.List.{All, flat_map}
use Rattle.std.proofs.lemmas.Bool.{false≢true, and_left, and_right, and_from, or_left, or_right, or_from, not_from_true, not_from_false}
use Rattle.std.specs.Option.{IsSomeAnd}
use Rattle.std.proofs.lemmas.List.{length_push}
use Rattle.std.proofs.lemmas.List.Elements.{All-nil, All-append, All-weaker}
use Rattle.std.proofs.lemmas.List.Folds.{flat_map-map}
use Rattle.pc_terms.specs.Bytes.{Bytes}
use Rattle.pc_terms.specs.declared.items.Item.TheVariants as item
use Rattle.pc_terms.specs.declared.problems.Problem.{Problem}
use Rattle.pc_terms.specs.declared.symbols.SymKind.{SymKind}
use Rattle.pc_terms.specs.declared.tree_kinds.TreeKind.{TreeKind}
use Rattle.pc_terms.specs.declared.tree_kinds.TreeKind.TheVariants as kind
use Rattle.positioned_trees.specs.Trees.{all_trees}
use Rattle.positioned_trees.specs.declared.details.Detail.{Detail}
use Rattle.positioned_trees.specs.declared.trees.Tree.{Tree}
use Rattle.positioned_trees.specs.declared.trees.Tree.TheViews.{out-Tree}
use Rattle.symbol_table.specs.declared.definitions.Found.{Found}
use Rattle.symbol_table.specs.declared.walking.Entering.{Entering}
use Rattle.symbol_table.specs.Definitions.{decl_of, definition_at, is_prelude}
use Rattle.symbol_table.specs.Entering.{IsAt, IsQuiet, Knows, Enters, EntersKids, standing_of, site_qualifiers}
use Rattle.symbol_table.specs.Found.{IsOwner, AreNext, is_admitted, next_found, own_step, owner_steps}
use Rattle.symbol_table.specs.Items.{tree_qualifiers, import_clauses}
use Rattle.symbol_table.specs.Owners.{symbol_at, defines_at, in_earlier_sources, is_misplaced, is_second, is_refused, are_live, step_at}
use Rattle.symbol_table.specs.Problems.{misplaced, double, problems_of_tree, site_problems}
use Rattle.symbol_table.specs.Sites.{Kid, Site, kid_after, site_of, kid_sites_of, sites_from}
use Rattle.symbol_table.specs.Symbols.{symbol_by, symbol_in, is_local, is_template, class_symbol, trait_symbol, stands_wrongly, flags_in}
use Rattle.symbol_table.proofs.Below.{IsDead, dead_below, still_below, site_tree, sites-trees}
use Rattle.symbol_table.proofs.Entered.{IsOfOwner, new_above, Enters-append, Enters-through, Enters-dead, Enters-still, Enters-one, Enters-refused}
use Rattle.symbol_table.proofs.Known.{Knows-kept, Knows-undefined, Knows-second, Knows-defined, Knows-nothing}
use Rattle.symbol_table.proofs.Following.{unowned}
use Rattle.symbol_table.proofs.Places.{second-known, step-known, IsAt-kid, last_step-push}
use Rattle.symbol_table.proofs.Spreads.{kids_from, sites_from-out}

-- ---- kinds of trees

class_wrong : (own : TreeKind) (parts : Detail) → is_template own ≡ true → is_local (class_symbol own parts) ≡ true
class_wrong kind.ClassDef parts h = refl
class_wrong kind.TraitDef parts h = refl
class_wrong kind.ObjectDef parts h = refl
class_wrong _ parts h = absurd (false≢true h)

trait_wrong : (own : TreeKind) → is_template own ≡ true → is_local (trait_symbol own) ≡ true
trait_wrong kind.ClassDef h = refl
trait_wrong kind.TraitDef h = refl
trait_wrong kind.ObjectDef h = refl
trait_wrong _ h = absurd (false≢true h)

-- what may not stand where it does defines no symbol
wrong_local : (outer own : TreeKind) (parts : Detail) → stands_wrongly outer own ≡ true → is_local (symbol_by outer own parts) ≡ true
wrong_local kind.ClassDef own parts h = class_wrong own parts h
wrong_local kind.TraitDef own parts h = trait_wrong own h
wrong_local _ own parts h = absurd (false≢true h)

import_local : (outer : TreeKind) (parts : Detail) → is_local (symbol_by outer kind.Import parts) ≡ true
import_local kind.Unit parts = refl
import_local kind.ObjectDef parts = refl
import_local kind.ClassDef parts = refl
import_local kind.TraitDef parts = refl
import_local kind.DefDef parts = refl
import_local _ parts = refl

-- what defines a symbol is no import
no_clauses : (name : Bytes) (outer own : TreeKind) (parts : Detail) → is_local (symbol_by outer own parts) ≡ false → import_clauses own parts ≡ []
no_clauses name outer kind.Import parts h = absurd (false≢true (sym h ∙ import_local outer parts))
no_clauses name outer _ parts h = refl

-- ---- what is dead below

kids_dead : (roots : List Tree) (file : ℕ) (around : List Kid) → are_live roots file around ≡ false → (before kids : List Tree) → All (IsDead roots) (kids_from file around before kids)
kids_dead roots file around lost before [] = All-nil (IsDead roots)
kids_dead roots file around lost before (kid ∷ kids) =
    All-append (IsDead roots) (sites_from file kid before around) (kids_from file around (before ++ kid ∷ []) kids)
    (dead_below roots file kid before around lost) (kids_dead roots file around lost (before ++ kid ∷ []) kids)

module _ (roots : List Tree) (name : Bytes) (file : ℕ) (owner : Option ℕ) (outer : TreeKind) (parts : Detail) (next : Kid) (others : List Kid) (kid : Tree) (before : List Tree)
    (a : Entering) (at : IsAt roots file owner outer parts (next ∷ others) a.definitions.found.items)
    (knows : Knows a.definitions.found.items owner (next ∷ others) (in_earlier_sources roots file (next ∷ others) ++ before)) where
  abbrev around : List Kid
  around = next ∷ others

  abbrev this : Kid
  this = kid_after kid before

  abbrev site : Site
  site = site_of file this around

  abbrev own : SymKind
  own = symbol_in outer kid

  abbrev label : List ℕ
  label = (out-Tree kid).label

  abbrev below : List Site
  below = kids_from file (this ∷ around) [] (out-Tree kid).kids

  abbrev Earlier : List Tree
  Earlier = in_earlier_sources roots file around

  -- what the clause of the walk says of this tree
  abbrev Turn : Entering → Type 0
  Turn b = Enters roots name owner a b (sites_from file kid before around) × Knows b.definitions.found.items owner around (Earlier ++ (before ++ kid ∷ []))

  turn : (b : Entering) → Enters roots name owner a b (site ∷ below) → Knows b.definitions.found.items owner around (Earlier ++ before ++ kid ∷ []) → Turn b
  turn b enters known = (
    subst (λ sites. Enters roots name owner a b sites) (sym (sites_from-out file kid before around)) enters,
    subst (λ trees. Knows b.definitions.found.items owner around trees) (append_assoc Earlier before (kid ∷ [])) known,
  )

  symbol_local : is_local own ≡ true → defines_at kid around ≡ false
  symbol_local h = ap not (ap is_local (at.symbols kid) ∙ h)

  symbol_known : is_local own ≡ false → defines_at kid around ≡ true
  symbol_known h = ap not (ap is_local (at.symbols kid) ∙ h)

  told_at : {problems : List Problem} → problems_of_tree roots site ≡ problems → site_problems roots site ≡ problems
  told_at h = ap (λ b. if b then problems_of_tree roots site else []) (and_from _ _ at.owned at.live) ∙ h

  -- ---- refused

  refused_turn : (b : Entering) (problem : Problem) → is_refused roots file this around ≡ true → problems_of_tree roots site ≡ problem ∷ []
      → b.definitions.found.items ≡ a.definitions.found.items → b.qualifiers ≡ a.qualifiers → b.told ≡ a.told ++ problem ∷ []
      → Enters roots name owner a b (site ∷ below)
  refused_turn b problem refused told found qualifiers more =
      let dead : are_live roots file (this ∷ around) ≡ false = and_left _ _ (not_from_true _ refused) in
      Enters-append roots name owner a b b (site ∷ []) below
      (Enters-refused roots name owner a b site problem (and_right _ _ dead) dead (told_at told) found qualifiers more)
      (Enters-dead roots name owner b below (kids_dead roots file (this ∷ around) dead [] (out-Tree kid).kids))

  pub misplaced_turn : (b : Entering) → stands_wrongly outer (out-Tree kid).kind ≡ true
      → b.definitions.found.items ≡ a.definitions.found.items → b.qualifiers ≡ a.qualifiers → b.told ≡ a.told ++ misplaced (out-Tree kid).label_span ∷ [] → Turn b
  misplaced_turn b wrong found qualifiers told =
      let here : is_misplaced kid around ≡ true = at.wrong kid ∙ wrong in
      turn b
      (refused_turn b (misplaced (out-Tree kid).label_span) (and_from _ _ at.owned (or_left _ _ here))
      (ap (λ w. if w then misplaced (out-Tree kid).label_span ∷ []
      else (if is_second roots file this around then double (out-Tree kid).label_span label ∷ [] else [])) here)
      found qualifiers told)
      (subst (λ f. Knows f owner around (Earlier ++ before ++ kid ∷ [])) (sym found)
      (Knows-undefined _ owner around (Earlier ++ before) kid (symbol_local (wrong_local outer (out-Tree kid).kind (out-Tree kid).detail wrong)) knows))

  module _ (right : stands_wrongly outer (out-Tree kid).kind ≡ false) where
    rightly : is_misplaced kid around ≡ false
    rightly = at.wrong kid ∙ right

    -- ---- quiet

    pub quiet_turn : (b : Entering) → is_local own ≡ true
        → b ≡ record a { qualifiers = a.qualifiers ++ flat_map (tree_qualifiers name) (all_trees kid) } → Turn b
    quiet_turn b local same =
        let undefined : defines_at kid around ≡ false = symbol_local local in
        let kept : is_refused roots file this around ≡ false = and_right _ _ (or_from _ _ rightly (and_left _ _ undefined)) in
        let quiet : IsQuiet roots file this around = record {
          quiet = and_right _ _ (or_from _ _ undefined rightly);
          live = and_from _ _ (not_from_false _ kept) at.live;
        } in
        let sites : List Site = sites_from file kid before around in
        let clauses : flat_map (tree_qualifiers name) (all_trees kid) ≡ flat_map (site_qualifiers name) sites =
        ap (flat_map (tree_qualifiers name)) (sym (sites-trees file kid before around)) ∙ flat_map-map (tree_qualifiers name) site_tree sites in (
          Enters-still roots name owner a b sites (still_below roots file kid before next others quiet)
              (same ∙ ap {B = Entering} (λ more. record a { qualifiers = a.qualifiers ++ more }) clauses),
          subst (λ trees. Knows b.definitions.found.items owner around trees) (append_assoc Earlier before (kid ∷ []))
              (subst (λ f. Knows f owner around (Earlier ++ before ++ kid ∷ [])) (sym (ap {A = Entering} (λ e. e.definitions.found.items) same))
              (Knows-undefined _ owner around (Earlier ++ before) kid undefined knows)),
        )

    module _ (defining : is_local own ≡ false) where
      abbrev Admits : SymKind → Bool
      Admits own = is_admitted a.definitions.found.items owner own label

      -- the same of the symbol as the definitions name it
      at_symbol : (b : Bool) → Admits own ≡ b → Admits (symbol_at kid around) ≡ b
      at_symbol b h = ap Admits (at.symbols kid) ∙ h

      second_is : (b : Bool) → Admits own ≡ b → is_second roots file this around ≡ not b
      second_is b h = second-known roots file owner around a.definitions.found.items kid before knows (symbol_known defining) ∙ ap not (at_symbol b h)

      -- ---- a second definition

      pub second_turn : (b : Entering) → Admits own ≡ false
          → b.definitions.found.items ≡ a.definitions.found.items → b.qualifiers ≡ a.qualifiers → b.told ≡ a.told ++ double (out-Tree kid).label_span label ∷ [] → Turn b
      second_turn b second found qualifiers told =
          turn b
          (refused_turn b (double (out-Tree kid).label_span label) (and_from _ _ at.owned (or_right _ _ (second_is false second)))
          (ap (λ w. if w then misplaced (out-Tree kid).label_span ∷ []
          else (if is_second roots file this around then double (out-Tree kid).label_span label ∷ [] else [])) rightly
          ∙ ap (λ w. if w then double (out-Tree kid).label_span label ∷ [] else []) (second_is false second))
          found qualifiers told)
          (subst (λ f. Knows f owner around (Earlier ++ before ++ kid ∷ [])) (sym found)
          (Knows-second _ owner around (Earlier ++ before) kid knows (at_symbol false second)))

      -- ---- a definition, and what stands in it

      pub defined_turn : (b c : Entering) → Admits own ≡ true
          → b.definitions.found.items ≡ a.definitions.found.items ++ next_found a.definitions.found.items owner own label (standing_of file parts kid) ∷ []
          → b.qualifiers ≡ a.qualifiers → b.told ≡ a.told → IsOwner a.definitions.found.items owner → AreNext b.definitions.found.items
          → EntersKids file name (Some (length a.definitions.found.items)) (out-Tree kid).kind kid b c → Turn c
      defined_turn b c first found qualifiers told owned nexts entered =
          let last : Found = next_found a.definitions.found.items owner own label (standing_of file parts kid) in
          let number : ℕ = length a.definitions.found.items in
          let second : is_second roots file this around ≡ false = second_is true first in
          let kept : is_refused roots file this around ≡ false = and_right _ _ (or_from _ _ rightly second) in
          let live : are_live roots file (this ∷ around) ≡ true = and_from _ _ (not_from_false _ kept) at.live in
          let known : defines_at kid around ≡ true = symbol_known defining in
          let step : own_step a.definitions.found.items owner own label ≡ step_at roots file this around =
          ap (λ s. own_step a.definitions.found.items owner s label) (sym (at.symbols kid))
          ∙ step-known roots file owner around a.definitions.found.items kid before knows known (at_symbol true first) in
          let decl : last.decl ≡ decl_of (definition_at roots site) = λ i. record {
            path = record { steps = at.path i ++ step i ∷ [] };
            file = file;
            node = (out-Tree kid).id;
            label_span = (out-Tree kid).label_span;
            flags = flags_in (is_prelude file) (sym at.detail i) (out-Tree kid).detail;
          } in
          let one : Enters roots name owner a b (site ∷ []) =
          Enters-one roots name owner a b site last
          (and_from _ _ (and_from _ _ known at.owned) live) live
          (told_at (ap (λ w. if w then misplaced (out-Tree kid).label_span ∷ []
          else (if is_second roots file this around then double (out-Tree kid).label_span label ∷ [] else [])) rightly
          ∙ ap (λ w. if w then double (out-Tree kid).label_span label ∷ [] else []) second))
          (ap (map (λ clause. item.Qualifier name clause.span.start)) (no_clauses name outer (out-Tree kid).kind (out-Tree kid).detail defining))
          found qualifiers told refl decl in
          let inside : IsAt roots file (Some number) (out-Tree kid).kind (out-Tree kid).detail (this ∷ around) b.definitions.found.items =
          subst (λ f. IsAt roots file (Some number) (out-Tree kid).kind (out-Tree kid).detail (this ∷ around) f) (sym found)
          (IsAt-kid roots file owner outer parts next others a.definitions.found.items kid before
          (own_step a.definitions.found.items owner own label) last at known kept step refl) in
          let nothing : Knows b.definitions.found.items (Some number) (this ∷ around) [] =
          Knows-nothing b.definitions.found.items number (this ∷ around)
          (unowned b.definitions.found.items nexts number (omega (arith, ap length found, length_push a.definitions.found.items last))) in
          let rest : Enters roots name (Some number) b c (kid_sites_of file this around) = (entered roots before around inside nothing).0 in
          let deeper : Enters roots name (Some number) b c below =
          subst (λ sites. Enters roots name (Some number) b c (drop 1 sites)) (sites_from-out file kid before around) rest in
          let above : All (λ d. IsSomeAnd d.owner (λ n. number ≤ n)) deeper.more =
          All-weaker (IsOfOwner (Some number) (length b.definitions.found.items)) (λ d. IsSomeAnd d.owner (λ n. number ≤ n))
          (new_above number (length b.definitions.found.items) (omega (arith, ap length found, length_push a.definitions.found.items last)))
          deeper.more deeper.owners in
          let more : Knows (a.definitions.found.items ++ last ∷ []) owner around (Earlier ++ before ++ kid ∷ []) =
          Knows-defined a.definitions.found.items owner around (Earlier ++ before) kid knows last known refl
          (own_step a.definitions.found.items owner own label) (last_step-push (owner_steps a.definitions.found.items owner) _) (sym (at.symbols kid)) refl
          (at_symbol true first) in
          turn c
          (Enters-through roots name owner a b c site below one deeper)
          (subst (λ f. Knows f owner around (Earlier ++ before ++ kid ∷ [])) (sym (deeper.found ∙ ap (λ f. f ++ deeper.more) found))
          (Knows-kept (a.definitions.found.items ++ last ∷ []) deeper.more owner around (Earlier ++ before ++ kid ∷ []) number owned above more))
