-- Definitions as found, by the steps of their paths.
use Rattle.std.proofs.Common.{◌≡◌, ℕ, List, [], ◌∷◌, ◌++◌, map, take, drop, get_or, Option, Some, Decides, refl, sym, ap, subst, ◌∙◌}
use Rattle.std.specs.List.{All}
use Rattle.std.specs.Option.{unwrap_or}
use Rattle.std.proofs.Math.Seq.{take-append_seam}
use Rattle.std.proofs.lemmas.Bool.{eq-eqb, eqb-true}
use Rattle.std.proofs.lemmas.Bool.Decides.{same_from_decides}
use Rattle.std.proofs.lemmas.List.{map-append, take-append-drop}
use Rattle.pc_terms.specs.Show.{last_step}
use Rattle.pc_terms.specs.declared.symbols.SymStep.{SymStep}
use Rattle.type_substitution.proofs.Exact.{path-exact}
use Rattle.symbol_table.specs.declared.definitions.Found.{Found}
use Rattle.symbol_table.specs.Definitions.{Definition, path_to, decl_of}
use Rattle.symbol_table.specs.Entering.{decls_of}
use Rattle.symbol_table.specs.Found.{IsOwner, AreNext, ArePathsApart, owner_steps, owner_rank, is_owned, kind_in, kind_of, own_step}
use Rattle.symbol_table.specs.Owners.{path_of, is_same_path}
use Rattle.symbol_table.specs.Sources.{no_step, front, definition_in, definitions_in}
use Rattle.symbol_table.proofs.Indexed.{owner_from_rank}
use Rattle.symbol_table.proofs.Kids.{owner_steps-more}
use Rattle.symbol_table.proofs.PathsApart.{earlier_owner}
use Rattle.symbol_table.proofs.Places.{last_at, last_step-push}

-- ---- a path, and its parts

pub front-push : (steps : List SymStep) (own : SymStep) → front (steps ++ own ∷ []) ≡ steps
front-push steps own = ap (λ n. take n (steps ++ own ∷ [])) (last_at steps own) ∙ take-append_seam steps (own ∷ [])

pub own-push : (steps : List SymStep) (own : SymStep) → unwrap_or (last_step (steps ++ own ∷ [])) no_step ≡ own
own-push steps own = ap (λ o. unwrap_or o no_step) (last_step-push steps own)

pub definition-of : (d : Definition) → definition_in (decl_of d) ≡ d
definition-of d = λ i. record {
  owner = front-push d.owner d.own i;
  own = own-push d.owner d.own i;
  file = d.file;
  node = d.node;
  label_span = d.label_span;
  flags = d.flags;
}

definitions-of : (ds : List Definition) → map definition_in (map decl_of ds) ≡ ds
definitions-of [] = refl
definitions-of (d ∷ ds) = λ i. definition-of d i ∷ definitions-of ds i

definitions_in-decls : (found : List Found) → definitions_in found ≡ map definition_in (decls_of found)
definitions_in-decls [] = refl
definitions_in-decls (d ∷ found) = ap (λ ds. definition_in d.decl ∷ ds) (definitions_in-decls found)

-- these are found as these definitions
pub found-as : (more : List Found) (ds : List Definition) → decls_of more ≡ map decl_of ds → definitions_in more ≡ ds
found-as more ds same = definitions_in-decls more ∙ ap (map definition_in) same ∙ definitions-of ds

pub definitions_in-append : (found more : List Found) → definitions_in (found ++ more) ≡ definitions_in found ++ definitions_in more
definitions_in-append found more = map-append (λ d. definition_in d.decl) found more

-- ---- by number

-- a definition among these: its path is that of its owner and its own step
pub record IsAmong (found : List Found) (d : Found) : Type 0 where
  pub own : SymStep
  pub owned : IsOwner found d.owner
  pub steps : d.decl.path.steps ≡ owner_steps found d.owner ++ own ∷ []

pub among : (found : List Found) → AreNext found → All (IsAmong found) found
among found nexts at d h =
    let next = nexts.each at d h in
    let owner : (get_or found at d).owner ≡ next.owner = ap (λ f. f.owner) next.is in
    let above : owner_steps found next.owner ≡ owner_steps (take at found) next.owner =
    ap (λ f. owner_steps f next.owner) (sym (take-append-drop at found)) ∙ owner_steps-more (take at found) (drop at found) next.owner next.owned in record {
      own = own_step (take at found) next.owner next.kind next.name;
      owned = subst (IsOwner found) (sym owner) (earlier_owner found at next.owner next.owned);
      steps = ap (λ f. f.decl.path.steps) next.is ∙ ap (λ s. s ++ own_step (take at found) next.owner next.kind next.name ∷ []) (sym above ∙ ap (owner_steps found) (sym owner));
    }

module _ (found : List Found) (d : Found) (is : IsAmong found d) where
  pub owner-among : (definition_in d.decl).owner ≡ owner_steps found d.owner
  owner-among = ap front is.steps ∙ front-push (owner_steps found d.owner) is.own

  pub own-among : (definition_in d.decl).own ≡ is.own
  own-among = ap (λ s. unwrap_or (last_step s) no_step) is.steps ∙ own-push (owner_steps found d.owner) is.own

  pub last-among : last_step d.decl.path.steps ≡ Some (definition_in d.decl).own
  last-among = ap last_step is.steps ∙ last_step-push (owner_steps found d.owner) is.own ∙ ap Some (sym own-among)

  pub kind-among : kind_of d ≡ (definition_in d.decl).own.kind
  kind-among = ap kind_in last-among

  pub path-among : path_to (definition_in d.decl) ≡ d.decl.path
  path-among = λ i. record { steps = ((λ j. owner-among j ++ own-among j ∷ []) ∙ sym is.steps) i }

  pub decl-among : decl_of (definition_in d.decl) ≡ d.decl
  decl-among = λ i. record { path = path-among i; file = d.decl.file; node = d.decl.node; label_span = d.decl.label_span; flags = d.decl.flags }

  module _ (apart : ArePathsApart found) (owner : Option ℕ) (owned : IsOwner found owner) where
    owned_decides : Decides (is_owned owner d) (d.owner ≡ owner)
    owned_decides = (λ h. owner_from_rank d.owner owner (eqb-true _ _ h), λ e. eq-eqb _ _ (ap owner_rank e))

    below_decides : Decides (is_same_path (definition_in d.decl).owner (owner_steps found owner)) (d.owner ≡ owner)
    below_decides =
        let exact = path-exact (path_of (definition_in d.decl).owner) (path_of (owner_steps found owner)) in (
          λ h. apart.each d.owner owner is.owned owned (sym owner-among ∙ ap (λ p. p.steps) (exact.0 h)),
          λ e. exact.1 (λ i. record { steps = (owner-among ∙ ap (owner_steps found) e) i }),
        )

    -- it has this owner by number where it has it by path
    pub owned-below : is_owned owner d ≡ is_same_path (definition_in d.decl).owner (owner_steps found owner)
    owned-below = same_from_decides _ _ owned_decides below_decides
