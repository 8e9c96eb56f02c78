-- What is kept of the definitions so far, as one is added.
use Rattle.std.proofs.Common.{◌≡◌, ℕ, if◌then◌else◌, List, [], ◌∷◌, ◌++◌, length, Option, Some, None, refl, sym, ap, subst, ◌∙◌}
use Rattle.std.proofs.lemmas.Option.{cond_some}
use Rattle.pc_terms.specs.declared.symbols.SymKind.{SymKind}
use Rattle.symbol_table.specs.declared.definitions.Definitions.{Definitions}
use Rattle.symbol_table.specs.declared.definitions.Found.{Found}
use Rattle.symbol_table.specs.declared.definitions.Standing.{Standing}
use Rattle.symbol_table.specs.Found.{IsOwner, AreNext, ArePathsApart, IsKept, IsNext, found_as, next_found, is_admitted, kinds_named, all_named, seen_under}
use Rattle.symbol_table.specs.Names.{seen, ordinal_for, Adds}
use Rattle.symbol_table.specs.Owners.{ordinal_after}
use Rattle.symbol_table.specs.Symbols.{space_of}
use Rattle.symbol_table.proofs.Following.{AreNext-push}
use Rattle.symbol_table.proofs.Indexed.{this_name, indexed-push}
use Rattle.symbol_table.proofs.PathsApart.{ArePathsApart-push}
use Rattle.symbol_table.proofs.Places.{as_step}
use Rattle.symbol_table.proofs.Seeing.{ordinal-seen}

module _ (old : Definitions) (owner : Option ℕ) (kind : SymKind) (name : List ℕ) (kept : IsKept old) where
  abbrev before : List Found
  before = old.found.items

  -- the names know the ordinal of a further definition
  pub ordinal-kept : ordinal_for (seen old.names (this_name owner kind name)) kind
      ≡ (if is_admitted before owner kind name then Some (ordinal_after (kinds_named before owner kind name) kind) else None)
  ordinal-kept = ap (λ s. ordinal_for s kind) (kept.indexed (this_name owner kind name)) ∙ ordinal-seen (all_named before owner (space_of kind) name) kind

  module _ (new : Definitions) (adds : Adds old.names new.names (this_name owner kind name) kind (length before)) where
    pub Kept-push : (standing : Standing) (ordinal : ℕ) → IsOwner before owner → ordinal_for (seen old.names (this_name owner kind name)) kind ≡ Some ordinal
        → new.found.items ≡ before ++ found_as before (length before) owner (as_step kind name ordinal) standing ∷ [] → IsKept new
    Kept-push standing ordinal owned known found =
        let parts = cond_some (is_admitted before owner kind name) _ ordinal (sym ordinal-kept ∙ known) in
        let last : Found = next_found before owner kind name standing in
        let all : new.found.items ≡ before ++ last ∷ [] =
        found ∙ ap (λ n. before ++ found_as before (length before) owner (as_step kind name n) standing ∷ []) (sym parts.1) in
        let next : IsNext before last = record { owner = owner; kind = kind; name = name; standing = standing; owned = owned; admitted = parts.0; is = refl } in record {
          next = subst AreNext (sym all) (AreNext-push before last kept.next next);
          apart = subst ArePathsApart (sym all) (ArePathsApart-push before owner kind name standing owned parts.0 kept.next kept.apart);
          indexed = λ n. indexed-push before owner kind name standing old.names new.names kept.indexed adds parts.0 n
              ∙ ap (λ ds. seen_under ds n.owner n.space n.name) (sym all);
        }
