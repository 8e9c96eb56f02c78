-- The clause that names the last of some names.
use Rattle.std.proofs.Common.{◌≡◌, List, [], ◌∷◌, ◌++◌, refl, ap, sym, ◌∙◌, append-nil, append_assoc}
use Rattle.positioned_trees.specs.declared.details.Name.{Name}
use Rattle.positioned_trees.specs.declared.details.Selector.TheVariants as selector
use Rattle.import_steps.specs.Imports.{clause_of, named_clause}

pub named_last : (before names : List Name) (last : Name)
    → named_clause before (names ++ last ∷ [])
    ≡ clause_of (before ++ names) (selector.Named last ∷ []) last.span.end ∷ []
named_last before [] last =
    ap (λ qualifier. clause_of qualifier (selector.Named last ∷ []) last.span.end ∷ []) (sym (append-nil before))
named_last before (n ∷ []) last = refl
named_last before (n ∷ next ∷ names) last =
    named_last (before ++ n ∷ []) (next ∷ names) last
    ∙ ap (λ qualifier. clause_of qualifier (selector.Named last ∷ []) last.span.end ∷ [])
    (append_assoc before (n ∷ []) (next ∷ names))

-- the same where nothing stands before the names
pub named_alone : (names : List Name) (last : Name)
    → named_clause [] (names ++ last ∷ []) ≡ clause_of names (selector.Named last ∷ []) last.span.end ∷ []
named_alone names last = named_last [] names last
