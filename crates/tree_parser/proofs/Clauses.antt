-- Package clauses, one after another.
use Rattle.std.proofs.Common.{◌≡◌, ℕ, suc, List, Option, Some, None, ap}
use Rattle.source_grammar.specs.Lexemes.{Lexeme}
use Rattle.parse_parts.specs.Built.{joined}
use Rattle.parse_parts.specs.declared.built.Kids.{Kids}
use Rattle.tree_parser.specs.Packaged.{clause_at, clause_or, clause_tree, behind_clause, packages_by}
use Rattle.tree_parser.specs.declared.packages.Clause.{Clause}
use Rattle.tree_parser.specs.declared.packages.Packages.{Packages}

abbrev behind_it : ℕ → List Lexeme → Option Kids → Clause → Packages
behind_it n all kids clause = packages_by n all (behind_clause all clause) (joined kids (clause_tree clause))

pub none_more : (n : ℕ) (all : List Lexeme) (at : ℕ) (kids : Option Kids) → clause_at all at ≡ None
    → packages_by (suc n) all at kids ≡ record { kids = kids; behind = at }
none_more n all at kids e = ap (λ o. clause_or o (record { kids = kids; behind = at }) (behind_it n all kids)) e

pub one_more : (n : ℕ) (all : List Lexeme) (at : ℕ) (kids : Option Kids) (clause : Clause) → clause_at all at ≡ Some clause
    → packages_by (suc n) all at kids ≡ packages_by n all (behind_clause all clause) (joined kids (clause_tree clause))
one_more n all at kids clause e = ap (λ o. clause_or o (record { kids = kids; behind = at }) (behind_it n all kids)) e
