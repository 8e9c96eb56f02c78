-- What is wrong with definitions by themselves: those that stand where none may, and second ones.
use Rattle.std.specs.Prelude.{ℕ, Bool, not, ◌&&◌, ◌==◌, if◌then◌else◌, List, [], ◌∷◌, ◌++◌, codes, filter}
use Rattle.std.specs.List.{flat_map}
use Rattle.pc_terms.specs.Bytes.{Bytes}
use Rattle.pc_terms.specs.declared.problems.Code.{Code}
use Rattle.pc_terms.specs.declared.problems.Code.TheVariants.{P6, N6}
use Rattle.pc_terms.specs.declared.problems.Problem.{Problem}
use Rattle.pc_terms.specs.declared.problems.Span.{Span}
use Rattle.positioned_trees.specs.declared.trees.Tree.{Tree}
use Rattle.positioned_trees.specs.declared.trees.Tree.TheViews.{out-Tree}
use Rattle.symbol_table.specs.Definitions.{Definition, apply_name, adds_apply, admits_apply, written, with_companions}
use Rattle.symbol_table.specs.Owners.{has_owner, are_live, is_misplaced, is_second}
use Rattle.symbol_table.specs.Sites.{Kid, Site, all_sites}

abbrev pub problem_at : Code → Span → Bytes → Problem
problem_at code span text = record { code = code; span = span; text = text }

abbrev pub misplaced : Span → Problem
misplaced span = problem_at P6 span (codes "definition not allowed here")

abbrev pub double : Span → Bytes → Problem
double span name = problem_at N6 span (codes "double definition: " ++ name)

-- each tree around a place defines a symbol, and none is refused
abbrev pub may_define : List Tree → ℕ → List Kid → Bool
may_define roots file around = has_owner around && are_live roots file around

-- at the label of what is refused; what stands in it has no problem of its own
abbrev pub problems_of_tree : List Tree → Site → List Problem
problems_of_tree roots site =
    if is_misplaced site.kid.tree site.around then misplaced (out-Tree site.kid.tree).label_span ∷ []
    else (if is_second roots site.file site.kid site.around
    then double (out-Tree site.kid.tree).label_span (out-Tree site.kid.tree).label ∷ [] else [])

abbrev pub site_problems : List Tree → Site → List Problem
site_problems roots site = if may_define roots site.file site.around then problems_of_tree roots site else []

-- the `apply` that a case class adds has the label of the class
abbrev pub apply_problems : List Definition → Definition → List Problem
apply_problems all class =
    if adds_apply all class && not (admits_apply all class) then double class.label_span apply_name ∷ [] else []

-- What is wrong with the definitions of one source: at the labels of its trees in their order, then at those of case classes.
abbrev pub problems : List Tree → ℕ → List Problem
problems roots file =
    flat_map (site_problems roots) (filter (λ site. site.file == file) (all_sites roots))
    ++ flat_map (apply_problems (with_companions roots)) (filter (λ d. d.file == file) (written roots))
