use Rattle.std.proofs.Common.{◌≡◌, ◌++◌, if◌then◌else◌, drop}
use Rattle.tree_parser.specs.Packaged.{path_text, dotted}
use Rattle.tree_parser.proofs.packages.path_text.Given as goal

abbrev pub invariant-loop-name : goal.invariant-loop-name
invariant-loop-name l =
    l.text ++ (if l.is_first then path_text (drop l.name-index l.name-items) else dotted (drop l.name-index l.name-items)) ≡ path_text l.name-items
