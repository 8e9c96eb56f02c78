use Rattle.std.proofs.Common.{◌+◌, ◌*◌, ◌≤◌, length}
use Rattle.positioned_trees.specs.Trees.{height}
use Rattle.symbol_table.specs.Found.{IsKept}
use Rattle.symbol_table.proofs.Kids.{EntersFirst}
use Rattle.symbol_table.proofs.walking.Entering.+entering_trees.Given as goal

abbrev pub decreases-enter_kids : goal.decreases-enter_kids
decreases-enter_kids l = 2 * height l.tree.now

abbrev pub decreases-enter_kid : goal.decreases-enter_kid
decreases-enter_kid l = 2 * height l.kid.now + 1

-- the kids so far are entered
abbrev pub invariant-enter_kids-loop-kid : goal.invariant-enter_kids-loop-kid
invariant-enter_kids-loop-kid l = record {
  kept : IsKept l.self.definitions;
  grows : length l.initial.self.definitions.found.items ≤ length l.self.definitions.found.items;
  first : EntersFirst l.source.file l.source.name.now l.owner l.kind l.tree l.kid-index l.initial.self l.self;
}
