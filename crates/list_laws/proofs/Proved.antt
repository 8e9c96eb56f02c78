-- What the laws of one statement and of shapes say of the list of a block.
use Rattle.std.proofs.Common.{◌≡◌, List, [], ◌∷◌, Option, Some, None, refl, ◌∙◌}
use Rattle.reading_machines.specs.Machines.{run, onward}
use Rattle.source_grammar.specs.Statements.{longest}
use Rattle.parse_exprs.specs.Items.{shape_of}
use Rattle.parse_exprs.specs.Lists.{ends_statement, of_items}
use Rattle.parse_exprs.specs.declared.statements.Statement.{Statement}
use Rattle.parse_exprs.specs.declared.statements.Statement.TheVariants as statement
use Rattle.parse_exprs.specs.Statements.{stepped, statements}
use Rattle.expr_laws.specs.Exactly.{picture}
use Rattle.expr_laws.proofs.Exactness.{empty-longest}
use Rattle.shape_laws.proofs.Alike.{readings-alike}
use Rattle.shape_laws.proofs.Statements.{bare_statement, blind, ends-same}
use Rattle.statement_laws.specs.Statements.{ReadStatementItem, statement_pictures}
use Rattle.statement_laws.proofs.Exact.{reads-statements, tree}
use Rattle.statement_laws.proofs.FirstItem.{steps_by}
use Rattle.statement_laws.proofs.Lines.{plain}
use Rattle.statement_laws.proofs.Longest.{best-statement}
use Rattle.list_laws.proofs.Blocks.{Laws}

-- a run on items is one on their pictures
on-pictures : (is : List (ReadStatementItem longest)) (s : Statement) → run stepped (statement_pictures longest is) s ≡ run (steps_by longest stepped) is s
on-pictures [] s = refl
on-pictures (i ∷ is) s = go (stepped s (picture i.item.given)) (λ t. on-pictures is t) where
  go : (o : Option Statement) → ((t : Statement) → run stepped (statement_pictures longest is) t ≡ run (steps_by longest stepped) is t)
      → onward o None (run stepped (statement_pictures longest is)) ≡ onward o None (run (steps_by longest stepped) is)
  go None on = refl
  go (Some t) on = on t

pub given_laws : Laws longest
given_laws = record {
  runs = λ is t e. on-pictures is statement.Begin ∙ (plain longest is t e).runs;
  tree = λ is a t few e. tree longest empty-longest is a t few e;
  exact = reads-statements longest empty-longest;
  best = best-statement longest empty-longest;
  alike = λ is. (readings-alike statements bare_statement shape_of blind (ends_statement of_items) ends-same is 0 None statements.start statements.start refl).best;
}
