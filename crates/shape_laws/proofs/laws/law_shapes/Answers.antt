use Rattle.std.proofs.Common.{None, refl}
use Rattle.parse_exprs.specs.Items.{shape_of}
use Rattle.parse_exprs.specs.Lists.{ends_statement, of_items}
use Rattle.parse_exprs.specs.Statements.{statements}
use Rattle.shape_laws.proofs.Alike.{readings-alike, wholes-alike}
use Rattle.shape_laws.proofs.Statements.{bare_statement, blind, ends-same}
use Rattle.shape_laws.proofs.laws.law_shapes.Goals as goal

pub returns-clause-runs : goal.returns-clause-runs
returns-clause-runs c is s = wholes-alike statements bare_statement shape_of blind is s

pub returns-clause-best : goal.returns-clause-best
returns-clause-best c is = (readings-alike statements bare_statement shape_of blind (ends_statement of_items) ends-same is 0 None statements.start statements.start refl).best

pub returns-clause-reached : goal.returns-clause-reached
returns-clause-reached c is = (readings-alike statements bare_statement shape_of blind (ends_statement of_items) ends-same is 0 None statements.start statements.start refl).reached
