use Rattle.std.proofs.Common.{rules}
use Rattle.std.proofs.lemmas.Fn.{filter_same}
use Rattle.engine_driver.proofs.driver.Driver.take_off.Goals as goal

pub returns-clause-opened : goal.returns-clause-opened
returns-clause-opened c = filter_same _ _ _ (λ x b f' k. search rules) _ _ c.retain.ensures.filtered
