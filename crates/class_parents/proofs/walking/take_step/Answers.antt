use Rattle.item_answers.specs.Asking.{answer}
use Rattle.class_parents.specs.Parents.{followed}
use Rattle.class_parents.proofs.Visits.{leaves-new, enters-as}
use Rattle.class_parents.proofs.walking.take_step.Goals as goal

pub returns-in-Leave : goal.returns-in-Leave
returns-in-Leave g c =
    leaves-new (λ k. answer (g.I.Infos.known c.args.infos.now) (followed k)) c.in-Leave.class c.args.todo.now c.args.found.now.keys c.args.step c.leave.result c.leave.new.found.keys
    c.in-Leave.is c.leave.ensures.new c.leave.ensures.added c.leave.ensures.err

pub returns-in-Enter : goal.returns-in-Enter
returns-in-Enter g c =
    enters-as (λ k. answer (g.I.Infos.known c.args.infos.now) (followed k)) c.in-Enter.class c.args.todo.now c.args.found.now.keys c.args.step c.enter.result c.enter.new.todo c.enter.new.found.keys
    c.in-Enter.is c.enter.ensures
