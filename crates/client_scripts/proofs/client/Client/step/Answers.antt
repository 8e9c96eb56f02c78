use Rattle.client_scripts.proofs.Steps.{order_here, line_posts, number_fits, step_posted, step_stopped, step_idle, step_closed, step_cancelled, step_waited, step_no_cancel, step_no_wait}
use Rattle.client_scripts.proofs.client.Client.step.Goals as goal

pub call-requires-clause-names : goal.call-requires-clause-names
call-requires-clause-names g c = (line_posts _ _ c.index-lines-at.result c.requires.there c.index-lines-at.is c.requires.may c.in-Call.call (order_here c.args.lines.now c.args.at c.index-lines-at.result c.index-lines-at.is c.in-Call.is)).0

pub call-requires-clause-few : goal.call-requires-clause-few
call-requires-clause-few g c = (line_posts _ _ c.index-lines-at.result c.requires.there c.index-lines-at.is c.requires.may c.in-Call.call (order_here c.args.lines.now c.args.at c.index-lines-at.result c.index-lines-at.is c.in-Call.is)).1

pub call-requires-clause-fits : goal.call-requires-clause-fits
call-requires-clause-fits g c = number_fits _ _ c.index-lines-at.result c.requires.there c.index-lines-at.is g.P.ClientPass.number_of _ _ c.requires.playing c.requires.short

pub returns-in-Call-clause-ok : goal.returns-in-Call-clause-ok
returns-in-Call-clause-ok g c = step_posted _ _ c.index-lines-at.result c.requires.there c.index-lines-at.is g.P.ClientPass.number_of _ _ c.requires.playing _ _ c.in-Call.call _ (order_here c.args.lines.now c.args.at c.index-lines-at.result c.index-lines-at.is c.in-Call.is) c.call.ensures.ok

pub returns-in-Call-clause-err : goal.returns-in-Call-clause-err
returns-in-Call-clause-err g c = step_stopped _ _ c.index-lines-at.result c.requires.there c.index-lines-at.is g.P.ClientPass.number_of _ _ c.requires.playing _ _ c.call.ensures.err

pub returns-in-Some-clause-ok : goal.returns-in-Some-clause-ok
returns-in-Some-clause-ok g c = step_cancelled _ _ c.index-lines-at.result c.requires.there c.index-lines-at.is g.P.ClientPass.number_of _ _ c.requires.playing _ c.in-Some.index c.in-Cancel.number (order_here c.args.lines.now c.args.at c.index-lines-at.result c.index-lines-at.is c.in-Cancel.is) c.in-Some.ensures.some.0 c.cancel.ensures

pub returns-in-None-clause-ok : goal.returns-in-None-clause-ok
returns-in-None-clause-ok g c = step_no_cancel _ _ c.index-lines-at.result c.requires.there c.index-lines-at.is g.P.ClientPass.number_of _ _ c.requires.playing c.in-Cancel.number c.requires.meant (order_here c.args.lines.now c.args.at c.index-lines-at.result c.index-lines-at.is c.in-Cancel.is) c.in-None.ensures.none

pub returns-in-Some-index_of-clause-ok : goal.returns-in-Some-index_of-clause-ok
returns-in-Some-index_of-clause-ok g c =
    step_waited _ _ c.index-lines-at.result c.requires.there c.index-lines-at.is g.P.ClientPass.number_of _ _ c.requires.playing _ _ c.in-Some-index_of.index c.in-Wait.number (order_here c.args.lines.now c.args.at c.index-lines-at.result c.index-lines-at.is c.in-Wait.is) c.in-Some-index_of.ensures.some.0
    c.receive.ensures.received c.receive.ensures.holding c.receive.ensures.next

pub returns-in-None-index_of-clause-ok : goal.returns-in-None-index_of-clause-ok
returns-in-None-index_of-clause-ok g c = step_no_wait _ _ c.index-lines-at.result c.requires.there c.index-lines-at.is g.P.ClientPass.number_of _ _ c.requires.playing c.in-Wait.number c.requires.meant (order_here c.args.lines.now c.args.at c.index-lines-at.result c.index-lines-at.is c.in-Wait.is) c.in-None-index_of.ensures.none

pub returns-in-Close-clause-ok : goal.returns-in-Close-clause-ok
returns-in-Close-clause-ok g c = step_closed _ _ c.index-lines-at.result c.requires.there c.index-lines-at.is g.P.ClientPass.number_of _ _ c.requires.playing _ (order_here c.args.lines.now c.args.at c.index-lines-at.result c.index-lines-at.is c.in-Close.is) c.close.ensures

pub returns-in-Idle-clause-ok : goal.returns-in-Idle-clause-ok
returns-in-Idle-clause-ok g c = step_idle _ _ c.index-lines-at.result c.requires.there c.index-lines-at.is g.P.ClientPass.number_of _ _ c.requires.playing (order_here c.args.lines.now c.args.at c.index-lines-at.result c.index-lines-at.is c.in-Idle.is)
