use Rattle.std.proofs.Common.{List, sym, subst, refl}
use Rattle.ask_history.specs.declared.script.Line.{Line}
use Rattle.client_scripts.specs.Runs.{Runs, HasEnded, AreAnswers}
use Rattle.client_scripts.proofs.Finished.{begins, at_end, end_named, end_runs, end_ended, end_answers}
use Rattle.client_scripts.proofs.client.play.Goals as goal

pub loop-at-init : goal.loop-at-init
loop-at-init g c = begins g.P.ClientPass.number_of _ _ _ c.requires.legal c.requires.fresh c.new.ensures.items refl

pub returns-in-Ok-clause-named : goal.returns-in-Ok-clause-named
returns-in-Ok-clause-named g c =
    end_named g.P.ClientPass.number_of _ _ (g.P.ClientPass.state c.loop-at.pass) (g.P.ClientPass.state c.receive_all.new.pass) _ c.receive_all.new.self.held.items (at_end g.P.ClientPass.number_of _ _ _ _ _ c.loop-at.invariant c.loop-at-test.false) c.receive_all.ensures.rests

pub returns-in-Ok-clause-runs : goal.returns-in-Ok-clause-runs
returns-in-Ok-clause-runs g c =
    subst (λ (lines : List Line). Runs (g.P.ClientPass.state c.args.pass.now).number lines (g.P.ClientPass.state c.receive_all.new.pass).history) c.as_slice-lines.ensures
    (end_runs g.P.ClientPass.number_of _ _ (g.P.ClientPass.state c.loop-at.pass) (g.P.ClientPass.state c.receive_all.new.pass) _ c.receive_all.new.self.held.items (at_end g.P.ClientPass.number_of _ _ _ _ _ c.loop-at.invariant c.loop-at-test.false) c.receive_all.ensures.rests)

pub returns-in-Ok-clause-ended : goal.returns-in-Ok-clause-ended
returns-in-Ok-clause-ended g c =
    subst (λ (lines : List Line). HasEnded (g.P.ClientPass.state c.args.pass.now).number lines (g.P.ClientPass.state c.receive_all.new.pass).history) c.as_slice-lines.ensures
    (end_ended g.P.ClientPass.number_of _ _ (g.P.ClientPass.state c.loop-at.pass) (g.P.ClientPass.state c.receive_all.new.pass) _ c.receive_all.new.self.held.items (at_end g.P.ClientPass.number_of _ _ _ _ _ c.loop-at.invariant c.loop-at-test.false) c.receive_all.ensures.rests
    c.receive_all.ensures.holding c.receive_all.ensures.had)

pub returns-in-Ok-clause-answers : goal.returns-in-Ok-clause-answers
returns-in-Ok-clause-answers g c =
    subst (AreAnswers (g.P.ClientPass.state c.args.pass.now).number (g.P.ClientPass.state c.receive_all.new.pass).history) (sym c.in-Ok.ensures)
    (end_answers g.P.ClientPass.number_of _ _ (g.P.ClientPass.state c.loop-at.pass) (g.P.ClientPass.state c.receive_all.new.pass) _ c.receive_all.new.self.held.items (at_end g.P.ClientPass.number_of _ _ _ _ _ c.loop-at.invariant c.loop-at-test.false) c.receive_all.ensures.rests
    c.receive_all.ensures.holding c.receive_all.ensures.had)

pub returns-in-Err-clause-named : goal.returns-in-Err-clause-named
returns-in-Err-clause-named g c =
    end_named g.P.ClientPass.number_of _ _ (g.P.ClientPass.state c.loop-at.pass) (g.P.ClientPass.state c.receive_all.new.pass) _ c.receive_all.new.self.held.items (at_end g.P.ClientPass.number_of _ _ _ _ _ c.loop-at.invariant c.loop-at-test.false) c.receive_all.ensures.rests

pub returns-in-Err-clause-runs : goal.returns-in-Err-clause-runs
returns-in-Err-clause-runs g c =
    subst (λ (lines : List Line). Runs (g.P.ClientPass.state c.args.pass.now).number lines (g.P.ClientPass.state c.receive_all.new.pass).history) c.as_slice-lines.ensures
    (end_runs g.P.ClientPass.number_of _ _ (g.P.ClientPass.state c.loop-at.pass) (g.P.ClientPass.state c.receive_all.new.pass) _ c.receive_all.new.self.held.items (at_end g.P.ClientPass.number_of _ _ _ _ _ c.loop-at.invariant c.loop-at-test.false) c.receive_all.ensures.rests)
