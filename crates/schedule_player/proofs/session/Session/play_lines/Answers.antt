use Rattle.std.proofs.Common.{◌≡◌, ◌∷◌, ◌++◌, length, All, Option, Some, List, refl, sym, ap, ◌∙◌, subst}
use Rattle.std.proofs.lemmas.List.Elements.{All-tail}
use Rattle.std.specs.Option.{option_to_list}
use Rattle.ask_history.specs.Nested.{nested}
use Rattle.schedule_player.specs.Owed.{CanPlay, CanPlayAll}
use Rattle.schedule_player.specs.Around.{LeadsTo}
use Rattle.schedule_player.proofs.Tellings.{told_then}
use Rattle.schedule_player.proofs.session.Session.play_lines.Goals as goal

pub loop-line-preserved : goal.loop-line-preserved
loop-line-preserved g c =
    let first : c.loop-line.left.items ≡ c.in-Some.line ∷ c.pop_front.new.self.items = c.pop_front.ensures.items ∙ ap (λ o. option_to_list o ++ c.pop_front.new.self.items) c.in-Some.is in
    record {
      in_step = c.play_line.ensures.in_step;
      checks = c.in_ok-play_line.ensures.checks;
      can = All-tail (λ line. CanPlay line.order) c.in-Some.line c.pop_front.new.self.items (subst CanPlayAll first c.loop-line.invariant.can);
      leads = subst (λ n. LeadsTo c.args.lines c.play_line.new.self.outers (nested n c.pop_front.new.self.items) c.play_line.new.self.journal) (sym c.in_ok-play_line.ensures.plays.number)
          (c.in_ok-play_line.ensures.plays.leads c.args.lines _ (subst (λ ls. LeadsTo c.args.lines c.loop-line.self.outers (nested (length c.loop-line.self.tickets) ls) c.loop-line.self.journal) first c.loop-line.invariant.leads));
      told = told_then c.loop-line.invariant.told c.play_line.ensures.told;
    }

pub returns-in_err-play_line-clause-told : goal.returns-in_err-play_line-clause-told
returns-in_err-play_line-clause-told g c = told_then c.loop-line.invariant.told c.play_line.ensures.told

pub returns-in_err-finish_to-clause-told : goal.returns-in_err-finish_to-clause-told
returns-in_err-finish_to-clause-told g c = told_then c.loop-line.invariant.told c.finish_to.ensures.told

pub returns-clause-told : goal.returns-clause-told
returns-clause-told g c = told_then c.loop-line.invariant.told c.finish_to.ensures.told
