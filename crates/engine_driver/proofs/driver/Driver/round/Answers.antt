use Rattle.std.proofs.Common.{inl, inr, Some, None, refl, sym, ◌∙◌, ap, arith}
use Rattle.std.specs.List.{find}
use Rattle.report_hub.proofs.Reports.{OfEach-told_none}
use Rattle.ask_history.specs.Journal.{is_cancelled}
use Rattle.ask_history.specs.declared.answers.Answer.TheVariants as answer
use Rattle.engine_driver.specs.History.{journal_of}
use Rattle.engine_driver.proofs.Later.{drives_later}
use Rattle.engine_driver.proofs.Additions.{adds_later, adds_behind, made_quiet, made_behind}
use Rattle.engine_driver.proofs.Asks.{first_dropped}
use Rattle.engine_driver.proofs.Replies.{found_cancelled}
use Rattle.engine_driver.proofs.driver.Driver.round.Goals as goal

pub returns-then-news-clause-drives : goal.returns-then-news-clause-drives
returns-then-news-clause-drives g c = drives_later _ _ _ _ _ c.look-news.ensures.later c.requires.drives

pub returns-then-news-clause-made : goal.returns-then-news-clause-made
returns-then-news-clause-made g c =
    made_quiet g.E.Engine.answer_of g.E.Engine.problems_of _ _ _ _ _ (OfEach-told_none _ _ _) refl (adds_later g.E.Engine.answer_of g.E.Engine.problems_of _ _ c.look-news.ensures.later)

pub settle_ask-requires-clause-drives : goal.settle_ask-requires-clause-drives
settle_ask-requires-clause-drives g c = drives_later _ _ _ _ _ c.look-news.ensures.later c.requires.drives

pub settle_ask-requires-clause-opened : goal.settle_ask-requires-clause-opened
settle_ask-requires-clause-opened g c =
    (first_dropped (journal_of (g.B.Board.history c.look-news.new.self)) c.args.self.now.opened.items c.in-Some.ticket
    (sym (ap (find (is_cancelled (journal_of (g.B.Board.history c.look-news.new.self)))) c.as_slice.ensures.value) ∙ sym c.look-news.ensures.cancelled ∙ c.in-Some.is)).there

pub settle_ask-requires-clause-right : goal.settle_ask-requires-clause-right
settle_ask-requires-clause-right g c =
    found_cancelled g.E.Engine.answer_of (g.B.Board.history c.look-news.new.self) c.in-Some.ticket answer.Cancelled (first_dropped (journal_of (g.B.Board.history c.look-news.new.self)) c.args.self.now.opened.items c.in-Some.ticket
    (sym (ap (find (is_cancelled (journal_of (g.B.Board.history c.look-news.new.self)))) c.as_slice.ensures.value) ∙ sym c.look-news.ensures.cancelled ∙ c.in-Some.is)).cancelled

pub take_next-requires-clause-drives : goal.take_next-requires-clause-drives
take_next-requires-clause-drives g c = drives_later _ _ _ _ _ c.look-news.ensures.later c.requires.drives

pub turn-requires-clause-drives : goal.turn-requires-clause-drives
turn-requires-clause-drives g c = drives_later _ _ _ _ _ c.look-news.ensures.later c.requires.drives

pub returns-in-Some-clause-made : goal.returns-in-Some-clause-made
returns-in-Some-clause-made g c =
    made_quiet g.E.Engine.answer_of g.E.Engine.problems_of _ _ _ _ _ (OfEach-told_none _ _ _) refl
    (adds_behind g.E.Engine.answer_of g.E.Engine.problems_of _ _ _ _ c.look-news.ensures.later c.settle_ask.ensures.adds)

pub returns-in-None-clause-made : goal.returns-in-None-clause-made
returns-in-None-clause-made g c =
    made_quiet g.E.Engine.answer_of g.E.Engine.problems_of _ _ _ _ _ (OfEach-told_none _ _ _) refl
    (adds_behind g.E.Engine.answer_of g.E.Engine.problems_of _ _ _ _ c.look-news.ensures.later c.take_next.ensures.adds)

pub returns-in-None-2-clause-made : goal.returns-in-None-2-clause-made
returns-in-None-2-clause-made g c = made_behind g.E.Engine.answer_of g.E.Engine.problems_of _ _ _ _ _ _ c.look-news.ensures.later c.turn.ensures.made

pub returns-in-Some-clause-goes_on : goal.returns-in-Some-clause-goes_on
returns-in-Some-clause-goes_on g c = λ go. record {
  looked = g.B.Board.history c.look-news.new.self;
  later = c.look-news.ensures.later;
  more = c.settle_ask.ensures.adds.entries;
  behind = c.settle_ask.ensures.adds.behind;
  cancelled = Some c.in-Some.ticket;
  first = sym (ap (find (is_cancelled (journal_of (g.B.Board.history c.look-news.new.self)))) c.as_slice.ensures.value) ∙ sym c.look-news.ensures.cancelled ∙ c.in-Some.is;
  does = c.settle_ask.ensures.opened;
}

pub returns-in-None-clause-goes_on : goal.returns-in-None-clause-goes_on
returns-in-None-clause-goes_on g c = λ go. record {
  looked = g.B.Board.history c.look-news.new.self;
  later = c.look-news.ensures.later;
  more = c.take_next.ensures.adds.entries;
  behind = c.take_next.ensures.adds.behind;
  cancelled = None;
  first = sym (ap (find (is_cancelled (journal_of (g.B.Board.history c.look-news.new.self)))) c.as_slice.ensures.value) ∙ sym c.look-news.ensures.cancelled ∙ c.in-None.is;
  does = inl (omega arith, c.take_next.ensures.next);
}

pub returns-in-None-2-clause-goes_on : goal.returns-in-None-2-clause-goes_on
returns-in-None-2-clause-goes_on g c = λ go. record {
  looked = g.B.Board.history c.look-news.new.self;
  later = c.look-news.ensures.later;
  more = c.turn.ensures.made.adds.entries;
  behind = c.turn.ensures.made.adds.behind;
  cancelled = None;
  first = sym (ap (find (is_cancelled (journal_of (g.B.Board.history c.look-news.new.self)))) c.as_slice.ensures.value) ∙ sym c.look-news.ensures.cancelled ∙ c.in-None-2.is;
  does = inr (omega arith, c.turn.ensures.goes_on);
}
