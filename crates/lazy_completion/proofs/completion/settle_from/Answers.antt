use Rattle.std.proofs.Common.{ap, ◌||◌, is_some, arith}
use Rattle.lazy_completion.specs.Memo.{value}
use Rattle.lazy_completion.proofs.Steps.{first-lock, first-locked, finished, keeps-trans, stays-on, keeps-same}
use Rattle.lazy_completion.proofs.completion.settle_from.Goals as goal

pub loop-memo-init : goal.loop-memo-init
loop-memo-init g c = (
  first-lock _ _ c.args.memo.now c.lock.new.self c.args.item c.requires.right c.requires.unlocked c.requires.listed c.lock.ensures.values c.in_ok-lock.ensures.locked,
  keeps-same (g.T.TypesItems.items c.args.typer.now) (g.T.TypesItems.typing c.args.typer.now) c.args.memo.now c.lock.new.self c.lock.ensures.values,
  ap (λ b. b || is_some (value c.lock.new.self c.args.item))
      (first-locked (g.T.TypesItems.items c.args.typer.now) (g.T.TypesItems.typing c.args.typer.now) c.args.memo.now c.lock.new.self c.args.item c.requires.right c.requires.unlocked
      c.requires.listed c.lock.ensures.values c.in_ok-lock.ensures.locked),
)

pub settle_some-requires-clause-under_way : goal.settle_some-requires-clause-under_way
settle_some-requires-clause-under_way g c = c.loop-memo.invariant.0

pub loop-memo-smaller : goal.loop-memo-smaller
loop-memo-smaller g c = c.in_ok-settle_some.ensures.nearer

pub loop-memo-preserved : goal.loop-memo-preserved
loop-memo-preserved g c = (
  c.in_ok-settle_some.ensures.under_way,
  keeps-trans c.args.memo.now c.loop-memo.memo c.settle_some.new.memo c.loop-memo.invariant.1 c.settle_some.ensures.kept,
  stays-on c.loop-memo.memo c.settle_some.new.memo c.in_ok-settle_some.ensures.stays c.settle_some.ensures.kept c.args.item c.loop-memo.invariant.2,
)

pub returns-in_err-settle_some-clause-kept : goal.returns-in_err-settle_some-clause-kept
returns-in_err-settle_some-clause-kept g c =
    keeps-trans c.args.memo.now c.loop-memo.memo c.settle_some.new.memo c.loop-memo.invariant.1 c.settle_some.ensures.kept

pub returns-clause-done : goal.returns-clause-done
returns-clause-done g c =
    finished (g.T.TypesItems.items c.args.typer.now) (g.T.TypesItems.typing c.args.typer.now) c.loop-memo.memo c.args.item c.loop-memo.invariant.0 (omega arith) c.loop-memo.invariant.2

pub returns-clause-right : goal.returns-clause-right
returns-clause-right g c = c.loop-memo.invariant.0.right

pub returns-clause-kept : goal.returns-clause-kept
returns-clause-kept g c = c.loop-memo.invariant.1
