use Rattle.std.proofs.Common.{◌≡◌, length, append-nil, arith, rules}
use Rattle.std.specs.Str.{chars}
use Rattle.scan_tokens.proofs.PieceLemmas.{tokens_in-carried, problems_in-carried, tokens_in-nil, problems_in-nil}
use Rattle.scan_tokens.proofs.pieces.divide.Goals as goal

pub loop-rest-preserved : goal.loop-rest-preserved
loop-rest-preserved c =
    let total = length c.args.text.now in
    let cs = chars c.loop-rest.rest.now in (
      search rules,
      tokens_in-carried total cs _ _ _ _ c.in_ok-rest.ensures.tokens c.in_ok-rest.ensures.after c.loop-rest.invariant.1,
      problems_in-carried total cs _ _ _ _ c.in_ok-rest.ensures.problems c.in_ok-rest.ensures.after c.loop-rest.invariant.2,
      grind arith,
    )

pub returns-clause-tokens : goal.returns-clause-tokens
returns-clause-tokens c =
    let ended : length c.loop-rest.rest.now ≡ 0 = search rules in
    rw (tokens_in-nil (length c.args.text.now) _ ended, append-nil) at c.loop-rest.invariant.1

pub returns-clause-problems : goal.returns-clause-problems
returns-clause-problems c =
    let ended : length c.loop-rest.rest.now ≡ 0 = search rules in
    rw (problems_in-nil (length c.args.text.now) _ ended, append-nil) at c.loop-rest.invariant.2
