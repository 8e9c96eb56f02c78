use Rattle.std.proofs.Common.{◌≤◌, ap, length, length-drop, arith}
use Rattle.parse_parts.proofs.Places.{rest-cuts, tokens-few, behind-all}
use Rattle.parse_exprs.proofs.Parted.{same-part}
use Rattle.parse_exprs.proofs.Reaching.{from-here}
use Rattle.parse_exprs.proofs.reader.parse_expr.Goals as goal

pub parse-requires-clause-cut : goal.parse-requires-clause-cut
parse-requires-clause-cut c =
    rest-cuts c.args.tokens.now c.as_str-text.result.now c.args.at _ c.requires.scanned c.as_str-text.ensures c.as_str-text.utf8
    (behind-all c.args.tokens.now.tokens c.as_slice.result.now c.args.at c.as_slice.ensures)

pub parse-requires-clause-few : goal.parse-requires-clause-few
parse-requires-clause-few c =
    let few : length c.args.tokens.now.tokens ≤ length c.as_str-text.result.now =
    tokens-few c.args.tokens.now c.as_str-text.result.now c.requires.scanned c.as_str-text.ensures c.as_str-text.utf8 in
    let rest = ap length (behind-all c.args.tokens.now.tokens c.as_slice.result.now c.args.at c.as_slice.ensures) in
    omega (arith, few, rest, length-drop c.args.at c.args.tokens.now.tokens, ap length c.as_str-text.ensures, c.requires.short, c.requires.within)

pub returns : goal.returns
returns c =
    same-part _ _ c.args.at c.parse.result
    (from-here c.args.tokens.now c.as_str-text.result.now c.args.at _ c.as_str-text.ensures
    (behind-all c.args.tokens.now.tokens c.as_slice.result.now c.args.at c.as_slice.ensures))
    c.parse.ensures
