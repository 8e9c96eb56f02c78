use Rattle.std.proofs.Common.{◌≤◌, ap, length, length-drop, arith}
use Rattle.std.proofs.lemmas.Result.{IfOk-weaker}
use Rattle.source_grammar.specs.Patterns.{IsPattern}
use Rattle.parse_parts.proofs.Placed.{placed-part}
use Rattle.parse_parts.proofs.Places.{rest-cuts, tokens-few, behind-all}
use Rattle.parse_parts.proofs.Readers.{from-there}
use Rattle.parse_patterns.proofs.PatternsSit.{pattern-here}
use Rattle.parse_patterns.proofs.reader.parse_pattern.Goals as goal

pub parse-requires-clause-cut : goal.parse-requires-clause-cut
parse-requires-clause-cut c =
    rest-cuts c.args.tokens.now c.as_str-text.result.now c.args.at _ c.requires.scanned c.as_str-text.ensures c.as_str-text.utf8
    (behind-all c.args.tokens.now.tokens c.as_slice.result.now c.args.at c.as_slice.ensures)

pub parse-requires-clause-few : goal.parse-requires-clause-few
parse-requires-clause-few c =
    let few : length c.args.tokens.now.tokens ≤ length c.as_str-text.result.now =
    tokens-few c.args.tokens.now c.as_str-text.result.now c.requires.scanned c.as_str-text.ensures c.as_str-text.utf8 in
    let rest = ap length (behind-all c.args.tokens.now.tokens c.as_slice.result.now c.args.at c.as_slice.ensures) in
    omega (arith, few, rest, length-drop c.args.at c.args.tokens.now.tokens, ap length c.as_str-text.ensures, c.requires.short, c.requires.within)

pub returns-clause-is : goal.returns-clause-is
returns-clause-is c =
    IfOk-weaker c.parse.result _ _
    (λ part is. from-there IsPattern c.args.tokens.now c.as_str-text.result.now c.args.at _ part c.as_str-text.ensures
    (behind-all c.args.tokens.now.tokens c.as_slice.result.now c.args.at c.as_slice.ensures) is)
    c.parse.ensures

pub returns-clause-placed : goal.returns-clause-placed
returns-clause-placed c =
    IfOk-weaker c.parse.result _ _ (λ part is. placed-part IsPattern pattern-here c.args.tokens.now c.args.at part c.requires.scanned is) (returns-clause-is c)
