use Rattle.std.proofs.Common.{◌≡◌, length}
use Rattle.scan_tokens.specs.Scanned.{scanned}
use Rattle.layer_bench.proofs.layers.token_count.Given as goal

abbrev pub invariant-loop : goal.invariant-loop
invariant-loop l = l.count ≡ length (scanned l.text).tokens
