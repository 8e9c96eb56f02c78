use Rattle.source_grammar.specs.Lexemes.{lexemes}
use Rattle.layer_bench.specs.Counts.{IsEnd}
use Rattle.layer_bench.proofs.layers.part_end.Given as goal

abbrev pub invariant-loop : goal.invariant-loop
invariant-loop l = IsEnd l.reader (lexemes l.tokens) l.end
