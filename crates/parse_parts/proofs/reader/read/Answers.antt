use Rattle.std.proofs.Common.{ap, sym, ◌∙◌}
use Rattle.reading_machines.specs.Machines.{noted}
use Rattle.parse_parts.specs.Symbols.{symbol_of}
use Rattle.parse_parts.proofs.Loops.{seen, stops, goes_on, noted-now}
use Rattle.parse_parts.proofs.reader.read.Goals as goal
use Rattle.parse_parts.proofs.reader.read.Goals.{then-is_type, else-is_type}

pub returns-then-not-admits : goal.returns-then-not-admits
returns-then-not-admits c =
    stops c.args.text.now c.args.tokens.now c.loop-token.token-index c.loop-token.reached c.loop-token.best c.if-is_type.best c.loop-token.state
    _ c.word_in-word.result.now c.read_symbol-symbol.result c.loop-token.invariant
    (seen c.args.text.now c.args.tokens.now c.loop-token.token-index _ c.word_in-word.result.now c.read_symbol-symbol.result c.loop-token-test.true
    c.word_in-word.ensures (c.read_symbol-symbol.ensures ∙ ap (symbol_of _) c.as_bytes.ensures.value))
    (elim c.if-is_type.branch [
      | then-is_type w ↦ noted-now c.is_type.result _ _ _ _ c.is_type.ensures (w.best-is ∙ ap (λ b. noted b c.loop-token.reached c.loop-token.best) (sym w.if-is_type.true))
      | else-is_type w ↦ noted-now c.is_type.result _ _ _ _ c.is_type.ensures (w.best-is ∙ ap (λ b. noted b c.loop-token.reached c.loop-token.best) (sym w.if-is_type.false))
    ])
    (sym c.admits.ensures ∙ c.if-not-admits.true)

pub loop-token-preserved : goal.loop-token-preserved
loop-token-preserved c =
    goes_on c.args.text.now c.args.tokens.now c.loop-token.token-index c.loop-token.reached c.loop-token.best c.if-is_type.best c.loop-token.state c.in_ok-state.state
    _ c.word_in-word.result.now c.read_symbol-symbol.result c.loop-token.invariant
    (seen c.args.text.now c.args.tokens.now c.loop-token.token-index _ c.word_in-word.result.now c.read_symbol-symbol.result c.loop-token-test.true
    c.word_in-word.ensures (c.read_symbol-symbol.ensures ∙ ap (symbol_of _) c.as_bytes.ensures.value))
    (elim c.if-is_type.branch [
      | then-is_type w ↦ noted-now c.is_type.result _ _ _ _ c.is_type.ensures (w.best-is ∙ ap (λ b. noted b c.loop-token.reached c.loop-token.best) (sym w.if-is_type.true))
      | else-is_type w ↦ noted-now c.is_type.result _ _ _ _ c.is_type.ensures (w.best-is ∙ ap (λ b. noted b c.loop-token.reached c.loop-token.best) (sym w.if-is_type.false))
    ])
    (sym c.admits.ensures ∙ c.if-not-admits.false)
    c.in_ok-state.ensures
