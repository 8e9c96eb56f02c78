use Rattle.std.proofs.Common.{◌≡◌, map}
use Rattle.script_text.specs.Texts.{line_with}
use Rattle.script_text.proofs.texts.script_with.Given as goal

abbrev pub invariant-loop-line : goal.invariant-loop-line
invariant-loop-line l = l.with_texts ≡ map (line_with l.sources) l.yielded
