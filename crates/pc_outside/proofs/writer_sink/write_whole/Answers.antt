-- What is written of the rest comes after what was written before.
use Rattle.std.proofs.Common.{rules}
use Rattle.std.proofs.Math.Seq.{take-add}
use Rattle.std.proofs.lemmas.List.{take_rest}
use Rattle.std.proofs.KnownBytes.{Appends-trans}
use Rattle.pc_outside.proofs.writer_sink.write_whole.Goals as goal

pub loop-done-preserved : goal.loop-done-preserved
loop-done-preserved g c = record {
  within = search rules;
  taken = rw (take-add, ← take_rest) (Appends-trans _ _ _ _ _ c.loop-done.invariant.taken c.in_ok-count.ensures.bytes);
}
