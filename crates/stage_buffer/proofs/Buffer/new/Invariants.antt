use Rattle.std.proofs.Common.{◌≡◌, length}
use Rattle.stage_buffer.proofs.Empty.{AreEmpty}
use Rattle.stage_buffer.proofs.Buffer.new.Given as goal

abbrev pub invariant-loop-part : goal.invariant-loop-part
invariant-loop-part g l = record {
  empty : AreEmpty l.rings.items;
  made : length l.rings.items ≡ l.part;
}
