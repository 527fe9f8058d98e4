use Rattle.std.proofs.Common.{◌≡◌, ◌-◌, [], length}
use Rattle.pipe_edges.specs.Texts.{IsLine}
use Rattle.std.specs.Prelude.{Ok, None}
use Rattle.std.specs.declared.alloc.AllocError.{AllocError}
use Rattle.pipe_edges.specs.Handed.{Handed}
use Rattle.pipe_edges.specs.Needed.{ReadsAsNeeded}
use Rattle.pipe_edges.specs.Pacing.{RoundIsPaced}
use Rattle.pipe_edges.proofs.reading.read_on.Given as goal

abbrev pub invariant-loop-stop : goal.invariant-loop-stop
invariant-loop-stop g l = record {
  handed : Handed g.B.ByteSource l.initial.source l.source l.initial.held l.held [];
  paced : RoundIsPaced {E = AllocError} g.B.ByteSource l.initial.source l.source l.initial.held l.held (Ok None);
  needed : ReadsAsNeeded l.initial.held l.held [];
  unread : ¬ IsLine l.initial.held → (l.source ≡ l.initial.source) × (l.held ≡ l.initial.held);
}

abbrev pub decreases-loop-stop : goal.decreases-loop-stop
decreases-loop-stop g l = 65537 - length l.held
