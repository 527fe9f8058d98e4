use Rattle.std.proofs.Common.{◌≡◌, ◌-◌, length}
use Rattle.stage_bodies.specs.Seen.{source_seen}
use Rattle.pipe_top.proofs.Audits.{ReadSoFar}
use Rattle.pipe_top.proofs.audit.read_source.Given as goal

-- what came was judged, and no more than the limit came
abbrev pub invariant-loop-n : goal.invariant-loop-n
invariant-loop-n g l = record {
  so_far : ReadSoFar l.topology (source_seen g.B.ByteSource l.initial.source) (source_seen g.B.ByteSource l.source) l.audit;
  room : length l.piece.items ≡ 8192;
}

abbrev pub decreases-loop-n : goal.decreases-loop-n
decreases-loop-n g l = 268435457 - l.audit.read
