use Rattle.std.proofs.Common.{◌≡◌, ◌+◌, ℕ, List, ◌++◌, take, length, sym, subst, arith, rules}
use Rattle.pipe_edges.specs.declared.source.ReadEnd.TheVariants.{Got, End}
use Rattle.pipe_edges.specs.Reads.{ReadIsCounted}
use Rattle.run_verdicts.specs.declared.audits.AuditFault.{AuditFault}
use Rattle.run_verdicts.specs.Judged.{Summary, Audits}
use Rattle.pipe_types.specs.declared.topology.Topology.{Topology}
use Rattle.std.specs.Prelude.{Result}
use Rattle.stage_bodies.specs.Seen.{source_seen}
use Rattle.pipe_top.specs.Audits.{ReadOnce}
use Rattle.pipe_top.specs.Flows.{ReadsSource}
use Rattle.pipe_top.proofs.Audits.{more_read, large_read, wait_read, fault_read, end_read}
use Rattle.pipe_top.proofs.audit.read_source.Goals as goal

pub returns-then-read-n-gt-MOST_BYTES : goal.returns-then-read-n-gt-MOST_BYTES
returns-then-read-n-gt-MOST_BYTES g c =
    let old = source_seen g.B.ByteSource c.args.source.now in
    let now = source_seen g.B.ByteSource c.loop-n.source in
    let next = source_seen g.B.ByteSource c.read_piece.new.source in
    let piece = c.read_piece.new.piece.items in
    let once : ReadOnce now next piece (Got c.in-Got.n) = subst (ReadOnce now next piece) c.in-Got.is c.read_piece.ensures.read in
    let counted : ReadIsCounted 8192 (Got c.in-Got.n) = subst (ReadIsCounted 8192) c.in-Got.is c.read_piece.ensures.counted in
    large_read c.args.topology.now old now next c.loop-n.audit piece c.in-Got.n c.loop-n.invariant.so_far once (omega (arith, counted.1, c.read_piece.ensures.room))
    (omega (arith, c.if-read-n-gt-MOST_BYTES.true, c.read.ensures))

pub loop-n-preserved : goal.loop-n-preserved
loop-n-preserved g c =
    let old = source_seen g.B.ByteSource c.args.source.now in
    let now = source_seen g.B.ByteSource c.loop-n.source in
    let next = source_seen g.B.ByteSource c.read_piece.new.source in
    let piece = c.read_piece.new.piece.items in
    let once : ReadOnce now next piece (Got c.in-Got.n) = subst (ReadOnce now next piece) c.in-Got.is c.read_piece.ensures.read in
    let counted : ReadIsCounted 8192 (Got c.in-Got.n) = subst (ReadIsCounted 8192) c.in-Got.is c.read_piece.ensures.counted in
    let same : c.deref.result.now ≡ piece = c.deref.ensures.value in
    record {
      so_far =
          more_read c.args.topology.now old now next c.loop-n.audit c.in_ok-audit-in-Got.audit piece c.in-Got.n c.loop-n.invariant.so_far once
          (subst (λ (xs : List ℕ). c.in_ok-audit-in-Got.audit.read ≡ c.loop-n.audit.read + length (take c.in-Got.n xs)) same c.in_ok-audit-in-Got.ensures.read)
          (search rules)
          (subst (λ (xs : List ℕ). (topology : Topology) (text : List ℕ) → Audits topology text c.loop-n.audit → Audits topology (text ++ take c.in-Got.n xs) c.in_ok-audit-in-Got.audit) same c.in_ok-audit-in-Got.ensures.audits);
      room = c.read_piece.ensures.room;
    }

pub returns-in-End : goal.returns-in-End
returns-in-End g c =
    let old = source_seen g.B.ByteSource c.args.source.now in
    let now = source_seen g.B.ByteSource c.loop-n.source in
    let next = source_seen g.B.ByteSource c.read_piece.new.source in
    let piece = c.read_piece.new.piece.items in
    let once : ReadOnce now next piece End = subst (ReadOnce now next piece) c.in-End.is c.read_piece.ensures.read in
    subst (λ (end : Result Summary AuditFault). ReadsSource end c.args.topology.now old next) (sym c.found.ensures)
    (end_read c.args.topology.now old now next c.loop-n.audit piece c.verdict.result c.requires.sound c.loop-n.invariant.so_far once c.verdict.ensures.verdict c.verdict.ensures.said)

pub returns-in-Failed : goal.returns-in-Failed
returns-in-Failed g c =
    let now = source_seen g.B.ByteSource c.loop-n.source in
    let next = source_seen g.B.ByteSource c.read_piece.new.source in
    let piece = c.read_piece.new.piece.items in
    fault_read c.args.topology.now (source_seen g.B.ByteSource c.args.source.now) now next c.loop-n.audit piece c.loop-n.invariant.so_far (subst (ReadOnce now next piece) c.in-Failed.is c.read_piece.ensures.read)

pub returns-in-Empty : goal.returns-in-Empty
returns-in-Empty g c =
    let now = source_seen g.B.ByteSource c.loop-n.source in
    let next = source_seen g.B.ByteSource c.read_piece.new.source in
    let piece = c.read_piece.new.piece.items in
    wait_read c.args.topology.now (source_seen g.B.ByteSource c.args.source.now) now next c.loop-n.audit piece c.loop-n.invariant.so_far (subst (ReadOnce now next piece) c.in-Empty.is c.read_piece.ensures.read)
