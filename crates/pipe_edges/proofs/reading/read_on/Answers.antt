use Rattle.std.proofs.Common.{[], refl, rules}
use Rattle.pipe_edges.specs.Handed.{Handed}
use Rattle.pipe_edges.proofs.HandLaws.{handed_more}
use Rattle.pipe_edges.proofs.PaceLaws.{round_more}
use Rattle.pipe_edges.proofs.NeedLaws.{needed_more, no_text}
use Rattle.pipe_edges.proofs.reading.read_on.Goals as goal

pub loop-stop-preserved : goal.loop-stop-preserved
loop-stop-preserved g c =
    let source = g.B.ByteSource in
    let handed : Handed source c.loop-stop.source c.go_round.new.source c.loop-stop.held c.go_round.new.held [] = rw c.in_default.is at c.in_ok-stop.ensures.handed in
    record {
      handed = handed_more c.loop-stop.invariant.handed handed;
      paced =
          round_more _ _
          (source.paced c.args.source.now) (source.paced c.loop-stop.source) (source.paced c.go_round.new.source) c.args.held.now c.loop-stop.held c.go_round.new.held _
          refl c.loop-stop.invariant.paced (rw c.in_default.is at c.in_ok-stop.ensures.paced);
      needed = needed_more _ _ _ _ c.loop-stop.invariant.needed (rw c.in_default.is at c.in_ok-stop.ensures.needed);
      unread = search rules;
    }

pub returns-in-Some-clause-paced : goal.returns-in-Some-clause-paced
returns-in-Some-clause-paced g c =
    let source = g.B.ByteSource in
    round_more _ _
    (source.paced c.args.source.now) (source.paced c.loop-stop.source) (source.paced c.go_round.new.source) c.args.held.now c.loop-stop.held c.go_round.new.held _
    refl c.loop-stop.invariant.paced (rw c.in-Some.is at c.in_ok-stop.ensures.paced)

pub returns-in-Some-clause-needed : goal.returns-in-Some-clause-needed
returns-in-Some-clause-needed g c = needed_more _ _ _ _ c.loop-stop.invariant.needed (rw c.in-Some.is at c.in_ok-stop.ensures.needed)

pub returns-in_err-stop-clause-handed : goal.returns-in_err-stop-clause-handed
returns-in_err-stop-clause-handed g c =
    rw (no_text c.from_residual.result c.from_residual.ensures.0) (handed_more c.loop-stop.invariant.handed c.in_err-stop.ensures.handed)

pub returns-in_err-stop-clause-needed : goal.returns-in_err-stop-clause-needed
returns-in_err-stop-clause-needed g c =
    rw (no_text c.from_residual.result c.from_residual.ensures.0) (needed_more _ _ _ _ c.loop-stop.invariant.needed c.in_err-stop.ensures.needed)
