use Rattle.run_pipe.specs.Seen.{state_of}
use Rattle.run_pipe.proofs.InHands.{InHand}
use Rattle.run_pipe.proofs.alone.run_on.Given as goal

abbrev pub invariant-loop : goal.invariant-loop
invariant-loop g l =
    record {
      next : (goal.iterator-loop g).can_next l.iterator';
      finite : (goal.iterator-loop g).is_finite l.iterator';
      hand : InHand g.B.Works.look (state_of l.initial.pipe) (state_of l.pipe) l.brought;
    }
