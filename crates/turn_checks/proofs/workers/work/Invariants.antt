use Rattle.std.proofs.Common.{◌≡◌, false}
use Rattle.pipeline_turn.specs.Seats.{IsSameSeat}
use Rattle.turn_checks.specs.Tokens.{brought_post}
use Rattle.turn_checks.proofs.workers.work.Given as goal

abbrev pub invariant-loop : goal.invariant-loop
invariant-loop g l =
    (goal.iterator-loop g).can_next l.iterator' × (goal.iterator-loop g).is_finite l.iterator' × IsSameSeat l.fn.seat l.seat × (l.seat.holds ≡ false) × (l.seat.job ≡ brought_post l.brought)
