use Rattle.std.proofs.Common.{◌≡◌, false}
use Rattle.std.specs.Prelude.{IfSome}
use Rattle.pipeline_turn.specs.Seats.{IsSameSeat}
use Rattle.stage_workers.specs.Rounds.{brought_post}
use Rattle.stage_workers.proofs.worker.work.Given as goal

-- the seat has no value and the job of what is brought, which is so after the steps that it has seen
abbrev pub invariant-loop : goal.invariant-loop
invariant-loop g l =
    (goal.iterator-loop g).can_next l.iterator'
    × (goal.iterator-loop g).is_finite l.iterator'
    × IsSameSeat l.fn.seat l.seat
    × (l.seat.holds ≡ false)
    × (l.seat.job ≡ brought_post g.H.Shift.home_post l.brought)
    × IfSome l.brought (g.H.Shift.is_home_of l.seat.origin l.seat.seen)
