use Rattle.std.proofs.Common.{inl, inr}
use Rattle.std.specs.Prelude.{slice_get}
use Rattle.line_merge.proofs.Rounds.{without_lines}
use Rattle.line_merge.proofs.tries.rest_of_round.Goals as goal

pub returns-in-Ok-Some-clause-cause : goal.returns-in-Ok-Some-clause-cause
returns-in-Ok-Some-clause-cause g c = inl (rw c.in-Ok-Some.field-0-is at c.in-Ok-Some.ensures.cause)

pub returns-in-Ok-None-clause-cause : goal.returns-in-Ok-None-clause-cause
returns-in-Ok-None-clause-cause g c =
    inr (rw c.in-Ok-None.field-0-is at c.in-Ok-None.ensures.cause, rw c.as_slice.ensures.value at c.without_line.ensures, without_lines (slice_get c.try_range.new.streams.items) c.without_line.result (rw c.as_slice.ensures.value at c.without_line.ensures))

pub returns-in-Ok-None-clause-gives : goal.returns-in-Ok-None-clause-gives
returns-in-Ok-None-clause-gives g c k =
    rw (without_lines (slice_get c.try_range.new.streams.items) c.without_line.result (rw c.as_slice.ensures.value at c.without_line.ensures))
    (rw c.in-Ok-None.field-0-is at (c.in-Ok-None.ensures.gives k))
