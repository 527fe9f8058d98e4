use Rattle.std.proofs.Common.{◌≡◌, ◌-◌}
use Rattle.pipe_types.specs.Handlers.{after_fields}
use Rattle.plain_sends.proofs.partitions.field.Given as goal

abbrev pub invariant-loop-before : goal.invariant-loop-before
invariant-loop-before l = l.rest ≡ after_fields (l._before - 1) l.payload
