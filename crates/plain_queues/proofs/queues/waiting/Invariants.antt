use Rattle.std.proofs.Common.{◌≡◌, ◌++◌, drop}
use Rattle.std.specs.Prelude.{filter, if◌then◌else◌}
use Rattle.pipe_types.specs.Stages.{spec_of}
use Rattle.pipe_model.specs.Flow.{is_batcher, batch_waits_in, waits_in}
use Rattle.plain_queues.specs.Flows.{topology_of}
use Rattle.plain_queues.specs.Views.{batch_at, place_at}
use Rattle.plain_queues.proofs.queues.waiting.Given as goal

abbrev pub invariant-loop-n : goal.invariant-loop-n
invariant-loop-n l = l.units.items ++ filter (λ n. if is_batcher (spec_of (topology_of l.flow) l.stage) then batch_waits_in l.stage (batch_at l.flow.tables.now.batches.items n) else waits_in l.stage (place_at l.flow.tables.now.places.items n)) (drop l.n-index l.all) ≡ filter (λ n. if is_batcher (spec_of (topology_of l.flow) l.stage) then batch_waits_in l.stage (batch_at l.flow.tables.now.batches.items n) else waits_in l.stage (place_at l.flow.tables.now.places.items n)) l.all
