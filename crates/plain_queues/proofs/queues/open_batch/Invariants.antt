use Rattle.std.proofs.Common.{◌≡◌, ◌++◌, drop}
use Rattle.std.specs.Prelude.{filter, ◌&&◌, bytes_eq}
use Rattle.pipe_model.specs.Content.{content, key_in}
use Rattle.pipe_model.specs.Flow.{is_gathered_in}
use Rattle.plain_queues.specs.Flows.{history_of}
use Rattle.plain_queues.specs.Views.{place_at}
use Rattle.plain_queues.proofs.queues.open_batch.Given as goal

abbrev pub invariant-loop-n : goal.invariant-loop-n
invariant-loop-n l = l.units.items ++ filter (λ n. is_gathered_in l.stage (place_at l.flow.tables.now.places.items n) && bytes_eq (key_in (content (history_of l.flow) n)) l.key) (drop l.n-index l.all) ≡ filter (λ n. is_gathered_in l.stage (place_at l.flow.tables.now.places.items n) && bytes_eq (key_in (content (history_of l.flow) n)) l.key) l.all
