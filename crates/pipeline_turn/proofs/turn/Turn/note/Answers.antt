use Rattle.std.proofs.Common.{rules, ◌+◌, ◌%◌, ◌^◌}
use mathlib.Core.Option.{none}
use Rattle.atomic_table.specs.Table.{step}
use Rattle.pipeline_turn.proofs.Handing.{counts_keep}
use Rattle.pipeline_turn.proofs.turn.Turn.note.Goals as goal

pub fetch_add-requires : goal.fetch_add-requires
fetch_add-requires g c = (search rules, search rules, counts_keep g.V.Held.steps g.V.Held.stems g.V.Held.away _ _ _ _ (step 0 1 1 0 none) 0 (λ k. (k + 1) % 2 ^ 64))
