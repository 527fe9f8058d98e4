use Rattle.std.proofs.Common.{rules, ◌+◌, ◌-◌, ◌%◌, ◌^◌}
use mathlib.Core.Option.{none}
use Rattle.atomic_table.specs.Table.{step}
use Rattle.pipeline_turn.proofs.Handing.{counts_keep}
use Rattle.pipeline_turn.proofs.turn.Turn.rest.Goals as goal

pub fetch_add-requires : goal.fetch_add-requires
fetch_add-requires g c = (search rules, search rules, counts_keep g.V.Held.steps g.V.Held.stems g.V.Held.away _ _ _ _ (step 0 2 1 0 none) 1 (λ k. (k + 1) % 2 ^ 64))

pub fetch_sub-requires : goal.fetch_sub-requires
fetch_sub-requires g c = (search rules, search rules, counts_keep g.V.Held.steps g.V.Held.stems g.V.Held.away _ _ _ _ (step 0 2 1 0 none) 1 (λ k. (k + (2 ^ 64 - 1)) % 2 ^ 64))
