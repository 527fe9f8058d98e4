-- Settings in the ranges of the format.
use Rattle.std.specs.Prelude.{ℕ, Bool, true, false, not, ◌&&◌, ◌||◌, nat_le, nat_lt, IsTrue, length, List, Option, Some, None, is_none}
use Rattle.std.specs.List.{list_all}
use Rattle.pipe_types.specs.declared.topology.Dispatch.{Dispatch}
use Rattle.pipe_types.specs.declared.topology.Dispatch.TheVariants.{Broadcast}
use Rattle.pipe_types.specs.Sound.{is_between, is_name, is_reason, is_lines, is_control, is_rate}
use Rattle.config_settings.specs.declared.settings.OwnLimit.{OwnLimit}
use Rattle.config_settings.specs.declared.settings.Demand.{Demand}
use Rattle.config_settings.specs.declared.settings.Handler.{Handler}
use Rattle.config_settings.specs.declared.settings.ProducerSettings.{ProducerSettings}
use Rattle.config_settings.specs.declared.settings.ProcessorSettings.{ProcessorSettings}
use Rattle.config_settings.specs.declared.settings.SupervisorSettings.{SupervisorSettings}
use Rattle.config_settings.specs.declared.settings.BatcherSettings.{BatcherSettings}
use Rattle.config_settings.specs.declared.settings.Settings.{Settings}
use Rattle.config_build.specs.Limits.{producer_limits, processor_limits, supervisor_limits, batcher_limits}

abbrev pub demand_fits : ℕ → Demand → Bool
demand_fits most d = nat_lt d.min d.max && nat_le d.max most

abbrev pub handler_fits : Handler → Bool
handler_fits h = nat_le (length h.steps) 64 && is_reason h.failed

abbrev pub producer_fits : ProducerSettings → Bool
producer_fits p = is_name p.name && nat_le p.buffer_size 200000

abbrev pub field_fits : Option ℕ → Bool
field_fits None = true
field_fits (Some field) = nat_le field 255

abbrev pub processors_fit : Option ProcessorSettings → Bool
processors_fit None = true
processors_fit (Some p) = (is_between 1 32 p.concurrency && field_fits p.partition_by) && (demand_fits 10000 p.demand && (not (is_lines p.handler.kind) && handler_fits p.handler))

abbrev pub supervisor_fits : Option SupervisorSettings → Bool
supervisor_fits None = true
supervisor_fits (Some s) = demand_fits 16 s.demand && (not (is_lines s.handler.kind) && handler_fits s.handler)

-- selectors of at most 4096 bytes
abbrev pub are_selectors : Option (List (List ℕ)) → Bool
are_selectors None = true
are_selectors (Some texts) = list_all (λ text. nat_le (length text) 4096) texts

abbrev pub is_broadcast : Option Dispatch → Bool
is_broadcast (Some Broadcast) = true
is_broadcast _ = false

-- and none where the batcher does not broadcast
abbrev pub selects_fit : BatcherSettings → Bool
selects_fit b = are_selectors b.select && (is_none b.select || is_broadcast b.dispatch)

-- what a batcher has besides its selectors
abbrev pub batches_fit : BatcherSettings → Bool
batches_fit b = (is_name b.name && is_between 1 16 b.concurrency) && ((is_between 1 10000 b.batch_size && is_between 1 3600000 b.batch_timeout) && (demand_fits 10000 b.demand && handler_fits b.handler))

abbrev pub batcher_fits : BatcherSettings → Bool
batcher_fits b = batches_fit b && selects_fit b

abbrev pub pipeline_fits : Settings → Bool
pipeline_fits s = (nat_le s.max_restarts 1000 && is_between 1 3600 s.max_seconds) && (nat_le s.idle_limit 1000000 && is_control s.control)

-- what a table says of its stages' restarts
abbrev pub most_fit : Option ℕ → Bool
most_fit None = true
most_fit (Some n) = nat_le n 1000

abbrev pub seconds_fit : Option ℕ → Bool
seconds_fit None = true
seconds_fit (Some n) = is_between 1 3600 n

abbrev pub limit_fits : OwnLimit → Bool
limit_fits own = most_fit own.max_restarts && seconds_fit own.max_seconds

abbrev pub limits_fit : Settings → Bool
limits_fit s =
    list_all limit_fits (producer_limits s.producers)
    && (list_all limit_fits (processor_limits s.processors)
    && (list_all limit_fits (supervisor_limits s.supervisor)
    && list_all limit_fits (batcher_limits s.batchers)))

-- the records and the bytes of a run
abbrev pub sizes_fit : Settings → Bool
sizes_fit s = is_between 1 2000000 s.record_limit && is_between 1 536870912 s.byte_limit

-- every value is in the range that the format has for it
pub record IsFit (s : Settings) : Type 0 where
  pub producers : IsTrue (list_all producer_fits s.producers)
  pub processors : IsTrue (processors_fit s.processors)
  pub supervisor : IsTrue (supervisor_fits s.supervisor)
  pub batchers : IsTrue (list_all batcher_fits s.batchers)
  pub pipeline : IsTrue (pipeline_fits s)
  pub limits : IsTrue (limits_fit s)
  pub sizes : IsTrue (sizes_fit s)
  pub rate : IsTrue (is_rate (length s.producers) s.rate)
