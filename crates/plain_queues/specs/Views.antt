-- Tables as a step looks at them.
use Rattle.std.specs.Prelude.{ℕ, ◌-◌, nat_lt, if◌then◌else◌, List, map, filter, Option, None, option_map, slice_get}
use Rattle.pipe_types.specs.declared.numbers.StageNo.{StageNo}
use Rattle.pipe_types.specs.declared.numbers.SubNo.{SubNo}
use Rattle.pipe_types.specs.declared.topology.Topology.{Topology}
use Rattle.pipe_types.specs.declared.message.Place.{Place}
use Rattle.pipe_types.specs.declared.room.Sent.{Sent as SentUnit}
use Rattle.pipe_types.specs.Stages.{spec_of}
use Rattle.pipe_model.specs.Batches as model
use Rattle.pipe_model.specs.Flow.{View, count_on, delivered_to, is_batcher, leg_waits_in, in_inbox_by, runs_in}
use Rattle.plain_queues.specs.declared.tables.LegPlace.{LegPlace}
use Rattle.plain_queues.specs.declared.tables.LegPlace.TheVariants.{InInbox, AtWork, Answered, LegLost}
use Rattle.plain_queues.specs.declared.tables.Leg.{Leg}
use Rattle.plain_queues.specs.declared.tables.BatchPlace.{BatchPlace}
use Rattle.plain_queues.specs.declared.tables.BatchPlace.TheVariants.{AtBatcher, Sent, Dropped}
use Rattle.plain_queues.specs.declared.tables.BatchRow.{BatchRow}
use Rattle.plain_queues.specs.declared.tables.Tables.{Tables}

abbrev pub leg_place_of : LegPlace → model.LegPlace
leg_place_of InInbox = model.InInbox
leg_place_of AtWork = model.AtWork
leg_place_of (Answered outcomes) = model.Answered outcomes.items
leg_place_of (LegLost loss) = model.LegLost loss

abbrev pub leg_of : Leg → model.Leg
leg_of leg = record { sub = leg.sub; place = leg_place_of leg.place }

abbrev pub batch_place_of : BatchPlace → model.BatchPlace
batch_place_of (AtBatcher s) = model.AtBatcher s
batch_place_of (Sent legs) = model.Sent (map leg_of legs.items)
batch_place_of (Dropped loss) = model.Dropped loss

-- the batch of a row
abbrev pub batch_of : BatchRow → model.Batch
batch_of row = record { numbers = row.numbers.items; place = batch_place_of row.place }

-- where message n stands, by a table from number 1 on
abbrev pub place_at : List Place → ℕ → Option Place
place_at places n = if nat_lt 0 n then slice_get places (n - 1) else None

-- batch n, by a table from number 1 on
abbrev pub batch_at : List BatchRow → ℕ → Option model.Batch
batch_at batches n = if nat_lt 0 n then option_map batch_of (slice_get batches (n - 1)) else None

-- what the tables show
abbrev pub view_in : Tables → View
view_in tables =
    record { place = place_at tables.places.items; batch = batch_at tables.batches.items; sent = count_on tables.sends.items; sent_to = delivered_to tables.sends.items }

-- those of the sends that stand in the consumer's inbox
abbrev pub standing_of : Topology → Tables → StageNo → List SentUnit → List (SubNo × ℕ)
standing_of topology tables c sends =
    filter
    (λ d. if is_batcher (spec_of topology d.0.producer) then leg_waits_in d.0 (batch_at tables.batches.items d.1) else in_inbox_by d.0 (place_at tables.places.items d.1))
    (delivered_to sends c)

-- those of the sends that run in the stage
abbrev pub running_of : Tables → StageNo → List SentUnit → List ℕ
running_of tables s sends = filter (λ n. runs_in s (place_at tables.places.items n)) (map (λ d. d.1) (delivered_to sends s))
