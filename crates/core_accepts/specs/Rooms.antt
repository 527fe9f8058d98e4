-- What a producer may bring, by the tables.
use Rattle.std.specs.Prelude.{ℕ, ◌-◌, min, if◌then◌else◌, List, Option, Some, slice_get}
use Rattle.pipe_types.specs.declared.topology.StageSpec.{StageSpec}
use Rattle.pipe_types.specs.Stages.{spec_feeds}
use Rattle.pipe_model.specs.Legal.{is_producer_role}
use Rattle.stage_subs.specs.Pairs.{PairRow}
use Rattle.stage_subs.specs.Subs.{row_at, open_in}
use Rattle.core_tables.specs.declared.rows.StageRow.{StageRow}
use Rattle.core_tables.specs.declared.rows.PostRow.{PostRow}
use Rattle.core_tables.specs.Rows.{post_at}

-- the open demand of a pair that feeds
abbrev pub open_between : List (Option PairRow) → (producer consumer : StageSpec) → ℕ
open_between subs p c = if spec_feeds p c then open_in (row_at subs c.no p.no) else 0

-- the bound of the last fetch of a stage, where the post is out
abbrev pub may_bring : Option StageRow → Option PostRow → ℕ
may_bring (Some row) (Some post) = if post.out then row.last_fetch else 0
may_bring _ _ = 0

-- how many records the fetch of a producer may still bring
abbrev pub brings : List StageRow → List PostRow → StageSpec → ℕ
brings rows posts spec = if is_producer_role spec.role then may_bring (slice_get rows spec.no.0) (slice_get posts (post_at spec.no.0 0)) else 0

-- a pull producer brings no more than its subscribers have room for
abbrev pub pulled : StageSpec → (records room waiting : ℕ) → ℕ
pulled spec records room waiting = if spec.push then records else min records (room - waiting)
