-- Which post the box at a place of a stock is for.
use Rattle.std.specs.Prelude.{◌≤◌, ℕ, zero, suc, List, [], ◌∷◌, take, slice_get, if◌then◌else◌, Option, Some, None}
use Rattle.std.specs.List.{flat_map}
use Rattle.pipe_types.specs.declared.numbers.StageNo.{StageNo}
use Rattle.pipe_types.specs.declared.numbers.Post.{Post}
use Rattle.pipe_types.specs.declared.topology.Kind.{Kind}
use Rattle.pipe_types.specs.declared.topology.StageSpec.{StageSpec}
use Rattle.pipe_types.specs.declared.topology.Topology.{Topology}
use Rattle.pipe_types.specs.Numbers.{post}
use Rattle.stage_job.specs.Boxes.{same_kind, boxes_of_kind}
use Rattle.topology_needs.specs.Needs.{posts_of, need_of}

-- so many slots of a stage, from this one on
abbrev pub slots_from : StageNo → (slot many : ℕ) → List Post
slots_from s slot zero = []
slots_from s slot (suc many) = post s slot ∷ slots_from s (suc slot) many

-- the posts of a stage that need a callback of the kind
abbrev pub posts_for : Kind → StageSpec → List Post
posts_for kind spec = if same_kind kind spec.kind then slots_from spec.no 0 (posts_of spec) else []

-- the posts that need a callback of the kind, in order of stage and slot
abbrev pub posts_with : Kind → Topology → List Post
posts_with kind topology = flat_map (posts_for kind) topology.stages

abbrev pub post_by : Topology → Option Kind → (before : List Kind) → Option Post
post_by topology None before = None
post_by topology (Some kind) before = slice_get (posts_with kind topology) (boxes_of_kind kind before)

-- the post that the box at this place is for, if there is one: boxes of a kind are for the posts that need one, in their order
abbrev pub post_for : Topology → (kinds : List Kind) → (place : ℕ) → Option Post
post_for topology kinds place = post_by topology (slice_get kinds place) (take place kinds)

-- for each kind there are at least as many boxes as posts that need one
abbrev pub Suffices : Topology → (kinds : List Kind) → Type 0
Suffices topology kinds = (kind : Kind) → need_of topology kind ≤ boxes_of_kind kind kinds

abbrev pub joined : {A : Type 0} → Option (Option A) → Option A
joined (Some x) = x
joined None = None
