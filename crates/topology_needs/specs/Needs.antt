-- What a topology needs of a stock of boxes, and the subscriptions with which its pipeline begins.
use Rattle.std.specs.Prelude.{ℕ, Bool, nat_lt, List, [], ◌∷◌, filter, sum_by, count_by, find, Option}
use Rattle.std.specs.Option.{option_map}
use Rattle.pipe_types.specs.declared.topology.Topology.{Topology}
use Rattle.pipe_types.specs.declared.topology.StageSpec.{StageSpec}
use Rattle.pipe_types.specs.declared.topology.Role.{Role}
use Rattle.pipe_types.specs.declared.topology.Role.TheVariants.{Producer, Processor, Supervisor, Batcher, BatchProcessor}
use Rattle.pipe_types.specs.declared.topology.Kind.{Kind}
use Rattle.pipe_types.specs.declared.topology.Kind.TheVariants.{Steps, Lines, Own}
use Rattle.pipe_types.specs.Stages.{spec_feeds}
use Rattle.stage_job.specs.Boxes.{same_kind, boxes_of_kind}
use Rattle.topology_needs.specs.declared.stock.Boxes.{Boxes}
use Rattle.topology_needs.specs.declared.stock.Shortage.{Shortage}

-- the posts of a stage that have a callback: one of a processor or a batch processor, and one for each child of a supervisor
abbrev pub posts_in : Role → (children : ℕ) → ℕ
posts_in Producer children = 0
posts_in Processor children = 1
posts_in Supervisor children = children
posts_in Batcher children = 0
posts_in BatchProcessor children = 1

abbrev pub posts_of : StageSpec → ℕ
posts_of s = posts_in s.role s.max

-- the stages of a kind
abbrev pub of_kind : Kind → List StageSpec → List StageSpec
of_kind kind = filter (λ s. same_kind kind s.kind)

-- how many posts have a callback of this kind
abbrev pub need_of : Topology → Kind → ℕ
need_of topology kind = sum_by posts_of (of_kind kind topology.stages)

-- how many boxes of this kind there are
abbrev pub boxes_of : Boxes → Kind → ℕ
boxes_of boxes Steps = boxes.steps
boxes_of boxes Lines = boxes.lines
boxes_of boxes Own = boxes.own

-- the boxes of a stock with these kinds
abbrev pub boxes_in : List Kind → Boxes
boxes_in kinds = record { steps = boxes_of_kind Steps kinds; lines = boxes_of_kind Lines kinds; own = boxes_of_kind Own kinds }

-- fewer boxes of this kind than posts that need one
abbrev pub is_short : Topology → Boxes → Kind → Bool
is_short topology boxes kind = nat_lt (boxes_of boxes kind) (need_of topology kind)

abbrev pub need_and_have : Topology → Boxes → Kind → Shortage
need_and_have topology boxes kind = record { kind = kind; need = need_of topology kind; have = boxes_of boxes kind }

-- the first kind of which there are fewer boxes than posts that need one
abbrev pub shortage_of : Topology → Boxes → Option Shortage
shortage_of topology boxes = option_map (need_and_have topology boxes) (find (is_short topology boxes) (Steps ∷ Lines ∷ Own ∷ []))

-- how many of the stages take from this one
abbrev pub consumers_of : List StageSpec → StageSpec → ℕ
consumers_of stages p = count_by (spec_feeds p) stages

-- the pairs of stages of which the second takes from the first
abbrev pub subscriptions_of : Topology → ℕ
subscriptions_of topology = sum_by (consumers_of topology.stages) topology.stages
