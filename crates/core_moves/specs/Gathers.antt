-- What a batcher may gather, as the rows give it.
use Rattle.std.specs.Prelude.{ℕ, Bool, ◌&&◌, nat_le, List, [], ◌∷◌}
use Rattle.pipe_types.specs.declared.numbers.SubNo.{SubNo}
use Rattle.pipe_types.specs.declared.topology.Topology.{Topology}
use Rattle.pipe_types.specs.declared.topology.StageSpec.{StageSpec}
use Rattle.pipe_model.specs.History.{History}
use Rattle.pipe_model.specs.Content.{key_in, content}
use Rattle.pipe_model.specs.Lives.{is_live}
use Rattle.pipe_model.specs.Flow.{open_batch_by, view_of}
use Rattle.pipe_model.specs.Legal.{has_room, lets_in, is_batcher_role}

-- a live batcher with room may gather the message, where the open batch of its key takes one more
abbrev pub may_gather_now : Topology → History → StageSpec → ℕ → Bool
may_gather_now topology before spec n =
    is_live topology before spec.no
    && (is_batcher_role spec.role
    && (nat_le 1 n
    && (has_room topology before spec.no && lets_in topology before spec.no (open_batch_by before (view_of topology before) spec.no (key_in (content before n))))))

-- the first unit, or 0
abbrev pub first_by : List (SubNo × ℕ) → ℕ
first_by [] = 0
first_by (d ∷ units) = d.1
