-- Which jobs may begin, as the rows give it.
use Rattle.std.specs.Prelude.{Bool, ◌&&◌, ◌||◌, not, nat_lt, nat_le}
use Rattle.pipe_types.specs.declared.topology.Topology.{Topology}
use Rattle.pipe_types.specs.declared.topology.StageSpec.{StageSpec}
use Rattle.pipe_types.specs.Numbers.{post}
use Rattle.pipe_model.specs.History.{History, accepted_bytes}
use Rattle.pipe_model.specs.Posts.{is_out}
use Rattle.pipe_model.specs.Lives.{is_live}
use Rattle.pipe_model.specs.Flow.{is_empty, inbox}
use Rattle.pipe_model.specs.Legal.{bound, has_ended, rests, happened, is_drain, is_producer_role, takes_role, has_room}

-- a live producer whose source is ready may fetch at least one record, and the drain has not begun
abbrev pub may_fetch_now : Topology → History → StageSpec → Bool
may_fetch_now topology before spec =
    is_live topology before spec.no
    && (is_producer_role spec.role
    && ((not (has_ended before spec.no) && (not (is_out before (post spec.no 0)) && not (rests before spec.no)))
    && ((not (happened is_drain before) && nat_lt (accepted_bytes before) topology.byte_limit) && nat_le 1 (bound topology before spec.no))))

-- a live stage with something in its inbox, and no job out, may take
abbrev pub may_take_now : Topology → History → StageSpec → Bool
may_take_now topology before spec =
    is_live topology before spec.no
    && (takes_role spec.role
    && (not (is_out before (post spec.no 0))
    && ((not (is_empty (inbox topology before spec.no)) && nat_lt spec.min spec.max)
    && (not (nat_lt 0 spec.batchers) || has_room topology before spec.no))))
