-- What comes next, from one line of the rule on.
use Rattle.std.specs.Prelude.{if◌then◌else◌, ◌&&◌, reverse, find, nat_lt, Option, Some, None, option_map}
use Rattle.pipe_types.specs.declared.topology.Topology.{Topology}
use Rattle.pipe_types.specs.declared.step.DrainCause.{DrainCause}
use Rattle.pipe_types.specs.declared.step.DrainCause.TheVariants.{Sources, Limit, Idle}
use Rattle.pipe_types.specs.declared.step.Step.TheVariants.{Ask, Dispatch, Gather, Restart, Drain, Halt}
use Rattle.pipe_types.specs.Numbers.{message_no}
use Rattle.pipe_model.specs.History.{History}
use Rattle.pipe_model.specs.Ledger.{due}
use Rattle.pipe_model.specs.Flow.{inbox}
use Rattle.pipe_model.specs.Legal.{allows, happened, is_drain, drains_for, needs_restart, no_post_out, may_restart, first_unit}
use Rattle.pipe_model.specs.Moves as model
use Rattle.core_moves.specs.declared.moves.Move.{Move}
use Rattle.core_moves.specs.declared.moves.Move.TheVariants as value
use Rattle.core_moves.specs.declared.moves.Found.{Found}
use Rattle.core_moves.specs.declared.moves.Found.TheVariants as found
use Rattle.core_moves.specs.Closes.{closing_move}

-- the value stands for this move
abbrev pub seen_as : Move → model.Move
seen_as value.Halted = model.Halted
seen_as value.Drained = model.Drained
seen_as (value.Step step) = model.StepMove step
seen_as (value.Job s) = model.Job s
seen_as value.JobsOut = model.JobsOut
seen_as value.Pause = model.Pause

-- what was found is this move
abbrev pub found_as : Found → model.Move
found_as found.Halted = model.Halted
found_as found.Drained = model.Drained
found_as (found.Restart s) = model.StepMove (Restart s)
found_as found.Halt = model.StepMove Halt
found_as (found.Drain cause) = model.StepMove (Drain cause)
found_as (found.Ask sub n) = model.StepMove (Ask sub n)
found_as (found.Dispatch s) = model.StepMove (Dispatch s)
found_as (found.Close closing) = closing_move closing
found_as (found.Gather s m) = model.StepMove (Gather s m)
found_as (found.Job s) = model.Job s
found_as found.JobsOut = model.JobsOut
found_as found.Pause = model.Pause

-- the first cause for which the pipeline begins its drain of its own accord
abbrev pub cause_by : Topology → History → Option DrainCause
cause_by topology before =
    if happened is_drain before
    then None
    else (if drains_for topology before Sources
    then Some Sources
    else (if drains_for topology before Limit then Some Limit else (if drains_for topology before Idle then Some Idle else None)))

-- from a line of the rule on

abbrev pub from_jobs : Topology → History → Option model.Move
from_jobs topology before =
    model.or_else (model.when (model.has_job topology before) (λ spec. model.Job spec.no) (reverse topology.stages)) (model.if_so (model.jobs_out topology before) model.JobsOut)

abbrev pub from_gathers : Topology → History → Option model.Move
from_gathers topology before =
    model.or_else
    (model.when (λ spec. allows topology before (Gather spec.no (message_no (first_unit (inbox topology before spec.no)))))
    (λ spec. model.StepMove (Gather spec.no (message_no (first_unit (inbox topology before spec.no))))) topology.stages)
    (from_jobs topology before)

abbrev pub from_closes : Topology → History → Option model.Move
from_closes topology before = model.or_else (model.closable topology before topology.stages) (from_gathers topology before)

abbrev pub from_dispatches : Topology → History → Option model.Move
from_dispatches topology before =
    model.or_else (model.when (λ spec. allows topology before (Dispatch spec.no)) (λ spec. model.StepMove (Dispatch spec.no)) topology.stages) (from_closes topology before)

abbrev pub from_asks : Topology → History → Option model.Move
from_asks topology before =
    model.or_else
    (option_map (λ u. model.StepMove (Ask u (due topology before u))) (find (λ u. nat_lt 0 (due topology before u)) (model.all_subs topology before)))
    (from_dispatches topology before)

abbrev pub from_drains : Topology → History → Option model.Move
from_drains topology before =
    model.or_else (model.if_so (allows topology before (Drain Sources)) (model.StepMove (Drain Sources)))
    (model.or_else (model.if_so (allows topology before (Drain Limit)) (model.StepMove (Drain Limit)))
    (model.or_else (model.if_so (allows topology before (Drain Idle)) (model.StepMove (Drain Idle))) (from_asks topology before)))

abbrev pub from_restarts : Topology → History → Option model.Move
from_restarts topology before =
    model.or_else
    (model.when (λ spec. needs_restart topology before spec.no && no_post_out topology before spec.no)
    (λ spec. model.StepMove (if may_restart topology before spec.no then Restart spec.no else Halt)) topology.stages)
    (from_drains topology before)
