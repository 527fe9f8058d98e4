-- What the report says of the steps.
use Rattle.std.specs.Prelude.{◌≡◌, ◌+◌, ◌++◌, ◌||◌, if◌then◌else◌, List, count_by}
use Rattle.std.specs.List.{filter_map, list_any}
use Rattle.std.specs.Option.{option_to_list}
use Rattle.pipe_types.specs.declared.step.Step.{Step}
use Rattle.pipe_model.specs.Legal.{is_halt}
use Rattle.journal_texts.specs.Report.{fault_of, cause_of, is_restart, is_refuse}
use Rattle.journal_texts.specs.declared.steps.Findings.{Findings}

-- of these steps, oldest first
pub record AreFindings (steps : List Step) (found : Findings) : Type 0 where
  pub faults : found.faults.items ≡ filter_map fault_of steps
  pub causes : found.causes.items ≡ filter_map cause_of steps
  pub restarts : found.restarts ≡ count_by is_restart steps
  pub refusals : found.refusals ≡ count_by is_refuse steps
  pub halted : found.halted ≡ list_any is_halt steps

-- of one step more
pub record Adds (step : Step) (old new : Findings) : Type 0 where
  pub faults : new.faults.items ≡ old.faults.items ++ option_to_list (fault_of step)
  pub causes : new.causes.items ≡ old.causes.items ++ option_to_list (cause_of step)
  pub restarts : new.restarts ≡ (if is_restart step then old.restarts + 1 else old.restarts)
  pub refusals : new.refusals ≡ (if is_refuse step then old.refusals + 1 else old.refusals)
  pub halted : new.halted ≡ (old.halted || is_halt step)
