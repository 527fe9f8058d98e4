-- A run: its core, what handlers were shown and answered, and what the last step owes.
use Rattle.std.specs.Prelude.{◌≡◌, ℕ, List}
use Rattle.plain_run.specs.declared.works.Works.{Works}
use Rattle.plain_run.specs.declared.after.After.{After}
use Rattle.core_state.specs.declared.state.Core.{Core}
use Rattle.core_state.specs.Stands.{Holds}
use Rattle.settle_laws.specs.Settled.{settled_last}
use Rattle.plain_run.specs.Works.{WorksStand}
use Rattle.plain_run.specs.Owes.{Owes}

pub record IsRun (core : Core) (held : Works) (after : After) : Type 0 where
  pub holds : Holds core
  pub owes : Owes core.topology core.journal.steps after
  pub works : WorksStand core.topology core.journal.steps held

-- and what its last step acknowledged
pub record IsWhole (core : Core) (held : Works) (after : After) (acked : List ℕ) : Type 0 where
  pub run : IsRun core held after
  pub settled : acked ≡ settled_last core.topology core.journal.steps
