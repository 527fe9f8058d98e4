-- A tick may come.
use Rattle.std.proofs.Common.{◌≡◌, ℕ, ◌≤◌, true, false, None}
use Rattle.std.proofs.lemmas.Bool.{le-leb}
use Rattle.pipe_types.specs.declared.topology.Topology.{Topology}
use Rattle.pipe_types.specs.declared.step.Step.TheVariants.{Tick}
use Rattle.pipe_model.specs.History.{History, now}
use Rattle.pipe_model.specs.Legal.{allows, owed, happened, is_halt}
use Rattle.move_laws.proofs.Legality.{may_allow}

pub tick_may : (topology : Topology) (before : History) (t : ℕ) → owed topology before ≡ None → happened is_halt before ≡ false → now before ≤ t → allows topology before (Tick t) ≡ true
tick_may topology before t free going h = may_allow topology before (Tick t) free going (le-leb (now before) t h)
