use Rattle.core_state.specs.Stands.{Stands}
use Rattle.core_checks.proofs.drive.drive_to_fetch.Given as goal

abbrev pub invariant-loop : goal.invariant-loop
invariant-loop l = Stands l.core
