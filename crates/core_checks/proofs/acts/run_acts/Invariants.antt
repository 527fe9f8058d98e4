use Rattle.core_state.specs.Stands.{Stands}
use Rattle.core_checks.proofs.acts.run_acts.Given as goal

abbrev pub invariant-loop-act : goal.invariant-loop-act
invariant-loop-act l = Stands l.core
