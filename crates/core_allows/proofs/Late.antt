-- What the model has of late answers holds of their form.
use Rattle.std.proofs.Common.{◌≡◌, ℕ, true}
use Rattle.std.specs.Prelude.{◌&&◌, ◌==◌, not}
use Rattle.pipe_types.specs.declared.numbers.StageNo.{StageNo}
use Rattle.pipe_types.specs.declared.topology.Topology.{Topology}
use Rattle.pipe_types.specs.declared.step.LateAnswer.{LateAnswer}
use Rattle.pipe_types.specs.declared.step.LateAnswer.TheVariants.{Wrote}
use Rattle.pipe_types.specs.Numbers.{post}
use Rattle.pipe_model.specs.History.{History, incarnation}
use Rattle.pipe_model.specs.Posts.{is_out, out_from}
use Rattle.pipe_model.specs.Lives.{is_live}
use Rattle.pipe_model.specs.Legal.{late_fits, may_be_late as may_be_late_as}
use Rattle.pipe_laws.proofs.Tests.{and_left}
use Rattle.core_allows.specs.Tested.{late_form, may_be_late}
use Rattle.core_allows.proofs.Held.{weaker_last}

form_model : (topology : Topology) (before : History) (s : StageNo) (answer : LateAnswer) → late_fits topology before s answer ≡ true → late_form topology before s answer ≡ true
form_model topology before s (Wrote bytes end) h = and_left (late_form topology before s (Wrote bytes end)) _ h
form_model topology before s _ h = h

pub late_model : (topology : Topology) (before : History) (s : StageNo) (slot i : ℕ) (answer : LateAnswer) → may_be_late_as topology before s slot i answer ≡ true → may_be_late topology before s slot i answer ≡ true
late_model topology before s slot i answer h =
    weaker_last (is_out before (post s slot)) (out_from before (post s slot) == i) (not (is_live topology before s && incarnation before s == i)) (late_fits topology before s answer) (late_form topology before s answer)
    (form_model topology before s answer) h
