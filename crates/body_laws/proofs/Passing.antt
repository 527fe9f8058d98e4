-- What is known of journals in which all pass.
use Rattle.std.proofs.Common.{◌≡◌, ℕ, true, false, refl, ◌∷◌, []}
use Rattle.std.specs.Prelude.{not, IsTrue}
use Rattle.pipe_types.specs.declared.step.Step.TheVariants.{Halt}
use Rattle.pipe_types.specs.declared.topology.Topology.{Topology}
use Rattle.pipe_model.specs.History.{History}
use Rattle.pipe_model.specs.Flow.{place}
use Rattle.pipe_model.specs.Legal.{happened, is_halt}
use Rattle.pipe_model.specs.Acknowledgements.{is_acked_failed, is_lossless, loses}
use Rattle.pipe_laws.proofs.Tests.{and_left, and_right, not_true}
use Rattle.body_laws.specs.Passes.{all_pass}
use Rattle.body_laws.proofs.Places.{none_failed}

pub none_failed_law : (topology : Topology) (before : History) (n : ℕ) → IsTrue (all_pass before) → is_acked_failed (place topology before n) ≡ false
none_failed_law = none_failed

-- a journal that loses nothing has no halt
pub no_halt : (topology : Topology) (before : History) → is_lossless topology before ≡ true → happened is_halt before ≡ false
no_halt topology [] h = refl
no_halt topology (Halt ∷ before) h = let x : true ≡ false = not_true (loses topology before Halt) (and_right (is_lossless topology before) (not (loses topology before Halt)) h) in cc
no_halt topology (step ∷ before) h = no_halt topology before (and_left (is_lossless topology before) (not (loses topology before step)) h)
