-- The numbers of a job.
use Rattle.std.proofs.Common.{◌≡◌, ℕ, zero, suc, ◌≤◌, List, [], ◌∷◌, Bool, true, false, refl, ap, ◌∙◌, Some, None, Option, arith, subst, All}
use Rattle.std.specs.Prelude.{slice_get, option_to_list, if◌then◌else◌}
use Rattle.pipe_types.specs.declared.numbers.Post.{Post}
use Rattle.pipe_types.specs.declared.topology.Topology.{Topology}
use Rattle.pipe_model.specs.History.{History}
use Rattle.pipe_model.specs.Posts.{in_slot}
use Rattle.pipe_model.specs.Work.{taken_units}
use Rattle.pipe_model.specs.Legal.{has_role, is_processor_role, is_supervisor_role}
use Rattle.core_state.specs.declared.state.Core.{Core}
use Rattle.core_state.specs.Stands.{Holds}
use Rattle.plain_run.specs.declared.works.Works.{Works}
use Rattle.plain_run.specs.Works.{WorksStand}
use Rattle.plain_run.specs.Jobs.{job_units}
use Rattle.plain_run.proofs.Working.{started_low}

all_some : (xs : List ℕ) (k n : ℕ) → All (λ m. 1 ≤ m) xs → slice_get xs k ≡ Some n → 1 ≤ n
all_some [] k n all e = cc
all_some (x ∷ xs) zero n all e =
    let same : x ≡ n = cc in
    subst (λ m. 1 ≤ m) same (all 0 0 (omega arith))
all_some (x ∷ xs) (suc k) n all e = all_some xs k n (λ j d below. all (suc j) d (omega (arith, below))) e

child_low : (o : Option ℕ) (k n : ℕ) → ((m : ℕ) → o ≡ Some m → 1 ≤ m) → slice_get (option_to_list o) k ≡ Some n → 1 ≤ n
child_low None k n low e = cc
child_low (Some m) zero n low e = let same : m ≡ n = cc in subst (λ i. 1 ≤ i) same (low m refl)
child_low (Some m) (suc k) n low e = cc

-- the numbers of a job are from 1
pub unit_low : (core : Core) (works : Works) (p : Post) (k n : ℕ) → Holds core → WorksStand core.topology core.journal.steps works
    → slice_get (job_units core.topology core.journal.steps p) k ≡ Some n → 1 ≤ n
unit_low core works p k n x w e =
    by (has_role core.topology p.stage is_processor_role) refl (has_role core.topology p.stage is_supervisor_role)
    e
  where
    by : (b : Bool) → has_role core.topology p.stage is_processor_role ≡ b → (a : Bool)
        → slice_get (if b then taken_units core.topology core.journal.steps p.stage else (if a then option_to_list (in_slot core.journal.steps p.stage p.slot) else [])) k ≡ Some n → 1 ≤ n
    by true role a at = all_some (taken_units core.topology core.journal.steps p.stage) k n (w.least p.stage role) at
    by false role true at =
        child_low (in_slot core.journal.steps p.stage p.slot) k n (λ m own. started_low core.topology core.journal.steps p.stage p.slot m x.legal own) at
    by false role false at = cc

-- a supervisor's job is that of the slot
pub units_child : (topology : Topology) (before : History) (p : Post) (at : ℕ) → has_role topology p.stage is_processor_role ≡ false → has_role topology p.stage is_supervisor_role ≡ true
    → slice_get (job_units topology before p) at ≡ slice_get (option_to_list (in_slot before p.stage p.slot)) at
units_child topology before p at other role =
    ap (λ b. slice_get (if b then taken_units topology before p.stage else (if has_role topology p.stage is_supervisor_role then option_to_list (in_slot before p.stage p.slot) else [])) at) other
    ∙ ap (λ b. slice_get (if b then option_to_list (in_slot before p.stage p.slot) else []) at) role
