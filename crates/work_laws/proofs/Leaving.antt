-- Each step of work and each quiet answer below the idle limit leaves less to do; a fetch and a tick leave as much.
use Rattle.std.proofs.Common.{◌≡◌, ℕ, ◌+◌, ◌-◌, ◌*◌, ◌<◌, ◌≤◌, ◌∷◌, true, ap, sym, ◌∙◌, subst, arith}
use Rattle.std.specs.Prelude.{IsTrue}
use Rattle.pipe_types.specs.declared.numbers.StageNo.{StageNo}
use Rattle.pipe_types.specs.declared.topology.Topology.{Topology}
use Rattle.pipe_types.specs.declared.step.Step.{Step}
use Rattle.pipe_types.specs.declared.step.Step.TheVariants.{Fetch, Quiet, Tick}
use Rattle.pipe_types.specs.Sound.{IsSound}
use Rattle.pipe_model.specs.History.{History}
use Rattle.pipe_model.specs.Counting.{as_number}
use Rattle.pipe_model.specs.Legal.{is_legal, quiet_row}
use Rattle.work_laws.specs.Work.{work_done, is_work}
use Rattle.work_laws.specs.Limits.{most_work}
use Rattle.work_laws.specs.Left.{work_left}
use Rattle.work_laws.proofs.Total.{work_within}

-- one more of what is bounded is worth more than all of a row
one_less : (most done limit row later : ℕ) → done + 1 ≤ most → (most - (done + 1)) * (limit + 1) + (limit - later) < (most - done) * (limit + 1) + (limit - row)
one_less most done limit row later within =
    let left = most - (done + 1) in
    let is : most - done ≡ left + 1 = omega arith in
    let grows : (left + 1) * (limit + 1) ≡ left * (limit + 1) + (limit + 1) = grind arith in
    let here : (most - done) * (limit + 1) ≡ left * (limit + 1) + (limit + 1) = ap (λ n. n * (limit + 1)) is ∙ grows in
    below (left * (limit + 1)) ((most - done) * (limit + 1)) here
  where
    below : (held all : ℕ) → all ≡ held + (limit + 1) → held + (limit - later) < all + (limit - row)
    below held all e = omega arith

pub work_lowers : (topology : Topology) (before : History) (step : Step) → IsSound topology → IsTrue (is_legal topology (step ∷ before)) → is_work step ≡ true
    → work_left topology (step ∷ before) < work_left topology before
work_lowers topology before step sound h works =
    let counted : work_done (step ∷ before) ≡ work_done before + 1 = ap (λ b. as_number b + work_done before) works ∙ flip (work_done before) in
    let bound = work_within topology (step ∷ before) sound h in
    let within : work_done before + 1 ≤ most_work topology = omega (arith, bound, counted) in
    subst (λ w. (most_work topology - w) * (topology.idle_limit + 1) + (topology.idle_limit - quiet_row (step ∷ before)) < work_left topology before) (sym counted)
    (one_less (most_work topology) (work_done before) topology.idle_limit (quiet_row before) (quiet_row (step ∷ before)) within)
  where
    flip : (n : ℕ) → 1 + n ≡ n + 1
    flip n = omega arith

-- what is left where no work was done
no_work : (topology : Topology) (before : History) (row : ℕ) → (most_work topology - (0 + work_done before)) * (topology.idle_limit + 1) + (topology.idle_limit - row) ≡ (most_work topology - work_done before) * (topology.idle_limit + 1) + (topology.idle_limit - row)
no_work topology before row = ap (λ n. (most_work topology - n) * (topology.idle_limit + 1) + (topology.idle_limit - row)) (zero (work_done before))
  where
    zero : (n : ℕ) → 0 + n ≡ n
    zero n = omega arith

pub quiet_lowers : (topology : Topology) (before : History) (s : StageNo) → quiet_row before < topology.idle_limit
    → work_left topology (Quiet s ∷ before) < work_left topology before
quiet_lowers topology before s below =
    subst (λ n. n < work_left topology before) (sym (no_work topology before (quiet_row before + 1)))
    (row_falls ((most_work topology - work_done before) * (topology.idle_limit + 1)) topology.idle_limit (quiet_row before) below)
  where
    row_falls : (held limit row : ℕ) → row < limit → held + (limit - (row + 1)) < held + (limit - row)
    row_falls held limit row h = omega arith

pub fetch_keeps : (topology : Topology) (before : History) (s : StageNo) (n : ℕ) → work_left topology (Fetch s n ∷ before) ≡ work_left topology before
fetch_keeps topology before s n = no_work topology before (quiet_row before)

pub tick_keeps : (topology : Topology) (before : History) (t : ℕ) → work_left topology (Tick t ∷ before) ≡ work_left topology before
tick_keeps topology before t = no_work topology before (quiet_row before)
