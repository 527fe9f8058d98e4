-- A run after a step.
use Rattle.std.proofs.Common.{◌≡◌, ◌∷◌, true, subst}
use Rattle.std.specs.Prelude.{Result, Ok, Err, OnErr}
use Rattle.pipe_types.specs.declared.step.Step.{Step}
use Rattle.core_state.specs.declared.state.Core.{Core}
use Rattle.core_state.specs.Stands.{Holds, Stands}
use Rattle.plain_run.specs.declared.works.Works.{Works}
use Rattle.plain_run.specs.declared.after.After.{After}
use Rattle.plain_run.specs.declared.after.After.TheVariants.{Free}
use Rattle.plain_run.specs.Works.{WorksStand}
use Rattle.plain_run.specs.Owes.{Owes}
use Rattle.plain_run.specs.Runs.{IsRun}
use Rattle.plain_run.specs.Steps.{keeps_works}
use Rattle.plain_run.proofs.Keeping.{works_same, works_kept}

-- after a step that changes nothing of what handlers were shown and answered
pub run_kept : (old new : Core) (works : Works) (after : After) (step : Step) → Holds new → Owes new.topology new.journal.steps after → WorksStand old.topology old.journal.steps works
    → new.topology ≡ old.topology → new.journal.steps ≡ step ∷ old.journal.steps → keeps_works step ≡ true → IsRun new works after
run_kept old new works after step x owes w same written kept =
    record { holds = x; owes = owes; works = works_same old.topology new.topology (step ∷ old.journal.steps) new.journal.steps works same written (works_kept old.topology old.journal.steps step works kept w) }

-- a run whose last step owes nothing
pub run_free : (core : Core) (works : Works) (after : After) → IsRun core works after → after ≡ Free → Stands core
run_free core works after run e = record { holds = run.holds; unowed = subst (λ (a : After). Owes core.topology core.journal.steps a) e run.owes }

-- what holds at all holds of an error
pub on_err : {T E : Type 0} (r : Result T E) (P : Type 0) → P → OnErr r P
on_err (Ok x) P p = tt
on_err (Err e) P p = p
