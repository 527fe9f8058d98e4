-- A journal that obeys its control source.
use Rattle.std.proofs.Common.{◌≡◌, refl}
use Rattle.std.specs.Prelude.{ℕ, true, List, [], ◌∷◌, ◌++◌, codes}
use Rattle.pipe_types.specs.declared.message.Why.TheVariants.{Kill as ByKill}
use Rattle.pipe_types.specs.declared.step.Step.{Step}
use Rattle.pipe_types.specs.declared.step.Step.TheVariants.{SourceEnd, Kill, Restart, Tick, Drain, Refuse}
use Rattle.pipe_types.specs.declared.step.SourceHow.TheVariants.{End}
use Rattle.pipe_types.specs.declared.step.DrainCause.TheVariants.{Control}
use Rattle.pipe_types.specs.Numbers.{stage}
use Rattle.pipe_types.specs.Lines.{lines, lines_of_pieces, pieces}
use Rattle.pipe_model.specs.History.{history}
use Rattle.pipe_model.specs.Outside.{IsObeyed}
use Rattle.model_checks.proofs.Base.{is_run, one_each}

-- the lines `kill p`, `oops` and `drain`
abbrev three_lines : List ℕ
three_lines = codes "kill p" ++ 10 ∷ codes "oops" ++ 10 ∷ codes "drain" ++ 10 ∷ []

abbrev obedient : List Step
obedient = Kill (stage 1) ByKill ∷ Tick 0 ∷ Refuse 2 ∷ Restart (stage 1) ∷ Drain Control ∷ SourceEnd (stage 0) End ∷ []

obedient_legal : is_run one_each obedient ≡ true
obedient_legal = refl

cut_in_lines : lines three_lines ≡ codes "kill p" ∷ codes "oops" ∷ codes "drain" ∷ []
unfolding lines lines_of_pieces pieces
cut_in_lines = refl

-- its control steps are the readings of the three lines, each at its prefix
obeys : IsObeyed one_each (history obedient) three_lines
unfolding lines lines_of_pieces pieces
obeys =
    record {
      readings = (
        (
          ((((tt, record { line = codes "kill p"; is_next = refl; reading = refl }), tt), record { line = codes "oops"; is_next = refl; reading = refl }), tt),
          record { line = codes "drain"; is_next = refl; reading = refl },
        ),
        tt,
      );
      all_read = λ ended. refl;
    }
