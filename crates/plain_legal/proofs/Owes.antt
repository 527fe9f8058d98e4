-- What an accept owes.
use Rattle.std.proofs.Common.{◌≡◌, ℕ, List, ◌∷◌, refl, sym, subst}
use Rattle.std.specs.Prelude.{Bool, if◌then◌else◌, Option, Some, None}
use Rattle.pipe_types.specs.declared.numbers.StageNo.{StageNo}
use Rattle.pipe_types.specs.declared.topology.Topology.{Topology}
use Rattle.pipe_types.specs.declared.step.Step.{Step}
use Rattle.pipe_types.specs.declared.step.Step.TheVariants.{Accept}
use Rattle.pipe_model.specs.History.{History}
use Rattle.pipe_model.specs.Legal.{owed, may_dispatch, is_dispatch_of}

abbrev pub dispatch_owed : Topology → History → StageNo → Option (Step → Bool)
dispatch_owed topology before s = if may_dispatch topology before s then Some (is_dispatch_of s) else None

-- an accept owes a dispatch where that sends or loses something
pub owed_to_accept : (topology : Topology) (before : History) (last : Step) (s : StageNo) (records : List (List ℕ)) → last ≡ Accept s records
    → dispatch_owed topology (last ∷ before) s ≡ owed topology (last ∷ before)
owed_to_accept topology before last s records is = subst (λ (x : Step). dispatch_owed topology (x ∷ before) s ≡ owed topology (x ∷ before)) (sym is) refl
