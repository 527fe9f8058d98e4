-- Fetches, and the role of a stage that may be missing.
use Rattle.std.specs.Prelude.{ℕ, ◌+◌, Bool, false, if◌then◌else◌, List, [], ◌∷◌, Option, None, Some}
use Rattle.pipe_types.specs.declared.numbers.StageNo.{StageNo}
use Rattle.pipe_types.specs.declared.topology.Role.{Role}
use Rattle.pipe_types.specs.declared.topology.StageSpec.{StageSpec}
use Rattle.pipe_types.specs.declared.step.Step.TheVariants.{Fetch}
use Rattle.pipe_types.specs.Numbers.{same_stage}
use Rattle.pipe_model.specs.History.{History}
use Rattle.pipe_model.specs.Legal.{is_producer_role, fetch_out}

-- the bound of the stage's last fetch
abbrev pub last_fetch : History → StageNo → ℕ
last_fetch [] s = 0
last_fetch (Fetch t n ∷ before) s = if same_stage s t then n else last_fetch before s
last_fetch (_ ∷ before) s = last_fetch before s

-- the bound of the fetch of a producer that is out
abbrev pub out_of : History → StageSpec → ℕ
out_of before spec = if is_producer_role spec.role then fetch_out before spec.no else 0

-- there is a role, and it passes the test
abbrev pub role_passes : (Role → Bool) → Option Role → Bool
role_passes test None = false
role_passes test (Some role) = test role

-- the bounds of the fetches of these stages that are out
abbrev pub sum_out : History → List StageSpec → ℕ
sum_out before [] = 0
sum_out before (spec ∷ specs) = if is_producer_role spec.role then fetch_out before spec.no + sum_out before specs else sum_out before specs
