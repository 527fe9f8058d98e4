-- The claims that every legal journal of a sound topology keeps.
use Rattle.std.specs.Prelude.{ℕ, IsTrue}
use Rattle.pipe_types.specs.declared.numbers.SubNo.{SubNo}
use Rattle.pipe_types.specs.declared.topology.Topology.{Topology}
use Rattle.pipe_types.specs.Sound.{IsSound}
use Rattle.pipe_model.specs.History.{History}
use Rattle.pipe_model.specs.Legal.{is_legal}
use Rattle.pipe_model.specs.Claims.{KeepsLedger, HasOnePlaceEach, StaysSettled, LegStaysSettled, LeavesNothing, IsAcknowledgedOnce, AcknowledgesEverything}

-- legal: every step satisfies its condition. Then no subscription was sent more than it asked; every accepted message
-- stands in exactly one place; what is settled stays so; each acknowledged message is acknowledged once, as its
-- handlers answered; a leg settles once; the end leaves nothing; and a drain that loses nothing acknowledges everything
pub record KeepsClaims (topology : Topology) (before : History) : Type 0 where
  pub sound : IsSound topology
  pub legal : IsTrue (is_legal topology before)
  pub ledger : (u : SubNo) → KeepsLedger topology before u
  pub one_place_each : HasOnePlaceEach topology before
  pub settled_for_good : (later : History) (n : ℕ) → StaysSettled topology later before n
  pub acknowledged_once : (n : ℕ) → IsAcknowledgedOnce topology before n
  pub legs_settle_once : (later : History) (batch leg : ℕ) → LegStaysSettled topology later before batch leg
  pub nothing_left : LeavesNothing topology before
  pub lossless : AcknowledgesEverything topology before
