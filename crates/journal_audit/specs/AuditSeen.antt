-- An audit between two pieces of its text.
use Rattle.std.specs.Prelude.{ℕ, List}
use Rattle.pipe_types.specs.declared.topology.Topology.{Topology}
use Rattle.pipe_model.specs.History.{History}
use Rattle.journal_audit.specs.declared.pieces.Progress.{Progress}

-- the steps of the lines that have ended, how far it is with them, the bytes of the line that has not ended, and how many bytes
-- have come
pub record AuditSeen : Type 0 where
  pub topology : Topology
  pub steps : History
  pub progress : Progress
  pub begun : List ℕ
  pub read : ℕ
