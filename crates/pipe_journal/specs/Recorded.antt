-- What contracts see of a journal.
use Rattle.std.specs.Prelude.{ℕ, List}
use Rattle.pipe_model.specs.History.{History}
use Rattle.pipe_journal.specs.declared.acked.AckRow.{AckRow}

-- the acknowledged messages that were noted, in their order, and how many in all fit without memory
pub record AckLog : Type 0 where
  pub rows : List AckRow
  pub room : ℕ

-- the steps so far, newest first, how many more can be written without memory, and the acknowledged messages
pub record Recorded : Type 0 where
  pub steps : History
  pub spare : ℕ
  pub acked : AckLog
