-- The acknowledgements, where they are shown.
use Rattle.std.proofs.Common.{◌≡◌, Bool, true, false, refl}
use Rattle.pipe_types.specs.declared.topology.Topology.{Topology}
use Rattle.pipe_types.specs.Sound.{IsSound}
use Rattle.pipe_model.specs.History.{History}
use Rattle.pipe_journal.specs.Recorded.{Recorded}
use Rattle.pipe_journal.specs.Acked.{IsLog}
use Rattle.journal_texts.specs.Acks.{ack_text}
use Rattle.run_verdicts.specs.Verdicts.{acks_in, shown, when, IsLogged}

pub acks_when : (wanted : Bool) (topology : Topology) (before : History) → acks_in (when wanted topology) before ≡ shown wanted (ack_text topology before)
acks_when true topology before = refl
acks_when false topology before = refl

pub logged_when : (wanted : Bool) (topology : Topology) (journal : Recorded) → IsSound topology → IsLog topology journal.steps journal.acked.rows → IsLogged (when wanted topology) journal
logged_when true topology journal sound log = (sound, log)
logged_when false topology journal sound log = tt
