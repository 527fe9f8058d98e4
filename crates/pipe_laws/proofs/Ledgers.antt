-- The ledger's bounds together.
use Rattle.std.proofs.Common.{◌≡◌, true}
use Rattle.pipe_types.specs.declared.numbers.SubNo.{SubNo}
use Rattle.pipe_types.specs.declared.topology.Topology.{Topology}
use Rattle.pipe_model.specs.History.{History}
use Rattle.pipe_model.specs.Legal.{is_legal}
use Rattle.pipe_model.specs.Claims.{KeepsLedger}
use Rattle.pipe_types.specs.Sound.{IsSound}
use Rattle.pipe_laws.proofs.Sounds.{sound_ascends}
use Rattle.pipe_laws.proofs.Demand.{sent_within}
use Rattle.pipe_laws.proofs.Pending.{pending_within}
use Rattle.pipe_laws.proofs.Handled.{handled_within}

-- handled at most sent, sent at most asked, and in flight at most the greatest demand
pub keeps_ledger : (topology : Topology) (before : History) (u : SubNo) → IsSound topology → is_legal topology before ≡ true → KeepsLedger topology before u
keeps_ledger topology before u sound h =
    record {
      handled_sent = handled_within topology before u h;
      sent_asked = sent_within topology before u (sound_ascends topology sound);
      in_flight = pending_within topology before u h;
    }
