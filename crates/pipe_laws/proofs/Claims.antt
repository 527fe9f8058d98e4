-- Every claim, from the laws of legal journals.
use Rattle.std.proofs.Common.{◌≡◌, true}
use Rattle.pipe_types.specs.declared.topology.Topology.{Topology}
use Rattle.pipe_types.specs.Sound.{IsSound}
use Rattle.pipe_model.specs.History.{History}
use Rattle.pipe_model.specs.Legal.{is_legal}
use Rattle.pipe_laws.proofs.Ledgers.{keeps_ledger}
use Rattle.pipe_laws.proofs.Progress.{one_place_each}
use Rattle.pipe_laws.proofs.Settled.{stays_settled, leg_stays_settled}
use Rattle.pipe_laws.proofs.Acknowledged.{acknowledged_once}
use Rattle.pipe_laws.proofs.Ends.{leaves_nothing}
use Rattle.pipe_laws.proofs.Lossless.{acknowledges_everything}
use Rattle.pipe_laws.specs.KeptClaims.{KeepsClaims}

pub keeps_claims : (topology : Topology) (before : History) → IsSound topology → is_legal topology before ≡ true → KeepsClaims topology before
keeps_claims topology before sound legal = record {
  sound = sound;
  legal = legal;
  ledger = λ u. keeps_ledger topology before u sound legal;
  one_place_each = one_place_each topology before legal;
  settled_for_good = λ later n. stays_settled topology later before n;
  acknowledged_once = λ n. acknowledged_once topology before n sound legal;
  legs_settle_once = λ later batch leg. leg_stays_settled topology later before batch leg;
  nothing_left = leaves_nothing topology before legal;
  lossless = acknowledges_everything topology before sound legal;
}
