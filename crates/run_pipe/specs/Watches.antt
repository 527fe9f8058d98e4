-- The watch of a pipe: what contracts see of it, and what it has seen of the journal.
use Rattle.std.specs.Prelude.{◌≡◌, ◌≤◌, ℕ, List, Bool, false, IsTrue, Option}
use Rattle.pipe_types.specs.Counts.{Rose}
use Rattle.pipe_types.specs.declared.topology.Topology.{Topology}
use Rattle.pipe_model.specs.Begins.{BeginsWith}
use Rattle.pipe_model.specs.History.{History}

-- what it began with, whether it has failed, and how often something of it failed
pub record WatchSeen : Type 0 where
  pub begun : Option (List ℕ)
  pub failed : Bool
  pub faults : ℕ

abbrev pub watch_seen : {W : Type 0} → (begun : W → Option (List ℕ)) → (failed : W → Bool) → (faults : W → ℕ) → W → WatchSeen
watch_seen begun failed faults watch = record { begun = begun watch; failed = failed watch; faults = faults watch }

-- it began with the same; and where it has failed since, its faults rose
pub record KeepsWatch (opened watch : WatchSeen) : Type 0 where
  pub begun : watch.begun ≡ opened.begun
  pub faulty : IsTrue watch.failed → opened.failed ≡ false → Rose opened.faults watch.faults
  pub faults_stay : opened.faults ≤ watch.faults

-- it fits the topology, and has seen a part of these steps: all of them, unless it has failed or memory was wanting
pub record HasSeen (fits : Topology → Type 0) (stands : History → Type 0) (failed : Bool) (memory : Type 0) (topology : Topology) (steps : History) : Type 0 where
  pub fit : fits topology
  pub part : (earlier : History) × stands earlier × BeginsWith steps earlier
  pub all : failed ≡ false → memory → stands steps
