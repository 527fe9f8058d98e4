-- The laws as the clauses state them.
use Rattle.std.proofs.Common.{◌≡◌, ℕ, ◌+◌, ◌≤◌, List, ◌∷◌, length, true, Some}
use Rattle.std.specs.Prelude.{IsTrue}
use Rattle.std.specs.List.{list_any}
use Rattle.pipe_types.specs.declared.numbers.StageNo.{StageNo}
use Rattle.pipe_types.specs.declared.numbers.SubNo.{SubNo}
use Rattle.pipe_types.specs.declared.numbers.BatchNo.{BatchNo}
use Rattle.pipe_types.specs.declared.topology.Topology.{Topology}
use Rattle.pipe_types.specs.declared.message.Place.TheVariants.{Running, InBatch}
use Rattle.pipe_types.specs.Stages.{spec_of}
use Rattle.pipe_types.specs.Sound.{IsSound}
use Rattle.pipe_model.specs.History.{History, accepted, closed}
use Rattle.pipe_model.specs.Posts.{in_slot, slots}
use Rattle.pipe_model.specs.Flow.{place, batch, view_of, waiting, among, numbers_in, open_batch_by, is_number}
use Rattle.pipe_model.specs.Ledger.{handled}
use Rattle.pipe_model.specs.Legal.{is_legal, has_role, is_supervisor_role, batch_size_in, fetches_out}
use Rattle.queue_laws.proofs.Sounds.{fits}
use Rattle.stage_laws.specs.Numbered.{IsNumberedTopology}
use Rattle.stage_laws.specs.Running.{running_after}
use Rattle.pipe_types.specs.declared.step.Step.{Step}
use Rattle.pipe_model.specs.Standing.{running}
use Rattle.stage_laws.proofs.Steps.{runs_step}
use Rattle.stage_laws.proofs.Numbering.{numbered_topology}
use Rattle.stage_laws.proofs.Records.{accepted_within, accepted_small}
use Rattle.stage_laws.proofs.Sizes.{batch_within}
use Rattle.stage_laws.proofs.Bounds.{closed_few, waiting_few, handled_few}
use Rattle.stage_laws.proofs.Settling.{in_numbers}
use Rattle.stage_laws.proofs.FewSlots.{slot_there}

pub numbered_law : (topology : Topology) → IsSound topology → IsNumberedTopology topology
numbered_law topology sound = numbered_topology topology sound

pub records_law : (topology : Topology) (before : History) → IsSound topology → IsTrue (is_legal topology before) → accepted before + fetches_out topology before ≤ topology.record_limit
records_law topology before sound h = accepted_within topology before sound h

pub small_law : (topology : Topology) (before : History) → IsSound topology → IsTrue (is_legal topology before) → accepted before ≤ 2000000
small_law topology before sound h = accepted_small topology before sound h

pub closed_law : (topology : Topology) (before : History) → IsTrue (is_legal topology before) → closed before ≤ accepted before
closed_law topology before h = closed_few topology before h

pub waiting_law : (topology : Topology) (before : History) (s : StageNo) → IsSound topology → IsTrue (is_legal topology before) → length (waiting topology before s) ≤ accepted before
waiting_law topology before s sound h = waiting_few topology before s (fits topology sound) h

pub handled_law : (topology : Topology) (before : History) (u : SubNo) → IsSound topology → IsTrue (is_legal topology before) → handled topology before u ≤ accepted before
handled_law topology before u sound h = handled_few topology before u (fits topology sound) h

pub size_law : (topology : Topology) (before : History) (s : StageNo) (key : List ℕ) → IsSound topology → IsTrue (is_legal topology before) → length (open_batch_by before (view_of topology before) s key) ≤ batch_size_in (spec_of topology s)
size_law topology before s key sound h = batch_within topology before s key (fits topology sound) h

pub in_batch_law : (topology : Topology) (before : History) (n : ℕ) (b : BatchNo) → place topology before n ≡ Some (InBatch b) → among (numbers_in (batch topology before b.0)) n ≡ true
in_batch_law topology before n b e = in_numbers topology before n b e

pub slot_law : (topology : Topology) (before : History) (s : StageNo) (n : ℕ) → IsSound topology → IsTrue (is_legal topology before) → IsTrue (has_role topology s is_supervisor_role) → place topology before n ≡ Some (Running s) → IsTrue (list_any (λ slot. is_number (in_slot before s slot) n) slots)
slot_law topology before s n sound h role e = slot_there topology before s n sound h role e

pub running_law : (topology : Topology) (before : History) (step : Step) (s : StageNo) → IsSound topology → IsTrue (is_legal topology (step ∷ before)) → running topology (step ∷ before) s ≡ running_after topology before step s (running topology before s)
running_law topology before step s sound h = runs_step topology before step s (fits topology sound) h
