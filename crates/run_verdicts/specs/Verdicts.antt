-- What is written, and with which status.
use Rattle.std.specs.Prelude.{if◌then◌else◌, Bool, ◌≡◌, ◌≢◌, ◌⊎◌, ℕ, List, [], ◌++◌, take, Option, Some, None}
use Rattle.config_table.specs.declared.fault.ConfigFault.{ConfigFault}
use Rattle.config_table.specs.declared.fault.ConfigFault.TheVariants.{NotToml, Version, UnknownKey, Missing, WrongType, OutOfRange, DuplicateName, UnknownBatcher, NoStage, TooManyStages, BadDispatch, Unreachable, OutOfMemory}
use Rattle.config_table.specs.Fault.{number_of}
use Rattle.pipe_types.specs.declared.topology.Topology.{Topology}
use Rattle.pipe_types.specs.Sound.{IsSound}
use Rattle.pipe_model.specs.History.{History}
use Rattle.pipe_journal.specs.Recorded.{Recorded}
use Rattle.pipe_journal.specs.Acked.{IsLog}
use Rattle.journal_texts.specs.Steps.{journal_text}
use Rattle.journal_texts.specs.Acks.{ack_text}
use Rattle.program_words.specs.Refusals.{usage_line, topology_line, stock_line, edge_line, memory_line}
use Rattle.run_verdicts.specs.Audits.{fault_line, fault_status}
use Rattle.run_verdicts.specs.declared.verdict.Refusal.{Refusal}
use Rattle.run_verdicts.specs.declared.verdict.Refusal.TheVariants.{Usage, Topology as NoTopology, Stock, Edge, Audit, Memory}
use Rattle.run_verdicts.specs.declared.verdict.Texts.{Texts}
use Rattle.run_verdicts.specs.declared.verdict.Verdict.{Verdict}
use Rattle.run_verdicts.specs.declared.verdict.Verdict.TheVariants.{Refused, Done, Unfed}

-- exactly this text was written
abbrev pub Adds : (held held' text : List ℕ) → Type 0
Adds held held' text = held' ≡ held ++ text

-- a front of the text was written, maybe all or nothing
pub record AddsPrefix (held held' text : List ℕ) : Type 0 where
  pub count : ℕ
  pub is : held' ≡ held ++ take count text

-- the place in the file, where the fault names one
abbrev pub path_of : ConfigFault → Option (List ℕ)
path_of NotToml = None
path_of (Version path) = Some path
path_of (UnknownKey path) = Some path
path_of (Missing path) = Some path
path_of (WrongType path) = Some path
path_of (OutOfRange path) = Some path
path_of (DuplicateName path) = Some path
path_of (UnknownBatcher path) = Some path
path_of NoStage = None
path_of TooManyStages = None
path_of (BadDispatch path) = Some path
path_of (Unreachable path) = Some path
path_of OutOfMemory = None

abbrev pub refusal_text : Refusal → List ℕ
refusal_text Usage = usage_line
refusal_text (NoTopology fault) = topology_line (number_of fault) (path_of fault)
refusal_text (Stock shortage) = stock_line shortage.kind shortage.need shortage.have
refusal_text (Edge name) = edge_line name
refusal_text (Audit fault) = fault_line fault
refusal_text Memory = memory_line

abbrev pub refusal_status : Refusal → ℕ
refusal_status Usage = 7
refusal_status (NoTopology fault) = 6
refusal_status (Stock shortage) = 6
refusal_status (Edge name) = 5
refusal_status (Audit fault) = fault_status fault
refusal_status Memory = 9

-- the acknowledgements of the journal by the topology, where there is one
abbrev pub acks_in : Option Topology → History → List ℕ
acks_in None before = []
acks_in (Some topology) before = ack_text topology before

-- the topology, where this is so
abbrev pub when : Bool → Topology → Option Topology
when wanted topology = if wanted then Some topology else None

abbrev pub shown : Bool → List ℕ → List ℕ
shown wanted text = if wanted then text else []

-- the journal and the acknowledgements, where they are shown, and then the last text
abbrev pub whole_text : History → Texts → List ℕ
whole_text before texts = shown texts.steps (journal_text before) ++ (acks_in texts.acks before ++ texts.last)

-- the journal's log is that of what it acknowledges by the topology, where there is one
abbrev pub IsLogged : Option Topology → Recorded → Type 0
IsLogged None journal = Unit {0}
IsLogged (Some topology) journal = IsSound topology × IsLog topology journal.steps journal.acked.rows

-- the texts of the verdict can be written of this journal
abbrev pub CanBeShown : Verdict → Recorded → Type 0
CanBeShown (Done texts status) journal = IsLogged texts.acks journal
CanBeShown (Unfed texts line) journal = IsLogged texts.acks journal
CanBeShown (Refused refusal) journal = Unit {0}

-- what a verdict writes to the output and to the error output, and its status
abbrev pub out_text_of : History → Verdict → List ℕ
out_text_of before (Done texts status) = whole_text before texts
out_text_of before (Unfed texts line) = whole_text before texts
out_text_of before (Refused refusal) = []

abbrev pub err_text_of : Verdict → List ℕ
err_text_of (Done texts status) = []
err_text_of (Unfed texts line) = line
err_text_of (Refused refusal) = refusal_text refusal

abbrev pub status_in : Verdict → ℕ
status_in (Done texts status) = status
status_in (Unfed texts line) = 12
status_in (Refused refusal) = refusal_status refusal

-- a report fails at the output, a refusal at the error output, and the failure of the live sink at either
abbrev pub FaultBy : Verdict → (out err : Type 0) → Type 0
FaultBy (Done texts status) out err = out
FaultBy (Unfed texts line) out err = out ⊎ err
FaultBy (Refused refusal) out err = err

-- with a report alone nothing is written to the error output
abbrev pub QuietBy : Verdict → (quiet : Type 0) → Type 0
QuietBy (Done texts status) quiet = quiet
QuietBy (Unfed texts line) quiet = Unit {0}
QuietBy (Refused refusal) quiet = Unit {0}

-- what comes of a refusal, and of a report whose own status is not 9
abbrev pub UnlessNine : Verdict → (holds : Type 0) → Type 0
UnlessNine (Done texts status) holds = status ≢ 9 → holds
UnlessNine (Unfed texts line) holds = holds
UnlessNine (Refused refusal) holds = holds
