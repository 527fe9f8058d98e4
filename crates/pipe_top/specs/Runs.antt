-- What a call promises of its run, its texts, its outside and the calls by name.
use Rattle.std.specs.Prelude.{◌≡◌, ◌≢◌, ◌≤◌, ◌⊎◌, Bool, true, false, ℕ, List, [], ◌∷◌, ◌++◌, ◌-◌, take, length, All, IsTrue, IfSome, Option, Some, None, Ok, Err, if◌then◌else◌, nat_le}
use Rattle.pipe_types.specs.Counts.{Rose}
use Rattle.pipe_types.specs.declared.numbers.StageNo.{StageNo}
use Rattle.pipe_types.specs.declared.step.DrainCause.TheVariants.{Control, Limit, Idle}
use Rattle.pipe_types.specs.declared.step.SourceHow.TheVariants.{End}
use Rattle.pipe_types.specs.declared.step.Step.{Step}
use Rattle.pipe_types.specs.declared.step.Step.TheVariants.{Drain}
use Rattle.pipe_types.specs.Sound.{producers}
use Rattle.pipe_types.specs.declared.topology.Topology.{Topology}
use Rattle.pipe_model.specs.History.{History}
use Rattle.pipe_model.specs.Legal.{happened, is_halt, has_role, is_producer_role}
use Rattle.pipe_model.specs.Outside.{source_end}
use Rattle.pipe_model.specs.Acknowledgements.{is_lossless}
use Rattle.body_laws.specs.Passes.{all_pass}
use Rattle.pipe_edges.specs.declared.edges.EdgeKind.{EdgeKind}
use Rattle.pipe_edges.specs.declared.edges.EdgeKind.TheVariants.{File}
use Rattle.config_table.specs.Fault.{number_of}
use Rattle.journal_texts.specs.Report.{status_of}
use Rattle.journal_texts.specs.Acks.{ack_text}
use Rattle.program_words.specs.Refusals.{usage_line, topology_line, stock_line, edge_line, feed_line, memory_line, counts_line}
use Rattle.program_words.specs.Words.{Command}
use Rattle.pipe_config.specs.Upgrade.{IsUpgrade}
use Rattle.topology_needs.specs.Needs.{subscriptions_of}
use Rattle.source_lines.specs.Cut.{HasShortLines}
use Rattle.pipe_laws.specs.KeptClaims.{KeepsClaims}
use Rattle.pipe_laws.specs.Followed.{FollowsMoves}
use Rattle.pipe_laws.specs.Read.{HasNoControl}
use Rattle.rate_laws.specs.Rates.{KeepsRate}
use Rattle.stage_bodies.specs.Seen.{SourceSeen, SinkSeen, BoxSeen}
use Rattle.pipe_run.specs.Clocks.{ClockSeen}
use Rattle.edge_names.specs.Seen.{EdgesSeen}
use Rattle.pipe_run.specs.Boxes.{AreBoxesLeft, AreSameBoxes}
use Rattle.edge_names.specs.Supplies.{Feeds}
use Rattle.made_sources.specs.Records.{records_made}
use Rattle.pipe_run.specs.Records.{ReadsRecords}
use Rattle.pipe_run.specs.Outside.{IsOpenedInPartWith, IsOutsideWith, IsUnopenedWith}
use Rattle.pipe_run.specs.Whole.{HasCome, IsIdleWithin, IsTimeOf}
use Rattle.pipe_top.specs.Audits.{IsAuditOf, MayBeBack}
use Rattle.pipe_top.specs.Cases.{Feeding, MadeFrom, calls_of, feeds_of, Case, NoCommand, NoTopology, TooFew, Checks, Upgrades, Audits, Rejects, Runs}
use Rattle.run_verdicts.specs.Audits.{legal_text, fault_line, fault_status}
use Rattle.run_verdicts.specs.Texts.{run_text}
use Rattle.run_verdicts.specs.Verdicts.{Adds, AddsPrefix, path_of}

-- what a call may use, as contracts see it: what is opened by name, the clock, and the boxes of the stock
pub record OutsideSeen : Type 0 where
  pub edges : EdgesSeen
  pub clock : ClockSeen
  pub boxes : List BoxSeen

-- the journal is legal and keeps every claim, each step of the pipeline's own accord was the next move, nothing comes from a
-- control source where none is named, and no interval brings more records than a rate allows
pub record IsRun (topology : Topology) (before : History) : Type 0 where
  pub claims : KeepsClaims topology before
  pub moves : FollowsMoves topology before
  pub control : topology.control ≡ None → HasNoControl before
  pub rate : IfSome topology.rate (λ rate. KeepsRate rate before)

-- the journal of a run, or no topology and no step
abbrev pub IsRunOrNone : Option Topology → History → Type 0
IsRunOrNone None before = before ≡ []
IsRunOrNone (Some topology) before = IsRun topology before

-- the run is drained or halted, and the status is the journal's, but for that of a sink for live acknowledgements that failed
pub record IsEnded (topology : Topology) (before : History) (status : ℕ) : Type 0 where
  pub ended : HasCome topology before
  pub by_journal : status ≢ 12 → status ≡ status_of topology before

-- a run is ended on its topology, or a topology was checked, or the text of its file as version 2 was made, or a journal was found
-- legal, or could not be read
abbrev pub IsEndOf : Option Topology → History → (status : ℕ) → Case → Type 0
IsEndOf topology before status (Runs shows live feeding wanted) = (topology ≡ Some wanted) × IsEnded wanted before status
IsEndOf topology before status (Checks wanted) = (status ≡ 0) × (topology ≡ Some wanted) × (before ≡ [])
IsEndOf topology before status (Upgrades file text wanted) = (status ≡ 0) × (topology ≡ Some wanted) × (before ≡ []) × IsUpgrade file text
IsEndOf topology before status (Audits name summary wanted) = (status ≡ 0) × (topology ≡ Some wanted) × (before ≡ [])
IsEndOf topology before status (Rejects name fault wanted) = (status ≡ fault_status fault) × (topology ≡ None) × (before ≡ [])
IsEndOf topology before status _ = ⊥

-- a run, a check, an upgrade and the audit of a legal journal have the case's topology, but for the first without any step; all
-- else has none
abbrev pub IsOwnTopology : Option Topology → History → Case → Type 0
IsOwnTopology None before case = before ≡ []
IsOwnTopology (Some topology) before (Runs shows live feeding wanted) = topology ≡ wanted
IsOwnTopology (Some topology) before (Checks wanted) = (topology ≡ wanted) × (before ≡ [])
IsOwnTopology (Some topology) before (Upgrades file text wanted) = (topology ≡ wanted) × (before ≡ [])
IsOwnTopology (Some topology) before (Audits name summary wanted) = (topology ≡ wanted) × (before ≡ [])
IsOwnTopology (Some topology) before _ = ⊥

-- ---- texts

-- what is written to the output: the texts of a run, the counts of a topology that is only checked, the text of an upgrade, or what
-- a legal journal comes to
abbrev pub out_text : History → Case → List ℕ
out_text before (Checks topology) = counts_line (length topology.stages) (subscriptions_of topology)
out_text before (Upgrades file text topology) = text
out_text before (Audits name summary topology) = legal_text summary
out_text before (Runs shows live feeding topology) = run_text shows topology before
out_text before _ = []

-- the same, and nothing where there was no topology of its own
abbrev pub text_of_call : Option Topology → History → Case → List ℕ
text_of_call None before case = []
text_of_call (Some topology) before case = out_text before case

-- the line of a run whose sink for live acknowledgements failed
abbrev pub live_line : Option (List ℕ) → List ℕ
live_line None = []
live_line (Some name) = feed_line name

-- why there is no run, but for a call by name that failed and want of memory; and the line of a run whose live sink failed
abbrev pub case_line : Case → List ℕ
case_line NoCommand = usage_line
case_line (NoTopology fault) = topology_line (number_of fault) (path_of fault)
case_line (TooFew shortage) = stock_line shortage.kind shortage.need shortage.have
case_line (Checks topology) = []
case_line (Upgrades file text topology) = []
case_line (Audits name summary topology) = []
case_line (Rejects name fault topology) = fault_line fault
case_line (Runs shows live feeding topology) = live_line live

-- what is written to the error output under a status that is none of 5, 8 and 9
abbrev pub error_text : (status : ℕ) → Case → List ℕ
error_text status case = if nat_le status 4 then [] else case_line case

-- ---- statuses

-- the statuses of a run that went to its end, or of a check; those of a refusal; and those where nothing was opened
abbrev pub IsEndStatus : ℕ → Type 0
IsEndStatus status = (status ≤ 4) ⊎ (status ≡ 12)

-- the statuses of a call
abbrev pub IsKnownStatus : ℕ → Type 0
IsKnownStatus status = (status ≤ 9) ⊎ ((status ≡ 11) ⊎ (status ≡ 12))

abbrev pub IsRefusalStatus : ℕ → Type 0
IsRefusalStatus status = (status ≡ 5) ⊎ ((status ≡ 6) ⊎ (status ≡ 7))

abbrev pub IsUnopenedStatus : ℕ → Type 0
IsUnopenedStatus status = (status ≡ 6) ⊎ (status ≡ 7)

-- this status, unless a write failed or memory was wanting
abbrev pub IsOr : (wanted status : ℕ) → Type 0
IsOr wanted status = (status ≡ wanted) ⊎ ((status ≡ 8) ⊎ (status ≡ 9))

-- those of a run that went to its end: 12 only where there is a sink for live acknowledgements
abbrev pub IsRunStatus : (live : Option (List ℕ)) → ℕ → Type 0
IsRunStatus None status = status ≤ 4
IsRunStatus (Some name) status = (status ≤ 4) ⊎ (status ≡ 12)

-- what a status says of whether that sink failed: under 12 it did, and where it did the status is 12, unless another write failed or
-- memory was wanting
abbrev pub SaysUnfed : (status : ℕ) → (unfed : Bool) → Type 0
SaysUnfed status true = IsOr 12 status
SaysUnfed status false = status ≢ 12

-- the status of each case, but for 5, 8 and 9
abbrev pub IsStatusOf : (status : ℕ) → Case → Type 0
IsStatusOf status NoCommand = status ≡ 7
IsStatusOf status (NoTopology fault) = status ≡ 6
IsStatusOf status (TooFew shortage) = status ≡ 6
IsStatusOf status (Checks topology) = status ≡ 0
IsStatusOf status (Upgrades file text topology) = status ≡ 0
IsStatusOf status (Audits name summary topology) = status ≡ 0
IsStatusOf status (Rejects name fault topology) = status ≡ fault_status fault
IsStatusOf status (Runs shows live feeding topology) = IsRunStatus live status

-- ---- calls by name

-- the first so many of these calls were made
pub record Asks (calls asked asked' : List (EdgeKind × List ℕ)) : Type 0 where
  pub count : ℕ
  pub is : asked' ≡ asked ++ take count calls

-- a call by this name failed, and it was the last
pub record FailsAt (told : Bool) (calls asked asked' : List (EdgeKind × List ℕ)) (fault : Type 0) (name : List ℕ) : Type 0 where
  pub kind : EdgeKind
  pub front : List (EdgeKind × List ℕ)
  pub rest : List (EdgeKind × List ℕ)
  pub parts : calls ≡ front ++ (kind, name) ∷ rest
  pub is_last : IsTrue told → asked' ≡ asked ++ (front ++ (kind, name) ∷ [])
  pub rose : fault

-- ---- the outside

-- nothing was opened or given back, and neither the clock nor a box was used
pub record IsUntouched (old new : OutsideSeen) : Type 0 where
  pub sources : new.edges.sources_back ≡ old.edges.sources_back
  pub sinks : new.edges.sinks_back ≡ old.edges.sinks_back
  pub clock : new.clock ≡ old.clock
  pub boxes : new.boxes ≡ old.boxes

-- a run read, wrote and gave back what its topology names, its time is the clock's, its rows of quiet answers keep to the idle
-- limit, and its stages used the boxes; where memory was wanting, in part. Its sink for live acknowledgements, if one is named, was
-- opened behind all that, got a first part of their text, all of it unless it failed or memory was wanting, and was given back last;
-- the call says whether it failed
pub record HasUsed (feeds : Feeds) (live : Option (List ℕ)) (memory : Type 0) (says : Bool → Type 0) (topology : Topology) (before : History) (old new : OutsideSeen) : Type 0 where
  pub whole : Bool
  pub wanting : whole ≡ false → memory
  pub unfed : Bool
  pub said : says unfed
  pub outside : IsOutsideWith feeds whole topology before live (ack_text topology before) unfed old.edges new.edges
  pub time : IsTimeOf whole before old.clock new.clock
  pub idle : IsTrue whole → IsIdleWithin topology before
  pub boxes : AreBoxesLeft whole topology before old.boxes new.boxes

-- nothing was given back
abbrev pub IsNothingBack : (old new : EdgesSeen) → Type 0
IsNothingBack old new = (new.sources_back ≡ old.sources_back) × (new.sinks_back ≡ old.sinks_back)

-- a call by name failed, and what was opened before it was given back; where it was to read the topology file, nothing was opened
pub record IsGivenUp (feeds : Feeds) (live : Option (List ℕ)) (calls : List (EdgeKind × List ℕ)) (topology : Topology) (old new : EdgesSeen) : Type 0 where
  pub name : List ℕ
  pub fails : FailsAt old.told calls old.asked new.asked (Rose old.faults new.faults) name
  pub back : ((fails.kind ≡ File) × IsNothingBack old new) ⊎ IsUnopenedWith feeds topology live name fails.rest old new

-- memory was wanting before the run began: so many of the calls were made, and no source or sink was opened, or what was opened
-- was given back, unread and unwritten, as far as there was memory for that
pub record IsBrokenOff (feeds : Feeds) (live : Option (List ℕ)) (calls : List (EdgeKind × List ℕ)) (topology : Topology) (old new : EdgesSeen) : Type 0 where
  pub front : List (EdgeKind × List ℕ)
  pub rest : List (EdgeKind × List ℕ)
  pub parts : calls ≡ front ++ rest
  pub asked : IsTrue old.told → new.asked ≡ old.asked ++ front
  pub back : (All (λ call. call.0 ≡ File) front × IsNothingBack old new) ⊎ IsOpenedInPartWith feeds topology live rest old new

-- a run did not begin, since memory was wanting or a call by name failed: the clock was not used, and the boxes are the same,
-- though some may be armed
pub record HasNotBegun (feeds : Feeds) (live : Option (List ℕ)) (memory : Type 0) (calls : List (EdgeKind × List ℕ)) (topology : Topology) (old new : OutsideSeen) : Type 0 where
  pub edges : (memory × IsBrokenOff feeds live calls topology old.edges new.edges) ⊎ IsGivenUp feeds live calls topology old.edges new.edges
  pub clock : new.clock ≡ old.clock
  pub boxes : AreSameBoxes old.boxes new.boxes

abbrev pub HasRunOrNot : (feeds : Feeds) → (live : Option (List ℕ)) → (memory : Type 0) → (says : Bool → Type 0) → (calls : List (EdgeKind × List ℕ)) → (wanted : Topology) → Option Topology → History → (old new : OutsideSeen) → Type 0
HasRunOrNot feeds live memory says calls wanted (Some topology) before old new = HasUsed feeds live memory says wanted before old new
HasRunOrNot feeds live memory says calls wanted None before old new = HasNotBegun feeds live memory calls wanted old new

-- at most the journal's source was given back, and neither the clock nor a box was used
pub record IsJournalBack (name : List ℕ) (old new : OutsideSeen) : Type 0 where
  pub sources : MayBeBack name old.edges new.edges
  pub sinks : new.edges.sinks_back ≡ old.edges.sinks_back
  pub clock : new.clock ≡ old.clock
  pub boxes : new.boxes ≡ old.boxes

-- what a call does to its outside, with the calls by name that its case makes
abbrev pub IsOutsideOf : (memory : Type 0) → (says : Bool → Type 0) → (calls : List (EdgeKind × List ℕ)) → Option Topology → History → Case → (old new : OutsideSeen) → Type 0
IsOutsideOf memory says calls topology before (Runs shows live feeding wanted) old new = HasRunOrNot (feeds_of feeding wanted) live memory says calls wanted topology before old new
IsOutsideOf memory says calls topology before (Audits name summary wanted) old new = IsJournalBack name old new
IsOutsideOf memory says calls topology before (Rejects name fault wanted) old new = IsJournalBack name old new
IsOutsideOf memory says calls topology before _ old new = IsUntouched old new

-- the sink for live acknowledgements failed: it was given back behind all else, and its faults, which were none, rose
pub record IsUnfedBy (name : List ℕ) (new : EdgesSeen) : Type 0 where
  pub front : List (List ℕ × SinkSeen)
  pub sink : SinkSeen
  pub last : new.sinks_back ≡ front ++ (name, sink) ∷ []
  pub fault : Rose 0 sink.faults

abbrev pub IsUnfed : (live : Option (List ℕ)) → (new : EdgesSeen) → Type 0
IsUnfed None new = ⊥
IsUnfed (Some name) new = IsUnfedBy name new

abbrev pub IsUnfedIn : Case → (new : EdgesSeen) → Type 0
IsUnfedIn (Runs shows live feeding wanted) new = IsUnfed live new
IsUnfedIn _ new = ⊥

-- ---- the journal of an audit

-- it was read and given back, and this is what was found of it
abbrev pub IsAuditedIn : Case → (old new : EdgesSeen) → Type 0
IsAuditedIn (Audits name summary wanted) old new = IsAuditOf name (Ok summary) wanted old new
IsAuditedIn (Rejects name fault wanted) old new = IsAuditOf name (Err fault) wanted old new
IsAuditedIn _ old new = Unit {0}

-- ---- generated records

-- of the records that the seed gives each producer read its share, in order, as far as the journal says: all of it where its
-- source came to its end. No source failed or, where there is no rate, had nothing ready, unless memory was wanting
pub record ReadShares (memory : Type 0) (seed count : ℕ) (topology : Topology) (before : History) : Type 0 where
  pub whole : Bool
  pub wanting : whole ≡ false → memory
  pub reads : (p : StageNo) → has_role topology p is_producer_role ≡ true
      → ReadsRecords whole topology.rate before p (records_made seed (length (producers topology.stages)) (p.0 - 1) count)

abbrev pub AreShares : (memory : Type 0) → Option Topology → Feeding → (wanted : Topology) → History → Type 0
AreShares memory (Some topology) (MadeFrom seed count) wanted before = ReadShares memory seed count wanted before
AreShares memory topology feeding wanted before = Unit {0}

-- a run over generated records read these
abbrev pub ReadsGenerated : (memory : Type 0) → Option Topology → History → Case → Type 0
ReadsGenerated memory topology before (Runs shows live feeding wanted) = AreShares memory topology feeding wanted before
ReadsGenerated memory topology before _ = Unit {0}

-- ---- completeness

-- the source had no fault, and it tells its bytes, of which no line is too long
pub record IsFaultless (source : SourceSeen) : Type 0 where
  pub no_fault : ¬ Rose 0 source.faults
  pub tells : IsTrue source.told
  pub short : HasShortLines (source.taken ++ source.left)

-- each source that was given back since, the control source too, is faultless
abbrev pub AreFaultless : (old new : EdgesSeen) → Type 0
AreFaultless old new =
    (back : List (List ℕ × SourceSeen)) → new.sources_back ≡ old.sources_back ++ back → All (λ given. IsFaultless given.1) back

-- the sink for live acknowledgements, which is given back behind all else, has no fault
abbrev pub IsWellFed : (live : Option (List ℕ)) → (old new : EdgesSeen) → Type 0
IsWellFed None old new = Unit {0}
IsWellFed (Some name) old new = (back : List (List ℕ × SinkSeen)) (sink : SinkSeen) → new.sinks_back ≡ old.sinks_back ++ (back ++ (name, sink) ∷ []) → ¬ Rose 0 sink.faults

abbrev pub IsWellFedIn : Case → (old new : EdgesSeen) → Type 0
IsWellFedIn (Runs shows live feeding wanted) old new = IsWellFed live old new
IsWellFedIn _ old new = Unit {0}

-- the step begins the drain since a limit is reached
abbrev pub is_limit_drain : Step → Bool
is_limit_drain (Drain Limit) = true
is_limit_drain _ = false

-- the step begins the drain since a control line asks for it
abbrev pub is_control_drain : Step → Bool
is_control_drain (Drain Control) = true
is_control_drain _ = false

-- the step begins the drain since the idle limit is reached
abbrev pub is_idle_drain : Step → Bool
is_idle_drain (Drain Idle) = true
is_idle_drain _ = false

-- every source but the control source was read to its end
abbrev pub IsReadWhole : Topology → History → Type 0
IsReadWhole topology before = (p : StageNo) → has_role topology p is_producer_role ≡ true → source_end before p ≡ Some End

-- the run came to its end, unless memory was wanting; then every source was read to its end, or a limit was reached, or the idle
-- limit, or a control line asked for the drain, or the run was halted; and where nothing was lost, each reply is a pass and each outcome of a
-- batch a success, the status is 0
pub record IsComplete (topology : Topology) (before : History) (status : ℕ) : Type 0 where
  pub status_is : (status ≤ 3) ⊎ (status ≡ 9)
  pub whole : status ≢ 9
      → IsReadWhole topology before
      ⊎ (IsTrue (happened is_limit_drain before)
      ⊎ (IsTrue (happened is_idle_drain before) ⊎ (IsTrue (happened is_control_drain before) ⊎ IsTrue (happened is_halt before))))
  pub clean : status ≢ 9 → IsTrue (is_lossless topology before) → IsTrue (all_pass before) → status ≡ 0

-- a run is complete
abbrev pub IsCompleteIn : History → (status : ℕ) → Case → Type 0
IsCompleteIn before status (Runs shows live feeding topology) = IsComplete topology before status
IsCompleteIn before status _ = Unit {0}

-- ---- writes

-- the call came to a report, whatever its status
pub record IsReportOf (topology : Option Topology) (before : History) (case : Case) : Type 0 where
  pub status : ℕ
  pub end_of : IsEndOf topology before status case

-- the case is a refusal
abbrev pub IsRefusal : Case → Type 0
IsRefusal NoCommand = Unit {0}
IsRefusal (NoTopology fault) = Unit {0}
IsRefusal (TooFew shortage) = Unit {0}
IsRefusal (Rejects name fault wanted) = Unit {0}
IsRefusal _ = ⊥

-- there was no run, since the case is a refusal or a call by name failed
pub record IsRefused (fails : List ℕ → Type 0) (topology : Option Topology) (before : History) (case : Case) : Type 0 where
  pub no_topology : topology ≡ None
  pub no_step : before ≡ []
  pub why : IsRefusal case ⊎ ((name : List ℕ) × fails name)

-- a write failed: of the texts of a whole run or a check, and nothing was written to the error output; of those, or of the line of a run
-- whose live sink failed; or of the line of a refusal
abbrev pub Lost : (reported out_fault quiet unfed refused err_fault : Type 0) → Type 0
Lost reported out_fault quiet unfed refused err_fault = (reported × out_fault × quiet) ⊎ ((reported × unfed × (out_fault ⊎ err_fault)) ⊎ (refused × err_fault))

-- ---- lines of a call that failed

-- the call that failed is named on the error output
pub record NamesFault (told : Bool) (calls asked asked' : List (EdgeKind × List ℕ)) (fault : Type 0) (err_told : Bool) (held held' : List ℕ) : Type 0 where
  pub name : List ℕ
  pub fails : FailsAt told calls asked asked' fault name
  pub written : IsTrue err_told → Adds held held' (edge_line name)

-- there was no run, and the line names the call that failed
pub record IsEdgeLine (told : Bool) (calls asked asked' : List (EdgeKind × List ℕ)) (fault : Type 0) (topology : Option Topology) (text : List ℕ) : Type 0 where
  pub no_run : topology ≡ None
  pub name : List ℕ
  pub fails : FailsAt told calls asked asked' fault name
  pub is : text ≡ edge_line name

-- a front of one line was written: of the case, of want of memory, or of the call that failed
pub record BeginsLine (told : Bool) (calls asked asked' : List (EdgeKind × List ℕ)) (fault : Type 0) (topology : Option Topology) (status : ℕ) (held held' : List ℕ) (case : Case) : Type 0 where
  pub text : List ℕ
  pub is_one : (text ≡ []) ⊎ ((text ≡ case_line case) ⊎ (((text ≡ memory_line) × (status ≡ 9)) ⊎ IsEdgeLine told calls asked asked' fault topology text))
  pub begun : AddsPrefix held held' text

-- ---- the call

-- what a call comes to in its case
pub record IsCall (old new : OutsideSeen) (out out' err err' : SinkSeen) (command : Option Command) (topology : Option Topology) (before : History) (status : ℕ) (case : Case) : Type 0 where
  pub own : IsOwnTopology topology before case
  -- under 0 to 4 and 12 the run is drained or halted, and but for 12 the status is the journal's, or a topology was checked, or the
  -- case's text is the file as version 2, or a journal was found legal, or a read of it failed; the output is the case's text
  pub ended : IsEndStatus status → IsEndOf topology before status case
  pub report : IsEndStatus status → IsTrue out.told → Adds out.held out'.held (out_text before case)
  -- under every status the output is a front of that text
  pub output : IsTrue out.told → AddsPrefix out.held out'.held (text_of_call topology before case)
  -- each case has its status, and the error output its text, but for 5, 8 and 9
  pub has_status : status ≢ 5 → status ≢ 8 → status ≢ 9 → IsStatusOf status case
  pub errors : status ≢ 5 → status ≢ 8 → status ≢ 9 → IsTrue err.told → Adds err.held err'.held (error_text status case)
  pub errors_begun : IsTrue err.told
      → BeginsLine old.edges.told (calls_of command case) old.edges.asked new.edges.asked (Rose old.edges.faults new.edges.faults) topology status err.held err'.held case
  -- 5: a call by name failed, and it was the last; the error output names it
  pub edge : status ≡ 5 → NamesFault old.edges.told (calls_of command case) old.edges.asked new.edges.asked (Rose old.edges.faults new.edges.faults) err.told err.held err'.held
  -- 8: a write failed
  pub lost : status ≡ 8
      → Lost (IsReportOf topology before case) (Rose out.faults out'.faults) (IsTrue err.told → err'.held ≡ err.held)
      (IsUnfedIn case new.edges)
      (IsRefused (FailsAt old.edges.told (calls_of command case) old.edges.asked new.edges.asked (Rose old.edges.faults new.edges.faults)) topology before case) (Rose err.faults err'.faults)
  -- 12: the sink for live acknowledgements failed
  pub unfed : status ≡ 12 → IsUnfedIn case new.edges
  -- what was opened was read, written and given back as the journal says; so with the clock and the boxes. The sink for live
  -- acknowledgements got them as the run says, and under 0 to 4 all of them
  pub outside : IsOutsideOf (status ≡ 9) (SaysUnfed status) (calls_of command case) topology before case old new
  -- what an audit found is what the text of the journal says, which was opened, read and given back
  pub audited : status ≢ 5 → status ≢ 8 → status ≢ 9 → IsAuditedIn case old.edges new.edges
  -- where records were generated, each producer accepted the first of its share
  pub generated : ReadsGenerated (status ≡ 9) topology before case
  -- where no call by name and no write failed, none of the sink for live acknowledgements either, and each source, the control source
  -- too, tells its bytes, never failed and has no line that is too long, a run came to its end, unless memory was wanting
  pub complete : ¬ Rose old.edges.faults new.edges.faults → ¬ Rose out.faults out'.faults → ¬ Rose err.faults err'.faults → AreFaultless old.edges new.edges → IsWellFedIn case old.edges new.edges
      → IsCompleteIn before status case
  -- the edges tell as before
  pub told : new.edges.told ≡ old.edges.told
  -- the calls by name: the topology file is read, and then the sources and sinks of a run are opened
  pub asks : IsTrue old.edges.told → Asks (calls_of command case) old.edges.asked new.edges.asked
  pub asks_all : status ≢ 5 → status ≢ 8 → status ≢ 9 → IsTrue old.edges.told → new.edges.asked ≡ old.edges.asked ++ calls_of command case
