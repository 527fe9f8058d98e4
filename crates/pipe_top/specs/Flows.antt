-- What the parts of a call come to.
use Rattle.std.specs.Prelude.{◌≡◌, ◌≢◌, ◌≤◌, ◌<◌, ◌^◌, ◌⊎◌, ℕ, Bool, true, false, List, [], ◌∷◌, ◌++◌, length, IsTrue, Option, Some, None, Result, Ok, Err}
use Rattle.pipe_types.specs.Counts.{Rose}
use Rattle.pipe_types.specs.Sound.{IsSound}
use Rattle.pipe_types.specs.declared.topology.StageSpec.{StageSpec}
use Rattle.pipe_types.specs.declared.topology.Topology.{Topology}
use Rattle.pipe_model.specs.History.{History}
use Rattle.pipe_edges.specs.declared.edges.EdgeKind.{EdgeKind}
use Rattle.pipe_edges.specs.declared.edges.EdgeKind.TheVariants.{File, Source}
use Rattle.config_table.specs.declared.fault.ConfigFault.{ConfigFault}
use Rattle.pipe_config.specs.Upgrade.{IsUpgrade}
use Rattle.pipe_top.specs.declared.file.Upgraded.{Upgraded}
use Rattle.program_words.specs.Refusals.{counts_line, feed_line}
use Rattle.program_words.specs.Words.{Command}
use Rattle.edge_names.specs.Seen.{EdgesSeen}
use Rattle.edge_names.specs.Supplies.{Feed}
use Rattle.topology_needs.specs.Needs.{subscriptions_of}
use Rattle.topology_needs.specs.declared.stock.Boxes.{Boxes}
use Rattle.topology_needs.specs.declared.stock.Shortage.{Shortage}
use Rattle.run_verdicts.specs.Judged.{Summary}
use Rattle.pipe_top.specs.Audits.{IsAuditOf, IsFound, FaultHasCause, MayBeBack}
use Rattle.pipe_top.specs.Cases.{Feeding, Named, Filed, MadeFrom, origin_of, Case, NoCommand, NoTopology as BadTopology, TooFew, Checks, Upgrades, Audits, Rejects, Runs, audit_case, case_of, calls_of, file_name, IsNamedFile}
use Rattle.run_verdicts.specs.Audits.{legal_text}
use Rattle.run_verdicts.specs.Verdicts.{whole_text, status_in}
use Rattle.run_verdicts.specs.declared.audits.AuditFault.{AuditFault}
use Rattle.stage_bodies.specs.Seen.{SourceSeen}
use Rattle.pipe_run.specs.Whole.{HasCome}
use Rattle.journal_texts.specs.Report.{status_of}
use Rattle.pipe_top.specs.Runs.{OutsideSeen, IsRun, IsOutsideOf, IsAuditedIn, Asks, FailsAt}
use Rattle.run_verdicts.specs.Texts.{run_text}
use Rattle.run_verdicts.specs.declared.verdict.Refusal.{Refusal}
use Rattle.run_verdicts.specs.declared.verdict.Refusal.TheVariants.{Usage, Topology as NoTopology, Stock, Edge, Audit, Memory}
use Rattle.run_verdicts.specs.declared.verdict.Shows.{Shows}
use Rattle.run_verdicts.specs.declared.verdict.Texts.{Texts}
use Rattle.run_verdicts.specs.declared.verdict.Verdict.{Verdict}
use Rattle.run_verdicts.specs.declared.verdict.Verdict.TheVariants.{Refused, Done, Unfed}

-- the run is drained or halted, the texts are the journal's, and so is the status
pub record IsReport (shows : Shows) (topology : Topology) (before : History) (texts : Texts) (status : ℕ) : Type 0 where
  pub ended : HasCome topology before
  pub status_is : status ≡ status_of topology before
  pub by_journal : whole_text before texts ≡ run_text shows topology before

-- the run is drained or halted, the texts are the journal's, and the line names the sink for live acknowledgements
pub record IsUnfedReport (shows : Shows) (live : Option (List ℕ)) (topology : Topology) (before : History) (texts : Texts) (line : List ℕ) : Type 0 where
  pub ended : HasCome topology before
  pub by_journal : whole_text before texts ≡ run_text shows topology before
  pub name : List ℕ
  pub named : live ≡ Some name
  pub line_is : line ≡ feed_line name

-- the verdict of a run that came to its end: its report, also where its live sink failed, unless memory was wanting
abbrev pub IsJudgement : Verdict → Shows → (live : Option (List ℕ)) → Topology → History → Type 0
IsJudgement (Done texts status) shows live topology before = IsReport shows topology before texts status
IsJudgement (Unfed texts line) shows live topology before = IsUnfedReport shows live topology before texts line
IsJudgement (Refused Memory) shows live topology before = Unit {0}
IsJudgement _ shows live topology before = ⊥

-- the verdict of a run whose sink of this name failed, unless memory was wanting for the line
abbrev pub IsUnfedOrNot : (name : List ℕ) → Texts → Verdict → Type 0
IsUnfedOrNot name texts (Unfed written line) = (written ≡ texts) × (line ≡ feed_line name)
IsUnfedOrNot name texts (Refused Memory) = Unit {0}
IsUnfedOrNot name texts _ = ⊥

-- what the verdict of a run says of whether its live sink failed
abbrev pub ShowsUnfed : Verdict → (unfed : Bool) → Type 0
ShowsUnfed (Done texts status) unfed = unfed ≡ false
ShowsUnfed (Unfed texts line) unfed = unfed ≡ true
ShowsUnfed (Refused Memory) unfed = Unit {0}
ShowsUnfed (Refused _) unfed = ⊥

-- there was no run, for this reason
pub record IsRefusedBy (refusal : Refusal) (topology : Option Topology) (before : History) (verdict : Verdict) : Type 0 where
  pub refused : verdict ≡ Refused refusal
  pub no_topology : topology ≡ None
  pub no_step : before ≡ []

-- there was no run, since a call by this name failed or memory was wanting
abbrev pub IsEarly : (fails : List ℕ → Type 0) → Option Topology → History → Verdict → Type 0
IsEarly fails None before (Refused Memory) = before ≡ []
IsEarly fails None before (Refused (Edge name)) = (before ≡ []) × fails name
IsEarly fails topology before verdict = ⊥

-- the topology was only checked
pub record IsChecked (wanted : Topology) (topology : Option Topology) (before : History) (verdict : Verdict) : Type 0 where
  pub texts : Texts
  pub counted : verdict ≡ Done texts 0
  pub counts : whole_text before texts ≡ counts_line (length wanted.stages) (subscriptions_of wanted)
  pub own : topology ≡ Some wanted
  pub run : IsRun wanted before
  pub no_step : before ≡ []

-- it was checked, unless memory was wanting
abbrev pub IsCheckedOrNot : (wanted : Topology) → Option Topology → History → Verdict → Type 0
IsCheckedOrNot wanted topology before verdict = IsRefusedBy Memory topology before verdict ⊎ IsChecked wanted topology before verdict

-- the text of the file as version 2 was made
pub record IsUpgraded (file text : List ℕ) (wanted : Topology) (topology : Option Topology) (before : History) (verdict : Verdict) : Type 0 where
  pub texts : Texts
  pub counted : verdict ≡ Done texts 0
  pub counts : whole_text before texts ≡ text
  pub upgrade : IsUpgrade file text
  pub own : topology ≡ Some wanted
  pub run : IsRun wanted before
  pub no_step : before ≡ []

-- a journal was found legal
pub record IsAudited (summary : Summary) (wanted : Topology) (topology : Option Topology) (before : History) (verdict : Verdict) : Type 0 where
  pub texts : Texts
  pub counted : verdict ≡ Done texts 0
  pub counts : whole_text before texts ≡ legal_text summary
  pub own : topology ≡ Some wanted
  pub run : IsRun wanted before
  pub no_step : before ≡ []

-- it was, unless memory was wanting for its text
abbrev pub IsAuditedOrNot : Summary → (wanted : Topology) → Option Topology → History → Verdict → Type 0
IsAuditedOrNot summary wanted topology before verdict = IsRefusedBy Memory topology before verdict ⊎ IsAudited summary wanted topology before verdict

-- the number of each record that is generated fits 32 bits
abbrev pub IsFew : Feeding → Type 0
IsFew Named = Unit {0}
IsFew Filed = Unit {0}
IsFew (MadeFrom seed count) = count < 2 ^ 32

-- a supply feeds the producers of this topology so
pub record IsFedBy (feeding : Feeding) (topology : Topology) (feeds : StageSpec → Option Feed) : Type 0 where
  pub is : feeds ≡ origin_of feeding topology
  pub few : IsFew feeding

-- a run on this topology
pub record IsRunOn (shows : Shows) (live : Option (List ℕ)) (feeding : Feeding) (wanted : Topology) (topology : Option Topology) (before : History) (verdict : Verdict) : Type 0 where
  pub sound : IsSound wanted
  pub few : IsFew feeding
  pub own : topology ≡ Some wanted
  pub run : IsRun wanted before
  pub comes_to : IsJudgement verdict shows live wanted before

-- what each case comes to, where no call by name failed and memory was found before the run
abbrev pub ComesTo : Case → Option Topology → History → Verdict → Type 0
ComesTo NoCommand topology before verdict = IsRefusedBy Usage topology before verdict
ComesTo (BadTopology fault) topology before verdict = IsRefusedBy (NoTopology fault) topology before verdict
ComesTo (TooFew shortage) topology before verdict = IsRefusedBy (Stock shortage) topology before verdict
ComesTo (Checks wanted) topology before verdict = IsChecked wanted topology before verdict
ComesTo (Upgrades file text wanted) topology before verdict = IsUpgraded file text wanted topology before verdict
ComesTo (Audits name summary wanted) topology before verdict = IsAudited summary wanted topology before verdict
ComesTo (Rejects name fault wanted) topology before verdict = IsRefusedBy (Audit fault) topology before verdict
ComesTo (Runs shows live feeding wanted) topology before verdict = IsRunOn shows live feeding wanted topology before verdict

-- the case's outcome, or there was no run before it came to one
abbrev pub Outcome : Case → (fails : List ℕ → Type 0) → Option Topology → History → Verdict → Type 0
Outcome case fails topology before verdict = IsEarly fails topology before verdict ⊎ ComesTo case topology before verdict

-- the refusal of a topology that does not run
abbrev pub refusal_in : Option Shortage → Option Refusal
refusal_in (Some shortage) = Some (Stock shortage)
refusal_in None = None

-- which calls were made: some of them where memory was wanting; else all, but for one that failed
abbrev pub AskedBy : Verdict → (calls asked asked' : List (EdgeKind × List ℕ)) → Type 0
AskedBy (Refused (Edge name)) calls asked asked' = Unit {0}
AskedBy (Refused Memory) calls asked asked' = Asks calls asked asked'
AskedBy _ calls asked asked' = asked' ≡ asked ++ calls

-- what a call comes to in a case, with the calls by name that the case makes
pub record ComesBy (old new : OutsideSeen) (case : Case) (calls : List (EdgeKind × List ℕ)) (topology : Option Topology) (before : History) (verdict : Verdict) : Type 0 where
  pub outcome : Outcome case (FailsAt old.edges.told calls old.edges.asked new.edges.asked (Rose old.edges.faults new.edges.faults)) topology before verdict
  pub outside : IsOutsideOf (verdict ≡ Refused Memory) (ShowsUnfed verdict) calls topology before case old new
  pub asked_by : IsTrue old.edges.told → AskedBy verdict calls old.edges.asked new.edges.asked
  pub same_telling : new.edges.told ≡ old.edges.told
  pub audited : status_in verdict ≢ 5 → status_in verdict ≢ 9 → IsAuditedIn case old.edges new.edges

-- the same in the case of the command, for the bytes of its file
pub record Came (old new : OutsideSeen) (command : Option Command) (boxes : Boxes) (topology : Option Topology) (before : History) (verdict : Verdict) : Type 0 where
  pub file : List ℕ
  pub text : List ℕ
  pub found : Result Summary AuditFault
  pub is_file : IsNamedFile old.edges.told old.edges.named (file_name command) file
  pub comes : ComesBy old new (case_of command file text found boxes) (calls_of command (case_of command file text found boxes)) topology before verdict

-- ---- the topology file

-- the file's topology, or why there is none
abbrev pub ReadsTopology : (expected : Result Topology ConfigFault) → (name : List ℕ) → (edge_fault : Type 0) → Result Topology Refusal → Type 0
ReadsTopology expected name edge_fault (Ok topology) = (expected ≡ Ok topology) × IsSound topology
ReadsTopology expected name edge_fault (Err (NoTopology fault)) = expected ≡ Err fault
ReadsTopology expected name edge_fault (Err (Edge other)) = (other ≡ name) × edge_fault
ReadsTopology expected name edge_fault (Err Memory) = Unit {0}
ReadsTopology expected name edge_fault (Err _) = ⊥

-- the call by name was made, unless memory was wanting
abbrev pub AskedFile : Result Topology Refusal → (call : EdgeKind × List ℕ) → (asked asked' : List (EdgeKind × List ℕ)) → Type 0
AskedFile (Err Memory) call asked asked' = Asks (call ∷ []) asked asked'
AskedFile _ call asked asked' = asked' ≡ asked ++ call ∷ []

-- what reading the topology file came to
pub record ReadsFile (old new : EdgesSeen) (name : List ℕ) (expected : List ℕ → Result Topology ConfigFault) (result : Result Topology Refusal) : Type 0 where
  pub file : List ℕ
  pub is_file : IsNamedFile old.told old.named (Some name) file
  pub reads : ReadsTopology (expected file) name (Rose old.faults new.faults) result
  pub asked_by : IsTrue old.told → AskedFile result (File, name) old.asked new.asked
  pub same_telling : new.told ≡ old.told
  pub same_names : IsTrue old.told → (kind : EdgeKind) (other : List ℕ) → new.named kind other ≡ old.named kind other
  pub same_sources : new.sources_back ≡ old.sources_back
  pub same_sinks : new.sinks_back ≡ old.sinks_back
  pub faults_stay : old.faults ≤ new.faults

-- ---- the file as version 2

-- the topology beside the text
abbrev pub topology_beside : Result Upgraded Refusal → Result Topology Refusal
topology_beside (Ok upgraded) = Ok upgraded.topology
topology_beside (Err refusal) = Err refusal

-- the text is that of the file
abbrev pub IsTextOf : (file : List ℕ) → Result Upgraded Refusal → Type 0
IsTextOf file (Ok upgraded) = IsUpgrade file upgraded.text
IsTextOf file (Err refusal) = Unit {0}

-- what reading the file for its upgrade came to
abbrev pub ReadsUpgrade : (old new : EdgesSeen) (name : List ℕ) (expected : List ℕ → Result Topology ConfigFault) (result : Result Upgraded Refusal) → Type 0
ReadsUpgrade old new name expected result = (r : ReadsFile old new name expected (topology_beside result)) × IsTextOf r.file result

-- what the bytes of a file come to
abbrev pub UpgradesTo : (expected : Result Topology ConfigFault) → (file : List ℕ) → Result Upgraded Refusal → Type 0
UpgradesTo expected file result = ReadsTopology expected [] ⊥ (topology_beside result) × IsTextOf file result

-- ---- the journal

-- the source was read, and this was found of what it told
pub record ReadsSource (end : Result Summary AuditFault) (wanted : Topology) (old new : SourceSeen) : Type 0 where
  pub same_telling : new.told ≡ old.told
  pub same_bytes : IsTrue old.told → old.taken ≡ [] → old.left ≡ new.taken ++ new.left
  pub found : IsTrue old.told → old.taken ≡ [] → IsFound wanted new.taken new.left end
  pub cause : FaultHasCause old.faults new.faults old.waits new.waits end

abbrev pub JudgesSource : (wanted : Topology) → (old new : SourceSeen) → Result Summary Refusal → Type 0
JudgesSource wanted old new (Ok summary) = ReadsSource (Ok summary) wanted old new
JudgesSource wanted old new (Err (Audit fault)) = ReadsSource (Err fault) wanted old new
JudgesSource wanted old new (Err Memory) = Unit {0}
JudgesSource wanted old new (Err _) = ⊥

-- the journal that this source holds was judged, and the source given back
pub record IsJudged (name : List ℕ) (end : Result Summary AuditFault) (wanted : Topology) (opened : SourceSeen) (old new : EdgesSeen) : Type 0 where
  pub source : SourceSeen
  pub reads : ReadsSource end wanted opened source
  pub back : new.sources_back ≡ old.sources_back ++ (name, source) ∷ []

abbrev pub IsJudgedBy : (name : List ℕ) → (wanted : Topology) → (opened : SourceSeen) → (old new : EdgesSeen) → Result Summary Refusal → Type 0
IsJudgedBy name wanted opened old new (Ok summary) = IsJudged name (Ok summary) wanted opened old new
IsJudgedBy name wanted opened old new (Err (Audit fault)) = IsJudged name (Err fault) wanted opened old new
IsJudgedBy name wanted opened old new (Err Memory) = Unit {0}
IsJudgedBy name wanted opened old new (Err _) = ⊥

pub record JudgesOpened (name : List ℕ) (wanted : Topology) (opened : SourceSeen) (old new : EdgesSeen) (result : Result Summary Refusal) : Type 0 where
  pub comes : IsJudgedBy name wanted opened old new result
  pub same_telling : new.told ≡ old.told
  pub asked : IsTrue old.told → new.asked ≡ old.asked
  pub sources : MayBeBack name old new
  pub sinks : new.sinks_back ≡ old.sinks_back

-- what the journal of this name comes to
abbrev pub JudgesJournal : (name : List ℕ) → (wanted : Topology) → (old new : EdgesSeen) → Result Summary Refusal → Type 0
JudgesJournal name wanted old new (Ok summary) = IsAuditOf name (Ok summary) wanted old new
JudgesJournal name wanted old new (Err (Audit fault)) = IsAuditOf name (Err fault) wanted old new
JudgesJournal name wanted old new (Err (Edge other)) = (other ≡ name) × Rose old.faults new.faults
JudgesJournal name wanted old new (Err Memory) = Unit {0}
JudgesJournal name wanted old new (Err _) = ⊥

-- the call by name was made, unless memory was wanting
abbrev pub AskedJournal : Result Summary Refusal → (call : EdgeKind × List ℕ) → (asked asked' : List (EdgeKind × List ℕ)) → Type 0
AskedJournal (Err Memory) call asked asked' = Asks (call ∷ []) asked asked'
AskedJournal _ call asked asked' = asked' ≡ asked ++ call ∷ []

-- what reading the journal came to
pub record ReadsJournal (old new : EdgesSeen) (name : List ℕ) (wanted : Topology) (result : Result Summary Refusal) : Type 0 where
  pub comes : JudgesJournal name wanted old new result
  pub asked_by : IsTrue old.told → AskedJournal result (Source, name) old.asked new.asked
  pub same_telling : new.told ≡ old.told
  pub sources : MayBeBack name old new
  pub sinks : new.sinks_back ≡ old.sinks_back

-- what an audit comes to, once the topology is accepted
pub record ComesAudited (old new : OutsideSeen) (name : List ℕ) (wanted : Topology) (topology : Option Topology) (before : History) (verdict : Verdict) : Type 0 where
  pub found : Result Summary AuditFault
  pub comes : ComesBy old new (audit_case name found wanted) ((Source, name) ∷ []) topology before verdict
