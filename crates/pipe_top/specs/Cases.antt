-- What the words, the topology file and the stock of callbacks come to.
use Rattle.std.specs.Prelude.{◌≡◌, ℕ, Bool, false, List, [], ◌∷◌, ◌++◌, length, take, IsTrue, is_none, Option, Some, None, Result, Ok, Err}
use Rattle.pipe_types.specs.Sound.{producers}
use Rattle.pipe_types.specs.declared.topology.StageSpec.{StageSpec}
use Rattle.pipe_types.specs.declared.topology.Topology.{Topology}
use Rattle.pipe_edges.specs.declared.edges.EdgeKind.{EdgeKind}
use Rattle.pipe_edges.specs.declared.edges.EdgeKind.TheVariants.{File, Source}
use Rattle.config_table.specs.declared.fault.ConfigFault.{ConfigFault}
use Rattle.pipe_config.specs.File.{topology_of_file}
use Rattle.config_flow.specs.Flow.{flow_topology_of}
use Rattle.run_verdicts.specs.Judged.{Summary}
use Rattle.program_words.specs.Words.{Command, Flow, Check, Run, Gen, Upgrade, Audit}
use Rattle.edge_names.specs.Supplies.{Feeds, Feed, at_paces, by_name}
use Rattle.edge_names.specs.Controls.{run_calls}
use Rattle.pipe_run.specs.Live.{with_live}
use Rattle.made_sources.specs.Feeds.{made_feeds}
use Rattle.topology_needs.specs.declared.stock.Boxes.{Boxes}
use Rattle.topology_needs.specs.declared.stock.Shortage.{Shortage}
use Rattle.topology_needs.specs.Needs.{shortage_of}
use Rattle.run_verdicts.specs.declared.audits.AuditFault.{AuditFault}
use Rattle.run_verdicts.specs.declared.verdict.Shows.{Shows}

-- how the producers of a run come to their sources: each opens the one source that it names; or that, or the merge of those, which its
-- topology file names, though not beside a rate; or each reads its share of so many records that a seed gives
pub data Feeding : Type 0 where
  Named : Feeding
  Filed : Feeding
  MadeFrom : (seed count : ℕ) → Feeding

abbrev pub origin_of : Feeding → Topology → (StageSpec → Option Feed)
origin_of Named topology = by_name false
origin_of Filed topology = by_name (is_none topology.rate)
origin_of (MadeFrom seed count) topology = made_feeds seed count (length (producers topology.stages))

-- the same, each in its gate where the topology has a rate
abbrev pub feeds_of : Feeding → Topology → Feeds
feeds_of feeding topology = at_paces topology (origin_of feeding topology)

-- the words are no command; the file is no topology; the stock has too few boxes of a kind; the topology is only checked; its
-- file is written with this text as version 2; the journal of this name is legal for it and comes to this, or is not found legal;
-- or it runs, with producers fed so and, if one is named, this sink for live acknowledgements, and shows these texts
pub data Case : Type 0 where
  NoCommand : Case
  NoTopology : ConfigFault → Case
  TooFew : Shortage → Case
  Checks : Topology → Case
  Upgrades : (file text : List ℕ) → Topology → Case
  Audits : (name : List ℕ) → Summary → Topology → Case
  Rejects : (name : List ℕ) → AuditFault → Topology → Case
  Runs : Shows → (live : Option (List ℕ)) → Feeding → Topology → Case

-- the topology of the file, or why there is none
abbrev pub for_topology : Result Topology ConfigFault → (Topology → Case) → Case
for_topology (Ok topology) case = case topology
for_topology (Err fault) case = NoTopology fault

abbrev pub unless_short : Option Shortage → Case → Case
unless_short None case = case
unless_short (Some shortage) case = TooFew shortage

-- it runs where the stock has enough boxes of each kind
abbrev pub run_case : Boxes → Shows → (live : Option (List ℕ)) → Feeding → Topology → Case
run_case boxes shows live feeding topology = unless_short (shortage_of topology boxes) (Runs shows live feeding topology)

-- the journal of this name is legal, or is not found so
abbrev pub audit_case : (name : List ℕ) → Result Summary AuditFault → Topology → Case
audit_case name (Ok summary) topology = Audits name summary topology
audit_case name (Err fault) topology = Rejects name fault topology

-- only the report
abbrev pub report_alone : Shows
report_alone = record { steps = false; acks = false }

-- `flow` has a topology of its own; `check`, `upgrade`, `run`, `gen` and `audit` have that of the file; the text is that of an
-- upgrade, and what is found is found by an audit
abbrev pub case_of : Option Command → (file text : List ℕ) → (found : Result Summary AuditFault) → Boxes → Case
case_of None file text found boxes = NoCommand
case_of (Some (Flow source prefix)) file text found boxes = run_case boxes report_alone None Named (flow_topology_of source prefix)
case_of (Some (Check path)) file text found boxes = for_topology (topology_of_file file) Checks
case_of (Some (Upgrade path)) file text found boxes = for_topology (topology_of_file file) (Upgrades file text)
case_of (Some (Audit journal path)) file text found boxes = for_topology (topology_of_file file) (audit_case journal found)
case_of (Some (Run path workers acks steps live)) file text found boxes = for_topology (topology_of_file file) (run_case boxes (record { steps = steps; acks = acks }) live Filed)
case_of (Some (Gen seed count path)) file text found boxes = for_topology (topology_of_file file) (run_case boxes report_alone None (MadeFrom seed count))

-- ---- names

-- the topology file that the command names
abbrev pub file_name : Option Command → Option (List ℕ)
file_name (Some (Check path)) = Some path
file_name (Some (Upgrade path)) = Some path
file_name (Some (Run path workers acks steps live)) = Some path
file_name (Some (Gen seed count path)) = Some path
file_name (Some (Audit journal path)) = Some path
file_name _ = None

-- the bytes are those that stand under the file's name, at most one more than a topology may have
abbrev pub IsNamedFile : (told : Bool) → (named : EdgeKind → List ℕ → List ℕ) → (name : Option (List ℕ)) → (file : List ℕ) → Type 0
IsNamedFile told named None file = Unit {0}
IsNamedFile told named (Some name) file = IsTrue told → file ≡ take 1048577 (named File name)

abbrev pub file_calls : Option (List ℕ) → List (EdgeKind × List ℕ)
file_calls None = []
file_calls (Some name) = (File, name) ∷ []

-- the calls that open what a run reads and writes: the control source first, if one is named, then in stage order, and last the sink for
-- live acknowledgements, if one is named. A producer that reads generated records makes none. An audit opens the journal
abbrev pub opening_calls : Case → List (EdgeKind × List ℕ)
opening_calls (Runs shows live feeding topology) = with_live live (run_calls (feeds_of feeding topology) topology)
opening_calls (Audits name summary topology) = (Source, name) ∷ []
opening_calls (Rejects name fault topology) = (Source, name) ∷ []
opening_calls _ = []

-- the calls by name: first the topology file is read, where one is named, and then the sources and sinks of a run, or the
-- journal of an audit, are opened
abbrev pub calls_of : Option Command → Case → List (EdgeKind × List ℕ)
calls_of command case = file_calls (file_name command) ++ opening_calls case

-- what holds in the case of the command, for the bytes of its file, for some text, which is that of an upgrade, and for what an
-- audit finds
pub record InCase (told : Bool) (named : EdgeKind → List ℕ → List ℕ) (command : Option Command) (boxes : Boxes) (holds : Case → Type 0) : Type 0 where
  pub file : List ℕ
  pub text : List ℕ
  pub found : Result Summary AuditFault
  pub is_file : IsNamedFile told named (file_name command) file
  pub it_holds : holds (case_of command file text found boxes)
