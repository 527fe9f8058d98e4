-- What a call comes to after its topology file was read, or where none is.
use Rattle.std.proofs.Common.{◌≡◌, ℕ, zero, suc, ◌≤◌, List, [], ◌∷◌, ◌++◌, take, Bool, Option, Some, None, Result, Ok, Err, refl, sym, ◌∙◌, ap, subst, inl, inr, arith}
use Rattle.std.specs.Prelude.{IsTrue}
use Rattle.std.proofs.lemmas.List.{append-nil}
use Rattle.std.proofs.Math.Seq.{take-nil}
use Rattle.pipe_types.specs.Counts.{Rose}
use Rattle.pipe_types.specs.declared.topology.Topology.{Topology}
use Rattle.pipe_model.specs.History.{History}
use Rattle.pipe_edges.specs.declared.edges.EdgeKind.{EdgeKind}
use Rattle.pipe_edges.specs.declared.edges.EdgeKind.TheVariants.{File, Source}
use Rattle.pipe_edges.specs.Named.{StandsAsBefore}
use Rattle.config_table.specs.declared.fault.ConfigFault.{ConfigFault}
use Rattle.pipe_config.specs.File.{topology_of_file}
use Rattle.config_flow.specs.Flow.{flow_topology_of}
use Rattle.run_verdicts.specs.Judged.{Summary}
use Rattle.run_verdicts.specs.declared.audits.AuditFault.{AuditFault}
use Rattle.program_words.specs.Words.{Command, Flow, Check, Run, Gen, Upgrade, Audit as AuditOf}
use Rattle.edge_names.specs.Seen.{EdgesSeen}
use Rattle.topology_needs.specs.declared.stock.Boxes.{Boxes}
use Rattle.pipe_top.specs.Cases.{Named, Filed, MadeFrom, Case, Checks, Upgrades, audit_case, case_of, run_case, for_topology, report_alone, opening_calls, calls_of, file_name, IsNamedFile}
use Rattle.pipe_top.specs.Runs.{OutsideSeen, IsUntouched, Asks, FailsAt}
use Rattle.pipe_top.specs.Flows.{ShowsUnfed, IsCheckedOrNot, IsUpgraded, ComesBy, Came, ComesAudited, ReadsFile, ReadsTopology, ReadsUpgrade, UpgradesTo, topology_beside, AskedFile}
use Rattle.pipe_top.specs.declared.file.Upgraded.{Upgraded}
use Rattle.pipe_config.specs.Upgrade.{IsUpgrade}
use Rattle.run_verdicts.specs.declared.verdict.Refusal.{Refusal}
use Rattle.run_verdicts.specs.declared.verdict.Refusal.TheVariants.{Usage, Topology as NoTopology, Stock, Edge, Audit, Memory}
use Rattle.run_verdicts.specs.declared.audits.AuditFault.TheVariants.{Large}
use Rattle.run_verdicts.specs.declared.verdict.Verdict.{Verdict}
use Rattle.run_verdicts.specs.declared.verdict.Verdict.TheVariants.{Refused}
use Rattle.pipe_top.proofs.Unused.{asks_none, off_file, off_unasked, outside_of_none, wanting}
use Rattle.pipe_top.proofs.Called.{Called, after_call}

-- ---- no run

-- a front of one call is a front of it and of more
one_of_more : (call : EdgeKind × List ℕ) (calls asked asked' : List (EdgeKind × List ℕ)) → Asks (call ∷ []) asked asked' → Asks (call ∷ calls) asked asked'
one_of_more call calls asked asked' a = by_count a.count a.is
  where
    by_count : (count : ℕ) → asked' ≡ asked ++ take count (call ∷ []) → Asks (call ∷ calls) asked asked'
    by_count zero is = record { count = 0; is = is }
    by_count (suc n) is = record {
      count = 1;
      is = is ∙ ap (λ l. asked ++ call ∷ l) (take-nil n);
    }

-- reading a file gives nothing back, and uses neither the clock nor a box
untouched : (old new : OutsideSeen) (name : List ℕ) (result : Result Topology Refusal) → ReadsFile old.edges new.edges name topology_of_file result → new.clock ≡ old.clock → new.boxes ≡ old.boxes
    → IsUntouched old new
untouched old new name result r clock boxes = record {
  sources = r.same_sources;
  sinks = r.same_sinks;
  clock = clock;
  boxes = boxes;
}

-- the file was not read, or it is no topology
unread : (old new : OutsideSeen) (go : Topology → Case) (name : List ℕ) (refusal : Refusal) (topology : Option Topology) (before : History) (verdict : Verdict)
    → verdict ≡ Refused refusal → (topology ≡ None) × (before ≡ []) → IsUntouched old new
    → (r : ReadsFile old.edges new.edges name topology_of_file (Err refusal))
    → ComesBy old new (for_topology (topology_of_file r.file) go) ((File, name) ∷ opening_calls (for_topology (topology_of_file r.file) go)) topology before verdict
unread old new go name Memory topology before verdict is none same r =
    let case = for_topology (topology_of_file r.file) go in
    wanting old new case ((File, name) ∷ opening_calls case) topology before verdict is none same
    (λ t. one_of_more (File, name) (opening_calls case) old.edges.asked new.edges.asked (r.asked_by t))
    (off_file name (opening_calls case) old.edges new.edges r.asked_by (same.sources, same.sinks)) r.same_telling
unread old new go name (Edge other) topology before verdict is none same r =
    let case = for_topology (topology_of_file r.file) go in
    let calls = (File, name) ∷ opening_calls case in
    let failed : FailsAt old.edges.told calls old.edges.asked new.edges.asked (Rose old.edges.faults new.edges.faults) other = record {
      kind = File;
      front = [];
      rest = opening_calls case;
      parts = ap (λ n. (File, n) ∷ opening_calls case) (sym r.reads.0);
      is_last = λ t. r.asked_by t ∙ ap (λ n. old.edges.asked ++ (File, n) ∷ []) (sym r.reads.0);
      rose = r.reads.1;
    } in
    rw (is, none.0) (record {
      outcome = inl (none.1, failed);
      outside = outside_of_none (Refused (Edge other) ≡ Refused Memory) (ShowsUnfed (Refused (Edge other))) calls before case old new same
          (λ feeds live wanted. inr (record { name = other; fails = failed; back = inl (refl, (same.sources, same.sinks)) }));
      asked_by = λ t. tt;
      same_telling = r.same_telling;
      audited = λ a b. absurd (a refl);
    })
unread old new go name (NoTopology fault) topology before verdict is none same r =
    rw r.reads (record {
      outcome = inr (record {
        refused = is;
        no_topology = none.0;
        no_step = none.1;
      });
      outside = same;
      asked_by = λ t. rw is (r.asked_by t);
      same_telling = r.same_telling;
      audited = λ a b. tt;
    })
unread old new go name Usage topology before verdict is none same r = absurd r.reads
unread old new go name (Stock shortage) topology before verdict is none same r = absurd r.reads
unread old new go name (Audit fault) topology before verdict is none same r = absurd r.reads

-- ---- the file was read

called_file : (old new : EdgesSeen) (name : List ℕ) (topology : Topology) → ReadsFile old new name topology_of_file (Ok topology) → Called old new (File, name)
called_file old new name topology r = record {
  names = record { same_telling = r.same_telling; same_names = r.same_names };
  same_sources = r.same_sources;
  same_sinks = r.same_sinks;
  faults_stay = r.faults_stay;
  is_file = refl;
  one_call = r.asked_by;
}

-- what comes of the topology is what comes of the call
loaded : (old : OutsideSeen) (middle : EdgesSeen) (new : OutsideSeen) (go : Topology → Case) (name : List ℕ) (wanted : Topology) (topology : Option Topology) (before : History) (verdict : Verdict)
    → (r : ReadsFile old.edges middle name topology_of_file (Ok wanted))
    → ComesBy (record old { edges = middle }) new (go wanted) (opening_calls (go wanted)) topology before verdict
    → ComesBy old new (for_topology (topology_of_file r.file) go) ((File, name) ∷ opening_calls (for_topology (topology_of_file r.file) go)) topology before verdict
loaded old middle new go name wanted topology before verdict r x =
    rw r.reads.0 (after_call old middle new (go wanted) (File, name) (opening_calls (go wanted)) topology before verdict (called_file old.edges middle name wanted r) x)

-- a topology that is only checked opens nothing
checked_only : (old new : OutsideSeen) (wanted : Topology) (topology : Option Topology) (before : History) (verdict : Verdict)
    → IsCheckedOrNot wanted topology before verdict → IsUntouched old new → new.edges.asked ≡ old.edges.asked → new.edges.told ≡ old.edges.told
    → ComesBy old new (Checks wanted) [] topology before verdict
checked_only old new wanted topology before verdict (inl r) same asked telling =
    wanting old new (Checks wanted) [] topology before verdict r.refused (r.no_topology, r.no_step) same (λ t. rw asked (asks_none [] old.edges.asked))
    (off_unasked [] old.edges new.edges asked (same.sources, same.sinks)) telling
checked_only old new wanted topology before verdict (inr r) same asked telling = record {
  outcome = inr r;
  outside = same;
  asked_by = λ t. rw r.counted (asked ∙ sym (append-nil old.edges.asked));
  same_telling = telling;
  audited = λ a b. tt;
}

-- ---- the whole call

-- `flow` reads no file
pub came_by_flow : (old new : OutsideSeen) (boxes : Boxes) (source prefix : List ℕ) (wanted : Topology) (topology : Option Topology) (before : History) (verdict : Verdict)
    → wanted ≡ flow_topology_of source prefix
    → ComesBy old new (run_case boxes report_alone None Named wanted) (opening_calls (run_case boxes report_alone None Named wanted)) topology before verdict
    → Came old new (Some (Flow source prefix)) boxes topology before verdict
came_by_flow old new boxes source prefix wanted topology before verdict is x = record {
  file = [];
  text = [];
  found = Err Large;
  is_file = tt;
  comes = rw is at x;
}

-- the bytes of the file, where none was read
named_file : (told : Bool) (named : EdgeKind → List ℕ → List ℕ) (name : Option (List ℕ)) → (file : List ℕ) × IsNamedFile told named name file
named_file told named None = ([], tt)
named_file told named (Some name) = (take 1048577 (named File name), λ t. refl)

-- memory was wanting before anything was asked
pub came_to_nothing : (old new : OutsideSeen) (command : Option Command) (boxes : Boxes) (topology : Option Topology) (before : History) (verdict : Verdict)
    → verdict ≡ Refused Memory → (topology ≡ None) × (before ≡ []) → IsUntouched old new → new.edges.asked ≡ old.edges.asked → new.edges.told ≡ old.edges.told
    → Came old new command boxes topology before verdict
came_to_nothing old new command boxes topology before verdict is none same asked telling =
    let f = named_file old.edges.told old.edges.named (file_name command) in
    record {
      file = f.0;
      text = [];
      found = Err Large;
      is_file = f.1;
      comes = wanting old new (case_of command f.0 [] (Err Large) boxes) (calls_of command (case_of command f.0 [] (Err Large) boxes)) topology before verdict is none same
          (λ t. rw asked (asks_none (calls_of command (case_of command f.0 [] (Err Large) boxes)) old.edges.asked))
          (off_unasked (calls_of command (case_of command f.0 [] (Err Large) boxes)) old.edges new.edges asked (same.sources, same.sinks)) telling;
    }

-- the words are no command
pub came_to_usage : (old new : OutsideSeen) (boxes : Boxes) (topology : Option Topology) (before : History) (verdict : Verdict)
    → verdict ≡ Refused Usage → (topology ≡ None) × (before ≡ []) → IsUntouched old new → new.edges.asked ≡ old.edges.asked → new.edges.told ≡ old.edges.told
    → Came old new None boxes topology before verdict
came_to_usage old new boxes topology before verdict is none same asked telling = record {
  file = [];
  text = [];
  found = Err Large;
  is_file = tt;
  comes = record {
    outcome = inr (record {
      refused = is;
      no_topology = none.0;
      no_step = none.1;
    });
    outside = same;
    asked_by = λ t. rw is (asked ∙ sym (append-nil old.edges.asked));
    same_telling = telling;
    audited = λ a b. tt;
  };
}

-- ---- the commands of a file

pub check_came : (old : OutsideSeen) (middle : EdgesSeen) (new : OutsideSeen) (boxes : Boxes) (name : List ℕ) (wanted : Topology) (topology : Option Topology) (before : History) (verdict : Verdict)
    → ReadsFile old.edges middle name topology_of_file (Ok wanted) → IsCheckedOrNot wanted topology before verdict
    → new.edges ≡ middle → new.clock ≡ old.clock → new.boxes ≡ old.boxes
    → Came old new (Some (Check name)) boxes topology before verdict
check_came old middle new boxes name wanted topology before verdict r checked edges clock same = record {
  file = r.file;
  text = [];
  found = Err Large;
  is_file = r.is_file;
  comes = loaded old middle new Checks name wanted topology before verdict r
      (checked_only (record old { edges = middle }) new wanted topology before verdict checked
      (record { sources = ap (λ e. e.sources_back) edges; sinks = ap (λ e. e.sinks_back) edges; clock = clock; boxes = same })
      (ap (λ e. e.asked) edges) (ap (λ e. e.told) edges));
}

pub check_unread : (old new : OutsideSeen) (boxes : Boxes) (name : List ℕ) (refusal : Refusal) (topology : Option Topology) (before : History) (verdict : Verdict)
    → ReadsFile old.edges new.edges name topology_of_file (Err refusal) → verdict ≡ Refused refusal → (topology ≡ None) × (before ≡ [])
    → new.clock ≡ old.clock → new.boxes ≡ old.boxes
    → Came old new (Some (Check name)) boxes topology before verdict
check_unread old new boxes name refusal topology before verdict r is none clock same = record {
  file = r.file;
  text = [];
  found = Err Large;
  is_file = r.is_file;
  comes = unread old new Checks name refusal topology before verdict is none (untouched old new name (Err refusal) r clock same) r;
}

-- an audit makes one call behind that
opened_case : (old new : OutsideSeen) (name : List ℕ) (found : Result Summary AuditFault) (wanted : Topology) (topology : Option Topology) (before : History) (verdict : Verdict)
    → ComesBy old new (audit_case name found wanted) ((Source, name) ∷ []) topology before verdict
    → ComesBy old new (audit_case name found wanted) (opening_calls (audit_case name found wanted)) topology before verdict
opened_case old new name (Ok summary) wanted topology before verdict x = x
opened_case old new name (Err fault) wanted topology before verdict x = x

-- the text of an upgrade opens nothing
upgraded_only : (old new : OutsideSeen) (file text : List ℕ) (wanted : Topology) (topology : Option Topology) (before : History) (verdict : Verdict)
    → IsUpgraded file text wanted topology before verdict → IsUntouched old new → new.edges.asked ≡ old.edges.asked → new.edges.told ≡ old.edges.told
    → ComesBy old new (Upgrades file text wanted) [] topology before verdict
upgraded_only old new file text wanted topology before verdict r same asked telling = record {
  outcome = inr r;
  outside = same;
  asked_by = λ t. rw r.counted (asked ∙ sym (append-nil old.edges.asked));
  same_telling = telling;
  audited = λ a b. tt;
}

pub upgrade_came : (old : OutsideSeen) (middle : EdgesSeen) (new : OutsideSeen) (boxes : Boxes) (name : List ℕ) (found : Upgraded) (topology : Option Topology) (before : History) (verdict : Verdict)
    → ReadsUpgrade old.edges middle name topology_of_file (Ok found) → ((file : List ℕ) → IsUpgrade file found.text → IsUpgraded file found.text found.topology topology before verdict)
    → new.edges ≡ middle → new.clock ≡ old.clock → new.boxes ≡ old.boxes
    → Came old new (Some (Upgrade name)) boxes topology before verdict
upgrade_came old middle new boxes name found topology before verdict r upgraded edges clock same = record {
  file = r.0.file;
  text = found.text;
  found = Err Large;
  is_file = r.0.is_file;
  comes = loaded old middle new (Upgrades r.0.file found.text) name found.topology topology before verdict r.0
      (upgraded_only (record old { edges = middle }) new r.0.file found.text found.topology topology before verdict (upgraded r.0.file r.1)
      (record { sources = ap (λ e. e.sources_back) edges; sinks = ap (λ e. e.sinks_back) edges; clock = clock; boxes = same })
      (ap (λ e. e.asked) edges) (ap (λ e. e.told) edges));
}

pub upgrade_unread : (old new : OutsideSeen) (boxes : Boxes) (name : List ℕ) (refusal : Refusal) (topology : Option Topology) (before : History) (verdict : Verdict)
    → ReadsUpgrade old.edges new.edges name topology_of_file (Err refusal) → verdict ≡ Refused refusal → (topology ≡ None) × (before ≡ [])
    → new.clock ≡ old.clock → new.boxes ≡ old.boxes
    → Came old new (Some (Upgrade name)) boxes topology before verdict
upgrade_unread old new boxes name refusal topology before verdict r is none clock same = record {
  file = r.0.file;
  text = [];
  found = Err Large;
  is_file = r.0.is_file;
  comes = unread old new (Upgrades r.0.file []) name refusal topology before verdict is none (untouched old new name (Err refusal) r.0 clock same) r.0;
}

-- once the topology is accepted, the journal is judged
pub audit_came : (old : OutsideSeen) (middle : EdgesSeen) (new : OutsideSeen) (boxes : Boxes) (journal name : List ℕ) (wanted : Topology) (topology : Option Topology) (before : History) (verdict : Verdict)
    → ReadsFile old.edges middle name topology_of_file (Ok wanted) → ComesAudited (record old { edges = middle }) new journal wanted topology before verdict
    → Came old new (Some (AuditOf journal name)) boxes topology before verdict
audit_came old middle new boxes journal name wanted topology before verdict r a = record {
  file = r.file;
  text = [];
  found = a.found;
  is_file = r.is_file;
  comes = loaded old middle new (audit_case journal a.found) name wanted topology before verdict r
      (opened_case (record old { edges = middle }) new journal a.found wanted topology before verdict a.comes);
}

pub audit_unread : (old new : OutsideSeen) (boxes : Boxes) (journal name : List ℕ) (refusal : Refusal) (topology : Option Topology) (before : History) (verdict : Verdict)
    → ReadsFile old.edges new.edges name topology_of_file (Err refusal) → verdict ≡ Refused refusal → (topology ≡ None) × (before ≡ [])
    → new.clock ≡ old.clock → new.boxes ≡ old.boxes
    → Came old new (Some (AuditOf journal name)) boxes topology before verdict
audit_unread old new boxes journal name refusal topology before verdict r is none clock same = record {
  file = r.file;
  text = [];
  found = Err Large;
  is_file = r.is_file;
  comes = unread old new (audit_case journal (Err Large)) name refusal topology before verdict is none (untouched old new name (Err refusal) r clock same) r;
}

pub run_came : (old : OutsideSeen) (middle : EdgesSeen) (new : OutsideSeen) (boxes : Boxes) (name : List ℕ) (workers : ℕ) (acks steps : Bool) (live named : Option (List ℕ)) (wanted : Topology) (topology : Option Topology) (before : History) (verdict : Verdict)
    → live ≡ named → ReadsFile old.edges middle name topology_of_file (Ok wanted)
    → ComesBy (record old { edges = middle }) new (run_case boxes (record { steps = steps; acks = acks }) live Filed wanted)
    (opening_calls (run_case boxes (record { steps = steps; acks = acks }) live Filed wanted)) topology before verdict
    → Came old new (Some (Run name workers acks steps named)) boxes topology before verdict
run_came old middle new boxes name workers acks steps live named wanted topology before verdict is r x = record {
  file = r.file;
  text = [];
  found = Err Large;
  is_file = r.is_file;
  comes = loaded old middle new (run_case boxes (record { steps = steps; acks = acks }) named Filed) name wanted topology before verdict r
      (subst (λ (o : Option (List ℕ)). ComesBy (record old { edges = middle }) new (run_case boxes (record { steps = steps; acks = acks }) o Filed wanted)
      (opening_calls (run_case boxes (record { steps = steps; acks = acks }) o Filed wanted)) topology before verdict) is x);
}

pub run_unread : (old new : OutsideSeen) (boxes : Boxes) (name : List ℕ) (workers : ℕ) (acks steps : Bool) (live : Option (List ℕ)) (refusal : Refusal) (topology : Option Topology) (before : History) (verdict : Verdict)
    → ReadsFile old.edges new.edges name topology_of_file (Err refusal) → verdict ≡ Refused refusal → (topology ≡ None) × (before ≡ [])
    → new.clock ≡ old.clock → new.boxes ≡ old.boxes
    → Came old new (Some (Run name workers acks steps live)) boxes topology before verdict
run_unread old new boxes name workers acks steps live refusal topology before verdict r is none clock same = record {
  file = r.file;
  text = [];
  found = Err Large;
  is_file = r.is_file;
  comes = unread old new (run_case boxes (record { steps = steps; acks = acks }) live Filed) name refusal topology before verdict is none
      (untouched old new name (Err refusal) r clock same) r;
}

pub gen_came : (old : OutsideSeen) (middle : EdgesSeen) (new : OutsideSeen) (boxes : Boxes) (seed count : ℕ) (name : List ℕ) (wanted : Topology) (topology : Option Topology) (before : History) (verdict : Verdict)
    → ReadsFile old.edges middle name topology_of_file (Ok wanted)
    → ComesBy (record old { edges = middle }) new (run_case boxes report_alone None (MadeFrom seed count) wanted)
    (opening_calls (run_case boxes report_alone None (MadeFrom seed count) wanted)) topology before verdict
    → Came old new (Some (Gen seed count name)) boxes topology before verdict
gen_came old middle new boxes seed count name wanted topology before verdict r x = record {
  file = r.file;
  text = [];
  found = Err Large;
  is_file = r.is_file;
  comes = loaded old middle new (run_case boxes report_alone None (MadeFrom seed count)) name wanted topology before verdict r x;
}

pub gen_unread : (old new : OutsideSeen) (boxes : Boxes) (seed count : ℕ) (name : List ℕ) (refusal : Refusal) (topology : Option Topology) (before : History) (verdict : Verdict)
    → ReadsFile old.edges new.edges name topology_of_file (Err refusal) → verdict ≡ Refused refusal → (topology ≡ None) × (before ≡ [])
    → new.clock ≡ old.clock → new.boxes ≡ old.boxes
    → Came old new (Some (Gen seed count name)) boxes topology before verdict
gen_unread old new boxes seed count name refusal topology before verdict r is none clock same = record {
  file = r.file;
  text = [];
  found = Err Large;
  is_file = r.is_file;
  comes = unread old new (run_case boxes report_alone None (MadeFrom seed count)) name refusal topology before verdict is none
      (untouched old new name (Err refusal) r clock same) r;
}

-- ---- reading the file

reads_as : (expected : Result Topology ConfigFault) (name : List ℕ) (fault : Type 0) (result : Result Topology Refusal) → ReadsTopology expected [] ⊥ result → ReadsTopology expected name fault result
reads_as expected name fault (Ok t) r = r
reads_as expected name fault (Err (NoTopology f)) r = r
reads_as expected name fault (Err Memory) r = tt
reads_as expected name fault (Err (Edge other)) r = absurd r.1
reads_as expected name fault (Err Usage) r = absurd r
reads_as expected name fault (Err (Stock shortage)) r = absurd r
reads_as expected name fault (Err (Audit f)) r = absurd r

asked_file : (result : Result Topology Refusal) (call : EdgeKind × List ℕ) (asked asked' : List (EdgeKind × List ℕ)) → asked' ≡ asked ++ call ∷ [] → AskedFile result call asked asked'
asked_file (Ok t) call asked asked' is = is
asked_file (Err Memory) call asked asked' is = record { count = 1; is = is }
asked_file (Err (NoTopology f)) call asked asked' is = is
asked_file (Err (Edge other)) call asked asked' is = is
asked_file (Err Usage) call asked asked' is = is
asked_file (Err (Stock shortage)) call asked asked' is = is
asked_file (Err (Audit f)) call asked asked' is = is

-- what a call that reads leaves of the edges
pub record LeavesEdges (old new : EdgesSeen) : Type 0 where
  pub same_telling : new.told ≡ old.told
  pub stands : IsTrue old.told → StandsAsBefore old.named new.named
  pub same_sources : new.sources_back ≡ old.sources_back
  pub same_sinks : new.sinks_back ≡ old.sinks_back
  pub faults_stay : old.faults ≤ new.faults

pub file_read : (old new : EdgesSeen) (name copy bytes : List ℕ) (result : Result Topology Refusal)
    → copy ≡ name → LeavesEdges old new → (IsTrue old.told → bytes ≡ take 1048577 (old.named File copy)) → (IsTrue old.told → new.asked ≡ old.asked ++ (File, copy) ∷ [])
    → ReadsTopology (topology_of_file bytes) [] ⊥ result
    → ReadsFile old new name topology_of_file result
file_read old new name copy bytes result same leaves given calls reads = record {
  file = bytes;
  is_file = λ t. given t ∙ ap (λ n. take 1048577 (old.named File n)) same;
  reads = reads_as (topology_of_file bytes) name (Rose old.faults new.faults) result reads;
  asked_by = λ t. asked_file result (File, name) old.asked new.asked (calls t ∙ ap (λ n. old.asked ++ (File, n) ∷ []) same);
  same_telling = leaves.same_telling;
  same_names = λ t kind other. leaves.stands t kind other;
  same_sources = leaves.same_sources;
  same_sinks = leaves.same_sinks;
  faults_stay = leaves.faults_stay;
}

-- the text comes with the topology
pub upgrade_read : (old new : EdgesSeen) (name copy bytes : List ℕ) (result : Result Upgraded Refusal)
    → copy ≡ name → LeavesEdges old new → (IsTrue old.told → bytes ≡ take 1048577 (old.named File copy)) → (IsTrue old.told → new.asked ≡ old.asked ++ (File, copy) ∷ [])
    → UpgradesTo (topology_of_file bytes) bytes result
    → ReadsUpgrade old new name topology_of_file result
unfolding file_read
upgrade_read old new name copy bytes result same leaves given calls reads =
    (file_read old new name copy bytes (topology_beside result) same leaves given calls reads.0, reads.1)

pub file_failed : (old new : EdgesSeen) (name copy : List ℕ)
    → copy ≡ name → LeavesEdges old new → (IsTrue old.told → new.asked ≡ old.asked ++ (File, copy) ∷ []) → Rose old.faults new.faults
    → ReadsFile old new name topology_of_file (Err (Edge copy))
file_failed old new name copy same leaves calls rose = record {
  file = take 1048577 (old.named File name);
  is_file = λ t. refl;
  reads = (same, rose);
  asked_by = λ t. calls t ∙ ap (λ n. old.asked ++ (File, n) ∷ []) same;
  same_telling = leaves.same_telling;
  same_names = λ t kind other. leaves.stands t kind other;
  same_sources = leaves.same_sources;
  same_sinks = leaves.same_sinks;
  faults_stay = leaves.faults_stay;
}

pub file_wanting : (old new : EdgesSeen) (name : List ℕ) → LeavesEdges old new → (IsTrue old.told → new.asked ≡ old.asked) → ReadsFile old new name topology_of_file (Err Memory)
file_wanting old new name leaves calls = record {
  file = take 1048577 (old.named File name);
  is_file = λ t. refl;
  reads = tt;
  asked_by = λ t. record { count = 0; is = calls t ∙ sym (append-nil old.asked) };
  same_telling = leaves.same_telling;
  same_names = λ t kind other. leaves.stands t kind other;
  same_sources = leaves.same_sources;
  same_sinks = leaves.same_sinks;
  faults_stay = leaves.faults_stay;
}

-- nothing was called
pub file_unasked : (edges : EdgesSeen) (name : List ℕ) → ReadsFile edges edges name topology_of_file (Err Memory)
file_unasked edges name =
    file_wanting edges edges name
    (record { same_telling = refl; stands = λ t kind other. refl; same_sources = refl; same_sinks = refl; faults_stay = omega arith }) (λ t. refl)
