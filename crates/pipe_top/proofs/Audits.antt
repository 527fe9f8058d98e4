-- What an audit comes to, from what its parts come to.
use Rattle.std.proofs.Common.{◌≡◌, ℕ, ◌+◌, ◌<◌, ◌≤◌, List, [], ◌∷◌, ◌++◌, length, take, Option, None, Result, Ok, Err, refl, sym, ◌∙◌, ap, subst, inl, inr, append_assoc, arith}
use Rattle.std.specs.Prelude.{IsTrue}
use Rattle.std.proofs.lemmas.List.{append-nil, length-append, length-take-le}
use Rattle.pipe_types.specs.Counts.{Rose}
use Rattle.pipe_types.specs.declared.topology.Topology.{Topology}
use Rattle.pipe_types.specs.Sound.{IsSound}
use Rattle.pipe_model.specs.History.{History}
use Rattle.pipe_edges.specs.declared.edges.EdgeKind.{EdgeKind}
use Rattle.pipe_edges.specs.declared.edges.EdgeKind.TheVariants.{Source as SourceKind}
use Rattle.pipe_edges.specs.declared.edges.EdgeEnd.TheVariants as edge
use Rattle.pipe_edges.specs.declared.source.ReadEnd.TheVariants.{Got, End, Failed, Empty}
use Rattle.stage_bodies.specs.Seen.{SourceSeen}
use Rattle.edge_names.specs.Seen.{EdgesSeen}
use Rattle.edge_names.specs.Named.{GivesSource, Opens, BacksSource}
use Rattle.run_verdicts.specs.Judged.{Summary, Judgement, Legal, Bad, verdict_in, IsSaid, AuditSeen, Audits}
use Rattle.run_verdicts.specs.declared.audits.AuditFault.{AuditFault}
use Rattle.run_verdicts.specs.declared.audits.AuditFault.TheVariants.{Large, Wait, Source}
use Rattle.run_verdicts.specs.declared.verdict.Refusal.{Refusal}
use Rattle.run_verdicts.specs.declared.verdict.Refusal.TheVariants.{Usage, Topology as NoTopology, Stock, Edge, Audit, Memory}
use Rattle.run_verdicts.specs.declared.verdict.Verdict.{Verdict}
use Rattle.run_verdicts.specs.declared.verdict.Verdict.TheVariants.{Refused}
use Rattle.pipe_top.specs.Audits.{most_bytes, IsFound, found_by, FaultHasCause, ReadOnce, IsAuditOf, MayBeBack}
use Rattle.pipe_top.specs.Runs.{OutsideSeen, IsJournalBack, FailsAt}
use Rattle.pipe_top.specs.Flows.{IsAuditedOrNot, ReadsSource, JudgesSource, IsJudged, IsJudgedBy, JudgesOpened, JudgesJournal, AskedJournal, ReadsJournal, ComesAudited}

-- ---- the source

-- what came of the source so far, and was judged
pub record ReadSoFar (wanted : Topology) (old now : SourceSeen) (audit : AuditSeen) : Type 0 where
  pub came : List ℕ
  pub same_telling : now.told ≡ old.told
  pub from_left : IsTrue old.told → old.left ≡ came ++ now.left
  pub into_taken : IsTrue old.told → now.taken ≡ old.taken ++ came
  pub faults_stay : old.faults ≤ now.faults
  pub waits_stay : old.waits ≤ now.waits
  pub counted : audit.read ≡ length came
  pub within : audit.read ≤ most_bytes
  pub audits : Audits wanted came audit

-- a piece came
came_left : (old now next : SourceSeen) (came part : List ℕ) → (IsTrue old.told → old.left ≡ came ++ now.left) → (IsTrue old.told → now.left ≡ part ++ next.left) → IsTrue old.told → old.left ≡ (came ++ part) ++ next.left
came_left old now next came part from more t = from t ∙ (ap (λ (x : List ℕ). came ++ x) (more t) ∙ sym (append_assoc came part next.left))

came_taken : (old now next : SourceSeen) (came part : List ℕ) → (IsTrue old.told → now.taken ≡ old.taken ++ came) → (IsTrue old.told → next.taken ≡ now.taken ++ part) → IsTrue old.told → next.taken ≡ old.taken ++ (came ++ part)
came_taken old now next came part into more t = more t ∙ (ap (λ (x : List ℕ). x ++ part) (into t) ∙ append_assoc old.taken came part)

pub more_read : (wanted : Topology) (old now next : SourceSeen) (audit audit' : AuditSeen) (piece : List ℕ) (n : ℕ) → ReadSoFar wanted old now audit → ReadOnce now next piece (Got n) → audit'.read ≡ audit.read + length (take n piece) → audit'.read ≤ most_bytes
    → ((topology : Topology) (text : List ℕ) → Audits topology text audit → Audits topology (text ++ take n piece) audit') → ReadSoFar wanted old next audit'
more_read wanted old now next audit audit' piece n so_far once count within audits = record {
  came = so_far.came ++ take n piece;
  same_telling = once.same_telling ∙ so_far.same_telling;
  from_left = came_left old now next so_far.came (take n piece) so_far.from_left (λ t. (once.bytes (rw so_far.same_telling t)).0);
  into_taken = came_taken old now next so_far.came (take n piece) so_far.into_taken (λ t. (once.bytes (rw so_far.same_telling t)).1);
  faults_stay = omega (arith, so_far.faults_stay, once.faults_stay);
  waits_stay = omega (arith, so_far.waits_stay, once.waits_stay);
  counted = omega (arith, count, so_far.counted, length-append so_far.came (take n piece));
  within = within;
  audits = audits wanted so_far.came so_far.audits;
}

-- what is found of what came is found of the source
read_by : (end : Result Summary AuditFault) (wanted : Topology) (old new : SourceSeen) (came : List ℕ) → new.told ≡ old.told → (IsTrue old.told → old.left ≡ came ++ new.left) → (IsTrue old.told → new.taken ≡ old.taken ++ came)
    → (IsTrue old.told → IsFound wanted came new.left end) → FaultHasCause old.faults new.faults old.waits new.waits end → ReadsSource end wanted old new
read_by end wanted old new came telling from into finds cause = record {
  same_telling = telling;
  same_bytes = λ t none. from t ∙ ap (λ (x : List ℕ). x ++ new.left) (sym (is t none));
  found = λ t none. subst (λ (x : List ℕ). IsFound wanted x new.left end) (sym (is t none)) (finds t);
  cause = cause;
}
  where
    is : IsTrue old.told → old.taken ≡ [] → new.taken ≡ came
    is t none = into t ∙ ap (λ (x : List ℕ). x ++ came) none

-- no byte came with this read
read_none : (end : Result Summary AuditFault) (wanted : Topology) (old now next : SourceSeen) (audit : AuditSeen) → ReadSoFar wanted old now audit → next.told ≡ now.told → (IsTrue now.told → (next.left ≡ now.left) × (next.taken ≡ now.taken))
    → ((came : List ℕ) → Audits wanted came audit → length came ≤ most_bytes → IsTrue now.told → IsFound wanted came next.left end) → FaultHasCause old.faults next.faults old.waits next.waits end → ReadsSource end wanted old next
read_none end wanted old now next audit so_far telling same finds cause =
    read_by end wanted old next so_far.came (telling ∙ so_far.same_telling)
    (λ t. so_far.from_left t ∙ ap (λ (x : List ℕ). so_far.came ++ x) (sym (same (rw so_far.same_telling t)).0))
    (λ t. (same (rw so_far.same_telling t)).1 ∙ so_far.into_taken t)
    (λ t. finds so_far.came so_far.audits (omega (arith, so_far.counted, so_far.within)) (rw so_far.same_telling t))
    cause

rose_from : (a b c : ℕ) → a ≤ b → Rose b c → Rose a c
rose_from a b c low (inl r) = inl (omega (arith, low, r))
rose_from a b c low (inr r) = inr r

-- the reading stopped
pub large_read : (wanted : Topology) (old now next : SourceSeen) (audit : AuditSeen) (piece : List ℕ) (n : ℕ) → ReadSoFar wanted old now audit → ReadOnce now next piece (Got n) → n ≤ length piece → most_bytes < audit.read + n → ReadsSource (Err Large) wanted old next
large_read wanted old now next audit piece n so_far once room large =
    read_by (Err Large) wanted old next (so_far.came ++ take n piece) (once.same_telling ∙ so_far.same_telling)
    (came_left old now next so_far.came (take n piece) so_far.from_left (λ t. (once.bytes (rw so_far.same_telling t)).0))
    (came_taken old now next so_far.came (take n piece) so_far.into_taken (λ t. (once.bytes (rw so_far.same_telling t)).1))
    (λ t. omega (arith, large, room, so_far.counted, length-append so_far.came (take n piece), length-take-le n piece room)) tt

pub wait_read : (wanted : Topology) (old now next : SourceSeen) (audit : AuditSeen) (piece : List ℕ) → ReadSoFar wanted old now audit → ReadOnce now next piece Empty → ReadsSource (Err Wait) wanted old next
wait_read wanted old now next audit piece so_far once =
    read_none (Err Wait) wanted old now next audit so_far once.same_telling (λ t. once.bytes t) (λ came audits few t. few) (rose_from old.waits now.waits next.waits so_far.waits_stay once.cause)

pub fault_read : (wanted : Topology) (old now next : SourceSeen) (audit : AuditSeen) (piece : List ℕ) → ReadSoFar wanted old now audit → ReadOnce now next piece Failed → ReadsSource (Err Source) wanted old next
fault_read wanted old now next audit piece so_far once =
    read_none (Err Source) wanted old now next audit so_far once.same_telling (λ t. once.bytes t) (λ came audits few t. few) (rose_from old.faults now.faults next.faults so_far.faults_stay once.cause)

-- it ended, and all of it was judged
found_whole : (wanted : Topology) (came left : List ℕ) (verdict : Judgement) → left ≡ [] → length came ≤ most_bytes → verdict ≡ verdict_in wanted came → IsSaid wanted came verdict → IsFound wanted came left (found_by verdict)
found_whole wanted came left (Legal summary) none few is said = ((none, few), (sym is, said))
found_whole wanted came left (Bad line cause) none few is said = ((none, few), sym is)

caused_by : (verdict : Judgement) (a b c d : ℕ) → FaultHasCause a b c d (found_by verdict)
caused_by (Legal summary) a b c d = tt
caused_by (Bad line cause) a b c d = tt

pub end_read : (wanted : Topology) (old now next : SourceSeen) (audit : AuditSeen) (piece : List ℕ) (verdict : Judgement) → IsSound wanted → ReadSoFar wanted old now audit → ReadOnce now next piece End
    → ((topology : Topology) (text : List ℕ) → Audits topology text audit → verdict ≡ verdict_in topology text) → ((topology : Topology) (text : List ℕ) → IsSound topology → Audits topology text audit → IsSaid topology text verdict)
    → ReadsSource (found_by verdict) wanted old next
end_read wanted old now next audit piece verdict sound so_far once is said =
    read_none (found_by verdict) wanted old now next audit so_far once.same_telling (λ t. let bytes = once.bytes t in (bytes.1 ∙ sym bytes.0, bytes.2))
    (λ came audits few t. found_whole wanted came next.left verdict (once.bytes t).1 few (is wanted came audits) (said wanted came sound audits))
    (caused_by verdict old.faults next.faults old.waits next.waits)

-- ---- the source given back

judged_as : (name : List ℕ) (wanted : Topology) (opened source : SourceSeen) (old new : EdgesSeen) (result : Result Summary Refusal) → JudgesSource wanted opened source result
    → new.sources_back ≡ old.sources_back ++ (name, source) ∷ [] → IsJudgedBy name wanted opened old new result
judged_as name wanted opened source old new (Ok summary) reads back = record { source = source; reads = reads; back = back }
judged_as name wanted opened source old new (Err (Audit fault)) reads back = record { source = source; reads = reads; back = back }
judged_as name wanted opened source old new (Err Memory) reads back = tt
judged_as name wanted opened source old new (Err Usage) reads back = absurd reads
judged_as name wanted opened source old new (Err (NoTopology fault)) reads back = absurd reads
judged_as name wanted opened source old new (Err (Stock shortage)) reads back = absurd reads
judged_as name wanted opened source old new (Err (Edge other)) reads back = absurd reads

pub opened_back : {T E : Type 0} (name : List ℕ) (wanted : Topology) (opened source : SourceSeen) (old new : EdgesSeen) (result : Result Summary Refusal) (x : T) → JudgesSource wanted opened source result
    → BacksSource {T = T} {E = E} name source old new (Ok x) → JudgesOpened name wanted opened old new result
opened_back name wanted opened source old new result x reads b = record {
  comes = judged_as name wanted opened source old new result reads b.sources;
  same_telling = b.same_telling;
  asked = b.asked;
  sources = inr (source, b.sources);
  sinks = b.sinks;
}

pub opened_lost : {T E : Type 0} (name : List ℕ) (wanted : Topology) (opened source : SourceSeen) (old new : EdgesSeen) (e : E) → BacksSource {T = T} {E = E} name source old new (Err e) → JudgesOpened name wanted opened old new (Err Memory)
opened_lost name wanted opened source old new e b = record {
  comes = tt;
  same_telling = b.same_telling;
  asked = b.asked;
  sources = inl b.sources;
  sinks = b.sinks;
}

-- ---- the source by its name

audit_of : (name : List ℕ) (end : Result Summary AuditFault) (wanted : Topology) (opened : SourceSeen) (old middle new : EdgesSeen) → GivesSource old name opened → middle.sources_back ≡ old.sources_back
    → IsJudged name end wanted opened middle new → IsAuditOf name end wanted old new
audit_of name end wanted opened old middle new given same j = record {
  opened = opened;
  source = j.source;
  given = given;
  same_telling = j.reads.same_telling;
  same_bytes = λ t. j.reads.same_bytes t given.nothing_taken;
  found = λ t. j.reads.found t given.nothing_taken;
  cause =
      subst (λ (waits : ℕ). FaultHasCause 0 j.source.faults waits j.source.waits end) given.no_wait
      (subst (λ (faults : ℕ). FaultHasCause faults j.source.faults opened.waits j.source.waits end) given.no_fault j.reads.cause);
  back = j.back ∙ ap (λ l. l ++ (name, j.source) ∷ []) same;
}

journal_judged : (name : List ℕ) (wanted : Topology) (opened : SourceSeen) (old middle new : EdgesSeen) (result : Result Summary Refusal) → GivesSource old name opened → middle.sources_back ≡ old.sources_back
    → IsJudgedBy name wanted opened middle new result → JudgesJournal name wanted old new result
journal_judged name wanted opened old middle new (Ok summary) given same j = audit_of name (Ok summary) wanted opened old middle new given same j
journal_judged name wanted opened old middle new (Err (Audit fault)) given same j = audit_of name (Err fault) wanted opened old middle new given same j
journal_judged name wanted opened old middle new (Err Memory) given same j = tt
journal_judged name wanted opened old middle new (Err Usage) given same j = absurd j
journal_judged name wanted opened old middle new (Err (NoTopology fault)) given same j = absurd j
journal_judged name wanted opened old middle new (Err (Stock shortage)) given same j = absurd j
journal_judged name wanted opened old middle new (Err (Edge other)) given same j = absurd j

asked_journal : (result : Result Summary Refusal) (call : EdgeKind × List ℕ) (asked asked' : List (EdgeKind × List ℕ)) → asked' ≡ asked ++ call ∷ [] → AskedJournal result call asked asked'
asked_journal (Ok summary) call asked asked' is = is
asked_journal (Err Memory) call asked asked' is = record { count = 1; is = is }
asked_journal (Err (Audit fault)) call asked asked' is = is
asked_journal (Err (NoTopology fault)) call asked asked' is = is
asked_journal (Err (Edge other)) call asked asked' is = is
asked_journal (Err Usage) call asked asked' is = is
asked_journal (Err (Stock shortage)) call asked asked' is = is

back_from : (name : List ℕ) (old middle new : EdgesSeen) → middle.sources_back ≡ old.sources_back → MayBeBack name middle new → MayBeBack name old new
back_from name old middle new same (inl x) = inl (x ∙ same)
back_from name old middle new same (inr x) = inr (x.0, x.1 ∙ ap (λ l. l ++ (name, x.0) ∷ []) same)

-- it was opened
pub journal_read : {T : Type 0} (old middle new : EdgesSeen) (name copy : List ℕ) (wanted : Topology) (opened : SourceSeen) (result : Result Summary Refusal) (x : T) → copy ≡ name
    → Opens {T = T} SourceKind copy old middle (Ok x) → GivesSource old copy opened → JudgesOpened copy wanted opened middle new result → ReadsJournal old new name wanted result
journal_read old middle new name copy wanted opened result x same o given j = subst (λ (n : List ℕ). ReadsJournal old new n wanted result) same (record {
  comes = journal_judged copy wanted opened old middle new result given o.sources j.comes;
  asked_by = λ t. asked_journal result (SourceKind, copy) old.asked new.asked (j.asked (rw o.same_telling t) ∙ o.asked t);
  same_telling = j.same_telling ∙ o.same_telling;
  sources = back_from copy old middle new o.sources j.sources;
  sinks = j.sinks ∙ o.sinks;
})

-- it was not
pub journal_failed : {T : Type 0} (old new : EdgesSeen) (name copy : List ℕ) (wanted : Topology) → copy ≡ name → Opens {T = T} SourceKind copy old new (Err edge.Failed) → ReadsJournal old new name wanted (Err (Edge copy))
journal_failed old new name copy wanted same o = record {
  comes = (same, o.cause);
  asked_by = λ t. o.asked t ∙ ap (λ (n : List ℕ). old.asked ++ (SourceKind, n) ∷ []) same;
  same_telling = o.same_telling;
  sources = inl o.sources;
  sinks = o.sinks;
}

pub journal_wanting : {T : Type 0} (old new : EdgesSeen) (name copy : List ℕ) (wanted : Topology) → Opens {T = T} SourceKind copy old new (Err edge.OutOfMemory) → ReadsJournal old new name wanted (Err Memory)
journal_wanting old new name copy wanted o = record {
  comes = tt;
  asked_by = λ t. record { count = 0; is = o.asked t ∙ sym (append-nil old.asked) };
  same_telling = o.same_telling;
  sources = inl o.sources;
  sinks = o.sinks;
}

-- nothing was called
pub journal_unasked : (edges : EdgesSeen) (name : List ℕ) (wanted : Topology) → ReadsJournal edges edges name wanted (Err Memory)
journal_unasked edges name wanted = record {
  comes = tt;
  asked_by = λ t. record { count = 0; is = sym (append-nil edges.asked) };
  same_telling = refl;
  sources = inl refl;
  sinks = refl;
}

-- ---- the call

back_outside : (name : List ℕ) (old new : OutsideSeen) → MayBeBack name old.edges new.edges → new.edges.sinks_back ≡ old.edges.sinks_back → new.clock ≡ old.clock → new.boxes ≡ old.boxes → IsJournalBack name old new
back_outside name old new sources sinks clock boxes = record { sources = sources; sinks = sinks; clock = clock; boxes = boxes }

pub journal_found : (old new : OutsideSeen) (name : List ℕ) (wanted : Topology) (summary : Summary) (topology : Option Topology) (before : History) (verdict : Verdict)
    → ReadsJournal old.edges new.edges name wanted (Ok summary) → IsAuditedOrNot summary wanted topology before verdict → new.clock ≡ old.clock → new.boxes ≡ old.boxes
    → ComesAudited old new name wanted topology before verdict
journal_found old new name wanted summary topology before verdict r (inl m) clock boxes = rw (m.refused, m.no_topology) (record {
  found = Ok summary;
  comes = record {
    outcome = inl m.no_step;
    outside = back_outside name old new r.sources r.sinks clock boxes;
    asked_by = λ t. record { count = 1; is = r.asked_by t };
    same_telling = r.same_telling;
    audited = λ a b. absurd (b refl);
  };
})
journal_found old new name wanted summary topology before verdict r (inr x) clock boxes = record {
  found = Ok summary;
  comes = record {
    outcome = inr x;
    outside = back_outside name old new r.sources r.sinks clock boxes;
    asked_by = λ t. rw x.counted (r.asked_by t);
    same_telling = r.same_telling;
    audited = λ a b. r.comes;
  };
}

pub journal_refused : (old new : OutsideSeen) (name : List ℕ) (wanted : Topology) (refusal : Refusal) (topology : Option Topology) (before : History) (verdict : Verdict)
    → ReadsJournal old.edges new.edges name wanted (Err refusal) → verdict ≡ Refused refusal → (topology ≡ None) × (before ≡ []) → new.clock ≡ old.clock → new.boxes ≡ old.boxes
    → ComesAudited old new name wanted topology before verdict
journal_refused old new name wanted (Audit fault) topology before verdict r is none clock boxes = record {
  found = Err fault;
  comes = record {
    outcome = inr (record { refused = is; no_topology = none.0; no_step = none.1 });
    outside = back_outside name old new r.sources r.sinks clock boxes;
    asked_by = λ t. rw is (r.asked_by t);
    same_telling = r.same_telling;
    audited = λ a b. r.comes;
  };
}
journal_refused old new name wanted Memory topology before verdict r is none clock boxes = rw (is, none.0) (record {
  found = Err Large;
  comes = record {
    outcome = inl none.1;
    outside = back_outside name old new r.sources r.sinks clock boxes;
    asked_by = r.asked_by;
    same_telling = r.same_telling;
    audited = λ a b. absurd (b refl);
  };
})
journal_refused old new name wanted (Edge other) topology before verdict r is none clock boxes =
    let failed : FailsAt old.edges.told ((SourceKind, name) ∷ []) old.edges.asked new.edges.asked (Rose old.edges.faults new.edges.faults) other = record {
      kind = SourceKind;
      front = [];
      rest = [];
      parts = ap (λ (n : List ℕ). (SourceKind, n) ∷ []) (sym r.comes.0);
      is_last = λ t. r.asked_by t ∙ ap (λ (n : List ℕ). old.edges.asked ++ (SourceKind, n) ∷ []) (sym r.comes.0);
      rose = r.comes.1;
    } in
    rw (is, none.0) (record {
      found = Err Large;
      comes = record {
        outcome = inl (none.1, failed);
        outside = back_outside name old new r.sources r.sinks clock boxes;
        asked_by = λ t. tt;
        same_telling = r.same_telling;
        audited = λ a b. absurd (a refl);
      };
    })
journal_refused old new name wanted Usage topology before verdict r is none clock boxes = absurd r.comes
journal_refused old new name wanted (NoTopology fault) topology before verdict r is none clock boxes = absurd r.comes
journal_refused old new name wanted (Stock shortage) topology before verdict r is none clock boxes = absurd r.comes
