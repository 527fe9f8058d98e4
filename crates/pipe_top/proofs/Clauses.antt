-- From what a call came to, to the clauses of the top call.
use Rattle.std.proofs.Common.{◌≡◌, ◌≢◌, ℕ, ◌≤◌, ◌<◌, List, [], ◌∷◌, ◌++◌, length, take, Bool, Option, Some, None, Result, Ok, Err, refl, sym, ◌∙◌, ap, subst, inl, inr, arith}
use Rattle.std.specs.Prelude.{◌⊎◌, IsTrue, if◌then◌else◌, nat_le}
use Rattle.std.proofs.lemmas.List.{append-nil, append_assoc, take_all, take_at}
use Rattle.std.proofs.Math.Seq.{take-nil}
use Rattle.pipe_types.specs.declared.topology.Topology.{Topology}
use Rattle.pipe_model.specs.History.{History}
use Rattle.pipe_edges.specs.declared.edges.EdgeKind.{EdgeKind}
use Rattle.edge_names.specs.Supplies.{Feeds}
use Rattle.program_words.specs.Refusals.{memory_line}
use Rattle.run_verdicts.specs.Judged.{Summary}
use Rattle.program_words.specs.Words.{Command, Flow, Check, Run, Gen, Upgrade, Audit as AuditOf}
use Rattle.topology_needs.specs.declared.stock.Boxes.{Boxes}
use Rattle.topology_needs.specs.declared.stock.Shortage.{Shortage}
use Rattle.topology_needs.specs.Needs.{shortage_of}
use Rattle.config_table.specs.declared.fault.ConfigFault.{ConfigFault}
use Rattle.config_flow.specs.Flow.{flow_topology_of}
use Rattle.pipe_config.specs.File.{topology_of_file}
use Rattle.pipe_top.specs.Cases.{Feeding, Named, Filed, MadeFrom, feeds_of, Case, NoCommand, NoTopology as BadTopology, TooFew, Checks, Upgrades, Audits, Rejects, Runs, audit_case, case_of, run_case, unless_short, for_topology, report_alone}
use Rattle.run_verdicts.specs.Verdicts.{Adds, AddsPrefix, out_text_of, err_text_of, status_in, FaultBy, QuietBy, UnlessNine}
use Rattle.pipe_top.specs.Runs.{OutsideSeen, IsRunOrNone, IsEndOf, IsOwnTopology, IsStatusOf, IsReportOf, IsRefusal, IsRefused, Lost, IsUntouched, HasUsed, HasNotBegun, HasRunOrNot, IsBrokenOff, IsGivenUp, IsOutsideOf, IsEndStatus, IsRunStatus, SaysUnfed, IsUnfedBy, IsUnfed, IsUnfedIn, live_line, IsKnownStatus, IsRefusalStatus, IsUnopenedStatus, IsOr, Asks, FailsAt, NamesFault, IsEdgeLine, BeginsLine, out_text, text_of_call, case_line, error_text}
use Rattle.pipe_top.specs.Flows.{Outcome, IsEarly, AskedBy, ShowsUnfed}
use Rattle.run_verdicts.specs.declared.verdict.Texts.{Texts}
use Rattle.run_verdicts.specs.declared.verdict.Refusal.{Refusal}
use Rattle.run_verdicts.specs.declared.verdict.Refusal.TheVariants.{Usage, Topology as NoTopology, Stock, Edge, Audit, Memory}
use Rattle.run_verdicts.specs.Audits.{fault_line, fault_status}
use Rattle.run_verdicts.specs.declared.audits.AuditFault.{AuditFault}
use Rattle.run_verdicts.specs.declared.audits.AuditFault.TheVariants.{Line, Large, Wait, Source}
use Rattle.run_verdicts.specs.declared.verdict.Shows.{Shows}
use Rattle.run_verdicts.specs.declared.verdict.Verdict.{Verdict}
use Rattle.run_verdicts.specs.declared.verdict.Verdict.TheVariants.{Refused, Done, Unfed}
use Rattle.pipe_top.proofs.Outcomes.{Fails, Early, early, IsDone, IsUnfedWith, Reported, done_few, ran, settled, is_reported, is_small, is_status, not_small, not_both, ended_of, err_of, few_of, out_of, run_status}
use Rattle.pipe_top.proofs.Statuses.{status_few}

-- ---- the statuses of verdicts

early_status : {fails : List ℕ → Type 0} (verdict : Verdict) → (verdict ≡ Refused Memory) ⊎ Fails fails verdict → (status_in verdict ≡ 9) ⊎ (status_in verdict ≡ 5)
early_status verdict (inl is) = inl (ap status_in is)
early_status verdict (inr f) = inr (ap status_in f.is)

early_at : (fails : List ℕ → Type 0) (topology : Option Topology) (before : History) (verdict : Verdict) → IsEarly fails topology before verdict → (status_in verdict ≡ 9) ⊎ (status_in verdict ≡ 5)
early_at fails topology before verdict e = early_status verdict (early fails topology before verdict e).why

nine_or_five : (s n : ℕ) → (s ≡ 9) ⊎ (s ≡ 5) → s ≡ n → n ≢ 9 → n ≢ 5 → ⊥
nine_or_five s n (inl is) at a b = a (omega (arith, is, at))
nine_or_five s n (inr is) at a b = b (omega (arith, is, at))

early_big : (s : ℕ) → (s ≡ 9) ⊎ (s ≡ 5) → IsEndStatus s → ⊥
early_big s (inl is) few = not_small 9 s is (omega arith) (omega arith) few
early_big s (inr is) few = not_small 5 s is (omega arith) (omega arith) few

-- the statuses of an audit that found no legal journal
fault_known : (fault : AuditFault) → IsKnownStatus (fault_status fault)
fault_known (Line line cause) = inr (inl refl)
fault_known Large = inr (inl refl)
fault_known Wait = inr (inl refl)
fault_known Source = inl (omega arith)

-- they are none of a call by name that failed, of a topology, of words, of a write or of wanting memory
fault_not : (fault : AuditFault) (n : ℕ) → 5 ≤ n → n ≤ 9 → fault_status fault ≡ n → ⊥
fault_not (Line line cause) n low high is = omega (arith, low, high, is)
fault_not Large n low high is = omega (arith, low, high, is)
fault_not Wait n low high is = omega (arith, low, high, is)
fault_not Source n low high is = omega (arith, low, high, is)

fault_not_twelve : (fault : AuditFault) → fault_status fault ≡ 12 → ⊥
fault_not_twelve (Line line cause) is = omega (arith, is)
fault_not_twelve Large is = omega (arith, is)
fault_not_twelve Wait is = omega (arith, is)
fault_not_twelve Source is = omega (arith, is)

-- its line is written under 11
fault_text : (fault : AuditFault) (name : List ℕ) (wanted : Topology) → fault_line fault ≡ error_text (fault_status fault) (Rejects name fault wanted)
fault_text (Line line cause) name wanted = refl
fault_text Large name wanted = refl
fault_text Wait name wanted = refl
fault_text Source name wanted = refl

pub known : (case : Case) (fails : List ℕ → Type 0) (topology : Option Topology) (before : History) (verdict : Verdict) → Outcome case fails topology before verdict → IsKnownStatus (status_in verdict)
known case fails topology before verdict (inl e) = by_early (status_in verdict) (early_at fails topology before verdict e)
  where
    by_early : (s : ℕ) → (s ≡ 9) ⊎ (s ≡ 5) → IsKnownStatus s
    by_early s (inl is) = inl (omega (arith, is))
    by_early s (inr is) = inl (omega (arith, is))
known NoCommand fails topology before verdict (inr r) = inl (rw r.refused (omega arith))
known (BadTopology fault) fails topology before verdict (inr r) = inl (rw r.refused (omega arith))
known (TooFew shortage) fails topology before verdict (inr r) = inl (rw r.refused (omega arith))
known (Checks wanted) fails topology before verdict (inr r) = inl (rw r.counted (omega arith))
known (Upgrades file text wanted) fails topology before verdict (inr r) = inl (rw r.counted (omega arith))
known (Audits name summary wanted) fails topology before verdict (inr r) = inl (rw r.counted (omega arith))
known (Rejects name fault wanted) fails topology before verdict (inr r) = rw r.refused (fault_known fault)
known (Runs shows live feeding wanted) fails topology before verdict (inr r) = by_run (ran verdict shows live wanted before r.comes_to)
  where
    known_end : IsEndStatus (status_in verdict) → IsKnownStatus (status_in verdict)
    known_end (inl few) = inl (omega (arith, few))
    known_end (inr twelve) = inr (inr twelve)

    by_run : Reported shows live wanted before verdict ⊎ (verdict ≡ Refused Memory) → IsKnownStatus (status_in verdict)
    by_run (inl v) = known_end (few_of v)
    by_run (inr is) = inl (rw is (omega arith))

-- 8 is no status of a verdict
pub never_eight : (case : Case) (fails : List ℕ → Type 0) (topology : Option Topology) (before : History) (verdict : Verdict) → Outcome case fails topology before verdict → status_in verdict ≢ 8
never_eight case fails topology before verdict (inl e) = λ at. nine_or_five (status_in verdict) 8 (early_at fails topology before verdict e) at (λ x. cc) (λ x. cc)
never_eight NoCommand fails topology before verdict (inr r) = rw r.refused (λ x. cc)
never_eight (BadTopology fault) fails topology before verdict (inr r) = rw r.refused (λ x. cc)
never_eight (TooFew shortage) fails topology before verdict (inr r) = rw r.refused (λ x. cc)
never_eight (Checks wanted) fails topology before verdict (inr r) = rw r.counted (λ x. cc)
never_eight (Upgrades file text wanted) fails topology before verdict (inr r) = rw r.counted (λ x. cc)
never_eight (Audits name summary wanted) fails topology before verdict (inr r) = rw r.counted (λ x. cc)
never_eight (Rejects name fault wanted) fails topology before verdict (inr r) = rw r.refused (λ x. fault_not fault 8 (omega arith) (omega arith) x)
never_eight (Runs shows live feeding wanted) fails topology before verdict (inr r) = by_run (ran verdict shows live wanted before r.comes_to)
  where
    by_run : Reported shows live wanted before verdict ⊎ (verdict ≡ Refused Memory) → status_in verdict ≢ 8
    by_run (inl v) = λ at. not_small 8 (status_in verdict) at (omega arith) (omega arith) (few_of v)
    by_run (inr is) = rw is (λ x. cc)

-- ---- the topology and the end

pub own : (case : Case) (fails : List ℕ → Type 0) (topology : Option Topology) (before : History) (verdict : Verdict) → Outcome case fails topology before verdict → IsOwnTopology topology before case
own case fails topology before verdict (inl e) = rw (early fails topology before verdict e).no_topology (early fails topology before verdict e).no_step
own NoCommand fails topology before verdict (inr r) = rw r.no_topology r.no_step
own (BadTopology fault) fails topology before verdict (inr r) = rw r.no_topology r.no_step
own (TooFew shortage) fails topology before verdict (inr r) = rw r.no_topology r.no_step
own (Checks wanted) fails topology before verdict (inr r) = rw r.own (refl, r.no_step)
own (Upgrades file text wanted) fails topology before verdict (inr r) = rw r.own (refl, r.no_step)
own (Audits name summary wanted) fails topology before verdict (inr r) = rw r.own (refl, r.no_step)
own (Rejects name fault wanted) fails topology before verdict (inr r) = rw r.no_topology r.no_step
own (Runs shows live feeding wanted) fails topology before verdict (inr r) = rw r.own refl

pub run : (case : Case) (fails : List ℕ → Type 0) (topology : Option Topology) (before : History) (verdict : Verdict) → Outcome case fails topology before verdict → IsRunOrNone topology before
run case fails topology before verdict (inl e) = rw (early fails topology before verdict e).no_topology (early fails topology before verdict e).no_step
run NoCommand fails topology before verdict (inr r) = rw r.no_topology r.no_step
run (BadTopology fault) fails topology before verdict (inr r) = rw r.no_topology r.no_step
run (TooFew shortage) fails topology before verdict (inr r) = rw r.no_topology r.no_step
run (Checks wanted) fails topology before verdict (inr r) = rw r.own r.run
run (Upgrades file text wanted) fails topology before verdict (inr r) = rw r.own r.run
run (Audits name summary wanted) fails topology before verdict (inr r) = rw r.own r.run
run (Rejects name fault wanted) fails topology before verdict (inr r) = rw r.no_topology r.no_step
run (Runs shows live feeding wanted) fails topology before verdict (inr r) = rw r.own r.run

ended_in : (case : Case) (fails : List ℕ → Type 0) (topology : Option Topology) (before : History) (verdict : Verdict) → Outcome case fails topology before verdict → IsEndStatus (status_in verdict)
    → IsEndOf topology before (status_in verdict) case
ended_in case fails topology before verdict (inl e) few = absurd (early_big (status_in verdict) (early_at fails topology before verdict e) few)
ended_in NoCommand fails topology before verdict (inr r) few = absurd (not_small 7 (status_in verdict) (ap status_in r.refused) (omega arith) (omega arith) few)
ended_in (BadTopology fault) fails topology before verdict (inr r) few = absurd (not_small 6 (status_in verdict) (ap status_in r.refused) (omega arith) (omega arith) few)
ended_in (TooFew shortage) fails topology before verdict (inr r) few = absurd (not_small 6 (status_in verdict) (ap status_in r.refused) (omega arith) (omega arith) few)
ended_in (Checks wanted) fails topology before verdict (inr r) few = (ap status_in r.counted, r.own, r.no_step)
ended_in (Upgrades file text wanted) fails topology before verdict (inr r) few = (ap status_in r.counted, r.own, r.no_step, r.upgrade)
ended_in (Audits name summary wanted) fails topology before verdict (inr r) few = (ap status_in r.counted, r.own, r.no_step)
ended_in (Rejects name fault wanted) fails topology before verdict (inr r) few = (ap status_in r.refused, r.no_topology, r.no_step)
ended_in (Runs shows live feeding wanted) fails topology before verdict (inr r) few = by_run (ran verdict shows live wanted before r.comes_to)
  where
    by_run : Reported shows live wanted before verdict ⊎ (verdict ≡ Refused Memory) → IsEndOf topology before (status_in verdict) (Runs shows live feeding wanted)
    by_run (inl v) = (r.own, ended_of v)
    by_run (inr is) = absurd (not_small 9 (status_in verdict) (ap status_in is) (omega arith) (omega arith) few)

pub ended : (case : Case) (fails : List ℕ → Type 0) (topology : Option Topology) (before : History) (verdict : Verdict) (status : ℕ) → Outcome case fails topology before verdict
    → (status ≡ status_in verdict) ⊎ ((status ≡ 8) ⊎ (status ≡ 9)) → IsEndStatus status → IsEndOf topology before status case
ended case fails topology before verdict status o is few =
    let e = is_small status (status_in verdict) is few in
    rw e (ended_in case fails topology before verdict o (rw e at few))

-- ---- the output

small_text : (before : History) (case : Case) (fails : List ℕ → Type 0) (topology : Option Topology) (verdict : Verdict) → Outcome case fails topology before verdict → IsEndStatus (status_in verdict)
    → out_text_of before verdict ≡ out_text before case
small_text before case fails topology verdict (inl e) few = absurd (early_big (status_in verdict) (early_at fails topology before verdict e) few)
small_text before NoCommand fails topology verdict (inr r) few = absurd (not_small 7 (status_in verdict) (ap status_in r.refused) (omega arith) (omega arith) few)
small_text before (BadTopology fault) fails topology verdict (inr r) few = absurd (not_small 6 (status_in verdict) (ap status_in r.refused) (omega arith) (omega arith) few)
small_text before (TooFew shortage) fails topology verdict (inr r) few = absurd (not_small 6 (status_in verdict) (ap status_in r.refused) (omega arith) (omega arith) few)
small_text before (Checks wanted) fails topology verdict (inr r) few = rw r.counted r.counts
small_text before (Upgrades file text wanted) fails topology verdict (inr r) few = rw r.counted r.counts
small_text before (Audits name summary wanted) fails topology verdict (inr r) few = rw r.counted r.counts
small_text before (Rejects name fault wanted) fails topology verdict (inr r) few = ap (out_text_of before) r.refused
small_text before (Runs shows live feeding wanted) fails topology verdict (inr r) few = by_run (ran verdict shows live wanted before r.comes_to)
  where
    by_run : Reported shows live wanted before verdict ⊎ (verdict ≡ Refused Memory) → out_text_of before verdict ≡ out_text before (Runs shows live feeding wanted)
    by_run (inl v) = out_of v
    by_run (inr is) = absurd (not_small 9 (status_in verdict) (ap status_in is) (omega arith) (omega arith) few)

pub reported : (case : Case) (fails : List ℕ → Type 0) (topology : Option Topology) (before : History) (verdict : Verdict) (status : ℕ) (held held' : List ℕ) → Outcome case fails topology before verdict
    → (status ≡ status_in verdict) ⊎ ((status ≡ 8) ⊎ (status ≡ 9)) → IsEndStatus status → Adds held held' (out_text_of before verdict) → Adds held held' (out_text before case)
reported case fails topology before verdict status held held' o is few adds =
    adds ∙ ap (λ text. held ++ text) (small_text before case fails topology verdict o (rw (is_small status (status_in verdict) is few) at few))

begun_nothing : (held held' text : List ℕ) → AddsPrefix held held' [] → AddsPrefix held held' text
begun_nothing held held' text begun = record {
  count = 0;
  is = begun.is ∙ ap (λ x. held ++ x) (take-nil begun.count);
}

begun_refusal : (before : History) (held held' text : List ℕ) (verdict : Verdict) (refusal : Refusal) → verdict ≡ Refused refusal → AddsPrefix held held' (out_text_of before verdict) → AddsPrefix held held' text
begun_refusal before held held' text verdict refusal is begun = begun_nothing held held' text (rw is at begun)

begun_early : (fails : List ℕ → Type 0) (before : History) (held held' text : List ℕ) (verdict : Verdict) → (verdict ≡ Refused Memory) ⊎ Fails fails verdict → AddsPrefix held held' (out_text_of before verdict) → AddsPrefix held held' text
begun_early fails before held held' text verdict (inl is) begun = begun_refusal before held held' text verdict Memory is begun
begun_early fails before held held' text verdict (inr f) begun = begun_refusal before held held' text verdict (Edge f.name) f.is begun

pub begun : (case : Case) (fails : List ℕ → Type 0) (topology : Option Topology) (before : History) (verdict : Verdict) (held held' : List ℕ) → Outcome case fails topology before verdict
    → AddsPrefix held held' (out_text_of before verdict) → AddsPrefix held held' (text_of_call topology before case)
begun case fails topology before verdict held held' (inl e) b =
    let none = early fails topology before verdict e in
    rw none.no_topology (begun_early fails before held held' [] verdict none.why b)
begun NoCommand fails topology before verdict held held' (inr r) b = rw r.no_topology (begun_refusal before held held' [] verdict Usage r.refused b)
begun (BadTopology fault) fails topology before verdict held held' (inr r) b = rw r.no_topology (begun_refusal before held held' [] verdict (NoTopology fault) r.refused b)
begun (TooFew shortage) fails topology before verdict held held' (inr r) b = rw r.no_topology (begun_refusal before held held' [] verdict (Stock shortage) r.refused b)
begun (Checks wanted) fails topology before verdict held held' (inr r) b =
    let counted : AddsPrefix held held' (out_text_of before (Done r.texts 0)) = rw r.counted at b in
    rw r.own (rw r.counts at counted)
begun (Upgrades file text wanted) fails topology before verdict held held' (inr r) b =
    let counted : AddsPrefix held held' (out_text_of before (Done r.texts 0)) = rw r.counted at b in
    rw r.own (rw r.counts at counted)
begun (Audits name summary wanted) fails topology before verdict held held' (inr r) b =
    let counted : AddsPrefix held held' (out_text_of before (Done r.texts 0)) = rw r.counted at b in
    rw r.own (rw r.counts at counted)
begun (Rejects name fault wanted) fails topology before verdict held held' (inr r) b = rw r.no_topology (begun_refusal before held held' [] verdict (Audit fault) r.refused b)
begun (Runs shows live feeding wanted) fails topology before verdict held held' (inr r) b = rw r.own (by_run (ran verdict shows live wanted before r.comes_to))
  where
    by_run : Reported shows live wanted before verdict ⊎ (verdict ≡ Refused Memory) → AddsPrefix held held' (out_text before (Runs shows live feeding wanted))
    by_run (inl v) = rw (out_of v) at b
    by_run (inr is) = begun_refusal before held held' (out_text before (Runs shows live feeding wanted)) verdict Memory is b

-- texts are written with 0 to 4 alone
texts_small : (case : Case) (fails : List ℕ → Type 0) (topology : Option Topology) (before : History) (verdict : Verdict) → Outcome case fails topology before verdict
    → IsEndStatus (status_in verdict) ⊎ (out_text_of before verdict ≡ [])
texts_small case fails topology before verdict (inl e) = by_early (early fails topology before verdict e).why
  where
    by_early : (verdict ≡ Refused Memory) ⊎ Fails fails verdict → IsEndStatus (status_in verdict) ⊎ (out_text_of before verdict ≡ [])
    by_early (inl is) = inr (ap (out_text_of before) is)
    by_early (inr f) = inr (ap (out_text_of before) f.is)
texts_small NoCommand fails topology before verdict (inr r) = inr (ap (out_text_of before) r.refused)
texts_small (BadTopology fault) fails topology before verdict (inr r) = inr (ap (out_text_of before) r.refused)
texts_small (TooFew shortage) fails topology before verdict (inr r) = inr (ap (out_text_of before) r.refused)
texts_small (Checks wanted) fails topology before verdict (inr r) = inl (inl (rw r.counted (omega arith)))
texts_small (Upgrades file text wanted) fails topology before verdict (inr r) = inl (inl (rw r.counted (omega arith)))
texts_small (Audits name summary wanted) fails topology before verdict (inr r) = inl (inl (rw r.counted (omega arith)))
texts_small (Rejects name fault wanted) fails topology before verdict (inr r) = inr (ap (out_text_of before) r.refused)
texts_small (Runs shows live feeding wanted) fails topology before verdict (inr r) = by_run (ran verdict shows live wanted before r.comes_to)
  where
    by_run : Reported shows live wanted before verdict ⊎ (verdict ≡ Refused Memory) → IsEndStatus (status_in verdict) ⊎ (out_text_of before verdict ≡ [])
    by_run (inl v) = inl (few_of v)
    by_run (inr is) = inr (ap (out_text_of before) is)

-- the numbers of a refusal
refusal_is : (s : ℕ) → IsRefusalStatus s → (4 < s) × (s ≢ 8) × (s ≢ 9) × (s < 12)
refusal_is s (inl a) = (omega (arith, a), (λ at. omega (arith, a, at)), (λ at. omega (arith, a, at)), omega (arith, a))
refusal_is s (inr (inl a)) = (omega (arith, a), (λ at. omega (arith, a, at)), (λ at. omega (arith, a, at)), omega (arith, a))
refusal_is s (inr (inr a)) = (omega (arith, a), (λ at. omega (arith, a, at)), (λ at. omega (arith, a, at)), omega (arith, a))

-- under a refusal nothing is written to the output
pub unwritten_out : (case : Case) (fails : List ℕ → Type 0) (topology : Option Topology) (before : History) (verdict : Verdict) (status : ℕ) (held held' : List ℕ) → Outcome case fails topology before verdict
    → (status ≡ status_in verdict) ⊎ ((status ≡ 8) ⊎ (status ≡ 9)) → IsRefusalStatus status → (status ≢ 8 → Adds held held' (out_text_of before verdict)) → held' ≡ held
unwritten_out case fails topology before verdict status held held' o is refusal adds =
    let r = refusal_is status refusal in
    let s = settled status (status_in verdict) is r.1 r.2 in
    adds r.1 ∙ ap (λ text. held ++ text) (no_text s r.0 r.3 (texts_small case fails topology before verdict o)) ∙ append-nil held
  where
    no_text : status ≡ status_in verdict → 4 < status → status < 12 → IsEndStatus (status_in verdict) ⊎ (out_text_of before verdict ≡ []) → out_text_of before verdict ≡ []
    no_text s more less (inl few) = absurd (not_small status (status_in verdict) (sym s) more less few)
    no_text s more less (inr none) = none

-- under 9 nothing is written to the output
pub unwritten_nine : (case : Case) (fails : List ℕ → Type 0) (topology : Option Topology) (before : History) (verdict : Verdict) (status : ℕ) (held held' : List ℕ) → Outcome case fails topology before verdict
    → status ≡ 9 → (status ≢ 8 → Adds held held' (out_text_of before verdict)) → UnlessNine verdict (held' ≡ held) → held' ≡ held
unwritten_nine case fails topology before verdict status held held' o nine adds nothing = by_text (texts_small case fails topology before verdict o)
  where
    small : (v : Verdict) → IsEndStatus (status_in v) → UnlessNine v (held' ≡ held) → held' ≡ held
    small (Done texts s) few unless = unless (λ at. not_small 9 s at (omega arith) (omega arith) few)
    small (Unfed texts line) few unless = unless
    small (Refused refusal) few unless = unless

    by_text : IsEndStatus (status_in verdict) ⊎ (out_text_of before verdict ≡ []) → held' ≡ held
    by_text (inl few) = small verdict few nothing
    by_text (inr none) = adds (λ eight. omega (arith, nine, eight)) ∙ ap (λ text. held ++ text) none ∙ append-nil held

-- ---- statuses and lines

pub status_is : (case : Case) (fails : List ℕ → Type 0) (topology : Option Topology) (before : History) (verdict : Verdict) → Outcome case fails topology before verdict
    → status_in verdict ≢ 5 → status_in verdict ≢ 9 → IsStatusOf (status_in verdict) case
status_is case fails topology before verdict (inl e) a b = absurd (by_early (early_at fails topology before verdict e))
  where
    by_early : (status_in verdict ≡ 9) ⊎ (status_in verdict ≡ 5) → ⊥
    by_early (inl is) = b is
    by_early (inr is) = a is
status_is NoCommand fails topology before verdict (inr r) a b = ap status_in r.refused
status_is (BadTopology fault) fails topology before verdict (inr r) a b = ap status_in r.refused
status_is (TooFew shortage) fails topology before verdict (inr r) a b = ap status_in r.refused
status_is (Checks wanted) fails topology before verdict (inr r) a b = ap status_in r.counted
status_is (Upgrades file text wanted) fails topology before verdict (inr r) a b = ap status_in r.counted
status_is (Audits name summary wanted) fails topology before verdict (inr r) a b = ap status_in r.counted
status_is (Rejects name fault wanted) fails topology before verdict (inr r) a b = ap status_in r.refused
status_is (Runs shows live feeding wanted) fails topology before verdict (inr r) a b = by_run (ran verdict shows live wanted before r.comes_to)
  where
    by_run : Reported shows live wanted before verdict ⊎ (verdict ≡ Refused Memory) → IsStatusOf (status_in verdict) (Runs shows live feeding wanted)
    by_run (inl v) = run_status v
    by_run (inr is) = absurd (b (ap status_in is))

pub line_is : (case : Case) (fails : List ℕ → Type 0) (topology : Option Topology) (before : History) (verdict : Verdict) → Outcome case fails topology before verdict
    → status_in verdict ≢ 5 → status_in verdict ≢ 9 → err_text_of verdict ≡ error_text (status_in verdict) case
line_is case fails topology before verdict (inl e) a b = absurd (by_early (early_at fails topology before verdict e))
  where
    by_early : (status_in verdict ≡ 9) ⊎ (status_in verdict ≡ 5) → ⊥
    by_early (inl is) = b is
    by_early (inr is) = a is
line_is NoCommand fails topology before verdict (inr r) a b = rw r.refused refl
line_is (BadTopology fault) fails topology before verdict (inr r) a b = rw r.refused refl
line_is (TooFew shortage) fails topology before verdict (inr r) a b = rw r.refused refl
line_is (Checks wanted) fails topology before verdict (inr r) a b = rw r.counted refl
line_is (Upgrades file text wanted) fails topology before verdict (inr r) a b = rw r.counted refl
line_is (Audits name summary wanted) fails topology before verdict (inr r) a b = rw r.counted refl
line_is (Rejects name fault wanted) fails topology before verdict (inr r) a b = rw r.refused (fault_text fault name wanted)
line_is (Runs shows live feeding wanted) fails topology before verdict (inr r) a b = by_run (ran verdict shows live wanted before r.comes_to)
  where
    by_run : Reported shows live wanted before verdict ⊎ (verdict ≡ Refused Memory) → err_text_of verdict ≡ error_text (status_in verdict) (Runs shows live feeding wanted)
    by_run (inl v) = err_of v
    by_run (inr is) = absurd (b (ap status_in is))

pub statuses : (case : Case) (fails : List ℕ → Type 0) (topology : Option Topology) (before : History) (verdict : Verdict) (status : ℕ) → Outcome case fails topology before verdict
    → (status ≡ status_in verdict) ⊎ ((status ≡ 8) ⊎ (status ≡ 9)) → status ≢ 5 → status ≢ 8 → status ≢ 9 → IsStatusOf status case
statuses case fails topology before verdict status o is a b d =
    let s = settled status (status_in verdict) is b d in
    rw s (status_is case fails topology before verdict o (λ x. a (s ∙ x)) (λ x. d (s ∙ x)))

pub lines : (case : Case) (fails : List ℕ → Type 0) (topology : Option Topology) (before : History) (verdict : Verdict) (status : ℕ) (held held' : List ℕ) → Outcome case fails topology before verdict
    → (status ≡ status_in verdict) ⊎ ((status ≡ 8) ⊎ (status ≡ 9)) → status ≢ 5 → status ≢ 8 → status ≢ 9 → Adds held held' (err_text_of verdict) → Adds held held' (error_text status case)
lines case fails topology before verdict status held held' o is a b d adds =
    let s = settled status (status_in verdict) is b d in
    adds ∙ ap (λ text. held ++ text) (line_is case fails topology before verdict o (λ x. a (s ∙ x)) (λ x. d (s ∙ x)) ∙ ap (λ n. error_text n case) (sym s))

pub of_status_seven : (case : Case) (fails : List ℕ → Type 0) (topology : Option Topology) (before : History) (verdict : Verdict) (status : ℕ) → Outcome case fails topology before verdict
    → (status ≡ status_in verdict) ⊎ ((status ≡ 8) ⊎ (status ≡ 9)) → status ≡ 7 → IsStatusOf 7 case
of_status_seven case fails topology before verdict status o is seven =
    rw seven at (statuses case fails topology before verdict status o is (λ x. not_both 5 7 status x seven (λ y. cc)) (λ x. not_both 8 7 status x seven (λ y. cc)) (λ x. not_both 9 7 status x seven (λ y. cc)))

-- which line a verdict writes
one_line : (case : Case) (told : Bool) (calls asked asked' : List (EdgeKind × List ℕ)) (fault : Type 0) (topology : Option Topology) (before : History) (verdict : Verdict) (status : ℕ) → (verdict ≡ Refused Memory → status ≡ 9)
    → Outcome case (FailsAt told calls asked asked' fault) topology before verdict
    → (err_text_of verdict ≡ []) ⊎ ((err_text_of verdict ≡ case_line case) ⊎ (((err_text_of verdict ≡ memory_line) × (status ≡ 9)) ⊎ IsEdgeLine told calls asked asked' fault topology (err_text_of verdict)))
one_line case told calls asked asked' fault topology before verdict status wanting (inl e) = by_early (early (FailsAt told calls asked asked' fault) topology before verdict e).why
  where
    by_early : (verdict ≡ Refused Memory) ⊎ Fails (FailsAt told calls asked asked' fault) verdict
        → (err_text_of verdict ≡ []) ⊎ ((err_text_of verdict ≡ case_line case) ⊎ (((err_text_of verdict ≡ memory_line) × (status ≡ 9)) ⊎ IsEdgeLine told calls asked asked' fault topology (err_text_of verdict)))
    by_early (inl is) = inr (inr (inl (ap err_text_of is, wanting is)))
    by_early (inr f) = inr (inr (inr (record {
      no_run = (early (FailsAt told calls asked asked' fault) topology before verdict e).no_topology;
      name = f.name;
      fails = f.so;
      is = ap err_text_of f.is;
    })))
one_line NoCommand told calls asked asked' fault topology before verdict status wanting (inr r) = inr (inl (ap err_text_of r.refused))
one_line (BadTopology f) told calls asked asked' fault topology before verdict status wanting (inr r) = inr (inl (ap err_text_of r.refused))
one_line (TooFew shortage) told calls asked asked' fault topology before verdict status wanting (inr r) = inr (inl (ap err_text_of r.refused))
one_line (Checks wanted) told calls asked asked' fault topology before verdict status wanting (inr r) = inl (ap err_text_of r.counted)
one_line (Upgrades file text wanted) told calls asked asked' fault topology before verdict status wanting (inr r) = inl (ap err_text_of r.counted)
one_line (Audits name summary wanted) told calls asked asked' fault topology before verdict status wanting (inr r) = inl (ap err_text_of r.counted)
one_line (Rejects name f wanted) told calls asked asked' fault topology before verdict status wanting (inr r) = inr (inl (ap err_text_of r.refused))
one_line (Runs shows live feeding wanted) told calls asked asked' fault topology before verdict status wanting (inr r) = by_run (ran verdict shows live wanted before r.comes_to)
  where
    by_line : (b : Bool) → err_text_of verdict ≡ (if b then [] else live_line live)
        → (err_text_of verdict ≡ []) ⊎ ((err_text_of verdict ≡ case_line (Runs shows live feeding wanted)) ⊎ (((err_text_of verdict ≡ memory_line) × (status ≡ 9)) ⊎ IsEdgeLine told calls asked asked' fault topology (err_text_of verdict)))
    by_line Bool.true is = inl is
    by_line Bool.false is = inr (inl is)

    by_run : Reported shows live wanted before verdict ⊎ (verdict ≡ Refused Memory)
        → (err_text_of verdict ≡ []) ⊎ ((err_text_of verdict ≡ case_line (Runs shows live feeding wanted)) ⊎ (((err_text_of verdict ≡ memory_line) × (status ≡ 9)) ⊎ IsEdgeLine told calls asked asked' fault topology (err_text_of verdict)))
    by_run (inl v) = by_line (nat_le (status_in verdict) 4) (err_of v)
    by_run (inr is) = inr (inr (inl (ap err_text_of is, wanting is)))

pub line_begun : (case : Case) (told : Bool) (calls asked asked' : List (EdgeKind × List ℕ)) (fault : Type 0) (topology : Option Topology) (before : History) (verdict : Verdict) (status : ℕ) (held held' : List ℕ) → (verdict ≡ Refused Memory → status ≡ 9)
    → Outcome case (FailsAt told calls asked asked' fault) topology before verdict → AddsPrefix held held' (err_text_of verdict)
    → BeginsLine told calls asked asked' fault topology status held held' case
line_begun case told calls asked asked' fault topology before verdict status held held' wanting o b = record {
  text = err_text_of verdict;
  is_one = one_line case told calls asked asked' fault topology before verdict status wanting o;
  begun = b;
}

-- ---- a call by name that failed

pub named_fault : (case : Case) (told : Bool) (calls asked asked' : List (EdgeKind × List ℕ)) (fault : Type 0) (err_told : Bool) (topology : Option Topology) (before : History) (verdict : Verdict) (held held' : List ℕ)
    → Outcome case (FailsAt told calls asked asked' fault) topology before verdict → status_in verdict ≡ 5 → (IsTrue err_told → Adds held held' (err_text_of verdict))
    → NamesFault told calls asked asked' fault err_told held held'
named_fault case told calls asked asked' fault err_told topology before verdict held held' (inl e) five adds = by_early (early (FailsAt told calls asked asked' fault) topology before verdict e).why
  where
    by_early : (verdict ≡ Refused Memory) ⊎ Fails (FailsAt told calls asked asked' fault) verdict → NamesFault told calls asked asked' fault err_told held held'
    by_early (inl is) = absurd (not_both 9 5 (status_in verdict) (ap status_in is) five (λ x. cc))
    by_early (inr f) = record {
      name = f.name;
      fails = f.so;
      written = λ t. adds t ∙ ap (λ text. held ++ text) (ap err_text_of f.is);
    }
named_fault NoCommand told calls asked asked' fault err_told topology before verdict held held' (inr r) five adds = absurd (not_both 7 5 (status_in verdict) (ap status_in r.refused) five (λ x. cc))
named_fault (BadTopology f) told calls asked asked' fault err_told topology before verdict held held' (inr r) five adds = absurd (not_both 6 5 (status_in verdict) (ap status_in r.refused) five (λ x. cc))
named_fault (TooFew shortage) told calls asked asked' fault err_told topology before verdict held held' (inr r) five adds = absurd (not_both 6 5 (status_in verdict) (ap status_in r.refused) five (λ x. cc))
named_fault (Checks wanted) told calls asked asked' fault err_told topology before verdict held held' (inr r) five adds = absurd (not_both 0 5 (status_in verdict) (ap status_in r.counted) five (λ x. cc))
named_fault (Upgrades file text wanted) told calls asked asked' fault err_told topology before verdict held held' (inr r) five adds = absurd (not_both 0 5 (status_in verdict) (ap status_in r.counted) five (λ x. cc))
named_fault (Audits name summary wanted) told calls asked asked' fault err_told topology before verdict held held' (inr r) five adds = absurd (not_both 0 5 (status_in verdict) (ap status_in r.counted) five (λ x. cc))
named_fault (Rejects name f wanted) told calls asked asked' fault err_told topology before verdict held held' (inr r) five adds = absurd (fault_not f 5 (omega arith) (omega arith) (sym (ap status_in r.refused) ∙ five))
named_fault (Runs shows live feeding wanted) told calls asked asked' fault err_told topology before verdict held held' (inr r) five adds = absurd (by_run (ran verdict shows live wanted before r.comes_to))
  where
    by_run : Reported shows live wanted before verdict ⊎ (verdict ≡ Refused Memory) → ⊥
    by_run (inl v) = not_small 5 (status_in verdict) five (omega arith) (omega arith) (few_of v)
    by_run (inr is) = not_both 9 5 (status_in verdict) (ap status_in is) five (λ x. cc)

-- ---- a write that failed

pub fault_by : (verdict : Verdict) (out err : Type 0) → FaultBy verdict out err → out ⊎ err
fault_by (Done texts s) out err fault = inl fault
fault_by (Unfed texts line) out err fault = fault
fault_by (Refused refusal) out err fault = inr fault

-- ---- the words

-- 0 for words that are no command
abbrev number : Case → ℕ
number NoCommand = 0
number (BadTopology fault) = 1
number (TooFew shortage) = 1
number (Checks wanted) = 1
number (Upgrades file text wanted) = 1
number (Audits name summary wanted) = 1
number (Rejects name fault wanted) = 1
number (Runs shows live feeding wanted) = 1

short_case : (short : Option Shortage) (case : Case) → number case ≡ 1 → number (unless_short short case) ≡ 1
short_case None case is = is
short_case (Some shortage) case is = refl

run_number : (boxes : Boxes) (shows : Shows) (live : Option (List ℕ)) (feeding : Feeding) (topology : Topology) → number (run_case boxes shows live feeding topology) ≡ 1
run_number boxes shows live feeding topology = short_case (shortage_of topology boxes) (Runs shows live feeding topology) refl

checked_number : (read : Result Topology ConfigFault) → number (for_topology read Checks) ≡ 1
checked_number (Ok topology) = refl
checked_number (Err fault) = refl

upgraded_number : (read : Result Topology ConfigFault) (file text : List ℕ) → number (for_topology read (Upgrades file text)) ≡ 1
upgraded_number (Ok topology) file text = refl
upgraded_number (Err fault) file text = refl

judged_number : (read : Result Topology ConfigFault) (name : List ℕ) (found : Result Summary AuditFault) → number (for_topology read (audit_case name found)) ≡ 1
judged_number (Ok topology) name (Ok summary) = refl
judged_number (Ok topology) name (Err fault) = refl
judged_number (Err fault) name found = refl

loaded_number : (read : Result Topology ConfigFault) (boxes : Boxes) (shows : Shows) (live : Option (List ℕ)) (feeding : Feeding) → number (for_topology read (run_case boxes shows live feeding)) ≡ 1
loaded_number (Ok topology) boxes shows live feeding = run_number boxes shows live feeding topology
loaded_number (Err fault) boxes shows live feeding = refl

some_number : (command : Command) (file text : List ℕ) (found : Result Summary AuditFault) (boxes : Boxes) → number (case_of (Some command) file text found boxes) ≡ 1
some_number (Flow source prefix) file text found boxes = run_number boxes report_alone None Named (flow_topology_of source prefix)
some_number (Check path) file text found boxes = checked_number (topology_of_file file)
some_number (Upgrade path) file text found boxes = upgraded_number (topology_of_file file) file text
some_number (AuditOf journal path) file text found boxes = judged_number (topology_of_file file) journal found
some_number (Run path workers acks steps live) file text found boxes = loaded_number (topology_of_file file) boxes (record { steps = steps; acks = acks }) live Filed
some_number (Gen seed count path) file text found boxes = loaded_number (topology_of_file file) boxes report_alone None (MadeFrom seed count)

of_seven : (case : Case) → IsStatusOf 7 case → number case ≡ 0
of_seven NoCommand is = refl
of_seven (BadTopology fault) is = absurd (omega (arith, is))
of_seven (TooFew shortage) is = absurd (omega (arith, is))
of_seven (Checks wanted) is = absurd (omega (arith, is))
of_seven (Upgrades file text wanted) is = absurd (omega (arith, is))
of_seven (Audits name summary wanted) is = absurd (omega (arith, is))
of_seven (Rejects name fault wanted) is = absurd (fault_not fault 7 (omega arith) (omega arith) (sym is))
of_seven (Runs shows live feeding wanted) few = absurd (no_seven live few)
  where
    no_seven : (o : Option (List ℕ)) → IsRunStatus o 7 → ⊥
    no_seven None is = omega (arith, is)
    no_seven (Some name) is = not_small 7 7 refl (omega arith) (omega arith) is

-- the status 7 comes where the words are no command
pub usage_by : (command : Option Command) (file text : List ℕ) (found : Result Summary AuditFault) (boxes : Boxes) → IsStatusOf 7 (case_of command file text found boxes) → command ≡ None
usage_by None file text found boxes is = refl
usage_by (Some command) file text found boxes is = absurd (omega (arith, some_number command file text found boxes, of_seven (case_of (Some command) file text found boxes) is))

no_call : (front rest : List (EdgeKind × List ℕ)) (call : EdgeKind × List ℕ) → [] ≡ front ++ call ∷ rest → ⊥
no_call [] rest call e = cc
no_call (first ∷ front) rest call e = cc

-- words that are no command come to 7
pub no_command_by : (told : Bool) (asked asked' : List (EdgeKind × List ℕ)) (fault : Type 0) (topology : Option Topology) (before : History) (verdict : Verdict) (status : ℕ)
    → Outcome NoCommand (FailsAt told [] asked asked' fault) topology before verdict → (status ≡ status_in verdict) ⊎ ((status ≡ 8) ⊎ (status ≡ 9)) → IsOr 7 status
no_command_by told asked asked' fault topology before verdict status o (inr is) = inr is
no_command_by told asked asked' fault topology before verdict status (inr r) (inl is) = inl (is ∙ ap status_in r.refused)
no_command_by told asked asked' fault topology before verdict status (inl e) (inl is) = by_why (early (FailsAt told [] asked asked' fault) topology before verdict e).why
  where
    by_why : (verdict ≡ Refused Memory) ⊎ Fails (FailsAt told [] asked asked' fault) verdict → IsOr 7 status
    by_why (inl memory) = inr (inr (is ∙ ap status_in memory))
    by_why (inr f) = absurd (no_call f.so.front f.so.rest (f.so.kind, f.name) f.so.parts)

-- ---- calls without a run

unopened_is : (s : ℕ) → IsUnopenedStatus s → (4 < s) × (s ≢ 5) × (s ≢ 9)
unopened_is s (inl a) = (omega (arith, a), (λ at. omega (arith, a, at)), (λ at. omega (arith, a, at)))
unopened_is s (inr a) = (omega (arith, a), (λ at. omega (arith, a, at)), (λ at. omega (arith, a, at)))

-- a run has no status of a refusal
run_refused : {shows : Shows} {live : Option (List ℕ)} {wanted : Topology} {before : History} (verdict : Verdict) → Reported shows live wanted before verdict ⊎ (verdict ≡ Refused Memory) → IsRefusalStatus (status_in verdict) → ⊥
run_refused verdict (inl v) u =
    let r = refusal_is (status_in verdict) u in
    not_small (status_in verdict) (status_in verdict) refl r.0 r.3 (few_of v)
run_refused verdict (inr is) u = (refusal_is (status_in verdict) u).2 (ap status_in is)

pub none_ran : (case : Case) (fails : List ℕ → Type 0) (topology : Option Topology) (before : History) (verdict : Verdict) → Outcome case fails topology before verdict
    → IsRefusalStatus (status_in verdict) → (topology ≡ None) × (before ≡ [])
none_ran case fails topology before verdict (inl e) u = ((early fails topology before verdict e).no_topology, (early fails topology before verdict e).no_step)
none_ran NoCommand fails topology before verdict (inr r) u = (r.no_topology, r.no_step)
none_ran (BadTopology fault) fails topology before verdict (inr r) u = (r.no_topology, r.no_step)
none_ran (TooFew shortage) fails topology before verdict (inr r) u = (r.no_topology, r.no_step)
none_ran (Checks wanted) fails topology before verdict (inr r) u =
    let counted : status_in verdict ≡ 0 = ap status_in r.counted in
    absurd (omega (arith, counted, (refusal_is (status_in verdict) u).0))
none_ran (Upgrades file text wanted) fails topology before verdict (inr r) u =
    let counted : status_in verdict ≡ 0 = ap status_in r.counted in
    absurd (omega (arith, counted, (refusal_is (status_in verdict) u).0))
none_ran (Audits name summary wanted) fails topology before verdict (inr r) u =
    let counted : status_in verdict ≡ 0 = ap status_in r.counted in
    absurd (omega (arith, counted, (refusal_is (status_in verdict) u).0))
none_ran (Rejects name fault wanted) fails topology before verdict (inr r) u = (r.no_topology, r.no_step)
none_ran (Runs shows live feeding wanted) fails topology before verdict (inr r) u = absurd (run_refused verdict (ran verdict shows live wanted before r.comes_to) u)

-- ---- the outside

-- where nothing was opened, nothing was given back
run_opened : (shows : Shows) (live : Option (List ℕ)) (feeding : Feeding) (wanted : Topology) (fails : List ℕ → Type 0) (topology : Option Topology) (before : History) (verdict : Verdict) → Outcome (Runs shows live feeding wanted) fails topology before verdict
    → IsUnopenedStatus (status_in verdict) → ⊥
run_opened shows live feeding wanted fails topology before verdict (inl e) u = nine_or_five (status_in verdict) (status_in verdict) (early_at fails topology before verdict e) refl (unopened_is (status_in verdict) u).2 (unopened_is (status_in verdict) u).1
run_opened shows live feeding wanted fails topology before verdict (inr r) u = run_refused verdict (ran verdict shows live wanted before r.comes_to) (inr u)

audit_opened : (name : List ℕ) (summary : Summary) (wanted : Topology) (fails : List ℕ → Type 0) (topology : Option Topology) (before : History) (verdict : Verdict) → Outcome (Audits name summary wanted) fails topology before verdict
    → IsUnopenedStatus (status_in verdict) → ⊥
audit_opened name summary wanted fails topology before verdict (inl e) u = nine_or_five (status_in verdict) (status_in verdict) (early_at fails topology before verdict e) refl (unopened_is (status_in verdict) u).2 (unopened_is (status_in verdict) u).1
audit_opened name summary wanted fails topology before verdict (inr r) u =
    let counted : status_in verdict ≡ 0 = ap status_in r.counted in
    omega (arith, counted, (unopened_is (status_in verdict) u).0)

reject_opened : (name : List ℕ) (fault : AuditFault) (wanted : Topology) (fails : List ℕ → Type 0) (topology : Option Topology) (before : History) (verdict : Verdict) → Outcome (Rejects name fault wanted) fails topology before verdict
    → IsUnopenedStatus (status_in verdict) → ⊥
reject_opened name fault wanted fails topology before verdict (inl e) u = nine_or_five (status_in verdict) (status_in verdict) (early_at fails topology before verdict e) refl (unopened_is (status_in verdict) u).2 (unopened_is (status_in verdict) u).1
reject_opened name fault wanted fails topology before verdict (inr r) (inl six) = fault_not fault 6 (omega arith) (omega arith) (sym (ap status_in r.refused) ∙ six)
reject_opened name fault wanted fails topology before verdict (inr r) (inr seven) = fault_not fault 7 (omega arith) (omega arith) (sym (ap status_in r.refused) ∙ seven)

pub not_opened : (case : Case) (fails : List ℕ → Type 0) (memory : Type 0) (says : Bool → Type 0) (calls : List (EdgeKind × List ℕ)) (topology : Option Topology) (before : History) (verdict : Verdict) (old new : OutsideSeen)
    → Outcome case fails topology before verdict → IsUnopenedStatus (status_in verdict) → IsOutsideOf memory says calls topology before case old new → IsUntouched old new
not_opened NoCommand fails memory says calls topology before verdict old new o u out = out
not_opened (BadTopology fault) fails memory says calls topology before verdict old new o u out = out
not_opened (TooFew shortage) fails memory says calls topology before verdict old new o u out = out
not_opened (Checks wanted) fails memory says calls topology before verdict old new o u out = out
not_opened (Upgrades file text wanted) fails memory says calls topology before verdict old new o u out = out
not_opened (Audits name summary wanted) fails memory says calls topology before verdict old new o u out = absurd (audit_opened name summary wanted fails topology before verdict o u)
not_opened (Rejects name fault wanted) fails memory says calls topology before verdict old new o u out = absurd (reject_opened name fault wanted fails topology before verdict o u)
not_opened (Runs shows live feeding wanted) fails memory says calls topology before verdict old new o u out = absurd (run_opened shows live feeding wanted fails topology before verdict o u)

used_as : (feeds : Feeds) (live : Option (List ℕ)) (memory wanting : Type 0) (says said : Bool → Type 0) → (memory → wanting) → ((b : Bool) → says b → said b) → (wanted : Topology) (before : History) (old new : OutsideSeen)
    → HasUsed feeds live memory says wanted before old new → HasUsed feeds live wanting said wanted before old new
used_as feeds live memory wanting says said so too wanted before old new used = record {
  whole = used.whole;
  wanting = λ none. so (used.wanting none);
  unfed = used.unfed;
  said = too used.unfed used.said;
  outside = used.outside;
  time = used.time;
  idle = used.idle;
  boxes = used.boxes;
}

not_begun_as : (feeds : Feeds) (live : Option (List ℕ)) (memory wanting : Type 0) → (memory → wanting) → (calls : List (EdgeKind × List ℕ)) (wanted : Topology) (old new : OutsideSeen)
    → HasNotBegun feeds live memory calls wanted old new → HasNotBegun feeds live wanting calls wanted old new
not_begun_as feeds live memory wanting so calls wanted old new n = record { edges = by_edges n.edges; clock = n.clock; boxes = n.boxes }
  where
    by_edges : (memory × IsBrokenOff feeds live calls wanted old.edges new.edges) ⊎ IsGivenUp feeds live calls wanted old.edges new.edges
        → (wanting × IsBrokenOff feeds live calls wanted old.edges new.edges) ⊎ IsGivenUp feeds live calls wanted old.edges new.edges
    by_edges (inl m) = inl (so m.0, m.1)
    by_edges (inr given) = inr given

run_or_not_as : (feeds : Feeds) (live : Option (List ℕ)) (memory wanting : Type 0) (says said : Bool → Type 0) → (memory → wanting) → ((b : Bool) → says b → said b)
    → (calls : List (EdgeKind × List ℕ)) (wanted : Topology) (topology : Option Topology) (before : History) (old new : OutsideSeen)
    → HasRunOrNot feeds live memory says calls wanted topology before old new → HasRunOrNot feeds live wanting said calls wanted topology before old new
run_or_not_as feeds live memory wanting says said so too calls wanted (Some topology) before old new r = used_as feeds live memory wanting says said so too wanted before old new r
run_or_not_as feeds live memory wanting says said so too calls wanted None before old new r = not_begun_as feeds live memory wanting so calls wanted old new r

-- what the outside is like, where memory that was wanting and a live sink that failed are known otherwise
pub outside_as : (memory wanting : Type 0) (says said : Bool → Type 0) → (memory → wanting) → ((b : Bool) → says b → said b)
    → (calls : List (EdgeKind × List ℕ)) (topology : Option Topology) (before : History) (case : Case) (old new : OutsideSeen)
    → IsOutsideOf memory says calls topology before case old new → IsOutsideOf wanting said calls topology before case old new
outside_as memory wanting says said so too calls topology before NoCommand old new out = out
outside_as memory wanting says said so too calls topology before (BadTopology fault) old new out = out
outside_as memory wanting says said so too calls topology before (TooFew shortage) old new out = out
outside_as memory wanting says said so too calls topology before (Checks wanted) old new out = out
outside_as memory wanting says said so too calls topology before (Upgrades file text wanted) old new out = out
outside_as memory wanting says said so too calls topology before (Audits name summary wanted) old new out = out
outside_as memory wanting says said so too calls topology before (Rejects name fault wanted) old new out = out
outside_as memory wanting says said so too calls topology before (Runs shows live feeding wanted) old new out =
    run_or_not_as (feeds_of feeding wanted) live memory wanting says said so too calls wanted topology before old new out

-- ---- a live sink that failed

-- a report is not under 12
done_is : (case : Case) (fails : List ℕ → Type 0) (topology : Option Topology) (before : History) (texts : Texts) (s : ℕ) → Outcome case fails topology before (Done texts s) → s ≢ 12
done_is case fails topology before texts s (inl e) at = nine_or_five s 12 (early_at fails topology before (Done texts s) e) at (λ x. cc) (λ x. cc)
done_is NoCommand fails topology before texts s (inr r) at = let is : s ≡ 7 = ap status_in r.refused in omega (arith, is, at)
done_is (BadTopology fault) fails topology before texts s (inr r) at = let is : s ≡ 6 = ap status_in r.refused in omega (arith, is, at)
done_is (TooFew shortage) fails topology before texts s (inr r) at = let is : s ≡ 6 = ap status_in r.refused in omega (arith, is, at)
done_is (Checks wanted) fails topology before texts s (inr r) at = let is : s ≡ 0 = ap status_in r.counted in omega (arith, is, at)
done_is (Upgrades file text wanted) fails topology before texts s (inr r) at = let is : s ≡ 0 = ap status_in r.counted in omega (arith, is, at)
done_is (Audits name summary wanted) fails topology before texts s (inr r) at = let is : s ≡ 0 = ap status_in r.counted in omega (arith, is, at)
done_is (Rejects name fault wanted) fails topology before texts s (inr r) at = fault_not_twelve fault (sym (ap status_in r.refused) ∙ at)
done_is (Runs shows live feeding wanted) fails topology before texts s (inr r) at = omega (arith, r.comes_to.status_is, status_few wanted before, at)

-- what the status says of whether the live sink failed
pub status_says : (case : Case) (fails : List ℕ → Type 0) (topology : Option Topology) (before : History) (verdict : Verdict) (status : ℕ) → Outcome case fails topology before verdict
    → (status ≡ status_in verdict) ⊎ ((status ≡ 8) ⊎ (status ≡ 9)) → (verdict ≡ Refused Memory → status ≡ 9) → (unfed : Bool) → ShowsUnfed verdict unfed → SaysUnfed status unfed
status_says case fails topology before (Done texts s) status o is wanting unfed shows =
    subst (λ (b : Bool). SaysUnfed status b) (sym shows) (λ twelve. done_is case fails topology before texts s o (is_status status s 12 is twelve (λ x. cc) (λ x. cc)))
status_says case fails topology before (Unfed texts line) status o is wanting unfed shows = subst (λ (b : Bool). SaysUnfed status b) (sym shows) is
status_says case fails topology before (Refused Memory) status o is wanting Bool.true shows = inr (inr (wanting refl))
status_says case fails topology before (Refused Memory) status o is wanting Bool.false shows = λ twelve. let nine : status ≡ 9 = wanting refl in omega (arith, nine, twelve)
status_says case fails topology before (Refused Usage) status o is wanting unfed shows = absurd shows
status_says case fails topology before (Refused (NoTopology fault)) status o is wanting unfed shows = absurd shows
status_says case fails topology before (Refused (Stock shortage)) status o is wanting unfed shows = absurd shows
status_says case fails topology before (Refused (Edge name)) status o is wanting unfed shows = absurd shows
status_says case fails topology before (Refused (Audit fault)) status o is wanting unfed shows = absurd shows

unfed_by : (feeds : Feeds) (name : List ℕ) (memory : Type 0) (says : Bool → Type 0) (wanted : Topology) (before : History) (old new : OutsideSeen) → (used : HasUsed feeds (Some name) memory says wanted before old new)
    → (memory → ⊥) → used.unfed ≡ Bool.true → IsUnfedBy name new.edges
unfed_by feeds name memory says wanted before old new used never is = by_last used.outside.sink.last
  where
    by_last : (new.edges.sinks_back ≡ used.outside.middle.sinks_back ++ (name, used.outside.sink.sink) ∷ []) ⊎ ((used.whole ≡ Bool.false) × (new.edges.sinks_back ≡ used.outside.middle.sinks_back)) → IsUnfedBy name new.edges
    by_last (inl last) = record {
      front = used.outside.middle.sinks_back;
      sink = used.outside.sink.sink;
      last = last;
      fault = used.outside.sink.fault is;
    }
    by_last (inr none) = absurd (never (used.wanting none.0))

unfed_run : (feeds : Feeds) (live : Option (List ℕ)) (wanted : Topology) (before : History) (verdict : Verdict) (texts : Texts) (old new : OutsideSeen) → HasUsed feeds live (verdict ≡ Refused Memory) (ShowsUnfed verdict) wanted before old new
    → (verdict ≡ Refused Memory → ⊥) → IsUnfedWith live verdict texts → IsUnfed live new.edges
unfed_run feeds (Some name) wanted before verdict texts old new used never u =
    unfed_by feeds name (verdict ≡ Refused Memory) (ShowsUnfed verdict) wanted before old new used never
    (subst (λ (v : Verdict). ShowsUnfed v used.unfed) u.1 used.said)
unfed_run feeds None wanted before verdict texts old new used never u = let x : None ≡ Some u.0 = u.2 in cc

-- under 12 the live sink failed
pub unfed_in : (case : Case) (fails : List ℕ → Type 0) (calls : List (EdgeKind × List ℕ)) (topology : Option Topology) (before : History) (verdict : Verdict) (old new : OutsideSeen)
    → Outcome case fails topology before verdict → IsOutsideOf (verdict ≡ Refused Memory) (ShowsUnfed verdict) calls topology before case old new → status_in verdict ≡ 12 → IsUnfedIn case new.edges
unfed_in case fails calls topology before verdict old new (inl e) out at = absurd (nine_or_five (status_in verdict) 12 (early_at fails topology before verdict e) at (λ x. cc) (λ x. cc))
unfed_in NoCommand fails calls topology before verdict old new (inr r) out at = absurd (not_both 7 12 (status_in verdict) (ap status_in r.refused) at (λ x. cc))
unfed_in (BadTopology fault) fails calls topology before verdict old new (inr r) out at = absurd (not_both 6 12 (status_in verdict) (ap status_in r.refused) at (λ x. cc))
unfed_in (TooFew shortage) fails calls topology before verdict old new (inr r) out at = absurd (not_both 6 12 (status_in verdict) (ap status_in r.refused) at (λ x. cc))
unfed_in (Checks wanted) fails calls topology before verdict old new (inr r) out at = absurd (not_both 0 12 (status_in verdict) (ap status_in r.counted) at (λ x. cc))
unfed_in (Upgrades file text wanted) fails calls topology before verdict old new (inr r) out at = absurd (not_both 0 12 (status_in verdict) (ap status_in r.counted) at (λ x. cc))
unfed_in (Audits name summary wanted) fails calls topology before verdict old new (inr r) out at = absurd (not_both 0 12 (status_in verdict) (ap status_in r.counted) at (λ x. cc))
unfed_in (Rejects name fault wanted) fails calls topology before verdict old new (inr r) out at = absurd (fault_not_twelve fault (sym (ap status_in r.refused) ∙ at))
unfed_in (Runs shows live feeding wanted) fails calls topology before verdict old new (inr r) out at = by_run (ran verdict shows live wanted before r.comes_to)
  where
    used : HasUsed (feeds_of feeding wanted) live (verdict ≡ Refused Memory) (ShowsUnfed verdict) wanted before old new
    used = rw r.own at out

    by_which : (v : Reported shows live wanted before verdict) → IsDone wanted before verdict v.texts ⊎ IsUnfedWith live verdict v.texts → IsUnfed live new.edges
    by_which v (inl d) = absurd (omega (arith, done_few wanted before verdict v.texts d, at))
    by_which v (inr u) = unfed_run (feeds_of feeding wanted) live wanted before verdict v.texts old new used (is_reported v) u

    by_run : Reported shows live wanted before verdict ⊎ (verdict ≡ Refused Memory) → IsUnfed live new.edges
    by_run (inl v) = by_which v v.which
    by_run (inr is) = absurd (not_both 9 12 (status_in verdict) (ap status_in is) at (λ x. cc))

-- ---- a text that was lost

refusal_lost : (verdict : Verdict) (refusal : Refusal) (reported out_fault quiet unfed refused err_fault : Type 0) → verdict ≡ Refused refusal → refused → FaultBy verdict out_fault err_fault
    → Lost reported out_fault quiet unfed refused err_fault
refusal_lost verdict refusal reported out_fault quiet unfed refused err_fault is why fault = inr (inr (why, rw is at fault))

refused_case : (fails : List ℕ → Type 0) (topology : Option Topology) (before : History) (case : Case) → topology ≡ None → before ≡ [] → IsRefusal case → IsRefused fails topology before case
refused_case fails topology before case none empty is = record { no_topology = none; no_step = empty; why = inl is }

pub lost_by : (case : Case) (fails : List ℕ → Type 0) (topology : Option Topology) (before : History) (verdict : Verdict) (out_fault quiet unfed err_fault : Type 0) → verdict ≢ Refused Memory → (status_in verdict ≡ 12 → unfed)
    → Outcome case fails topology before verdict → FaultBy verdict out_fault err_fault → QuietBy verdict quiet → Lost (IsReportOf topology before case) out_fault quiet unfed (IsRefused fails topology before case) err_fault
lost_by case fails topology before verdict out_fault quiet unfed err_fault found so (inl e) fault q = by_why none.why
  where
    none : Early fails topology before verdict
    none = early fails topology before verdict e

    by_why : (verdict ≡ Refused Memory) ⊎ Fails fails verdict → Lost (IsReportOf topology before case) out_fault quiet unfed (IsRefused fails topology before case) err_fault
    by_why (inl is) = absurd (found is)
    by_why (inr f) =
        refusal_lost verdict (Edge f.name) (IsReportOf topology before case) out_fault quiet unfed (IsRefused fails topology before case) err_fault f.is
        (record { no_topology = none.no_topology; no_step = none.no_step; why = inr (f.name, f.so) }) fault
lost_by NoCommand fails topology before verdict out_fault quiet unfed err_fault found so (inr r) fault q =
    refusal_lost verdict Usage _ out_fault quiet unfed (IsRefused fails topology before NoCommand) err_fault r.refused (refused_case fails topology before NoCommand r.no_topology r.no_step tt) fault
lost_by (BadTopology f) fails topology before verdict out_fault quiet unfed err_fault found so (inr r) fault q =
    refusal_lost verdict (NoTopology f) _ out_fault quiet unfed (IsRefused fails topology before (BadTopology f)) err_fault r.refused (refused_case fails topology before (BadTopology f) r.no_topology r.no_step tt) fault
lost_by (TooFew shortage) fails topology before verdict out_fault quiet unfed err_fault found so (inr r) fault q =
    refusal_lost verdict (Stock shortage) _ out_fault quiet unfed (IsRefused fails topology before (TooFew shortage)) err_fault r.refused (refused_case fails topology before (TooFew shortage) r.no_topology r.no_step tt) fault
lost_by (Checks wanted) fails topology before verdict out_fault quiet unfed err_fault found so (inr r) fault q =
    inl (record { status = 0; end_of = (refl, r.own, r.no_step) }, rw r.counted at fault, rw r.counted at q)
lost_by (Upgrades file text wanted) fails topology before verdict out_fault quiet unfed err_fault found so (inr r) fault q =
    inl (record { status = 0; end_of = (refl, r.own, r.no_step, r.upgrade) }, rw r.counted at fault, rw r.counted at q)
lost_by (Audits name summary wanted) fails topology before verdict out_fault quiet unfed err_fault found so (inr r) fault q =
    inl (record { status = 0; end_of = (refl, r.own, r.no_step) }, rw r.counted at fault, rw r.counted at q)
lost_by (Rejects name f wanted) fails topology before verdict out_fault quiet unfed err_fault found so (inr r) fault q =
    refusal_lost verdict (Audit f) _ out_fault quiet unfed (IsRefused fails topology before (Rejects name f wanted)) err_fault r.refused (refused_case fails topology before (Rejects name f wanted) r.no_topology r.no_step tt) fault
lost_by (Runs shows live feeding wanted) fails topology before verdict out_fault quiet unfed err_fault found so (inr r) fault q = by_run (ran verdict shows live wanted before r.comes_to)
  where
    report : Reported shows live wanted before verdict → IsReportOf topology before (Runs shows live feeding wanted)
    report v = record { status = status_in verdict; end_of = (r.own, ended_of v) }

    by_which : (v : Reported shows live wanted before verdict) → IsDone wanted before verdict v.texts ⊎ IsUnfedWith live verdict v.texts
        → Lost (IsReportOf topology before (Runs shows live feeding wanted)) out_fault quiet unfed (IsRefused fails topology before (Runs shows live feeding wanted)) err_fault
    by_which v (inl d) = inl (report v, rw d.1 at fault, rw d.1 at q)
    by_which v (inr u) = inr (inl (report v, so (ap status_in u.1), rw u.1 at fault))

    by_run : Reported shows live wanted before verdict ⊎ (verdict ≡ Refused Memory) → Lost (IsReportOf topology before (Runs shows live feeding wanted)) out_fault quiet unfed (IsRefused fails topology before (Runs shows live feeding wanted)) err_fault
    by_run (inl v) = by_which v v.which
    by_run (inr is) = absurd (found is)

-- ---- the calls

all_asked : (calls asked asked' : List (EdgeKind × List ℕ)) → asked' ≡ asked ++ calls → Asks calls asked asked'
all_asked calls asked asked' is = record {
  count = length calls;
  is = is ∙ ap (λ x. asked ++ x) (sym (take_all (length calls) calls (omega arith)));
}

up_to : (calls asked asked' front rest : List (EdgeKind × List ℕ)) (call : EdgeKind × List ℕ) → calls ≡ front ++ call ∷ rest → asked' ≡ asked ++ (front ++ call ∷ []) → Asks calls asked asked'
up_to calls asked asked' front rest call parts is =
    let n = length (front ++ call ∷ []) in
    let whole : calls ≡ (front ++ call ∷ []) ++ rest = parts ∙ sym (append_assoc front (call ∷ []) rest) in
    record {
      count = n;
      is = is ∙ ap (λ x. asked ++ x) (sym (ap (take n) whole ∙ take_at (front ++ call ∷ []) rest n refl));
    }

pub asks : (case : Case) (told : Bool) (calls asked asked' : List (EdgeKind × List ℕ)) (fault : Type 0) (topology : Option Topology) (before : History) (verdict : Verdict)
    → Outcome case (FailsAt told calls asked asked' fault) topology before verdict → IsTrue told → AskedBy verdict calls asked asked' → Asks calls asked asked'
asks case told calls asked asked' fault topology before (Done texts s) o t a = all_asked calls asked asked' a
asks case told calls asked asked' fault topology before (Unfed texts line) o t a = all_asked calls asked asked' a
asks case told calls asked asked' fault topology before (Refused Memory) o t a = a
asks case told calls asked asked' fault topology before (Refused Usage) o t a = all_asked calls asked asked' a
asks case told calls asked asked' fault topology before (Refused (NoTopology f)) o t a = all_asked calls asked asked' a
asks case told calls asked asked' fault topology before (Refused (Stock s)) o t a = all_asked calls asked asked' a
asks case told calls asked asked' fault topology before (Refused (Audit f)) o t a = all_asked calls asked asked' a
asks case told calls asked asked' fault topology before (Refused (Edge name)) o t a =
    let f = named_fault case told calls asked asked' fault Bool.false topology before (Refused (Edge name)) [] [] o refl (λ never. cc) in
    up_to calls asked asked' f.fails.front f.fails.rest (f.fails.kind, f.name) f.fails.parts (f.fails.is_last t)

pub asks_all : (verdict : Verdict) (calls asked asked' : List (EdgeKind × List ℕ)) → status_in verdict ≢ 5 → status_in verdict ≢ 9 → AskedBy verdict calls asked asked' → asked' ≡ asked ++ calls
asks_all (Done texts s) calls asked asked' a b is = is
asks_all (Unfed texts line) calls asked asked' a b is = is
asks_all (Refused Memory) calls asked asked' a b is = absurd (b refl)
asks_all (Refused Usage) calls asked asked' a b is = is
asks_all (Refused (NoTopology f)) calls asked asked' a b is = is
asks_all (Refused (Stock s)) calls asked asked' a b is = is
asks_all (Refused (Audit f)) calls asked asked' a b is = is
asks_all (Refused (Edge name)) calls asked asked' a b is = absurd (a refl)
