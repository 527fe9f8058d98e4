-- What a call came to, as the clauses of the top call say it.
use Rattle.std.proofs.Common.{◌≡◌, ◌≢◌, ℕ, List, [], Option, None, ◌∙◌, arith}
use Rattle.std.specs.Prelude.{◌⊎◌, IsTrue}
use Rattle.pipe_types.specs.Counts.{Rose}
use Rattle.pipe_types.specs.declared.topology.Topology.{Topology}
use Rattle.pipe_model.specs.History.{History}
use Rattle.pipe_edges.specs.declared.edges.EdgeKind.{EdgeKind}
use Rattle.program_words.specs.Words.{Command}
use Rattle.stage_bodies.specs.Seen.{SinkSeen}
use Rattle.topology_needs.specs.declared.stock.Boxes.{Boxes}
use Rattle.pipe_top.specs.Cases.{Case, InCase, case_of, calls_of}
use Rattle.run_verdicts.specs.Verdicts.{Adds, AddsPrefix, out_text_of, err_text_of, status_in, FaultBy, QuietBy, UnlessNine}
use Rattle.pipe_top.specs.Runs.{OutsideSeen, IsRunOrNone, IsCall, IsKnownStatus, IsUntouched, IsRefusalStatus, IsUnopenedStatus, IsOr, IsOutsideOf, IsUnfedIn, SaysUnfed, FailsAt}
use Rattle.pipe_top.specs.Flows.{ComesBy, Came, ShowsUnfed}
use Rattle.run_verdicts.specs.declared.verdict.Refusal.TheVariants.{Memory}
use Rattle.run_verdicts.specs.declared.verdict.Verdict.{Verdict}
use Rattle.run_verdicts.specs.declared.verdict.Verdict.TheVariants.{Refused, Done, Unfed}
use Rattle.pipe_top.proofs.Outcomes.{settled, is_status, not_small, not_both, within, refusal_as, unopened_as}
use Rattle.pipe_top.proofs.Clauses.{known, never_eight, own, run, ended, reported, begun, unwritten_nine, unwritten_out, statuses, lines, line_begun, named_fault, usage_by, of_status_seven, no_command_by, none_ran, not_opened, outside_as, status_says, unfed_in, lost_by, asks, asks_all, fault_by}
use Rattle.pipe_top.proofs.Completes.{complete_by, unwritten}
use Rattle.pipe_top.proofs.Shares.{generated_in}

-- what the writing of a verdict comes to
pub record Writes (before : History) (verdict : Verdict) (status : ℕ) (out out' err err' : SinkSeen) : Type 0 where
  pub status_is : (status ≡ status_in verdict) ⊎ ((status ≡ 8) ⊎ (status ≡ 9))
  pub wanting : verdict ≡ Refused Memory → status ≡ 9
  pub fault : status ≡ 8 → status_in verdict ≢ 8 → FaultBy verdict (Rose out.faults out'.faults) (Rose err.faults err'.faults)
  pub output : status ≢ 8 → IsTrue out.told → Adds out.held out'.held (out_text_of before verdict)
  pub output_begun : IsTrue out.told → AddsPrefix out.held out'.held (out_text_of before verdict)
  pub errors : status ≢ 8 → status ≢ 9 → IsTrue err.told → Adds err.held err'.held (err_text_of verdict)
  pub errors_begun : IsTrue err.told → AddsPrefix err.held err'.held (err_text_of verdict)
  pub quiet : IsTrue err.told → QuietBy verdict (err'.held ≡ err.held)

quiet_by : (verdict : Verdict) (told quiet : Type 0) → (told → QuietBy verdict quiet) → QuietBy verdict (told → quiet)
quiet_by (Done texts status) told quiet q = q
quiet_by (Unfed texts line) told quiet q = tt
quiet_by (Refused refusal) told quiet q = tt

-- a call by this name failed
abbrev Failing : (calls : List (EdgeKind × List ℕ)) → (old new : OutsideSeen) → List ℕ → Type 0
Failing calls old new = FailsAt old.edges.told calls old.edges.asked new.edges.asked (Rose old.edges.faults new.edges.faults)

call_by : (old new : OutsideSeen) (out out' err err' : SinkSeen) (command : Option Command) (topology : Option Topology) (before : History) (verdict : Verdict) (status : ℕ) (case : Case)
    → ComesBy old new case (calls_of command case) topology before verdict → Writes before verdict status out out' err err' → IsCall old new out out' err err' command topology before status case
call_by old new out out' err err' command topology before verdict status case c w = record {
  own = own case (Failing (calls_of command case) old new) topology before verdict c.outcome;
  ended = λ few. ended case (Failing (calls_of command case) old new) topology before verdict status c.outcome w.status_is few;
  report = λ few t. reported case (Failing (calls_of command case) old new) topology before verdict status out.held out'.held c.outcome w.status_is few (w.output (λ eight. not_small 8 status eight (omega arith) (omega arith) few) t);
  output = λ t. begun case (Failing (calls_of command case) old new) topology before verdict out.held out'.held c.outcome (w.output_begun t);
  has_status = λ a b d. statuses case (Failing (calls_of command case) old new) topology before verdict status c.outcome w.status_is a b d;
  errors = λ a b d t. lines case (Failing (calls_of command case) old new) topology before verdict status err.held err'.held c.outcome w.status_is a b d (w.errors b d t);
  errors_begun = λ t. line_begun case old.edges.told (calls_of command case) old.edges.asked new.edges.asked (Rose old.edges.faults new.edges.faults) topology before verdict status err.held err'.held w.wanting c.outcome (w.errors_begun t);
  edge = λ five. named_fault case old.edges.told (calls_of command case) old.edges.asked new.edges.asked (Rose old.edges.faults new.edges.faults) err.told topology before verdict err.held err'.held c.outcome
      (is_status status (status_in verdict) 5 w.status_is five (λ x. cc) (λ x. cc)) (w.errors (λ x. not_both 8 5 status x five (λ y. cc)) (λ x. not_both 9 5 status x five (λ y. cc)));
  lost = λ eight. lost_by case (Failing (calls_of command case) old new) topology before verdict (Rose out.faults out'.faults) (IsTrue err.told → err'.held ≡ err.held) (IsUnfedIn case new.edges) (Rose err.faults err'.faults)
      (λ memory. not_both 9 8 status (w.wanting memory) eight (λ x. cc))
      (λ twelve. unfed_in case (Failing (calls_of command case) old new) (calls_of command case) topology before verdict old new c.outcome c.outside twelve) c.outcome
      (w.fault eight (never_eight case (Failing (calls_of command case) old new) topology before verdict c.outcome)) (quiet_by verdict (IsTrue err.told) (err'.held ≡ err.held) w.quiet);
  unfed = λ twelve. unfed_in case (Failing (calls_of command case) old new) (calls_of command case) topology before verdict old new c.outcome c.outside
      (is_status status (status_in verdict) 12 w.status_is twelve (λ x. cc) (λ x. cc));
  outside = outside;
  complete = λ calm out_calm err_calm fine fed. complete_by case (Failing (calls_of command case) old new) (calls_of command case) topology before verdict status old new w.status_is
      (λ eight. unwritten (fault_by verdict (Rose out.faults out'.faults) (Rose err.faults err'.faults) (w.fault eight (never_eight case (Failing (calls_of command case) old new) topology before verdict c.outcome))) out_calm err_calm)
      (λ name f. calm f.rose) fine fed c.outcome c.outside;
  audited = λ a b d. let s = settled status (status_in verdict) w.status_is b d in c.audited (λ x. a (s ∙ x)) (λ x. d (s ∙ x));
  generated = generated_in case (Failing (calls_of command case) old new) (status ≡ 9) (SaysUnfed status) (calls_of command case) topology before verdict old new c.outcome
      outside;
  told = c.same_telling;
  asks = λ t. asks case old.edges.told (calls_of command case) old.edges.asked new.edges.asked (Rose old.edges.faults new.edges.faults) topology before verdict c.outcome t (c.asked_by t);
  asks_all = λ a b d t. asks_all verdict (calls_of command case) old.edges.asked new.edges.asked (λ x. a (settled status (status_in verdict) w.status_is b d ∙ x)) (λ x. d (settled status (status_in verdict) w.status_is b d ∙ x)) (c.asked_by t);
}
  where
    outside : IsOutsideOf (status ≡ 9) (SaysUnfed status) (calls_of command case) topology before case old new
    outside = outside_as (verdict ≡ Refused Memory) (status ≡ 9) (ShowsUnfed verdict) (SaysUnfed status) w.wanting
        (status_says case (Failing (calls_of command case) old new) topology before verdict status c.outcome w.status_is w.wanting) (calls_of command case) topology before case old new c.outside

-- the whole call
pub call_in : {old new : OutsideSeen} {command : Option Command} {boxes : Boxes} {topology : Option Topology} {before : History} {verdict : Verdict} (out out' err err' : SinkSeen) (status : ℕ)
    → Came old new command boxes topology before verdict → Writes before verdict status out out' err err'
    → InCase old.edges.told old.edges.named command boxes (IsCall old new out out' err err' command topology before status)
call_in {old} {new} {command} {boxes} {topology} {before} {verdict} out out' err err' status c w = record {
  file = c.file;
  text = c.text;
  found = c.found;
  is_file = c.is_file;
  it_holds = call_by old new out out' err err' command topology before verdict status (case_of command c.file c.text c.found boxes) c.comes w;
}

-- the journal is that of a run
pub run_in : {old new : OutsideSeen} {command : Option Command} {boxes : Boxes} {topology : Option Topology} {before : History} {verdict : Verdict}
    → Came old new command boxes topology before verdict → IsRunOrNone topology before
run_in {old} {new} {command} {boxes} {topology} {before} {verdict} c =
    run (case_of command c.file c.text c.found boxes) (Failing (calls_of command (case_of command c.file c.text c.found boxes)) old new) topology before verdict c.comes.outcome

-- the status is at most 9, or 11 or 12
pub known_in : {old new : OutsideSeen} {command : Option Command} {boxes : Boxes} {topology : Option Topology} {before : History} {verdict : Verdict} (status : ℕ)
    → Came old new command boxes topology before verdict → (status ≡ status_in verdict) ⊎ ((status ≡ 8) ⊎ (status ≡ 9)) → IsKnownStatus status
known_in {old} {new} {command} {boxes} {topology} {before} {verdict} status c is =
    within status (status_in verdict) is (known (case_of command c.file c.text c.found boxes) (Failing (calls_of command (case_of command c.file c.text c.found boxes)) old new) topology before verdict c.comes.outcome)

-- a refusal writes nothing to the output
pub unwritten_in : {old new : OutsideSeen} {command : Option Command} {boxes : Boxes} {topology : Option Topology} {before : History} {verdict : Verdict} (status : ℕ) (held held' : List ℕ)
    → Came old new command boxes topology before verdict → (status ≡ status_in verdict) ⊎ ((status ≡ 8) ⊎ (status ≡ 9)) → IsRefusalStatus status → (status ≢ 8 → Adds held held' (out_text_of before verdict)) → held' ≡ held
unwritten_in {old} {new} {command} {boxes} {topology} {before} {verdict} status held held' c is refusal adds =
    unwritten_out (case_of command c.file c.text c.found boxes) (Failing (calls_of command (case_of command c.file c.text c.found boxes)) old new) topology before verdict status held held' c.comes.outcome is refusal adds

-- nor does want of memory
pub unwritten_nine_in : {old new : OutsideSeen} {command : Option Command} {boxes : Boxes} {topology : Option Topology} {before : History} {verdict : Verdict} (status : ℕ) (held held' : List ℕ)
    → Came old new command boxes topology before verdict → status ≡ 9 → (status ≢ 8 → Adds held held' (out_text_of before verdict)) → UnlessNine verdict (held' ≡ held) → held' ≡ held
unwritten_nine_in {old} {new} {command} {boxes} {topology} {before} {verdict} status held held' c nine adds nothing =
    unwritten_nine (case_of command c.file c.text c.found boxes) (Failing (calls_of command (case_of command c.file c.text c.found boxes)) old new) topology before verdict status held held' c.comes.outcome nine adds nothing

-- 7 comes where the words are no command
pub usage_in : {old new : OutsideSeen} {command : Option Command} {boxes : Boxes} {topology : Option Topology} {before : History} {verdict : Verdict} (status : ℕ)
    → Came old new command boxes topology before verdict → (status ≡ status_in verdict) ⊎ ((status ≡ 8) ⊎ (status ≡ 9)) → status ≡ 7 → command ≡ None
usage_in {old} {new} {command} {boxes} {topology} {before} {verdict} status c is seven =
    usage_by command c.file c.text c.found boxes (of_status_seven (case_of command c.file c.text c.found boxes) (Failing (calls_of command (case_of command c.file c.text c.found boxes)) old new) topology before verdict status c.comes.outcome is seven)

-- words that are no command come to 7
pub no_command_in : {old new : OutsideSeen} {command : Option Command} {boxes : Boxes} {topology : Option Topology} {before : History} {verdict : Verdict} (status : ℕ)
    → Came old new command boxes topology before verdict → (status ≡ status_in verdict) ⊎ ((status ≡ 8) ⊎ (status ≡ 9)) → command ≡ None → IsOr 7 status
no_command_in {old} {new} {command} {boxes} {topology} {before} {verdict} status c is none =
    no_command_by old.edges.told old.edges.asked new.edges.asked (Rose old.edges.faults new.edges.faults) topology before verdict status (rw none at c.comes.outcome) is

-- 8 is no status of a verdict
pub eight_in : {old new : OutsideSeen} {command : Option Command} {boxes : Boxes} {topology : Option Topology} {before : History} {verdict : Verdict}
    → Came old new command boxes topology before verdict → status_in verdict ≢ 8
eight_in {old} {new} {command} {boxes} {topology} {before} {verdict} c =
    never_eight (case_of command c.file c.text c.found boxes) (Failing (calls_of command (case_of command c.file c.text c.found boxes)) old new) topology before verdict c.comes.outcome

-- a refusal has no run
pub none_ran_in : {old new : OutsideSeen} {command : Option Command} {boxes : Boxes} {topology : Option Topology} {before : History} {verdict : Verdict} (status : ℕ)
    → Came old new command boxes topology before verdict → (status ≡ status_in verdict) ⊎ ((status ≡ 8) ⊎ (status ≡ 9)) → IsRefusalStatus status → (topology ≡ None) × (before ≡ [])
none_ran_in {old} {new} {command} {boxes} {topology} {before} {verdict} status c is u =
    none_ran (case_of command c.file c.text c.found boxes) (Failing (calls_of command (case_of command c.file c.text c.found boxes)) old new) topology before verdict c.comes.outcome (refusal_as status (status_in verdict) is u)

-- and but for a call by name that failed nothing was opened
pub not_opened_in : {old new : OutsideSeen} {command : Option Command} {boxes : Boxes} {topology : Option Topology} {before : History} {verdict : Verdict} (status : ℕ)
    → Came old new command boxes topology before verdict → (status ≡ status_in verdict) ⊎ ((status ≡ 8) ⊎ (status ≡ 9)) → IsUnopenedStatus status → IsUntouched old new
not_opened_in {old} {new} {command} {boxes} {topology} {before} {verdict} status c is u =
    not_opened (case_of command c.file c.text c.found boxes) (Failing (calls_of command (case_of command c.file c.text c.found boxes)) old new) (verdict ≡ Refused Memory) (ShowsUnfed verdict) (calls_of command (case_of command c.file c.text c.found boxes)) topology before verdict old new c.comes.outcome (unopened_as status (status_in verdict) is u) c.comes.outside
