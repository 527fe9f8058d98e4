-- The report from the places and the steps.
use Rattle.std.proofs.Common.{◌≡◌, ℕ, Bool, List, [], ◌++◌, length, sym, ap, ◌∙◌}
use Rattle.std.proofs.lemmas.List.{reverse-reverse}
use Rattle.std.specs.Prelude.{count_by}
use Rattle.std.specs.List.{filter_map, list_any}
use Rattle.pipe_types.specs.declared.message.Place.{Place}
use Rattle.pipe_types.specs.declared.topology.StageSpec.{StageSpec}
use Rattle.pipe_types.specs.declared.topology.Topology.{Topology}
use Rattle.pipe_types.specs.declared.numbers.StageNo.{StageNo}
use Rattle.pipe_types.specs.declared.message.Loss.{Loss}
use Rattle.pipe_types.specs.declared.step.Step.{Step}
use Rattle.pipe_types.specs.declared.step.SourceHow.{SourceHow}
use Rattle.pipe_types.specs.declared.step.DrainCause.{DrainCause}
use Rattle.pipe_model.specs.History.{History, history}
use Rattle.pipe_model.specs.Legal.{happened, is_halt}
use Rattle.journal_texts.specs.Report.{gravest_of, is_source_fault, is_lost, is_failed, status_of, places, is_successful, reason_of, loss_of, is_restart, is_refuse, fault_of, cause_of, end_word, places_report, steps_lines, steps_report, report_text}
use Rattle.journal_texts.specs.Failures.{counted, counted_lines, AreFailures}
use Rattle.journal_texts.specs.declared.failures.Failures.{Failures}
use Rattle.journal_texts.proofs.Lists.{count_by_reverse}

-- the lines of the steps from the steps, oldest first
steps_part : (stages : List StageSpec) (steps : List Step)
    → steps_lines stages (count_by is_restart steps) (count_by is_refuse steps) (filter_map fault_of steps) (end_word (happened is_halt (history steps)) (filter_map cause_of steps))
    ≡ steps_report stages (history steps)
steps_part stages steps =
    λ i. steps_lines stages
    (sym (count_by_reverse is_restart steps) i)
    (sym (count_by_reverse is_refuse steps) i)
    (filter_map fault_of (sym (reverse-reverse steps) i))
    (end_word (happened is_halt (history steps)) (filter_map cause_of (sym (reverse-reverse steps) i)))

-- the text that the parts make is the report
pub report_made :
    (topology : Topology) (before : History) (standing : List Place) (stages : List StageSpec) (steps : List Step)
    (accepted_count successful restarts refused : ℕ) (failed : Failures) (lost : List Loss) (faults : List (StageNo × SourceHow))
    (halted : Bool) (drains : List DrainCause) (cause start first second text : List ℕ)
    → standing ≡ places topology before → history steps ≡ before → stages ≡ topology.stages
    → accepted_count ≡ length standing → successful ≡ count_by is_successful standing
    → AreFailures (filter_map reason_of standing) failed → lost ≡ filter_map loss_of standing
    → restarts ≡ count_by is_restart steps → refused ≡ count_by is_refuse steps → faults ≡ filter_map fault_of steps
    → halted ≡ happened is_halt (history steps) → drains ≡ filter_map cause_of steps → cause ≡ end_word halted drains
    → start ≡ [] → first ≡ start ++ counted_lines stages accepted_count successful failed.count (counted failed.reasons) lost
    → second ≡ first ++ steps_lines stages restarts refused faults cause → text ≡ second
    → text ≡ report_text topology before
report_made topology before standing stages steps accepted_count successful restarts refused failed lost faults halted drains cause start first second text estanding esteps estages eaccepted esuccessful efailed elost erestarts erefused efaults ehalted edrains ecause estart efirst esecond etext =
    let above : first ≡ places_report topology.stages (places topology before) =
    efirst ∙ ((λ i. estart i ++ counted_lines (estages i) (eaccepted i) (esuccessful i) (efailed.count i) (efailed.reasons i) (elost i)) ∙ ap (places_report topology.stages) estanding) in
    let ends : cause ≡ end_word (happened is_halt (history steps)) (filter_map cause_of steps) = ecause ∙ (λ i. end_word (ehalted i) (edrains i)) in
    let below : steps_lines stages restarts refused faults cause ≡ steps_report topology.stages before =
    (λ i. steps_lines (estages i) (erestarts i) (erefused i) (efaults i) (ends i)) ∙ (steps_part topology.stages steps ∙ ap (steps_report topology.stages) esteps) in
    etext ∙ (esecond ∙ (λ i. above i ++ below i))

-- the status of the findings is that of the run
pub status_is : (topology : Topology) (before : History) (standing : List Place) (steps : List Step) (source_fault halted lost failed : Bool) (status : ℕ)
    → standing ≡ places topology before → history steps ≡ before
    → source_fault ≡ happened is_source_fault (history steps) → halted ≡ happened is_halt (history steps)
    → lost ≡ list_any is_lost standing → failed ≡ list_any is_failed standing
    → status ≡ gravest_of source_fault halted lost failed → status ≡ status_of topology before
status_is topology before standing steps source_fault halted lost failed status estanding esteps efault ehalted elost efailed estatus =
    estatus
    ∙ (λ i. gravest_of
    ((efault ∙ ap (happened is_source_fault) esteps) i)
    ((ehalted ∙ ap (happened is_halt) esteps) i)
    ((elost ∙ ap (list_any is_lost) estanding) i)
    ((efailed ∙ ap (list_any is_failed) estanding) i))
