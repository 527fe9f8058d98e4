-- The report of a run, and its status.
use Rattle.std.specs.Prelude.{ℕ, ◌+◌, Bool, true, false, if◌then◌else◌, List, [], ◌∷◌, ◌++◌, length, reverse, count_by, codes, decimal, nat_lt, Option, Some, None}
use Rattle.std.specs.List.{filter_map, flat_map, list_any}
use Rattle.std.specs.Ordering.{nat_cmp}
use Rattle.std.specs.Cmp.Lexicographic.{slice_cmp}
use Rattle.std.specs.declared.cmp.Ordering.{Ordering}
use Rattle.std.specs.declared.cmp.Ordering.TheVariants.{Less, Equal, Greater}
use Rattle.pipe_types.specs.declared.numbers.StageNo.{StageNo}
use Rattle.pipe_types.specs.declared.topology.Topology.{Topology}
use Rattle.pipe_types.specs.declared.topology.StageSpec.{StageSpec}
use Rattle.pipe_types.specs.declared.message.Outcome.TheVariants.{Successful, Failed}
use Rattle.pipe_types.specs.declared.message.Loss.{Loss}
use Rattle.pipe_types.specs.declared.message.Loss.TheVariants.{Killed, Overflow}
use Rattle.pipe_types.specs.declared.message.Place.{Place}
use Rattle.pipe_types.specs.declared.message.Place.TheVariants.{Acked, Lost}
use Rattle.pipe_types.specs.declared.step.SourceHow.{SourceHow}
use Rattle.pipe_types.specs.declared.step.SourceHow.TheVariants.{Fault, TooLong}
use Rattle.pipe_types.specs.declared.step.DrainCause.{DrainCause}
use Rattle.pipe_types.specs.declared.step.LateAnswer.TheVariants.{Source}
use Rattle.pipe_types.specs.declared.step.Step.{Step}
use Rattle.pipe_types.specs.declared.step.Step.TheVariants.{SourceEnd, Late, Restart, Drain, Refuse}
use Rattle.pipe_types.specs.Numbers.{stage, same_stage}
use Rattle.pipe_model.specs.History.{History, accepted}
use Rattle.pipe_model.specs.Flow.{place}
use Rattle.pipe_model.specs.Legal.{happened, is_halt}
use Rattle.pipe_model.specs.Acknowledgements.{numbers_upto}
use Rattle.journal_texts.specs.Words.{lf}
use Rattle.journal_texts.specs.Steps.{how_word, cause_word}

-- Lines

-- WORD N
abbrev pub count_line : List ℕ → ℕ → List ℕ
count_line word n = word ++ codes " " ++ decimal n ++ lf

-- WORD NAME N
abbrev pub named_line : (word name : List ℕ) → ℕ → List ℕ
named_line word name n = word ++ codes " " ++ name ++ codes " " ++ decimal n ++ lf

-- WORD NAME N, where there is something to count
abbrev pub line_if_any : (word name : List ℕ) → ℕ → List ℕ
line_if_any word name n = if nat_lt 0 n then named_line word name n else []

-- Where the messages stand

-- the places of the accepted messages, in order of their numbers
abbrev pub places : Topology → History → List Place
places topology before = filter_map (place topology before) (numbers_upto (accepted before))

abbrev pub is_successful : Place → Bool
is_successful (Acked Successful) = true
is_successful _ = false

abbrev pub reason_of : Place → Option (List ℕ)
reason_of (Acked (Failed why)) = Some why
reason_of _ = None

abbrev pub loss_of : Place → Option Loss
loss_of (Lost loss) = Some loss
loss_of _ = None

-- how many messages succeeded
abbrev pub successes : List Place → ℕ
successes places = count_by is_successful places

-- the reasons of the failed messages
abbrev pub reasons : List Place → List (List ℕ)
reasons places = filter_map reason_of places

-- how the lost messages were lost
abbrev pub losses : List Place → List Loss
losses places = filter_map loss_of places

abbrev pub is_overflow : StageNo → Loss → Bool
is_overflow s (Overflow t) = same_stage s t
is_overflow s _ = false

abbrev pub is_killed : StageNo → Loss → Bool
is_killed s (Killed t i why) = same_stage s t
is_killed s _ = false

-- Reasons

-- one more message with this reason
abbrev pub put_reason : Ordering → (r q : List ℕ) → (n : ℕ) → (others with_r : List (List ℕ × ℕ)) → List (List ℕ × ℕ)
put_reason Less r q n others with_r = (r, 1) ∷ (q, n) ∷ others
put_reason Equal r q n others with_r = (q, n + 1) ∷ others
put_reason Greater r q n others with_r = (q, n) ∷ with_r

abbrev pub with_reason : List ℕ → List (List ℕ × ℕ) → List (List ℕ × ℕ)
with_reason r [] = (r, 1) ∷ []
with_reason r (d ∷ others) = put_reason (slice_cmp nat_cmp r d.0) r d.0 d.1 others (with_reason r others)

-- each reason once, in byte order, with how many messages have it
abbrev pub tally : List (List ℕ) → List (List ℕ × ℕ)
tally [] = []
tally (r ∷ reasons) = with_reason r (tally reasons)

abbrev pub tally_lines : List (List ℕ × ℕ) → List ℕ
tally_lines counts = flat_map (λ d. named_line (codes "reason") d.0 d.1) counts

abbrev pub reason_lines : List (List ℕ) → List ℕ
reason_lines reasons = tally_lines (tally reasons)

-- Stages and steps

-- the line of a stage with such losses
abbrev pub loss_line : (word : List ℕ) → (is_such : StageNo → Loss → Bool) → List Loss → StageSpec → List ℕ
loss_line word is_such losses spec = line_if_any word spec.name (count_by (is_such spec.no) losses)

-- the line of each stage with such losses
abbrev pub loss_lines : (word : List ℕ) → (is_such : StageNo → Loss → Bool) → List Loss → List StageSpec → List ℕ
loss_lines word is_such losses stages = flat_map (loss_line word is_such losses) stages

abbrev pub is_restart : Step → Bool
is_restart (Restart s) = true
is_restart _ = false

abbrev pub is_refuse : Step → Bool
is_refuse (Refuse line) = true
is_refuse _ = false

-- Sources

-- a stage, 0 for the control source, and how its source ended
abbrev pub fault_by : StageNo → SourceHow → Option (StageNo × SourceHow)
fault_by s Fault = Some (s, Fault)
fault_by s TooLong = Some (s, TooLong)
fault_by s _ = None

-- the step ends a source with a fault or with a line that is too long
abbrev pub fault_of : Step → Option (StageNo × SourceHow)
fault_of (SourceEnd s how) = fault_by s how
fault_of (Late s slot i (Source how)) = fault_by s how
fault_of _ = None

-- the sources that ended so, in journal order
abbrev pub source_faults : History → List (StageNo × SourceHow)
source_faults before = filter_map fault_of (reverse before)

-- source NAME HOW
abbrev pub source_end_line : (name : List ℕ) → SourceHow → List ℕ
source_end_line name how = codes "source " ++ name ++ codes " " ++ how_word how ++ lf

abbrev pub source_line : (name : List ℕ) → Option SourceHow → List ℕ
source_line name None = []
source_line name (Some how) = source_end_line name how

-- how the source of this stage ended, where it ended so
abbrev pub fault_in : List (StageNo × SourceHow) → StageNo → Option SourceHow
fault_in [] s = None
fault_in (end ∷ faults) s = if same_stage s end.0 then Some end.1 else fault_in faults s

-- the line of the source of this stage, where it ended so
abbrev pub line_of_source : List (StageNo × SourceHow) → (name : List ℕ) → StageNo → List ℕ
line_of_source faults name s = source_line name (fault_in faults s)

abbrev pub line_of_stage : List (StageNo × SourceHow) → StageSpec → List ℕ
line_of_stage faults spec = line_of_source faults spec.name spec.no

-- the control source first, then the stages in order
abbrev pub source_lines : List StageSpec → List (StageNo × SourceHow) → List ℕ
source_lines stages faults = line_of_source faults (codes "control") (stage 0) ++ flat_map (line_of_stage faults) stages

-- The end

abbrev pub cause_of : Step → Option DrainCause
cause_of (Drain cause) = Some cause
cause_of _ = None

-- the causes of drains, of which a legal journal has one at most, in journal order
abbrev pub causes : History → List DrainCause
causes before = filter_map cause_of (reverse before)

-- a report is written once a drain or a halt has come
abbrev pub end_word : (halted : Bool) → List DrainCause → List ℕ
end_word true causes = codes "halt"
end_word false [] = []
end_word false (cause ∷ causes) = cause_word cause

-- The report

-- the lines of the places
abbrev pub places_lines : List StageSpec → (accepted successful : ℕ) → (reasons : List (List ℕ)) → List Loss → List ℕ
places_lines stages accepted successful reasons losses =
    count_line (codes "accepted") accepted
    ++ count_line (codes "successful") successful
    ++ count_line (codes "failed") (length reasons)
    ++ count_line (codes "lost") (length losses)
    ++ reason_lines reasons
    ++ loss_lines (codes "overflow") is_overflow losses stages
    ++ loss_lines (codes "killed") is_killed losses stages

abbrev pub places_report : List StageSpec → List Place → List ℕ
places_report stages places = places_lines stages (length places) (successes places) (reasons places) (losses places)

-- the lines of the steps
abbrev pub steps_lines : List StageSpec → (restarts refused : ℕ) → List (StageNo × SourceHow) → (end : List ℕ) → List ℕ
steps_lines stages restarts refused faults end =
    count_line (codes "restarts") restarts
    ++ count_line (codes "refused") refused
    ++ source_lines stages faults
    ++ codes "end "
    ++ end
    ++ lf

abbrev pub steps_report : List StageSpec → History → List ℕ
steps_report stages before =
    steps_lines stages (count_by is_restart before) (count_by is_refuse before) (source_faults before) (end_word (happened is_halt before) (causes before))

-- the report of a run
abbrev pub report_text : Topology → History → List ℕ
report_text topology before = places_report topology.stages (places topology before) ++ steps_report topology.stages before

-- The status

abbrev pub is_fault : SourceHow → Bool
is_fault Fault = true
is_fault TooLong = true
is_fault _ = false

-- the step ends a source with a fault or with a line that is too long
abbrev pub is_source_fault : Step → Bool
is_source_fault (SourceEnd s how) = is_fault how
is_source_fault (Late s slot i (Source how)) = is_fault how
is_source_fault _ = false

abbrev pub is_lost : Place → Bool
is_lost (Lost loss) = true
is_lost _ = false

abbrev pub is_failed : Place → Bool
is_failed (Acked (Failed why)) = true
is_failed _ = false

-- the gravest finding
abbrev pub gravest_of : (source_fault halted lost failed : Bool) → ℕ
gravest_of source_fault halted lost failed = if source_fault then 4 else (if halted then 3 else (if lost then 2 else (if failed then 1 else 0)))

abbrev pub status_by : List Place → History → ℕ
status_by places before = gravest_of (happened is_source_fault before) (happened is_halt before) (list_any is_lost places) (list_any is_failed places)

-- 4 where a source ended with a fault or too long a line, else 3 where the run was halted, else 2 where a message was
-- lost, else 1 where one failed, else 0
abbrev pub status_of : Topology → History → ℕ
status_of topology before = status_by (places topology before) before
