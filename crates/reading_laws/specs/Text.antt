-- What the text of a journal spells: its steps, or the first bad line.
use Rattle.std.specs.Prelude.{◌≡◌, ℕ, ◌+◌, Bool, if◌then◌else◌, List, [], ◌∷◌, ◌++◌, length, Option, Some, None, Result, Ok, Err, codes, decimal, bytes_eq}
use Rattle.std.specs.List.{slice_split}
use Rattle.pipe_types.specs.declared.step.Step.{Step}
use Rattle.pipe_types.specs.declared.topology.Topology.{Topology}
use Rattle.pipe_model.specs.History.{History}
use Rattle.pipe_model.specs.Legal.{is_legal}
use Rattle.line_reading.specs.declared.fault.Fault.{Fault}
use Rattle.line_reading.specs.Reading.{is_at}
use Rattle.line_reading.specs.Lines.{Jobs, step_in}
use Rattle.journal_texts.specs.Steps.{journal_text}
use Rattle.reading_laws.specs.Named.{named_at}

-- ---- a line

-- what a line behind the first spells
pub data LineSpelt : Type 0 where
  StepLine : (step : Step) → LineSpelt
  EndLine : LineSpelt
  BadEnd : LineSpelt
  BadStep : (fault : Fault) → LineSpelt

abbrev pub step_or_fault : Result Step Fault → LineSpelt
step_or_fault (Ok step) = StepLine step
step_or_fault (Err fault) = BadStep fault

-- the words behind `end`: the number of steps, and nothing more
abbrev pub end_in : (steps : ℕ) → List (List ℕ) → LineSpelt
end_in steps (number ∷ []) = if bytes_eq number (decimal steps) then EndLine else BadEnd
end_in steps _ = BadEnd

-- a line by its words: the end line, where so many steps stand before it, or the line of a step
abbrev pub spelt_by : Jobs → (steps : ℕ) → (line : List ℕ) → (words : List (List ℕ)) → LineSpelt
spelt_by jobs steps line [] = step_or_fault (step_in jobs line)
spelt_by jobs steps line (word ∷ words) = if bytes_eq word (codes "end") then end_in steps words else step_or_fault (step_in jobs line)

-- what a line spells, without its LF, where so many steps stand before it
unfoldable pub line_in : Jobs → (steps : ℕ) → (line : List ℕ) → LineSpelt
line_in jobs steps line = spelt_by jobs steps line (slice_split (is_at 32) line)

-- ---- lines

-- the lines of a text, each without the LF that ends it; what stands behind the last LF is no line
abbrev pub but_last : List (List ℕ) → List (List ℕ)
but_last [] = []
but_last (part ∷ []) = []
but_last (part ∷ next ∷ parts) = part ∷ but_last (next ∷ parts)

abbrev pub lines_of : List ℕ → List (List ℕ)
lines_of text = but_last (slice_split (is_at 10) text)

-- ---- a text

-- what makes a line bad: the faults by their names in C, and `judge` says what a line's step is bad by, where it is legal or
-- is not
pub record Causes (C : Type 0) : Type 0 where
  pub header : C
  pub end : C
  pub fault : Fault → C
  pub judge : (legal : Bool) → Option C

-- no message is known
abbrev pub no_jobs : Jobs
no_jobs p at = None

-- the messages that the replies of the next line belong to: none where the steps so far are not legal
unfoldable pub jobs_after : Topology → History → Jobs
jobs_after topology before = if is_legal topology before then named_at topology before else no_jobs

-- the first bad line, and its cause
abbrev pub Bad : Type 0 → Type 0
Bad C = ℕ × C

abbrev pub bad_line : {C : Type 0} → ℕ → C → Result History (Bad C)
bad_line line cause = Err (line, cause)

-- the line that comes behind these steps
abbrev pub line_after : History → ℕ
line_after before = length before + 2

-- a step that is not judged bad is read on from
abbrev pub unless_bad : {C : Type 0} → Option C → (line : ℕ) → Result History (Bad C) → Result History (Bad C)
unless_bad None line more = more
unless_bad (Some cause) line more = bad_line line cause

-- what a spelt line comes to; `more` is what the lines behind it spell where it is the line of that step
abbrev pub on_line : {C : Type 0} → Causes C → Topology → History → (more : Step → Result History (Bad C)) → LineSpelt → Result History (Bad C)
on_line causes topology before more EndLine = Ok before
on_line causes topology before more BadEnd = bad_line (line_after before) causes.end
on_line causes topology before more (BadStep fault) = bad_line (line_after before) (causes.fault fault)
on_line causes topology before more (StepLine step) = unless_bad (causes.judge (is_legal topology (step ∷ before))) (line_after before) (more step)

-- what the lines behind these steps spell
abbrev pub lines_in : {C : Type 0} → Causes C → Topology → History → List (List ℕ) → Result History (Bad C)
lines_in causes topology before [] = bad_line (line_after before) causes.end
lines_in causes topology before (line ∷ lines) =
    on_line causes topology before (λ step. lines_in causes topology (step ∷ before) lines) (line_in (jobs_after topology before) (length before) line)

-- the line that a text begins with
abbrev pub header : List ℕ
header = codes "journal 1"

abbrev pub after_header : {C : Type 0} → Causes C → Topology → List (List ℕ) → Result History (Bad C)
after_header causes topology [] = bad_line 1 causes.header
after_header causes topology (line ∷ lines) = if bytes_eq line header then lines_in causes topology [] lines else bad_line 1 causes.header

-- the steps that the text spells, or the first bad line; what stands behind the end line is not read
unfoldable pub text_in : {C : Type 0} → Causes C → Topology → List ℕ → Result History (Bad C)
text_in causes topology text = after_header causes topology (lines_of text)

-- the text is that of the journal, with nothing or anything behind its end line
pub record IsTextOf (journal : History) (text : List ℕ) : Type 0 where
  pub behind : List ℕ
  pub whole : text ≡ journal_text journal ++ behind
