-- What the audit of a line says of the lines from it on, and what a verdict says of the text.
use Rattle.std.proofs.Common.{◌≡◌, ℕ, Bool, true, false, cond, List, [], ◌∷◌, ◌++◌, length, Option, Some, Result, Ok, Err, refl, ap, sym, ◌∙◌, subst}
use Rattle.std.specs.Prelude.{◌&&◌, IfOk, bytes_eq}
use Rattle.std.specs.declared.alloc.AllocError.{AllocError}
use Rattle.pipe_types.specs.declared.step.Step.{Step}
use Rattle.pipe_types.specs.declared.topology.Topology.{Topology}
use Rattle.pipe_types.specs.Sound.{IsSound}
use Rattle.pipe_model.specs.History.{History}
use Rattle.pipe_model.specs.Legal.{allows, is_legal}
use Rattle.pipe_laws.proofs.Claims.{keeps_claims}
use Rattle.line_reading.specs.declared.fault.Fault.{Fault}
use Rattle.line_reading.specs.declared.fault.Fault.TheVariants as line
use Rattle.journal_texts.specs.Steps.{journal_text}
use Rattle.reading_laws.specs.Fields.{AreHeld, IsCountable}
use Rattle.reading_laws.specs.Text.{LineSpelt, StepLine, EndLine, BadEnd, BadStep, line_in, lines_of, jobs_after, line_after, Bad as BadAt, bad_line, unless_bad, lines_in, header, after_header, text_in}
use Rattle.reading_laws.specs.Named.{named_at}
use Rattle.reading_laws.proofs.Texts.{lines_by, text_again}
use Rattle.reading_laws.proofs.Found.{text_found}
use Rattle.journal_reading.specs.declared.fault.JournalFault.{JournalFault}
use Rattle.journal_reading.specs.declared.fault.JournalFault.TheVariants as fault
use Rattle.journal_reading.specs.declared.step.LineRead.{LineRead}
use Rattle.journal_reading.specs.declared.step.LineRead.TheVariants as read
use Rattle.journal_reading.specs.Faults.{fault_of}
use Rattle.journal_reading.specs.Reads.{read_as}
use Rattle.journal_reading.proofs.Reading.{jobs_legal}
use Rattle.journal_reading.specs.Seen.{RunSeen}
use Rattle.journal_audit.specs.declared.verdict.BadCause.{BadCause}
use Rattle.journal_audit.specs.declared.verdict.BadCause.TheVariants as cause
use Rattle.journal_audit.specs.declared.verdict.Verdict.{Verdict}
use Rattle.journal_audit.specs.declared.verdict.Verdict.TheVariants.{Legal}
use Rattle.journal_audit.specs.Causes.{cause_of, cause_seen, judged}
use Rattle.journal_audit.specs.Verdicts.{summary_of, verdict_by, verdict_in, IsSaid}
use Rattle.journal_audit.specs.declared.lines.LineFound.{LineFound}
use Rattle.journal_audit.specs.declared.lines.LineFound.TheVariants.{Good, Last, Bad as BadLine}
use Rattle.journal_audit.specs.Lines.{GoesOn, Finds, Judges}

abbrev Found : Type 0
Found = Result History (BadAt BadCause)

-- ---- one line

-- what is read of a line with the run that has the steps of the lines before
pub read_here : (run : RunSeen) (seen : History) (steps : ℕ) (line : List ℕ) (r : LineRead) → r ≡ read_as (line_in (named_at run.topology run.steps) steps line) → steps ≡ length seen → seen ≡ run.steps
    → is_legal run.topology run.steps ≡ true → r ≡ read_as (line_in (jobs_after run.topology run.steps) (length run.steps) line)
read_here run seen steps line r is count same legal =
    is
    ∙ (ap (λ (n : ℕ). read_as (line_in (named_at run.topology run.steps) n line)) (count ∙ ap length same)
    ∙ ap (λ jobs. read_as (line_in jobs (length run.steps) line)) (sym (jobs_legal run.topology run.steps legal)))

-- the line is that of a step
step_on : (topology : Topology) (before : History) (line : List ℕ) (lines : List (List ℕ)) (step : Step) → read.Step step ≡ read_as (line_in (jobs_after topology before) (length before) line)
    → lines_in judged topology before (line ∷ lines) ≡ unless_bad (judged.judge (is_legal topology (step ∷ before))) (line_after before) (lines_in judged topology (step ∷ before) lines)
step_on topology before line lines step e = by (line_in (jobs_after topology before) (length before) line) refl e
  where
    by : (spelt : LineSpelt) → line_in (jobs_after topology before) (length before) line ≡ spelt → read.Step step ≡ read_as spelt
        → lines_in judged topology before (line ∷ lines) ≡ unless_bad (judged.judge (is_legal topology (step ∷ before))) (line_after before) (lines_in judged topology (step ∷ before) lines)
    by (StepLine s) is e =
        let same : s ≡ step = cc in
        lines_by judged topology before line lines (StepLine s) is
        ∙ ap (λ (x : Step). unless_bad (judged.judge (is_legal topology (x ∷ before))) (line_after before) (lines_in judged topology (x ∷ before) lines)) same
    by EndLine is e = absurd cc
    by BadEnd is e = absurd cc
    by (BadStep f) is e = absurd cc

-- whether the step is legal behind these
judged_as : (topology : Topology) (before : History) (line : List ℕ) (lines : List (List ℕ)) (step : Step) (legal allowed : Bool) → is_legal topology before ≡ true → allows topology before step ≡ allowed
    → read.Step step ≡ read_as (line_in (jobs_after topology before) (length before) line)
    → lines_in judged topology before (line ∷ lines) ≡ unless_bad (judged.judge (true && allowed)) (line_after before) (lines_in judged topology (step ∷ before) lines)
judged_as topology before line lines step legal allowed h is e =
    step_on topology before line lines step e
    ∙ (ap (λ (b : Bool). unless_bad (judged.judge (b && allows topology before step)) (line_after before) (lines_in judged topology (step ∷ before) lines)) h
    ∙ ap (λ (b : Bool). unless_bad (judged.judge (true && b)) (line_after before) (lines_in judged topology (step ∷ before) lines)) is)

pub good_line : (topology : Topology) (before after : History) (line : List ℕ) (step : Step) → is_legal topology before ≡ true → read.Step step ≡ read_as (line_in (jobs_after topology before) (length before) line)
    → allows topology before step ≡ true → after ≡ step ∷ before → GoesOn topology before after line
good_line topology before after line step legal is allowed same = record {
  same = λ lines. judged_as topology before line lines step true true legal allowed is ∙ ap (λ (h : History). lines_in judged topology h lines) (sym same);
  more = ap length same;
}

pub refused_line : (topology : Topology) (before : History) (line : List ℕ) (step : Step) (c : BadCause) → is_legal topology before ≡ true → read.Step step ≡ read_as (line_in (jobs_after topology before) (length before) line)
    → allows topology before step ≡ false → c ≡ cause.Step → (lines : List (List ℕ)) → lines_in judged topology before (line ∷ lines) ≡ bad_line (line_after before) c
refused_line topology before line step c legal is refused same lines =
    judged_as topology before line lines step true false legal refused is ∙ ap (bad_line (line_after before)) (sym same)

pub last_line : (topology : Topology) (before : History) (line : List ℕ) → read.End ≡ read_as (line_in (jobs_after topology before) (length before) line)
    → (lines : List (List ℕ)) → lines_in judged topology before (line ∷ lines) ≡ Ok before
last_line topology before line e lines = by (line_in (jobs_after topology before) (length before) line) refl e
  where
    by : (spelt : LineSpelt) → line_in (jobs_after topology before) (length before) line ≡ spelt → read.End ≡ read_as spelt → lines_in judged topology before (line ∷ lines) ≡ Ok before
    by EndLine is e = lines_by judged topology before line lines EndLine is
    by (StepLine s) is e = absurd cc
    by BadEnd is e = absurd cc
    by (BadStep f) is e = absurd cc

seen_of : (f : Fault) → cause_seen (fault_of f) ≡ Some (cause_of f)
seen_of line.Word = refl
seen_of line.Number = refl
seen_of line.Bytes = refl

some_same : (a b : BadCause) (o : Option BadCause) → o ≡ Some a → o ≡ Some b → a ≡ b
some_same a b o e f = cc

pub worst_line : (topology : Topology) (before : History) (line : List ℕ) (f : JournalFault) (c : BadCause) → read.Bad f ≡ read_as (line_in (jobs_after topology before) (length before) line) → cause_seen f ≡ Some c
    → (lines : List (List ℕ)) → lines_in judged topology before (line ∷ lines) ≡ bad_line (line_after before) c
worst_line topology before line f c e seen lines = by (line_in (jobs_after topology before) (length before) line) refl e
  where
    by : (spelt : LineSpelt) → line_in (jobs_after topology before) (length before) line ≡ spelt → read.Bad f ≡ read_as spelt → lines_in judged topology before (line ∷ lines) ≡ bad_line (line_after before) c
    by BadEnd is e =
        let same : fault.End ≡ f = cc in
        lines_by judged topology before line lines BadEnd is ∙ ap (bad_line (line_after before)) (some_same cause.End c (cause_seen f) (ap cause_seen (sym same)) seen)
    by (BadStep g) is e =
        let same : fault_of g ≡ f = cc in
        lines_by judged topology before line lines (BadStep g) is ∙ ap (bad_line (line_after before)) (some_same (cause_of g) c (cause_seen f) (ap cause_seen (sym same) ∙ seen_of g) seen)
    by (StepLine s) is e = absurd cc
    by EndLine is e = absurd cc

-- the step was judged
pub step_found : (run : RunSeen) (after : History) (line : List ℕ) (step : Step) (result : Result LineFound AllocError) → is_legal run.topology run.steps ≡ true
    → read.Step step ≡ read_as (line_in (jobs_after run.topology run.steps) (length run.steps) line) → IfOk result (Judges run.topology run.steps after step) → IfOk result (Finds run.topology run.steps after line)
step_found run after line step (Err e) legal is judges = tt
step_found run after line step (Ok Good) legal is judges = good_line run.topology run.steps after line step legal is judges.0 judges.1
step_found run after line step (Ok Last) legal is judges = absurd judges
step_found run after line step (Ok (BadLine c)) legal is judges = (judges.2, refused_line run.topology run.steps line step c legal is judges.0 judges.1)

-- ---- what a verdict says

-- only a legal journal is spelt where each step is judged
judged_legal : (topology : Topology) (before : History) (lines : List (List ℕ)) (journal : History) → is_legal topology before ≡ true → lines_in judged topology before lines ≡ Ok journal → is_legal topology journal ≡ true
judged_legal topology before [] journal legal e = absurd cc
judged_legal topology before (line ∷ lines) journal legal e = by (line_in (jobs_after topology before) (length before) line) refl (λ s. judged_legal topology (s ∷ before) lines journal)
  where
    by : (spelt : LineSpelt) → line_in (jobs_after topology before) (length before) line ≡ spelt
        → ((s : Step) → is_legal topology (s ∷ before) ≡ true → lines_in judged topology (s ∷ before) lines ≡ Ok journal → is_legal topology journal ≡ true) → is_legal topology journal ≡ true
    by EndLine is more =
        let last = sym (lines_by judged topology before line lines EndLine is) ∙ e in
        let same : before ≡ journal = cc in
        ap (is_legal topology) (sym same) ∙ legal
    by BadEnd is more = absurd (let wrong = sym (lines_by judged topology before line lines BadEnd is) ∙ e in cc)
    by (BadStep f) is more = absurd (let wrong = sym (lines_by judged topology before line lines (BadStep f) is) ∙ e in cc)
    by (StepLine step) is more = by_judge (is_legal topology (step ∷ before)) refl (sym (lines_by judged topology before line lines (StepLine step) is) ∙ e)
      where
        by_judge : (b : Bool) → is_legal topology (step ∷ before) ≡ b
            → unless_bad (judged.judge (is_legal topology (step ∷ before))) (line_after before) (lines_in judged topology (step ∷ before) lines) ≡ Ok journal → is_legal topology journal ≡ true
        by_judge true allowed f = more step allowed (sym (ap (λ (c : Bool). unless_bad (judged.judge c) (line_after before) (lines_in judged topology (step ∷ before) lines)) allowed) ∙ f)
        by_judge false refused f = absurd (let wrong = sym (ap (λ (c : Bool). unless_bad (judged.judge c) (line_after before) (lines_in judged topology (step ∷ before) lines)) refused) ∙ f in cc)

pub text_legal : (topology : Topology) (text : List ℕ) (journal : History) → text_in judged topology text ≡ Ok journal → is_legal topology journal ≡ true
unfolding text_in
text_legal topology text journal e = by (lines_of text) e
  where
    by : (ls : List (List ℕ)) → after_header judged topology ls ≡ Ok journal → is_legal topology journal ≡ true
    by [] f = absurd cc
    by (l ∷ ls) f = by_word (bytes_eq l header) f
      where
        by_word : (b : Bool) → cond b (lines_in judged topology [] ls) (bad_line 1 cause.Header) ≡ Ok journal → is_legal topology journal ≡ true
        by_word true g = judged_legal topology [] ls journal refl g
        by_word false g = absurd cc

pub said_by : (topology : Topology) (text : List ℕ) → IsSound topology → (found : Found) → text_in judged topology text ≡ found → IsSaid topology text (verdict_by topology found)
said_by topology text sound (Ok journal) is = record {
  journal = journal;
  text_of = text_found judged topology text journal is;
  claims = keeps_claims topology journal sound (text_legal topology text journal is);
  counts = refl;
}
said_by topology text sound (Err bad) is = is

pub said_of : (topology : Topology) (text : List ℕ) (result : Result Verdict AllocError) → IsSound topology → IfOk result (λ verdict. verdict ≡ verdict_in topology text) → IfOk result (IsSaid topology text)
said_of topology text (Ok verdict) sound is = subst (IsSaid topology text) (sym is) (said_by topology text sound (text_in judged topology text) refl)
said_of topology text (Err e) sound is = tt

pub found_of : (topology : Topology) (text : List ℕ) (result : Result Verdict AllocError) (journal : History) (behind : List ℕ) → is_legal topology journal ≡ true → AreHeld journal → IsCountable journal → text ≡ journal_text journal ++ behind
    → IfOk result (λ verdict. verdict ≡ verdict_in topology text) → IfOk result (λ verdict. verdict ≡ Legal (summary_of topology journal))
found_of topology text (Ok verdict) journal behind legal held few whole is =
    is ∙ ap (verdict_by topology) (ap (text_in judged topology) whole ∙ text_again judged refl topology journal behind legal held few)
found_of topology text (Err e) journal behind legal held few whole is = tt
