-- What was read of a line says what the lines from it on spell.
use Rattle.std.proofs.Common.{◌≡◌, ◌≢◌, ◌<◌, ◌^◌, lit<, ℕ, Bool, true, false, cond, List, [], ◌∷◌, length, Result, Ok, Err, refl, ap, sym, ◌∙◌, subst}
use Rattle.std.specs.Prelude.{◌&&◌, IfOk, IfErr, decimal, codes, bytes_eq}
use Rattle.std.specs.List.{slice_split, join_with_byte}
use Rattle.std.proofs.lemmas.List.Splits.{join_with_byte-slice_split}
use Rattle.std.proofs.lemmas.Slice.Eq.{bytes_eq-Decides}
use Rattle.pipe_types.specs.declared.step.Step.{Step}
use Rattle.pipe_types.specs.declared.topology.Topology.{Topology}
use Rattle.pipe_model.specs.History.{History}
use Rattle.pipe_model.specs.Legal.{allows, is_legal}
use Rattle.line_reading.specs.Reading.{is_at}
use Rattle.line_reading.specs.Lines.{Jobs, step_in}
use Rattle.line_reading.proofs.Spelt.{split_none, decimal_plain}
use Rattle.line_reading.proofs.ItemsAgain.{plain_lacks}
use Rattle.reading_laws.specs.Named.{named_at}
use Rattle.reading_laws.specs.Text.{LineSpelt, StepLine, EndLine, BadEnd, BadStep, step_or_fault, end_in, spelt_by, line_in, lines_of, no_jobs, jobs_after, line_after, Bad, bad_line, lines_in, header, after_header, text_in, IsTextOf}
use Rattle.reading_laws.proofs.Texts.{lines_by}
use Rattle.reading_laws.proofs.Found.{text_found}
use Rattle.pipe_journal.specs.Recorded.{Recorded}
use Rattle.plain_run.specs.Seen.{RunSeen}
use Rattle.journal_reading.specs.declared.fault.JournalFault.{JournalFault}
use Rattle.journal_reading.specs.declared.fault.JournalFault.TheVariants.{Header, Word, Number, Bytes, End, OutOfMemory}
use Rattle.journal_reading.specs.declared.fault.JournalRefusal.{JournalRefusal}
use Rattle.journal_reading.specs.declared.step.LineRead.{LineRead}
use Rattle.journal_reading.specs.declared.step.LineRead.TheVariants as read
use Rattle.journal_reading.specs.Faults.{unjudged}
use Rattle.journal_reading.specs.declared.progress.Progress.{Progress}
use Rattle.journal_reading.specs.declared.progress.Progress.TheVariants.{Legal}
use Rattle.journal_reading.specs.declared.steps.Next.{Next}
use Rattle.journal_reading.specs.declared.steps.Next.TheVariants.{More, Done}
use Rattle.journal_reading.specs.OneLine.{GoesOn, ReadsOne}
use Rattle.journal_reading.specs.Reads.{read_as, Answers, steps_in, IsOf}
use Rattle.std.specs.declared.alloc.AllocError.{AllocError}

pub one_step : (topology : Topology) (before : History) (line : List ℕ) (lines : List (List ℕ)) (step : Step) → read.Step step ≡ read_as (line_in (jobs_after topology before) (length before) line)
    → lines_in unjudged topology before (line ∷ lines) ≡ lines_in unjudged topology (step ∷ before) lines
one_step topology before line lines step e = by (line_in (jobs_after topology before) (length before) line) refl e
  where
    by : (spelt : LineSpelt) → line_in (jobs_after topology before) (length before) line ≡ spelt → read.Step step ≡ read_as spelt → lines_in unjudged topology before (line ∷ lines) ≡ lines_in unjudged topology (step ∷ before) lines
    by (StepLine s) is e = let same : s ≡ step = cc in lines_by unjudged topology before line lines (StepLine s) is ∙ ap (λ (x : Step). lines_in unjudged topology (x ∷ before) lines) same
    by EndLine is e = absurd cc
    by BadEnd is e = absurd cc
    by (BadStep f) is e = absurd cc

pub one_end : (topology : Topology) (before : History) (line : List ℕ) (lines : List (List ℕ)) → read.End ≡ read_as (line_in (jobs_after topology before) (length before) line) → lines_in unjudged topology before (line ∷ lines) ≡ Ok before
one_end topology before line lines e = by (line_in (jobs_after topology before) (length before) line) refl e
  where
    by : (spelt : LineSpelt) → line_in (jobs_after topology before) (length before) line ≡ spelt → read.End ≡ read_as spelt → lines_in unjudged topology before (line ∷ lines) ≡ Ok before
    by EndLine is e = lines_by unjudged topology before line lines EndLine is
    by (StepLine s) is e = absurd cc
    by BadEnd is e = absurd cc
    by (BadStep f) is e = absurd cc

pub one_bad : (topology : Topology) (before : History) (line : List ℕ) (lines : List (List ℕ)) (fault : JournalFault) → read.Bad fault ≡ read_as (line_in (jobs_after topology before) (length before) line)
    → lines_in unjudged topology before (line ∷ lines) ≡ bad_line (line_after before) fault
one_bad topology before line lines fault e = by (line_in (jobs_after topology before) (length before) line) refl e
  where
    by : (spelt : LineSpelt) → line_in (jobs_after topology before) (length before) line ≡ spelt → read.Bad fault ≡ read_as spelt → lines_in unjudged topology before (line ∷ lines) ≡ bad_line (line_after before) fault
    by BadEnd is e = let same : unjudged.end ≡ fault = cc in lines_by unjudged topology before line lines BadEnd is ∙ ap (bad_line (line_after before)) same
    by (BadStep f) is e = let same : unjudged.fault f ≡ fault = cc in lines_by unjudged topology before line lines (BadStep f) is ∙ ap (bad_line (line_after before)) same
    by (StepLine s) is e = absurd cc
    by EndLine is e = absurd cc

-- ---- the messages that are known

pub jobs_legal : (topology : Topology) (before : History) → is_legal topology before ≡ true → jobs_after topology before ≡ named_at topology before
unfolding jobs_after
jobs_legal topology before h = ap (λ (b : Bool). cond b (named_at topology before) no_jobs) h

pub jobs_illegal : (topology : Topology) (before : History) → is_legal topology before ≡ false → jobs_after topology before ≡ no_jobs
unfolding jobs_after
jobs_illegal topology before h = ap (λ (b : Bool). cond b (named_at topology before) no_jobs) h

-- a step that is not allowed leaves a journal that is not legal
pub not_legal : (a b : Bool) → b ≡ false → (a && b) ≡ false
not_legal true b h = h
not_legal false b h = refl

-- ---- whole texts

abbrev ok_history : History → Result History (Bad JournalFault)
ok_history h = Ok h

pub again_by : (result : Result Recorded JournalRefusal) (spelt : Result History (Bad JournalFault)) (journal : History) → Answers result spelt → spelt ≡ Ok journal
    → IfOk result (λ read. read.steps ≡ journal) × IfErr result (λ refusal. refusal.fault ≡ OutOfMemory)
again_by (Ok read) spelt journal answers is = (same read.steps journal (sym answers ∙ is), tt)
  where
    same : (a b : History) → ok_history a ≡ ok_history b → a ≡ b
    same a b e = cc
again_by (Err refusal) spelt journal answers is = (tt, by refusal.fault answers)
  where
    by : (fault : JournalFault) → (fault ≢ OutOfMemory → spelt ≡ Err (refusal.line, fault)) → fault ≡ OutOfMemory
    by OutOfMemory h = refl
    by Header h = absurd (let wrong = sym (h (λ e. cc)) ∙ is in cc)
    by Word h = absurd (let wrong = sym (h (λ e. cc)) ∙ is in cc)
    by Number h = absurd (let wrong = sym (h (λ e. cc)) ∙ is in cc)
    by Bytes h = absurd (let wrong = sym (h (λ e. cc)) ∙ is in cc)
    by End h = absurd (let wrong = sym (h (λ e. cc)) ∙ is in cc)

pub found_by : (result : Result Recorded JournalRefusal) (topology : Topology) (text : List ℕ) → Answers result (text_in unjudged topology text) → IfOk result (λ read. IsTextOf read.steps text)
found_by (Ok read) topology text answers = text_found unjudged topology text read.steps answers
found_by (Err refusal) topology text answers = tt

-- ---- what a step of the reading comes to

-- a line read with the run that has the steps
pub legal_line : (topology : Topology) (run : RunSeen) (seen : History) (steps : ℕ) (line : List ℕ) (result : Result LineRead AllocError)
    → IfOk result (λ read. read ≡ read_as (line_in (named_at run.topology run.steps) steps line)) → steps ≡ length seen → seen ≡ run.steps → is_legal run.topology run.steps ≡ true → run.topology ≡ topology
    → IfOk result (λ read. read ≡ read_as (line_in (jobs_after topology run.steps) (length run.steps) line))
legal_line topology run seen steps line (Err e) is count same legal of = tt
legal_line topology run seen steps line (Ok read) is count same legal of =
    is
    ∙ (ap (λ (n : ℕ). read_as (line_in (named_at run.topology run.steps) n line)) (count ∙ ap length same)
    ∙ (ap (λ (jobs : Jobs). read_as (line_in jobs (length run.steps) line)) (sym (jobs_legal run.topology run.steps legal))
    ∙ ap (λ (t : Topology). read_as (line_in (jobs_after t run.steps) (length run.steps) line)) of))

-- and with none, where they are not legal
pub illegal_line : (topology : Topology) (before : History) (steps : ℕ) (line : List ℕ) (result : Result LineRead AllocError)
    → IfOk result (λ read. read ≡ read_as (line_in no_jobs steps line)) → steps ≡ length before → is_legal topology before ≡ false
    → IfOk result (λ read. read ≡ read_as (line_in (jobs_after topology before) (length before) line))
illegal_line topology before steps line (Err e) is count illegal = tt
illegal_line topology before steps line (Ok read) is count illegal =
    is
    ∙ (ap (λ (n : ℕ). read_as (line_in no_jobs n line)) count
    ∙ ap (λ (jobs : Jobs). read_as (line_in jobs (length before) line)) (sym (jobs_illegal topology before illegal)))

-- a journal with one more step that leaves it not legal
pub illegal_taken : (steps after : History) (step : Step) → after ≡ step ∷ steps → (after ≡ step ∷ steps) × ((topology : Topology) → is_legal topology (step ∷ steps) ≡ false → is_legal topology after ≡ false)
illegal_taken steps after step e = (e, λ topology h. ap (is_legal topology) e ∙ h)

-- a step that the run does not allow
pub refused_taken : (run : RunSeen) (seen left : History) (step : Step) (allowed : Bool) (result : Result Progress AllocError)
    → IfOk result (λ progress. (steps_in progress ≡ step ∷ left) × ((topology : Topology) → is_legal topology (step ∷ left) ≡ false → IsOf topology progress))
    → left ≡ seen → seen ≡ run.steps → allowed ≡ allows run.topology run.steps step → allowed ≡ false → IfOk result (λ progress. (steps_in progress ≡ step ∷ run.steps) × IsOf run.topology progress)
refused_taken run seen left step allowed (Err e) taken one two told fails = tt
refused_taken run seen left step allowed (Ok progress) taken one two told fails =
    let same : left ≡ run.steps = one ∙ two in (
      taken.0 ∙ ap (λ (h : History). step ∷ h) same,
      taken.1 run.topology (ap (λ (h : History). is_legal run.topology (step ∷ h)) same ∙ not_legal (is_legal run.topology run.steps) (allows run.topology run.steps step) (sym told ∙ fails)),
    )

-- a line that is a step
pub more_line : (topology : Topology) (progress next : Progress) (line : List ℕ) (step : Step)
    → ((t : Topology) → IsOf t progress → read.Step step ≡ read_as (line_in (jobs_after t (steps_in progress)) (length (steps_in progress)) line))
    → ((t : Topology) → IsOf t progress → (steps_in next ≡ step ∷ steps_in progress) × IsOf t next) → IsOf topology progress → GoesOn topology (steps_in progress) line next
more_line topology progress next line step is taken of =
    let t = taken topology of in
    record {
      same = λ lines. one_step topology (steps_in progress) line lines step (is topology of) ∙ ap (λ (h : History). lines_in unjudged topology h lines) (sym t.0);
      more = ap length t.0;
      of = t.1;
    }

-- the end line
pub last_line : (topology : Topology) (progress : Progress) (journal : Recorded) (line : List ℕ)
    → ((t : Topology) → IsOf t progress → read.End ≡ read_as (line_in (jobs_after t (steps_in progress)) (length (steps_in progress)) line))
    → journal.steps ≡ steps_in progress → IsOf topology progress → (lines : List (List ℕ)) → lines_in unjudged topology (steps_in progress) (line ∷ lines) ≡ Ok journal.steps
last_line topology progress journal line is same of lines = one_end topology (steps_in progress) line lines (is topology of) ∙ ap (λ (h : History). ok_history h) (sym same)

-- a bad line
pub worst_line : (topology : Topology) (progress : Progress) (line : List ℕ) (fault : JournalFault)
    → ((t : Topology) → IsOf t progress → read.Bad fault ≡ read_as (line_in (jobs_after t (steps_in progress)) (length (steps_in progress)) line))
    → IsOf topology progress → (lines : List (List ℕ)) → lines_in unjudged topology (steps_in progress) (line ∷ lines) ≡ bad_line (line_after (steps_in progress)) fault
worst_line topology progress line fault is of lines = one_bad topology (steps_in progress) line lines fault (is topology of)

-- ---- lines

-- what is left spells the same
pub same_on : (topology : Topology) (before : History) (next : Progress) (front rest more text : List ℕ) → lines_of rest ≡ front ∷ lines_of more → GoesOn topology before front next
    → lines_in unjudged topology before (lines_of rest) ≡ lines_in unjudged topology [] (lines_of text) → lines_in unjudged topology (steps_in next) (lines_of more) ≡ lines_in unjudged topology [] (lines_of text)
same_on topology before next front rest more text first goes so_far =
    sym (goes.same (lines_of more)) ∙ (ap (lines_in unjudged topology before) (sym first) ∙ so_far)

-- the journal was read
pub done_on : (topology : Topology) (before journal : History) (front rest more text : List ℕ) → lines_of rest ≡ front ∷ lines_of more
    → ((lines : List (List ℕ)) → lines_in unjudged topology before (front ∷ lines) ≡ Ok journal)
    → lines_in unjudged topology before (lines_of rest) ≡ lines_in unjudged topology [] (lines_of text) → lines_in unjudged topology [] (lines_of text) ≡ Ok journal
done_on topology before journal front rest more text first done so_far = sym so_far ∙ (ap (lines_in unjudged topology before) first ∙ done (lines_of more))

-- the line is bad
pub bad_on : (topology : Topology) (before : History) (line : ℕ) (fault : JournalFault) (front rest more text : List ℕ) → lines_of rest ≡ front ∷ lines_of more
    → (fault ≢ OutOfMemory → (lines : List (List ℕ)) → lines_in unjudged topology before (front ∷ lines) ≡ bad_line (line_after before) fault) → line ≡ line_after before
    → lines_in unjudged topology before (lines_of rest) ≡ lines_in unjudged topology [] (lines_of text) → fault ≢ OutOfMemory → lines_in unjudged topology [] (lines_of text) ≡ Err (line, fault)
bad_on topology before line fault front rest more text first bad at so_far other =
    sym so_far ∙ (ap (lines_in unjudged topology before) first ∙ (bad other (lines_of more) ∙ ap (λ (n : ℕ). bad_line n fault) (sym at)))

-- no line is left
pub none_on : (topology : Topology) (before : History) (line : ℕ) (rest text : List ℕ) → lines_of rest ≡ [] → line ≡ line_after before
    → lines_in unjudged topology before (lines_of rest) ≡ lines_in unjudged topology [] (lines_of text) → lines_in unjudged topology [] (lines_of text) ≡ Err (line, End)
none_on topology before line rest text none at so_far = sym so_far ∙ (ap (lines_in unjudged topology before) none ∙ ap (λ (n : ℕ). bad_line n End) (sym at))

-- ---- the end line

pub end_found : (number : List ℕ) (steps : ℕ) (b : Bool) → steps < 2 ^ 64 → b ≡ bytes_eq number (decimal steps) → b ≡ true → read.End ≡ read_as (end_in steps (slice_split (is_at 32) number))
end_found number steps b small told holds =
    let same : bytes_eq number (decimal steps) ≡ true = sym told ∙ holds in
    let text : number ≡ decimal steps = (bytes_eq-Decides number (decimal steps)).0 same in
    let one : slice_split (is_at 32) number ≡ number ∷ [] =
    ap (slice_split (is_at 32)) text ∙ (split_none 32 (decimal steps) (plain_lacks 32 (lit< tt) (decimal steps) (decimal_plain steps small)) ∙ ap (λ (x : List ℕ). x ∷ []) (sym text)) in
    sym (ap (λ (ws : List (List ℕ)). read_as (end_in steps ws)) one ∙ ap (λ (c : Bool). read_as (cond c EndLine BadEnd)) same)

pub end_other : (number : List ℕ) (steps : ℕ) (b : Bool) → b ≡ bytes_eq number (decimal steps) → b ≡ false → read.Bad End ≡ read_as (end_in steps (slice_split (is_at 32) number))
end_other number steps b told fails = by (slice_split (is_at 32) number) refl
  where
    by : (ws : List (List ℕ)) → slice_split (is_at 32) number ≡ ws → read.Bad End ≡ read_as (end_in steps ws)
    by [] split = refl
    by (w ∷ v ∷ ws) split = refl
    by (w ∷ []) split =
        let text : w ≡ number = ap (join_with_byte 32) (sym split) ∙ join_with_byte-slice_split 32 number in
        let other : bytes_eq w (decimal steps) ≡ false = ap (λ (x : List ℕ). bytes_eq x (decimal steps)) text ∙ (sym told ∙ fails) in
        sym (ap (λ (c : Bool). read_as (cond c EndLine BadEnd)) other)

-- a line whose first word is that of the end line
pub end_word : (jobs : Jobs) (steps : ℕ) (line first : List ℕ) (others : List (List ℕ)) (b : Bool) (result : LineRead) → slice_split (is_at 32) line ≡ first ∷ others → b ≡ bytes_eq first (codes "end") → b ≡ true
    → result ≡ read_as (end_in steps others) → result ≡ read_as (line_in jobs steps line)
unfolding line_in
end_word jobs steps line first others b result split told holds is =
    is
    ∙ sym (ap (λ (ws : List (List ℕ)). read_as (spelt_by jobs steps line ws)) split
    ∙ ap (λ (c : Bool). read_as (cond c (end_in steps others) (step_or_fault (step_in jobs line)))) (sym told ∙ holds))

-- and one whose first word is another
pub other_word : (jobs : Jobs) (steps : ℕ) (line first : List ℕ) (others : List (List ℕ)) (b : Bool) (result : Result LineRead AllocError) → slice_split (is_at 32) line ≡ first ∷ others → b ≡ bytes_eq first (codes "end") → b ≡ false
    → IfOk result (λ read. read ≡ read_as (step_or_fault (step_in jobs line))) → IfOk result (λ read. read ≡ read_as (line_in jobs steps line))
unfolding line_in
other_word jobs steps line first others b (Err e) split told fails is = tt
other_word jobs steps line first others b (Ok result) split told fails is =
    is
    ∙ sym (ap (λ (ws : List (List ℕ)). read_as (spelt_by jobs steps line ws)) split
    ∙ ap (λ (c : Bool). read_as (cond c (end_in steps others) (step_or_fault (step_in jobs line)))) (sym told ∙ fails))

-- ---- from the results of the calls

abbrev ok_next : Next → Result Next JournalFault
ok_next x = Ok x

abbrev ok_read : LineRead → Result LineRead AllocError
ok_read x = Ok x

pub read_from : (result : Result LineRead AllocError) (field read spelt : LineRead) → result ≡ ok_read field → field ≡ read → IfOk result (λ x. x ≡ spelt) → read ≡ spelt
read_from result field read spelt a b is = subst (λ (r : Result LineRead AllocError). IfOk r (λ x. x ≡ spelt)) (a ∙ ap ok_read b) is

pub goes_from : (topology : Topology) (before : History) (line : List ℕ) (result : Result Next JournalFault) (field : Next) (next : Progress) → result ≡ ok_next field → field ≡ More next → ReadsOne topology before line result → GoesOn topology before line next
goes_from topology before line result field next a b is = subst (ReadsOne topology before line) (a ∙ ap ok_next b) is

pub done_from : (topology : Topology) (before : History) (line : List ℕ) (result : Result Next JournalFault) (field : Next) (journal : Recorded) → result ≡ ok_next field → field ≡ Done journal → ReadsOne topology before line result
    → (lines : List (List ℕ)) → lines_in unjudged topology before (line ∷ lines) ≡ Ok journal.steps
done_from topology before line result field journal a b is = subst (ReadsOne topology before line) (a ∙ ap ok_next b) is

pub legal_next : (topology : Topology) (progress : Progress) (run : RunSeen) (seen : History) (steps : ℕ) (line : List ℕ) (result : Result LineRead AllocError) → progress ≡ Legal run
    → IfOk result (λ read. read ≡ read_as (line_in (named_at run.topology run.steps) steps line)) → steps ≡ length seen → seen ≡ run.steps → is_legal run.topology run.steps ≡ true → IsOf topology progress
    → IfOk result (λ read. read ≡ read_as (line_in (jobs_after topology (steps_in progress)) (length (steps_in progress)) line))
legal_next topology progress run seen steps line result is read count same legal of =
    subst (λ (p : Progress). IfOk result (λ read. read ≡ read_as (line_in (jobs_after topology (steps_in p)) (length (steps_in p)) line))) (sym is)
    (legal_line topology run seen steps line result read count same legal (subst (IsOf topology) is of))

-- ---- the header

pub header_read : (topology : Topology) (front rest : List ℕ) (b : Bool) (result : Result Recorded JournalRefusal) → b ≡ bytes_eq front header → b ≡ true → Answers result (lines_in unjudged topology [] (lines_of rest))
    → Answers result (after_header unjudged topology (front ∷ lines_of rest))
header_read topology front rest b result told holds is =
    subst (Answers result) (sym (ap (λ (c : Bool). cond c (lines_in unjudged topology [] (lines_of rest)) (bad_line 1 Header)) (sym told ∙ holds))) is

pub header_bad : (topology : Topology) (front rest : List ℕ) (b : Bool) (line : ℕ) (fault : JournalFault) → b ≡ bytes_eq front header → b ≡ false → line ≡ 1 → fault ≡ Header
    → after_header unjudged topology (front ∷ lines_of rest) ≡ bad_line line fault
header_bad topology front rest b line fault told fails one is =
    ap (λ (c : Bool). cond c (lines_in unjudged topology [] (lines_of rest)) (bad_line 1 Header)) (sym told ∙ fails)
    ∙ (ap (λ (n : ℕ). bad_line n Header) (sym one) ∙ ap (bad_line line) (sym is))

pub header_first : (topology : Topology) (bytes front rest : List ℕ) (result : Result Recorded JournalRefusal) → lines_of bytes ≡ front ∷ lines_of rest → Answers result (after_header unjudged topology (front ∷ lines_of rest))
    → Answers result (text_in unjudged topology bytes)
unfolding text_in
header_first topology bytes front rest result first is = subst (Answers result) (ap (after_header unjudged topology) (sym first)) is

pub header_none : (topology : Topology) (bytes : List ℕ) (line : ℕ) (fault : JournalFault) → lines_of bytes ≡ [] → line ≡ 1 → fault ≡ Header → text_in unjudged topology bytes ≡ bad_line line fault
unfolding text_in
header_none topology bytes line fault none one is = ap (after_header unjudged topology) none ∙ (ap (λ (n : ℕ). bad_line n Header) (sym one) ∙ ap (bad_line line) (sym is))
