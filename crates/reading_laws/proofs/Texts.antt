-- The text of a legal journal spells that journal, whatever stands behind it.
use Rattle.std.proofs.Common.{◌≡◌, ℕ, ◌+◌, Bool, true, false, List, [], ◌∷◌, ◌++◌, length, reverse, Option, None, Ok, Err, refl, ap, sym, ◌∙◌, subst, append_assoc, lit<}
use Rattle.std.specs.Prelude.{decimal, codes, if◌then◌else◌, bytes_eq, cond}
use Rattle.std.specs.List.{flat_map, slice_split, onto_first}
use Rattle.std.proofs.lemmas.List.{append-nil, reverse-append, length-reverse}
use Rattle.std.proofs.lemmas.List.Concat.{flat_map-append}
use Rattle.std.proofs.lemmas.Slice.Eq.{bytes_eq-Decides}
use Rattle.pipe_types.specs.declared.step.Step.{Step}
use Rattle.pipe_types.specs.declared.topology.Topology.{Topology}
use Rattle.pipe_model.specs.History.{History}
use Rattle.pipe_model.specs.Legal.{is_legal}
use Rattle.pipe_laws.proofs.Allowed.{legal_before}
use Rattle.line_reading.specs.declared.fault.Fault.TheVariants.{Word}
use Rattle.line_reading.specs.Reading.{is_at}
use Rattle.line_reading.specs.Lines.{Jobs, by_first, rows, rows_of_numbers, rows_of_one, rows_of_words, rows_of_lists, step_in}
use Rattle.line_reading.specs.Spelling.{IsLong, IsSpelt}
use Rattle.line_reading.proofs.Spelt.{Lacks, lacks, split_none, split_at, decimal_plain}
use Rattle.line_reading.proofs.ItemsAgain.{long_small, plain_lacks}
use Rattle.line_reading.proofs.Again.{step_again}
use Rattle.journal_texts.specs.Words.{lf, words}
use Rattle.journal_texts.specs.Steps.{step_text, step_line, journal_text}
use Rattle.reading_laws.specs.Fields.{AreHeld, IsCountable}
use Rattle.reading_laws.specs.Named.{named_at}
use Rattle.reading_laws.specs.Text.{LineSpelt, StepLine, EndLine, BadEnd, step_or_fault, end_in, spelt_by, line_in, but_last, lines_of, Causes, no_jobs, jobs_after, line_after, unless_bad, on_line, lines_in, header, after_header, text_in}
use Rattle.reading_laws.proofs.Legal.{legal_spelt}
use Rattle.reading_laws.proofs.Visible.{no_line_end, one_line, words_visible}

-- ---- lines of a text

pub split_some : (p : ℕ → Bool) (text : List ℕ) → (part : List ℕ) × (parts : List (List ℕ)) × (slice_split p text ≡ part ∷ parts)
split_some p [] = ([], [], refl)
split_some p (b ∷ bs) = by (p b) (split_some p bs)
  where
    by : (t : Bool) → (part : List ℕ) × (parts : List (List ℕ)) × (slice_split p bs ≡ part ∷ parts)
        → (part : List ℕ) × (parts : List (List ℕ)) × (cond t ([] ∷ slice_split p bs) (onto_first b (slice_split p bs)) ≡ part ∷ parts)
    by true more = ([], slice_split p bs, refl)
    by false more = (b ∷ more.0, more.1, ap (onto_first b) more.2)

-- the first line of a text and the lines behind it
pub first_line : (line rest : List ℕ) → Lacks 10 line → lines_of (line ++ 10 ∷ rest) ≡ line ∷ lines_of rest
first_line line rest h =
    let more = split_some (is_at 10) rest in
    ap but_last (split_at 10 line rest h) ∙ (ap (λ (parts : List (List ℕ)). but_last (line ∷ parts)) more.2 ∙ ap (λ (parts : List (List ℕ)). line ∷ but_last parts) (sym more.2))

-- ---- one line

-- a line that is read as a step is no end line
pub step_line_is : (jobs : Jobs) (steps : ℕ) (line : List ℕ) (step : Step) → step_in jobs line ≡ Ok step → line_in jobs steps line ≡ StepLine step
unfolding line_in rows rows_of_numbers rows_of_one rows_of_words rows_of_lists
step_line_is jobs steps line step is = by (slice_split (is_at 32) line) refl
  where
    by : (ws : List (List ℕ)) → slice_split (is_at 32) line ≡ ws → spelt_by jobs steps line ws ≡ StepLine step
    by [] e = ap step_or_fault is
    by (w ∷ ws) e = by_word (bytes_eq w (codes "end")) refl
      where
        by_word : (b : Bool) → bytes_eq w (codes "end") ≡ b → (if b then end_in steps ws else step_or_fault (step_in jobs line)) ≡ StepLine step
        by_word false other = ap step_or_fault is
        by_word true same =
            let word : w ≡ codes "end" = (bytes_eq-Decides w (codes "end")).0 same in
            let none : step_in jobs line ≡ Err Word = ap (by_first Word (rows jobs)) (e ∙ ap (λ (v : List ℕ). v ∷ ws) word) in
            absurd (let no = sym none ∙ is in cc)

-- the end line behind so many steps
abbrev pub end_line : ℕ → List ℕ
end_line steps = words (codes "end") (steps ∷ [])

pub end_line_is : (jobs : Jobs) (steps : ℕ) → IsLong steps → line_in jobs steps (end_line steps) ≡ EndLine
unfolding line_in
end_line_is jobs steps fits =
    let number : slice_split (is_at 32) (decimal steps ++ []) ≡ decimal steps ∷ [] = rw append-nil (split_none 32 (decimal steps) (plain_lacks 32 (lit< tt) (decimal steps) (decimal_plain steps (long_small steps fits)))) in
    let split : slice_split (is_at 32) (end_line steps) ≡ codes "end" ∷ (decimal steps ∷ []) =
    split_at 32 (codes "end") (decimal steps ++ []) (lacks 32 (codes "end") refl) ∙ ap (λ (ws : List (List ℕ)). codes "end" ∷ ws) number in
    let same : bytes_eq (decimal steps) (decimal steps) ≡ true = (bytes_eq-Decides (decimal steps) (decimal steps)).1 refl in
    ap (spelt_by jobs steps (end_line steps)) split ∙ ap (λ (b : Bool). if b then EndLine else BadEnd) same

-- ---- the lines of a journal

jobs_legal : (topology : Topology) (before : History) → is_legal topology before ≡ true → jobs_after topology before ≡ named_at topology before
unfolding jobs_after
jobs_legal topology before h = ap (λ (b : Bool). if b then named_at topology before else no_jobs) h

pub lines_by : {C : Type 0} (causes : Causes C) (topology : Topology) (before : History) (line : List ℕ) (lines : List (List ℕ)) (spelt : LineSpelt) → line_in (jobs_after topology before) (length before) line ≡ spelt
    → lines_in causes topology before (line ∷ lines) ≡ on_line causes topology before (λ step. lines_in causes topology (step ∷ before) lines) spelt
lines_by causes topology before line lines spelt is = ap (on_line causes topology before (λ step. lines_in causes topology (step ∷ before) lines)) is

-- reading comes to the journal and what stands behind its steps
steps_read : {C : Type 0} (causes : Causes C) → causes.judge true ≡ None → (topology : Topology) (before : History) (rest : List ℕ) → is_legal topology before ≡ true → AreHeld before
    → lines_in causes topology [] (lines_of (flat_map step_line (reverse before) ++ rest)) ≡ lines_in causes topology before (lines_of rest)
steps_read causes calm topology [] rest h held = refl
steps_read {C} causes calm topology (step ∷ before) rest h held =
    let legal = legal_before topology before step h in
    let spelt : IsSpelt (named_at topology before) step = legal_spelt topology before step h held.0 in
    let turned : flat_map step_line (reverse (step ∷ before)) ≡ flat_map step_line (reverse before) ++ step_line step =
    ap (flat_map step_line) (reverse-append (step ∷ []) before) ∙ (flat_map-append step_line (reverse before) (step ∷ []) ∙ ap (λ (text : List ℕ). flat_map step_line (reverse before) ++ text) (append-nil (step_line step))) in
    let text : flat_map step_line (reverse (step ∷ before)) ++ rest ≡ flat_map step_line (reverse before) ++ (step_text step ++ 10 ∷ rest) =
    ap (λ (front : List ℕ). front ++ rest) turned ∙ regrouped (flat_map step_line (reverse before)) (step_text step) rest in
    let again = steps_read causes calm topology before (step_text step ++ 10 ∷ rest) legal held.1 in
    let line : lines_of (step_text step ++ 10 ∷ rest) ≡ step_text step ∷ lines_of rest = first_line (step_text step) rest (one_line (named_at topology before) step spelt) in
    let is : line_in (jobs_after topology before) (length before) (step_text step) ≡ StepLine step =
    ap (λ (jobs : Jobs). line_in jobs (length before) (step_text step)) (jobs_legal topology before legal)
    ∙ step_line_is (named_at topology before) (length before) (step_text step) step (step_again (named_at topology before) step spelt) in
    let judged : causes.judge (is_legal topology (step ∷ before)) ≡ None = ap causes.judge h ∙ calm in
    ap (λ (t : List ℕ). lines_in causes topology [] (lines_of t)) text
    ∙ (again
    ∙ (ap (lines_in causes topology before) line
    ∙ (lines_by causes topology before (step_text step) (lines_of rest) (StepLine step) is
    ∙ ap (λ (o : Option C). unless_bad o (line_after before) (lines_in causes topology (step ∷ before) (lines_of rest))) judged)))
  where
    regrouped : (front line rest : List ℕ) → (front ++ (line ++ lf)) ++ rest ≡ front ++ (line ++ 10 ∷ rest)
    regrouped front line rest = append_assoc front (line ++ lf) rest ∙ ap (λ (t : List ℕ). front ++ t) (append_assoc line lf rest)

-- ---- the text

-- the text of a journal and what stands behind it, line by line
pub whole_text : (journal : History) (behind : List ℕ) → journal_text journal ++ behind ≡ header ++ 10 ∷ (flat_map step_line (reverse journal) ++ (end_line (length (reverse journal)) ++ 10 ∷ behind))
whole_text journal behind = regrouped (codes "journal 1") (flat_map step_line (reverse journal)) (end_line (length (reverse journal))) behind
  where
    regrouped : (a b c d : List ℕ) → (a ++ lf ++ b ++ c ++ lf) ++ d ≡ a ++ 10 ∷ (b ++ (c ++ 10 ∷ d))
    regrouped a b c d = simp append_assoc

pub text_again : {C : Type 0} (causes : Causes C) → causes.judge true ≡ None → (topology : Topology) (before : History) (behind : List ℕ) → is_legal topology before ≡ true → AreHeld before → IsCountable before
    → text_in causes topology (journal_text before ++ behind) ≡ Ok before
unfolding text_in
text_again causes calm topology before behind h held few =
    let count : length (reverse before) ≡ length before = length-reverse before in
    let fits : IsLong (length (reverse before)) = subst IsLong (sym count) few in
    let first : lines_of (header ++ 10 ∷ (flat_map step_line (reverse before) ++ (end_line (length (reverse before)) ++ 10 ∷ behind)))
    ≡ header ∷ lines_of (flat_map step_line (reverse before) ++ (end_line (length (reverse before)) ++ 10 ∷ behind)) =
    first_line header (flat_map step_line (reverse before) ++ (end_line (length (reverse before)) ++ 10 ∷ behind)) (lacks 10 header refl) in
    let last : lines_of (end_line (length (reverse before)) ++ 10 ∷ behind) ≡ end_line (length (reverse before)) ∷ lines_of behind =
    first_line (end_line (length (reverse before))) behind (no_line_end (end_line (length (reverse before))) (words_visible (codes "end") (length (reverse before) ∷ []) refl (long_small (length (reverse before)) fits, tt))) in
    let is : line_in (jobs_after topology before) (length before) (end_line (length (reverse before))) ≡ EndLine =
    ap (λ (n : ℕ). line_in (jobs_after topology before) (length before) (end_line n)) count ∙ end_line_is (jobs_after topology before) (length before) few in
    ap (λ (t : List ℕ). after_header causes topology (lines_of t)) (whole_text before behind)
    ∙ (ap (after_header causes topology) first
    ∙ (steps_read causes calm topology before (end_line (length (reverse before)) ++ 10 ∷ behind) h held
    ∙ (ap (lines_in causes topology before) last
    ∙ lines_by causes topology before (end_line (length (reverse before))) (lines_of behind) EndLine is)))
