-- What is read is the text of what is answered.
use Rattle.std.proofs.Common.{◌≡◌, ℕ, Bool, true, false, cond, List, [], ◌∷◌, ◌++◌, length, reverse, Option, Some, None, Result, Ok, Err, refl, ap, sym, ◌∙◌, append_assoc}
use Rattle.std.specs.Prelude.{decimal, codes, if◌then◌else◌, ◌==◌, bytes_eq}
use Rattle.std.specs.List.{flat_map, slice_split, onto_first, join_with_byte}
use Rattle.std.proofs.lemmas.Bool.{eqb-true}
use Rattle.std.proofs.lemmas.List.{append-nil, reverse-append, length-reverse}
use Rattle.std.proofs.lemmas.List.Concat.{flat_map-append}
use Rattle.std.proofs.lemmas.List.Splits.{join_with_byte-slice_split}
use Rattle.std.proofs.lemmas.Slice.Eq.{bytes_eq-Decides}
use Rattle.pipe_types.specs.declared.step.Step.{Step}
use Rattle.pipe_types.specs.declared.topology.Topology.{Topology}
use Rattle.pipe_model.specs.History.{History}
use Rattle.pipe_model.specs.Legal.{is_legal}
use Rattle.line_reading.specs.declared.fault.Fault.{Fault}
use Rattle.line_reading.specs.Reading.{is_at}
use Rattle.line_reading.specs.Lines.{Jobs, step_in}
use Rattle.line_reading.proofs.Back.{step_spelt}
use Rattle.journal_texts.specs.Words.{lf}
use Rattle.journal_texts.specs.Steps.{step_text, step_line}
use Rattle.reading_laws.specs.Text.{LineSpelt, StepLine, EndLine, BadEnd, BadStep, step_or_fault, end_in, spelt_by, line_in, but_last, lines_of, Causes, jobs_after, line_after, bad_line, unless_bad, on_line, lines_in, header, after_header, text_in, IsTextOf}
use Rattle.reading_laws.proofs.Texts.{split_some, end_line, whole_text}

-- ---- lines

-- what the first line of a text says of the text
record IsFirstLine (text line : List ℕ) (lines : List (List ℕ)) : Type 0 where
  rest : List ℕ
  whole : text ≡ line ++ 10 ∷ rest
  behind : lines_of rest ≡ lines

record IsFirstPart (text part next : List ℕ) (parts : List (List ℕ)) : Type 0 where
  rest : List ℕ
  whole : text ≡ part ++ 10 ∷ rest
  behind : slice_split (is_at 10) rest ≡ next ∷ parts

head_is : {A : Type 0} (x y : A) (xs ys : List A) → x ∷ xs ≡ y ∷ ys → x ≡ y
head_is x y xs ys e = cc

tail_is : {A : Type 0} (x y : A) (xs ys : List A) → x ∷ xs ≡ y ∷ ys → xs ≡ ys
tail_is x y xs ys e = cc

first_part : (text part next : List ℕ) (parts : List (List ℕ)) → slice_split (is_at 10) text ≡ part ∷ next ∷ parts → IsFirstPart text part next parts
first_part [] part next parts e = absurd cc
first_part (b ∷ bs) part next parts e = by (b == 10) refl e (λ q k. first_part bs q next parts k)
  where
    by_rest : (p : List ℕ) (ps : List (List ℕ)) → slice_split (is_at 10) bs ≡ p ∷ ps → (b ∷ p) ∷ ps ≡ part ∷ next ∷ parts → ((q : List ℕ) → slice_split (is_at 10) bs ≡ q ∷ next ∷ parts → IsFirstPart bs q next parts) → IsFirstPart (b ∷ bs) part next parts
    by_rest p ps split e more =
        let front : b ∷ p ≡ part = head_is (b ∷ p) part ps (next ∷ parts) e in
        let back : ps ≡ next ∷ parts = tail_is (b ∷ p) part ps (next ∷ parts) e in
        let one = more p (split ∙ ap (λ (xs : List (List ℕ)). p ∷ xs) back) in
        record { rest = one.rest; whole = ap (λ (xs : List ℕ). b ∷ xs) one.whole ∙ ap (λ (xs : List ℕ). xs ++ 10 ∷ one.rest) front; behind = one.behind }

    by : (t : Bool) → (b == 10) ≡ t → cond t ([] ∷ slice_split (is_at 10) bs) (onto_first b (slice_split (is_at 10) bs)) ≡ part ∷ next ∷ parts
        → ((q : List ℕ) → slice_split (is_at 10) bs ≡ q ∷ next ∷ parts → IsFirstPart bs q next parts) → IsFirstPart (b ∷ bs) part next parts
    by true is e more =
        let front : [] ≡ part = head_is [] part (slice_split (is_at 10) bs) (next ∷ parts) e in
        record {
          rest = bs;
          whole = ap (λ (c : ℕ). c ∷ bs) (eqb-true b 10 is) ∙ ap (λ (xs : List ℕ). xs ++ 10 ∷ bs) front;
          behind = tail_is [] part (slice_split (is_at 10) bs) (next ∷ parts) e;
        }
    by false is e more =
        let some = split_some (is_at 10) bs in
        by_rest some.0 some.1 some.2 (sym (ap (onto_first b) some.2) ∙ e) more

first_of : (text line : List ℕ) (lines : List (List ℕ)) → lines_of text ≡ line ∷ lines → IsFirstLine text line lines
first_of text line lines e = by (slice_split (is_at 10) text) refl e
  where
    by : (parts : List (List ℕ)) → slice_split (is_at 10) text ≡ parts → but_last parts ≡ line ∷ lines → IsFirstLine text line lines
    by [] is e = absurd cc
    by (p ∷ []) is e = absurd cc
    by (p ∷ q ∷ parts) is e =
        let one = first_part text p q parts is in
        let front : p ≡ line = head_is p line (but_last (q ∷ parts)) lines e in
        record {
          rest = one.rest;
          whole = one.whole ∙ ap (λ (xs : List ℕ). xs ++ 10 ∷ one.rest) front;
          behind = ap but_last one.behind ∙ tail_is p line (but_last (q ∷ parts)) lines e;
        }

-- ---- one line

step_of_line : (r : Result Step Fault) (step : Step) → step_or_fault r ≡ StepLine step → r ≡ Ok step
step_of_line (Ok s) step e = let same : s ≡ step = cc in ap (λ (x : Step). Ok x) same
step_of_line (Err f) step e = absurd cc

end_of_line : (r : Result Step Fault) → step_or_fault r ≡ EndLine → ⊥
end_of_line (Ok s) e = cc
end_of_line (Err f) e = cc

step_line_spells : (jobs : Jobs) (steps : ℕ) (line : List ℕ) (step : Step) → line_in jobs steps line ≡ StepLine step → line ≡ step_text step
unfolding line_in
step_line_spells jobs steps line step e = by (slice_split (is_at 32) line) e
  where
    read : step_in jobs line ≡ Ok step → line ≡ step_text step
    read is = (step_spelt jobs line step is).0

    by_end : (ws : List (List ℕ)) → end_in steps ws ≡ StepLine step → ⊥
    by_end [] e = cc
    by_end (w ∷ []) e = by_number (bytes_eq w (decimal steps)) e
      where
        by_number : (b : Bool) → (if b then EndLine else BadEnd) ≡ StepLine step → ⊥
        by_number true e = cc
        by_number false e = cc
    by_end (w ∷ v ∷ ws) e = cc

    by_word : (b : Bool) (ws : List (List ℕ)) → (if b then end_in steps ws else step_or_fault (step_in jobs line)) ≡ StepLine step → line ≡ step_text step
    by_word true ws e = absurd (by_end ws e)
    by_word false ws e = read (step_of_line (step_in jobs line) step e)

    by : (ws : List (List ℕ)) → spelt_by jobs steps line ws ≡ StepLine step → line ≡ step_text step
    by [] e = read (step_of_line (step_in jobs line) step e)
    by (w ∷ ws) e = by_word (bytes_eq w (codes "end")) ws e

end_line_spells : (jobs : Jobs) (steps : ℕ) (line : List ℕ) → line_in jobs steps line ≡ EndLine → line ≡ end_line steps
unfolding line_in
end_line_spells jobs steps line e = by (slice_split (is_at 32) line) refl e
  where
    by_number : (w v : List ℕ) (b : Bool) → bytes_eq v (decimal steps) ≡ b → w ≡ codes "end" → slice_split (is_at 32) line ≡ w ∷ v ∷ [] → (if b then EndLine else BadEnd) ≡ EndLine → line ≡ end_line steps
    by_number w v false is word split e = absurd cc
    by_number w v true is word split e =
        let number : v ≡ decimal steps = (bytes_eq-Decides v (decimal steps)).0 is in
        sym (join_with_byte-slice_split 32 line)
        ∙ (ap (join_with_byte 32) (split ∙ (ap (λ (x : List ℕ). x ∷ v ∷ []) word ∙ ap (λ (x : List ℕ). codes "end" ∷ x ∷ []) number))
        ∙ ap (λ (x : List ℕ). codes "end" ++ 32 ∷ x) (sym (append-nil (decimal steps))))

    by_words : (w : List ℕ) (ws : List (List ℕ)) → w ≡ codes "end" → slice_split (is_at 32) line ≡ w ∷ ws → end_in steps ws ≡ EndLine → line ≡ end_line steps
    by_words w [] word split e = absurd cc
    by_words w (v ∷ []) word split e = by_number w v (bytes_eq v (decimal steps)) refl word split e
    by_words w (v ∷ u ∷ ws) word split e = absurd cc

    by_word : (w : List ℕ) (ws : List (List ℕ)) (b : Bool) → bytes_eq w (codes "end") ≡ b → slice_split (is_at 32) line ≡ w ∷ ws → (if b then end_in steps ws else step_or_fault (step_in jobs line)) ≡ EndLine → line ≡ end_line steps
    by_word w ws true is split e = by_words w ws ((bytes_eq-Decides w (codes "end")).0 is) split e
    by_word w ws false is split e = absurd (end_of_line (step_in jobs line) e)

    by : (ws : List (List ℕ)) → slice_split (is_at 32) line ≡ ws → spelt_by jobs steps line ws ≡ EndLine → line ≡ end_line steps
    by [] split e = absurd (end_of_line (step_in jobs line) e)
    by (w ∷ ws) split e = by_word w ws (bytes_eq w (codes "end")) refl split e

-- ---- lines

-- the lines of these steps, which were read, the text that is left, and what that comes to
record IsTextFrom (before journal : History) (rest : List ℕ) : Type 0 where
  behind : List ℕ
  text : flat_map step_line (reverse before) ++ rest ≡ flat_map step_line (reverse journal) ++ (end_line (length journal) ++ 10 ∷ behind)

turned : (step : Step) (before : History) (rest : List ℕ) → flat_map step_line (reverse (step ∷ before)) ++ rest ≡ flat_map step_line (reverse before) ++ (step_text step ++ 10 ∷ rest)
turned step before rest =
    ap (λ (front : List ℕ). front ++ rest)
    (ap (flat_map step_line) (reverse-append (step ∷ []) before) ∙ (flat_map-append step_line (reverse before) (step ∷ []) ∙ ap (λ (text : List ℕ). flat_map step_line (reverse before) ++ text) (append-nil (step_line step))))
    ∙ (append_assoc (flat_map step_line (reverse before)) (step_text step ++ lf) rest ∙ ap (λ (t : List ℕ). flat_map step_line (reverse before) ++ t) (append_assoc (step_text step) lf rest))

lines_found : {C : Type 0} (causes : Causes C) (topology : Topology) (lines : List (List ℕ)) (before : History) (rest : List ℕ) (journal : History) → lines_of rest ≡ lines → lines_in causes topology before lines ≡ Ok journal → IsTextFrom before journal rest
lines_found causes topology [] before rest journal split e = absurd cc
lines_found {C} causes topology (line ∷ lines) before rest journal split e =
    by (line_in (jobs_after topology before) (length before) line) refl e (λ step text. lines_found causes topology lines (step ∷ before) (first_of rest line lines split).rest journal (first_of rest line lines split).behind text)
  where
    first : IsFirstLine rest line lines
    first = first_of rest line lines split

    judged : (o : Option C) (step : Step) → unless_bad o (line_after before) (lines_in causes topology (step ∷ before) lines) ≡ Ok journal → lines_in causes topology (step ∷ before) lines ≡ Ok journal
    judged None step e = e
    judged (Some c) step e = absurd cc

    by : (spelt : LineSpelt) → line_in (jobs_after topology before) (length before) line ≡ spelt
        → on_line causes topology before (λ step. lines_in causes topology (step ∷ before) lines) spelt ≡ Ok journal
        → ((step : Step) → lines_in causes topology (step ∷ before) lines ≡ Ok journal → IsTextFrom (step ∷ before) journal (first_of rest line lines split).rest) → IsTextFrom before journal rest
    by EndLine is e more =
        let same : before ≡ journal = cc in
        let text : rest ≡ end_line (length before) ++ 10 ∷ first.rest = first.whole ∙ ap (λ (xs : List ℕ). xs ++ 10 ∷ first.rest) (end_line_spells (jobs_after topology before) (length before) line is) in
        record {
          behind = first.rest;
          text = ap (λ (xs : List ℕ). flat_map step_line (reverse before) ++ xs) text ∙ ap (λ (h : History). flat_map step_line (reverse h) ++ (end_line (length h) ++ 10 ∷ first.rest)) same;
        }
    by BadEnd is e more = absurd cc
    by (BadStep f) is e more = absurd cc
    by (StepLine step) is e more =
        let one = more step (judged (causes.judge (is_legal topology (step ∷ before))) step e) in
        let text : rest ≡ step_text step ++ 10 ∷ first.rest = first.whole ∙ ap (λ (xs : List ℕ). xs ++ 10 ∷ first.rest) (step_line_spells (jobs_after topology before) (length before) line step is) in
        record { behind = one.behind; text = ap (λ (xs : List ℕ). flat_map step_line (reverse before) ++ xs) text ∙ (sym (turned step before first.rest) ∙ one.text) }

-- ---- the text

pub text_found : {C : Type 0} (causes : Causes C) (topology : Topology) (text : List ℕ) (journal : History) → text_in causes topology text ≡ Ok journal → IsTextOf journal text
unfolding text_in
text_found {C} causes topology text journal e = by (lines_of text) refl e
  where
    by_line : (line : List ℕ) (lines : List (List ℕ)) (b : Bool) → bytes_eq line header ≡ b → lines_of text ≡ line ∷ lines
        → (if b then lines_in causes topology [] lines else bad_line 1 causes.header) ≡ Ok journal → IsTextOf journal text
    by_line line lines false is split e = absurd cc
    by_line line lines true is split e =
        let first = first_of text line lines split in
        let found = lines_found causes topology lines [] first.rest journal first.behind e in
        let head : line ≡ header = (bytes_eq-Decides line header).0 is in
        let count : length (reverse journal) ≡ length journal = length-reverse journal in
        record {
          behind = found.behind;
          whole =
              first.whole
              ∙ (ap (λ (xs : List ℕ). xs ++ 10 ∷ first.rest) head
              ∙ (ap (λ (xs : List ℕ). header ++ 10 ∷ xs) found.text
              ∙ (ap (λ (n : ℕ). header ++ 10 ∷ (flat_map step_line (reverse journal) ++ (end_line n ++ 10 ∷ found.behind))) (sym count)
              ∙ sym (whole_text journal found.behind))));
        }

    by : (lines : List (List ℕ)) → lines_of text ≡ lines → after_header causes topology lines ≡ Ok journal → IsTextOf journal text
    by [] split e = absurd cc
    by (line ∷ lines) split e = by_line line lines (bytes_eq line header) refl split e
