-- What an audit of a text in pieces comes to.
use Rattle.std.proofs.Common.{◌≡◌, ℕ, Bool, true, false, cond, List, [], ◌∷◌, ◌++◌, length, Err, refl, ap, sym, ◌∙◌, subst, append_assoc, arith}
use Rattle.std.specs.Prelude.{bytes_eq, ◌==◌}
use Rattle.std.specs.List.{slice_split, onto_first}
use Rattle.std.proofs.lemmas.List.{append-nil}
use Rattle.pipe_types.specs.declared.topology.Topology.{Topology}
use Rattle.pipe_types.specs.Sound.{IsSound}
use Rattle.pipe_model.specs.History.{History}
use Rattle.line_reading.specs.Reading.{is_at}
use Rattle.line_reading.proofs.Spelt.{Lacks, each_append, split_none}
use Rattle.reading_laws.specs.Text.{but_last, lines_of, line_after, lines_in, header, after_header, text_in}
use Rattle.reading_laws.proofs.Texts.{split_some, first_line}
use Rattle.journal_audit.specs.declared.verdict.BadCause.{BadCause}
use Rattle.journal_audit.specs.declared.verdict.BadCause.TheVariants as cause
use Rattle.journal_audit.specs.declared.verdict.Verdict.{Verdict}
use Rattle.journal_audit.specs.declared.verdict.Verdict.TheVariants.{Legal, Bad}
use Rattle.journal_audit.specs.declared.pieces.Progress.{Progress}
use Rattle.journal_audit.specs.declared.pieces.Progress.TheVariants.{Header, Steps, Found}
use Rattle.journal_audit.specs.declared.lines.LineFound.TheVariants.{Last, Bad as BadLine}
use Rattle.journal_audit.specs.Causes.{judged}
use Rattle.journal_audit.specs.Lines.{GoesOn, Finds}
use Rattle.journal_audit.specs.Verdicts.{summary_of, verdict_by, verdict_in, IsSaid}
use Rattle.journal_audit.specs.AuditSeen.{AuditSeen}
use Rattle.journal_audit.specs.Pieces.{header_leads, verdict_first, verdict_on, Audits, Leads, Takes}
use Rattle.journal_audit.proofs.Judging.{said_by}

-- ---- lines that have not ended

some_line : (line : List ℕ) (lines : List (List ℕ)) → line ∷ lines ≡ [] → ⊥
some_line line lines none = cc

-- parts that make a line more are not none
ended : (parts : List (List ℕ)) (part : List ℕ) (more : List (List ℕ)) → parts ≡ part ∷ more → but_last ([] ∷ parts) ≡ [] → ⊥
ended parts part more is none = some_line [] (but_last (part ∷ more)) (sym (ap (λ (ps : List (List ℕ)). but_last ([] ∷ ps)) is) ∙ none)

one_part : (b : ℕ) (part : List ℕ) (more : List (List ℕ)) → but_last ((b ∷ part) ∷ more) ≡ [] → but_last (part ∷ more) ≡ []
one_part b part [] none = refl
one_part b part (next ∷ more) none = absurd (some_line (b ∷ part) (but_last (next ∷ more)) none)

fewer : (b : ℕ) (parts : List (List ℕ)) (part : List ℕ) (more : List (List ℕ)) → parts ≡ part ∷ more → but_last (onto_first b parts) ≡ [] → but_last parts ≡ []
fewer b parts part more is none = ap but_last is ∙ one_part b part more (sym (ap (λ (ps : List (List ℕ)). but_last (onto_first b ps)) is) ∙ none)

-- a text without a line has no LF
lacks_of : (text : List ℕ) → lines_of text ≡ [] → Lacks 10 text
lacks_of [] none = tt
lacks_of (b ∷ bs) none = by (is_at 10 b) refl none (lacks_of bs)
  where
    by : (t : Bool) → is_at 10 b ≡ t → but_last (cond t ([] ∷ slice_split (is_at 10) bs) (onto_first b (slice_split (is_at 10) bs))) ≡ [] → (lines_of bs ≡ [] → Lacks 10 bs) → Lacks 10 (b ∷ bs)
    by true is none more = let some = split_some (is_at 10) bs in absurd (ended (slice_split (is_at 10) bs) some.0 some.1 some.2 none)
    by false is none more = let some = split_some (is_at 10) bs in (is, more (fewer b (slice_split (is_at 10) bs) some.0 some.1 some.2 none))

both_lack : (begun front : List ℕ) → lines_of begun ≡ [] → lines_of front ≡ [] → Lacks 10 (begun ++ front)
both_lack begun front a b = each_append (λ x. (x == 10) ≡ false) begun front (lacks_of begun a) (lacks_of front b)

-- what was begun goes on
pub unended_more : (begun front : List ℕ) → lines_of begun ≡ [] → lines_of front ≡ [] → lines_of (begun ++ front) ≡ []
unended_more begun front a b = ap but_last (split_none 10 (begun ++ front) (both_lack begun front a b))

-- what was begun ends with the first line of the piece
line_over : (begun front rest more : List ℕ) → lines_of begun ≡ [] → lines_of front ≡ [] → lines_of (begun ++ ((front ++ 10 ∷ rest) ++ more)) ≡ (begun ++ front) ∷ lines_of (rest ++ more)
line_over begun front rest more a b =
    ap lines_of (ap (λ (t : List ℕ). begun ++ t) (append_assoc front (10 ∷ rest) more) ∙ sym (append_assoc begun front (10 ∷ (rest ++ more))))
    ∙ first_line (begun ++ front) (rest ++ more) (both_lack begun front a b)

-- ---- one line

pub header_lead : (topology : Topology) (before : History) (line : List ℕ) → Leads topology before before Header line (header_leads line)
header_lead topology before line = record {
  same = λ lines. by lines (bytes_eq line header);
  few = omega arith;
}
  where
    by : (lines : List (List ℕ)) (b : Bool)
        → cond b (verdict_by topology (lines_in judged topology before lines)) (Bad 1 cause.Header) ≡ verdict_on topology before (cond b Steps (Found (Bad 1 cause.Header))) lines
    by lines true = refl
    by lines false = refl

pub step_lead : (topology : Topology) (before after : History) (line : List ℕ) → GoesOn topology before after line → Leads topology before after Steps line Steps
step_lead topology before after line goes = record {
  same = λ lines. ap (verdict_by topology) (goes.same lines);
  few = omega (arith, goes.more);
}

pub last_lead : (topology : Topology) (before after : History) (line : List ℕ) (verdict : Verdict) → verdict ≡ Legal (summary_of topology after) → Finds topology before after line Last → Leads topology before after Steps line (Found verdict)
last_lead topology before after line verdict is last = record {
  same = λ lines. ap (verdict_by topology) (last.1 lines) ∙ sym (is ∙ ap (λ (h : History). Legal (summary_of topology h)) last.0);
  few = omega (arith, ap length last.0);
}

pub bad_lead : (topology : Topology) (before after : History) (line : List ℕ) (number : ℕ) (c : BadCause) (verdict : Verdict) → verdict ≡ Bad number c → number ≡ line_after before → Finds topology before after line (BadLine c)
    → Leads topology before after Steps line (Found verdict)
bad_lead topology before after line number c verdict is at bad = record {
  same = λ lines. ap (verdict_by topology) (bad.1 lines) ∙ sym (is ∙ ap (λ (n : ℕ). Bad n c) at);
  few = omega (arith, ap length bad.0);
}

pub found_lead : (topology : Topology) (before : History) (line : List ℕ) (verdict : Verdict) → Leads topology before before (Found verdict) line (Found verdict)
found_lead topology before line verdict = record { same = λ lines. refl; few = omega arith }

-- ---- a piece

-- a line of it was judged
pub taken_line : (topology : Topology) (before after : History) (progress next : Progress) (begun begun' front rest more : List ℕ) (verdict : List ℕ → Verdict) → rest ≡ front ++ 10 ∷ more → lines_of begun ≡ [] → lines_of front ≡ [] → begun' ≡ []
    → Leads topology before after progress (begun ++ front) next
    → ((behind : List ℕ) → verdict_on topology before progress (lines_of (begun ++ (rest ++ behind))) ≡ verdict behind)
    → (behind : List ℕ) → verdict_on topology after next (lines_of (begun' ++ (more ++ behind))) ≡ verdict behind
taken_line topology before after progress next begun begun' front rest more verdict parts a b none leads so_far behind =
    ap (λ (t : List ℕ). verdict_on topology after next (lines_of (t ++ (more ++ behind)))) none
    ∙ (sym (leads.same (lines_of (more ++ behind)))
    ∙ (ap (verdict_on topology before progress) (sym (ap (λ (t : List ℕ). lines_of (begun ++ (t ++ behind))) parts ∙ line_over begun front more behind a b))
    ∙ so_far behind))

-- no line is left of it
pub taken_rest : (topology : Topology) (after : History) (progress : Progress) (begun begun' rest : List ℕ) (verdict : List ℕ → Verdict) → begun' ≡ begun ++ rest
    → ((behind : List ℕ) → verdict_on topology after progress (lines_of (begun ++ (rest ++ behind))) ≡ verdict behind)
    → (behind : List ℕ) → verdict_on topology after progress (lines_of (begun' ++ behind)) ≡ verdict behind
taken_rest topology after progress begun begun' rest verdict is so_far behind =
    ap (λ (t : List ℕ). verdict_on topology after progress (lines_of t)) (ap (λ (t : List ℕ). t ++ behind) is ∙ append_assoc begun rest behind) ∙ so_far behind

-- ---- a text

-- nothing has come
pub fresh_audits : (topology of : Topology) (steps : History) (begun : List ℕ) → of ≡ topology → steps ≡ [] → begun ≡ [] → (rest : List ℕ) → verdict_first of steps (lines_of (begun ++ rest)) ≡ verdict_in topology rest
unfolding text_in
fresh_audits topology of steps begun same none empty rest = rw (same, none, empty) (by (lines_of rest))
  where
    by : (lines : List (List ℕ)) → verdict_first topology [] lines ≡ verdict_by topology (after_header judged topology lines)
    by [] = refl
    by (line ∷ lines) = by_word (bytes_eq line header)
      where
        by_word : (b : Bool) → cond b (verdict_by topology (lines_in judged topology [] lines)) (Bad 1 cause.Header) ≡ verdict_by topology (cond b (lines_in judged topology [] lines) (Err (1, cause.Header)))
        by_word true = refl
        by_word false = refl

-- a piece has come
pub more_audits : (topology : Topology) (text piece : List ℕ) (a : AuditSeen) (of : Topology) (after : History) (next : Progress) (begun' : List ℕ) → of ≡ a.topology → Takes a.topology a.steps after a.progress a.begun begun' piece next → Audits topology text a
    → (rest : List ℕ) → verdict_on of after next (lines_of (begun' ++ rest)) ≡ verdict_in topology ((text ++ piece) ++ rest)
more_audits topology text piece a of after next begun' same takes audits rest =
    ap (λ (t : Topology). verdict_on t after next (lines_of (begun' ++ rest))) same
    ∙ (takes.same rest ∙ (audits (piece ++ rest) ∙ ap (verdict_in topology) (sym (append_assoc text piece rest))))

-- it has come as a whole
pub whole_said : (topology : Topology) (text : List ℕ) (a : AuditSeen) (verdict : Verdict) → lines_of a.begun ≡ [] → verdict ≡ verdict_on a.topology a.steps a.progress [] → Audits topology text a → verdict ≡ verdict_in topology text
whole_said topology text a verdict unended is audits =
    is
    ∙ (ap (verdict_on a.topology a.steps a.progress) (sym (ap lines_of (append-nil a.begun) ∙ unended))
    ∙ (audits [] ∙ ap (verdict_in topology) (append-nil text)))

pub whole_means : (topology : Topology) (text : List ℕ) (verdict : Verdict) → IsSound topology → verdict ≡ verdict_in topology text → IsSaid topology text verdict
whole_means topology text verdict sound is = subst (IsSaid topology text) (sym is) (said_by topology text sound (text_in judged topology text) refl)
