-- What a call came to, seen by its verdict.
use Rattle.std.proofs.Common.{◌≡◌, ◌≢◌, ℕ, ◌≤◌, ◌<◌, List, [], Option, Some, None, refl, sym, ◌∙◌, ap, subst, inl, inr, arith}
use Rattle.std.specs.Prelude.{◌⊎◌, if◌then◌else◌, nat_le}
use Rattle.std.proofs.lemmas.Bool.{le-leb}
use Rattle.pipe_types.specs.declared.topology.Topology.{Topology}
use Rattle.pipe_model.specs.History.{History}
use Rattle.journal_texts.specs.Report.{status_of}
use Rattle.program_words.specs.Refusals.{feed_line}
use Rattle.pipe_run.specs.Whole.{HasCome}
use Rattle.pipe_top.specs.Flows.{IsJudgement, IsEarly}
use Rattle.pipe_top.specs.Runs.{IsEnded, IsEndStatus, IsKnownStatus, IsRefusalStatus, IsRunStatus, IsUnopenedStatus, live_line}
use Rattle.run_verdicts.specs.Texts.{run_text}
use Rattle.run_verdicts.specs.Verdicts.{err_text_of, out_text_of, status_in, whole_text}
use Rattle.run_verdicts.specs.declared.verdict.Refusal.TheVariants.{Usage, Topology as NoTopology, Stock, Edge, Audit, Memory}
use Rattle.run_verdicts.specs.declared.verdict.Shows.{Shows}
use Rattle.run_verdicts.specs.declared.verdict.Texts.{Texts}
use Rattle.run_verdicts.specs.declared.verdict.Verdict.{Verdict}
use Rattle.run_verdicts.specs.declared.verdict.Verdict.TheVariants.{Refused, Done, Unfed}
use Rattle.pipe_top.proofs.Statuses.{status_few}

-- the call by this name failed
pub record Fails (fails : List ℕ → Type 0) (verdict : Verdict) : Type 0 where
  pub name : List ℕ
  pub is : verdict ≡ Refused (Edge name)
  pub so : fails name

-- there was no run, for want of memory or since a call by name failed
pub record Early (fails : List ℕ → Type 0) (topology : Option Topology) (before : History) (verdict : Verdict) : Type 0 where
  pub no_topology : topology ≡ None
  pub no_step : before ≡ []
  pub why : (verdict ≡ Refused Memory) ⊎ Fails fails verdict

pub early : (fails : List ℕ → Type 0) (topology : Option Topology) (before : History) (verdict : Verdict) → IsEarly fails topology before verdict → Early fails topology before verdict
early fails None before (Refused Memory) e = record { no_topology = refl; no_step = e; why = inl refl }
early fails None before (Refused (Edge name)) e = record {
  no_topology = refl;
  no_step = e.0;
  why = inr (record { name = name; is = refl; so = e.1 });
}
early fails None before (Refused Usage) e = absurd e
early fails None before (Refused (NoTopology fault)) e = absurd e
early fails None before (Refused (Stock shortage)) e = absurd e
early fails None before (Refused (Audit fault)) e = absurd e
early fails None before (Done texts status) e = absurd e
early fails None before (Unfed texts line) e = absurd e
early fails (Some t) before verdict e = absurd e

-- the verdict of a run with the texts and the status of its report
abbrev pub IsDone : Topology → History → Verdict → Texts → Type 0
IsDone topology before verdict texts = (status : ℕ) × (verdict ≡ Done texts status) × (status ≡ status_of topology before)

-- that of one whose live sink failed
abbrev pub IsUnfedWith : (live : Option (List ℕ)) → Verdict → Texts → Type 0
IsUnfedWith live verdict texts = (name : List ℕ) × (verdict ≡ Unfed texts (feed_line name)) × (live ≡ Some name)

-- a report of a run
pub record Reported (shows : Shows) (live : Option (List ℕ)) (topology : Topology) (before : History) (verdict : Verdict) : Type 0 where
  pub texts : Texts
  pub which : IsDone topology before verdict texts ⊎ IsUnfedWith live verdict texts
  pub come : HasCome topology before
  pub by_journal : whole_text before texts ≡ run_text shows topology before

pub done_few : (topology : Topology) (before : History) (verdict : Verdict) (texts : Texts) → IsDone topology before verdict texts → status_in verdict ≤ 4
done_few topology before verdict texts d =
    let is : status_in verdict ≡ d.0 = ap status_in d.1 in
    omega (arith, is, d.2, status_few topology before)

-- the status of a report is at most 4, or 12
pub few_of : {shows : Shows} {live : Option (List ℕ)} {topology : Topology} {before : History} {verdict : Verdict} → Reported shows live topology before verdict → IsEndStatus (status_in verdict)
few_of {shows} {live} {topology} {before} {verdict} v = by_which v.which
  where
    by_which : IsDone topology before verdict v.texts ⊎ IsUnfedWith live verdict v.texts → IsEndStatus (status_in verdict)
    by_which (inl d) = inl (done_few topology before verdict v.texts d)
    by_which (inr u) = inr (ap status_in u.1)

-- 12 only where there is a live sink
pub run_status : {shows : Shows} {live : Option (List ℕ)} {topology : Topology} {before : History} {verdict : Verdict} → Reported shows live topology before verdict → IsRunStatus live (status_in verdict)
run_status {shows} {live} {topology} {before} {verdict} v = by_which v.which
  where
    few_in : (o : Option (List ℕ)) (s : ℕ) → s ≤ 4 → IsRunStatus o s
    few_in None s few = few
    few_in (Some name) s few = inl few

    by_which : IsDone topology before verdict v.texts ⊎ IsUnfedWith live verdict v.texts → IsRunStatus live (status_in verdict)
    by_which (inl d) = few_in live (status_in verdict) (done_few topology before verdict v.texts d)
    by_which (inr u) = subst (λ (o : Option (List ℕ)). IsRunStatus o (status_in verdict)) (sym u.2) (inr (ap status_in u.1))

-- the run is drained or halted, and but for 12 the status is the journal's
pub ended_of : {shows : Shows} {live : Option (List ℕ)} {topology : Topology} {before : History} {verdict : Verdict} → Reported shows live topology before verdict → IsEnded topology before (status_in verdict)
ended_of {shows} {live} {topology} {before} {verdict} v = record { ended = v.come; by_journal = by_which v.which }
  where
    by_which : IsDone topology before verdict v.texts ⊎ IsUnfedWith live verdict v.texts → status_in verdict ≢ 12 → status_in verdict ≡ status_of topology before
    by_which (inl d) other = ap status_in d.1 ∙ d.2
    by_which (inr u) other = absurd (other (ap status_in u.1))

-- its texts are the journal's
pub out_of : {shows : Shows} {live : Option (List ℕ)} {topology : Topology} {before : History} {verdict : Verdict} → Reported shows live topology before verdict → out_text_of before verdict ≡ run_text shows topology before
out_of {shows} {live} {topology} {before} {verdict} v = by_which v.which
  where
    by_which : IsDone topology before verdict v.texts ⊎ IsUnfedWith live verdict v.texts → out_text_of before verdict ≡ run_text shows topology before
    by_which (inl d) = ap (out_text_of before) d.1 ∙ v.by_journal
    by_which (inr u) = ap (out_text_of before) u.1 ∙ v.by_journal

unfed_line : (verdict : Verdict) (texts : Texts) (name : List ℕ) (live : Option (List ℕ)) → verdict ≡ Unfed texts (feed_line name) → live ≡ Some name
    → err_text_of verdict ≡ (if nat_le (status_in verdict) 4 then [] else live_line live)
unfed_line verdict texts name live v l = rw (v, l) refl

-- and its line that of the live sink, where it failed
pub err_of : {shows : Shows} {live : Option (List ℕ)} {topology : Topology} {before : History} {verdict : Verdict} → Reported shows live topology before verdict
    → err_text_of verdict ≡ (if nat_le (status_in verdict) 4 then [] else live_line live)
err_of {shows} {live} {topology} {before} {verdict} v = by_which v.which
  where
    small : (s : ℕ) → s ≤ 4 → [] ≡ (if nat_le s 4 then [] else live_line live)
    small s few = rw (le-leb s 4 few) refl

    by_which : IsDone topology before verdict v.texts ⊎ IsUnfedWith live verdict v.texts → err_text_of verdict ≡ (if nat_le (status_in verdict) 4 then [] else live_line live)
    by_which (inl d) = ap err_text_of d.1 ∙ small (status_in verdict) (done_few topology before verdict v.texts d)
    by_which (inr u) = unfed_line verdict v.texts u.0 live u.1 u.2

-- it is no refusal
pub is_reported : {shows : Shows} {live : Option (List ℕ)} {topology : Topology} {before : History} {verdict : Verdict} → Reported shows live topology before verdict → verdict ≡ Refused Memory → ⊥
is_reported {shows} {live} {topology} {before} {verdict} v memory = by_which v.which
  where
    by_which : IsDone topology before verdict v.texts ⊎ IsUnfedWith live verdict v.texts → ⊥
    by_which (inl d) = let x : Done v.texts d.0 ≡ Refused Memory = sym d.1 ∙ memory in cc
    by_which (inr u) = let x : Unfed v.texts (feed_line u.0) ≡ Refused Memory = sym u.1 ∙ memory in cc

-- a run was reported, or memory was wanting
pub ran : (verdict : Verdict) (shows : Shows) (live : Option (List ℕ)) (topology : Topology) (before : History) → IsJudgement verdict shows live topology before
    → Reported shows live topology before verdict ⊎ (verdict ≡ Refused Memory)
ran (Done texts status) shows live topology before v = inl (record { texts = texts; which = inl (status, refl, v.status_is); come = v.ended; by_journal = v.by_journal })
ran (Unfed texts line) shows live topology before v = inl (record { texts = texts; which = inr (v.name, ap (λ (l : List ℕ). Unfed texts l) v.line_is, v.named); come = v.ended; by_journal = v.by_journal })
ran (Refused Memory) shows live topology before v = inr refl
ran (Refused Usage) shows live topology before v = absurd v
ran (Refused (NoTopology fault)) shows live topology before v = absurd v
ran (Refused (Stock shortage)) shows live topology before v = absurd v
ran (Refused (Audit fault)) shows live topology before v = absurd v
ran (Refused (Edge name)) shows live topology before v = absurd v

-- ---- statuses

-- the status that is neither 8 nor 9 is the verdict's
pub settled : (status wanted : ℕ) → (status ≡ wanted) ⊎ ((status ≡ 8) ⊎ (status ≡ 9)) → status ≢ 8 → status ≢ 9 → status ≡ wanted
settled status wanted (inl is) a b = is
settled status wanted (inr (inl is)) a b = absurd (a is)
settled status wanted (inr (inr is)) a b = absurd (b is)

-- so is one that is none of 5, 8 and 9 where it is this number
pub is_status : (status wanted n : ℕ) → (status ≡ wanted) ⊎ ((status ≡ 8) ⊎ (status ≡ 9)) → status ≡ n → n ≢ 8 → n ≢ 9 → wanted ≡ n
is_status status wanted n (inl is) at a b = omega (arith, is, at)
is_status status wanted n (inr (inl is)) at a b = absurd (a (omega (arith, is, at)))
is_status status wanted n (inr (inr is)) at a b = absurd (b (omega (arith, is, at)))

-- no number between 4 and 12 is the status of an end
pub not_small : (n status : ℕ) → status ≡ n → 4 < n → n < 12 → IsEndStatus status → ⊥
not_small n status is more less (inl few) = omega (arith, is, more, few)
not_small n status is more less (inr twelve) = omega (arith, is, less, twelve)

pub is_small : (status wanted : ℕ) → (status ≡ wanted) ⊎ ((status ≡ 8) ⊎ (status ≡ 9)) → IsEndStatus status → status ≡ wanted
is_small status wanted (inl is) few = is
is_small status wanted (inr (inl is)) few = absurd (not_small 8 status is (omega arith) (omega arith) few)
is_small status wanted (inr (inr is)) few = absurd (not_small 9 status is (omega arith) (omega arith) few)

pub not_both : (a b n : ℕ) → n ≡ a → n ≡ b → a ≢ b → ⊥
not_both a b n p q apart = apart (omega (arith, p, q))

pub within : (status wanted : ℕ) → (status ≡ wanted) ⊎ ((status ≡ 8) ⊎ (status ≡ 9)) → IsKnownStatus wanted → IsKnownStatus status
within status wanted (inl is) (inl few) = inl (omega (arith, is, few))
within status wanted (inl is) (inr (inl eleven)) = inr (inl (is ∙ eleven))
within status wanted (inl is) (inr (inr twelve)) = inr (inr (is ∙ twelve))
within status wanted (inr (inl is)) few = inl (omega (arith, is))
within status wanted (inr (inr is)) few = inl (omega (arith, is))

-- so is a status of a refusal ..
pub refusal_as : (status wanted : ℕ) → (status ≡ wanted) ⊎ ((status ≡ 8) ⊎ (status ≡ 9)) → IsRefusalStatus status → IsRefusalStatus wanted
refusal_as status wanted is (inl five) = inl (is_status status wanted 5 is five (λ x. cc) (λ x. cc))
refusal_as status wanted is (inr (inl six)) = inr (inl (is_status status wanted 6 is six (λ x. cc) (λ x. cc)))
refusal_as status wanted is (inr (inr seven)) = inr (inr (is_status status wanted 7 is seven (λ x. cc) (λ x. cc)))

-- .. and one where nothing was opened
pub unopened_as : (status wanted : ℕ) → (status ≡ wanted) ⊎ ((status ≡ 8) ⊎ (status ≡ 9)) → IsUnopenedStatus status → IsUnopenedStatus wanted
unopened_as status wanted is (inl six) = inl (is_status status wanted 6 is six (λ x. cc) (λ x. cc))
unopened_as status wanted is (inr seven) = inr (is_status status wanted 7 is seven (λ x. cc) (λ x. cc))
