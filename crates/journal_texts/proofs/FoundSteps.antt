-- What one step more adds to what is found in the steps.
use Rattle.std.proofs.Common.{◌≡◌, ℕ, ◌+◌, ◌≤◌, Bool, true, false, List, take, reverse, sym, ap, ◌∙◌, Some, ◌||◌, arith}
use Rattle.std.specs.Prelude.{if◌then◌else◌}
use Rattle.std.specs.List.{count_by, list_any, slice_get}
use Rattle.std.proofs.lemmas.Option.{slice_get_within, get_or_from_slice_get}
use Rattle.std.proofs.lemmas.List.Folds.{list_any_more}
use Rattle.std.proofs.lemmas.List.Sorted.{list_any-IsPermutation, IsPermutation-reverse}
use Rattle.pipe_types.specs.declared.step.Step.{Step}
use Rattle.pipe_model.specs.History.{History}
use Rattle.pipe_model.specs.Legal.{happened, is_halt}
use Rattle.pipe_journal.proofs.Walks.{filter_map_at, count_yes, count_no}
use Rattle.journal_texts.specs.Report.{fault_of, cause_of, is_restart, is_refuse}
use Rattle.journal_texts.specs.Findings.{AreFindings, Adds}
use Rattle.journal_texts.specs.declared.steps.Findings.{Findings}

count_at : {X : Type 0} (p : X → Bool) (xs : List X) (i : ℕ) (x : X) (now next : ℕ)
    → slice_get xs i ≡ Some x → now ≡ count_by p (take i xs) → next ≡ (if p x then now + 1 else now) → next ≡ count_by p (take (i + 1) xs)
count_at p xs i x now next is so_far added = by (p x) (λ k. p x) added
  where
    by : (b : Bool) → p x ≡ b → next ≡ (if b then now + 1 else now) → next ≡ count_by p (take (i + 1) xs)
    by true e one = one ∙ (ap (λ n. n + 1) so_far ∙ sym (count_yes p xs i x is e))
    by false e none = none ∙ (so_far ∙ sym (count_no p xs i x is e))

pub any_at : {X : Type 0} (p : X → Bool) (xs : List X) (i : ℕ) (x : X) (now next : Bool)
    → slice_get xs i ≡ Some x → now ≡ list_any p (take i xs) → next ≡ (now || p x) → next ≡ list_any p (take (i + 1) xs)
any_at p xs i x now next is so_far added =
    added
    ∙ ((λ k. so_far k || ap p (sym (get_or_from_slice_get xs i x x is)) k)
    ∙ sym (list_any_more p xs i x (slice_get_within xs i x is)))

-- one step more
pub findings_more : (xs : List Step) (i : ℕ) (x : Step) (old new : Findings) → slice_get xs i ≡ Some x → AreFindings (take i xs) old → Adds x old new
    → AreFindings (take (i + 1) xs) new
findings_more xs i x old new is so_far adds =
    record {
      faults = filter_map_at fault_of xs i x old.faults.items new.faults.items is so_far.faults adds.faults;
      causes = filter_map_at cause_of xs i x old.causes.items new.causes.items is so_far.causes adds.causes;
      restarts = count_at is_restart xs i x old.restarts new.restarts is so_far.restarts adds.restarts;
      refusals = count_at is_refuse xs i x old.refusals new.refusals is so_far.refusals adds.refusals;
      halted = any_at is_halt xs i x old.halted new.halted is so_far.halted adds.halted;
    }

-- a count grows by one at most
pub within_more : (b : Bool) (now next i : ℕ) → now ≤ i → next ≡ (if b then now + 1 else now) → next ≤ i + 1
within_more true now next i low is = omega (arith, low, is)
within_more false now next i low is = omega (arith, low, is)

-- a step has happened, in whichever order the steps are read
pub any_happened : (p : Step → Bool) (steps : History) → list_any p (reverse steps) ≡ happened p steps
any_happened p steps = sym (list_any-IsPermutation p steps (reverse steps) (IsPermutation-reverse steps))
