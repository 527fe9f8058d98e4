-- The test of a reason's text beside the fact.
use Rattle.std.proofs.Common.{◌≡◌, ℕ, ◌≤◌, true, false, List, length, Option, Some, None, IsSome, IfSome, refl, cond, arith, ◌↔◌}
use Rattle.std.proofs.lemmas.Bool.{and_parts, false≢true}
use Rattle.std.proofs.lemmas.Bool.Decides.{nat_tests}
use Rattle.std.proofs.lemmas.List.Sums.{AllPass-from_list_all, list_all-from_AllPass}
use Rattle.std.specs.List.{list_all}
use Rattle.pipe_types.specs.Reason.{IsReasonText}
use Rattle.pipe_types.specs.Sound.{is_reason, is_between}

between_true : (low high n : ℕ) → is_between low high n ≡ true → (low ≤ n) × (n ≤ high)
between_true low high n e = (grind (arith, nat_tests), grind (arith, nat_tests))

between_holds : (low high n : ℕ) → low ≤ n → n ≤ high → is_between low high n ≡ true
between_holds low high n a b = grind (arith, nat_tests)

reason_true : (text : List ℕ) → is_reason (Some text) ≡ true → IsReasonText text
reason_true text e =
    let (short, printable) = and_parts (is_between 1 64 (length text)) (list_all (is_between 0x21 0x7e) text) e in
    let lengths = between_true 1 64 (length text) short in
    record {
      not_empty = lengths.0;
      short = lengths.1;
      printable = λ k d below. between_true 0x21 0x7e _ (AllPass-from_list_all (is_between 0x21 0x7e) text printable k d below);
    }

reason_holds : (text : List ℕ) → IsReasonText text → is_reason (Some text) ≡ true
reason_holds text r =
    rw (between_holds 1 64 (length text) r.not_empty r.short)
    (list_all-from_AllPass (is_between 0x21 0x7e) text (λ k d below. between_holds 0x21 0x7e _ (r.printable k d below).0 (r.printable k d below).1))

-- what the constructor of reasons answers
pub reason_test : (result : Option (List ℕ)) (text : List ℕ) → IsSome result ↔ IsReasonText text → IfSome result (λ reason. reason ≡ text) → result ≡ cond (is_reason (Some text)) (Some text) None
reason_test None text accepted is =
    elim (is_reason (Some text)) as (λ b. is_reason (Some text) ≡ b → None ≡ cond b (Some text) None) [
      | true ↦ λ e. absurd (false≢true (accepted.1 (reason_true text e)))
      | false ↦ λ e. refl
    ] refl
reason_test (Some r) text accepted is = rw (is, reason_holds text (accepted.0 refl))
