-- The test of a reason's text, where it is the text of a reason.
use Rattle.std.proofs.Common.{◌≡◌, ℕ, Bool, true, false, cond, List, refl}
use Rattle.std.specs.Prelude.{Option, Some, None}
use Rattle.pipe_types.specs.Reason.{IsReasonText}
use Rattle.pipe_types.specs.Sound.{is_reason}
use Rattle.pipe_types.proofs.Reasons.{reason_test}

abbrev some_text : List ℕ → Option (List ℕ)
some_text text = Some text

pub why_tested : (text : List ℕ) → IsReasonText text → is_reason (Some text) ≡ true
why_tested text is = by (is_reason (Some text)) (reason_test (Some text) text ((λ some. is), (λ held. refl)) refl)
  where
    by : (b : Bool) → some_text text ≡ cond b (Some text) None → b ≡ true
    by true e = refl
    by false e = absurd cc
