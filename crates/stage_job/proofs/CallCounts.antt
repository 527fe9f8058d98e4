-- What a user's own callback counted over replies.
use Rattle.std.proofs.Common.{◌≡◌, ℕ, ◌+◌, ◌<◌, ◌≤◌, ◌⊎◌, inl, inr, Bool, true, false, cond, ◌&&◌, List, [], ◌∷◌, ◌++◌, refl, sym, ◌∙◌, arith, count_by}
use Rattle.std.specs.List.{list_all}
use Rattle.std.proofs.lemmas.Bool.{and_cases, cases_lt}
use Rattle.std.proofs.lemmas.List.Folds.{list_all-append}
use Rattle.std.proofs.lemmas.List.Sums.{sum_by-append}
use Rattle.pipe_types.specs.declared.message.Reply.{Reply}
use Rattle.pipe_types.specs.Counts.{Rose}
use Rattle.stage_callback.specs.Callbacks.{is_passed}
use Rattle.stage_job.specs.Chunks.{RoseBy}

-- a count that rose has risen after it did not fall
pub rose_after : (before middle now : ℕ) → before ≤ middle → middle ≤ now → Rose before middle → Rose before now
rose_after before middle now low high (inl above) = inl (omega arith)
rose_after before middle now low high (inr full) = by_order (cases_lt middle now)
  where
    by_order : (middle < now) ⊎ (now ≤ middle) → Rose before now
    by_order (inl above) = inl (omega arith)
    by_order (inr same) = inr (omega arith)

pub rose_before : (before middle now : ℕ) → before ≤ middle → Rose middle now → Rose before now
rose_before before middle now low (inl above) = inl (omega arith)
rose_before before middle now low (inr full) = inr full

-- one call more for at most one reply more
rose_once_more : (before middle now times more : ℕ) → more ≤ times + 1 → middle ≤ now → RoseBy times before middle → Rose middle now → RoseBy more before now
rose_once_more before middle now times more one high (inl above) (inl rose) = inl (omega arith)
rose_once_more before middle now times more one high (inl above) (inr full) = inr (omega arith)
rose_once_more before middle now times more one high (inr full) rose = inr (omega arith)

-- a call for each message that passed, and an answer other than success where one did not
pub record CallsSoFar (calls calls_now bad bad_now : ℕ) (replies : List Reply) : Type 0 where
  pub passed : RoseBy (count_by is_passed replies) calls calls_now
  pub not_passed : list_all is_passed replies ≡ false → Rose bad bad_now

-- the reply to one message more, by one call more
pub one_call_more : (calls calls_now calls_then bad bad_now bad_then : ℕ) (replies : List Reply) (reply : Reply)
    → calls_now ≤ calls_then → Rose calls_now calls_then
    → bad ≤ bad_now → bad_now ≤ bad_then → (is_passed reply ≡ false → Rose bad_now bad_then)
    → CallsSoFar calls calls_now bad bad_now replies
    → CallsSoFar calls calls_then bad bad_then (replies ++ reply ∷ [])
one_call_more calls calls_now calls_then bad bad_now bad_then replies reply kept rose low high not_now so_far = record {
  passed = rose_once_more calls calls_now calls_then (count_by is_passed replies) (count_by is_passed (replies ++ reply ∷ [])) at_most_one kept so_far.passed rose;
  not_passed = λ some. by_place (and_cases (list_all is_passed replies) (is_passed reply && true) (sym (list_all-append is_passed replies (reply ∷ [])) ∙ some));
}
  where
    at_most_one : count_by is_passed (replies ++ reply ∷ []) ≤ count_by is_passed replies + 1
    at_most_one = by_reply (is_passed reply) (sum_by-append (λ r. cond (is_passed r) 1 0) replies (reply ∷ []))
      where
        by_reply : (passed : Bool) → count_by is_passed (replies ++ reply ∷ []) ≡ count_by is_passed replies + (0 + cond passed 1 0)
            → count_by is_passed (replies ++ reply ∷ []) ≤ count_by is_passed replies + 1
        by_reply true e = omega arith
        by_reply false e = omega arith

    last : (passed : Bool) → (passed && true) ≡ false → passed ≡ false
    last true e = e
    last false e = refl

    by_place : (list_all is_passed replies ≡ false) ⊎ ((is_passed reply && true) ≡ false) → Rose bad bad_then
    by_place (inl before) = rose_after bad bad_now bad_then low high (so_far.not_passed before)
    by_place (inr now) = rose_before bad bad_now bad_then low (not_now (last (is_passed reply) now))
