-- A count of resets.
use Rattle.std.proofs.Common.{◌≡◌, ℕ, ◌+◌, ◌^◌, Bool, true, false, nat_lt, refl, inl, inr, arith}
use Rattle.std.proofs.lemmas.Bool.{ltb-true, ltb-false}
use Rattle.pipe_types.specs.Handlers.{counted}
use Rattle.stage_callback.specs.Laws.{RoseExactly}

-- one more, unless the counter is full
pub counted_once : (before now : ℕ) → now ≡ counted before 1 → RoseExactly 1 before now
counted_once before now is = either (nat_lt (before + 1) (2 ^ 64)) refl
  where
    either : (b : Bool) → nat_lt (before + 1) (2 ^ 64) ≡ b → RoseExactly 1 before now
    either true e = let low = ltb-true (before + 1) (2 ^ 64) e in inl (omega (arith, is, low))
    either false e = let high = ltb-false (before + 1) (2 ^ 64) e in inr (omega (arith, is, high))

-- none
pub none_counted : (before now : ℕ) → now ≡ before → RoseExactly 0 before now
none_counted before now is = inl (omega (arith, is))

-- some, and then more
pub counted_on : (m n before middle now : ℕ) → RoseExactly m before middle → RoseExactly n middle now → RoseExactly (m + n) before now
counted_on m n before middle now (inl first) (inl then) = inl (omega (arith, first, then))
counted_on m n before middle now (inl first) (inr full) = inr full
counted_on m n before middle now (inr full) (inl then) = inr (omega (arith, full, then))
counted_on m n before middle now (inr full) (inr still) = inr still
