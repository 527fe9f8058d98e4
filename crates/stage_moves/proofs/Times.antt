-- The clock along a round.
use Rattle.std.proofs.Common.{◌≡◌, ℕ, ◌+◌, ◌≤◌, ◌<◌, arith, refl, ap, sym, ◌∙◌, inl, inr}
use Rattle.std.specs.Prelude.{◌⊎◌, max, ◌∷◌, nat_le, if◌then◌else◌}
use Rattle.std.proofs.Common.{Bool, true, false}
use Rattle.std.proofs.lemmas.Bool.{leb-true, leb-false}
use Rattle.std.proofs.Math.Dec.{leb}
use Rattle.std.proofs.Math.Nat.{max-eq_left, max-eq_right}
use Rattle.pipe_types.specs.Counts.{Rose}
use Rattle.pipe_types.specs.declared.step.Step.TheVariants.{Tick}
use Rattle.pipe_model.specs.History.{History, now}
use Rattle.stage_job.specs.Chunks.{RoseBy}
use Rattle.control_lines.specs.Steps.{jobs_begun, still_ticks}
use Rattle.stage_moves.specs.Clocks.{ClockSeen, KeepsClock, KeepsClockPartly, KeepsClockAhead, HasRead, HasPaused, HasReadInVain, TicksTo}

max_max : (a b c : ℕ) → max (max a b) c ≡ max a (max b c)
max_max a b c = by_order (order a b) (order b c) (order a c)
  where
    order : (x y : ℕ) → (x ≤ y) ⊎ (y ≤ x)
    order x y = by_sub (leb x y) refl
      where
        below : y < x → y ≤ x
        below h = omega (arith, h)

        by_sub : (t : Bool) → leb x y ≡ t → (x ≤ y) ⊎ (y ≤ x)
        by_sub true e = inl (leb-true x y e)
        by_sub false e = inr (below (leb-false x y e))

    by_order : (a ≤ b) ⊎ (b ≤ a) → (b ≤ c) ⊎ (c ≤ b) → (a ≤ c) ⊎ (c ≤ a) → max (max a b) c ≡ max a (max b c)
    by_order (inl ab) (inl bc) ac = rw (max-eq_right ab, max-eq_right bc) (sym (max-eq_right (omega (arith, ab, bc))))
    by_order (inl ab) (inr cb) ac = rw (max-eq_right ab, max-eq_left cb) (sym (max-eq_right ab))
    by_order (inr ba) (inl bc) (inl ac) = rw (max-eq_left ba, max-eq_right bc) refl
    by_order (inr ba) (inl bc) (inr ca) = rw (max-eq_left ba, max-eq_right bc) refl
    by_order (inr ba) (inr cb) ac = rw (max-eq_left ba, max-eq_left cb) (max-eq_left (omega (arith, ba, cb)) ∙ sym (max-eq_left ba))

pub rose_by : (times more before mid after : ℕ) → RoseBy times before mid → Rose mid after → more ≤ times + 1 → RoseBy more before after
rose_by times more before mid after (inl a) (inl b) le = inl (omega (arith, a, b, le))
rose_by times more before mid after (inl a) (inr full) le = inr (omega (arith, full))
rose_by times more before mid after (inr full) (inl b) le = inr (omega (arith, full, b))
rose_by times more before mid after (inr f) (inr full) le = inr (omega (arith, full))

tick_is : (reading : ℕ) (old new : History) → TicksTo reading old new → now new ≡ max (now old) reading
tick_is reading old new (inl (less, is)) = rw is (sym (max-eq_right (omega (arith, less))))
tick_is reading old new (inr (le, is)) = rw is (sym (max-eq_left le))

-- ---- ticks that stand still

-- a tick behind the last one is none
later_tick : (t n x : ℕ) → n < t → (if nat_le t n then x + 1 else x) ≡ x
later_tick t n x less = by (nat_le t n) refl
  where
    by : (b : Bool) → nat_le t n ≡ b → (if b then x + 1 else x) ≡ x
    by true e = let le = leb-true t n e in absurd (omega (arith, le, less))
    by false e = refl

-- and any tick is one at most
one_tick : (b : Bool) (x : ℕ) → (if b then x + 1 else x) ≤ x + 1
one_tick true x = omega arith
one_tick false x = omega arith

read_still : (reading : ℕ) (old new : History) → TicksTo reading old new → still_ticks new ≡ still_ticks old
read_still reading old new (inl (less, is)) = rw is (later_tick reading (now old) (still_ticks old) less)
read_still reading old new (inr (le, is)) = ap still_ticks is

same_by : (n m x y z : ℕ) → RoseBy n x y → m ≡ n → z ≡ y → RoseBy m x z
same_by n m x y z (inl low) same e = inl (omega (arith, low, same, e))
same_by n m x y z (inr full) same e = inr (omega (arith, full, e))

-- whether it paused or not
either_by : (n x y z : ℕ) → RoseBy n x y → (z ≡ y) ⊎ Rose y z → RoseBy n x z
either_by n x y z k (inl e) = same_by n n x y z k refl e
either_by n x y z k (inr rose) = rose_by n n x y z k rose (omega arith)

-- ---- a round: the clock is read, at most one job begins, and where the run pauses the clock is read again

pub read_ahead : (a b c : History) (opened before after : ClockSeen) → KeepsClock a opened before → HasRead a b before after → now c ≡ now b → still_ticks c ≡ still_ticks b → jobs_begun c ≤ jobs_begun a → KeepsClockAhead c opened after
read_ahead a b c opened before after k r same still few =
    record {
      latest = r.latest ∙ ap (λ x. max x r.reading) k.latest ∙ max_max opened.latest (now a) r.reading ∙ ap (max opened.latest) (sym (same ∙ tick_is r.reading a b r.ticks));
      readings = rose_by (jobs_begun a) (jobs_begun c + 1) opened.readings before.readings after.readings k.readings r.rose (omega (arith, few));
      pauses = same_by (still_ticks a) (still_ticks c) opened.pauses before.pauses after.pauses k.pauses (still ∙ read_still r.reading a b r.ticks) r.no_pause;
    }

-- with so many jobs more, at most one
pub ahead_then : (a b : History) (opened clock : ClockSeen) → KeepsClockAhead a opened clock → now b ≡ now a → still_ticks b ≡ still_ticks a → jobs_begun b ≤ jobs_begun a + 1 → KeepsClock b opened clock
ahead_then a b opened clock k same still few =
    record {
      latest = k.latest ∙ ap (max opened.latest) (sym same);
      readings = fewer (jobs_begun a + 1) (jobs_begun b) opened.readings clock.readings k.readings few;
      pauses = same_by (still_ticks a) (still_ticks b) opened.pauses clock.pauses clock.pauses k.pauses still refl;
    }
  where
    fewer : (m n x y : ℕ) → RoseBy m x y → n ≤ m → RoseBy n x y
    fewer m n x y (inl low) le = inl (omega (arith, low, le))
    fewer m n x y (inr full) le = inr full

pub ahead_same : (a : History) (opened clock : ClockSeen) → KeepsClockAhead a opened clock → KeepsClock a opened clock
ahead_same a opened clock k = ahead_then a a opened clock k refl refl (omega arith)

pub paused_then : (a b : History) (opened before after : ClockSeen) → KeepsClock a opened before → HasPaused a b before after → KeepsClock b opened after
paused_then a b opened before after k p =
    record {
      latest = p.latest ∙ ap (λ x. max x p.reading) k.latest ∙ max_max opened.latest (now a) p.reading ∙ ap (max opened.latest) (sym (ap now p.ticks));
      readings = rose_by (jobs_begun a) (jobs_begun b) opened.readings before.readings after.readings k.readings p.rose (few p.ticks);
      pauses = rose_by (still_ticks a) (still_ticks b) opened.pauses before.pauses after.pauses k.pauses p.slept (one_more p.ticks);
    }
  where
    one_more : b ≡ Tick (max (now a) p.reading) ∷ a → still_ticks b ≤ still_ticks a + 1
    one_more e = rw e (one_tick (nat_le (max (now a) p.reading) (now a)) (still_ticks a))

    few : b ≡ Tick (max (now a) p.reading) ∷ a → jobs_begun b ≤ jobs_begun a + 1
    few e = rw e (omega arith)

pub partly : (a : History) (opened clock : ClockSeen) → KeepsClock a opened clock → KeepsClockPartly a opened clock
partly a opened clock k = record { latest = omega (arith, k.latest); readings = k.readings; pauses = k.pauses }

-- want of memory for a tick
pub in_vain : (a b : History) (opened before after : ClockSeen) → KeepsClock a opened before → HasReadInVain a b before after → KeepsClockPartly b opened after
in_vain a b opened before after k r =
    record {
      latest = rw r.unchanged (lower (max opened.latest (now a)) before.latest after.latest k.latest r.latest);
      readings = rw r.unchanged (rose_by (jobs_begun a) (jobs_begun a) opened.readings before.readings after.readings k.readings r.rose (omega arith));
      pauses = rw r.unchanged (either_by (still_ticks a) opened.pauses before.pauses after.pauses k.pauses r.pauses);
    }
  where
    lower : (m x y : ℕ) → x ≡ m → x ≤ y → m ≤ y
    lower m x y e le = omega (arith, e, le)
