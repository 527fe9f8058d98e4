-- A round: the clock, the steps of the pipeline's own, and then a job or a pause.
use Rattle.std.proofs.Common.{◌≡◌, ℕ, ◌+◌, ◌*◌, ◌≤◌, ◌<◌, [], ◌∷◌, true, false, refl, ap, sym, ◌∙◌, subst, inl, inr, None, arith}
use Rattle.std.specs.Prelude.{◌⊎◌, Option, Result, Ok, Err, OnOk, OnErr, max, not, ◌&&◌}
use Rattle.std.specs.Result.{IsErr}
use Rattle.pipe_types.specs.Sound.{IsSound}
use Rattle.pipe_types.specs.declared.topology.Topology.{Topology}
use Rattle.pipe_types.specs.declared.numbers.Post.{Post}
use Rattle.pipe_types.specs.declared.step.Step.{Step}
use Rattle.pipe_types.specs.declared.step.Step.TheVariants.{Tick, Kill, Drain, Refuse, SourceEnd}
use Rattle.pipe_types.specs.Numbers.{post, same_post}
use Rattle.pipe_model.specs.History.{History, now}
use Rattle.pipe_model.specs.Posts.{puts_out, answers}
use Rattle.pipe_model.specs.Legal.{is_legal, owed, happened, is_halt}
use Rattle.pipe_model.specs.Moves.{move, Pause, JobsOut, Halted, Drained, is_drained, jobs_out}
use Rattle.pipe_laws.proofs.Tests.{and_left, and_right, not_true}
use Rattle.work_laws.specs.Left.{work_left}
use Rattle.work_laws.proofs.Leaving.{tick_keeps}
use Rattle.move_laws.proofs.Laws.{tick_law, move_law}
use Rattle.move_laws.specs.NextMoves.{IsLegalMove}
use Rattle.stage_bodies.specs.Seen.{BodySeen}
use Rattle.body_laws.proofs.Laws.{silent_keeps, silent_ready}
use Rattle.control_lines.specs.Steps.{jobs_begun, AddsControl, is_from_control}
use Rattle.control_lines.specs.Rest.{LeavesAtRest}
use Rattle.stage_moves.specs.Going.{GoesOn, Advances, AddsSilently, Within, Waits}
use Rattle.stage_moves.specs.Clocks.{ClockSeen, KeepsClock, KeepsClockPartly, KeepsClockAhead, KeepsClockOn, KeepsClockAheadOn, HasRead, HasPaused, IsRead, TicksTo}
use Rattle.stage_moves.specs.Pauses.{may_pause, rounds_left}
use Rattle.stage_moves.proofs.Times.{read_ahead, ahead_then, ahead_same, partly}
use Rattle.stage_moves.proofs.Controls.{other_step}
use Rattle.stage_moves.proofs.Goings.{goes_same, goes_then, less_or_same, silent_same, silent_one}

-- ---- what holds whatever a call came to

pub always_ok : {T E : Type 0} (A : Type 0) (r : Result T E) → A → OnOk r A
always_ok A (Ok x) a = a
always_ok A (Err e) a = tt

pub either_way : {T E : Type 0} (r : Result T E) (a : History) (opened clock : ClockSeen) → KeepsClock a opened clock → KeepsClockOn r a opened clock
either_way (Ok x) a opened clock k = k
either_way (Err e) a opened clock k = partly a opened clock k

pub vain_way : {T E : Type 0} (r : Result T E) (a : History) (opened clock : ClockSeen) → IsErr r → KeepsClockPartly a opened clock → KeepsClockOn r a opened clock
vain_way (Ok x) a opened clock h k = let x : false ≡ true = h in cc
vain_way (Err e) a opened clock h k = k

pub ahead_way : {T E : Type 0} (r : Result T E) (a : History) (opened clock : ClockSeen) → KeepsClockAhead a opened clock → KeepsClockAheadOn r a opened clock
ahead_way (Ok x) a opened clock k = k
ahead_way (Err e) a opened clock k = partly a opened clock (ahead_same a opened clock k)

pub vain_ahead : {T E : Type 0} (r : Result T E) (a : History) (opened clock : ClockSeen) → IsErr r → KeepsClockPartly a opened clock → KeepsClockAheadOn r a opened clock
vain_ahead (Ok x) a opened clock h k = let x : false ≡ true = h in cc
vain_ahead (Err e) a opened clock h k = k

-- ---- the clock was read

waits_same : (topology : Topology) (before : History) → Waits topology before before
waits_same topology before = record { goes = λ home. goes_same topology before home; ready = λ home r. r; same_out = refl; silent = silent_same before; control = λ jobs opened lines k. k; same_controls = refl; same_halt = refl }

waits_tick : (topology : Topology) (before : History) (t : ℕ) → IsSound topology → is_legal topology (Tick t ∷ before) ≡ true → Waits topology before (Tick t ∷ before)
waits_tick topology before t sound legal = record {
  goes = λ home. record {
    follows = λ f. (f, tt);
    keeps = λ opened k. silent_keeps topology before (Tick t) opened home sound legal refl k;
    bodies = λ at here. here;
    callbacks = λ at here. here;
  };
  ready = λ home r. silent_ready topology before (Tick t) home sound legal refl r;
  same_out = refl;
  silent = silent_one before (Tick t) (λ p. (refl, refl));
  control = λ jobs opened lines k. other_step topology before (Tick t) jobs opened lines (record { control = refl; ends = refl; jobless = refl }) k;
  same_controls = refl;
  same_halt = refl;
}

-- a tick was added, or memory was wanting for it
pub tick_waits : {T E : Type 0} (topology other : Topology) (before after : History) (t : ℕ) (r : Result T E) → IsSound topology → other ≡ topology → is_legal other after ≡ true → OnOk r (after ≡ Tick t ∷ before) → OnErr r (after ≡ before)
    → Waits topology before after
tick_waits topology other before after t (Err e) sound same legal added unchanged = subst (λ x. Waits topology before x) (sym unchanged) (waits_same topology before)
tick_waits topology other before after t (Ok x) sound same legal added unchanged =
    subst (λ x. Waits topology before x) (sym added) (waits_tick topology before t sound (subst (λ x. is_legal topology x ≡ true) added (subst (λ o. is_legal o after ≡ true) same legal)))

-- a control line was read
pub line_waits : (topology : Topology) (before after : History) (home : ℕ → Option BodySeen) → LeavesAtRest topology before after → GoesOn topology before home after home
line_waits topology before after home l = record { follows = l.follows; keeps = λ opened k. l.keeps opened home k; bodies = λ at here. here; callbacks = λ at here. here }

-- it answers no post
pub line_silent : (before after : History) → AddsControl before after → AddsSilently before after
line_silent before after (inl e) = subst (λ h. AddsSilently before h) (sym e) (silent_same before)
line_silent before after (inr (step, e, from)) = subst (λ h. AddsSilently before h) (sym e) (silent_one before step (λ p. control_posts step p from))
  where
    control_posts : (step : Step) (p : Post) → is_from_control step ≡ true → (puts_out step p ≡ false) × (answers step p ≡ false)
    control_posts (Kill s why) p h = (refl, refl)
    control_posts (Drain cause) p h = (refl, refl)
    control_posts (Refuse line) p h = (refl, refl)
    control_posts (SourceEnd s how) p h = (refl, ap (λ b. not b && same_post p (post s 0)) h)
    control_posts step p h = cc

-- a tick begins no job
ticks_begin_none : (before after : History) (old new : ClockSeen) → HasRead before after old new → jobs_begun after ≡ jobs_begun before
ticks_begin_none before after old new read = by_tick read.ticks
  where
    none_more : (n : ℕ) → 0 + n ≡ n
    none_more n = omega arith

    by_tick : TicksTo read.reading before after → jobs_begun after ≡ jobs_begun before
    by_tick (inl (less, e)) = ap jobs_begun e ∙ none_more (jobs_begun before)
    by_tick (inr (le, e)) = ap jobs_begun e

-- ---- the clock, a control line, and the steps of the pipeline's own

pub line_goes : (topology : Topology) (a m n : History) (home : ℕ → Option BodySeen) → Waits topology a m → LeavesAtRest topology m n → GoesOn topology a home n home
line_goes topology a m n home w l = goes_then topology a m n home home home (w.goes home) (line_waits topology m n home l)

pub on_goes : (topology : Topology) (a m n b : History) (home back : ℕ → Option BodySeen) → Waits topology a m → LeavesAtRest topology m n → Advances topology n home b back → GoesOn topology a home b back
on_goes topology a m n b home back w l q = goes_then topology a n b home home back (line_goes topology a m n home w l) q.goes

-- less work is left than behind the clock, or no step was added
pub on_progress : (topology : Topology) (m n b : History) (home back : ℕ → Option BodySeen) → LeavesAtRest topology m n → Advances topology n home b back → (b ≡ m) ⊎ (work_left topology b < work_left topology m)
on_progress topology m n b home back l q = less_or_same topology m n b l.progress q.progress

pub on_clock : (topology : Topology) (a m n b : History) (opened before after : ClockSeen) → HasRead a m before after → LeavesAtRest topology m n → Within topology 0 n b → KeepsClock a opened before → KeepsClockAhead b opened after
on_clock topology a m n b opened before after read l p k =
    read_ahead a m b opened before after k read (p.same_time ∙ l.same_time) (p.same_still ∙ l.same_still) (few (jobs_begun b) (jobs_begun n) (jobs_begun a) p.begun (l.same_jobs ∙ ticks_begin_none a m before after read))
  where
    few : (x y z : ℕ) → x ≤ y + 0 → y ≡ z → x ≤ z
    few x y z h e = omega (arith, h, e)

pub worked_clock : (topology : Topology) (b c : History) (opened clock : ClockSeen) → KeepsClockAhead b opened clock → Within topology 1 b c → KeepsClock c opened clock
worked_clock topology b c opened clock k w = ahead_then b c opened clock k w.same_time w.same_still w.begun

-- ---- rounds that are left

pause_at_most : (before : History) → may_pause before ≤ 1
pause_at_most [] = omega arith
pause_at_most (Tick t ∷ before) = omega arith
pause_at_most (step ∷ before) = omega arith

read_left : {T E : Type 0} (topology : Topology) (a m : History) (r : Result T E) (before after : ClockSeen) → IsRead r a m before after → work_left topology m ≡ work_left topology a
read_left topology a m (Err e) before after read = ap (work_left topology) read.unchanged
read_left topology a m (Ok x) before after read = by_tick read.ticks
  where
    by_tick : TicksTo read.reading a m → work_left topology m ≡ work_left topology a
    by_tick (inl (less, e)) = ap (work_left topology) e ∙ tick_keeps topology a read.reading
    by_tick (inr (le, e)) = ap (work_left topology) e

pub read_no_more : {T E : Type 0} (topology : Topology) (a m : History) (r : Result T E) (before after : ClockSeen) → IsRead r a m before after → work_left topology m ≤ work_left topology a
read_no_more topology a m r before after read = same (work_left topology m) (work_left topology a) (read_left topology a m r before after read)
  where
    same : (x y : ℕ) → x ≡ y → x ≤ y
    same x y e = omega (arith, e)

pub on_no_more : {T E : Type 0} (topology : Topology) (a m b : History) (r : Result T E) (before after : ClockSeen) → IsRead r a m before after → (b ≡ m) ⊎ (work_left topology b < work_left topology m)
    → work_left topology b ≤ work_left topology a
on_no_more topology a m b r before after read progress = by_progress progress
  where
    by_same : (x y z : ℕ) → y ≡ x → z ≡ y → z ≤ x
    by_same x y z e f = omega (arith, e, f)

    by_less : (x y z : ℕ) → y ≡ x → z < y → z ≤ x
    by_less x y z e f = omega (arith, e, f)

    by_progress : (b ≡ m) ⊎ (work_left topology b < work_left topology m) → work_left topology b ≤ work_left topology a
    by_progress (inl f) = by_same (work_left topology a) (work_left topology m) (work_left topology b) (read_left topology a m r before after read) (ap (work_left topology) f)
    by_progress (inr less) = by_less (work_left topology a) (work_left topology m) (work_left topology b) (read_left topology a m r before after read) less

-- a pipeline that pauses did not have a tick as its last step
pause_here : (topology : Topology) (a : History) → IsSound topology → is_legal topology a ≡ true → move topology a ≡ Pause → may_pause a ≡ 1
pause_here topology [] sound legal e = refl
pause_here topology (Tick t ∷ a) sound legal e = absurd (tick_law topology a t sound legal e)
pause_here topology (step ∷ a) sound legal e = refl

pub on_pauses : (topology other : Topology) (a m b : History) (before after : ClockSeen) → IsSound topology → other ≡ topology → is_legal other b ≡ true → HasRead a m before after → (b ≡ m) ⊎ (work_left topology b < work_left topology m)
    → move topology b ≡ Pause → 2 * work_left topology b < rounds_left topology a
on_pauses topology other a m b before after sound same legal_there read progress pauses = by_progress progress
  where
    legal : is_legal topology b ≡ true
    legal = subst (λ o. is_legal o b ≡ true) same legal_there

    twice : (x y z p : ℕ) → y ≡ x → z < y → 2 * z < 2 * x + p
    twice x y z p e lt = omega (arith, e, lt)

    once : (x y p : ℕ) → y ≡ x → p ≡ 1 → 2 * y < 2 * x + p
    once x y p e one = omega (arith, e, one)

    by_tick : b ≡ m → TicksTo read.reading a m → 2 * work_left topology b < rounds_left topology a
    by_tick here (inl (less, e)) =
        let at : b ≡ Tick read.reading ∷ a = here ∙ e in
        absurd (tick_law topology a read.reading sound (subst (λ x. is_legal topology x ≡ true) at legal) (subst (λ x. move topology x ≡ Pause) at pauses))
    by_tick here (inr (le, e)) =
        let at : b ≡ a = here ∙ e in
        once (work_left topology a) (work_left topology b) (may_pause a) (ap (work_left topology) at)
        (pause_here topology a sound (subst (λ x. is_legal topology x ≡ true) at legal) (subst (λ x. move topology x ≡ Pause) at pauses))

    by_progress : (b ≡ m) ⊎ (work_left topology b < work_left topology m) → 2 * work_left topology b < rounds_left topology a
    by_progress (inl here) = by_tick here read.ticks
    by_progress (inr less) = twice (work_left topology a) (work_left topology m) (work_left topology b) (may_pause a) (read_left {T = Unit {0}} {E = Unit {0}} topology a m (Ok tt) before after read) less

pub job_leaves : (topology : Topology) (a b c : History) → work_left topology b ≤ work_left topology a → work_left topology c < work_left topology b → rounds_left topology c < rounds_left topology a
job_leaves topology a b c le less = fewer (work_left topology a) (work_left topology b) (work_left topology c) (may_pause a) (may_pause c) le less (pause_at_most c)
  where
    fewer : (x z w p q : ℕ) → z ≤ x → w < z → q ≤ 1 → 2 * w + q < 2 * x + p
    fewer x z w p q le lt few = omega (arith, le, lt, few)

pub pause_leaves : (topology : Topology) (a b c : History) (before after : ClockSeen) → 2 * work_left topology b < rounds_left topology a → HasPaused b c before after → rounds_left topology c < rounds_left topology a
pause_leaves topology a b c before after less paused =
    subst (λ x. rounds_left topology x < rounds_left topology a) (sym paused.ticks)
    (fewer (work_left topology (Tick (max (now b) paused.reading) ∷ b)) (work_left topology b) (tick_keeps topology b (max (now b) paused.reading)) less)
  where
    fewer : (x y : ℕ) → x ≡ y → 2 * y < rounds_left topology a → 2 * x + 0 < rounds_left topology a
    fewer x y e lt = omega (arith, e, lt)

-- ---- ends

pub no_jobs_out : (topology : Topology) (b : History) → is_legal topology b ≡ true → owed topology b ≡ None → jobs_out topology b ≡ false → JobsOut ≡ move topology b → ⊥
no_jobs_out topology b legal free none e =
    let out : jobs_out topology b ≡ true = subst (IsLegalMove topology b) (sym e) (move_law topology b legal free) in
    let x : false ≡ true = sym none ∙ out in cc

pub drained_at : (topology : Topology) (b : History) → is_legal topology b ≡ true → owed topology b ≡ None → Drained ≡ move topology b → is_drained topology b ≡ true
drained_at topology b legal free e = subst (IsLegalMove topology b) (sym e) (move_law topology b legal free)

pub halted_at : (topology : Topology) (b : History) → is_legal topology b ≡ true → owed topology b ≡ None → Halted ≡ move topology b → (happened is_halt b ≡ true) × (jobs_out topology b ≡ false)
halted_at topology b legal free e =
    let both : (happened is_halt b && not (jobs_out topology b)) ≡ true = subst (IsLegalMove topology b) (sym e) (move_law topology b legal free) in
    (and_left (happened is_halt b) _ both, not_true (jobs_out topology b) (and_right (happened is_halt b) _ both))
