-- In a legal history no subscription has more pending than its greatest demand.
use Rattle.std.proofs.Common.{◌≡◌, ℕ, ◌+◌, ◌-◌, ◌≤◌, [], ◌∷◌, Bool, true, false, refl, Some, None, arith}
use Rattle.std.specs.Prelude.{if◌then◌else◌, nat_le, ◌&&◌, ◌==◌, ◌||◌, not}
use Rattle.std.proofs.lemmas.Bool.{eqb-true}
use Rattle.pipe_types.specs.declared.numbers.SubNo.{SubNo}
use Rattle.pipe_types.specs.declared.topology.Topology.{Topology}
use Rattle.pipe_types.specs.declared.message.BatchEnd.TheVariants.{Outcomes, Crashed}
use Rattle.pipe_types.specs.declared.step.Step.{Step}
use Rattle.pipe_types.specs.declared.step.Step.TheVariants.{Ask, Accept, Done, Gather, Wrote, ChildEnd}
use Rattle.pipe_types.specs.Numbers.{same_sub}
use Rattle.pipe_types.specs.Stages.{spec_of}
use Rattle.pipe_model.specs.History.{History, asked}
use Rattle.pipe_model.specs.Posts.{in_slot}
use Rattle.pipe_model.specs.Lives.{is_live_sub}
use Rattle.pipe_model.specs.Content.{has_crash}
use Rattle.pipe_model.specs.Flow.{place, sent_to, runs_again, in_inbox_by}
use Rattle.pipe_model.specs.Ledger.{handled, handled_after, crashed_reply, crashes_of, came_on, pending, due, max_in, min_in}
use Rattle.pipe_model.specs.Legal.{is_legal, allows, owed, passes, may_come, may_dispatch, happened, is_halt, is_late, is_dispatch_of, is_crash_of}
use Rattle.pipe_laws.proofs.Tests.{same_sub-true}
use Rattle.pipe_laws.proofs.Tests.{and_left, and_right}

choice_grows : (b : Bool) (x y old : ℕ) → old ≤ x → old ≤ y → old ≤ (if b then x else y)
choice_grows true x y old p q = p
choice_grows false x y old p q = q

-- the count of what was handled never falls
pub handled_grows : (topology : Topology) (before : History) (step : Step) (u : SubNo) (old : ℕ) → old ≤ handled_after topology before step u old
handled_grows topology before (Done s replies) u old = choice_grows (has_crash replies) _ _ old (omega arith) (omega arith)
handled_grows topology before (Wrote s bytes (Outcomes outcomes)) u old = omega arith
handled_grows topology before (Gather s m) u old = choice_grows (in_inbox_by u (place topology before m.0)) _ _ old (omega arith) (omega arith)
handled_grows topology before (ChildEnd s slot reply) u old =
    choice_grows (crashed_reply reply && runs_again (spec_of topology s) (crashes_of before (in_slot before s slot))) _ _ old (omega arith)
    (choice_grows (came_on (sent_to topology before s) (in_slot before s slot) u) _ _ old (omega arith) (omega arith))
handled_grows topology before _ u old = omega arith

unowed_either : (b : Bool) (test : Step → Bool) (step : Step) (otherwise : Bool) → test step ≡ false → passes (if b then Some test else None) step otherwise ≡ true → otherwise ≡ true
unowed_either true test step otherwise refused h = cc
unowed_either false test step otherwise refused h = h

-- no ask is owed
ask_unowed : (topology : Topology) (before : History) (v : SubNo) (n : ℕ) (otherwise : Bool) → passes (owed topology before) (Ask v n) otherwise ≡ true → otherwise ≡ true
ask_unowed topology [] v n otherwise h = h
ask_unowed topology (Accept s records ∷ before) v n otherwise h =
    unowed_either (may_dispatch topology (Accept s records ∷ before) s) (is_dispatch_of s) (Ask v n) otherwise refl h
ask_unowed topology (Done s replies ∷ before) v n otherwise h =
    unowed_either (has_crash replies) (is_crash_of s) (Ask v n) otherwise refl h
ask_unowed topology (Wrote s bytes Crashed ∷ before) v n otherwise h = cc
ask_unowed topology (_ ∷ before) v n otherwise h = h

ask_due : (topology : Topology) (before : History) (v : SubNo) (n : ℕ) → allows topology before (Ask v n) ≡ true → n ≡ due topology before v
ask_due topology before v n h =
    eqb-true n (due topology before v)
    (and_right (nat_le 1 n) (n == due topology before v)
    (ask_unowed topology before v n (may_come topology before (Ask v n))
    (and_right (not (happened is_halt before) || is_late (Ask v n)) (passes (owed topology before) (Ask v n) (may_come topology before (Ask v n))) h)))

due_fits : (topology : Topology) (before : History) (u : SubNo) → due topology before u ≤ max_in (spec_of topology u.consumer) - pending topology before u
due_fits topology before u = either (is_live_sub topology before u && nat_le (pending topology before u) (min_in (spec_of topology u.consumer)))
  where
    either : (b : Bool) → (if b then max_in (spec_of topology u.consumer) - pending topology before u else 0) ≤ max_in (spec_of topology u.consumer) - pending topology before u
    either true = omega arith
    either false = omega arith

pub pending_within : (topology : Topology) (before : History) (u : SubNo) → is_legal topology before ≡ true → pending topology before u ≤ max_in (spec_of topology u.consumer)
pending_within topology [] u h = omega arith
pending_within topology (Ask v n ∷ before) u h =
    either (same_sub v u) refl (pending_within topology before u (and_left _ _ h)) (ask_due topology before v n (and_right _ _ h))
  where
    either : (b : Bool) → same_sub v u ≡ b → pending topology before u ≤ max_in (spec_of topology u.consumer) → n ≡ due topology before v → (if b then asked before u + n else asked before u) - handled topology before u ≤ max_in (spec_of topology u.consumer)
    either true same within is =
        let fits : n ≤ max_in (spec_of topology u.consumer) - pending topology before u = rw (is, same_sub-true v u same) (due_fits topology before u) in
        omega arith
    either false other within is = within
pending_within topology (step ∷ before) u h =
    let within : pending topology before u ≤ max_in (spec_of topology u.consumer) = pending_within topology before u (and_left _ _ h) in
    omega (arith, handled_grows topology before step u (handled topology before u))
