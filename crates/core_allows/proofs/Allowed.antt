-- What is tested of a step, and the model's test.
use Rattle.std.proofs.Common.{◌≡◌, [], ◌∷◌, Bool, true, false, refl, ap, sym, ◌∙◌, None}
use Rattle.std.specs.Prelude.{◌&&◌, ◌||◌, ◌==◌, not}
use Rattle.pipe_types.specs.declared.topology.Topology.{Topology}
use Rattle.pipe_types.specs.declared.step.LateAnswer.TheVariants.{Records, Quiet as QuietAnswer, Source, Wrote as WroteAnswer, Nothing}
use Rattle.pipe_types.specs.declared.step.Step.{Step}
use Rattle.pipe_types.specs.declared.step.Step.TheVariants.{Done, Wrote, ChildEnd, Late}
use Rattle.pipe_types.specs.Numbers.{post}
use Rattle.pipe_types.specs.Stages.{spec_of}
use Rattle.pipe_model.specs.History.{History, incarnation}
use Rattle.pipe_model.specs.Posts.{is_out, out_from}
use Rattle.pipe_model.specs.Flow.{chunk_by, view_of}
use Rattle.pipe_model.specs.Work.{are_handled, count, chunk_of, child_of}
use Rattle.pipe_model.specs.Lives.{is_live}
use Rattle.pipe_model.specs.Legal.{allows, may_come, owed, passes, happened, is_halt, is_late, has_role, is_processor_role, is_batch_processor_role, is_supervisor_role, is_current, ends_batch}
use Rattle.core_state.specs.declared.state.Core.{Core}
use Rattle.core_state.specs.Stands.{Stands}
use Rattle.core_allows.specs.Tested.{may_come_tested, allows_tested, answers_each, is_given, is_handled}
use Rattle.core_allows.proofs.Held.{and_parts, but_last}
use Rattle.core_allows.proofs.Late.{late_model}
use Rattle.core_allows.proofs.Replied.{done_model}

-- where none is owed
free_is : (topology : Topology) (before : History) (step : Step) → owed topology before ≡ None → allows topology before step ≡ ((not (happened is_halt before) || is_late step) && may_come topology before step)
free_is topology before step free = ap (λ o. (not (happened is_halt before) || is_late step) && passes o step (may_come topology before step)) free

tested_is : (topology : Topology) (before : History) (step : Step) → is_handled step ≡ false → may_come_tested topology before step ≡ may_come topology before step
tested_is topology before (Done s replies) h = cc
tested_is topology before (Wrote s bytes end) h = cc
tested_is topology before (ChildEnd s slot reply) h = cc
tested_is topology before (Late s slot i (Records records)) h = refl
tested_is topology before (Late s slot i QuietAnswer) h = refl
tested_is topology before (Late s slot i (Source how)) h = refl
tested_is topology before (Late s slot i (WroteAnswer bytes end)) h = cc
tested_is topology before (Late s slot i Nothing) h = refl
tested_is topology before _ h = refl

-- where no handler gave anything, all is tested
pub same_law : (topology : Topology) (before : History) (step : Step) → owed topology before ≡ None → is_handled step ≡ false → allows_tested topology before step ≡ allows topology before step
same_law topology before step free h =
    ap (λ b. (not (happened is_halt before) || is_late step) && b) (tested_is topology before step h) ∙ sym (free_is topology before step free)

row_law : (core : Core) (step : Step) → Stands core → may_come core.topology core.journal.steps step ≡ true → may_come_tested core.topology core.journal.steps step ≡ true
row_law core (Done s replies) x h = done_model core.topology core.journal.steps s replies x.holds.sound x.holds.legal x.unowed h
row_law core (Wrote s bytes end) x h = but_last (is_live core.topology core.journal.steps s) (has_role core.topology s is_batch_processor_role) (is_current core.journal.steps s 0) _ h
row_law core (ChildEnd s slot reply) x h = but_last (is_live core.topology core.journal.steps s) (has_role core.topology s is_supervisor_role) (is_current core.journal.steps s slot) _ h
row_law core (Late s slot i answer) x h = late_model core.topology core.journal.steps s slot i answer h
row_law core _ x h = h

-- what the model allows passes the test
pub model_law : (core : Core) (step : Step) → Stands core → allows core.topology core.journal.steps step ≡ true → allows_tested core.topology core.journal.steps step ≡ true
model_law core step x h =
    by (not (happened is_halt core.journal.steps) || is_late step) (may_come core.topology core.journal.steps step) (may_come_tested core.topology core.journal.steps step) (row_law core step x) (sym (free_is core.topology core.journal.steps step x.unowed) ∙ h)
  where
    by : (a m n : Bool) → (m ≡ true → n ≡ true) → (a && m) ≡ true → (a && n) ≡ true
    by false m n f h = h
    by true m n f h = f h

-- What handlers gave beside what is tested

end_true : (b : Bool) → b ≡ (b && true)
end_true true = refl
end_true false = refl

-- of four tests the last is told apart, and what it implies is tested in its place
apart_weaker : (a b c d e : Bool) → ((a && (b && (c && d))) ≡ true → (a && (b && (c && e))) ≡ true) → (a && (b && (c && d))) ≡ ((a && (b && (c && e))) && d)
apart_weaker false b c d e f = refl
apart_weaker true false c d e f = refl
apart_weaker true true false d e f = refl
apart_weaker true true true true e f = sym (ap (λ x. x && true) (f refl))
apart_weaker true true true false true f = refl
apart_weaker true true true false false f = refl

apart_last : (a b c d : Bool) → (a && (b && (c && d))) ≡ ((a && (b && c)) && d)
apart_last false b c d = refl
apart_last true false c d = refl
apart_last true true false d = refl
apart_last true true true d = refl

apart_fifth : (a b c d e : Bool) → (a && (b && (c && (d && e)))) ≡ ((a && (b && (c && d))) && e)
apart_fifth false b c d e = refl
apart_fifth true b c d e = apart_last b c d e

row_given : (core : Core) (step : Step) → Stands core
    → may_come core.topology core.journal.steps step ≡ (may_come_tested core.topology core.journal.steps step && is_given core.topology core.journal.steps step)
row_given core (Done s replies) x =
    apart_weaker (is_live core.topology core.journal.steps s) (has_role core.topology s is_processor_role) (is_current core.journal.steps s 0)
    (are_handled (spec_of core.topology s) (count core.topology core.journal.steps s) (chunk_of core.topology core.journal.steps s) replies)
    (answers_each (chunk_by (view_of core.topology core.journal.steps) s) replies)
    (done_model core.topology core.journal.steps s replies x.holds.sound x.holds.legal x.unowed)
row_given core (Wrote s bytes end) x =
    apart_last (is_live core.topology core.journal.steps s) (has_role core.topology s is_batch_processor_role) (is_current core.journal.steps s 0) (ends_batch core.topology core.journal.steps s bytes end)
row_given core (ChildEnd s slot reply) x =
    apart_last (is_live core.topology core.journal.steps s) (has_role core.topology s is_supervisor_role) (is_current core.journal.steps s slot)
    (are_handled (spec_of core.topology s) 0 (child_of core.journal.steps s slot) (reply ∷ []))
row_given core (Late s slot i (WroteAnswer bytes end)) x =
    apart_fifth (is_out core.journal.steps (post s slot)) (out_from core.journal.steps (post s slot) == i)
    (not (is_live core.topology core.journal.steps s && incarnation core.journal.steps s == i)) (has_role core.topology s is_batch_processor_role) (ends_batch core.topology core.journal.steps s bytes end)
row_given core (Late s slot i (Records records)) x = end_true (may_come core.topology core.journal.steps (Late s slot i (Records records)))
row_given core (Late s slot i QuietAnswer) x = end_true (may_come core.topology core.journal.steps (Late s slot i QuietAnswer))
row_given core (Late s slot i (Source how)) x = end_true (may_come core.topology core.journal.steps (Late s slot i (Source how)))
row_given core (Late s slot i Nothing) x = end_true (may_come core.topology core.journal.steps (Late s slot i Nothing))
row_given core step x = end_true (may_come core.topology core.journal.steps step)

-- a step is legal where it passes the test and what it has of handlers is theirs
pub legal_law : (core : Core) (step : Step) → Stands core
    → allows core.topology core.journal.steps step ≡ (allows_tested core.topology core.journal.steps step && is_given core.topology core.journal.steps step)
legal_law core step x =
    free_is core.topology core.journal.steps step x.unowed
    ∙ (ap (λ b. (not (happened is_halt core.journal.steps) || is_late step) && b) (row_given core step x)
    ∙ sym (and_parts (not (happened is_halt core.journal.steps) || is_late step) (may_come_tested core.topology core.journal.steps step) (is_given core.topology core.journal.steps step)))
