-- The kill that a crash owes, and a batch with which a handler crashed.
use Rattle.std.proofs.Common.{◌≡◌, ℕ, List, [], ◌∷◌, length, Bool, true, false, refl, ap, sym, ◌∙◌, Some, None, Option}
use Rattle.std.specs.Prelude.{◌==◌, ◌&&◌, ◌||◌, is_some, nat_lt}
use Rattle.std.specs.List.{list_any}
use Rattle.std.proofs.lemmas.Bool.{eqb-true}
use Rattle.pipe_types.specs.declared.numbers.StageNo.{StageNo}
use Rattle.pipe_types.specs.declared.message.BatchEnd.{BatchEnd}
use Rattle.pipe_types.specs.declared.message.BatchEnd.TheVariants.{Crashed, Outcomes}
use Rattle.pipe_types.specs.declared.message.Message.{Message}
use Rattle.pipe_types.specs.declared.message.Reply.{Reply}
use Rattle.pipe_types.specs.declared.message.Reply.TheVariants.{Pass, Failed, Raised, Crashed as CrashedReply}
use Rattle.pipe_types.specs.declared.message.Why.TheVariants.{Crash}
use Rattle.pipe_types.specs.declared.topology.Topology.{Topology}
use Rattle.pipe_types.specs.declared.topology.StageSpec.{StageSpec}
use Rattle.pipe_types.specs.declared.topology.Kind.{Kind}
use Rattle.pipe_types.specs.declared.topology.Kind.TheVariants.{Own}
use Rattle.pipe_types.specs.declared.step.Step.TheVariants.{Accept, Done, Wrote, Kill}
use Rattle.pipe_types.specs.Stages.{spec_of}
use Rattle.pipe_model.specs.History.{History}
use Rattle.pipe_model.specs.Content.{has_crash}
use Rattle.pipe_model.specs.Ledger.{crashed_reply}
use Rattle.pipe_types.specs.Handlers.{is_own_end, batch_end, batch_text}
use Rattle.pipe_model.specs.Work.{count, batch_of, is_write_end, is_end_by, is_batch_handled}
use Rattle.pipe_model.specs.Legal.{is_legal, allows, owed, happened, is_halt, is_crash_of}
use Rattle.pipe_laws.proofs.Tests.{and_left, and_right, same_stage-self}
use Rattle.pipe_laws.proofs.Allowed.{legal_step, wrote_facts, not_halted}
use Rattle.stage_bodies.specs.Posts.{is_crashed_end}
use Rattle.core_jobs.specs.Recorded.{and_kill}

-- ---- the kill that is owed

-- a pipeline that owes a kill has not halted
owing_goes : (topology : Topology) (steps : History) (s : StageNo) → is_legal topology steps ≡ true → owed topology steps ≡ Some (is_crash_of s) → happened is_halt steps ≡ false
owing_goes topology [] s legal o = let x : None ≡ Some (is_crash_of s) = o in cc
owing_goes topology (Accept t records ∷ before) s legal o = not_halted topology before (Accept t records) refl (legal_step topology before (Accept t records) legal)
owing_goes topology (Done t replies ∷ before) s legal o = not_halted topology before (Done t replies) refl (legal_step topology before (Done t replies) legal)
owing_goes topology (Wrote t bytes end ∷ before) s legal o = not_halted topology before (Wrote t bytes end) refl (legal_step topology before (Wrote t bytes end) legal)
owing_goes topology (step ∷ before) s legal o = let x : None ≡ Some (is_crash_of s) = o in cc

-- the kill of the stage may come where it is owed
pub owed_kill : (topology : Topology) (steps : History) (s : StageNo) → is_legal topology steps ≡ true → owed topology steps ≡ Some (is_crash_of s) → allows topology steps (Kill s Crash) ≡ true
owed_kill topology steps s legal o = rw (o, owing_goes topology steps s legal o) (same_stage-self s)

-- ---- the core with more room

-- ---- crashes

-- one of the replies is a crash
pub any_crashed : (replies : List Reply) → list_any crashed_reply replies ≡ has_crash replies
any_crashed [] = refl
any_crashed (CrashedReply ∷ replies) = refl
any_crashed (Pass message ∷ replies) = any_crashed replies
any_crashed (Failed why ∷ replies) = any_crashed replies
any_crashed (Raised why ∷ replies) = any_crashed replies

neither : (a b : Bool) → ((a && false) || (b && false)) ≡ false
neither true true = refl
neither true false = refl
neither false true = refl
neither false false = refl

-- a write ends as a crash only where nothing was written
crash_end : (has_sink : Bool) (handled : BatchEnd) (text : List ℕ) (bytes : ℕ) → is_write_end has_sink handled text bytes Crashed ≡ true → bytes ≡ 0
crash_end has_sink Crashed text bytes h = eqb-true bytes 0 (and_left (bytes == 0) true h)
crash_end false (Outcomes outcomes) text bytes h = let x : false ≡ true = and_right (bytes == 0) false h in cc
crash_end true (Outcomes outcomes) text bytes h = let x : false ≡ true = sym (neither (bytes == length text) (nat_lt bytes (length text))) ∙ h in cc

own_crash : (a b zero : Bool) → ((a && (zero && true)) || (b && (zero && true))) ≡ true → zero ≡ true
own_crash a b true h = refl
own_crash a b false h = sym (neither a b) ∙ h

end_by : (kind : Kind) (has_sink : Bool) (spec : StageSpec) (n : ℕ) (messages : List Message) (bytes : ℕ) → is_end_by kind has_sink spec n messages bytes Crashed ≡ true → bytes ≡ 0
end_by Own has_sink spec n messages bytes h = eqb-true bytes 0 (own_crash (is_own_end messages Crashed) (is_own_end messages Crashed) (bytes == 0) h)
end_by _ has_sink spec n messages bytes h = crash_end has_sink (batch_end spec n messages) (batch_text spec n messages) bytes h

handled : (o : Option StageSpec) (n : ℕ) (messages : List Message) (bytes : ℕ) → is_batch_handled o n messages bytes Crashed ≡ true → bytes ≡ 0
handled None n messages bytes h = let x : false ≡ true = h in cc
handled (Some spec) n messages bytes h = end_by spec.kind (is_some spec.edge) spec n messages bytes h

-- where a crash with a batch may come, nothing was written
pub crash_unwritten : (topology : Topology) (before : History) (s : StageNo) (bytes : ℕ) → allows topology before (Wrote s bytes Crashed) ≡ true → bytes ≡ 0
crash_unwritten topology before s bytes h = handled (spec_of topology s) (count topology before s) (batch_of topology before s) bytes (wrote_facts topology before s bytes Crashed h).handled

-- the step of a crash with a batch
pub crash_as : (topology : Topology) (before : History) (s : StageNo) (bytes : ℕ) (end : BatchEnd) → is_crashed_end end ≡ true → allows topology before (Wrote s bytes end) ≡ true → Wrote s 0 Crashed ≡ Wrote s bytes end
crash_as topology before s bytes Crashed c h = ap (λ (n : ℕ). Wrote s n Crashed) (sym (crash_unwritten topology before s bytes h))
crash_as topology before s bytes (Outcomes outcomes) c h = absurd (let x : false ≡ true = c in cc)

-- ---- what is appended

-- what the test of the replies says
pub crash_read : (replies seen : List Reply) (r b : Bool) → seen ≡ replies → r ≡ list_any crashed_reply seen → r ≡ b → has_crash replies ≡ b
crash_read replies seen r b same is e = sym (any_crashed replies) ∙ (ap (list_any crashed_reply) (sym same) ∙ (sym is ∙ e))

pub with_kill : (crashed : Bool) (s : StageNo) (steps : History) → crashed ≡ true → Kill s Crash ∷ steps ≡ and_kill crashed s steps
with_kill crashed s steps e = ap (λ b. and_kill b s steps) (sym e)

pub without_kill : (crashed : Bool) (s : StageNo) (steps : History) → crashed ≡ false → steps ≡ and_kill crashed s steps
without_kill crashed s steps e = ap (λ b. and_kill b s steps) (sym e)
