-- A batch with which a handler crashed.
use Rattle.std.proofs.Common.{◌≡◌, ℕ, List, length, Bool, true, false, refl, ap, sym, ◌∙◌, Some, None, Option}
use Rattle.std.specs.Prelude.{◌==◌, ◌&&◌, ◌||◌, is_some, nat_lt}
use Rattle.std.proofs.lemmas.Bool.{eqb-true}
use Rattle.pipe_types.specs.declared.numbers.StageNo.{StageNo}
use Rattle.pipe_types.specs.declared.message.BatchEnd.{BatchEnd}
use Rattle.pipe_types.specs.declared.message.BatchEnd.TheVariants.{Crashed, Outcomes}
use Rattle.pipe_types.specs.declared.message.Message.{Message}
use Rattle.pipe_types.specs.declared.topology.Topology.{Topology}
use Rattle.pipe_types.specs.declared.topology.StageSpec.{StageSpec}
use Rattle.pipe_types.specs.declared.topology.Kind.{Kind}
use Rattle.pipe_types.specs.declared.topology.Kind.TheVariants.{Own}
use Rattle.pipe_types.specs.declared.step.Step.TheVariants.{Wrote}
use Rattle.pipe_types.specs.Stages.{spec_of}
use Rattle.pipe_types.specs.Handlers.{is_own_end, batch_end, batch_text}
use Rattle.pipe_model.specs.History.{History}
use Rattle.pipe_model.specs.Work.{count, batch_of, is_write_end, is_end_by, is_batch_handled}
use Rattle.pipe_model.specs.Legal.{allows}
use Rattle.pipe_laws.proofs.Tests.{and_left, and_right}
use Rattle.pipe_laws.proofs.Allowed.{wrote_facts}
use Rattle.plain_run.specs.Owes.{is_crash}

neither : (a b : Bool) → ((a && false) || (b && false)) ≡ false
neither true true = refl
neither true false = refl
neither false true = refl
neither false false = refl

-- a write ends as a crash only where nothing was written
crash_end : (has_sink : Bool) (handled : BatchEnd) (text : List ℕ) (bytes : ℕ) → is_write_end has_sink handled text bytes Crashed ≡ true → bytes ≡ 0
crash_end has_sink Crashed text bytes h = eqb-true bytes 0 (and_left (bytes == 0) true h)
crash_end false (Outcomes outcomes) text bytes h = let x : false ≡ true = and_right (bytes == 0) false h in cc
crash_end true (Outcomes outcomes) text bytes h = let x : false ≡ true = sym (neither (bytes == length text) (nat_lt bytes (length text))) ∙ h in cc

own_crash : (a b zero : Bool) → ((a && (zero && true)) || (b && (zero && true))) ≡ true → zero ≡ true
own_crash a b true h = refl
own_crash a b false h = sym (neither a b) ∙ h

end_by : (kind : Kind) (has_sink : Bool) (spec : StageSpec) (n : ℕ) (messages : List Message) (bytes : ℕ) → is_end_by kind has_sink spec n messages bytes Crashed ≡ true → bytes ≡ 0
end_by Own has_sink spec n messages bytes h = eqb-true bytes 0 (own_crash (is_own_end messages Crashed) (is_own_end messages Crashed) (bytes == 0) h)
end_by _ has_sink spec n messages bytes h = crash_end has_sink (batch_end spec n messages) (batch_text spec n messages) bytes h

handled : (o : Option StageSpec) (n : ℕ) (messages : List Message) (bytes : ℕ) → is_batch_handled o n messages bytes Crashed ≡ true → bytes ≡ 0
handled None n messages bytes h = let x : false ≡ true = h in cc
handled (Some spec) n messages bytes h = end_by spec.kind (is_some spec.edge) spec n messages bytes h

-- where a crash with a batch may come, nothing was written
pub crash_unwritten : (topology : Topology) (before : History) (s : StageNo) (bytes : ℕ) → allows topology before (Wrote s bytes Crashed) ≡ true → bytes ≡ 0
crash_unwritten topology before s bytes h = handled (spec_of topology s) (count topology before s) (batch_of topology before s) bytes (wrote_facts topology before s bytes Crashed h).handled

-- the step of a crash with a batch
pub crash_as : (topology : Topology) (before : History) (s : StageNo) (bytes : ℕ) (end : BatchEnd) → is_crash end ≡ true → allows topology before (Wrote s bytes end) ≡ true → Wrote s 0 Crashed ≡ Wrote s bytes end
crash_as topology before s bytes Crashed c h = ap (λ (n : ℕ). Wrote s n Crashed) (sym (crash_unwritten topology before s bytes h))
crash_as topology before s bytes (Outcomes outcomes) c h = absurd (let x : false ≡ true = c in cc)
