-- A step that is allowed is the one that its call appends, and an answer that is no crash.
use Rattle.std.proofs.Common.{◌≡◌, ◌≤◌, ℕ, true, false, refl, ap, None}
use Rattle.std.specs.Prelude.{◌==◌, nat_le}
use Rattle.std.proofs.lemmas.Bool.{eqb-true, le-leb}
use Rattle.pipe_types.specs.declared.numbers.StageNo.{StageNo}
use Rattle.pipe_types.specs.declared.numbers.SubNo.{SubNo}
use Rattle.pipe_types.specs.declared.numbers.MsgNo.{MsgNo}
use Rattle.pipe_types.specs.declared.message.BatchEnd.{BatchEnd}
use Rattle.pipe_types.specs.declared.message.BatchEnd.TheVariants.{Crashed, Outcomes}
use Rattle.pipe_types.specs.declared.topology.Topology.{Topology}
use Rattle.pipe_types.specs.declared.step.Step.TheVariants.{Ask, Gather, Tick}
use Rattle.pipe_types.specs.Numbers.{message_no}
use Rattle.pipe_model.specs.History.{History, now}
use Rattle.pipe_model.specs.Ledger.{due}
use Rattle.pipe_model.specs.Flow.{inbox}
use Rattle.pipe_model.specs.Legal.{allows, owed, happened, is_halt, first_unit}
use Rattle.move_laws.proofs.Legality.{may_allow}
use Rattle.pipe_laws.proofs.Tests.{and_right}
use Rattle.pipe_laws.proofs.Allowed.{unowed, gather_facts}
use Rattle.core_batches.specs.Writes.{IsAnswered}
use Rattle.stage_bodies.specs.Posts.{is_crashed_end}

-- an ask that is allowed is of the size that is due
pub ask_due : (topology : Topology) (before : History) (u : SubNo) (n : ℕ) → allows topology before (Ask u n) ≡ true → n ≡ due topology before u
ask_due topology before u n h = eqb-true n (due topology before u) (and_right (nat_le 1 n) (n == due topology before u) (unowed topology before (Ask u n) (λ t. refl) (λ t. refl) h))

-- a gather that is allowed is of the first message of the inbox
pub gather_first : (topology : Topology) (before : History) (s : StageNo) (m : MsgNo) → allows topology before (Gather s m) ≡ true → m ≡ message_no (first_unit (inbox topology before s))
gather_first topology before s m h = ap message_no (gather_facts topology before s m h).first

-- a tick that is not before the last may come
pub tick_legal : (topology : Topology) (before : History) (t : ℕ) → owed topology before ≡ None → happened is_halt before ≡ false → now before ≤ t → allows topology before (Tick t) ≡ true
tick_legal topology before t free going h = may_allow topology before (Tick t) free going (le-leb (now before) t h)

-- an end that is no crash has outcomes
pub calm_end : (end : BatchEnd) → is_crashed_end end ≡ false → IsAnswered end
calm_end (Outcomes outcomes) h = record { outcomes = outcomes; is = refl }
calm_end Crashed h = let x : true ≡ false = h in cc
