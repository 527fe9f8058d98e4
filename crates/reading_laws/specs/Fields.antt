-- Which steps the fields of a step can hold: numbers of their width, bytes that are bytes, reasons that are reasons.
use Rattle.std.specs.Prelude.{ℕ, List, length}
use Rattle.pipe_types.specs.declared.message.Reply.{Reply}
use Rattle.pipe_types.specs.declared.message.Reply.TheVariants.{Pass, Failed, Raised, Crashed}
use Rattle.pipe_types.specs.declared.message.Outcome.{Outcome}
use Rattle.pipe_types.specs.declared.message.Outcome.TheVariants.{Successful, Failed as FailedOutcome}
use Rattle.pipe_types.specs.declared.message.BatchEnd.{BatchEnd}
use Rattle.pipe_types.specs.declared.message.BatchEnd.TheVariants.{Outcomes, Crashed as BatchCrashed}
use Rattle.pipe_types.specs.declared.step.LateAnswer.{LateAnswer}
use Rattle.pipe_types.specs.declared.step.LateAnswer.TheVariants.{Records, Quiet as LateQuiet, Source, Wrote as LateWrote, Nothing}
use Rattle.pipe_types.specs.declared.step.Step.{Step}
use Rattle.pipe_types.specs.declared.step.Step.TheVariants.{Ask, Fetch, Accept, Quiet, SourceEnd, Dispatch, Take, Done, Gather, Close, Wrote, Child, ChildEnd, Kill, Late, Restart, Tick, Drain, Halt, Refuse}
use Rattle.pipe_model.specs.History.{History}
use Rattle.line_reading.specs.Spelling.{Each, IsByte, IsShort, IsNumber, IsLong, IsStage, IsWhy}

-- ---- items

abbrev pub AreBytes : List ℕ → Type 0
AreBytes bytes = Each IsByte bytes

unfoldable pub IsHeldReply : Reply → Type 0
IsHeldReply (Pass m) = IsShort m.batcher × AreBytes m.key × AreBytes m.payload
IsHeldReply (Failed why) = IsWhy why
IsHeldReply (Raised why) = IsWhy why
IsHeldReply Crashed = Unit {0}

unfoldable pub IsHeldOutcome : Outcome → Type 0
IsHeldOutcome Successful = Unit {0}
IsHeldOutcome (FailedOutcome why) = IsWhy why

unfoldable pub IsHeldEnd : BatchEnd → Type 0
IsHeldEnd (Outcomes outcomes) = Each IsHeldOutcome outcomes
IsHeldEnd BatchCrashed = Unit {0}

unfoldable pub IsHeldAnswer : LateAnswer → Type 0
IsHeldAnswer (Records records) = Each AreBytes records
IsHeldAnswer LateQuiet = Unit {0}
IsHeldAnswer (Source how) = Unit {0}
IsHeldAnswer (LateWrote n end) = IsLong n × IsHeldEnd end
IsHeldAnswer Nothing = Unit {0}

-- ---- steps

unfoldable pub IsHeld : Step → Type 0
IsHeld (Ask u n) = IsStage u.consumer × IsStage u.producer × IsNumber u.generation × IsNumber n
IsHeld (Fetch s n) = IsStage s × IsNumber n
IsHeld (Accept s records) = IsStage s × Each AreBytes records
IsHeld (Quiet s) = IsStage s
IsHeld (SourceEnd s how) = IsStage s
IsHeld (Dispatch s) = IsStage s
IsHeld (Take s u k) = IsStage s × IsStage u.producer × IsNumber u.generation × IsNumber k
IsHeld (Done s replies) = IsStage s × Each IsHeldReply replies
IsHeld (Gather s m) = IsStage s × IsNumber m.0
IsHeld (Close s m trigger) = IsStage s × IsNumber m.0
IsHeld (Wrote s n end) = IsStage s × IsLong n × IsHeldEnd end
IsHeld (Child s m slot) = IsStage s × IsNumber m.0 × IsShort slot
IsHeld (ChildEnd s slot reply) = IsStage s × IsShort slot × IsHeldReply reply
IsHeld (Kill s why) = IsStage s
IsHeld (Late s slot i answer) = IsStage s × IsShort slot × IsNumber i × IsHeldAnswer answer
IsHeld (Restart s) = IsStage s
IsHeld (Tick t) = IsLong t
IsHeld (Drain cause) = Unit {0}
IsHeld Halt = Unit {0}
IsHeld (Refuse line) = IsNumber line

-- each step of a journal
abbrev pub AreHeld : History → Type 0
AreHeld before = Each IsHeld before

-- as many steps as a count of 64 bits can have
abbrev pub IsCountable : List Step → Type 0
IsCountable steps = IsLong (length steps)
