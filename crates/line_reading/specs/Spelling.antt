-- Which steps a line can spell: the numbers fit their fields, bytes are bytes, lists have items, reasons are reasons, and each
-- message that passes is the one at its place of the job.
use Rattle.std.specs.Prelude.{◌≡◌, ℕ, ◌+◌, ◌<◌, ◌≤◌, true, List, [], ◌∷◌, length, Option, Some}
use Rattle.pipe_types.specs.declared.numbers.StageNo.{StageNo}
use Rattle.pipe_types.specs.declared.message.Reply.{Reply}
use Rattle.pipe_types.specs.declared.message.Reply.TheVariants.{Pass, Failed, Raised, Crashed}
use Rattle.pipe_types.specs.declared.message.Outcome.{Outcome}
use Rattle.pipe_types.specs.declared.message.Outcome.TheVariants.{Successful, Failed as FailedOutcome}
use Rattle.pipe_types.specs.declared.message.BatchEnd.{BatchEnd}
use Rattle.pipe_types.specs.declared.message.BatchEnd.TheVariants.{Outcomes, Crashed as BatchCrashed}
use Rattle.pipe_types.specs.declared.message.Why.{Why}
use Rattle.pipe_types.specs.declared.message.Why.TheVariants.{Crash, Kill as KillWhy, Stop}
use Rattle.pipe_types.specs.declared.step.LateAnswer.{LateAnswer}
use Rattle.pipe_types.specs.declared.step.LateAnswer.TheVariants.{Records, Quiet as LateQuiet, Source, Wrote as LateWrote, Nothing}
use Rattle.pipe_types.specs.declared.step.Step.{Step}
use Rattle.pipe_types.specs.declared.step.Step.TheVariants.{Ask, Fetch, Accept, Quiet, SourceEnd, Dispatch, Take, Done, Gather, Close, Wrote, Child, ChildEnd, Kill, Late, Restart, Tick, Drain, Halt, Refuse}
use Rattle.pipe_types.specs.Numbers.{post}
use Rattle.pipe_types.specs.Lines.{max_bytes}
use Rattle.pipe_types.specs.Sound.{is_reason}
use Rattle.line_reading.specs.Lines.{Named, Jobs}

-- ---- words

-- each has it
abbrev pub Each : {A : Type 0} → (A → Type 0) → List A → Type 0
Each P [] = Unit {0}
Each P (x ∷ xs) = P x × Each P xs

-- each has it at its place, the first at place i
abbrev pub EachFrom : {A : Type 0} → (ℕ → A → Type 0) → ℕ → List A → Type 0
EachFrom P i [] = Unit {0}
EachFrom P i (x ∷ xs) = P i x × EachFrom P (i + 1) xs

abbrev pub IsByte : ℕ → Type 0
IsByte b = b < 256

-- numbers of 16, 32 and 64 bits
abbrev pub IsShort : ℕ → Type 0
IsShort n = n ≤ 65535

abbrev pub IsNumber : ℕ → Type 0
IsNumber n = n ≤ 4294967295

abbrev pub IsLong : ℕ → Type 0
IsLong n = n ≤ 18446744073709551615

abbrev pub IsStage : StageNo → Type 0
IsStage s = IsShort s.0

-- ---- items

abbrev pub IsRecord : ℕ → List ℕ → Type 0
IsRecord i bytes = Each IsByte bytes

-- a key or a payload
pub record IsLimited (text : List ℕ) : Type 0 where
  pub bytes : Each IsByte text
  pub short : length text ≤ max_bytes

pub record IsWhy (why : List ℕ) : Type 0 where
  pub bytes : Each IsByte why
  pub reason : is_reason (Some why) ≡ true

-- where this message stands at the place of the reply
unfoldable pub IsReply : Option Named → Reply → Type 0
IsReply named (Pass m) = (named ≡ Some (m.no, m.producer)) × IsShort m.batcher × IsLimited m.key × IsLimited m.payload
IsReply named (Failed why) = IsWhy why
IsReply named (Raised why) = IsWhy why
IsReply named Crashed = Unit {0}

abbrev pub IsReplyAt : (ℕ → Option Named) → ℕ → Reply → Type 0
IsReplyAt named i reply = IsReply (named i) reply

unfoldable pub IsOutcome : ℕ → Outcome → Type 0
IsOutcome i Successful = Unit {0}
IsOutcome i (FailedOutcome why) = IsWhy why

-- at least one item, and each has it at its place
pub record AreItems {A : Type 0} (P : ℕ → A → Type 0) (items : List A) : Type 0 where
  pub some : 1 ≤ length items
  pub each : EachFrom P 0 items

unfoldable pub IsEnd : BatchEnd → Type 0
IsEnd (Outcomes outcomes) = AreItems IsOutcome outcomes
IsEnd BatchCrashed = Unit {0}

-- the reasons that have a word
unfoldable pub IsKillWhy : Why → Type 0
IsKillWhy Crash = Unit {0}
IsKillWhy KillWhy = Unit {0}
IsKillWhy Stop = Unit {0}
IsKillWhy _ = ⊥

unfoldable pub IsAnswer : LateAnswer → Type 0
IsAnswer (Records records) = AreItems IsRecord records
IsAnswer LateQuiet = Unit {0}
IsAnswer (Source how) = Unit {0}
IsAnswer (LateWrote n end) = IsLong n × IsEnd end
IsAnswer Nothing = Unit {0}

-- ---- steps

unfoldable pub IsSpelt : Jobs → Step → Type 0
IsSpelt jobs (Ask u n) = IsStage u.consumer × IsStage u.producer × IsNumber u.generation × IsNumber n
IsSpelt jobs (Fetch s n) = IsStage s × IsNumber n
IsSpelt jobs (Accept s records) = IsStage s × AreItems IsRecord records
IsSpelt jobs (Quiet s) = IsStage s
IsSpelt jobs (SourceEnd s how) = IsStage s
IsSpelt jobs (Dispatch s) = IsStage s
IsSpelt jobs (Take s u k) = IsStage s × (u.consumer ≡ s) × IsStage u.producer × IsNumber u.generation × IsNumber k
IsSpelt jobs (Done s replies) = IsStage s × AreItems (IsReplyAt (jobs (post s 0))) replies
IsSpelt jobs (Gather s m) = IsStage s × IsNumber m.0
IsSpelt jobs (Close s m trigger) = IsStage s × IsNumber m.0
IsSpelt jobs (Wrote s n end) = IsStage s × IsLong n × IsEnd end
IsSpelt jobs (Child s m slot) = IsStage s × IsNumber m.0 × IsShort slot
IsSpelt jobs (ChildEnd s slot reply) = IsStage s × IsShort slot × IsReply (jobs (post s slot) 0) reply
IsSpelt jobs (Kill s why) = IsStage s × IsKillWhy why
IsSpelt jobs (Late s slot i answer) = IsStage s × IsShort slot × IsNumber i × IsAnswer answer
IsSpelt jobs (Restart s) = IsStage s
IsSpelt jobs (Tick t) = IsLong t
IsSpelt jobs (Drain cause) = Unit {0}
IsSpelt jobs Halt = Unit {0}
IsSpelt jobs (Refuse line) = IsNumber line
