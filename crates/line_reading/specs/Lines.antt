-- What the line of a step spells: the step, or the first fault. The words of a line stand between single spaces.
use Rattle.std.specs.Prelude.{ℕ, ◌+◌, Bool, true, false, nat_le, if◌then◌else◌, List, [], ◌∷◌, ◌++◌, length, Option, Some, None, Result, Ok, Err, codes, bytes_eq}
use Rattle.std.specs.List.{slice_split}
use Rattle.pipe_types.specs.declared.numbers.StageNo.{StageNo}
use Rattle.pipe_types.specs.declared.numbers.MsgNo.{MsgNo}
use Rattle.pipe_types.specs.declared.numbers.Post.{Post}
use Rattle.pipe_types.specs.declared.message.Reply.{Reply}
use Rattle.pipe_types.specs.declared.message.Reply.TheVariants.{Pass, Failed, Raised, Crashed}
use Rattle.pipe_types.specs.declared.message.Outcome.{Outcome}
use Rattle.pipe_types.specs.declared.message.Outcome.TheVariants.{Successful, Failed as FailedOutcome}
use Rattle.pipe_types.specs.declared.message.BatchEnd.{BatchEnd}
use Rattle.pipe_types.specs.declared.message.BatchEnd.TheVariants.{Outcomes, Crashed as BatchCrashed}
use Rattle.pipe_types.specs.declared.message.Trigger.{Trigger}
use Rattle.pipe_types.specs.declared.message.Trigger.TheVariants.{Size, Flush, Timeout}
use Rattle.pipe_types.specs.declared.message.Why.{Why}
use Rattle.pipe_types.specs.declared.message.Why.TheVariants.{Crash, Kill as KillWhy, Stop}
use Rattle.pipe_types.specs.declared.step.SourceHow.{SourceHow}
use Rattle.pipe_types.specs.declared.step.SourceHow.TheVariants.{End, Fault as FaultHow, TooLong, Limit}
use Rattle.pipe_types.specs.declared.step.DrainCause.{DrainCause}
use Rattle.pipe_types.specs.declared.step.DrainCause.TheVariants.{Sources, Control, Limit as LimitCause, Idle}
use Rattle.pipe_types.specs.declared.step.LateAnswer.{LateAnswer}
use Rattle.pipe_types.specs.declared.step.LateAnswer.TheVariants.{Records, Quiet as LateQuiet, Source, Wrote as LateWrote, Nothing}
use Rattle.pipe_types.specs.declared.step.Step.{Step}
use Rattle.pipe_types.specs.declared.step.Step.TheVariants.{Ask, Fetch, Accept, Quiet, SourceEnd, Dispatch, Take, Done, Gather, Close, Wrote, Child, ChildEnd, Kill, Late, Restart, Tick, Drain, Halt, Refuse}
use Rattle.pipe_types.specs.Numbers.{stage, message_no, subscription, post}
use Rattle.pipe_types.specs.Lines.{max_bytes}
use Rattle.pipe_types.specs.Sound.{is_reason}
use Rattle.line_reading.specs.declared.fault.Fault.{Fault}
use Rattle.line_reading.specs.declared.fault.Fault.TheVariants.{Word, Number, Bytes}
use Rattle.line_reading.specs.Reading.{◌>>=◌, is_at, number_in, bytes_in}

-- ---- numbers of 16, 32 and 64 bits

unfoldable pub short_number : List ℕ → Result ℕ Fault
short_number text = number_in 65535 text

unfoldable pub number : List ℕ → Result ℕ Fault
number text = number_in 4294967295 text

unfoldable pub long_number : List ℕ → Result ℕ Fault
long_number text = number_in 18446744073709551615 text

unfoldable pub stage_in : List ℕ → Result StageNo Fault
stage_in text = short_number text >>= λ s. Ok (stage s)

-- ---- lists

-- an item before others: a number that is wrong counts before bytes that are
abbrev pub before : {A : Type 0} → Result A Fault → Result (List A) Fault → Result (List A) Fault
before (Ok x) (Ok xs) = Ok (x ∷ xs)
before (Ok x) (Err f) = Err f
before (Err Bytes) (Ok xs) = Err Bytes
before (Err Bytes) (Err f) = Err f
before (Err f) others = Err f

-- the items from place i on
abbrev pub items_from : {A : Type 0} → (ℕ → List ℕ → Result A Fault) → ℕ → List (List ℕ) → Result (List A) Fault
items_from read i [] = Ok []
items_from read i (text ∷ texts) = before (read i text) (items_from read (i + 1) texts)

-- what was read, where some of it may be bad
abbrev pub so_far : {A : Type 0} → (bad : Bool) → List A → Result (List A) Fault
so_far true xs = Err Bytes
so_far false xs = Ok xs

-- what was read before what is still read
abbrev pub joined : {A : Type 0} → Result (List A) Fault → Result (List A) Fault → Result (List A) Fault
joined (Ok xs) (Ok ys) = Ok (xs ++ ys)
joined (Ok xs) (Err f) = Err f
joined (Err Bytes) (Ok ys) = Err Bytes
joined (Err Bytes) (Err f) = Err f
joined (Err f) r = Err f

-- items joined by commas (44), each read by its place; there is at least one
unfoldable pub list_in : {A : Type 0} → (ℕ → List ℕ → Result A Fault) → List ℕ → Result (List A) Fault
list_in read text = items_from read 0 (slice_split (is_at 44) text)

abbrev pub record_in : ℕ → List ℕ → Result (List ℕ) Fault
record_in i text = bytes_in text

-- ---- by first word

-- a first word, and the reading of the words behind it
abbrev pub Row : Type 0 → Type 0
Row A = List ℕ × (List (List ℕ) → Result A Fault)

-- by the first row of this word; another word is this fault
abbrev pub by_rows : {A : Type 0} → Fault → List (Row A) → (word : List ℕ) → (others : List (List ℕ)) → Result A Fault
by_rows fault [] w ws = Err fault
by_rows fault (row ∷ rows) w ws = if bytes_eq w row.0 then row.1 ws else by_rows fault rows w ws

abbrev pub by_first : {A : Type 0} → Fault → List (Row A) → List (List ℕ) → Result A Fault
by_first fault rows [] = Err fault
by_first fault rows (w ∷ ws) = by_rows fault rows w ws

-- ---- words of which there are few

-- what the word stands for; another word is this fault
abbrev pub word_in : {A : Type 0} → Fault → List (List ℕ × A) → List ℕ → Result A Fault
word_in fault [] w = Err fault
word_in fault (row ∷ rows) w = if bytes_eq w row.0 then Ok row.1 else word_in fault rows w

abbrev pub how_in : List ℕ → Result SourceHow Fault
how_in = word_in Word ((codes "end", End) ∷ ((codes "fault", FaultHow) ∷ ((codes "toolong", TooLong) ∷ ((codes "limit", Limit) ∷ []))))

abbrev pub cause_in : List ℕ → Result DrainCause Fault
cause_in = word_in Word ((codes "sources", Sources) ∷ ((codes "control", Control) ∷ ((codes "limit", LimitCause) ∷ ((codes "idle", Idle) ∷ []))))

abbrev pub trigger_in : List ℕ → Result Trigger Fault
trigger_in = word_in Word ((codes "size", Size) ∷ ((codes "flush", Flush) ∷ ((codes "timeout", Timeout) ∷ [])))

abbrev pub why_in : List ℕ → Result Why Fault
why_in = word_in Word ((codes "crash", Crash) ∷ ((codes "kill", KillWhy) ∷ ((codes "stop", Stop) ∷ [])))

abbrev pub flag_in : List ℕ → Result Bool Fault
flag_in = word_in Number ((codes "0", false) ∷ ((codes "1", true) ∷ []))

-- ---- replies and outcomes, whose parts stand between colons (58)

abbrev pub reason_in : List ℕ → Result (List ℕ) Fault
reason_in text = bytes_in text >>= λ why. if is_reason (Some why) then Ok why else Err Bytes

-- a key or a payload
abbrev pub limited_in : List ℕ → Result (List ℕ) Fault
limited_in text = bytes_in text >>= λ bytes. if nat_le (length bytes) max_bytes then Ok bytes else Err Bytes

-- a reason and nothing more
unfoldable pub reason_alone : List (List ℕ) → Result (List ℕ) Fault
reason_alone (why ∷ []) = reason_in why
reason_alone _ = Err Bytes

-- the number and the producer of a message, which are not written
abbrev pub Named : Type 0
Named = MsgNo × StageNo

-- which message stands at a place of the job that is out
abbrev pub Jobs : Type 0
Jobs = Post → ℕ → Option Named

abbrev pub named_in : Option Named → Result Named Fault
named_in None = Err Number
named_in (Some named) = Ok named

-- a key and a payload
abbrev pub Contents : Type 0
Contents = List ℕ × List ℕ

abbrev pub contents : (key payload : List ℕ) → Contents
contents key payload = (key, payload)

unfoldable pub contents_in : (key payload : List ℕ) → Result Contents Fault
contents_in key payload = limited_in key >>= λ k. limited_in payload >>= λ p. Ok (contents k p)

abbrev pub passed_in : Option Named → List (List ℕ) → Result Reply Fault
passed_in named (batcher ∷ flush ∷ key ∷ payload ∷ []) =
    short_number batcher >>= λ b. flag_in flush >>= λ f. named_in named >>= λ m. contents_in key payload >>= λ c.
    Ok (Pass (record { no = m.0; producer = m.1; payload = c.1; batcher = b; key = c.0; flush = f }))
passed_in named _ = Err Bytes

abbrev pub failed_in : List (List ℕ) → Result Reply Fault
failed_in ws = reason_alone ws >>= λ why. Ok (Failed why)

abbrev pub raised_in : List (List ℕ) → Result Reply Fault
raised_in ws = reason_alone ws >>= λ why. Ok (Raised why)

abbrev pub crashed_in : List (List ℕ) → Result Reply Fault
crashed_in [] = Ok Crashed
crashed_in _ = Err Bytes

abbrev pub reply_rows : Option Named → List (Row Reply)
reply_rows named = (codes "p", passed_in named) ∷ ((codes "f", failed_in) ∷ ((codes "r", raised_in) ∷ ((codes "c", crashed_in) ∷ [])))

-- a reply, where this message is the one at its place
unfoldable pub reply_in : Option Named → List ℕ → Result Reply Fault
reply_in named text = by_first Bytes (reply_rows named) (slice_split (is_at 58) text)

abbrev pub reply_at : (ℕ → Option Named) → ℕ → List ℕ → Result Reply Fault
reply_at named i text = reply_in (named i) text

abbrev pub successful_in : List (List ℕ) → Result Outcome Fault
successful_in [] = Ok Successful
successful_in _ = Err Bytes

abbrev pub unsuccessful_in : List (List ℕ) → Result Outcome Fault
unsuccessful_in ws = reason_alone ws >>= λ why. Ok (FailedOutcome why)

abbrev pub outcome_rows : List (Row Outcome)
outcome_rows = (codes "s", successful_in) ∷ ((codes "f", unsuccessful_in) ∷ [])

unfoldable pub outcome_in : ℕ → List ℕ → Result Outcome Fault
outcome_in i text = by_first Bytes outcome_rows (slice_split (is_at 58) text)

unfoldable pub ends_in : List ℕ → Result BatchEnd Fault
ends_in text = if bytes_eq text (codes "c") then Ok BatchCrashed else (list_in outcome_in text >>= λ outcomes. Ok (Outcomes outcomes))

-- ---- the words behind the first, by kind; a wrong word counts before a wrong number

abbrev pub ask_in : List (List ℕ) → Result Step Fault
ask_in (c ∷ p ∷ g ∷ n ∷ []) = stage_in c >>= λ c. stage_in p >>= λ p. number g >>= λ g. number n >>= λ n. Ok (Ask (subscription c p g) n)
ask_in _ = Err Word

abbrev pub fetch_in : List (List ℕ) → Result Step Fault
fetch_in (s ∷ n ∷ []) = stage_in s >>= λ s. number n >>= λ n. Ok (Fetch s n)
fetch_in _ = Err Word

abbrev pub accept_in : List (List ℕ) → Result Step Fault
accept_in (s ∷ records ∷ []) = stage_in s >>= λ s. list_in record_in records >>= λ records. Ok (Accept s records)
accept_in _ = Err Word

-- a stage and nothing more
abbrev pub stage_alone : List (List ℕ) → Result StageNo Fault
stage_alone (s ∷ []) = stage_in s
stage_alone _ = Err Word

abbrev pub of_stage : (StageNo → Step) → List (List ℕ) → Result Step Fault
of_stage step ws = stage_alone ws >>= λ s. Ok (step s)

abbrev pub source_in : List (List ℕ) → Result Step Fault
source_in (s ∷ how ∷ []) = how_in how >>= λ how. stage_in s >>= λ s. Ok (SourceEnd s how)
source_in _ = Err Word

abbrev pub take_in : List (List ℕ) → Result Step Fault
take_in (s ∷ p ∷ g ∷ k ∷ []) = stage_in s >>= λ s. stage_in p >>= λ p. number g >>= λ g. number k >>= λ k. Ok (Take s (subscription s p g) k)
take_in _ = Err Word

abbrev pub done_in : Jobs → List (List ℕ) → Result Step Fault
done_in jobs (s ∷ replies ∷ []) = stage_in s >>= λ s. list_in (reply_at (jobs (post s 0))) replies >>= λ replies. Ok (Done s replies)
done_in jobs _ = Err Word

abbrev pub gather_in : List (List ℕ) → Result Step Fault
gather_in (s ∷ m ∷ []) = stage_in s >>= λ s. number m >>= λ m. Ok (Gather s (message_no m))
gather_in _ = Err Word

abbrev pub close_in : List (List ℕ) → Result Step Fault
close_in (s ∷ m ∷ trigger ∷ []) = trigger_in trigger >>= λ trigger. stage_in s >>= λ s. number m >>= λ m. Ok (Close s (message_no m) trigger)
close_in _ = Err Word

abbrev pub wrote_in : List (List ℕ) → Result Step Fault
wrote_in (s ∷ n ∷ ends ∷ []) = stage_in s >>= λ s. long_number n >>= λ n. ends_in ends >>= λ ends. Ok (Wrote s n ends)
wrote_in _ = Err Word

abbrev pub child_in : List (List ℕ) → Result Step Fault
child_in (s ∷ m ∷ slot ∷ []) = stage_in s >>= λ s. number m >>= λ m. short_number slot >>= λ slot. Ok (Child s (message_no m) slot)
child_in _ = Err Word

abbrev pub child_end_in : Jobs → List (List ℕ) → Result Step Fault
child_end_in jobs (s ∷ slot ∷ reply ∷ []) =
    stage_in s >>= λ s. short_number slot >>= λ slot. reply_in (jobs (post s slot) 0) reply >>= λ reply. Ok (ChildEnd s slot reply)
child_end_in jobs _ = Err Word

abbrev pub kill_in : List (List ℕ) → Result Step Fault
kill_in (s ∷ why ∷ []) = why_in why >>= λ why. stage_in s >>= λ s. Ok (Kill s why)
kill_in _ = Err Word

-- the numbers of a late answer, and then the answer
abbrev pub late_by : (s slot i : List ℕ) → Result LateAnswer Fault → Result Step Fault
late_by s slot i answer = stage_in s >>= λ s. short_number slot >>= λ slot. number i >>= λ i. answer >>= λ answer. Ok (Late s slot i answer)

abbrev pub records_answer_in : List ℕ → Result LateAnswer Fault
records_answer_in records = list_in record_in records >>= λ records. Ok (Records records)

abbrev pub wrote_answer_in : (n ends : List ℕ) → Result LateAnswer Fault
wrote_answer_in n ends = long_number n >>= λ n. ends_in ends >>= λ ends. Ok (LateWrote n ends)

abbrev pub late_records_in : (s slot i : List ℕ) → List (List ℕ) → Result Step Fault
late_records_in s slot i (records ∷ []) = late_by s slot i (records_answer_in records)
late_records_in s slot i _ = Err Word

abbrev pub late_alone_in : LateAnswer → (s slot i : List ℕ) → List (List ℕ) → Result Step Fault
late_alone_in answer s slot i [] = late_by s slot i (Ok answer)
late_alone_in answer s slot i _ = Err Word

abbrev pub late_source_in : (s slot i : List ℕ) → List (List ℕ) → Result Step Fault
late_source_in s slot i (how ∷ []) = how_in how >>= λ how. late_by s slot i (Ok (Source how))
late_source_in s slot i _ = Err Word

abbrev pub late_wrote_in : (s slot i : List ℕ) → List (List ℕ) → Result Step Fault
late_wrote_in s slot i (n ∷ ends ∷ []) = late_by s slot i (wrote_answer_in n ends)
late_wrote_in s slot i _ = Err Word

abbrev pub late_rows : (s slot i : List ℕ) → List (Row Step)
late_rows s slot i =
    (codes "records", late_records_in s slot i) ∷ ((codes "quiet", late_alone_in LateQuiet s slot i) ∷ ((codes "source", late_source_in s slot i)
    ∷ ((codes "wrote", late_wrote_in s slot i) ∷ ((codes "none", late_alone_in Nothing s slot i) ∷ []))))

abbrev pub late_in : List (List ℕ) → Result Step Fault
late_in (s ∷ slot ∷ i ∷ w ∷ ws) = by_rows Word (late_rows s slot i) w ws
late_in _ = Err Word

abbrev pub tick_in : List (List ℕ) → Result Step Fault
tick_in (t ∷ []) = long_number t >>= λ t. Ok (Tick t)
tick_in _ = Err Word

abbrev pub drain_in : List (List ℕ) → Result Step Fault
drain_in (cause ∷ []) = cause_in cause >>= λ cause. Ok (Drain cause)
drain_in _ = Err Word

abbrev pub halt_in : List (List ℕ) → Result Step Fault
halt_in [] = Ok Halt
halt_in _ = Err Word

abbrev pub refuse_in : List (List ℕ) → Result Step Fault
refuse_in (line ∷ []) = number line >>= λ line. Ok (Refuse line)
refuse_in _ = Err Word

-- ---- all kinds

-- lines of several numbers, before other rows
unfoldable pub rows_of_numbers : List (Row Step) → List (Row Step)
rows_of_numbers more =
    (codes "ask", ask_in) ∷ ((codes "fetch", fetch_in) ∷ ((codes "take", take_in) ∷ ((codes "gather", gather_in) ∷ ((codes "child", child_in) ∷ more))))

-- lines of one number
unfoldable pub rows_of_one : List (Row Step) → List (Row Step)
rows_of_one more =
    (codes "quiet", of_stage Quiet) ∷ ((codes "dispatch", of_stage Dispatch) ∷ ((codes "restart", of_stage Restart) ∷ ((codes "tick", tick_in) ∷ ((codes "refuse", refuse_in) ∷ more))))

-- lines of a word of few, and the line of no more words
unfoldable pub rows_of_words : List (Row Step) → List (Row Step)
rows_of_words more =
    (codes "source", source_in) ∷ ((codes "close", close_in) ∷ ((codes "kill", kill_in) ∷ ((codes "drain", drain_in) ∷ ((codes "halt", halt_in) ∷ more))))

-- lines of lists and replies
unfoldable pub rows_of_lists : Jobs → List (Row Step)
rows_of_lists jobs =
    (codes "accept", accept_in) ∷ ((codes "done", done_in jobs) ∷ ((codes "wrote", wrote_in) ∷ ((codes "childend", child_end_in jobs) ∷ ((codes "late", late_in) ∷ []))))

-- the readings, by first word
unfoldable pub rows : Jobs → List (Row Step)
rows jobs = rows_of_numbers (rows_of_one (rows_of_words (rows_of_lists jobs)))

-- the step that a line spells, without its LF
abbrev pub step_in : Jobs → List ℕ → Result Step Fault
step_in jobs line = by_first Word (rows jobs) (slice_split (is_at 32) line)
