-- How often what came in a journal.
use Rattle.std.specs.Prelude.{ℕ, ◌+◌, [], ◌∷◌, Bool, true, false, if◌then◌else◌, not, ◌==◌, ◌&&◌, ◌||◌}
use Rattle.pipe_types.specs.declared.numbers.StageNo.{StageNo}
use Rattle.pipe_types.specs.declared.numbers.Post.{Post}
use Rattle.pipe_types.specs.declared.topology.Topology.{Topology}
use Rattle.pipe_types.specs.declared.step.Step.{Step}
use Rattle.pipe_types.specs.declared.step.Step.TheVariants.{Accept, Take, Gather, Close, Dispatch, Child, Kill, Halt, Ask}
use Rattle.pipe_types.specs.Numbers.{same_stage, same_sub}
use Rattle.pipe_types.specs.Stages.{spec_of}
use Rattle.pipe_types.specs.declared.message.Why.TheVariants.{Crash}
use Rattle.pipe_model.specs.History.{History}
use Rattle.pipe_model.specs.Counting.{as_number}
use Rattle.pipe_model.specs.Posts.{answers, puts_out, in_slot}
use Rattle.pipe_model.specs.Flow.{view_of, deliveries, alone, lost_over, is_empty, is_batcher}
use Rattle.pipe_model.specs.Legal.{has_role, is_processor_role, runs_number}
use Rattle.pipe_types.specs.declared.numbers.SubNo.{SubNo}

-- the step takes a record in, moves a message on or loses one, or settles a batch that nobody picked
abbrev pub moves_one : Topology → History → Step → Bool
moves_one topology before (Accept s records) = true
moves_one topology before (Gather s m) = true
moves_one topology before (Close s first trigger) = true
moves_one topology before (Take s u k) = has_role topology s is_processor_role
moves_one topology before (Dispatch s) =
    (not (is_batcher (spec_of topology s)) && (not (is_empty (deliveries topology before s)) || not (is_empty (lost_over topology before (view_of topology before) s))))
    || not (is_empty (alone topology before s))
moves_one topology before (Child s m slot) = not (runs_number topology before s (in_slot before s slot))
moves_one topology before _ = false

-- how many such steps the journal has
abbrev pub movers : Topology → History → ℕ
movers topology [] = 0
movers topology (step ∷ before) = as_number (moves_one topology before step) + movers topology before

-- how often the post was put out
abbrev pub begun : History → Post → ℕ
begun [] p = 0
begun (step ∷ before) p = as_number (puts_out step p) + begun before p

-- how often the post was answered
abbrev pub answered : History → Post → ℕ
answered [] p = 0
answered (step ∷ before) p = as_number (answers step p) + answered before p

-- how often the consumer took, after a step
abbrev pub takes_after : Step → StageNo → ℕ → ℕ
takes_after (Take t u k) c old = if same_stage c t then old + 1 else old
takes_after _ c old = old

-- how often the consumer took
abbrev pub takes : History → StageNo → ℕ
takes [] c = 0
takes (step ∷ before) c = takes_after step c (takes before c)

-- the kills and halts after a step
abbrev pub kills_after : Step → ℕ → ℕ
kills_after (Kill s why) old = old + 1
kills_after Halt old = old + 1
kills_after _ old = old

-- the kills and halts so far
abbrev pub kills : History → ℕ
kills [] = 0
kills (step ∷ before) = kills_after step (kills before)

-- the asks on the subscription after a step
abbrev pub asks_after : Step → SubNo → ℕ → ℕ
asks_after (Ask v n) u old = if same_sub v u then old + 1 else old
asks_after _ u old = old

-- how many asks were made on the subscription
abbrev pub asks : History → SubNo → ℕ
asks [] u = 0
asks (step ∷ before) u = asks_after step u (asks before u)

-- the step is a dispatch that sends
abbrev pub sends_one : Topology → History → Step → Bool
sends_one topology before (Dispatch t) = not (is_empty (deliveries topology before t))
sends_one topology before _ = false

-- how many dispatches sent
abbrev pub senders : Topology → History → ℕ
senders topology [] = 0
senders topology (step ∷ before) = as_number (sends_one topology before step) + senders topology before

-- the kills of the stage for its crashes, after a step
abbrev pub crash_kills_after : Step → StageNo → ℕ → ℕ
crash_kills_after (Kill t Crash) s old = if same_stage t s then old + 1 else old
crash_kills_after _ s old = old

-- the kills of the stage for its crashes
abbrev pub crash_kills : History → StageNo → ℕ
crash_kills [] s = 0
crash_kills (step ∷ before) s = crash_kills_after step s (crash_kills before s)

-- the children started for the message, after a step
abbrev pub child_starts_after : Step → ℕ → ℕ → ℕ
child_starts_after (Child s m slot) n old = if m.0 == n then old + 1 else old
child_starts_after _ n old = old

-- how many children were started for the message
abbrev pub child_starts : History → ℕ → ℕ
child_starts [] n = 0
child_starts (step ∷ before) n = child_starts_after step n (child_starts before n)
