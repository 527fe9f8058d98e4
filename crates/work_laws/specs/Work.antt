-- The steps of a journal by kinds, and which of them are work.
use Rattle.std.specs.Prelude.{ℕ, ◌+◌, [], ◌∷◌, Bool, true, false}
use Rattle.pipe_types.specs.declared.step.Step.{Step}
use Rattle.pipe_types.specs.declared.step.Step.TheVariants.{Ask, Fetch, Accept, Quiet, SourceEnd, Dispatch, Take, Done, Gather, Close, Wrote, Child, ChildEnd, Kill, Restart, Tick, Halt, Refuse}
use Rattle.pipe_model.specs.History.{History}
use Rattle.pipe_model.specs.Counting.{as_number}

-- a step is work unless it asks a source, finds it quiet, or tells the time
abbrev pub is_work : Step → Bool
is_work (Fetch s n) = false
is_work (Quiet s) = false
is_work (Tick t) = false
is_work _ = true

-- how many steps of a kind came
abbrev pub how_many : (Step → Bool) → History → ℕ
how_many test [] = 0
how_many test (step ∷ before) = as_number (test step) + how_many test before

-- how many steps of work
abbrev pub work_done : History → ℕ
work_done before = how_many is_work before

-- The kinds

-- a record comes in, or a message joins a batch, or a batch closes
abbrev pub is_intake : Step → Bool
is_intake (Accept s records) = true
is_intake (Gather s m) = true
is_intake (Close s first trigger) = true
is_intake _ = false

abbrev pub is_ask : Step → Bool
is_ask (Ask u n) = true
is_ask _ = false

abbrev pub is_dispatch : Step → Bool
is_dispatch (Dispatch s) = true
is_dispatch _ = false

abbrev pub is_take : Step → Bool
is_take (Take s u k) = true
is_take _ = false

-- a handler answered
abbrev pub is_reply : Step → Bool
is_reply (Done s replies) = true
is_reply (Wrote s bytes end) = true
is_reply _ = false

abbrev pub is_child : Step → Bool
is_child (Child s m slot) = true
is_child _ = false

abbrev pub is_child_end : Step → Bool
is_child_end (ChildEnd s slot reply) = true
is_child_end _ = false

abbrev pub is_source_end : Step → Bool
is_source_end (SourceEnd s how) = true
is_source_end _ = false

-- a stage is killed, or all are
abbrev pub is_killing : Step → Bool
is_killing (Kill s why) = true
is_killing Halt = true
is_killing _ = false

abbrev pub is_restart : Step → Bool
is_restart (Restart s) = true
is_restart _ = false

abbrev pub is_refusal : Step → Bool
is_refusal (Refuse line) = true
is_refusal _ = false
