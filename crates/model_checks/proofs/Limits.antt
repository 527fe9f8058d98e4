-- Limits of a run, overflow, and the idle end.
use Rattle.std.proofs.Common.{◌≡◌, refl}
use Rattle.std.specs.Prelude.{ℕ, true, false, List, [], ◌∷◌, ◌++◌, map, codes, drop, take, replicate, Some}
use Rattle.pipe_types.specs.declared.topology.Topology.{Topology}
use Rattle.pipe_types.specs.declared.topology.Keep.{Keep}
use Rattle.pipe_types.specs.declared.topology.Keep.TheVariants.{Last, First}
use Rattle.pipe_types.specs.declared.message.Why.TheVariants.{Kill as ByKill}
use Rattle.pipe_types.specs.declared.message.Loss.TheVariants.{Overflow}
use Rattle.pipe_types.specs.declared.message.Place.TheVariants.{Waiting, Inbox, Lost}
use Rattle.pipe_types.specs.declared.step.Step.{Step}
use Rattle.pipe_types.specs.declared.step.Step.TheVariants.{Ask, Fetch, Accept, Quiet, Dispatch, Kill, Late, Tick, Drain, Refuse}
use Rattle.pipe_types.specs.declared.step.LateAnswer.TheVariants.{Records, Quiet as LateQuiet}
use Rattle.pipe_types.specs.declared.step.DrainCause.TheVariants.{Limit as LimitCause, Idle}
use Rattle.pipe_types.specs.Numbers.{stage}
use Rattle.pipe_model.specs.History.{history}
use Rattle.pipe_model.specs.Flow.{place}
use Rattle.pipe_model.specs.Legal.{bound}
use Rattle.pipe_model.specs.Moves.{StepMove, Pause, move}
use Rattle.pipe_model.specs.Acknowledgements.{is_lossless}
use Rattle.model_checks.proofs.Base.{is_run, may_come_after, is_refused_after, producer, processor, with_stages, one_each, sub, two_producers}

-- Records

-- a run of five records at most
abbrev five_records : Topology
five_records = record two_producers { record_limit = 5 }

abbrev both_fetch : List Step
both_fetch = Ask (sub 3 1 1) 10 ∷ Ask (sub 3 2 1) 10 ∷ Fetch (stage 2) 5 ∷ []

-- a fetch may bring all that is left, and then the other may bring nothing while it is out
nothing_left : bound five_records (history both_fetch) (stage 1) ≡ 0
nothing_left = refl

abbrev some_came : List Step
some_came = both_fetch ++ Accept (stage 2) (replicate 3 (codes "x")) ∷ Dispatch (stage 2) ∷ []

-- what it did not bring is left
two_left : bound five_records (history some_came) (stage 1) ≡ 2
two_left = refl

no_drain_yet : is_refused_after five_records some_came (Drain LimitCause) ≡ true
no_drain_yet = refl

abbrev all_came : List Step
all_came = some_came ++ Fetch (stage 1) 2 ∷ Accept (stage 1) (replicate 2 (codes "x")) ∷ Dispatch (stage 1) ∷ []

drain_at_the_limit : may_come_after five_records all_came (Drain LimitCause) ≡ true
drain_at_the_limit = refl

drains_by_itself : move five_records (history all_came) ≡ StepMove (Drain LimitCause)
drains_by_itself = refl

-- late records count too
late_records_count : may_come_after five_records (both_fetch ++ Kill (stage 2) ByKill
    ∷ Late (stage 2) 0 1 (Records (replicate 5 (codes "x"))) ∷ []) (Drain LimitCause) ≡ true
late_records_count = refl

-- Bytes

abbrev four_bytes : Topology
four_bytes = record one_each { byte_limit = 4 }

abbrev three_bytes_came : List Step
three_bytes_came = Ask (sub 2 1 1) 10 ∷ Fetch (stage 1) 10 ∷ Accept (stage 1) (codes "ab" ∷ [] ∷ codes "c" ∷ []) ∷ Dispatch (stage 1) ∷ []

-- below the limit another fetch is made, and there is no drain
fetch_below : may_come_after four_bytes three_bytes_came (Fetch (stage 1) 7) ≡ true
fetch_below = refl

no_drain_below : is_refused_after four_bytes three_bytes_came (Drain LimitCause) ≡ true
no_drain_below = refl

abbrev four_bytes_came : List Step
four_bytes_came = three_bytes_came ++ Fetch (stage 1) 7 ∷ Accept (stage 1) (codes "d" ∷ []) ∷ Dispatch (stage 1) ∷ []

drain_at_the_bytes : may_come_after four_bytes four_bytes_came (Drain LimitCause) ≡ true
drain_at_the_bytes = refl

no_fetch_at_the_bytes : is_refused_after four_bytes four_bytes_came (Fetch (stage 1) 6) ≡ true
no_fetch_at_the_bytes = refl

-- late bytes count too
late_bytes_count : may_come_after four_bytes (Ask (sub 2 1 1) 10 ∷ Fetch (stage 1) 10 ∷ Kill (stage 1) ByKill
    ∷ Late (stage 1) 0 1 (Records (codes "abcd" ∷ [])) ∷ []) (Drain LimitCause) ≡ true
late_bytes_count = refl

-- Overflow

-- a pushing producer without a buffer, and a processor that asks for two
abbrev no_buffer : Keep → ℕ → Topology
no_buffer keep size =
    with_stages
    (record (producer 1 (codes "p") 0) { push = true; size = Some size; keep = keep }
    ∷ record (processor 2 (codes "processors.0") 0 []) { min = 1; max = 2 } ∷ [])

abbrev three_pushed : List Step
three_pushed = Ask (sub 2 1 1) 2 ∷ Fetch (stage 1) 1000 ∷ Accept (stage 1) (codes "a" ∷ codes "b" ∷ codes "c" ∷ []) ∷ Dispatch (stage 1)
    ∷ []

three_pushed_legal : is_run (no_buffer Last 0) three_pushed ≡ true
three_pushed_legal = refl

third_is_lost : map (place (no_buffer Last 0) (history three_pushed)) (1 ∷ 2 ∷ 3 ∷ []) ≡ Some (Inbox (sub 2 1 1)) ∷ Some (Inbox (sub 2 1 1))
    ∷ Some (Lost (Overflow (stage 1))) ∷ []
third_is_lost = refl

is_not_lossless : is_lossless (no_buffer Last 0) (history three_pushed) ≡ false
is_not_lossless = refl

-- five with a buffer of three and nobody who asked: keeping the last loses the oldest, keeping the first the newest
abbrev five_pushed : List Step
five_pushed = Fetch (stage 1) 1000 ∷ Accept (stage 1) (replicate 5 (codes "a")) ∷ Dispatch (stage 1) ∷ []

five_pushed_legal : is_run (no_buffer Last 3) five_pushed ≡ true
five_pushed_legal = refl

keeps_the_last : map (place (no_buffer Last 3) (history five_pushed)) (1 ∷ 2 ∷ 3 ∷ 4 ∷ 5 ∷ []) ≡ Some (Lost (Overflow (stage 1)))
    ∷ Some (Lost (Overflow (stage 1))) ∷ Some (Waiting (stage 1)) ∷ Some (Waiting (stage 1)) ∷ Some (Waiting (stage 1)) ∷ []
keeps_the_last = refl

keeps_the_first : map (place (no_buffer First 3) (history five_pushed)) (1 ∷ 2 ∷ 3 ∷ 4 ∷ 5 ∷ []) ≡ Some (Waiting (stage 1))
    ∷ Some (Waiting (stage 1)) ∷ Some (Waiting (stage 1)) ∷ Some (Lost (Overflow (stage 1))) ∷ Some (Lost (Overflow (stage 1))) ∷ []
keeps_the_first = refl

-- a buffer that is just full loses nothing
just_full : is_refused_after (no_buffer Last 5) (take 2 five_pushed) (Dispatch (stage 1)) ≡ true
just_full = refl

-- Idle

abbrev idle : Topology
idle = record one_each { idle_limit = 2 }

-- two quiet answers with a tick and fetches between them
abbrev two_quiets : List Step
two_quiets = Ask (sub 2 1 1) 10 ∷ Fetch (stage 1) 10 ∷ Quiet (stage 1) ∷ Tick 0 ∷ Fetch (stage 1) 10 ∷ Quiet (stage 1) ∷ []

idle_after_two : may_come_after idle two_quiets (Drain Idle) ≡ true
idle_after_two = refl

idle_by_itself : move idle (history two_quiets) ≡ StepMove (Drain Idle)
idle_by_itself = refl

not_after_one : is_refused_after idle (take 3 two_quiets) (Drain Idle) ≡ true
not_after_one = refl

pauses_after_one : move idle (history (take 3 two_quiets)) ≡ Pause
pauses_after_one = refl

-- any other step between them begins the row anew: a control line, and a late answer
refused_line_breaks : is_refused_after idle (take 3 two_quiets ++ Refuse 1 ∷ drop 3 two_quiets) (Drain Idle) ≡ true
refused_line_breaks = refl

-- a third quiet answer is as good
after_three : may_come_after idle (two_quiets ++ Tick 1 ∷ Fetch (stage 1) 10 ∷ Quiet (stage 1) ∷ []) (Drain Idle) ≡ true
after_three = refl

-- a late quiet answer is none of the row, and breaks it
late_quiet_breaks : is_refused_after idle (two_quiets ++ Tick 1 ∷ Fetch (stage 1) 10 ∷ Kill (stage 1) ByKill ∷ Late (stage 1) 0 1 LateQuiet
    ∷ []) (Drain Idle) ≡ true
late_quiet_breaks = refl

-- without an idle limit there is no idle end
no_idle_limit : is_refused_after one_each two_quiets (Drain Idle) ≡ true
no_idle_limit = refl
