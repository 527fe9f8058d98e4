-- What a journal comes to, column by column. Each is a recursion over the steps with a function of its own for one step, so that
-- a step of another kind leaves it as it was by computing alone.
use Rattle.std.specs.Prelude.{ℕ, suc, ◌+◌, ◌-◌, Bool, true, false, if◌then◌else◌, not, List, [], ◌∷◌, ◌++◌, length, map, filter, ◌==◌, ◌&&◌, bytes_eq, Option, Some, None, is_some, option_map}
use Rattle.pipe_types.specs.declared.numbers.StageNo.{StageNo}
use Rattle.pipe_types.specs.declared.numbers.SubNo.{SubNo}
use Rattle.pipe_types.specs.declared.topology.Topology.{Topology}
use Rattle.pipe_types.specs.declared.topology.StageSpec.{StageSpec}
use Rattle.pipe_types.specs.declared.topology.Role.{Role}
use Rattle.pipe_types.specs.declared.topology.Role.TheVariants.{Producer, Batcher}
use Rattle.pipe_types.specs.declared.topology.Dispatch.{Dispatch as DispatchKind}
use Rattle.pipe_types.specs.declared.topology.Dispatch.TheVariants.{Broadcast, Partition}
use Rattle.pipe_types.specs.declared.message.Reply.{Reply}
use Rattle.pipe_types.specs.declared.message.Reply.TheVariants.{Pass}
use Rattle.pipe_types.specs.declared.step.Step.{Step}
use Rattle.pipe_types.specs.declared.step.Step.TheVariants.{Fetch, Accept, Dispatch, Done, Wrote, Child, ChildEnd, Kill, Late, Halt}
use Rattle.pipe_types.specs.declared.step.LateAnswer.TheVariants.{Records}
use Rattle.pipe_types.specs.Numbers.{stage, same_stage, subscription, post}
use Rattle.pipe_types.specs.Stages.{spec_of}
use Rattle.pipe_types.specs.Handlers.{field}
use Rattle.pipe_types.specs.Dispatchers.{partition_of}
use Rattle.pipe_model.specs.History.{History, incarnation, accepted}
use Rattle.pipe_model.specs.Posts.{is_out, out_from, in_slot, last_take, crashes}
use Rattle.pipe_model.specs.Lives.{death, kill_set, reason_in}
use Rattle.pipe_model.specs.Content.{has_crash, is_among_next, content, key_in, batcher_in, payload_in}
use Rattle.pipe_model.specs.Flow.{place, waiting, inbox, view_of, first_in, runs_again, chunk_by, is_batcher, subs_of, deliveries}
use Rattle.pipe_model.specs.Batches.{Batch, BatchPlace, Sent, is_settled}
use Rattle.message_ack.specs.Ends.{Ends, ends_of}
use Rattle.batcher.specs.Batches.{OpenBatch}
use Rattle.pipe_model.specs.Ledger.{crashed_reply}
use Rattle.pipe_model.specs.Legal.{has_ended, rests, runs_number, gathered_at, ends_in_flush}
use Rattle.pipe_model.specs.Moves.{is_final}
use Rattle.pipe_model.specs.Work.{taken_units}
use Rattle.pipe_model.specs.Taken.{Closed, closed_as}
use Rattle.consumer_sup.specs.declared.Child.{Child as ChildRow}
use Rattle.core_tables.specs.declared.rows.StageRow.{StageRow}
use Rattle.core_tables.specs.declared.rows.PostRow.{PostRow}
use Rattle.core_tables.specs.declared.rows.ContentRow.{ContentRow}
use Rattle.pipe_model.specs.Standing.{of_key}

-- the messages that run in the stage, in the order in which they were sent to it
abbrev pub running : Topology → History → StageNo → List ℕ
running topology before s = chunk_by (view_of topology before) s

-- Stages

abbrev pub last_fetch_after : Step → StageNo → ℕ → ℕ
last_fetch_after (Fetch t n) s old = if same_stage s t then n else old
last_fetch_after _ s old = old

-- how many records the last fetch of the stage might bring, and 0 before
abbrev pub last_fetch : History → StageNo → ℕ
last_fetch [] s = 0
last_fetch (step ∷ before) s = last_fetch_after step s (last_fetch before s)

-- the row of a stage
abbrev pub stage_row : Topology → History → StageNo → StageRow
stage_row topology before s =
    record {
      dead = death topology before s;
      incarnation = incarnation before s;
      ended = has_ended before s;
      rests = rests before s;
      last_take = last_take before s;
      taken = first_in (taken_units topology before s);
      last_fetch = last_fetch before s;
    }

-- the row of a post
abbrev pub post_row : History → StageNo → (slot : ℕ) → PostRow
post_row before s slot = record { out = is_out before (post s slot); from = out_from before (post s slot) }

-- Messages

-- the place among the replies of the one that passes message n on
abbrev pub item_of : List Reply → ℕ → Option ℕ
item_of [] n = None
item_of (Pass m ∷ replies) n = if m.no.0 == n then Some 0 else option_map suc (item_of replies n)
item_of (_ ∷ replies) n = option_map suc (item_of replies n)

abbrev pub at_item : (entry : ℕ) → Option ℕ → Option ContentRow → Option ContentRow
at_item entry (Some k) old = Some (record { entry = entry; item = k })
at_item entry None old = old

abbrev pub at_record : (entry accepted count n : ℕ) → Option ContentRow → Option ContentRow
at_record entry accepted count n old =
    if is_among_next accepted count n then Some (record { entry = entry; item = n - (accepted + 1) }) else old

abbrev pub content_after : (entry accepted : ℕ) → Step → ℕ → Option ContentRow → Option ContentRow
content_after entry accepted (Accept s records) n old = at_record entry accepted (length records) n old
content_after entry accepted (Late s slot i (Records records)) n old = at_record entry accepted (length records) n old
content_after entry accepted (Done s replies) n old = if has_crash replies then old else at_item entry (item_of replies n) old
content_after entry accepted _ n old = old

-- where the journal has message n as it was accepted, or as it was last passed on
abbrev pub content_row : History → ℕ → Option ContentRow
content_row [] n = None
content_row (step ∷ before) n = content_after (length before) (accepted before) step n (content_row before n)

-- the mark of a message that a step may settle
abbrev pub mark_by : Topology → History → Step → ℕ → ℕ → ℕ
mark_by topology before step n old =
    if is_final (place topology before n) then old else (if is_final (place topology (step ∷ before) n) then length before else 0)

abbrev pub mark_after : Topology → History → Step → ℕ → ℕ → ℕ
mark_after topology before (Dispatch s) n old = mark_by topology before (Dispatch s) n old
mark_after topology before (Done s replies) n old = mark_by topology before (Done s replies) n old
mark_after topology before (Wrote s bytes end) n old = mark_by topology before (Wrote s bytes end) n old
mark_after topology before (ChildEnd s slot reply) n old = mark_by topology before (ChildEnd s slot reply) n old
mark_after topology before (Kill s why) n old = mark_by topology before (Kill s why) n old
mark_after topology before Halt n old = mark_by topology before Halt n old
mark_after topology before (Late s slot i answer) n old = mark_by topology before (Late s slot i answer) n old
mark_after topology before _ n old = old

-- the step that settled message n, from 0, and 0 where none has
abbrev pub mark : Topology → History → ℕ → ℕ
mark topology [] n = 0
mark topology (step ∷ before) n = mark_after topology before step n (mark topology before n)

-- Batches

-- the messages of a closed batch
abbrev pub closed_numbers : Option Closed → List ℕ
closed_numbers None = []
closed_numbers (Some c) = c.numbers

abbrev pub open_of : History → List ℕ → (key : List ℕ) → OpenBatch
open_of before numbers key =
    record {
      key = key;
      numbers = of_key before key numbers;
      flush = ends_in_flush before (of_key before key numbers);
      opened = gathered_at before (first_in (of_key before key numbers));
    }

-- the keys of these messages, each once, in the order of their first messages
abbrev pub keys_of : History → List ℕ → List (List ℕ)
keys_of before [] = []
keys_of before (n ∷ numbers) =
    key_in (content before n) ∷ filter (λ key. not (bytes_eq (key_in (content before n)) key)) (keys_of before numbers)

-- the open batches of gathered messages, in the order of their first messages
abbrev pub open_batches : History → List ℕ → List OpenBatch
open_batches before numbers = map (open_of before numbers) (keys_of before numbers)

-- the subscriptions on which batch b was sent, in the order of its legs
abbrev pub sent_on_after : Topology → History → Step → ℕ → List SubNo → List SubNo
sent_on_after topology before (Dispatch s) b old = if is_batcher (spec_of topology s) then old ++ subs_of (deliveries topology before s) b else old
sent_on_after topology before _ b old = old

abbrev pub sent_on : Topology → History → ℕ → List SubNo
sent_on topology [] b = []
sent_on topology (step ∷ before) b = sent_on_after topology before step b (sent_on topology before b)

abbrev pub ends_on : (messages : ℕ) → BatchPlace → Option Ends
ends_on messages (Sent legs) = if is_settled legs then None else Some (record { messages = messages; ends = ends_of legs })
ends_on messages _ = None

-- how the legs of a batch ended, while it is sent and not settled
abbrev pub ends_in_progress : Option Batch → Option Ends
ends_in_progress None = None
ends_in_progress (Some b) = ends_on (length b.numbers) b.place

-- Units that wait

abbrev pub is_by_partition : DispatchKind → Bool
is_by_partition Partition = true
is_by_partition _ = false

abbrev pub is_broadcast : DispatchKind → Bool
is_broadcast Broadcast = true
is_broadcast _ = false

-- the partition of a unit that waits in such a stage: by a field for a producer, the key for a batcher, the batcher for a processor
abbrev pub part_by : Topology → History → StageSpec → ℕ → ℕ
part_by topology before spec n = by_role spec.role
  where
    by_role : Role → ℕ
    by_role Producer = partition_of (field spec.field (payload_in (content before n))) spec.parts
    by_role Batcher = partition_of (key_in (content before (first_in (closed_numbers (closed_as topology before n))))) spec.parts
    by_role _ = batcher_in (content before n)

-- 0 where the stage does not dispatch by partition
abbrev pub part_of : Topology → History → Option StageSpec → ℕ → ℕ
part_of topology before None n = 0
part_of topology before (Some spec) n = if is_by_partition spec.dispatch then part_by topology before spec n else 0

-- the units that wait in the stage, each with its partition
abbrev pub waiting_parts : Topology → History → StageNo → List (ℕ × ℕ)
waiting_parts topology before s = map (λ n. (part_of topology before (spec_of topology s) n, n)) (waiting topology before s)

-- Children

-- what stands in the slot after a run of its child
abbrev pub child_left : Option StageSpec → Reply → Option ChildRow → Option ChildRow
child_left spec reply None = None
child_left spec reply (Some child) =
    if crashed_reply reply && runs_again spec child.crashes then Some (record { no = child.no; crashes = child.crashes + 1 }) else None

abbrev pub child_after : Topology → History → Step → StageNo → (slot : ℕ) → Option ChildRow → Option ChildRow
child_after topology before (Child t m k) s slot old =
    if same_stage s t && k == slot then Some (record { no = m; crashes = crashes before m.0 }) else old
child_after topology before (ChildEnd t k reply) s slot old =
    if same_stage s t && k == slot then child_left (spec_of topology t) reply old else old
child_after topology before (Kill t why) s slot old = if is_some (reason_in (kill_set topology before (Kill t why)) s) then None else old
child_after topology before Halt s slot old = if is_some (reason_in (kill_set topology before Halt) s) then None else old
child_after topology before _ s slot old = old

-- the child that runs, or runs again, in the slot
abbrev pub child_row : Topology → History → StageNo → (slot : ℕ) → Option ChildRow
child_row topology [] s slot = None
child_row topology (step ∷ before) s slot = child_after topology before step s slot (child_row topology before s slot)

-- the subscription of the first unit, and one of stage 0 where there is none
abbrev pub sub_first : List (SubNo × ℕ) → SubNo
sub_first [] = subscription (stage 0) (stage 0) 0
sub_first (d ∷ units) = d.0

abbrev pub came_after : Topology → History → Step → StageNo → (slot : ℕ) → SubNo → SubNo
came_after topology before (Child t m k) s slot old =
    if same_stage s t && (k == slot && not (runs_number topology before t (in_slot before t k))) then sub_first (inbox topology before t) else old
came_after topology before _ s slot old = old

-- the subscription on which the message came that last started as a new child in the slot, and one of stage 0 before
abbrev pub came : Topology → History → StageNo → (slot : ℕ) → SubNo
came topology [] s slot = subscription (stage 0) (stage 0) 0
came topology (step ∷ before) s slot = came_after topology before step s slot (came topology before s slot)
