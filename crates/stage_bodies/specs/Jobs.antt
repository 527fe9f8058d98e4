-- What a job leaves of its body, and what it answers.
use Rattle.std.specs.Prelude.{◌≡◌, ◌≢◌, ◌≤◌, ◌<◌, ◌^◌, ℕ, Bool, true, false, List, [], ◌∷◌, ◌++◌, length, take, count_by, All, IsTrue, IsSome, IfSome, Option, Some, None, is_some}
use Rattle.std.specs.List.{list_all}
use Rattle.pipe_types.specs.Counts.{Rose}
use Rattle.pipe_types.specs.Lines.{max_bytes}
use Rattle.pipe_types.specs.Handlers.{chunk_replies, batch_text, counted, count_after_batch, are_own_replies, is_successful}
use Rattle.pipe_types.specs.declared.message.Batch.{Batch}
use Rattle.pipe_types.specs.declared.message.Message.{Message}
use Rattle.pipe_types.specs.declared.message.Reply.{Reply}
use Rattle.pipe_types.specs.declared.message.Outcome.{Outcome}
use Rattle.pipe_types.specs.declared.message.BatchEnd.{BatchEnd}
use Rattle.pipe_types.specs.declared.message.BatchEnd.TheVariants.{Outcomes, Crashed}
use Rattle.pipe_types.specs.declared.step.SourceHow.TheVariants as how
use Rattle.pipe_types.specs.declared.topology.Kind.{Kind}
use Rattle.pipe_types.specs.declared.topology.Kind.TheVariants.{Own}
use Rattle.pipe_model.specs.Content.{has_crash}
use Rattle.pipe_model.specs.Work.{is_end_by, is_write_end, own_text, is_failed_by_sink}
use Rattle.pipe_edges.specs.Cut.{CutsAll}
use Rattle.pipe_edges.specs.Needed.{ReadsAsNeeded}
use Rattle.pipe_edges.specs.Fetch.{text_of}
use Rattle.pipe_edges.specs.Paces.{Pace, IsHeldUp, KeepsPace}
use Rattle.pipe_edges.specs.Pacing.{IsInStep, Gives}
use Rattle.pipe_edges.specs.declared.reading.LineEnd.{LineEnd}
use Rattle.pipe_edges.specs.declared.reading.LineEnd.TheVariants as end
use Rattle.stage_callback.specs.Callbacks.{is_message_for, is_passed}
use Rattle.stage_callback.specs.Laws.{RoseExactly}
use Rattle.stage_callback.specs.declared.answers.Said.{Said}
use Rattle.stage_job.specs.Chunks.{never_crashes, RoseBy}
use Rattle.stage_job.specs.Lawful.{AreLawful}
use Rattle.stage_job.specs.Told.{chunk_by}
use Rattle.stage_bodies.specs.Seen.{LineSeen, MergeSeen, waits_together, FeedSeen, Single, Merged, SinkSeen, BoxSeen, BodySeen}
pub use Rattle.stage_bodies.specs.Reads.{ReadsOn, MergeReadsOn}
use Rattle.line_merge.specs.Seen.{AreUnpaced}
use Rattle.stage_bodies.specs.Told.{end_told, text_told}
use Rattle.stage_bodies.specs.Lawful.{IsLawfulEnd}
use Rattle.stage_bodies.specs.declared.job.Work.{Work}
use Rattle.stage_bodies.specs.declared.job.Work.TheVariants as work
use Rattle.stage_bodies.specs.declared.job.Outcome.{Outcome as Came}
use Rattle.stage_bodies.specs.declared.job.Outcome.TheVariants as came

-- both are there and so related, or none is there
abbrev pub Both : {A B : Type 0} → (A → B → Type 0) → Option A → Option B → Type 0
Both R (Some a) (Some b) = R a b
Both R None None = Unit {0}
Both R _ _ = ⊥

-- ---- fetches

-- the records that an answer brings
abbrev pub records_of : Came → List (List ℕ)
records_of (came.Records records) = records
records_of _ = []

-- what the answer to a fetch of at most so many says, where these bytes are held behind it: the first lines that are held, 1
-- to `most` of them, none too long, and fewer than `most` only where no whole line is held any more; that the waits rose; or
-- the end that is known from now on
abbrev pub IsFetched : (most waits waits' : ℕ) → (held : List ℕ) → Option LineEnd → Came → Type 0
IsFetched most waits waits' held now (came.Records records) =
    (1 ≤ length records) × (length records ≤ most) × CutsAll most records held × All (λ r. length r ≤ max_bytes) records × (¬ (now ≡ Some end.Fault)) × (¬ (now ≡ Some end.TooLong))
IsFetched most waits waits' held now came.NotYet = Rose waits waits' × (now ≡ None)
IsFetched most waits waits' held now (came.Ended how.End) = now ≡ Some end.End
IsFetched most waits waits' held now (came.Ended how.Fault) = now ≡ Some end.Fault
IsFetched most waits waits' held now (came.Ended how.TooLong) = now ≡ Some end.TooLong
IsFetched most waits waits' held now _ = ⊥

-- what a fetch with a pace gave, if no line is too long: just its records
abbrev pub FetchGives : (before : ℕ) → LineSeen → Came → Type 0
FetchGives before now (came.Records records) = Gives before (length records) now.source.paced now.waiting
FetchGives before now (came.Ended how.TooLong) = Unit {0}
FetchGives before now _ = Gives before 0 now.source.paced now.waiting

-- nothing was ready only where the source itself had nothing ready, or the share is used up
abbrev pub FetchIsHeldUp : Pace → (old new : LineSeen) → Came → Type 0
FetchIsHeldUp pace old new came.NotYet = IsHeldUp pace old.source.paced new.source.paced
FetchIsHeldUp pace old new _ = Unit {0}

-- a fetch with a pace
pub record FetchKeepsPace (pace : Pace) (result : Came) (old new : LineSeen) : Type 0 where
  pub kept : KeepsPace pace old.source.paced new.source.paced
  pub counted : IsInStep old.source.paced old.waiting → FetchGives old.source.paced.given new result
  pub held_up : FetchIsHeldUp pace old new result

-- without a pace the gate stays as it is
abbrev pub FetchIsPaced : Option Pace → Came → (old new : LineSeen) → Type 0
FetchIsPaced None result old new = new.source.paced ≡ old.source.paced
FetchIsPaced (Some pace) result old new = FetchKeepsPace pace result old new

-- a fetch of at most so many records, and what it came to: no more is read than the records need
pub record Fetches (most : ℕ) (result : Came) (old new : LineSeen) : Type 0 where
  pub reads : ReadsOn (records_of result) old new
  pub end_stays : IfSome old.end (λ e. new.end ≡ Some e)
  pub answer : IsFetched most old.source.waits new.source.waits new.waiting new.end result
  pub paced : FetchIsPaced old.source.paced.pace result old new
  pub needed : ReadsAsNeeded old.waiting new.waiting (text_of new.end (records_of result))

-- ---- merges

-- what the answer to a fetch of a merge says: one record, none too long; that the waits rose; or the end that is known from now on
abbrev pub IsMergeFetched : (old new : MergeSeen) → Came → Type 0
IsMergeFetched old new (came.Records records) =
    (length records ≡ 1) × All (λ r. length r ≤ max_bytes) records × (¬ (new.end ≡ Some end.Fault)) × (¬ (new.end ≡ Some end.TooLong))
IsMergeFetched old new came.NotYet = RoseBy 1 (waits_together old) (waits_together new) × (new.end ≡ None)
IsMergeFetched old new (came.Ended how.End) = new.end ≡ Some end.End
IsMergeFetched old new (came.Ended how.Fault) = new.end ≡ Some end.Fault
IsMergeFetched old new (came.Ended how.TooLong) = new.end ≡ Some end.TooLong
IsMergeFetched old new _ = ⊥

-- a fetch of a merge whose sources have no pace
pub record FetchesMerge (result : Came) (old new : MergeSeen) : Type 0 where
  pub reads : MergeReadsOn (records_of result) old new
  pub end_stays : IfSome old.end (λ e. new.end ≡ Some e)
  pub answer : IsMergeFetched old new result
  pub waits_stay : waits_together old ≤ waits_together new
  pub unpaced : AreUnpaced old → AreUnpaced new

-- a fetch of a feed
abbrev pub FetchesFeed : (most : ℕ) → Came → (old new : FeedSeen) → Type 0
FetchesFeed most result (Single old) (Single new) = Fetches most result old new
FetchesFeed most result (Merged old) (Merged new) = FetchesMerge result old new
FetchesFeed most result _ _ = ⊥

-- ---- callbacks

-- it is the same callback, armed as before and with the same law, and its counts do not fall; a built-in kind counts no calls
pub record KeepsBox (old new : BoxSeen) : Type 0 where
  pub kind : new.kind ≡ old.kind
  pub spec : new.spec ≡ old.spec
  pub law : new.law ≡ old.law
  pub told : new.told ≡ old.told
  pub calls : old.calls ≤ new.calls
  pub bad : old.bad ≤ new.bad
  pub no_calls : old.kind ≢ Own → new.calls ≡ old.calls
  pub no_bad : old.kind ≢ Own → new.bad ≡ old.bad

-- the replies to a chunk, behind so many resets: of a built-in kind those of its rules, counted on from its count; of a user's
-- own kind of the form that it keeps, with a call counted for each that passed, and a bad answer where one did not. Each is
-- lawful for its message
pub record Replies (begun : ℕ) (messages : List Message) (replies : List Reply) (old new : BoxSeen) : Type 0 where
  pub kept : KeepsBox old new
  pub by_rules : old.kind ≢ Own → replies ≡ chunk_replies old.spec old.count messages
  pub count : old.kind ≢ Own → old.count < 2 ^ 64 → new.count ≡ counted old.count (length replies)
  pub calm : old.kind ≢ Own → IsTrue (never_crashes old.spec.rules) → has_crash replies ≡ false
  pub shape : old.kind ≡ Own → IsTrue (list_all (is_message_for old.spec.batchers) messages) → IsTrue (are_own_replies old.spec.batchers messages replies)
  pub lawful : AreLawful old.law messages replies
  pub resets : old.kind ≡ Own → RoseExactly begun old.resets new.resets
  pub calls : old.kind ≡ Own → RoseBy (count_by is_passed replies) old.calls new.calls
  pub bad : old.kind ≡ Own → list_all is_passed replies ≡ false → Rose old.bad new.bad
  pub by_answers : IsTrue old.told → (answers : List Said) × (new.said ≡ old.said ++ answers) × (chunk_by answers ≡ Some replies)

-- the same callback with its count at 0, as each run of a child begins
abbrev pub reset : BoxSeen → BoxSeen
reset box = record box { count = 0 }

-- the same callback, which counts from 0 again, counted the reset and gave no answer
pub record IsReset (old new : BoxSeen) : Type 0 where
  pub kept : KeepsBox old new
  pub zero : new.count ≡ 0
  pub resets : old.kind ≡ Own → RoseExactly 1 old.resets new.resets
  pub no_answer : IsTrue old.told → new.said ≡ old.said

-- the callback is reset, and the source and the sink are as they were
pub record IsResetBody (old new : BodySeen) : Type 0 where
  pub source : new.source ≡ old.source
  pub sink : new.sink ≡ old.sink
  pub callback : Both IsReset old.callback new.callback

-- ---- batches

-- the text of a batch that ended so
abbrev pub text_by : Kind → BoxSeen → List Message → BatchEnd → List ℕ
text_by Own box messages end = own_text messages end
text_by _ box messages end = batch_text box.spec box.count messages

-- the first so many bytes of the text were written; all of them unless the faults rose
pub record Writes (bytes : ℕ) (text : List ℕ) (old new : SinkSeen) : Type 0 where
  pub told : new.told ≡ old.told
  pub held : IsTrue old.told → new.held ≡ old.held ++ take bytes text
  pub faults_stay : old.faults ≤ new.faults
  pub short : bytes < length text → Rose old.faults new.faults

-- the end is a crash, or an outcome is neither success nor the sink's failure
abbrev pub is_bad_end : BatchEnd → Bool
is_bad_end Crashed = true
is_bad_end (Outcomes outcomes) = not_all (list_all is_good outcomes)
  where
    good : Bool → Bool → Bool
    good true b = true
    good false b = b

    is_good : Outcome → Bool
    is_good o = good (is_successful o) (is_failed_by_sink o)

    not_all : Bool → Bool
    not_all true = false
    not_all false = true

-- the end of a batch: the handler's, and where a sink took less than the text each success fails by the sink
pub record Ends (messages : List Message) (bytes : ℕ) (end : BatchEnd) (has_sink : Bool) (old new : BoxSeen) : Type 0 where
  pub kept : KeepsBox old new
  pub ended : IsTrue (is_end_by old.kind has_sink old.spec old.count messages bytes end)
  pub count : old.kind ≢ Own → old.count < 2 ^ 64 → new.count ≡ count_after_batch old.spec old.count messages
  pub calm : old.kind ≢ Own → IsTrue (never_crashes old.spec.rules) → end ≢ Crashed
  pub calls : old.kind ≡ Own → Rose old.calls new.calls
  pub bad : old.kind ≡ Own → is_bad_end end ≡ true → Rose old.bad new.bad
  pub by_answers :
      IsTrue old.told
      → (answers : List Said) × (told : BatchEnd) × (new.said ≡ old.said ++ answers) × (end_told messages answers ≡ Some told) × IsTrue (is_write_end has_sink told (text_told answers) bytes end)

-- ---- jobs

-- the body holds what the work needs; a callback that handles batches is of the kind that its spec names
abbrev pub Fits : Work → BodySeen → Type 0
Fits (work.Fetch most) body = (1 ≤ most) × IsSome body.source
Fits (work.Batch batch) body = IsSome body.callback × IfSome body.callback (λ box. box.kind ≡ box.spec.kind)
Fits _ body = IsSome body.callback

-- what the callback of the body left, seen from the sink; the end is lawful for the batch, and no reset was counted
abbrev pub EndsIn : Batch → (bytes : ℕ) → BatchEnd → BodySeen → BodySeen → BoxSeen → BoxSeen → Type 0
EndsIn batch bytes end old new before after =
    Ends batch.messages bytes end (is_some old.sink) before after
    × Both (Writes bytes (text_by before.kind before batch.messages end)) old.sink new.sink
    × IsLawfulEnd before.law batch (is_some old.sink) (text_by before.kind before batch.messages end) bytes end × (after.resets ≡ before.resets)

-- the work came to this answer, and what it did not use is as it was
abbrev pub IsDone : Work → Came → BodySeen → BodySeen → Type 0
IsDone (work.Fetch most) result old new =
    Both (FetchesFeed most result) old.source new.source × (new.sink ≡ old.sink) × (new.callback ≡ old.callback)
IsDone (work.Chunk messages) (came.Replies replies) old new =
    Both (Replies 0 messages replies) old.callback new.callback × (new.source ≡ old.source) × (new.sink ≡ old.sink)
IsDone (work.Batch batch) (came.Wrote bytes end) old new =
    Both (EndsIn batch bytes end old new) old.callback new.callback × (new.source ≡ old.source)
IsDone (work.Child message) (came.Reply reply) old new =
    Both (λ before after. Replies 1 (message ∷ []) (reply ∷ []) (reset before) after) old.callback new.callback × (new.source ≡ old.source) × (new.sink ≡ old.sink)
IsDone _ _ old new = ⊥

-- a fetch that was cut off keeps the pace; without one the gate stays as it is
abbrev pub CutKeepsPace : Option Pace → (old new : LineSeen) → Type 0
CutKeepsPace None old new = new.source.paced ≡ old.source.paced
CutKeepsPace (Some pace) old new = KeepsPace pace old.source.paced new.source.paced

-- memory was wanting: no line is gone, and an end stays known
pub record IsCutFetch (old new : LineSeen) : Type 0 where
  pub reads : ReadsOn [] old new
  pub end_stays : IfSome old.end (λ e. new.end ≡ Some e)
  pub paced : CutKeepsPace old.source.paced.pace old new

-- the same of a merge
pub record IsCutMerge (old new : MergeSeen) : Type 0 where
  pub reads : MergeReadsOn [] old new
  pub end_stays : IfSome old.end (λ e. new.end ≡ Some e)
  pub waits_stay : waits_together old ≤ waits_together new
  pub unpaced : AreUnpaced old → AreUnpaced new

abbrev pub IsCutFeed : (old new : FeedSeen) → Type 0
IsCutFeed (Single old) (Single new) = IsCutFetch old new
IsCutFeed (Merged old) (Merged new) = IsCutMerge old new
IsCutFeed _ _ = ⊥

-- nothing was written, and the callback is the same
pub record IsCutOff (old new : BodySeen) : Type 0 where
  pub source : Both IsCutFeed old.source new.source
  pub sink : new.sink ≡ old.sink
  pub callback : Both KeepsBox old.callback new.callback
