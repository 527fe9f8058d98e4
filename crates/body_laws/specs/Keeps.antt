-- What a journal has to do with what is seen of bodies.
use Rattle.std.specs.Prelude.{◌≡◌, ◌≢◌, ◌≤◌, ◌⊎◌, ℕ, Bool, true, false, List, [], ◌++◌, map, nat_lt, ◌==◌, ◌||◌, IsTrue, Option, Some, None}
use Rattle.pipe_types.specs.declared.numbers.StageNo.{StageNo}
use Rattle.pipe_types.specs.declared.numbers.Post.{Post}
use Rattle.pipe_types.specs.declared.step.SourceHow.{SourceHow}
use Rattle.pipe_types.specs.declared.step.SourceHow.TheVariants as how
use Rattle.pipe_types.specs.declared.step.Step.{Step}
use Rattle.pipe_types.specs.declared.step.Step.TheVariants.{Accept, Quiet, SourceEnd, Done, Wrote, ChildEnd, Late, Restart}
use Rattle.pipe_types.specs.declared.topology.Kind.TheVariants.{Own}
use Rattle.pipe_types.specs.declared.topology.Role.{Role}
use Rattle.pipe_types.specs.declared.topology.Role.TheVariants.{Supervisor, Batcher}
use Rattle.pipe_types.specs.declared.topology.StageSpec.{StageSpec}
use Rattle.pipe_types.specs.declared.topology.Topology.{Topology}
use Rattle.pipe_types.specs.Numbers.{stage, post, same_stage}
use Rattle.pipe_types.specs.Stages.{spec_of}
use Rattle.pipe_model.specs.History.{History}
use Rattle.pipe_model.specs.Lives.{is_live}
use Rattle.pipe_model.specs.Posts.{is_out}
use Rattle.pipe_model.specs.Outside.{fed, source_end, sink_text}
use Rattle.pipe_model.specs.Work.{count}
use Rattle.pipe_model.specs.Legal.{has_role, is_supervisor_role}
use Rattle.pipe_edges.specs.declared.reading.LineEnd.{LineEnd}
use Rattle.pipe_edges.specs.declared.reading.LineEnd.TheVariants as end
use Rattle.pipe_laws.specs.Read.{quiets}
use Rattle.stage_callback.specs.Laws.{RoseExactly}
use Rattle.stage_job.specs.Chunks.{RoseBy}
use Rattle.stage_bodies.specs.Seen.{LineSeen, MergeSeen, waits_together, FeedSeen, Single, Merged, sources_in, SinkSeen, BoxSeen, BodySeen}
use Rattle.stage_bodies.specs.Reads.{AreReadFrom, AreMergedFrom}
use Rattle.line_merge.specs.Seen.{AreUnpaced}
use Rattle.stage_bodies.specs.Jobs.{Both, KeepsBox}
use Rattle.stage_bodies.specs.Posts.{place_at}
use Rattle.pace_laws.specs.Pacing.{KeepsPace}
use Rattle.body_laws.specs.Counts.{short_writes, calls_of, bad_of, resets_of}
use Rattle.body_laws.specs.Lawful.{AreLawfulAnswers}

-- ---- posts

abbrev pub has_slot : Role → (max : ℕ) → (slot : ℕ) → Bool
has_slot Supervisor max slot = nat_lt slot max
has_slot Batcher max slot = false
has_slot _ max slot = slot == 0

abbrev pub has_post_in : Option StageSpec → (slot : ℕ) → Bool
has_post_in None slot = false
has_post_in (Some spec) slot = has_slot spec.role spec.max slot

-- the topology has this post: slot 0 of a stage that does jobs, and of a supervisor a slot for each child
abbrev pub has_post : Topology → Post → Bool
has_post topology p = has_post_in (spec_of topology p.stage) p.slot

-- ---- sources

-- how the journal says that the source ended is how it ended
abbrev pub IsKnownEnd : Option SourceHow → Option LineEnd → Type 0
IsKnownEnd None now = Unit {0}
IsKnownEnd (Some how.End) now = now ≡ Some end.End
IsKnownEnd (Some how.Fault) now = now ≡ Some end.Fault
IsKnownEnd (Some how.TooLong) now = now ≡ Some end.TooLong
IsKnownEnd (Some how.Limit) now = ⊥

-- what was read is what the journal has of the producer, and then what was lost; the end and each quiet have their cause in
-- the source; it keeps its pace, of which more is known where every answer is in the journal
pub record KeepsSource (before : History) (s : StageNo) (whole : Bool) (lost : List (List ℕ)) (opened now : LineSeen) : Type 0 where
  pub read : AreReadFrom opened.source now (fed before s ++ lost)
  pub known : IsKnownEnd (source_end before s) now.end
  pub quiet : RoseBy (quiets before s) opened.source.waits now.source.waits
  pub paced : KeepsPace before s whole opened.source now

-- the same of a merge whose sources have no pace: each record that was read has the place of its source
pub record KeepsMerge (before : History) (s : StageNo) (lost : List (List ℕ)) (opened now : MergeSeen) : Type 0 where
  pub given : List (ℕ × List ℕ)
  pub records : map (λ d. d.1) given ≡ fed before s ++ lost
  pub read : AreMergedFrom (sources_in (Merged opened)) now given
  pub known : IsKnownEnd (source_end before s) now.end
  pub quiet : RoseBy (quiets before s) (waits_together opened) (waits_together now)
  pub unpaced : AreUnpaced now

abbrev pub KeepsFeed : History → StageNo → (whole : Bool) → (lost : List (List ℕ)) → (opened now : FeedSeen) → Type 0
KeepsFeed before s whole lost (Single opened) (Single now) = KeepsSource before s whole lost opened now
KeepsFeed before s whole lost (Merged opened) (Merged now) = KeepsMerge before s lost opened now
KeepsFeed before s whole lost _ _ = ⊥

-- ---- sinks

-- behind what it held stands the text of the stage; each write of less than its text has its cause in the sink
pub record KeepsSink (topology : Topology) (before : History) (s : StageNo) (opened now : SinkSeen) : Type 0 where
  pub told : now.told ≡ opened.told
  pub held : IsTrue opened.told → now.held ≡ opened.held ++ sink_text topology before s
  pub faults_stay : opened.faults ≤ now.faults
  pub short : RoseBy (short_writes topology before s) opened.faults now.faults

-- ---- callbacks

-- a built-in callback of a stage that is no supervisor has the journal's count, while the stage is live or its post is out: a
-- late answer counts in the callback alone, and a restart sets both to 0
abbrev pub IsCounted : Topology → History → StageNo → BoxSeen → Type 0
IsCounted topology before s box =
    box.kind ≢ Own → has_role topology s is_supervisor_role ≡ false → (is_live topology before s || is_out before (post s 0)) ≡ true → box.count ≡ count topology before s

-- it is the same callback, counted as the journal says; a user's own counted each call and each bad answer of the journal, and
-- just its resets; what the journal says that it answered is lawful for what it was shown
pub record KeepsCallback (topology : Topology) (before : History) (p : Post) (opened now : BoxSeen) : Type 0 where
  pub kept : KeepsBox opened now
  pub count : IsCounted topology before p.stage now
  pub calls : now.kind ≡ Own → RoseBy (calls_of before p) opened.calls now.calls
  pub bad : now.kind ≡ Own → RoseBy (bad_of before p) opened.bad now.bad
  pub resets : now.kind ≡ Own → RoseExactly (resets_of topology before p) opened.resets now.resets
  pub lawful : AreLawfulAnswers topology before p opened.law

-- ---- bodies

-- the body stands where the journal leaves it
pub record KeepsBody (topology : Topology) (before : History) (p : Post) (opened now : BodySeen) : Type 0 where
  pub source : Both (KeepsFeed before p.stage true []) opened.source now.source
  pub sink : Both (KeepsSink topology before p.stage) opened.sink now.sink
  pub callback : Both (KeepsCallback topology before p) opened.callback now.callback

-- the same, where a job was cut off, or the records that it brought are not in the journal: its source may have given more lines
pub record KeepsPartly (topology : Topology) (before : History) (p : Post) (opened now : BodySeen) : Type 0 where
  pub source : Both (λ old new. (lost : List (List ℕ)) × KeepsFeed before p.stage false lost old new) opened.source now.source
  pub sink : Both (KeepsSink topology before p.stage) opened.sink now.sink
  pub callback : Both KeepsBox opened.callback now.callback

abbrev pub KeepsPost : Topology → History → Post → (out : Bool) → Option BodySeen → Option BodySeen → Type 0
KeepsPost topology before p true opened now = (now ≡ None) ⊎ Both (KeepsPartly topology before p) opened now
KeepsPost topology before p false opened now = Both (KeepsBody topology before p) opened now

-- of each post that is not out, the body stands where the journal leaves it; that of one that is out is away or stands so in part
abbrev pub Keeps : Topology → History → (opened now : ℕ → Option BodySeen) → Type 0
Keeps topology before opened now =
    (p : Post) → IsTrue (has_post topology p) → KeepsPost topology before p (is_out before p) (opened (place_at p)) (now (place_at p))

-- ---- steps

-- the step answers no post, and restarts no stage
abbrev pub is_silent : Step → Bool
is_silent (Accept s records) = false
is_silent (Quiet s) = false
is_silent (SourceEnd s how) = same_stage s (stage 0)
is_silent (Done s replies) = false
is_silent (Wrote s bytes end) = false
is_silent (ChildEnd s slot reply) = false
is_silent (Late s slot i answer) = false
is_silent (Restart s) = false
is_silent _ = true
