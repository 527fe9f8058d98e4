-- The late answer of a killed incarnation, and its body.
use Rattle.std.proofs.Common.{◌≡◌, ℕ, ◌<◌, [], ◌∷◌, Bool, true, false, refl, ap, sym, ◌∙◌, subst, Some, None, Option, arith, IfSome}
use Rattle.std.specs.Prelude.{not, ◌&&◌, ◌||◌, ◌==◌, if◌then◌else◌, IsSome, is_some}
use Rattle.std.proofs.lemmas.Bool.{eq-eqb, or_right}
use Rattle.pipe_types.specs.declared.numbers.StageNo.{StageNo}
use Rattle.pipe_types.specs.declared.numbers.Post.{Post}
use Rattle.pipe_types.specs.declared.message.Batch.{Batch}
use Rattle.pipe_types.specs.declared.message.BatchEnd.{BatchEnd}
use Rattle.pipe_types.specs.declared.step.LateAnswer.{LateAnswer}
use Rattle.pipe_types.specs.declared.step.LateAnswer.TheVariants as late
use Rattle.pipe_types.specs.declared.step.Step.TheVariants.{Late}
use Rattle.pipe_types.specs.declared.topology.StageSpec.{StageSpec}
use Rattle.pipe_types.specs.declared.topology.Topology.{Topology}
use Rattle.pipe_types.specs.Numbers.{post, same_post}
use Rattle.pipe_types.specs.Sound.{IsSound}
use Rattle.pipe_types.specs.Stages.{spec_of}
use Rattle.pipe_model.specs.History.{History, incarnation}
use Rattle.pipe_model.specs.Lives.{is_live}
use Rattle.pipe_model.specs.Posts.{puts_out, answers, is_out}
use Rattle.pipe_model.specs.Taken.{IsTaken}
use Rattle.pipe_model.specs.Work.{batch_of}
use Rattle.pipe_model.specs.Legal.{is_legal, has_role, is_producer_role, is_processor_role, is_supervisor_role, is_batch_processor_role}
use Rattle.pipe_laws.proofs.Tests.{clash, same_stage-self}
use Rattle.pipe_laws.proofs.Allowed.{legal_before, legal_step, late_facts}
use Rattle.queue_laws.proofs.Late.{out_present}
use Rattle.stage_bodies.specs.Seen.{SinkSeen, BoxSeen, BodySeen}
use Rattle.stage_bodies.specs.Jobs.{Both, KeepsBox, FetchesFeed, EndsIn, IsDone, text_by}
use Rattle.stage_bodies.specs.Posts.{place_at, IsWorkOf}
use Rattle.stage_bodies.specs.declared.job.Work.{Work}
use Rattle.stage_bodies.specs.declared.job.Work.TheVariants as work
use Rattle.stage_bodies.specs.declared.job.Outcome.{Outcome as Came}
use Rattle.stage_bodies.specs.declared.job.Outcome.TheVariants as came
use Rattle.pipe_types.specs.declared.topology.Kind.TheVariants.{Own}
use Rattle.stage_callback.specs.Laws.{RoseExactly}
use Rattle.stage_callback.proofs.Resets.{none_counted, counted_on}
use Rattle.body_laws.specs.Counts.{calls_of, bad_of, resets_of, one_more}
use Rattle.body_laws.specs.Lawful.{has_sink, IsLawfulStep}
use Rattle.pace_laws.proofs.Going.{late_end_goes, late_goes, late_rests}
use Rattle.body_laws.specs.Keeps.{KeepsFeed, KeepsSink, IsCounted, KeepsCallback, KeepsBody, Keeps}
use Rattle.body_laws.specs.Lates.{late_of, late_step}
use Rattle.body_laws.specs.Ready.{There, IsArmed, IsBodyAt, Ready, IsToldFeed, WasTold}
use Rattle.body_laws.proofs.Posts.{same_post-true, same_post-self, out_has_post, few_slots}
use Rattle.body_laws.proofs.Rises.{rise_stays}
use Rattle.body_laws.proofs.Steps.{producers_alone, processors_alone, writers_alone}
use Rattle.body_laws.proofs.Staying.{both_map, both_then, both_with, keeps_answered, ready_answered}
use Rattle.body_laws.proofs.Answering.{feed_accepts, feed_rests, feed_ends, sink_wrote, text_is_taken, box_then, box_reset, resets_on, lawful_write}
use Rattle.body_laws.proofs.Jobs.{no_fetch, fit_of, fit_at, source_for, for_source, chunk_for, for_chunk, child_for, for_child, batch_for, for_batch, source_there, batch_armed, sinks_as, feed_as, sink_as, some_after, sink_same, there_some, armed_after}
use Rattle.body_laws.proofs.Laws.{both_whole}

-- ---- the stage is dead

dead_by : (live : Bool) (n i : ℕ) → (live && n == i) ≡ false → n ≡ i → live ≡ false
dead_by true n i gone is = clash (n == i) (eq-eqb n i is) gone
dead_by false n i gone is = refl

dead : (topology : Topology) (before : History) (s : StageNo) (i : ℕ) (answer : LateAnswer) → is_legal topology (Late s 0 i answer ∷ before) ≡ true → is_live topology before s ≡ false
dead topology before s i answer legal =
    let facts = late_facts topology before s 0 i answer (legal_step topology before (Late s 0 i answer) legal) in
    dead_by (is_live topology before s) (incarnation before s) i facts.gone (sym (out_present topology before s (legal_before topology before (Late s 0 i answer) legal) facts.out) ∙ facts.from)

absent_by : (live same out : Bool) → live ≡ false → same ≡ true → (live || (false || (not same && out))) ≡ false
absent_by true same out e f = cc
absent_by false true out e f = refl
absent_by false false out e f = cc

-- neither live nor out, the stage has no count of the journal
absent : (topology : Topology) (before : History) (s : StageNo) (i : ℕ) (answer : LateAnswer) → is_legal topology (Late s 0 i answer ∷ before) ≡ true → (is_live topology (Late s 0 i answer ∷ before) s || is_out (Late s 0 i answer ∷ before) (post s 0)) ≡ false
absent topology before s i answer legal =
    absent_by (is_live topology before s) (same_post (post s 0) (post s 0)) (is_out before (post s 0)) (dead topology before s i answer legal) (same_post-self (post s 0))

uncounted_first : (topology : Topology) (before : History) (p : Post) (i : ℕ) (answer : LateAnswer) (box : BoxSeen) → p.slot ≡ 0 → is_legal topology (Late p.stage p.slot i answer ∷ before) ≡ true → IsCounted topology (Late p.stage p.slot i answer ∷ before) p.stage box
uncounted_first topology before p i answer box first legal =
    subst (λ n. IsCounted topology (Late p.stage n i answer ∷ before) p.stage box) (sym first)
    (λ own calm present. clash (is_live topology (Late p.stage 0 i answer ∷ before) p.stage || is_out (Late p.stage 0 i answer ∷ before) (post p.stage 0)) present
    (absent topology before p.stage i answer (subst (λ n. is_legal topology (Late p.stage n i answer ∷ before) ≡ true) first legal)))

uncounted : (topology : Topology) (before : History) (p : Post) (w : Work) (i : ℕ) (answer : LateAnswer) (box : BoxSeen) → IsWorkOf topology before p w → is_legal topology (Late p.stage p.slot i answer ∷ before) ≡ true → IsCounted topology (Late p.stage p.slot i answer ∷ before) p.stage box
uncounted topology before p (work.Fetch most) i answer box is legal = uncounted_first topology before p i answer box is.3 legal
uncounted topology before p (work.Chunk messages) i answer box is legal = uncounted_first topology before p i answer box is.2 legal
uncounted topology before p (work.Batch batch) i answer box is legal = uncounted_first topology before p i answer box is.2 legal
uncounted topology before p (work.Child message) i answer box is legal = λ own calm present. clash (has_role topology p.stage is_supervisor_role) is.0 calm

-- ---- the body

-- so many resets were counted with the late answer
late_resets : (topology : Topology) (before : History) (p : Post) (i : ℕ) (answer : LateAnswer) (child : Bool) → has_role topology p.stage is_supervisor_role ≡ child → resets_of topology (Late p.stage p.slot i answer ∷ before) p ≡ one_more child (resets_of topology before p)
late_resets topology before p i answer child is = rw (same_post-self p, is) refl

none_more : (topology : Topology) (before : History) (p : Post) (i : ℕ) (answer : LateAnswer) (a b c : BoxSeen) → has_role topology p.stage is_supervisor_role ≡ false → RoseExactly (resets_of topology before p) a.resets b.resets → RoseExactly 0 b.resets c.resets
    → RoseExactly (resets_of topology (Late p.stage p.slot i answer ∷ before) p) a.resets c.resets
none_more topology before p i answer a b c calm first more =
    subst (λ n. RoseExactly n a.resets c.resets) (sym (late_resets topology before p i answer false calm)) (resets_on (resets_of topology before p) a b c first more)

one_reset : (topology : Topology) (before : History) (p : Post) (i : ℕ) (answer : LateAnswer) (a b c : BoxSeen) → has_role topology p.stage is_supervisor_role ≡ true → RoseExactly (resets_of topology before p) a.resets b.resets → RoseExactly 1 b.resets c.resets
    → RoseExactly (resets_of topology (Late p.stage p.slot i answer ∷ before) p) a.resets c.resets
one_reset topology before p i answer a b c child first more =
    subst (λ n. RoseExactly n a.resets c.resets) (sym (late_resets topology before p i answer true child)) (counted_on (resets_of topology before p) 1 a.resets b.resets c.resets first more)

callback_late : (topology : Topology) (before : History) (p : Post) (i : ℕ) (answer : LateAnswer) (a b c : BoxSeen) → IsCounted topology (Late p.stage p.slot i answer ∷ before) p.stage c → KeepsCallback topology before p a b → KeepsBox b c
    → (b.kind ≡ Own → RoseExactly (resets_of topology before p) a.resets b.resets → RoseExactly (resets_of topology (Late p.stage p.slot i answer ∷ before) p) a.resets c.resets) → (b.law ≡ a.law → IsLawfulStep topology before (Late p.stage p.slot i answer) p a.law)
    → KeepsCallback topology (Late p.stage p.slot i answer ∷ before) p a c
callback_late topology before p i answer a b c count k on resets lawful = record {
  kept = box_then a b c k.kept on;
  count = count;
  calls = λ own. rise_stays (calls_of before p) a.calls b.calls c.calls (k.calls (sym on.kind ∙ own)) on.calls;
  bad = λ own. rise_stays (bad_of before p) a.bad b.bad c.bad (k.bad (sym on.kind ∙ own)) on.bad;
  resets = λ own. resets (sym on.kind ∙ own) (k.resets (sym on.kind ∙ own));
  lawful = (k.lawful, lawful k.kept.law);
}

box_same : (a : BoxSeen) → KeepsBox a a
box_same a = record { kind = refl; spec = refl; law = refl; told = refl; calls = omega arith; bad = omega arith; no_calls = λ own. refl; no_bad = λ own. refl }

fetched_late : (topology : Topology) (before : History) (p : Post) (most i : ℕ) (o : Came) (a old new : BodySeen) → IsWorkOf topology before p (work.Fetch most) → is_legal topology (late_step p i o ∷ before) ≡ true → IsSome old.source → IfSome old.source (IsToldFeed before p.stage) → IsDone (work.Fetch most) o old new → KeepsBody topology before p a old
    → KeepsBody topology (late_step p i o ∷ before) p a new
fetched_late topology before p most i (came.Records records) a old new is legal there told done k = record {
  source = both_then (λ x y z h f. feed_accepts before (late_step p i (came.Records records) ∷ before) p.stage most records x y z (rw (same_stage-self p.stage) refl) refl refl (late_goes before p.stage p.slot i records) h.1 h.0 f) a.source old.source new.source (both_with (KeepsFeed before p.stage true []) (IsToldFeed before p.stage) a.source old.source k.source told) done.0;
  sink = subst (λ x. Both (KeepsSink topology (late_step p i (came.Records records) ∷ before) p.stage) a.sink x) (sym done.1) (both_map (λ x y h. sink_as topology before (late_step p i (came.Records records) ∷ before) p.stage x y refl refl h) a.sink old.sink k.sink);
  callback = subst (λ x. Both (KeepsCallback topology (late_step p i (came.Records records) ∷ before) p) a.callback x) (sym done.2) (both_map (λ x y h. callback_late topology before p i (late.Records records) x y y (uncounted topology before p (work.Fetch most) i (late.Records records) y is legal) h (box_same y) (λ own r. none_more topology before p i (late.Records records) x y y (producers_alone topology p.stage is.0) r (none_counted y.resets y.resets refl)) (λ same. tt)) a.callback old.callback k.callback);
}
fetched_late topology before p most i came.NotYet a old new is legal there told done k = record {
  source = both_then (λ x y z h f. feed_rests before (late_step p i came.NotYet ∷ before) p.stage most x y z refl refl (rw (same_stage-self p.stage) refl) (late_rests before p.stage p.slot i) h.1 h.0 f) a.source old.source new.source (both_with (KeepsFeed before p.stage true []) (IsToldFeed before p.stage) a.source old.source k.source told) done.0;
  sink = subst (λ x. Both (KeepsSink topology (late_step p i came.NotYet ∷ before) p.stage) a.sink x) (sym done.1) (both_map (λ x y h. sink_as topology before (late_step p i came.NotYet ∷ before) p.stage x y refl refl h) a.sink old.sink k.sink);
  callback = subst (λ x. Both (KeepsCallback topology (late_step p i came.NotYet ∷ before) p) a.callback x) (sym done.2) (both_map (λ x y h. callback_late topology before p i late.Quiet x y y (uncounted topology before p (work.Fetch most) i late.Quiet y is legal) h (box_same y) (λ own r. none_more topology before p i late.Quiet x y y (producers_alone topology p.stage is.0) r (none_counted y.resets y.resets refl)) (λ same. tt)) a.callback old.callback k.callback);
}
fetched_late topology before p most i (came.Ended h) a old new is legal there told done k = record {
  source = both_then (λ x y z k f. feed_ends before (late_step p i (came.Ended h) ∷ before) p.stage most h x y z refl (rw (same_stage-self p.stage) refl) refl (late_end_goes before p.stage p.slot i h) k.1 k.0 f) a.source old.source new.source (both_with (KeepsFeed before p.stage true []) (IsToldFeed before p.stage) a.source old.source k.source told) done.0;
  sink = subst (λ x. Both (KeepsSink topology (late_step p i (came.Ended h) ∷ before) p.stage) a.sink x) (sym done.1) (both_map (λ x y k. sink_as topology before (late_step p i (came.Ended h) ∷ before) p.stage x y refl refl k) a.sink old.sink k.sink);
  callback = subst (λ x. Both (KeepsCallback topology (late_step p i (came.Ended h) ∷ before) p) a.callback x) (sym done.2) (both_map (λ x y k. callback_late topology before p i (late.Source h) x y y (uncounted topology before p (work.Fetch most) i (late.Source h) y is legal) k (box_same y) (λ own r. none_more topology before p i (late.Source h) x y y (producers_alone topology p.stage is.0) r (none_counted y.resets y.resets refl)) (λ same. tt)) a.callback old.callback k.callback);
}
fetched_late topology before p most i (came.Replies replies) a old new is legal there told done k = absurd (no_fetch most (came.Replies replies) old.source new.source (λ b c f. f.answer) (λ b c f. f.answer) there done.0)
fetched_late topology before p most i (came.Wrote bytes end) a old new is legal there told done k = absurd (no_fetch most (came.Wrote bytes end) old.source new.source (λ b c f. f.answer) (λ b c f. f.answer) there done.0)
fetched_late topology before p most i (came.Reply reply) a old new is legal there told done k = absurd (no_fetch most (came.Reply reply) old.source new.source (λ b c f. f.answer) (λ b c f. f.answer) there done.0)

sink_late : (topology : Topology) (before : History) (p : Post) (i : ℕ) (spec : StageSpec) (asked : Batch) (bytes : ℕ) (end : BatchEnd) (old new : BodySeen) (a : Option SinkSeen) (x y : Option BoxSeen) → spec_of topology p.stage ≡ Some spec → has_role topology p.stage is_supervisor_role ≡ false
    → is_out before (post p.stage 0) ≡ true → asked.messages ≡ batch_of topology before p.stage → There x (IsArmed topology before p.stage spec) → Both (EndsIn asked bytes end old new) x y → Both (KeepsSink topology before p.stage) a old.sink
    → Both (KeepsSink topology (late_step p i (came.Wrote bytes end) ∷ before) p.stage) a new.sink
sink_late topology before p i spec asked bytes end old new a (Some b) (Some c) e calm out is armed done k =
    both_then (λ x y z h w. sink_wrote topology before (late_step p i (came.Wrote bytes end) ∷ before) p.stage bytes (text_by b.kind b asked.messages end) end x y z (rw (same_stage-self p.stage) refl) (rw (same_stage-self p.stage) refl)
    (text_is_taken topology before p.stage end spec asked.messages b e calm (or_right (is_live topology before p.stage) (is_out before (post p.stage 0)) out) is armed) h w) a old.sink new.sink k done.1
sink_late topology before p i spec asked bytes end old new a (Some b) None e calm out is armed done k = absurd done
sink_late topology before p i spec asked bytes end old new a None y e calm out is armed done k = absurd armed

batch_late : (topology : Topology) (before : History) (p : Post) (i : ℕ) (spec : StageSpec) (asked : Batch) (bytes : ℕ) (end : BatchEnd) (old new : BodySeen) (a x y : Option BoxSeen) → spec_of topology p.stage ≡ Some spec → has_role topology p.stage is_supervisor_role ≡ false
    → is_out before (post p.stage 0) ≡ true → IsTaken topology before p.stage asked → is_some old.sink ≡ has_sink (spec_of topology p.stage) → There x (IsArmed topology before p.stage spec)
    → ((z : BoxSeen) → IsCounted topology (late_step p i (came.Wrote bytes end) ∷ before) p.stage z) → Both (EndsIn asked bytes end old new) x y → Both (KeepsCallback topology before p) a x
    → Both (KeepsCallback topology (late_step p i (came.Wrote bytes end) ∷ before) p) a y
batch_late topology before p i spec asked bytes end old new (Some a) (Some b) (Some c) e calm out is sinks armed counts done k =
    callback_late topology before p i (late.Wrote bytes end) a b c (counts c) k done.0.kept
    (λ own r. none_more topology before p i (late.Wrote bytes end) a b c calm r (none_counted b.resets c.resets done.3))
    (λ same one.
    lawful_write topology before p.stage asked (is_some old.sink) (text_by b.kind b asked.messages end) bytes end b.law a.law same is sinks
    (text_is_taken topology before p.stage end spec asked.messages b e calm (or_right (is_live topology before p.stage) (is_out before (post p.stage 0)) out) is.messages armed) done.2)
batch_late topology before p i spec asked bytes end old new None (Some b) (Some c) e calm out is sinks armed counts done k = absurd k
batch_late topology before p i spec asked bytes end old new a (Some b) None e calm out is sinks armed counts done k = absurd done
batch_late topology before p i spec asked bytes end old new a None y e calm out is sinks armed counts done k = absurd armed

late_body : (topology : Topology) (before : History) (p : Post) (w : Work) (i : ℕ) (o : Came) (a old new : BodySeen) → is_legal topology (late_step p i o ∷ before) ≡ true → is_out before p ≡ true → IsWorkOf topology before p w → IsBodyAt topology before p old → WasTold before p.stage w old → IsDone w o old new → KeepsBody topology before p a old
    → KeepsBody topology (late_step p i o ∷ before) p a new
late_body topology before p (work.Fetch most) i o a old new legal out is fit told done k = fetched_late topology before p most i o a old new is legal (source_there topology before p old is.0 fit) told done k
late_body topology before p (work.Chunk messages) i (came.Replies replies) a old new legal out is fit told done k = record {
  source = subst (λ x. Both (KeepsFeed (late_step p i (came.Replies replies) ∷ before) p.stage true []) a.source x) (sym done.1) (both_map (λ x y h. feed_as before (late_step p i (came.Replies replies) ∷ before) p.stage x y refl refl refl (record { came = λ interval i. refl; own = λ share interval. refl; same_fetch = refl }) h) a.source old.source k.source);
  sink = subst (λ x. Both (KeepsSink topology (late_step p i (came.Replies replies) ∷ before) p.stage) a.sink x) (sym done.2) (both_map (λ x y h. sink_as topology before (late_step p i (came.Replies replies) ∷ before) p.stage x y refl refl h) a.sink old.sink k.sink);
  callback = both_then (λ x y z h f. callback_late topology before p i late.Nothing x y z (uncounted topology before p (work.Chunk messages) i late.Nothing z is legal) h f.kept (λ own r. none_more topology before p i late.Nothing x y z (processors_alone topology p.stage is.0) r (f.resets own)) (λ same. tt)) a.callback old.callback new.callback k.callback done.0;
}
late_body topology before p (work.Chunk messages) i o a old new legal out is fit told done k = absurd done
late_body topology before p (work.Batch batch) i (came.Wrote bytes end) a old new legal out is fit told done k =
    let f = batch_armed topology before p old is.0 fit in
    record {
      source = subst (λ x. Both (KeepsFeed (late_step p i (came.Wrote bytes end) ∷ before) p.stage true []) a.source x) (sym done.1) (both_map (λ x y h. feed_as before (late_step p i (came.Wrote bytes end) ∷ before) p.stage x y refl refl refl (record { came = λ interval i. refl; own = λ share interval. refl; same_fetch = refl }) h) a.source old.source k.source);
      sink = sink_late topology before p i f.spec batch bytes end old new a.sink old.callback new.callback f.is (writers_alone topology p.stage is.0) (subst (λ n. is_out before (post p.stage n) ≡ true) is.2 out) is.1.messages f.box done.0 k.sink;
      callback =
          batch_late topology before p i f.spec batch bytes end old new a.callback old.callback new.callback f.is (writers_alone topology p.stage is.0) (subst (λ n. is_out before (post p.stage n) ≡ true) is.2 out) is.1 (sinks_as topology before p old is.0 fit) f.box
          (λ z. uncounted topology before p (work.Batch batch) i (late.Wrote bytes end) z is legal) done.0 k.callback;
    }
late_body topology before p (work.Batch batch) i o a old new legal out is fit told done k = absurd done
late_body topology before p (work.Child message) i (came.Reply reply) a old new legal out is fit told done k = record {
  source = subst (λ x. Both (KeepsFeed (late_step p i (came.Reply reply) ∷ before) p.stage true []) a.source x) (sym done.1) (both_map (λ x y h. feed_as before (late_step p i (came.Reply reply) ∷ before) p.stage x y refl refl refl (record { came = λ interval i. refl; own = λ share interval. refl; same_fetch = refl }) h) a.source old.source k.source);
  sink = subst (λ x. Both (KeepsSink topology (late_step p i (came.Reply reply) ∷ before) p.stage) a.sink x) (sym done.2) (both_map (λ x y h. sink_as topology before (late_step p i (came.Reply reply) ∷ before) p.stage x y refl refl h) a.sink old.sink k.sink);
  callback = both_then (λ x y z h f. callback_late topology before p i late.Nothing x y z (uncounted topology before p (work.Child message) i late.Nothing z is legal) h (box_reset y z f.kept) (λ own r. one_reset topology before p i late.Nothing x y z is.0 r (f.resets own)) (λ same. tt)) a.callback old.callback new.callback k.callback done.0;
}
late_body topology before p (work.Child message) i o a old new legal out is fit told done k = absurd done

-- ---- what it holds then

late_fit : (topology : Topology) (before : History) (p : Post) (w : Work) (i : ℕ) (o : Came) (old new : BodySeen) → is_legal topology (late_step p i o ∷ before) ≡ true → IsWorkOf topology before p w → IsBodyAt topology before p old → IsDone w o old new → IsBodyAt topology (late_step p i o ∷ before) p new
late_fit topology before p (work.Fetch most) i o old new legal is fit done =
    let f = fit_of topology before p is_producer_role old is.0 fit in
    fit_at topology (late_step p i o ∷ before) p f.spec new f.is
    (for_source topology (late_step p i o ∷ before) p.stage f.spec f.spec.role new f.role (some_after (FetchesFeed most o) old.source new.source done.0 (source_for topology before p.stage f.spec f.spec.role old f.role f.holds)))
late_fit topology before p (work.Chunk messages) i (came.Replies replies) old new legal is fit done =
    let f = fit_of topology before p is_processor_role old is.0 fit in
    fit_at topology (late_step p i (came.Replies replies) ∷ before) p f.spec new f.is
    (for_chunk topology (late_step p i (came.Replies replies) ∷ before) p.stage f.spec f.spec.role new f.role
    (armed_after topology before (late_step p i (came.Replies replies) ∷ before) p.stage f.spec old.callback new.callback
    (λ b c d armed. record { spec = d.kept.spec ∙ armed.spec; kind = d.kept.kind ∙ armed.kind; count = uncounted topology before p (work.Chunk messages) i late.Nothing c is legal })
    done.0 (chunk_for topology before p.stage f.spec f.spec.role old f.role f.holds)))
late_fit topology before p (work.Chunk messages) i o old new legal is fit done = absurd done
late_fit topology before p (work.Batch batch) i (came.Wrote bytes end) old new legal is fit done =
    let f = fit_of topology before p is_batch_processor_role old is.0 fit in
    let holds = batch_for topology before p.stage f.spec f.spec.role old f.role f.holds in
    fit_at topology (late_step p i (came.Wrote bytes end) ∷ before) p f.spec new f.is
    (for_batch topology (late_step p i (came.Wrote bytes end) ∷ before) p.stage f.spec f.spec.role new f.role (
      armed_after topology before (late_step p i (came.Wrote bytes end) ∷ before) p.stage f.spec old.callback new.callback
          (λ b c d armed. record { spec = d.0.kept.spec ∙ armed.spec; kind = d.0.kept.kind ∙ armed.kind; count = uncounted topology before p (work.Batch batch) i (late.Wrote bytes end) c is legal })
          done.0 holds.0,
      sink_same batch bytes end old new old.callback new.callback (there_some (IsArmed topology before p.stage f.spec) old.callback holds.0) done.0 ∙ holds.1,
    ))
late_fit topology before p (work.Batch batch) i o old new legal is fit done = absurd done
late_fit topology before p (work.Child message) i (came.Reply reply) old new legal is fit done =
    let f = fit_of topology before p is_supervisor_role old is.0 fit in
    fit_at topology (late_step p i (came.Reply reply) ∷ before) p f.spec new f.is
    (for_child topology (late_step p i (came.Reply reply) ∷ before) p.stage f.spec f.spec.role new f.role
    (armed_after topology before (late_step p i (came.Reply reply) ∷ before) p.stage f.spec old.callback new.callback
    (λ b c d armed. record { spec = d.kept.spec ∙ armed.spec; kind = d.kept.kind ∙ armed.kind; count = uncounted topology before p (work.Child message) i late.Nothing c is legal })
    done.0 (child_for topology before p.stage f.spec f.spec.role old f.role f.holds)))
late_fit topology before p (work.Child message) i o old new legal is fit done = absurd done

-- ---- all bodies

others : (p q : Post) (i : ℕ) (o : Came) → (place_at p == place_at q) ≡ false → (puts_out (late_step p i o) q ≡ false) × (answers (late_step p i o) q ≡ false)
others p q i o apart = (refl, either (same_post q p) refl)
  where
    either : (b : Bool) → same_post q p ≡ b → same_post q p ≡ false
    either false h = h
    either true h = clash (place_at p == place_at q) (eq-eqb (place_at p) (place_at q) (ap place_at (sym (same_post-true q p h)))) apart

home_by : (same out : Bool) → same ≡ true → (false || (not same && out)) ≡ false
home_by true out e = refl
home_by false out e = cc

late_out : (topology : Topology) (before : History) (p : Post) (i : ℕ) (o : Came) → is_legal topology (late_step p i o ∷ before) ≡ true → is_out before p ≡ true
late_out topology before p i o legal = (late_facts topology before p.stage p.slot i (late_of o) (legal_step topology before (late_step p i o) legal)).out

low_slot : (topology : Topology) (before : History) (p : Post) (i : ℕ) (o : Came) → IsSound topology → is_legal topology (late_step p i o ∷ before) ≡ true → p.slot < 16
low_slot topology before p i o sound legal = few_slots topology p sound (out_has_post topology before p.stage p.slot (legal_before topology before (late_step p i o) legal) (late_out topology before p i o legal))

pub late_keeps : (topology : Topology) (before : History) (p : Post) (w : Work) (i : ℕ) (o : Came) (old new : BodySeen) (opened now after : ℕ → Option BodySeen) → IsSound topology → is_legal topology (late_step p i o ∷ before) ≡ true → IsWorkOf topology before p w → IsBodyAt topology before p old → WasTold before p.stage w old
    → IsDone w o old new → Both (KeepsBody topology before p) (opened (place_at p)) (Some old) → ((s : ℕ) → after s ≡ (if place_at p == s then Some new else now s)) → Keeps topology before opened now → Keeps topology (late_step p i o ∷ before) opened after
late_keeps topology before p w i o old new opened now after sound legal is fit told done stood moved keeps =
    keeps_answered topology before (late_step p i o) p new opened now after sound legal (low_slot topology before p i o sound legal) (λ q here apart. others p q i o apart) (λ q. refl) (home_by (same_post p p) (is_out before p) (same_post-self p)) moved
    (both_whole topology before (late_step p i o ∷ before) p (opened (place_at p)) old new (λ a k. late_body topology before p w i o a old new legal (late_out topology before p i o legal) is fit told done k) stood) keeps

pub late_ready : (topology : Topology) (before : History) (p : Post) (w : Work) (i : ℕ) (o : Came) (old new : BodySeen) (now after : ℕ → Option BodySeen) → IsSound topology → is_legal topology (late_step p i o ∷ before) ≡ true → IsWorkOf topology before p w → IsBodyAt topology before p old
    → IsDone w o old new → ((s : ℕ) → after s ≡ (if place_at p == s then Some new else now s)) → Ready topology before now → Ready topology (late_step p i o ∷ before) after
late_ready topology before p w i o old new now after sound legal is fit done moved ready =
    ready_answered topology before (late_step p i o) p new now after sound legal (low_slot topology before p i o sound legal) (λ q here apart. others p q i o apart) (λ q. refl) moved (late_fit topology before p w i o old new legal is fit done) ready
