-- The bodies of posts when their jobs begin, and what answers leave of them.
use Rattle.std.proofs.Common.{◌≡◌, ℕ, List, [], ◌∷◌, Bool, true, false, refl, ap, sym, ◌∙◌, subst, Some, None, Option}
use Rattle.std.specs.Prelude.{not, IsSome, is_some, ◌||◌, IfSome}
use Rattle.std.proofs.lemmas.Bool.{false≢true}
use Rattle.pipe_types.specs.declared.numbers.StageNo.{StageNo}
use Rattle.pipe_types.specs.declared.numbers.Post.{Post}
use Rattle.pipe_types.specs.declared.message.Batch.{Batch}
use Rattle.pipe_types.specs.declared.message.Message.{Message}
use Rattle.pipe_types.specs.declared.message.Reply.{Reply}
use Rattle.pipe_types.specs.declared.message.BatchEnd.{BatchEnd}
use Rattle.pipe_types.specs.declared.step.Step.{Step}
use Rattle.pipe_types.specs.declared.step.Step.TheVariants.{Fetch, Accept, Quiet, SourceEnd, Take, Done, Wrote, Child, ChildEnd, Late, Restart}
use Rattle.pipe_types.specs.declared.topology.Role.{Role}
use Rattle.pipe_types.specs.declared.topology.Role.TheVariants.{Producer, Processor, Supervisor, Batcher, BatchProcessor}
use Rattle.pipe_types.specs.declared.topology.StageSpec.{StageSpec}
use Rattle.pipe_types.specs.declared.topology.Topology.{Topology}
use Rattle.pipe_types.specs.Numbers.{post}
use Rattle.pipe_types.specs.Stages.{spec_of}
use Rattle.pipe_types.specs.Sound.{IsSound}
use Rattle.pipe_model.specs.History.{History}
use Rattle.pipe_model.specs.Lives.{is_live, restarts}
use Rattle.pipe_model.specs.Posts.{puts_out, answers, is_out}
use Rattle.pipe_model.specs.Outside.{fed, source_end, sink_text}
use Rattle.pipe_model.specs.Taken.{IsTaken}
use Rattle.pipe_model.specs.Work.{count, batch_of, chunk_of, child_of}
use Rattle.pipe_model.specs.Legal.{fetch_out, is_legal, allows, has_role, has_ended, is_producer_role, is_processor_role, is_supervisor_role, is_batch_processor_role}
use Rattle.pipe_laws.proofs.Tests.{clash, and_left, and_right, not_true, same_stage-self}
use Rattle.pipe_laws.proofs.Allowed.{legal_step, unowed, take_facts, child_facts}
use Rattle.pipe_laws.specs.Read.{quiets}
use Rattle.stage_bodies.specs.Seen.{LineSeen, MergeSeen, FeedSeen, Single, Merged, SinkSeen, BoxSeen, BodySeen}
use Rattle.stage_bodies.specs.Jobs.{Both, KeepsBox, Fetches, FetchesMerge, FetchesFeed, EndsIn, Writes, IsDone, IsCutOff, records_of, text_by, Fits}
use Rattle.stage_bodies.specs.Posts.{place_at, IsWorkOf, step_of, brings_records}
use Rattle.stage_bodies.specs.declared.job.Work.{Work}
use Rattle.stage_bodies.specs.declared.job.Work.TheVariants as work
use Rattle.stage_bodies.specs.declared.job.Outcome.{Outcome as Came}
use Rattle.stage_bodies.specs.declared.job.Outcome.TheVariants as came
use Rattle.stage_callback.specs.Laws.{Law}
use Rattle.pace_laws.specs.Pacing.{PaceSame}
use Rattle.pace_laws.proofs.Fetching.{same_pace}
use Rattle.pace_laws.proofs.Going.{accept_goes, end_goes, quiet_rests}
use Rattle.body_laws.specs.Counts.{short_writes, calls_of, bad_of, resets_of}
use Rattle.body_laws.specs.Lawful.{has_sink, AreLawfulAnswers}
use Rattle.body_laws.specs.Keeps.{has_post, is_silent, KeepsSource, KeepsMerge, KeepsFeed, KeepsSink, KeepsCallback, KeepsBody, KeepsPartly, KeepsPost, Keeps}
use Rattle.body_laws.specs.Ready.{There, IsArmed, IsBodyFor, IsBodyAt, Ready, IsToldFeed, WasTold}
use Rattle.body_laws.proofs.Posts.{same_post-true, some_role, put_has_post}
use Rattle.body_laws.proofs.Steps.{writers_alone, stays, is_present}
use Rattle.body_laws.proofs.Staying.{both_map, both_then, both_with, there_map, Quietly, post_stays, ready_stays}
use Rattle.body_laws.proofs.Answering.{feed_fetched, feed_cut, feed_accepts, feed_rests, feed_ends, sink_wrote, text_is_taken, callback_done, callback_wrote, callback_child, counts_done, counts_wrote, box_then}

-- ---- silent steps

pub silent_quietly : (topology : Topology) (step : Step) → IsSound topology → is_silent step ≡ true → Quietly topology step
silent_quietly topology step sound calm = record { unanswered = λ p here. unanswered step p here calm; unrestarted = λ p. unrestarted step p calm }
  where
    unanswered : (step : Step) (p : Post) → has_post topology p ≡ true → is_silent step ≡ true → answers step p ≡ false
    unanswered (Accept t records) p here e = cc
    unanswered (Quiet t) p here e = cc
    unanswered (SourceEnd t how) p here e = rw e refl
    unanswered (Done t replies) p here e = cc
    unanswered (Wrote t bytes end) p here e = cc
    unanswered (ChildEnd t slot reply) p here e = cc
    unanswered (Late t slot i answer) p here e = cc
    unanswered (Restart t) p here e = cc
    unanswered _ p here e = refl

    unrestarted : (step : Step) (p : Post) → is_silent step ≡ true → restarts step p.stage ≡ false
    unrestarted (Restart t) p e = cc
    unrestarted _ p e = refl

-- ---- a post that goes out was at home

pub put_was_home : (topology : Topology) (before : History) (step : Step) (p : Post) → allows topology before step ≡ true → puts_out step p ≡ true → is_out before p ≡ false
put_was_home topology before (Fetch t n) p h e =
    let one = and_right (is_live topology before t) _ (unowed topology before (Fetch t n) (λ s. refl) (λ s. refl) h) in
    let two = and_right (has_role topology t is_producer_role) _ one in
    let three = and_right (not (has_ended before t)) _ two in
    ap (is_out before) (same_post-true p (post t 0) e) ∙ not_true (is_out before (post t 0)) (and_left (not (is_out before (post t 0))) _ three)
put_was_home topology before (Take t u k) p h e = ap (is_out before) (same_post-true p (post t 0) e) ∙ (take_facts topology before t u k h).free
put_was_home topology before (Child t m slot) p h e = ap (is_out before) (same_post-true p (post t slot) e) ∙ (child_facts topology before t m slot h).free
put_was_home topology before step p h e = cc

put_is_silent : (step : Step) (p : Post) → puts_out step p ≡ true → is_silent step ≡ true
put_is_silent (Fetch t n) p e = refl
put_is_silent (Take t u k) p e = refl
put_is_silent (Child t m slot) p e = refl
put_is_silent step p e = cc

-- its body stands where the journal leaves it
pub begun_keeps : (topology : Topology) (before : History) (step : Step) (p : Post) (opened now : ℕ → Option BodySeen) → IsSound topology → is_legal topology (step ∷ before) ≡ true → puts_out step p ≡ true
    → Keeps topology before opened now → Both (KeepsBody topology (step ∷ before) p) (opened (place_at p)) (now (place_at p))
begun_keeps topology before step p opened now sound legal put keeps =
    let here = put_has_post topology before step p.stage p.slot legal put in
    let calm = silent_quietly topology step sound (put_is_silent step p put) in
    post_stays topology before step p false (opened (place_at p)) (now (place_at p)) (stays topology before step p sound legal here (calm.unanswered p here) (calm.unrestarted p))
    (subst (λ b. KeepsPost topology before p b (opened (place_at p)) (now (place_at p))) (put_was_home topology before step p (legal_step topology before step legal) put) (keeps p here))

-- and holds what the job needs
pub begun_ready : (topology : Topology) (before : History) (step : Step) (p : Post) (now : ℕ → Option BodySeen) → IsSound topology → is_legal topology (step ∷ before) ≡ true → puts_out step p ≡ true
    → Ready topology before now → There (now (place_at p)) (IsBodyAt topology (step ∷ before) p)
begun_ready topology before step p now sound legal put ready =
    let here = put_has_post topology before step p.stage p.slot legal put in
    let calm = silent_quietly topology step sound (put_is_silent step p put) in
    there_map (λ body h. ready_stays topology before step p body (stays topology before step p sound legal here (calm.unanswered p here) (calm.unrestarted p)) h) (now (place_at p))
    (ready p here (put_was_home topology before step p (legal_step topology before step legal) put))

-- ---- what a body of a role holds

pub record Fit (topology : Topology) (before : History) (p : Post) (test : Role → Bool) (body : BodySeen) : Type 0 where
  pub spec : StageSpec
  pub is : spec_of topology p.stage ≡ Some spec
  pub role : test spec.role ≡ true
  pub holds : IsBodyFor topology before p.stage spec spec.role body

pub fit_of : (topology : Topology) (before : History) (p : Post) (test : Role → Bool) (body : BodySeen) → has_role topology p.stage test ≡ true → IsBodyAt topology before p body → Fit topology before p test body
fit_of topology before p test body h fit =
    let found = some_role topology p.stage test h in
    record {
      spec = found.0;
      is = found.1;
      role = found.2;
      holds = subst (λ o. There o (λ spec. IsBodyFor topology before p.stage spec spec.role body)) found.1 fit;
    }

pub fit_at : (topology : Topology) (before : History) (p : Post) (spec : StageSpec) (body : BodySeen) → spec_of topology p.stage ≡ Some spec → IsBodyFor topology before p.stage spec spec.role body → IsBodyAt topology before p body
fit_at topology before p spec body e h = subst (λ o. There o (λ spec. IsBodyFor topology before p.stage spec spec.role body)) (sym e) h

-- the role of which a test speaks
role_is : (r : Role) → (is_producer_role r ≡ true → r ≡ Producer) × (is_processor_role r ≡ true → r ≡ Processor) × (is_supervisor_role r ≡ true → r ≡ Supervisor) × (is_batch_processor_role r ≡ true → r ≡ BatchProcessor)
role_is Producer = (λ e. refl, λ e. absurd (false≢true e), λ e. absurd (false≢true e), λ e. absurd (false≢true e))
role_is Processor = (λ e. absurd (false≢true e), λ e. refl, λ e. absurd (false≢true e), λ e. absurd (false≢true e))
role_is Supervisor = (λ e. absurd (false≢true e), λ e. absurd (false≢true e), λ e. refl, λ e. absurd (false≢true e))
role_is Batcher = (λ e. absurd (false≢true e), λ e. absurd (false≢true e), λ e. absurd (false≢true e), λ e. absurd (false≢true e))
role_is BatchProcessor = (λ e. absurd (false≢true e), λ e. absurd (false≢true e), λ e. absurd (false≢true e), λ e. refl)

pub source_for : (topology : Topology) (before : History) (s : StageNo) (spec : StageSpec) (r : Role) (body : BodySeen) → is_producer_role r ≡ true → IsBodyFor topology before s spec r body → IsSome body.source
source_for topology before s spec r body e h = subst (λ x. IsBodyFor topology before s spec x body) ((role_is r).0 e) h

pub for_source : (topology : Topology) (before : History) (s : StageNo) (spec : StageSpec) (r : Role) (body : BodySeen) → is_producer_role r ≡ true → IsSome body.source → IsBodyFor topology before s spec r body
for_source topology before s spec r body e h = subst (λ x. IsBodyFor topology before s spec x body) (sym ((role_is r).0 e)) h

pub chunk_for : (topology : Topology) (before : History) (s : StageNo) (spec : StageSpec) (r : Role) (body : BodySeen) → is_processor_role r ≡ true → IsBodyFor topology before s spec r body → There body.callback (IsArmed topology before s spec)
chunk_for topology before s spec r body e h = subst (λ x. IsBodyFor topology before s spec x body) ((role_is r).1 e) h

pub for_chunk : (topology : Topology) (before : History) (s : StageNo) (spec : StageSpec) (r : Role) (body : BodySeen) → is_processor_role r ≡ true → There body.callback (IsArmed topology before s spec) → IsBodyFor topology before s spec r body
for_chunk topology before s spec r body e h = subst (λ x. IsBodyFor topology before s spec x body) (sym ((role_is r).1 e)) h

pub child_for : (topology : Topology) (before : History) (s : StageNo) (spec : StageSpec) (r : Role) (body : BodySeen) → is_supervisor_role r ≡ true → IsBodyFor topology before s spec r body → There body.callback (IsArmed topology before s spec)
child_for topology before s spec r body e h = subst (λ x. IsBodyFor topology before s spec x body) ((role_is r).2 e) h

pub for_child : (topology : Topology) (before : History) (s : StageNo) (spec : StageSpec) (r : Role) (body : BodySeen) → is_supervisor_role r ≡ true → There body.callback (IsArmed topology before s spec) → IsBodyFor topology before s spec r body
for_child topology before s spec r body e h = subst (λ x. IsBodyFor topology before s spec x body) (sym ((role_is r).2 e)) h

pub batch_for : (topology : Topology) (before : History) (s : StageNo) (spec : StageSpec) (r : Role) (body : BodySeen) → is_batch_processor_role r ≡ true → IsBodyFor topology before s spec r body → There body.callback (IsArmed topology before s spec) × (is_some body.sink ≡ is_some spec.edge)
batch_for topology before s spec r body e h = subst (λ x. IsBodyFor topology before s spec x body) ((role_is r).3 e) h

pub for_batch : (topology : Topology) (before : History) (s : StageNo) (spec : StageSpec) (r : Role) (body : BodySeen) → is_batch_processor_role r ≡ true → There body.callback (IsArmed topology before s spec) × (is_some body.sink ≡ is_some spec.edge) → IsBodyFor topology before s spec r body
for_batch topology before s spec r body e h = subst (λ x. IsBodyFor topology before s spec x body) (sym ((role_is r).3 e)) h

pub source_there : (topology : Topology) (before : History) (p : Post) (body : BodySeen) → has_role topology p.stage is_producer_role ≡ true → IsBodyAt topology before p body → IsSome body.source
source_there topology before p body h fit = let f = fit_of topology before p is_producer_role body h fit in source_for topology before p.stage f.spec f.spec.role body f.role f.holds

pub record Armed (topology : Topology) (before : History) (p : Post) (body : BodySeen) : Type 0 where
  pub spec : StageSpec
  pub is : spec_of topology p.stage ≡ Some spec
  pub box : There body.callback (IsArmed topology before p.stage spec)

pub chunk_armed : (topology : Topology) (before : History) (p : Post) (body : BodySeen) → has_role topology p.stage is_processor_role ≡ true → IsBodyAt topology before p body → Armed topology before p body
chunk_armed topology before p body h fit =
    let f = fit_of topology before p is_processor_role body h fit in
    record { spec = f.spec; is = f.is; box = chunk_for topology before p.stage f.spec f.spec.role body f.role f.holds }

pub child_armed : (topology : Topology) (before : History) (p : Post) (body : BodySeen) → has_role topology p.stage is_supervisor_role ≡ true → IsBodyAt topology before p body → Armed topology before p body
child_armed topology before p body h fit =
    let f = fit_of topology before p is_supervisor_role body h fit in
    record { spec = f.spec; is = f.is; box = child_for topology before p.stage f.spec f.spec.role body f.role f.holds }

pub batch_armed : (topology : Topology) (before : History) (p : Post) (body : BodySeen) → has_role topology p.stage is_batch_processor_role ≡ true → IsBodyAt topology before p body → Armed topology before p body
batch_armed topology before p body h fit =
    let f = fit_of topology before p is_batch_processor_role body h fit in
    record { spec = f.spec; is = f.is; box = (batch_for topology before p.stage f.spec f.spec.role body f.role f.holds).0 }

-- a batch processor writes to a sink where its spec names one
pub sinks_as : (topology : Topology) (before : History) (p : Post) (body : BodySeen) → has_role topology p.stage is_batch_processor_role ≡ true → IsBodyAt topology before p body → is_some body.sink ≡ has_sink (spec_of topology p.stage)
sinks_as topology before p body h fit =
    let f = fit_of topology before p is_batch_processor_role body h fit in
    (batch_for topology before p.stage f.spec f.spec.role body f.role f.holds).1 ∙ ap has_sink (sym f.is)

-- ---- what the journal says as before, after another step

source_as : (h h' : History) (s : StageNo) (a b : LineSeen) → fed h' s ≡ fed h s → source_end h' s ≡ source_end h s → quiets h' s ≡ quiets h s → PaceSame h h' s → KeepsSource h s true [] a b → KeepsSource h' s true [] a b
source_as h h' s a b e f g same k = record { read = rw e k.read; known = rw f k.known; quiet = rw g k.quiet; paced = same_pace a.source.paced.pace h h' s true a.source b same k.paced }

merge_as : (h h' : History) (s : StageNo) (a b : MergeSeen) → fed h' s ≡ fed h s → source_end h' s ≡ source_end h s → quiets h' s ≡ quiets h s → KeepsMerge h s [] a b → KeepsMerge h' s [] a b
merge_as h h' s a b e f g k = record { given = k.given; records = rw e k.records; read = k.read; known = rw f k.known; quiet = rw g k.quiet; unpaced = k.unpaced }

pub feed_as : (h h' : History) (s : StageNo) (a b : FeedSeen) → fed h' s ≡ fed h s → source_end h' s ≡ source_end h s → quiets h' s ≡ quiets h s → PaceSame h h' s → KeepsFeed h s true [] a b → KeepsFeed h' s true [] a b
feed_as h h' s (Single a) (Single b) e f g same k = source_as h h' s a b e f g same k
feed_as h h' s (Merged a) (Merged b) e f g same k = merge_as h h' s a b e f g k
feed_as h h' s (Single a) (Merged b) e f g same k = absurd k
feed_as h h' s (Merged a) (Single b) e f g same k = absurd k

pub sink_as : (topology : Topology) (h h' : History) (s : StageNo) (a b : SinkSeen) → sink_text topology h' s ≡ sink_text topology h s → short_writes topology h' s ≡ short_writes topology h s → KeepsSink topology h s a b → KeepsSink topology h' s a b
sink_as topology h h' s a b e f k = record { told = k.told; held = λ t. rw e (k.held t); faults_stay = k.faults_stay; short = rw f k.short }

callback_as : (topology : Topology) (h h' : History) (p : Post) (a b : BoxSeen) → count topology h' p.stage ≡ count topology h p.stage → ((is_live topology h' p.stage || is_out h' (post p.stage 0)) ≡ true → (is_live topology h p.stage || is_out h (post p.stage 0)) ≡ true) → calls_of h' p ≡ calls_of h p → bad_of h' p ≡ bad_of h p
    → resets_of topology h' p ≡ resets_of topology h p → ((law : Law) → AreLawfulAnswers topology h p law → AreLawfulAnswers topology h' p law) → KeepsCallback topology h p a b → KeepsCallback topology h' p a b
callback_as topology h h' p a b e l f g i lawful k = record {
  kept = k.kept;
  count = λ own calm now. k.count own calm (l now) ∙ sym e;
  calls = λ own. rw f (k.calls own);
  bad = λ own. rw g (k.bad own);
  resets = λ own. rw i (k.resets own);
  lawful = lawful a.law k.lawful;
}

-- ---- no other answers

-- what follows from a fetch of either kind of feed
pub of_feed : (P : Type 0) (most : ℕ) (o : Came) (x y : FeedSeen) → ((b c : LineSeen) → Fetches most o b c → P) → ((b c : MergeSeen) → FetchesMerge o b c → P) → FetchesFeed most o x y → P
of_feed P most o (Single b) (Single c) f g k = f b c k
of_feed P most o (Merged b) (Merged c) f g k = g b c k
of_feed P most o (Single b) (Merged c) f g k = absurd k
of_feed P most o (Merged b) (Single c) f g k = absurd k

pub no_fetch : (most : ℕ) (o : Came) (x y : Option FeedSeen) → ((b c : LineSeen) → Fetches most o b c → ⊥) → ((b c : MergeSeen) → FetchesMerge o b c → ⊥) → IsSome x → Both (FetchesFeed most o) x y → ⊥
no_fetch most o (Some b) (Some c) f g h k = of_feed ⊥ most o b c f g k
no_fetch most o (Some b) None f g h k = k
no_fetch most o None y f g h k = let x : false ≡ true = h in cc

-- ---- the body with its answer in the journal

fetched_body : (topology : Topology) (before : History) (p : Post) (most : ℕ) (o : Came) (a old new : BodySeen) → is_live topology before p.stage ≡ true → most ≡ fetch_out before p.stage → IsSome old.source → IfSome old.source (IsToldFeed before p.stage) → IsDone (work.Fetch most) o old new → KeepsBody topology before p a old
    → KeepsBody topology (step_of p o ∷ before) p a new
fetched_body topology before p most (came.Records records) a old new live is there told done k = record {
  source = both_then (λ x y z h f. feed_accepts before (Accept p.stage records ∷ before) p.stage most records x y z (rw (same_stage-self p.stage) refl) refl refl (accept_goes before p.stage records) h.1 h.0 f) a.source old.source new.source (both_with (KeepsFeed before p.stage true []) (IsToldFeed before p.stage) a.source old.source k.source told) done.0;
  sink = subst (λ x. Both (KeepsSink topology (Accept p.stage records ∷ before) p.stage) a.sink x) (sym done.1) (both_map (λ x y h. sink_as topology before (Accept p.stage records ∷ before) p.stage x y refl refl h) a.sink old.sink k.sink);
  callback = subst (λ x. Both (KeepsCallback topology (Accept p.stage records ∷ before) p) a.callback x) (sym done.2) (both_map (λ x y h. callback_as topology before (Accept p.stage records ∷ before) p x y refl (λ now. is_present topology before p.stage live) refl refl refl (λ law are. (are, tt)) h) a.callback old.callback k.callback);
}
fetched_body topology before p most came.NotYet a old new live is there told done k = record {
  source = both_then (λ x y z h f. feed_rests before (Quiet p.stage ∷ before) p.stage most x y z refl refl (rw (same_stage-self p.stage) refl) (quiet_rests before p.stage) h.1 h.0 f) a.source old.source new.source (both_with (KeepsFeed before p.stage true []) (IsToldFeed before p.stage) a.source old.source k.source told) done.0;
  sink = subst (λ x. Both (KeepsSink topology (Quiet p.stage ∷ before) p.stage) a.sink x) (sym done.1) (both_map (λ x y h. sink_as topology before (Quiet p.stage ∷ before) p.stage x y refl refl h) a.sink old.sink k.sink);
  callback = subst (λ x. Both (KeepsCallback topology (Quiet p.stage ∷ before) p) a.callback x) (sym done.2) (both_map (λ x y h. callback_as topology before (Quiet p.stage ∷ before) p x y refl (λ now. is_present topology before p.stage live) refl refl refl (λ law are. (are, tt)) h) a.callback old.callback k.callback);
}
fetched_body topology before p most (came.Ended h) a old new live is there told done k = record {
  source = both_then (λ x y z k f. feed_ends before (SourceEnd p.stage h ∷ before) p.stage most h x y z refl (rw (same_stage-self p.stage) refl) refl (end_goes before p.stage h) k.1 k.0 f) a.source old.source new.source (both_with (KeepsFeed before p.stage true []) (IsToldFeed before p.stage) a.source old.source k.source told) done.0;
  sink = subst (λ x. Both (KeepsSink topology (SourceEnd p.stage h ∷ before) p.stage) a.sink x) (sym done.1) (both_map (λ x y k. sink_as topology before (SourceEnd p.stage h ∷ before) p.stage x y refl refl k) a.sink old.sink k.sink);
  callback = subst (λ x. Both (KeepsCallback topology (SourceEnd p.stage h ∷ before) p) a.callback x) (sym done.2) (both_map (λ x y k. callback_as topology before (SourceEnd p.stage h ∷ before) p x y refl (λ now. is_present topology before p.stage live) refl refl refl (λ law are. (are, tt)) k) a.callback old.callback k.callback);
}
fetched_body topology before p most (came.Replies replies) a old new live is there told done k = absurd (no_fetch most (came.Replies replies) old.source new.source (λ b c f. f.answer) (λ b c f. f.answer) there done.0)
fetched_body topology before p most (came.Wrote bytes end) a old new live is there told done k = absurd (no_fetch most (came.Wrote bytes end) old.source new.source (λ b c f. f.answer) (λ b c f. f.answer) there done.0)
fetched_body topology before p most (came.Reply reply) a old new live is there told done k = absurd (no_fetch most (came.Reply reply) old.source new.source (λ b c f. f.answer) (λ b c f. f.answer) there done.0)

chunk_body : (topology : Topology) (before : History) (p : Post) (messages : List Message) (replies : List Reply) (a old new : BodySeen) → p.slot ≡ 0 → messages ≡ chunk_of topology before p.stage → is_live topology before p.stage ≡ true → IsDone (work.Chunk messages) (came.Replies replies) old new → KeepsBody topology before p a old
    → KeepsBody topology (Done p.stage replies ∷ before) p a new
chunk_body topology before p messages replies a old new first is live done k = record {
  source = subst (λ x. Both (KeepsFeed (Done p.stage replies ∷ before) p.stage true []) a.source x) (sym done.1) (both_map (λ x y h. feed_as before (Done p.stage replies ∷ before) p.stage x y refl refl refl (record { came = λ interval i. refl; own = λ share interval. refl; same_fetch = refl }) h) a.source old.source k.source);
  sink = subst (λ x. Both (KeepsSink topology (Done p.stage replies ∷ before) p.stage) a.sink x) (sym done.2) (both_map (λ x y h. sink_as topology before (Done p.stage replies ∷ before) p.stage x y refl refl h) a.sink old.sink k.sink);
  callback = both_then (λ x y z h f. callback_done topology before p messages replies x y z first is live h f) a.callback old.callback new.callback k.callback done.0;
}

child_body : (topology : Topology) (before : History) (p : Post) (message : Message) (reply : Reply) (a old new : BodySeen) → has_role topology p.stage is_supervisor_role ≡ true → message ∷ [] ≡ child_of before p.stage p.slot → IsDone (work.Child message) (came.Reply reply) old new → KeepsBody topology before p a old
    → KeepsBody topology (ChildEnd p.stage p.slot reply ∷ before) p a new
child_body topology before p message reply a old new child is done k = record {
  source = subst (λ x. Both (KeepsFeed (ChildEnd p.stage p.slot reply ∷ before) p.stage true []) a.source x) (sym done.1) (both_map (λ x y h. feed_as before (ChildEnd p.stage p.slot reply ∷ before) p.stage x y refl refl refl (record { came = λ interval i. refl; own = λ share interval. refl; same_fetch = refl }) h) a.source old.source k.source);
  sink = subst (λ x. Both (KeepsSink topology (ChildEnd p.stage p.slot reply ∷ before) p.stage) a.sink x) (sym done.2) (both_map (λ x y h. sink_as topology before (ChildEnd p.stage p.slot reply ∷ before) p.stage x y refl refl h) a.sink old.sink k.sink);
  callback = both_then (λ x y z h f. callback_child topology before p message reply x y z child is h f) a.callback old.callback new.callback k.callback done.0;
}

-- the sink and the callback of a batch
batch_sink : (topology : Topology) (before : History) (s : StageNo) (spec : StageSpec) (asked : Batch) (bytes : ℕ) (end : BatchEnd) (old new : BodySeen) (a : Option SinkSeen) (x y : Option BoxSeen) → spec_of topology s ≡ Some spec → has_role topology s is_supervisor_role ≡ false → is_live topology before s ≡ true
    → asked.messages ≡ batch_of topology before s → There x (IsArmed topology before s spec) → Both (EndsIn asked bytes end old new) x y → Both (KeepsSink topology before s) a old.sink → Both (KeepsSink topology (Wrote s bytes end ∷ before) s) a new.sink
batch_sink topology before s spec asked bytes end old new a (Some b) (Some c) e calm live is armed done k =
    both_then (λ x y z h w. sink_wrote topology before (Wrote s bytes end ∷ before) s bytes (text_by b.kind b asked.messages end) end x y z (rw (same_stage-self s) refl) (rw (same_stage-self s) refl) (text_is_taken topology before s end spec asked.messages b e calm (is_present topology before s live) is armed) h w) a old.sink new.sink k done.1
batch_sink topology before s spec asked bytes end old new a (Some b) None e calm live is armed done k = absurd done
batch_sink topology before s spec asked bytes end old new a None y e calm live is armed done k = absurd armed

batch_callback : (topology : Topology) (before : History) (p : Post) (spec : StageSpec) (asked : Batch) (bytes : ℕ) (end : BatchEnd) (old new : BodySeen) (a x y : Option BoxSeen) → p.slot ≡ 0 → spec_of topology p.stage ≡ Some spec
    → IsTaken topology before p.stage asked → is_some old.sink ≡ has_sink (spec_of topology p.stage) → has_role topology p.stage is_supervisor_role ≡ false → is_live topology before p.stage ≡ true → There x (IsArmed topology before p.stage spec) → Both (EndsIn asked bytes end old new) x y → Both (KeepsCallback topology before p) a x → Both (KeepsCallback topology (Wrote p.stage bytes end ∷ before) p) a y
batch_callback topology before p spec asked bytes end old new (Some a) (Some b) (Some c) first e is sinks calm live armed done k = callback_wrote topology before p spec bytes end (is_some old.sink) asked a b c first e is sinks calm live armed k done.0 done.2 done.3
batch_callback topology before p spec asked bytes end old new None (Some b) (Some c) first e is sinks calm live armed done k = absurd k
batch_callback topology before p spec asked bytes end old new a (Some b) None first e is sinks calm live armed done k = absurd done
batch_callback topology before p spec asked bytes end old new a None y first e is sinks calm live armed done k = absurd armed

pub answered_body : (topology : Topology) (before : History) (p : Post) (w : Work) (o : Came) (a old new : BodySeen) → is_live topology before p.stage ≡ true → IsWorkOf topology before p w → IsBodyAt topology before p old → WasTold before p.stage w old → IsDone w o old new
    → KeepsBody topology before p a old → KeepsBody topology (step_of p o ∷ before) p a new
answered_body topology before p (work.Fetch most) o a old new live is fit told done k = fetched_body topology before p most o a old new live is.1 (source_there topology before p old is.0 fit) told done k
answered_body topology before p (work.Chunk messages) (came.Replies replies) a old new live is fit told done k = chunk_body topology before p messages replies a old new is.2 is.1 live done k
answered_body topology before p (work.Chunk messages) o a old new live is fit told done k = absurd done
answered_body topology before p (work.Batch batch) (came.Wrote bytes end) a old new live is fit told done k =
    let f = batch_armed topology before p old is.0 fit in
    record {
      source = subst (λ x. Both (KeepsFeed (Wrote p.stage bytes end ∷ before) p.stage true []) a.source x) (sym done.1) (both_map (λ x y h. feed_as before (Wrote p.stage bytes end ∷ before) p.stage x y refl refl refl (record { came = λ interval i. refl; own = λ share interval. refl; same_fetch = refl }) h) a.source old.source k.source);
      sink = batch_sink topology before p.stage f.spec batch bytes end old new a.sink old.callback new.callback f.is (writers_alone topology p.stage is.0) live is.1.messages f.box done.0 k.sink;
      callback = batch_callback topology before p f.spec batch bytes end old new a.callback old.callback new.callback is.2 f.is is.1 (sinks_as topology before p old is.0 fit) (writers_alone topology p.stage is.0) live f.box done.0 k.callback;
    }
answered_body topology before p (work.Batch batch) o a old new live is fit told done k = absurd done
answered_body topology before p (work.Child message) (came.Reply reply) a old new live is fit told done k = child_body topology before p message reply a old new is.0 is.1 done k
answered_body topology before p (work.Child message) o a old new live is fit told done k = absurd done

-- ---- what it holds then

pub some_after : {A : Type 0} (P : A → A → Type 0) (x y : Option A) → Both P x y → IsSome x → IsSome y
some_after P (Some a) (Some b) k h = refl
some_after P (Some a) None k h = absurd k
some_after P None y k h = let x : false ≡ true = h in cc

some_same : {A : Type 0} (P : A → A → Type 0) (x y : Option A) → Both P x y → is_some y ≡ is_some x
some_same P (Some a) (Some b) k = refl
some_same P None None k = refl
some_same P (Some a) None k = absurd k
some_same P None (Some b) k = absurd k

pub armed_after : {P : BoxSeen → BoxSeen → Type 0} (topology : Topology) (h h' : History) (s : StageNo) (spec : StageSpec) (x y : Option BoxSeen) → ((b c : BoxSeen) → P b c → IsArmed topology h s spec b → IsArmed topology h' s spec c) → Both P x y → There x (IsArmed topology h s spec) → There y (IsArmed topology h' s spec)
armed_after topology h h' s spec (Some b) (Some c) f k armed = f b c k armed
armed_after topology h h' s spec (Some b) None f k armed = absurd k
armed_after topology h h' s spec None y f k armed = absurd armed

pub sink_same : (asked : Batch) (bytes : ℕ) (end : BatchEnd) (old new : BodySeen) (x y : Option BoxSeen) → IsSome x → Both (EndsIn asked bytes end old new) x y → is_some new.sink ≡ is_some old.sink
sink_same asked bytes end old new (Some b) (Some c) h k = some_same (Writes bytes (text_by b.kind b asked.messages end)) old.sink new.sink k.1
sink_same asked bytes end old new (Some b) None h k = absurd k
sink_same asked bytes end old new None y h k = let x : false ≡ true = h in cc

pub there_some : {A : Type 0} (P : A → Type 0) (x : Option A) → There x P → IsSome x
there_some P (Some a) h = refl
there_some P None h = absurd h

fetched_fit : (topology : Topology) (before : History) (p : Post) (most : ℕ) (o : Came) (old new : BodySeen) → has_role topology p.stage is_producer_role ≡ true → IsBodyAt topology before p old → IsDone (work.Fetch most) o old new → IsBodyAt topology (step_of p o ∷ before) p new
fetched_fit topology before p most o old new h fit done =
    let f = fit_of topology before p is_producer_role old h fit in
    fit_at topology (step_of p o ∷ before) p f.spec new f.is
    (for_source topology (step_of p o ∷ before) p.stage f.spec f.spec.role new f.role (some_after (FetchesFeed most o) old.source new.source done.0 (source_for topology before p.stage f.spec f.spec.role old f.role f.holds)))

pub answered_fit : (topology : Topology) (before : History) (p : Post) (w : Work) (o : Came) (old new : BodySeen) → is_live topology before p.stage ≡ true → IsWorkOf topology before p w → IsBodyAt topology before p old → IsDone w o old new
    → IsBodyAt topology (step_of p o ∷ before) p new
answered_fit topology before p (work.Fetch most) o old new live is fit done = fetched_fit topology before p most o old new is.0 fit done
answered_fit topology before p (work.Chunk messages) (came.Replies replies) old new live is fit done =
    let f = fit_of topology before p is_processor_role old is.0 fit in
    fit_at topology (Done p.stage replies ∷ before) p f.spec new f.is
    (for_chunk topology (Done p.stage replies ∷ before) p.stage f.spec f.spec.role new f.role
    (armed_after topology before (Done p.stage replies ∷ before) p.stage f.spec old.callback new.callback
    (λ b c d armed. record { spec = d.kept.spec ∙ armed.spec; kind = d.kept.kind ∙ armed.kind; count = counts_done topology before p.stage messages replies b c live armed.count d })
    done.0 (chunk_for topology before p.stage f.spec f.spec.role old f.role f.holds)))
answered_fit topology before p (work.Chunk messages) o old new live is fit done = absurd done
answered_fit topology before p (work.Batch batch) (came.Wrote bytes end) old new live is fit done =
    let f = fit_of topology before p is_batch_processor_role old is.0 fit in
    let holds = batch_for topology before p.stage f.spec f.spec.role old f.role f.holds in
    fit_at topology (Wrote p.stage bytes end ∷ before) p f.spec new f.is
    (for_batch topology (Wrote p.stage bytes end ∷ before) p.stage f.spec f.spec.role new f.role (
      armed_after topology before (Wrote p.stage bytes end ∷ before) p.stage f.spec old.callback new.callback
          (λ b c d armed. record { spec = d.0.kept.spec ∙ armed.spec; kind = d.0.kept.kind ∙ armed.kind; count = counts_wrote topology before p.stage f.spec bytes end (is_some old.sink) batch.messages b c f.is is.1.messages live armed d.0 })
          done.0 holds.0,
      sink_same batch bytes end old new old.callback new.callback (there_some (IsArmed topology before p.stage f.spec) old.callback holds.0) done.0 ∙ holds.1,
    ))
answered_fit topology before p (work.Batch batch) o old new live is fit done = absurd done
answered_fit topology before p (work.Child message) (came.Reply reply) old new live is fit done =
    let f = fit_of topology before p is_supervisor_role old is.0 fit in
    fit_at topology (ChildEnd p.stage p.slot reply ∷ before) p f.spec new f.is
    (for_child topology (ChildEnd p.stage p.slot reply ∷ before) p.stage f.spec f.spec.role new f.role
    (armed_after topology before (ChildEnd p.stage p.slot reply ∷ before) p.stage f.spec old.callback new.callback
    (λ b c d armed. record { spec = d.kept.spec ∙ armed.spec; kind = d.kept.kind ∙ armed.kind; count = λ own calm live. clash (has_role topology p.stage is_supervisor_role) is.0 calm })
    done.0 (child_for topology before p.stage f.spec f.spec.role old f.role f.holds)))
answered_fit topology before p (work.Child message) o old new live is fit done = absurd done

-- ---- the body that brought records which the journal does not have

pub unrecorded_body : (topology : Topology) (before : History) (p : Post) (w : Work) (o : Came) (a old new : BodySeen) → brings_records o ≡ true → IsDone w o old new → KeepsBody topology before p a old → KeepsPartly topology before p a new
unrecorded_body topology before p (work.Fetch most) o a old new brings done k = record {
  source = both_then (λ x y z h f. (records_of o, feed_fetched before p.stage most o x y z h f)) a.source old.source new.source k.source done.0;
  sink = subst (Both (KeepsSink topology before p.stage) a.sink) (sym done.1) k.sink;
  callback = subst (λ x. Both KeepsBox a.callback x) (sym done.2) (both_map (λ x y h. h.kept) a.callback old.callback k.callback);
}
unrecorded_body topology before p (work.Chunk messages) (came.Records records) a old new brings done k = absurd done
unrecorded_body topology before p (work.Chunk messages) o a old new brings done k = let x : false ≡ true = brings in cc
unrecorded_body topology before p (work.Batch batch) (came.Records records) a old new brings done k = absurd done
unrecorded_body topology before p (work.Batch batch) o a old new brings done k = let x : false ≡ true = brings in cc
unrecorded_body topology before p (work.Child message) (came.Records records) a old new brings done k = absurd done
unrecorded_body topology before p (work.Child message) o a old new brings done k = let x : false ≡ true = brings in cc

-- ---- the body after want of memory

pub cut_body : (topology : Topology) (before : History) (p : Post) (a old new : BodySeen) → IsCutOff old new → KeepsBody topology before p a old → KeepsPartly topology before p a new
cut_body topology before p a old new cut k = record {
  source = both_then (λ x y z h f. ([], feed_cut before p.stage x y z h f)) a.source old.source new.source k.source cut.source;
  sink = subst (Both (KeepsSink topology before p.stage) a.sink) (sym cut.sink) k.sink;
  callback = both_then (λ x y z h f. box_then x y z h.kept f) a.callback old.callback new.callback k.callback cut.callback;
}

-- ---- the body fits its work

there_fits : (spec : StageSpec) (topology : Topology) (before : History) (s : StageNo) (x : Option BoxSeen) → There x (IsArmed topology before s spec) → IsSome x × IfSome x (λ box. box.kind ≡ box.spec.kind)
there_fits spec topology before s (Some box) armed = (refl, armed.kind ∙ ap (λ y. y.kind) (sym armed.spec))
there_fits spec topology before s None armed = absurd armed

-- a body that holds what the jobs of its post need fits the work that the journal has for it
pub ready_fits : (topology : Topology) (before : History) (p : Post) (w : Work) (body : BodySeen) → IsWorkOf topology before p w → IsBodyAt topology before p body → Fits w body
ready_fits topology before p (work.Fetch most) body is fit = (is.2, source_there topology before p body is.0 fit)
ready_fits topology before p (work.Chunk messages) body is fit = let a = chunk_armed topology before p body is.0 fit in (there_fits a.spec topology before p.stage body.callback a.box).0
ready_fits topology before p (work.Batch batch) body is fit = let a = batch_armed topology before p body is.0 fit in there_fits a.spec topology before p.stage body.callback a.box
ready_fits topology before p (work.Child message) body is fit = let a = child_armed topology before p body is.0 fit in (there_fits a.spec topology before p.stage body.callback a.box).0
