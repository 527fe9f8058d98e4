-- The late answer of a job that is out may be recorded.
use Rattle.std.proofs.Common.{◌≡◌, ◌≤◌, ℕ, List, Bool, true, false, ap, sym, ◌∙◌, subst, Some, None, Option, arith}
use Rattle.std.specs.Prelude.{not, ◌≢◌, ◌&&◌, ◌||◌, ◌==◌, IsSome, is_some}
use Rattle.std.proofs.lemmas.Bool.{eq-eqb, or_right}
use Rattle.pipe_types.specs.declared.numbers.Post.{Post}
use Rattle.pipe_types.specs.declared.numbers.StageNo.{StageNo}
use Rattle.pipe_types.specs.declared.message.Batch.{Batch}
use Rattle.pipe_types.specs.declared.message.BatchEnd.{BatchEnd}
use Rattle.pipe_types.specs.declared.step.SourceHow.TheVariants as how
use Rattle.pipe_types.specs.declared.step.Step.{Step}
use Rattle.pipe_types.specs.declared.topology.Kind.{Kind}
use Rattle.pipe_types.specs.declared.topology.Kind.TheVariants.{Steps, Lines, Own}
use Rattle.pipe_types.specs.declared.topology.StageSpec.{StageSpec}
use Rattle.pipe_types.specs.declared.topology.Topology.{Topology}
use Rattle.pipe_types.specs.Numbers.{post}
use Rattle.pipe_model.specs.History.{History, incarnation}
use Rattle.pipe_model.specs.Lives.{is_live}
use Rattle.pipe_model.specs.Posts.{is_out, out_from}
use Rattle.pipe_model.specs.Work.{is_end_by, is_batch_handled, batch_of, count}
use Rattle.pipe_model.specs.Legal.{allows, owed, passes, may_come, late_fits, happened, is_halt, has_role, are_records, is_producer_role, is_processor_role, is_batch_processor_role, is_supervisor_role}
use Rattle.pipe_laws.proofs.Tests.{both}
use Rattle.stage_bodies.specs.Seen.{FeedSeen, BoxSeen, BodySeen}
use Rattle.stage_bodies.specs.Jobs.{Both, FetchesFeed, EndsIn, IsDone}
use Rattle.stage_bodies.specs.Posts.{IsWorkOf}
use Rattle.stage_bodies.specs.declared.job.Work.{Work}
use Rattle.stage_bodies.specs.declared.job.Work.TheVariants as work
use Rattle.stage_bodies.specs.declared.job.Outcome.{Outcome as Came}
use Rattle.stage_bodies.specs.declared.job.Outcome.TheVariants as came
use Rattle.body_laws.specs.Lates.{late_of, late_step}
use Rattle.body_laws.specs.Ready.{There, IsArmed, IsBodyAt}
use Rattle.body_laws.proofs.Steps.{writers_alone}
use Rattle.body_laws.proofs.Jobs.{of_feed, fit_of, source_there, batch_for}
use Rattle.body_laws.proofs.Allowed.{records_fit}

-- ---- fetches

-- what the answer to a fetch says as a late answer
fetched_fits : (topology : Topology) (before : History) (s : StageNo) (most : ℕ) (o : Came) (x y : Option FeedSeen) → 1 ≤ most → has_role topology s is_producer_role ≡ true → ((records : List (List ℕ)) → are_records records most ≡ true → late_fits topology before s (late_of (came.Records records)) ≡ true)
    → IsSome x → Both (FetchesFeed most o) x y → late_fits topology before s (late_of o) ≡ true
fetched_fits topology before s most (came.Records records) (Some b) (Some c) some role fits there done =
    of_feed (late_fits topology before s (late_of (came.Records records)) ≡ true) most (came.Records records) b c
    (λ b c f. fits records (records_fit records most f.answer.0 f.answer.1 f.answer.3))
    (λ b c f. let one = f.answer.0 in fits records (records_fit records most (omega (arith, one)) (omega (arith, one, some)) f.answer.1)) done
fetched_fits topology before s most came.NotYet (Some b) (Some c) some role fits there done = role
fetched_fits topology before s most (came.Ended how.End) (Some b) (Some c) some role fits there done = role
fetched_fits topology before s most (came.Ended how.Fault) (Some b) (Some c) some role fits there done = role
fetched_fits topology before s most (came.Ended how.TooLong) (Some b) (Some c) some role fits there done = role
fetched_fits topology before s most (came.Ended how.Limit) (Some b) (Some c) some role fits there done = absurd (of_feed ⊥ most (came.Ended how.Limit) b c (λ b c f. f.answer) (λ b c f. f.answer) done)
fetched_fits topology before s most (came.Replies replies) (Some b) (Some c) some role fits there done = absurd (of_feed ⊥ most (came.Replies replies) b c (λ b c f. f.answer) (λ b c f. f.answer) done)
fetched_fits topology before s most (came.Wrote bytes end) (Some b) (Some c) some role fits there done = absurd (of_feed ⊥ most (came.Wrote bytes end) b c (λ b c f. f.answer) (λ b c f. f.answer) done)
fetched_fits topology before s most (came.Reply reply) (Some b) (Some c) some role fits there done = absurd (of_feed ⊥ most (came.Reply reply) b c (λ b c f. f.answer) (λ b c f. f.answer) done)
fetched_fits topology before s most o (Some b) None some role fits there done = absurd done
fetched_fits topology before s most o None y some role fits there done = let x : false ≡ true = there in cc

-- ---- batches

end_fits : (topology : Topology) (before : History) (s : StageNo) (spec : StageSpec) (asked : Batch) (bytes : ℕ) (end : BatchEnd) (old new : BodySeen) (x y : Option BoxSeen) → has_role topology s is_supervisor_role ≡ false → is_out before (post s 0) ≡ true → is_some old.sink ≡ is_some spec.edge
    → There x (IsArmed topology before s spec) → Both (EndsIn asked bytes end old new) x y → is_end_by spec.kind (is_some spec.edge) spec (count topology before s) asked.messages bytes end ≡ true
end_fits topology before s spec asked bytes end old new (Some b) (Some c) calm out sink armed done = by_kind spec.kind armed.kind
  where
    ended : is_end_by b.kind (is_some spec.edge) spec b.count asked.messages bytes end ≡ true
    ended = subst (λ h. is_end_by b.kind h spec b.count asked.messages bytes end ≡ true) sink (subst (λ x. is_end_by b.kind (is_some old.sink) x b.count asked.messages bytes end ≡ true) armed.spec done.0.ended)

    counted : (k : Kind) → b.kind ≡ k → b.kind ≢ Own → is_end_by k (is_some spec.edge) spec (count topology before s) asked.messages bytes end ≡ true
    counted k e other =
        subst (λ n. is_end_by k (is_some spec.edge) spec n asked.messages bytes end ≡ true) (armed.count other calm (or_right (is_live topology before s) (is_out before (post s 0)) out))
        (subst (λ k. is_end_by k (is_some spec.edge) spec b.count asked.messages bytes end ≡ true) e ended)

    by_kind : (k : Kind) → b.kind ≡ k → is_end_by k (is_some spec.edge) spec (count topology before s) asked.messages bytes end ≡ true
    by_kind Own e = subst (λ k. is_end_by k (is_some spec.edge) spec b.count asked.messages bytes end ≡ true) e ended
    by_kind Steps e = counted Steps e (λ own. let x : Steps ≡ Own = sym e ∙ own in cc)
    by_kind Lines e = counted Lines e (λ own. let x : Lines ≡ Own = sym e ∙ own in cc)
end_fits topology before s spec asked bytes end old new (Some b) None calm out sink armed done = absurd done
end_fits topology before s spec asked bytes end old new None y calm out sink armed done = absurd armed

batch_fits : (topology : Topology) (before : History) (p : Post) (batch : Batch) (bytes : ℕ) (end : BatchEnd) (old new : BodySeen) → is_out before p ≡ true → IsWorkOf topology before p (work.Batch batch) → IsBodyAt topology before p old → IsDone (work.Batch batch) (came.Wrote bytes end) old new
    → late_fits topology before p.stage (late_of (came.Wrote bytes end)) ≡ true
batch_fits topology before p batch bytes end old new out is fit done =
    let f = fit_of topology before p is_batch_processor_role old is.0 fit in
    let holds = batch_for topology before p.stage f.spec f.spec.role old f.role f.holds in
    let ended = end_fits topology before p.stage f.spec batch bytes end old new old.callback new.callback (writers_alone topology p.stage is.0) (subst (λ n. is_out before (post p.stage n) ≡ true) is.2 out) holds.1 holds.0 done.0 in
    both (has_role topology p.stage is_batch_processor_role) _ is.0
    (subst (λ o. is_batch_handled o (count topology before p.stage) (batch_of topology before p.stage) bytes end ≡ true) (sym f.is) (subst (λ ms. is_end_by f.spec.kind (is_some f.spec.edge) f.spec (count topology before p.stage) ms bytes end ≡ true) is.1.messages ended))

-- ---- any job

-- what the work came to has the form that a late answer has
answer_fits : (topology : Topology) (before : History) (p : Post) (w : Work) (o : Came) (old new : BodySeen) → is_out before p ≡ true → IsWorkOf topology before p w → IsBodyAt topology before p old → IsDone w o old new → late_fits topology before p.stage (late_of o) ≡ true
answer_fits topology before p (work.Fetch most) o old new out is fit done =
    fetched_fits topology before p.stage most o old.source new.source is.2 is.0 (λ records k. both (has_role topology p.stage is_producer_role) _ is.0 (subst (λ n. are_records records n ≡ true) is.1 k)) (source_there topology before p old is.0 fit) done.0
answer_fits topology before p (work.Chunk messages) (came.Replies replies) old new out is fit done = ap (λ b. b || has_role topology p.stage is_supervisor_role) is.0
answer_fits topology before p (work.Chunk messages) o old new out is fit done = absurd done
answer_fits topology before p (work.Batch batch) (came.Wrote bytes end) old new out is fit done = batch_fits topology before p batch bytes end old new out is fit done
answer_fits topology before p (work.Batch batch) o old new out is fit done = absurd done
answer_fits topology before p (work.Child message) (came.Reply reply) old new out is fit done = or_right (has_role topology p.stage is_processor_role) (has_role topology p.stage is_supervisor_role) is.0
answer_fits topology before p (work.Child message) o old new out is fit done = absurd done

late_comes : (halted : Bool) (o : Option (Step → Bool)) (step : Step) (may : Bool) → o ≡ None → may ≡ true → ((not halted || true) && passes o step may) ≡ true
late_comes halted (Some test) step may e h = cc
late_comes true None step may e h = h
late_comes false None step may e h = h

pub late_allowed : (topology : Topology) (before : History) (p : Post) (w : Work) (i : ℕ) (o : Came) (old new : BodySeen) → owed topology before ≡ None → is_out before p ≡ true → out_from before p ≡ i → (is_live topology before p.stage && incarnation before p.stage == i) ≡ false
    → IsWorkOf topology before p w → IsBodyAt topology before p old → IsDone w o old new → allows topology before (late_step p i o) ≡ true
late_allowed topology before p w i o old new calm out from gone is fit done =
    late_comes (happened is_halt before) (owed topology before) (late_step p i o) (may_come topology before (late_step p i o)) calm
    (both (is_out before p) _ out (both (out_from before p == i) _ (eq-eqb (out_from before p) i from) (both (not (is_live topology before p.stage && incarnation before p.stage == i)) _ (ap not gone) (answer_fits topology before p w o old new out is fit done))))
