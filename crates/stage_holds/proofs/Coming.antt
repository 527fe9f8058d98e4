-- A job comes home with its body.
use Rattle.std.proofs.Common.{◌≡◌, ℕ, ◌≤◌, ◌∷◌, Bool, true, false, refl, ap, sym, ◌∙◌, subst, inl, Some, None, Option, arith}
use Rattle.std.specs.Prelude.{◌==◌, ◌≢◌, ◌&&◌, if◌then◌else◌, Result, Ok, Err, IfOk, OnOk, OnErr}
use Rattle.pipe_types.specs.declared.numbers.Post.{Post}
use Rattle.pipe_types.specs.declared.message.Why.TheVariants.{Crash}
use Rattle.pipe_types.specs.declared.step.Step.{Step}
use Rattle.pipe_types.specs.declared.step.Step.TheVariants.{Dispatch, Kill}
use Rattle.pipe_types.specs.declared.topology.Topology.{Topology}
use Rattle.pipe_types.specs.Sound.{IsSound}
use Rattle.pipe_model.specs.History.{History, now, incarnation}
use Rattle.pipe_model.specs.Lives.{is_live}
use Rattle.pipe_model.specs.Posts.{puts_out, answers}
use Rattle.pipe_model.specs.Legal.{is_legal, allows, owed}
use Rattle.pipe_laws.specs.Followed.{FollowsMoves, IsNextMove}
use Rattle.stage_bodies.specs.Seen.{BodySeen}
use Rattle.stage_bodies.specs.Posts.{place_at, step_of, brings_records}
use Rattle.stage_bodies.specs.declared.job.Answer.{Answer}
use Rattle.stage_bodies.specs.declared.job.Job.{Job}
use Rattle.stage_bodies.specs.declared.job.Outcome.{Outcome as Came}
use Rattle.stage_bodies.specs.declared.job.Outcome.TheVariants as came
use Rattle.body_laws.specs.Keeps.{Keeps, is_silent}
use Rattle.body_laws.specs.Lates.{late_step}
use Rattle.body_laws.specs.Ready.{Ready}
use Rattle.body_laws.proofs.Laws.{silent_keeps, silent_ready, names_slot, NamesSlot, answers_only}
use Rattle.body_laws.proofs.Posts.{same_post-true, out_has_post, no_post_of_control}
use Rattle.stage_moves.specs.Recorded.{with_answer}
use Rattle.stage_moves.specs.Steps.{jobs_begun, still_ticks}
use Rattle.job_laws.specs.Away.{IsAway, IsAnswerTo, is_from_live}
use Rattle.job_laws.proofs.Away.{home_ready, unrecorded_home, cut_home, live_home, live_home_ready, late_home, late_home_ready, live_recorded, late_recorded}
use Rattle.stage_moves.proofs.Controls.{IsOther, other_step, other_step_partly, other_count}
use Rattle.stage_moves.proofs.Goings.{silent_one}
use Rattle.stage_moves.proofs.Results.{by_result}
use Rattle.stage_moves.proofs.Answering.{with_cases, none_more, answer_next, answer_begins, answer_time, answer_still, answer_other}
use Rattle.stage_holds.specs.Answers.{is_in_time, answer_step, with_answered}
use Rattle.stage_holds.specs.Homes.{IsBack}
use Rattle.stage_holds.specs.Holds.{AddsHold, AddsAnswer}
use Rattle.stage_holds.proofs.Adding.{nothing_added, one_hold, holds_then, silently_hold}

unless : (b : Bool) (p q : Post) → (b ≡ true → q ≡ p) → Some p ≢ Some q → b ≡ false
unless true p q same other = absurd (other (ap Some (sym (same refl))))
unless false p q same other = refl

-- the step answers the post alone
answers_one : (p : Post) (h : History) (step : Step) → ((q : Post) → answers step q ≡ true → q ≡ p) → AddsHold (Some p) None h (step ∷ h)
answers_one p h step only = one_hold (Some p) h step (λ q other. unless (answers step q) p q (only q) other)

-- ---- what comes home, and what it leaves

abbrev pub Table : (p : Post) (body : BodySeen) (home back : ℕ → Option BodySeen) → Type 0
Table p body home back = (s : ℕ) → back s ≡ (if place_at p == s then Some body else home s)

pub record Returned {E : Type 0} (topology : Topology) (h : History) (home : ℕ → Option BodySeen) (p : Post) (answer : Result Answer E) (body : BodySeen) (after : History) (back : ℕ → Option BodySeen) : Type 0 where
  pub follows : FollowsMoves topology h → FollowsMoves topology after
  pub ready : Ready topology after back
  pub keeps : (opened : ℕ → Option BodySeen) → Keeps topology h opened home → IsBack topology h (opened (place_at p)) p answer body → Keeps topology after opened back
  pub adds : AddsHold (Some p) None h after
  pub adds_answer : AddsAnswer topology h after

away_at : {E : Type 0} (topology : Topology) (h : History) (opened : ℕ → Option BodySeen) (p : Post) (answer : Result Answer E) (body : BodySeen) (b : IsBack topology h (opened (place_at p)) p answer body)
    → IsAway topology h (opened (place_at b.job.post)) b.job b.old
away_at topology h opened p answer body b = subst (λ q. IsAway topology h (opened (place_at q)) b.job b.old) b.post b.away

table_at : (home back : ℕ → Option BodySeen) (body : BodySeen) (p : Post) (job : Job) → p ≡ job.post → Table p body home back → Table job.post body home back
table_at home back body p job e t = subst (λ q. Table q body home back) e t

pub no_answer : (topology : Topology) (h : History) → AddsAnswer topology h h
no_answer topology h = record { same_time = refl; same_still = refl; same_jobs = refl; same_controls = refl; control = λ jobs opened lines k. k; control_partly = λ opened lines k. k }

-- no step was added
pub unrecorded : {E : Type 0} (topology : Topology) (h : History) (home back : ℕ → Option BodySeen) (p : Post) (answer : Result Answer E) (body : BodySeen) (opened : Option BodySeen)
    → IsSound topology → Ready topology h home → IsBack topology h opened p answer body → IfOk answer (λ a. brings_records a.outcome ≡ true) → Table p body home back → Returned topology h home p answer body h back
unrecorded {E = E} topology h home back p answer body opened sound ready b brings table = record {
  follows = λ f. f;
  ready = home_ready topology h opened b.job b.old body home back sound b.away (table_at home back body p b.job b.post table) ready;
  keeps = λ all k c. by_outcome answer brings all k c;
  adds = nothing_added (Some p) h;
  adds_answer = no_answer topology h;
}
  where
    by_outcome : (answer : Result Answer E) → IfOk answer (λ a. brings_records a.outcome ≡ true) → (all : ℕ → Option BodySeen) → Keeps topology h all home → IsBack topology h (all (place_at p)) p answer body → Keeps topology h all back
    by_outcome (Ok a) brings all k c = unrecorded_home topology h c.job a.outcome c.old body all home back sound (away_at {E = E} topology h all p (Ok a) body c) brings c.outcome.1 (table_at home back body p c.job c.post table) k
    by_outcome (Err e) brings all k c = cut_home topology h c.job c.old body all home back sound (away_at {E = E} topology h all p (Err e) body c) c.outcome (table_at home back body p c.job c.post table) k

-- ---- a step that the answer owes

owed_too : {E : Type 0} (topology : Topology) (h : History) (home back : ℕ → Option BodySeen) (p : Post) (answer : Result Answer E) (body : BodySeen) (step : Step) (after : History) → IsSound topology → is_legal topology (step ∷ after) ≡ true
    → is_silent step ≡ true → ((q : Post) → (puts_out step q ≡ false) × (answers step q ≡ false)) → IsOther step → now (step ∷ after) ≡ now after → still_ticks (step ∷ after) ≡ still_ticks after → jobs_begun (step ∷ after) ≡ jobs_begun after → IsNextMove topology after step
    → Returned topology h home p answer body after back → Returned topology h home p answer body (step ∷ after) back
owed_too topology h home back p answer body step after sound legal silent posts other time still jobs next c = record {
  follows = λ f. (c.follows f, next);
  ready = silent_ready topology after step back sound legal silent c.ready;
  keeps = λ all k b. silent_keeps topology after step all back sound legal silent (c.keeps all k b);
  adds = holds_then (Some p) None h after (step ∷ after) c.adds (silently_hold after (step ∷ after) (silent_one after step posts));
  adds_answer = record {
    same_time = time ∙ c.adds_answer.same_time;
    same_still = still ∙ c.adds_answer.same_still;
    same_jobs = jobs ∙ c.adds_answer.same_jobs;
    same_controls = other_count after step other ∙ c.adds_answer.same_controls;
    control = λ n opened lines k. other_step topology after step n opened lines other (c.adds_answer.control n opened lines k);
    control_partly = λ opened lines k. other_step_partly topology after step opened lines other (c.adds_answer.control_partly opened lines k);
  };
}

-- ---- an answer in time, and a late one

pub low_of : (topology : Topology) (h : History) (job : Job) (old : BodySeen) (opened : Option BodySeen) → IsSound topology → is_legal topology h ≡ true → IsAway topology h opened job old → 1 ≤ job.post.stage.0
low_of topology h job old opened sound legal away = no_post_of_control topology job.post.stage job.post.slot sound (out_has_post topology h job.post.stage job.post.slot legal away.out)

in_time : (topology : Topology) (h : History) (job : Job) (answer : Answer) → IsAnswerTo job answer → is_in_time topology h answer ≡ is_from_live topology h job
in_time topology h job answer a = ap (λ q. is_live topology h q.stage && incarnation h q.stage == answer.incarnation) a.post ∙ ap (λ i. is_live topology h job.post.stage && incarnation h job.post.stage == i) a.incarnation

live_first : {E : Type 0} (topology : Topology) (h : History) (home back : ℕ → Option BodySeen) (p : Post) (answer : Answer) (body : BodySeen) (opened : Option BodySeen)
    → IsSound topology → is_legal topology h ≡ true → Ready topology h home → IsBack {E = E} topology h opened p (Ok answer) body → Table p body home back → is_in_time topology h answer ≡ true
    → is_legal topology (step_of answer.post answer.outcome ∷ h) ≡ true → Returned {E = E} topology h home p (Ok answer) body (step_of answer.post answer.outcome ∷ h) back
live_first {E = E} topology h home back p answer body opened sound before ready b table live legal = record {
  follows = λ f. (f, answer_next topology h answer.post answer.outcome);
  ready = live_home_ready topology h opened b.job answer b.old body home back sound legal b.away (sym (in_time topology h b.job answer b.outcome.0) ∙ live) b.outcome.0 b.outcome.1 (table_at home back body p b.job b.post table) ready;
  keeps = λ all k c.
      live_home topology h c.job answer c.old body all home back sound legal (away_at {E = E} topology h all p (Ok answer) body c) (sym (in_time topology h c.job answer c.outcome.0) ∙ live) c.outcome.0 c.outcome.1 (table_at home back body p c.job c.post table) k;
  adds = answers_one p h (step_of answer.post answer.outcome)
      (λ q e. answers_only answer.post q answer.outcome (subst (λ r. NamesSlot r answer.outcome) (sym same) (names_slot topology h b.job.post b.job.work answer.outcome b.old body b.away.work b.outcome.1)) e ∙ same ∙ sym b.post);
  adds_answer = record {
    same_time = answer_time h answer.post answer.outcome;
    same_still = answer_still h answer.post answer.outcome;
    same_jobs = answer_begins h answer.post answer.outcome;
    same_controls = other_count h (step_of answer.post answer.outcome) (answer_other answer.post answer.outcome low);
    control = λ n source lines k. other_step topology h (step_of answer.post answer.outcome) n source lines (answer_other answer.post answer.outcome low) k;
    control_partly = λ source lines k. other_step_partly topology h (step_of answer.post answer.outcome) source lines (answer_other answer.post answer.outcome low) k;
  };
}
  where
    same : answer.post ≡ b.job.post
    same = b.outcome.0.post

    low : 1 ≤ answer.post.stage.0
    low = subst (λ r. 1 ≤ r.stage.0) (sym same) (low_of topology h b.job b.old opened sound before b.away)

late_other : (p : Post) (i : ℕ) (o : Came) → 1 ≤ p.stage.0 → IsOther (late_step p i o)
late_other p i (came.Records records) low = record { control = refl; ends = refl; jobless = refl }
late_other p i came.NotYet low = record { control = refl; ends = refl; jobless = refl }
late_other p i (came.Ended how) low = record { control = refl; ends = other p.stage.0 low; jobless = refl }
  where
    other : (n : ℕ) → 1 ≤ n → (0 == n) ≡ false
    other n low = grind arith
late_other p i (came.Replies replies) low = record { control = refl; ends = refl; jobless = refl }
late_other p i (came.Wrote bytes end) low = record { control = refl; ends = refl; jobless = refl }
late_other p i (came.Reply reply) low = record { control = refl; ends = refl; jobless = refl }

late_first : {E : Type 0} (topology : Topology) (h : History) (home back : ℕ → Option BodySeen) (p : Post) (answer : Answer) (body : BodySeen) (opened : Option BodySeen)
    → IsSound topology → is_legal topology h ≡ true → Ready topology h home → IsBack {E = E} topology h opened p (Ok answer) body → Table p body home back
    → is_legal topology (late_step answer.post answer.incarnation answer.outcome ∷ h) ≡ true → Returned {E = E} topology h home p (Ok answer) body (late_step answer.post answer.incarnation answer.outcome ∷ h) back
late_first {E = E} topology h home back p answer body opened sound before ready b table legal = record {
  follows = λ f. (f, tt);
  ready = late_home_ready topology h opened b.job answer b.old body home back sound legal b.away b.outcome.0 b.outcome.1 (table_at home back body p b.job b.post table) ready;
  keeps = λ all k c. late_home topology h c.job answer c.old body all home back sound legal (away_at {E = E} topology h all p (Ok answer) body c) c.outcome.0 c.outcome.1 (table_at home back body p c.job c.post table) k;
  adds = answers_one p h (late_step answer.post answer.incarnation answer.outcome) (λ q e. same_post-true q answer.post e ∙ same ∙ sym b.post);
  adds_answer = record {
    same_time = refl;
    same_still = refl;
    same_jobs = none_more (jobs_begun h);
    same_controls = other_count h (late_step answer.post answer.incarnation answer.outcome) (late_other answer.post answer.incarnation answer.outcome low);
    control = λ n source lines k. other_step topology h (late_step answer.post answer.incarnation answer.outcome) n source lines (late_other answer.post answer.incarnation answer.outcome low) k;
    control_partly = λ source lines k. other_step_partly topology h (late_step answer.post answer.incarnation answer.outcome) source lines (late_other answer.post answer.incarnation answer.outcome low) k;
  };
}
  where
    same : answer.post ≡ b.job.post
    same = b.outcome.0.post

    low : 1 ≤ answer.post.stage.0
    low = subst (λ r. 1 ≤ r.stage.0) (sym same) (low_of topology h b.job b.old opened sound before b.away)

-- ---- whatever recording came to

recorded : {E : Type 0} (topology : Topology) (h : History) (home back : ℕ → Option BodySeen) (p : Post) (answer : Answer) (body : BodySeen) (opened : Option BodySeen)
    → IsSound topology → is_legal topology h ≡ true → Ready topology h home → IsBack {E = E} topology h opened p (Ok answer) body → Table p body home back
    → is_legal topology (with_answered topology h answer) ≡ true → Returned {E = E} topology h home p (Ok answer) body (with_answered topology h answer) back
recorded {E = E} topology h home back p answer body opened sound before ready b table legal = by_time (is_in_time topology h answer) refl legal
  where
    goal : History → Type 0
    goal after = Returned {E = E} topology h home p (Ok answer) body after back

    by_time : (live : Bool) → is_in_time topology h answer ≡ live
        → is_legal topology (if live then with_answer topology h answer.post answer.outcome else late_step answer.post answer.incarnation answer.outcome ∷ h) ≡ true
        → goal (with_answered topology h answer)
    by_time true e l =
        subst goal (sym (rw e refl))
        (with_cases topology h answer.post answer.outcome goal l (λ k. live_first topology h home back p answer body opened sound before ready b table e k)
        (λ s after k owes c. owed_too topology h home back p (Ok answer) body (Dispatch s) after sound k refl (λ q. (refl, refl)) (record { control = refl; ends = refl; jobless = refl }) refl refl (none_more (jobs_begun after)) (inl owes) c)
        (λ s after k c. owed_too topology h home back p (Ok answer) body (Kill s Crash) after sound k refl (λ q. (refl, refl)) (record { control = refl; ends = refl; jobless = refl }) refl refl (none_more (jobs_begun after)) tt c))
    by_time false e l = subst goal (sym (rw e refl)) (late_first topology h home back p answer body opened sound before ready b table l)

both_err : {T E : Type 0} (r : Result T E) (A B : Type 0) → OnErr r A → OnErr r B → OnErr r (A × B)
both_err (Ok x) A B a b = tt
both_err (Err e) A B a b = (a, b)

pub comes_home : {T E F : Type 0} (topology other : Topology) (h after : History) (home back : ℕ → Option BodySeen) (p : Post) (answer : Answer) (body : BodySeen) (opened : Option BodySeen) (r : Result T F)
    → IsSound topology → is_legal topology h ≡ true → Ready topology h home → IsBack {E = E} topology h opened p (Ok answer) body → Table p body home back → other ≡ topology → is_legal other after ≡ true
    → OnOk r (after ≡ with_answered topology h answer) → OnErr r (after ≡ h) → OnErr r (brings_records answer.outcome ≡ true) → Returned {E = E} topology h home p (Ok answer) body after back
comes_home {E = E} topology other h after home back p answer body opened r sound before ready b table same legal ok err refused =
    by_result (Returned {E = E} topology h home p (Ok answer) body after back) (after ≡ with_answered topology h answer) ((after ≡ h) × (brings_records answer.outcome ≡ true)) r ok (both_err r (after ≡ h) (brings_records answer.outcome ≡ true) err refused)
    (λ e. subst (λ x. Returned {E = E} topology h home p (Ok answer) body x back) (sym e)
    (recorded topology h home back p answer body opened sound before ready b table (subst (λ x. is_legal topology x ≡ true) e (subst (λ o. is_legal o after ≡ true) same legal))))
    (λ e. subst (λ x. Returned {E = E} topology h home p (Ok answer) body x back) (sym e.0) (unrecorded topology h home back p (Ok answer) body opened sound ready b e.1 table))

-- it is of a stage
pub stage_of : {E : Type 0} (topology : Topology) (h : History) (p : Post) (answer : Answer) (body : BodySeen) (opened : Option BodySeen) → IsSound topology → is_legal topology h ≡ true → IsBack {E = E} topology h opened p (Ok answer) body → 1 ≤ answer.post.stage.0
stage_of topology h p answer body opened sound legal b = subst (λ r. 1 ≤ r.stage.0) (sym b.outcome.0.post) (low_of topology h b.job b.old opened sound legal b.away)

-- the answer may be recorded
pub may_record : {E : Type 0} (topology : Topology) (h : History) (p : Post) (answer : Answer) (body : BodySeen) (opened : Option BodySeen) → IsSound topology → is_legal topology h ≡ true → owed topology h ≡ None
    → IsBack {E = E} topology h opened p (Ok answer) body → allows topology h (answer_step topology h answer) ≡ true
may_record {E = E} topology h p answer body opened sound legal free b = by_time (is_in_time topology h answer) refl
  where
    by_time : (live : Bool) → is_in_time topology h answer ≡ live → allows topology h (answer_step topology h answer) ≡ true
    by_time true e = rw e (live_recorded topology h opened b.job answer b.old body sound legal free b.away (sym (in_time topology h b.job answer b.outcome.0) ∙ e) b.outcome.0 b.outcome.1)
    by_time false e = rw e (late_recorded topology h opened b.job answer b.old body sound legal free b.away (sym (in_time topology h b.job answer b.outcome.0) ∙ e) b.outcome.0 b.outcome.1)

pub table_of : (p : Post) (at : ℕ) (body : BodySeen) (home back : ℕ → Option BodySeen) → at ≡ place_at p → ((s : ℕ) → back s ≡ (if at == s then Some body else home s)) → Table p body home back
table_of p at body home back e moved = λ s. moved s ∙ ap (λ a. if a == s then Some body else home s) e

-- an answer that is refused only where it brings records is recorded where it brings none
pub always_recorded : {T E : Type 0} (topology : Topology) (h after : History) (answer : Answer) (r : Result T E) → OnOk r (after ≡ with_answered topology h answer) → OnErr r (brings_records answer.outcome ≡ true)
    → brings_records answer.outcome ≡ false → after ≡ with_answered topology h answer
always_recorded topology h after answer (Ok x) ok refused none = ok
always_recorded topology h after answer (Err e) ok refused none = let y : true ≡ false = sym refused ∙ none in cc

pub same_err : {T E : Type 0} (r : Result T E) (h : History) → OnErr r (h ≡ h)
same_err (Ok x) h = tt
same_err (Err e) h = refl
