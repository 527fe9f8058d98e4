-- Jobs that are away: what was true when they left is true when they come home.
use Rattle.std.proofs.Common.{◌≡◌, ℕ, [], ◌∷◌, ◌++◌, Bool, true, false, refl, sym, ◌∙◌, subst, Some, None, Option}
use Rattle.std.specs.Prelude.{◌==◌, if◌then◌else◌}
use Rattle.std.specs.List.{AllByRecursion}
use Rattle.std.proofs.lemmas.Bool.{eqb-true, eq-eqb}
use Rattle.std.proofs.lemmas.List.Elements.{recursion_from_All}
use Rattle.pipe_types.specs.declared.step.Step.{Step}
use Rattle.pipe_types.specs.declared.topology.Topology.{Topology}
use Rattle.pipe_types.specs.Sound.{IsSound}
use Rattle.pipe_model.specs.History.{History, incarnation, now as time}
use Rattle.pipe_model.specs.Lives.{is_live}
use Rattle.pipe_model.specs.Posts.{puts_out, answers, is_out, out_from}
use Rattle.pipe_model.specs.Legal.{is_legal, allows, owed, happened, is_halt, has_role, is_producer_role}
use Rattle.pipe_laws.proofs.Tests.{clash, and_left, and_right, both}
use Rattle.pipe_laws.proofs.Allowed.{legal_before}
use Rattle.pipe_laws.proofs.Ends.{halted_dead}
use Rattle.stage_bodies.specs.Seen.{BodySeen}
use Rattle.stage_bodies.specs.Jobs.{Both, IsDone, IsCutOff}
use Rattle.stage_bodies.specs.Moments.{told_for}
use Rattle.stage_bodies.specs.Posts.{place_at, IsJobOf, step_of, brings_records}
use Rattle.stage_bodies.specs.declared.job.Answer.{Answer}
use Rattle.stage_bodies.specs.declared.job.Job.{Job}
use Rattle.stage_bodies.specs.declared.job.Outcome.{Outcome as Came}
use Rattle.body_laws.specs.Keeps.{KeepsBody, Keeps}
use Rattle.body_laws.specs.Lates.{late_step}
use Rattle.body_laws.specs.Ready.{There, IsBodyAt, Ready, WasTold}
use Rattle.body_laws.proofs.Posts.{out_has_post}
use Rattle.body_laws.proofs.Steps.{Stays, stays, current_out}
use Rattle.body_laws.proofs.Staying.{both_map, body_stays, ready_stays, keeps_back, ready_back}
use Rattle.body_laws.proofs.Jobs.{begun_keeps, begun_ready, unrecorded_body, cut_body}
use Rattle.body_laws.proofs.Laws.{answer_keeps, answer_ready, both_part}
use Rattle.body_laws.proofs.Lating.{late_keeps, late_ready}
use Rattle.body_laws.proofs.Allowed.{answer_allowed}
use Rattle.job_laws.specs.Away.{IsAway, is_from_live, AreElsewhere, IsAnswerTo}
use Rattle.job_laws.proofs.Outs.{put_out_once, stays_out, from_stays, no_restart, from_present}
use Rattle.job_laws.proofs.Works.{work_stays}
use Rattle.job_laws.proofs.Telling.{fetch_moment, kept_told, ready_told, still_told, was_told}
use Rattle.job_laws.proofs.Lates.{late_allowed}

-- ---- a job leaves

pub out_away : (topology : Topology) (before : History) (opened : Option BodySeen) (job : Job) (body : BodySeen) → IsJobOf topology before job → IsBodyAt topology before job.post body → Both (KeepsBody topology before job.post) opened (Some body) → WasTold before job.post.stage job.work body → IsAway topology before opened job body
out_away topology before opened job body is fit kept told = record {
  out = current_out before job.post.stage job.post.slot is.out.current;
  from = eqb-true (out_from before job.post) (incarnation before job.post.stage) (and_right (is_out before job.post) _ is.out.current) ∙ sym is.incarnation;
  slot = is.out.slot;
  work = is.work;
  ready = fit;
  kept = kept;
  told = told;
}

pub leaves : (topology : Topology) (before : History) (step : Step) (job : Job) (body : BodySeen) (opened now : ℕ → Option BodySeen) → IsSound topology → is_legal topology (step ∷ before) ≡ true → puts_out step job.post ≡ true → IsJobOf topology (step ∷ before) job
    → now (place_at job.post) ≡ Some body → Keeps topology before opened now → Ready topology before now → IsAway topology (step ∷ before) (opened (place_at job.post)) job (told_for job.work (time (step ∷ before)) body)
leaves topology before step job body opened now sound legal put is there keeps ready =
    let after = step ∷ before in
    let moment = λ (role : has_role topology job.post.stage is_producer_role ≡ true). fetch_moment topology before step job.post legal put role in
    out_away topology after (opened (place_at job.post)) job (told_for job.work (time after) body) is
    (ready_told topology after job.post job.work (time after) body (subst (λ x. There x (IsBodyAt topology after job.post)) there (begun_ready topology before step job.post now sound legal put ready)))
    (kept_told topology after job.post job.work (time after) (opened (place_at job.post)) body is.work moment
    (subst (λ x. Both (KeepsBody topology after job.post) (opened (place_at job.post)) x) there (begun_keeps topology before step job.post opened now sound legal put keeps)))
    (was_told topology after job.post job.work (time after) body is.work moment)

-- ---- it stays away

pub away_stays : (topology : Topology) (before : History) (step : Step) (opened : Option BodySeen) (job : Job) (body : BodySeen) → IsSound topology → is_legal topology (step ∷ before) ≡ true → answers step job.post ≡ false → IsAway topology before opened job body → IsAway topology (step ∷ before) opened job body
away_stays topology before step opened job body sound legal unanswered away = record {
  out = stays_out before step job.post unanswered away.out;
  from = from_stays before step job.post (put_out_once topology before step job.post legal away.out) ∙ away.from;
  slot = away.slot;
  work = work_stays topology before step job.post job.work sound legal away.out unanswered away.work;
  ready = ready_stays topology before step job.post body st away.ready;
  kept = both_map (λ a b k. body_stays topology before step job.post a b st k) opened (Some body) away.kept;
  told = still_told topology before step job.post job.work body (put_out_once topology before step job.post legal away.out) away.work away.told;
}
  where
    st : Stays topology before step job.post
    st =
        stays topology before step job.post sound legal (out_has_post topology before job.post.stage job.post.slot (legal_before topology before step legal) away.out) unanswered
        (no_restart topology before step job.post legal away.slot away.out)

each_stays : (topology : Topology) (later before : History) (opened : Option BodySeen) (job : Job) (body : BodySeen) → IsSound topology → is_legal topology (later ++ before) ≡ true → AllByRecursion (λ step. answers step job.post ≡ false) later → IsAway topology before opened job body → IsAway topology (later ++ before) opened job body
each_stays topology [] before opened job body sound legal none away = away
each_stays topology (step ∷ later) before opened job body sound legal none away =
    away_stays topology (later ++ before) step opened job body sound legal none.0 (each_stays topology later before opened job body sound (legal_before topology (later ++ before) step legal) none.1 away)

pub stays_through : (topology : Topology) (later before : History) (opened : Option BodySeen) (job : Job) (body : BodySeen) → IsSound topology → is_legal topology (later ++ before) ≡ true → AreElsewhere later job.post → IsAway topology before opened job body → IsAway topology (later ++ before) opened job body
stays_through topology later before opened job body sound legal none away = each_stays topology later before opened job body sound legal (recursion_from_All (λ step. answers step job.post ≡ false) later none) away

-- ---- while its incarnation is live

pub of_present : (topology : Topology) (before : History) (opened : Option BodySeen) (job : Job) (body : BodySeen) → is_legal topology before ≡ true → IsAway topology before opened job body → incarnation before job.post.stage ≡ job.incarnation
of_present topology before opened job body legal away = sym (from_present topology before job.post legal away.slot away.out) ∙ away.from

pub live_out : (topology : Topology) (before : History) (opened : Option BodySeen) (job : Job) (body : BodySeen) → is_legal topology before ≡ true → IsAway topology before opened job body → is_from_live topology before job ≡ true → IsJobOf topology before job
live_out topology before opened job body legal away from = record {
  out = record {
    going = going (happened is_halt before) refl;
    live = live;
    current = both (is_out before job.post) _ away.out (eq-eqb (out_from before job.post) (incarnation before job.post.stage) (away.from ∙ same));
    slot = away.slot;
  };
  incarnation = same;
  work = away.work;
}
  where
    live : is_live topology before job.post.stage ≡ true
    live = and_left (is_live topology before job.post.stage) _ from

    same : job.incarnation ≡ incarnation before job.post.stage
    same = sym (of_present topology before opened job body legal away)

    going : (b : Bool) → happened is_halt before ≡ b → happened is_halt before ≡ false
    going true e = clash (is_live topology before job.post.stage) live (halted_dead topology before job.post.stage legal e)
    going false e = e

-- ---- its answer may be recorded

pub live_recorded : (topology : Topology) (before : History) (opened : Option BodySeen) (job : Job) (answer : Answer) (old new : BodySeen) → IsSound topology → is_legal topology before ≡ true → owed topology before ≡ None → IsAway topology before opened job old → is_from_live topology before job ≡ true
    → IsAnswerTo job answer → IsDone job.work answer.outcome old new → allows topology before (step_of answer.post answer.outcome) ≡ true
live_recorded topology before opened job answer old new sound legal calm away from to done =
    answer_allowed topology before job answer old new sound legal calm (live_out topology before opened job old legal away from) to.post away.ready done

-- the late step of the answer is that of the job
as_late : (P : Step → Type 0) (job : Job) (answer : Answer) → IsAnswerTo job answer → P (late_step job.post job.incarnation answer.outcome) → P (late_step answer.post answer.incarnation answer.outcome)
as_late P job answer to h = subst (λ p. P (late_step p answer.incarnation answer.outcome)) (sym to.post) (subst (λ i. P (late_step job.post i answer.outcome)) (sym to.incarnation) h)

from_late : (P : Step → Type 0) (job : Job) (answer : Answer) → IsAnswerTo job answer → P (late_step answer.post answer.incarnation answer.outcome) → P (late_step job.post job.incarnation answer.outcome)
from_late P job answer to h = subst (λ i. P (late_step job.post i answer.outcome)) to.incarnation (subst (λ p. P (late_step p answer.incarnation answer.outcome)) to.post h)

pub late_recorded : (topology : Topology) (before : History) (opened : Option BodySeen) (job : Job) (answer : Answer) (old new : BodySeen) → IsSound topology → is_legal topology before ≡ true → owed topology before ≡ None → IsAway topology before opened job old → is_from_live topology before job ≡ false
    → IsAnswerTo job answer → IsDone job.work answer.outcome old new → allows topology before (late_step answer.post answer.incarnation answer.outcome) ≡ true
late_recorded topology before opened job answer old new sound legal calm away gone to done =
    as_late (λ step. allows topology before step ≡ true) job answer to
    (late_allowed topology before job.post job.work job.incarnation answer.outcome old new calm away.out away.from gone away.work away.ready done)

-- ---- it comes home with its step

pub live_home : (topology : Topology) (before : History) (job : Job) (answer : Answer) (old new : BodySeen) (opened now after : ℕ → Option BodySeen) → IsSound topology → is_legal topology (step_of answer.post answer.outcome ∷ before) ≡ true → IsAway topology before (opened (place_at job.post)) job old
    → is_from_live topology before job ≡ true → IsAnswerTo job answer → IsDone job.work answer.outcome old new → ((s : ℕ) → after s ≡ (if place_at job.post == s then Some new else now s)) → Keeps topology before opened now → Keeps topology (step_of answer.post answer.outcome ∷ before) opened after
live_home topology before job answer old new opened now after sound legal away from to done moved keeps =
    answer_keeps topology before job answer old new opened now after sound legal (live_out topology before (opened (place_at job.post)) job old (legal_before topology before (step_of answer.post answer.outcome) legal) away from) to.post away.ready away.told done away.kept moved keeps

pub live_home_ready : (topology : Topology) (before : History) (opened : Option BodySeen) (job : Job) (answer : Answer) (old new : BodySeen) (now after : ℕ → Option BodySeen) → IsSound topology → is_legal topology (step_of answer.post answer.outcome ∷ before) ≡ true → IsAway topology before opened job old
    → is_from_live topology before job ≡ true → IsAnswerTo job answer → IsDone job.work answer.outcome old new → ((s : ℕ) → after s ≡ (if place_at job.post == s then Some new else now s)) → Ready topology before now → Ready topology (step_of answer.post answer.outcome ∷ before) after
live_home_ready topology before opened job answer old new now after sound legal away from to done moved ready =
    answer_ready topology before job answer old new now after sound legal (live_out topology before opened job old (legal_before topology before (step_of answer.post answer.outcome) legal) away from) to.post away.ready done moved ready

pub late_home : (topology : Topology) (before : History) (job : Job) (answer : Answer) (old new : BodySeen) (opened now after : ℕ → Option BodySeen) → IsSound topology → is_legal topology (late_step answer.post answer.incarnation answer.outcome ∷ before) ≡ true → IsAway topology before (opened (place_at job.post)) job old
    → IsAnswerTo job answer → IsDone job.work answer.outcome old new → ((s : ℕ) → after s ≡ (if place_at job.post == s then Some new else now s)) → Keeps topology before opened now → Keeps topology (late_step answer.post answer.incarnation answer.outcome ∷ before) opened after
late_home topology before job answer old new opened now after sound legal away to done moved keeps =
    as_late (λ step. Keeps topology (step ∷ before) opened after) job answer to
    (late_keeps topology before job.post job.work job.incarnation answer.outcome old new opened now after sound (from_late (λ step. is_legal topology (step ∷ before) ≡ true) job answer to legal) away.work away.ready away.told done away.kept moved keeps)

pub late_home_ready : (topology : Topology) (before : History) (opened : Option BodySeen) (job : Job) (answer : Answer) (old new : BodySeen) (now after : ℕ → Option BodySeen) → IsSound topology → is_legal topology (late_step answer.post answer.incarnation answer.outcome ∷ before) ≡ true → IsAway topology before opened job old
    → IsAnswerTo job answer → IsDone job.work answer.outcome old new → ((s : ℕ) → after s ≡ (if place_at job.post == s then Some new else now s)) → Ready topology before now → Ready topology (late_step answer.post answer.incarnation answer.outcome ∷ before) after
late_home_ready topology before opened job answer old new now after sound legal away to done moved ready =
    as_late (λ step. Ready topology (step ∷ before) after) job answer to
    (late_ready topology before job.post job.work job.incarnation answer.outcome old new now after sound (from_late (λ step. is_legal topology (step ∷ before) ≡ true) job answer to legal) away.work away.ready done moved ready)

-- ---- it comes home, and the journal has no answer

pub cut_home : (topology : Topology) (before : History) (job : Job) (old new : BodySeen) (opened now after : ℕ → Option BodySeen) → IsSound topology → IsAway topology before (opened (place_at job.post)) job old → IsCutOff old new → ((s : ℕ) → after s ≡ (if place_at job.post == s then Some new else now s))
    → Keeps topology before opened now → Keeps topology before opened after
cut_home topology before job old new opened now after sound away cut moved keeps =
    keeps_back topology before job.post new opened now after sound away.slot away.out moved
    (both_part topology before job.post (opened (place_at job.post)) old new (λ a k. cut_body topology before job.post a old new cut k) away.kept) keeps

pub unrecorded_home : (topology : Topology) (before : History) (job : Job) (outcome : Came) (old new : BodySeen) (opened now after : ℕ → Option BodySeen) → IsSound topology → IsAway topology before (opened (place_at job.post)) job old → brings_records outcome ≡ true
    → IsDone job.work outcome old new → ((s : ℕ) → after s ≡ (if place_at job.post == s then Some new else now s)) → Keeps topology before opened now → Keeps topology before opened after
unrecorded_home topology before job outcome old new opened now after sound away brings done moved keeps =
    keeps_back topology before job.post new opened now after sound away.slot away.out moved
    (both_part topology before job.post (opened (place_at job.post)) old new (λ a k. unrecorded_body topology before job.post job.work outcome a old new brings done k) away.kept) keeps

pub home_ready : (topology : Topology) (before : History) (opened : Option BodySeen) (job : Job) (old new : BodySeen) (now after : ℕ → Option BodySeen) → IsSound topology → IsAway topology before opened job old → ((s : ℕ) → after s ≡ (if place_at job.post == s then Some new else now s))
    → Ready topology before now → Ready topology before after
home_ready topology before opened job old new now after sound away moved ready = ready_back topology before job.post new now after sound away.slot away.out moved ready
