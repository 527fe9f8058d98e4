-- What steps from a control source leave of a run.
use Rattle.std.proofs.Common.{◌≡◌, ℕ, ◌+◌, ◌<◌, List, [], ◌∷◌, Bool, true, false, arith, refl, ap, sym, ◌∙◌, subst, inl, inr, Option}
use Rattle.std.specs.Prelude.{◌⊎◌, ◌||◌, ◌&&◌, not, IsTrue}
use Rattle.std.specs.List.{list_any}
use Rattle.pipe_types.specs.declared.message.Why.TheVariants.{Kill as KillWhy, Stop}
use Rattle.pipe_types.specs.declared.numbers.Post.{Post}
use Rattle.pipe_types.specs.declared.numbers.StageNo.{StageNo}
use Rattle.pipe_types.specs.declared.step.DrainCause.TheVariants.{Control}
use Rattle.pipe_types.specs.declared.step.SourceHow.{SourceHow}
use Rattle.pipe_types.specs.declared.step.Step.{Step}
use Rattle.pipe_types.specs.declared.step.Step.TheVariants.{SourceEnd, Kill, Drain, Refuse}
use Rattle.pipe_types.specs.declared.topology.StageSpec.{StageSpec}
use Rattle.pipe_types.specs.declared.topology.Topology.{Topology}
use Rattle.pipe_types.specs.Numbers.{stage, post, same_stage}
use Rattle.pipe_types.specs.Sound.{IsSound}
use Rattle.pipe_model.specs.History.{History, now, controls}
use Rattle.pipe_model.specs.Legal.{is_legal, happened, is_halt}
use Rattle.pipe_model.specs.Moves.{jobs_out}
use Rattle.pipe_model.specs.Outside.{is_control, control_reading}
use Rattle.pipe_model.specs.Posts.{is_out, has_post_out, slots}
use Rattle.stage_bodies.specs.declared.job.Outcome.{Outcome}
use Rattle.stage_bodies.specs.declared.job.Outcome.TheVariants as came
use Rattle.body_laws.specs.Keeps.{is_silent}
use Rattle.body_laws.proofs.Laws.{silent_keeps, silent_ready}
use Rattle.work_laws.specs.Work.{is_work}
use Rattle.work_laws.proofs.Leaving.{work_lowers}
use Rattle.pipe_laws.proofs.Tests.{same_stage-true}
use Rattle.pipe_laws.specs.Followed.{IsNextMove}
use Rattle.control_lines.specs.Steps.{begins, jobs_begun, still_ticks, ends_control, is_from_control, AddsControl}
use Rattle.control_lines.specs.Rest.{LeavesAtRest}
use Rattle.control_lines.specs.Orders.{with_reading}
use Rattle.control_lines.proofs.Readings.{by_reading}
use Rattle.control_lines.proofs.Steps.{no_job}

-- the kinds of steps from a control source
by_control : (P : Step → Type 0) → ((s : StageNo) → P (Kill s KillWhy)) → ((s : StageNo) → P (Kill s Stop)) → P (Drain Control) → ((line : ℕ) → P (Refuse line)) → ((how : SourceHow) → P (SourceEnd (stage 0) how))
    → (step : Step) → is_from_control step ≡ true → P step
by_control P kills stops drains refuses ends (Kill s KillWhy) h = kills s
by_control P kills stops drains refuses ends (Kill s Stop) h = stops s
by_control P kills stops drains refuses ends (Drain Control) h = drains
by_control P kills stops drains refuses ends (Refuse line) h = refuses line
by_control P kills stops drains refuses ends (SourceEnd s how) h = subst (λ t. P (SourceEnd t how)) (sym (same_stage-true s (stage 0) h)) (ends how)
by_control P kills stops drains refuses ends _ h = cc

any_same : {A : Type 0} (f g : A → Bool) (xs : List A) → ((x : A) → f x ≡ g x) → list_any f xs ≡ list_any g xs
any_same f g [] h = refl
any_same f g (x ∷ xs) h = ap (λ b. b || list_any f xs) (h x) ∙ ap (λ b. g x || b) (any_same f g xs h)

-- no such step is that of a stage's post
pub record IsAside (step : Step) : Type 0 where
  pub silent : is_silent step ≡ true
  pub works : is_work step ≡ true
  pub no_begin : begins step ≡ false
  pub no_halt : is_halt step ≡ false
  pub no_tick : (before : History) → now (step ∷ before) ≡ now before
  pub no_still : (before : History) → still_ticks (step ∷ before) ≡ still_ticks before
  pub no_post : (before : History) (p : Post) → is_out (step ∷ before) p ≡ is_out before p
  pub next : (topology : Topology) (before : History) → IsNextMove topology before step

from_control : (step : Step) → is_from_control step ≡ true → IsAside step
from_control step h =
    by_control IsAside
    (λ s. record { silent = refl; works = refl; no_begin = refl; no_halt = refl; no_tick = λ before. refl; no_still = λ before. refl; no_post = λ before p. refl; next = λ topology before. tt })
    (λ s. record { silent = refl; works = refl; no_begin = refl; no_halt = refl; no_tick = λ before. refl; no_still = λ before. refl; no_post = λ before p. refl; next = λ topology before. tt })
    (record { silent = refl; works = refl; no_begin = refl; no_halt = refl; no_tick = λ before. refl; no_still = λ before. refl; no_post = λ before p. refl; next = λ topology before. tt })
    (λ line. record { silent = refl; works = refl; no_begin = refl; no_halt = refl; no_tick = λ before. refl; no_still = λ before. refl; no_post = λ before p. refl; next = λ topology before. tt })
    (λ how. record { silent = refl; works = refl; no_begin = refl; no_halt = refl; no_tick = λ before. refl; no_still = λ before. refl; no_post = λ before p. refl; next = λ topology before. tt })
    step h

leaves_step : (topology : Topology) (before : History) (step : Step) → IsSound topology → is_legal topology (step ∷ before) ≡ true → is_from_control step ≡ true → LeavesAtRest topology before (step ∷ before)
leaves_step topology before step sound legal from =
    let a = from_control step from in record {
      follows = λ f. (f, a.next topology before);
      same_halt = ap (λ b. b || happened is_halt before) a.no_halt;
      same_out =
          any_same (λ (spec : StageSpec). has_post_out (step ∷ before) spec.no) (λ (spec : StageSpec). has_post_out before spec.no) topology.stages
          (λ spec. any_same (λ slot. is_out (step ∷ before) (post spec.no slot)) (λ slot. is_out before (post spec.no slot)) slots (λ slot. a.no_post before (post spec.no slot)));
      keeps = λ opened home k. silent_keeps topology before step opened home sound legal a.silent k;
      ready = λ home r. silent_ready topology before step home sound legal a.silent r;
      same_time = a.no_tick before;
      same_still = a.no_still before;
      same_jobs = no_job step before a.no_begin;
      progress = inr (work_lowers topology before step sound legal a.works);
    }

leaves_none : (topology : Topology) (before : History) → LeavesAtRest topology before before
leaves_none topology before = record {
  follows = λ f. f;
  same_halt = refl;
  same_out = refl;
  keeps = λ opened home k. k;
  ready = λ home r. r;
  same_time = refl;
  same_still = refl;
  same_jobs = refl;
  progress = inl refl;
}

pub leaves_at_rest : (topology : Topology) (old new : History) → IsSound topology → is_legal topology new ≡ true → AddsControl old new → LeavesAtRest topology old new
leaves_at_rest topology old new sound legal (inl same) = subst (λ h. LeavesAtRest topology old h) (sym same) (leaves_none topology old)
leaves_at_rest topology old new sound legal (inr (step, is, from)) =
    subst (λ h. LeavesAtRest topology old h) (sym is) (leaves_step topology old step sound (subst (λ h. is_legal topology h ≡ true) is legal) from)

-- what a reading adds comes from the control source
pub reading_adds : (topology : Topology) (before : History) (outcome : Outcome) → AddsControl before (with_reading topology before outcome)
reading_adds topology before (came.Records (line ∷ lines)) =
    inr (
      control_reading topology before (controls before + 1) line,
      refl,
      by_reading (λ s. is_from_control s ≡ true) topology before (controls before + 1) line (λ s. refl) (λ s. refl) refl refl,
    )
reading_adds topology before (came.Records []) = inl refl
reading_adds topology before (came.Ended how) = inr (SourceEnd (stage 0) how, refl, refl)
reading_adds topology before came.NotYet = inl refl
reading_adds topology before (came.Replies replies) = inl refl
reading_adds topology before (came.Wrote bytes end) = inl refl
reading_adds topology before (came.Reply reply) = inl refl
