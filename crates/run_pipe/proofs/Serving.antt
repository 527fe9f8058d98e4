-- A worker that does its job while it has the pipe, and holds it again.
use Rattle.std.proofs.Common.{◌≡◌, ◌≢◌, ⊎_elim, inl, inr, Bool, true, false, refl, sym, ap, ◌∙◌, subst, Option, Some, None, Result, Ok, Err, Contains}
use Rattle.std.specs.Prelude.{IfSome, IfOk, IsSome}
use Rattle.std.specs.declared.alloc.AllocError.{AllocError}
use Rattle.pipe_types.specs.declared.numbers.Post.{Post}
use Rattle.pipe_model.specs.Begins.{BeginsWith}
use Rattle.pipe_model.specs.History.{History}
use Rattle.pipe_model.specs.Posts.{is_out}
use Rattle.pipeline_turn.specs.Jobs.{IsUnanswered, IsOwnJob, AreAway}
use Rattle.pipeline_turn.proofs.Journals.{begins_through, still_out, unanswered_itself, unanswered_through}
use Rattle.stage_bodies.specs.Seen.{BodySeen}
use Rattle.stage_bodies.specs.Posts.{place_at, brings_records}
use Rattle.stage_bodies.specs.declared.job.Answer.{Answer}
use Rattle.body_laws.specs.Ready.{There, IsBodyAt}
use Rattle.stage_holds.specs.Answers.{with_answered}
use Rattle.stage_holds.specs.Homes.{IsOutcomeOf}
use Rattle.stage_holds.specs.declared.loads.Load.{Load}
use Rattle.stage_holds.specs.declared.loads.Home.{Home}
use Rattle.stage_workers.specs.Rounds.{brought_post, job_post}
use Rattle.stage_workers.specs.declared.shift.Round.{Round}
use Rattle.stage_workers.specs.declared.shift.Round.TheVariants.{Job}
use Rattle.run_pipe.specs.declared.ends.RunEnd.{RunEnd}
use Rattle.run_pipe.specs.Ends.{HasMemory}
use Rattle.run_pipe.specs.Jobs.{IsLoadOf, IsBrought}
use Rattle.run_pipe.specs.Rounded.{Rounded, IsRecorded}
use Rattle.run_pipe.specs.Seen.{PipeState, away_of}
use Rattle.run_pipe.specs.Serves.{Serves}
use Rattle.run_pipe.specs.Stems.{Stems}
use Rattle.run_pipe.specs.Whole.{IsWhole}
use Rattle.run_pipe.proofs.Backs.{brought_recorded, worked}
use Rattle.run_pipe.proofs.Gone.{away_from}
use Rattle.run_pipe.proofs.Outs.{no_truth}

-- one hold
pub served_once : {B : Type 0} (look : B → BodySeen) (brought : Option (Home B)) (round : Round (Load B)) (old new : PipeState) → Rounded look brought round old new → Serves look brought round old new
served_once look brought round old new r = record {
  stems = r.stems;
  load = r.load;
  adds = r.adds;
  recorded = brought_recorded look brought round old new r;
  away = r.away;
}

-- ---- posts

-- a post whose body is not at home is out
out_there : (b : Bool) (body : Option BodySeen) (P : BodySeen → Type 0) → (b ≡ false → There body P) → body ≡ None → b ≡ true
out_there true body P there none = refl
out_there false body P there none = absurd (subst (λ (o : Option BodySeen). There o P) none (there refl))

-- a post that was out and is not the worker's own is not the one of the job that it began
not_begun : (own job : Option Post) (old new : History) (q : Post) → IfSome job (λ post. IsOwnJob own old new post) → is_out old q ≡ true → own ≢ Some q → job ≢ Some q
not_begun own job old new q begun out other e =
    let b = subst (λ (o : Option Post). IfSome o (λ post. IsOwnJob own old new post)) e begun in
    no_truth (is_out old q) out (b.1 other)

-- ---- what is recorded stays so

-- a pipe that has the memory had it before
had_memory : (old new : Option (Result RunEnd AllocError)) → (IsSome old → new ≡ old) → HasMemory new → HasMemory old
had_memory None new stays memory = tt
had_memory (Some end) new stays memory = subst HasMemory (stays refl) memory

recorded_on : {B : Type 0} (old middle new : PipeState) (home : Home B) → (IsSome middle.end → new.end ≡ middle.end) → BeginsWith new.steps middle.steps → IsRecorded old middle home → IsRecorded old new home
recorded_on old middle new home stays begins r = record {
  recorded = λ on memory. kept home.answer (r.recorded on (had_memory middle.end new.end stays memory));
  always = kept_always home.answer r.always;
  cut_off = λ cut. subst (λ (e : Option (Result RunEnd AllocError)). IsSome e) (sym (stays (r.cut_off cut))) (r.cut_off cut);
}
  where
    kept : (answer : Result Answer AllocError) → IfOk answer (λ a. BeginsWith middle.steps (with_answered old.topology old.steps a)) → IfOk answer (λ a. BeginsWith new.steps (with_answered old.topology old.steps a))
    kept (Ok a) b = begins_through new.steps middle.steps (with_answered old.topology old.steps a) begins b
    kept (Err e) b = tt

    kept_always : (answer : Result Answer AllocError) → IfOk answer (λ a. brings_records a.outcome ≡ false → BeginsWith middle.steps (with_answered old.topology old.steps a))
        → IfOk answer (λ a. brings_records a.outcome ≡ false → BeginsWith new.steps (with_answered old.topology old.steps a))
    kept_always (Ok a) b = λ none. begins_through new.steps middle.steps (with_answered old.topology old.steps a) begins (b none)
    kept_always (Err e) b = tt

all_recorded_on : {B : Type 0} (brought : Option (Home B)) (old middle new : PipeState) → (IsSome middle.end → new.end ≡ middle.end) → BeginsWith new.steps middle.steps → IfSome brought (λ home. IsRecorded old middle home) → IfSome brought (λ home. IsRecorded old new home)
all_recorded_on None old middle new stays begins r = tt
all_recorded_on (Some home) old middle new stays begins r = recorded_on old middle new home stays begins r

-- ---- one hold more

module _ {B : Type 0} (look : B → BodySeen) (brought : Option (Home B)) (old middle : PipeState) (load : Load B) (s : Serves look brought (Job load) old middle) where
  -- the job that was begun may be done
  pub served_load : (o : (opened : PipeState) × (seen : History) × Stems opened old × IsBrought look opened seen old.steps brought) → IsLoadOf look o.0 middle.steps load
  served_load o = s.load o.0 o.1 o.2 o.3

  module _ (home : Home B) (same : home.post ≡ load.job.post) (outcome : IsOutcomeOf load.job home.answer (look load.body) (look home.body)) where
    brings : (opened : PipeState) → IsLoadOf look opened middle.steps load → IsBrought look opened middle.steps middle.steps (Some home)
    brings opened l = (worked look opened middle.steps load home same outcome l, (subst (λ (q : Post). is_out middle.steps q ≡ true) (sym same) s.adds.own_job.0, unanswered_itself middle.steps home.post))

    -- and be brought to the next hold
    pub served_brings : (o : (opened : PipeState) × (seen : History) × Stems opened old × IsBrought look opened seen old.steps brought)
        → (opened : PipeState) × (seen : History) × Stems opened middle × IsBrought look opened seen middle.steps (Some home)
    served_brings o = (o.0, middle.steps, s.stems o.0 o.1 o.2 o.3, brings o.0 (served_load o))

    module _ (round : Round (Load B)) (new : PipeState) (r : Rounded look (Some home) round middle new) (w : IsWhole old) where
      abbrev own : Option Post
      own = brought_post (λ h. h.post) brought

      abbrev job : Option Post
      job = job_post (λ l. l.job.post) round

      -- neither is a post that was out, and is not the worker's own, the one of the job that was done
      other_than : (q : Post) → is_out old.steps q ≡ true → own ≢ Some q → Some home.post ≢ Some q
      other_than q out other e = not_begun own (Some load.job.post) old.steps middle.steps q s.adds.own_job out other (ap Some (sym same) ∙ e)

      unanswered : (q : Post) → is_out old.steps q ≡ true → own ≢ Some q → IsUnanswered new.steps old.steps q
      unanswered q out other =
          let first = s.adds.others_unanswered q out other in
          unanswered_through new.steps middle.steps old.steps q (r.adds.others_unanswered q (still_out middle.steps old.steps q out first) (other_than q out other)) first

      was_not_out : (b : Bool) (q : Post) → is_out old.steps q ≡ b → own ≢ Some q → (Some home.post ≢ Some q → is_out middle.steps q ≡ false) → is_out old.steps q ≡ false
      was_not_out false q is other none = is
      was_not_out true q is other none = no_truth (is_out middle.steps q) (still_out middle.steps old.steps q is (s.adds.others_unanswered q is other)) (none (other_than q is other))

      own_job : (o : Option Post) → IfSome o (λ post. IsOwnJob (Some home.post) middle.steps new.steps post) → IfSome o (λ post. IsOwnJob own old.steps new.steps post)
      own_job None b = tt
      own_job (Some q) b = (b.0, λ other. was_not_out (is_out old.steps q) q refl other b.1)

      away_is_out : (q : Post) → Contains (away_of old) q → is_out old.steps q ≡ true
      away_is_out q c =
          let a = away_from old.topology old.home old.places q c in
          out_there (is_out old.steps q) (old.home (place_at q)) (IsBodyAt old.topology old.steps q) (w.ready q a.post) a.none

      away : AreAway own job (away_of old) (away_of new)
      away q = (
        λ c. ⊎_elim (λ (e : job ≡ Some q). inl e)
            (λ (u : Contains (away_of middle) q × (Some home.post ≢ Some q)).
            ⊎_elim (λ (e : Some load.job.post ≡ Some q). absurd (u.1 (ap Some same ∙ e))) (λ (v : Contains (away_of old) q × (own ≢ Some q)). inr v) ((s.away q).0 u.0))
            ((r.away q).0 c),
        ⊎_elim (λ (e : job ≡ Some q). (r.away q).1 (inl e))
            (λ (v : Contains (away_of old) q × (own ≢ Some q)). (r.away q).1 (inr ((s.away q).1 (inr v), other_than q (away_is_out q v.0) v.1))),
      )

      pub served_on : Serves look brought round old new
      served_on = record {
        stems = λ opened seen t b. r.stems opened middle.steps (s.stems opened seen t b) (brings opened (s.load opened seen t b));
        load = λ opened seen t b. r.load opened middle.steps (s.stems opened seen t b) (brings opened (s.load opened seen t b));
        adds = record {
          begins = begins_through new.steps middle.steps old.steps r.adds.begins s.adds.begins;
          others_unanswered = unanswered;
          own_job = own_job job r.adds.own_job;
        };
        recorded = all_recorded_on brought old middle new (λ some. (r.ended some).0) r.adds.begins s.recorded;
        away = away;
      }
