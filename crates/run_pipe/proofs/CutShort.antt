-- A round once the watch was shown the journal.
use Rattle.std.proofs.Common.{◌≡◌, ◌<◌, ◌≤◌, Bool, refl, sym, subst, Option, Some, None, Result, Ok, Err}
use Rattle.std.specs.Prelude.{IsSome, IsTrue, is_ok, is_some}
use Rattle.std.specs.Result.{IsErr}
use Rattle.std.specs.declared.alloc.AllocError.{AllocError}
use Rattle.pipe_types.specs.declared.numbers.Post.{Post}
use Rattle.pipe_types.specs.declared.topology.Topology.{Topology}
use Rattle.pipe_model.specs.History.{History}
use Rattle.pipe_model.specs.Legal.{quiet_row}
use Rattle.pipeline_turn.specs.Jobs.{AreAway}
use Rattle.pipeline_turn.proofs.Journals.{begins_through}
use Rattle.pipe_model.specs.Begins.{BeginsWith}
use Rattle.stage_bodies.specs.Seen.{BodySeen}
use Rattle.stage_holds.specs.Holds.{AddsHold}
use Rattle.stage_holds.specs.declared.loads.Load.{Load}
use Rattle.stage_holds.specs.declared.loads.Home.{Home}
use Rattle.stage_workers.specs.Rounds.{IfJob, job_post, brought_post}
use Rattle.stage_workers.specs.declared.shift.Round.{Round}
use Rattle.stage_workers.specs.declared.shift.Round.TheVariants.{Job, Waits, Again, Ended}
use Rattle.run_pipe.specs.declared.ends.RunEnd.{RunEnd}
use Rattle.run_pipe.specs.Ends.{HasMemory}
use Rattle.run_pipe.specs.Jobs.{IsLoadOf}
use Rattle.run_pipe.specs.Measure.{holds_left}
use Rattle.run_pipe.specs.Rounded.{Rounded}
use Rattle.run_pipe.specs.Rounds.{Goes, GoesOn, IsOn, IsWaiting, HasPaused, begins_job, cut_short, round_shown, end_shown}
use Rattle.run_pipe.specs.Seen.{PipeState, away_of}
use Rattle.run_pipe.specs.Watches.{HasSeen}
use Rattle.run_pipe.specs.Whole.{IsWhole}
use Rattle.run_pipe.proofs.Backs.{if_some}
use Rattle.run_pipe.proofs.Homing.{not_going}
use Rattle.run_pipe.proofs.Outcomes.{short_of, short_whole, short_stems}

-- ---- a worker that has begun a job does it, and any other has nothing to do any more

module _ {L : Type 0} where
  still_job : (round : Round L) (P : L → Type 0) → IfJob round P → IfJob (cut_short round) P
  still_job (Job load) P p = p
  still_job Waits P p = tt
  still_job Again P p = tt
  still_job Ended P p = tt

  same_post : (post : L → Post) (round : Round L) → job_post post round ≡ job_post post (cut_short round)
  same_post post (Job load) = refl
  same_post post Waits = refl
  same_post post Again = refl
  same_post post Ended = refl

  short_goes : (round : Round L) (error : AllocError) → IsOn (cut_short round) → GoesOn (cut_short round) (Some (Err error))
  short_goes (Job load) error on = λ memory. absurd memory
  short_goes Waits error on = absurd on
  short_goes Again error on = absurd on
  short_goes Ended error on = absurd on

  never_waits : {A : Type 0} (round : Round L) → IsWaiting (cut_short round) → A
  never_waits (Job load) w = absurd w
  never_waits Waits w = absurd w
  never_waits Again w = absurd w
  never_waits Ended w = absurd w

  never_pauses : {A : Type 0} (round : Round L) → HasPaused (cut_short round) → A
  never_pauses (Job load) p = absurd p
  never_pauses Waits p = absurd p
  never_pauses Again p = absurd p
  never_pauses Ended p = absurd p

  -- where it goes on, it goes on as before
  as_before : (round : Round L) (P : Round L → Type 0) → (Goes round → P round) → Goes (cut_short round) → P (cut_short round)
  as_before (Job load) P f goes = f goes
  as_before Waits P f goes = absurd goes
  as_before Again P f goes = absurd goes
  as_before Ended P f goes = absurd goes

module _ {B : Type 0} (look : B → BodySeen) (brought : Option (Home B)) (old : PipeState) (going : old.end ≡ None) where
  short_round : (round : Round (Load B)) (new : PipeState) (error : AllocError) → Rounded look brought round old new → Rounded look brought (cut_short round) old (short_of new error)
  short_round round new error r =
      let same = same_post (λ (load : Load B). load.job.post) round in
      record {
        stems = λ opened seen s b. short_stems opened new error (r.stems opened seen s b);
        load = λ opened seen s b. still_job round (IsLoadOf look opened new.steps) (r.load opened seen s b);
        adds = subst (λ (j : Option Post). AddsHold (brought_post (λ home. home.post) brought) j old.steps new.steps) same r.adds;
        recorded = λ start memory. absurd memory;
        always = r.always;
        cut_off = if_some brought (λ home. IsErr home.answer → IsSome new.end) (λ home. IsErr home.answer → IsSome (short_of new error).end) (λ home cut fails. refl) r.cut_off;
        one_line = r.one_line;
        ended = λ some. not_going old.end some going;
        away = subst (λ (j : Option Post). AreAway (brought_post (λ home. home.post) brought) j (away_of old) (away_of new)) same r.away;
        on = λ o. (going, short_goes round error o);
        over = λ o. refl;
        whole = short_whole new error r.whole;
        waits = λ w. never_waits round w;
        pauses = λ p. never_pauses round p;
        slept = λ p. never_pauses round p;
        row = λ start. still_job round (λ load. 1 ≤ old.topology.idle_limit → quiet_row new.steps < old.topology.idle_limit) (r.row start);
        rows = λ start memory. absurd memory;
        lessens = λ row goes. as_before round (λ (k : Round (Load B)). holds_left old.topology new.steps (begins_job k) < holds_left old.topology old.steps (is_some brought)) (r.lessens row) goes;
      }

  round_by : {T : Type 0} (shown : Result T AllocError) (round : Round (Load B)) (mid : PipeState) → Rounded look brought round old mid
      → Rounded look brought (round_shown shown round) old (record mid { end = end_shown shown mid.end })
  round_by (Ok t) round mid r = r
  round_by (Err e) round mid r = short_round round mid e r

  -- the round, and how the run has ended
  pub shown_round : {T : Type 0} (shown : Result T AllocError) (round round' : Round (Load B)) (mid : PipeState) (end : Option (Result RunEnd AllocError)) → round' ≡ round_shown shown round → end ≡ end_shown shown mid.end
      → Rounded look brought round old mid → Rounded look brought round' old (record mid { end = end })
  shown_round shown round round' mid end is ends r =
      subst (λ (k : Round (Load B)). Rounded look brought k old (record mid { end = end })) (sym is)
      (subst (λ (e : Option (Result RunEnd AllocError)). Rounded look brought (round_shown shown round) old (record mid { end = e })) (sym ends) (round_by shown round mid r))

whole_by : {T : Type 0} (shown : Result T AllocError) (mid : PipeState) → IsWhole mid → IsWhole (record mid { end = end_shown shown mid.end })
whole_by (Ok t) mid w = w
whole_by (Err e) mid w = short_whole mid e w

pub shown_whole : {T : Type 0} (shown : Result T AllocError) (mid : PipeState) (end : Option (Result RunEnd AllocError)) → end ≡ end_shown shown mid.end → IsWhole mid → IsWhole (record mid { end = end })
shown_whole shown mid end ends w = subst (λ (e : Option (Result RunEnd AllocError)). IsWhole (record mid { end = e })) (sym ends) (whole_by shown mid w)

-- ---- what the watch has seen

module _ (fits : Topology → Type 0) (stood : History → Type 0) (failed : Bool) where
  -- less is said where memory was wanting
  pub seen_where : (memory less : Type 0) (topology : Topology) (steps : History) → (less → memory) → HasSeen fits stood failed memory topology steps → HasSeen fits stood failed less topology steps
  seen_where memory less topology steps f h = record { fit = h.fit; part = h.part; all = λ whole m. h.all whole (f m) }

  pub seen_by : {T : Type 0} (shown : Result T AllocError) (end end' : Option (Result RunEnd AllocError)) (topology : Topology) (steps : History) → end' ≡ end_shown shown end
      → HasSeen fits stood failed (IsTrue (is_ok shown)) topology steps → HasSeen fits stood failed (HasMemory end') topology steps
  seen_by shown end end' topology steps ends h = seen_where (IsTrue (is_ok shown)) (HasMemory end') topology steps (λ memory. by shown (subst HasMemory ends memory)) h
    where
      by : {T : Type 0} (shown : Result T AllocError) → HasMemory (end_shown shown end) → IsTrue (is_ok shown)
      by (Ok t) memory = refl
      by (Err e) memory = absurd memory

  -- it had seen a part of what there is now
  pub part_of : (memory : Type 0) (topology : Topology) (steps now : History) → HasSeen fits stood failed memory topology steps → BeginsWith now steps → (earlier : History) × stood earlier × BeginsWith now earlier
  part_of memory topology steps now h b = (h.part.0, h.part.1, begins_through now steps h.part.0 b h.part.2)
