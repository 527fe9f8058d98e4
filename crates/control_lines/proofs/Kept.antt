-- What a step, or a reading, leaves of what a journal says of its control source.
use Rattle.std.proofs.Common.{◌≡◌, ℕ, ◌+◌, ◌≤◌, List, [], ◌∷◌, ◌++◌, length, Bool, true, false, suc, arith, refl, ap, sym, ◌∙◌, subst, inl, Some, None, Option}
use Rattle.std.specs.Prelude.{◌||◌, IsSome, IfSome}
use Rattle.std.proofs.lemmas.List.{append-nil, length-append}
use Rattle.std.proofs.lemmas.List.Elements.{All-nil}
use Rattle.pipe_types.specs.Counts.{Rose}
use Rattle.pipe_types.specs.declared.step.SourceHow.{SourceHow}
use Rattle.pipe_types.specs.declared.step.SourceHow.TheVariants as how
use Rattle.pipe_types.specs.declared.step.Step.{Step}
use Rattle.pipe_types.specs.declared.step.Step.TheVariants.{SourceEnd}
use Rattle.pipe_types.specs.declared.topology.Topology.{Topology}
use Rattle.pipe_types.specs.Numbers.{stage}
use Rattle.pipe_model.specs.History.{History, controls}
use Rattle.pipe_model.specs.Legal.{has_ended, ends_source}
use Rattle.pipe_model.specs.Outside.{control_reading, is_control, source_end, end_by_step}
use Rattle.pipe_edges.specs.Texts.{IsLine}
use Rattle.pipe_edges.specs.declared.reading.LineEnd.{LineEnd}
use Rattle.pipe_edges.specs.declared.reading.LineEnd.TheVariants as end
use Rattle.pipe_laws.specs.Read.{HasNoControl}
use Rattle.stage_job.specs.Chunks.{RoseBy}
use Rattle.stage_bodies.specs.Seen.{LineSeen}
use Rattle.stage_bodies.specs.Reads.{AreReadFrom}
use Rattle.stage_bodies.specs.Jobs.{ReadsOn, Fetches, IsFetched}
use Rattle.stage_bodies.specs.declared.job.Outcome.{Outcome}
use Rattle.stage_bodies.specs.declared.job.Outcome.TheVariants as came
use Rattle.body_laws.proofs.Rises.{rise_one, rise_stays}
use Rattle.body_laws.proofs.Answering.{waits_stay}
use Rattle.control_lines.specs.Steps.{begins, jobs_begun}
use Rattle.control_lines.specs.Orders.{with_reading, IsReading}
use Rattle.control_lines.specs.Keeping.{vain_tries_for, IsKnownControlEnd, KeepsLines, KeepsLinesPartly, KeepsControl, KeepsControlPartly, IsFresh}
use Rattle.control_lines.proofs.Tries.{rise_fewer, fewer_jobs, tried_once, ended_tries, other_tries, job_tries, control_tries, end_tries}
use Rattle.control_lines.proofs.Readings.{by_reading, other_readings, next_reading}
use Rattle.control_lines.proofs.Steps.{other_controls, one_control, no_job, one_job, job_is_no_control, job_is_no_end, control_is_no_job, control_is_no_end, stays_open, other_end}

-- ---- steps from elsewhere

passed : (topology : Topology) (before : History) (step : Step) (m n : ℕ) (lost : List (List ℕ)) (opened now : LineSeen) → is_control step ≡ false → ends_source (stage 0) step ≡ false → vain_tries_for m (step ∷ before) ≤ vain_tries_for n before
    → KeepsLines topology before n lost opened now → KeepsLines topology (step ∷ before) m lost opened now
passed topology before step m n lost opened now other goes few k =
    let same_end = other_end step (source_end before (stage 0)) goes in
    let same_count = other_controls step (controls before) other in
    record {
      lines = k.lines;
      read = k.read;
      one_each = k.one_each ∙ sym same_count;
      readings = other_readings topology before step k.lines other k.readings;
      known =
          subst (λ n. IsKnownControlEnd n (end_by_step step (stage 0) (source_end before (stage 0))) now.end) (sym same_count)
          (subst (λ o. IsKnownControlEnd (controls before) o now.end) (sym same_end) k.known);
      none_lost = λ some. k.none_lost (subst (λ (o : Option SourceHow). IsSome o) same_end some);
      tries = rise_fewer (vain_tries_for n before) (vain_tries_for m (step ∷ before)) opened.source.waits now.source.waits k.tries few;
    }

no_control : (before : History) (step : Step) → is_control step ≡ false → ends_source (stage 0) step ≡ false → HasNoControl before → HasNoControl (step ∷ before)
no_control before step other goes n = record {
  no_step = other_controls step (controls before) other ∙ n.no_step;
  no_end = other_end step (source_end before (stage 0)) goes ∙ n.no_end;
}

pub other_keeps : (topology : Topology) (before : History) (step : Step) (jobs : ℕ) (opened now : Option LineSeen) → is_control step ≡ false → ends_source (stage 0) step ≡ false → begins step ≡ false
    → KeepsControl topology before jobs opened now → KeepsControl topology (step ∷ before) jobs opened now
other_keeps topology before step jobs (Some a) (Some b) other goes none k =
    passed topology before step jobs jobs [] a b other goes
    (other_tries step before jobs (stays_open step before goes) (no_job step before none) (other_controls step (controls before) other)) k
other_keeps topology before step jobs None None other goes none k = no_control before step other goes k
other_keeps topology before step jobs (Some a) None other goes none k = absurd k
other_keeps topology before step jobs None (Some b) other goes none k = absurd k

-- the same of what is kept in part
pub other_keeps_partly : (topology : Topology) (before : History) (step : Step) (opened now : Option LineSeen) → is_control step ≡ false → ends_source (stage 0) step ≡ false → begins step ≡ false
    → KeepsControlPartly topology before opened now → KeepsControlPartly topology (step ∷ before) opened now
other_keeps_partly topology before step (Some a) (Some b) other goes none k =
    (k.0, passed topology before step 0 0 k.0 a b other goes (other_tries step before 0 (stays_open step before goes) (no_job step before none) (other_controls step (controls before) other)) k.1)
other_keeps_partly topology before step None None other goes none k = no_control before step other goes k
other_keeps_partly topology before step (Some a) None other goes none k = absurd k
other_keeps_partly topology before step None (Some b) other goes none k = absurd k

pub job_keeps : (topology : Topology) (before : History) (step : Step) (opened now : Option LineSeen) → begins step ≡ true → KeepsControl topology before 1 opened now → KeepsControl topology (step ∷ before) 0 opened now
job_keeps topology before step (Some a) (Some b) job k =
    passed topology before step 0 1 [] a b (job_is_no_control step job) (job_is_no_end step job)
    (job_tries step before (stays_open step before (job_is_no_end step job)) (one_job step before job) (other_controls step (controls before) (job_is_no_control step job))) k
job_keeps topology before step None None job k = no_control before step (job_is_no_control step job) (job_is_no_end step job) k
job_keeps topology before step (Some a) None job k = absurd k
job_keeps topology before step None (Some b) job k = absurd k

-- ---- fewer jobs

fewer_keeps : (topology : Topology) (before : History) (m n : ℕ) (lost : List (List ℕ)) (opened now : LineSeen) → vain_tries_for m before ≤ vain_tries_for n before
    → KeepsLines topology before n lost opened now → KeepsLines topology before m lost opened now
fewer_keeps topology before m n lost opened now few k = record {
  lines = k.lines;
  read = k.read;
  one_each = k.one_each;
  readings = k.readings;
  known = k.known;
  none_lost = k.none_lost;
  tries = rise_fewer (vain_tries_for n before) (vain_tries_for m before) opened.source.waits now.source.waits k.tries few;
}

pub jobless_keeps : (topology : Topology) (before : History) (opened now : Option LineSeen) → KeepsControl topology before 1 opened now → KeepsControl topology before 0 opened now
jobless_keeps topology before (Some a) (Some b) k = fewer_keeps topology before 0 1 [] a b (fewer_jobs before 0 1 (omega arith)) k
jobless_keeps topology before None None k = k
jobless_keeps topology before (Some a) None k = absurd k
jobless_keeps topology before None (Some b) k = absurd k

pub kept_partly : (topology : Topology) (before : History) (opened now : Option LineSeen) → KeepsControl topology before 0 opened now → KeepsControlPartly topology before opened now
kept_partly topology before (Some a) (Some b) k = ([], k)
kept_partly topology before None None k = k
kept_partly topology before (Some a) None k = absurd k
kept_partly topology before None (Some b) k = absurd k

-- the source has ended, and is not read
pub ended_keeps : (topology : Topology) (before : History) (opened now : LineSeen) → has_ended before (stage 0) ≡ true → KeepsLines topology before 0 [] opened now → KeepsLines topology before 1 [] opened now
ended_keeps topology before opened now ended k = fewer_keeps topology before 1 0 [] opened now (ended_tries before 1 ended) k

-- ---- the start

no_end : {A : Type 0} (now : Option LineEnd) (e : LineEnd) → now ≡ None → now ≡ Some e → A
no_end now e none is = let x : None ≡ Some e = sym none ∙ is in cc

pub fresh_keeps : (topology : Topology) (opened : LineSeen) → IsFresh opened → KeepsLines topology [] 0 [] opened opened
fresh_keeps topology opened fresh = record {
  lines = [];
  read = record {
    same_telling = refl;
    each_is_a_line = All-nil IsLine;
    same_bytes = λ t. refl;
    to_come = λ t still. rw fresh.waiting refl;
    at_end = λ t is. no_end opened.end end.End fresh.end is;
    at_long = λ is. no_end opened.end end.TooLong fresh.end is;
    at_fault = λ is. no_end opened.end end.Fault fresh.end is;
    faults_stay = omega arith;
    waits_stay = omega arith;
  };
  one_each = refl;
  readings = tt;
  known = tt;
  none_lost = λ some. refl;
  tries = inl (omega arith);
}

pub fresh_control : (topology : Topology) (opened : Option LineSeen) → IfSome opened IsFresh → KeepsControl topology [] 0 opened opened
fresh_control topology (Some a) fresh = fresh_keeps topology a fresh
fresh_control topology None fresh = record { no_step = refl; no_end = refl }

-- ---- a reading

-- a source that has not ended has no end
unended : (before : History) → has_ended before (stage 0) ≡ false → source_end before (stage 0) ≡ None
unended [] e = refl
unended (step ∷ before) e =
    other_end step (source_end before (stage 0)) (first (ends_source (stage 0) step) (has_ended before (stage 0)) e)
    ∙ unended before (second (ends_source (stage 0) step) (has_ended before (stage 0)) e)
  where
    first : (a b : Bool) → (a || b) ≡ false → a ≡ false
    first true b h = cc
    first false b h = refl

    second : (a b : Bool) → (a || b) ≡ false → b ≡ false
    second true b h = cc
    second false b h = h

no_some : {A : Type 0} (o : Option SourceHow) → o ≡ None → IsSome o → A
no_some None none some = let x : false ≡ true = some in cc
no_some (Some h) none some = cc

-- nothing is read
unread_on : (old : LineSeen) → ReadsOn [] old old
unread_on old opened earlier read = subst (AreReadFrom opened old) (sym (append-nil earlier)) read

-- the lines that were read before, and those of the reading
lines_read : (topology : Topology) (before : History) (records : List (List ℕ)) (opened old new : LineSeen) (k : KeepsLines topology before 0 [] opened old) → ReadsOn records old new → AreReadFrom opened.source new (k.lines ++ records)
lines_read topology before records opened old new k on =
    subst (λ xs. AreReadFrom opened.source new (xs ++ records)) (append-nil k.lines) (on opened.source (k.lines ++ []) k.read)

tries_on : (topology : Topology) (before : History) (records : List (List ℕ)) (opened old new : LineSeen) (n : ℕ) (k : KeepsLines topology before 0 [] opened old) → ReadsOn records old new → n ≤ vain_tries_for 0 before
    → RoseBy n opened.source.waits new.source.waits
tries_on topology before records opened old new n k on few =
    rise_stays n opened.source.waits old.source.waits new.source.waits
    (rise_fewer (vain_tries_for 0 before) n opened.source.waits old.source.waits k.tries few)
    (waits_stay opened.source (k.lines ++ []) records old new k.read on)

-- the line is obeyed or refused
obeyed_keeps : (topology : Topology) (before : History) (line : List ℕ) (opened old new : LineSeen) → has_ended before (stage 0) ≡ false → ReadsOn (line ∷ []) old new → KeepsLines topology before 0 [] opened old
    → KeepsLines topology (control_reading topology before (controls before + 1) line ∷ before) 1 [] opened new
obeyed_keeps topology before line opened old new going on k =
    record {
      lines = k.lines ++ line ∷ [];
      read = subst (AreReadFrom opened.source new) (sym (append-nil (k.lines ++ line ∷ []))) (lines_read topology before (line ∷ []) opened old new k on);
      one_each = length-append k.lines (line ∷ []) ∙ ap (λ n. n + 1) k.one_each ∙ sym one_more;
      readings = next_reading topology before k.lines line k.one_each k.readings;
      known = subst (λ o. IsKnownControlEnd (controls (step ∷ before)) o new.end) (sym no_end) tt;
      none_lost = λ some. refl;
      tries = tries_on topology before (line ∷ []) opened old new (vain_tries_for 1 (step ∷ before)) k on (control_tries step before (stays_open step before stays) (no_job step before (control_is_no_job step is)) one_more);
    }
  where
    step : Step
    step = control_reading topology before (controls before + 1) line

    is : is_control step ≡ true
    is = by_reading (λ s. is_control s ≡ true) topology before (controls before + 1) line (λ s. refl) (λ s. refl) refl refl

    stays : ends_source (stage 0) step ≡ false
    stays = control_is_no_end step is

    one_more : controls (step ∷ before) ≡ controls before + 1
    one_more = one_control step (controls before) is

    no_end : source_end (step ∷ before) (stage 0) ≡ None
    no_end = other_end step (source_end before (stage 0)) stays ∙ unended before going

-- the source ends
end_keeps : (topology : Topology) (before : History) (h : SourceHow) (opened old new : LineSeen) → IsKnownControlEnd (controls before) (Some h) new.end → ReadsOn [] old new → KeepsLines topology before 0 [] opened old
    → KeepsLines topology (SourceEnd (stage 0) h ∷ before) 1 [] opened new
end_keeps topology before h opened old new known on k = record {
  lines = k.lines;
  read = lines_read topology before [] opened old new k on;
  one_each = k.one_each;
  readings = (k.readings, tt);
  known = known;
  none_lost = λ some. refl;
  tries = tries_on topology before [] opened old new (vain_tries_for 1 (SourceEnd (stage 0) h ∷ before)) k on (end_tries (SourceEnd (stage 0) h) before refl);
}

-- the source ends by its limit
pub limit_keeps : (topology : Topology) (before : History) (opened now : LineSeen) → controls before ≡ 10000 → KeepsLines topology before 0 [] opened now
    → KeepsLines topology (SourceEnd (stage 0) how.Limit ∷ before) 1 [] opened now
limit_keeps topology before opened now full k = end_keeps topology before how.Limit opened now now full (unread_on now) k

-- the source has nothing ready
idle_keeps : (topology : Topology) (before : History) (opened old new : LineSeen) → has_ended before (stage 0) ≡ false → Rose old.source.waits new.source.waits → ReadsOn [] old new → KeepsLines topology before 0 [] opened old
    → KeepsLines topology before 1 [] opened new
idle_keeps topology before opened old new going rose on k = record {
  lines = k.lines;
  read = lines_read topology before [] opened old new k on;
  one_each = k.one_each;
  readings = k.readings;
  known = subst (λ o. IsKnownControlEnd (controls before) o new.end) (sym (unended before going)) tt;
  none_lost = λ some. refl;
  tries =
      rise_fewer (vain_tries_for 0 before + 1) (vain_tries_for 1 before) opened.source.waits new.source.waits
      (rise_one (vain_tries_for 0 before) opened.source.waits old.source.waits new.source.waits k.tries rose (waits_stay opened.source (k.lines ++ []) [] old new k.read on))
      (tried_once before);
}

-- what was read is in no step
pub lost_keeps : (topology : Topology) (before : History) (records : List (List ℕ)) (opened old new : LineSeen) → has_ended before (stage 0) ≡ false → ReadsOn records old new → KeepsLines topology before 0 [] opened old
    → KeepsLinesPartly topology before opened new
lost_keeps topology before records opened old new going on k = (
  records,
  record {
    lines = k.lines;
    read = lines_read topology before records opened old new k on;
    one_each = k.one_each;
    readings = k.readings;
    known = subst (λ o. IsKnownControlEnd (controls before) o new.end) (sym (unended before going)) tt;
    none_lost = λ some. no_some (source_end before (stage 0)) (unended before going) some;
    tries = tries_on topology before records opened old new (vain_tries_for 0 before) k on (omega arith);
  },
)

-- the journal notes what a reading came to
pub reading_keeps : (topology : Topology) (before : History) (outcome : Outcome) (opened old new : LineSeen) → has_ended before (stage 0) ≡ false → Fetches 1 outcome old new → KeepsLines topology before 0 [] opened old
    → KeepsLines topology (with_reading topology before outcome) 1 [] opened new
reading_keeps topology before (came.Records []) opened old new going f k = absurd (none f.answer.0)
  where
    none : 1 ≤ 0 → ⊥
    none h = omega (arith, h)
reading_keeps topology before (came.Records (line ∷ [])) opened old new going f k = obeyed_keeps topology before line opened old new going f.reads k
reading_keeps topology before (came.Records (line ∷ other ∷ lines)) opened old new going f k = absurd (many (length lines) f.answer.1)
  where
    many : (n : ℕ) → suc (suc n) ≤ 1 → ⊥
    many n h = omega (arith, h)
reading_keeps topology before came.NotYet opened old new going f k = idle_keeps topology before opened old new going f.answer.0 f.reads k
reading_keeps topology before (came.Ended how.End) opened old new going f k = end_keeps topology before how.End opened old new f.answer f.reads k
reading_keeps topology before (came.Ended how.Fault) opened old new going f k = end_keeps topology before how.Fault opened old new f.answer f.reads k
reading_keeps topology before (came.Ended how.TooLong) opened old new going f k = end_keeps topology before how.TooLong opened old new f.answer f.reads k
reading_keeps topology before (came.Ended how.Limit) opened old new going f k = absurd f.answer
reading_keeps topology before (came.Replies replies) opened old new going f k = absurd f.answer
reading_keeps topology before (came.Wrote bytes end) opened old new going f k = absurd f.answer
reading_keeps topology before (came.Reply reply) opened old new going f k = absurd f.answer

-- a source does not end by the limit
pub is_reading : (outcome : Outcome) (old new : LineSeen) → Fetches 1 outcome old new → IsReading outcome
is_reading (came.Ended how.Limit) old new f = f.answer
is_reading (came.Ended how.End) old new f = tt
is_reading (came.Ended how.Fault) old new f = tt
is_reading (came.Ended how.TooLong) old new f = tt
is_reading (came.Records records) old new f = tt
is_reading came.NotYet old new f = tt
is_reading (came.Replies replies) old new f = tt
is_reading (came.Wrote bytes end) old new f = tt
is_reading (came.Reply reply) old new f = tt
