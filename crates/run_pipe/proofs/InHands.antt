-- One worker: what it has in hand between two holds.
use Rattle.std.proofs.Common.{◌≡◌, ◌≢◌, ⊎_elim, ◌<◌, ◌≤◌, List, [], ◌∷◌, Bool, true, false, arith, refl, sym, ap, ◌∙◌, subst, Option, Some, None, Result, Contains}
use Rattle.std.specs.Prelude.{◌||◌, IfSome, IsSome, is_some}
use Rattle.std.specs.List.{list_any}
use Rattle.std.specs.declared.alloc.AllocError.{AllocError}
use Rattle.pipe_types.specs.declared.numbers.Post.{Post}
use Rattle.pipe_types.specs.declared.topology.Topology.{Topology}
use Rattle.pipe_types.specs.declared.topology.StageSpec.{StageSpec}
use Rattle.pipe_types.specs.Numbers.{post}
use Rattle.pipe_model.specs.History.{History}
use Rattle.pipe_model.specs.Legal.{quiet_row}
use Rattle.pipe_model.specs.Moves.{jobs_out}
use Rattle.pipe_model.specs.Posts.{is_out, slots, has_post_out}
use Rattle.pipeline_turn.specs.Jobs.{IsUndone, AreAway}
use Rattle.pipe_model.specs.Begins.{BeginsWith}
use Rattle.pipeline_turn.proofs.Journals.{unanswered_itself, begins_itself, begins_through}
use Rattle.stage_bodies.specs.Seen.{BodySeen}
use Rattle.stage_holds.specs.Homes.{IsOutcomeOf}
use Rattle.stage_holds.specs.declared.loads.Load.{Load}
use Rattle.stage_holds.specs.declared.loads.Home.{Home}
use Rattle.stage_workers.specs.Rounds.{brought_post}
use Rattle.stage_workers.specs.declared.shift.Round.{Round}
use Rattle.stage_workers.specs.declared.shift.Round.TheVariants.{Job, Waits, Again, Ended}
use Rattle.stage_holds.specs.Rows.{RowsWithin}
use Rattle.run_pipe.specs.Ends.{HasMemory}
use Rattle.run_pipe.specs.Seen.{PipeState, away_of}
use Rattle.run_pipe.specs.Measure.{holds_left}
use Rattle.run_pipe.specs.Stems.{Stems}
use Rattle.run_pipe.specs.Jobs.{IsLoadOf, IsHomeOf, IsBrought}
use Rattle.run_pipe.specs.Rounded.{Rounded}
use Rattle.run_pipe.specs.Rounds.{GoesOn, IsOn}
use Rattle.run_pipe.specs.declared.ends.RunEnd.{RunEnd}
use Rattle.run_pipe.specs.Runs.{RanToEnd}
use Rattle.run_pipe.proofs.Backs.{if_some, worked}
use Rattle.run_pipe.proofs.Outs.{no_truth}

-- the pipe comes from what it was, with steps added and with what the worker brings, and no body is away but that one
pub record InHand {B : Type 0} (look : B → BodySeen) (first now : PipeState) (brought : Option (Home B)) : Type 0 where
  pub stems : (opened : PipeState) → Stems opened first → Stems opened now × IfSome brought (IsHomeOf look opened now.steps)
  pub begins : BeginsWith now.steps first.steps
  pub away : (q : Post) → Contains (away_of now) q → brought_post (λ home. home.post) brought ≡ Some q

-- there is an idle limit, and the answer that the worker brings is work
pub record IsLimited {B : Type 0} (now : PipeState) (brought : Option (Home B)) : Type 0 where
  pub limit : 1 ≤ now.topology.idle_limit
  pub row : IsSome brought → quiet_row now.steps < now.topology.idle_limit

-- a pipe that had not ended has not, unless memory was wanting, and no row of quiet answers is longer than the limit
abbrev pub RowsFrom : (first now : PipeState) → Type 0
RowsFrom first now = first.end ≡ None → HasMemory now.end → RowsWithin now.topology.idle_limit first.steps → (now.end ≡ None) × RowsWithin now.topology.idle_limit now.steps

pub record InHandLimited {B : Type 0} (look : B → BodySeen) (first now : PipeState) (brought : Option (Home B)) : Type 0 where
  pub hand : InHand look first now brought
  pub limited : IsLimited now brought
  pub rows : RowsFrom first now

not_in_none : {A : Type 0} (p : Post) → Contains [] p → A
not_in_none p c = let l = c.1 in absurd (omega arith)

goes_by : {L : Type 0} (round : Round L) (end : Option (Result RunEnd AllocError)) → IsOn round → GoesOn round end → HasMemory end → end ≡ None
goes_by (Job load) end on e memory = e memory
goes_by Waits end on e memory = e
goes_by Again end on e memory = e
goes_by Ended end on e memory = e

none_in : (xs : List Post) → ((q : Post) → Contains xs q → ⊥) → xs ≡ []
none_in [] none = refl
none_in (x ∷ xs) none = absurd (none x (0, omega arith, refl))

no_one : {A : Type 0} (p : Post) → None ≡ Some p → A
no_one p e = cc

-- a hold, by its round
pub round_is : {B : Type 0} (look : B → BodySeen) (brought : Option (Home B)) (now new : PipeState) {r q : Round (Load B)} → r ≡ q → Rounded look brought r now new → Rounded look brought q now new
round_is look brought now new is rounded = subst (λ z. Rounded look brought z now new) is rounded

pub hand_first : {B : Type 0} (look : B → BodySeen) (first : PipeState) → away_of first ≡ [] → InHand look first first None
hand_first look first none = record {
  stems = λ opened s. (s, tt);
  begins = begins_itself first.steps;
  away = λ q c. not_in_none q (subst (λ (xs : List Post). Contains xs q) none c);
}

pub limited_first : {B : Type 0} (first : PipeState) → 1 ≤ first.topology.idle_limit → IsLimited {B = B} first None
limited_first first limit = record { limit = limit; row = λ some. let y : false ≡ true = some in cc }

-- what it brings is brought
brings_it : {B : Type 0} (look : B → BodySeen) (opened : PipeState) (steps : History) (brought : Option (Home B)) → IfSome brought (IsHomeOf look opened steps) → IsBrought look opened steps steps brought
brings_it look opened steps brought h =
    if_some brought (IsHomeOf look opened steps) (λ home. IsHomeOf look opened steps home × IsUndone steps steps home.post)
    (λ home k. (k, (subst (λ (q : Post). is_out steps q ≡ true) (sym k.back.post) k.back.away.out, unanswered_itself steps home.post))) h

any_none : {A : Type 0} (f : A → Bool) (xs : List A) → ((x : A) → f x ≡ false) → list_any f xs ≡ false
any_none f [] none = refl
any_none f (x ∷ xs) none = ap (λ (b : Bool). b || list_any f xs) (none x) ∙ any_none f xs none

module _ {B : Type 0} (look : B → BodySeen) (first now : PipeState) (brought : Option (Home B)) (h : InHand look first now brought) where
  -- so that it may hold the pipe
  pub may_hold : (o : (opened : PipeState) × Stems opened first) → (opened : PipeState) × (seen : History) × Stems opened now × IsBrought look opened seen now.steps brought
  may_hold o = let k = h.stems o.0 o.1 in (o.0, now.steps, k.0, brings_it look o.0 now.steps brought k.1)

  module _ (new : PipeState) where
    next_stems : (round : Round (Load B)) → Rounded look brought round now new → (opened : PipeState) → Stems opened first → Stems opened new
    next_stems round r opened s = let k = h.stems opened s in r.stems opened now.steps k.0 (brings_it look opened now.steps brought k.1)

    next_begins : (round : Round (Load B)) → Rounded look brought round now new → BeginsWith new.steps first.steps
    next_begins round r = begins_through new.steps now.steps first.steps r.adds.begins h.begins

    memory : new.end ≡ None → HasMemory new.end
    memory e = subst HasMemory (sym e) tt

    -- no body is away but that of the job which begins
    away_then : (job : Option Post) → AreAway (brought_post (λ home. home.post) brought) job (away_of now) (away_of new) → (q : Post) → Contains (away_of new) q → job ≡ Some q
    away_then job a q c =
        ⊎_elim (λ (e : job ≡ Some q). e) (λ (u : Contains (away_of now) q × (brought_post (λ home. home.post) brought ≢ Some q)). absurd (u.1 (h.away q u.0))) ((a q).0 c)

    -- the job that begins
    pub hand_fits : (load : Load B) → Rounded look brought (Job load) now new → (o : (opened : PipeState) × Stems opened first) → IsLoadOf look o.0 new.steps load
    hand_fits load r o = let k = h.stems o.0 o.1 in r.load o.0 now.steps k.0 (brings_it look o.0 now.steps brought k.1)

    pub hand_job : (load : Load B) (home : Home B) → Rounded look brought (Job load) now new → home.post ≡ load.job.post → IsOutcomeOf load.job home.answer (look load.body) (look home.body) → InHand look first new (Some home)
    hand_job load home r is outcome = record {
      stems = λ o t. (next_stems (Job load) r o t, worked look o new.steps load home is outcome (hand_fits load r (o, t)));
      begins = next_begins (Job load) r;
      away = λ q c. ap Some is ∙ away_then (Some load.job.post) r.away q c;
    }

    pub hand_again : Rounded look brought Again now new → InHand look first new None
    hand_again r = record {
      stems = λ o t. (next_stems Again r o t, tt);
      begins = next_begins Again r;
      away = λ q c. away_then None r.away q c;
    }

    not_out : ((q : Post) → is_out new.steps q ≡ true → ⊥) → (q : Post) (b : Bool) → is_out new.steps q ≡ b → is_out new.steps q ≡ false
    not_out none q true e = absurd (none q e)
    not_out none q false e = e

    -- there is always something to do for it
    pub hand_waits : Rounded look brought Waits now new → ⊥
    hand_waits r =
        let on = r.on tt in
        let none : (q : Post) → is_out new.steps q ≡ false = λ q. not_out (λ p out. no_one p (away_then None r.away p (r.whole.outs (memory on.1) p out))) q (is_out new.steps q) refl in
        no_truth (jobs_out new.topology new.steps) (r.waits tt).1
        (any_none (λ (spec : StageSpec). has_post_out new.steps spec.no) new.topology.stages (λ spec. any_none (λ slot. is_out new.steps (post spec.no slot)) slots (λ slot. none (post spec.no slot))))

    -- where it has ended, each body is at home
    pub hand_ended : Rounded look brought Ended now new → RanToEnd first new
    hand_ended r = record {
      stems = next_stems Ended r;
      begins = next_begins Ended r;
      over = r.over tt;
      none_away = none_in (away_of new) (λ q c. no_one q (away_then None r.away q c));
      whole = r.whole;
    }

    -- ---- with an idle limit

    same : (round : Round (Load B)) → Rounded look brought round now new → (opened : PipeState) × Stems opened first → new.topology ≡ now.topology
    same round r o = (next_stems round r o.0 o.1).topology ∙ sym (h.stems o.0 o.1).0.topology

    limit_on : (round : Round (Load B)) → Rounded look brought round now new → (opened : PipeState) × Stems opened first → 1 ≤ now.topology.idle_limit → 1 ≤ new.topology.idle_limit
    limit_on round r o l = subst (λ (t : Topology). 1 ≤ t.idle_limit) (sym (same round r o)) l

    pub limited_job : (load : Load B) (home : Home B) → Rounded look brought (Job load) now new → (opened : PipeState) × Stems opened first → IsLimited now brought → IsLimited new (Some home)
    limited_job load home r o l = record {
      limit = limit_on (Job load) r o l.limit;
      row = λ some. subst (λ (t : Topology). quiet_row new.steps < t.idle_limit) (sym (same (Job load) r o)) (r.row (r.on tt).0 l.limit);
    }

    pub limited_again : Rounded look brought Again now new → (opened : PipeState) × Stems opened first → IsLimited now brought → IsLimited {B = B} new None
    limited_again r o l = limited_first new (limit_on Again r o l.limit)

    pub less_job : (load : Load B) → Rounded look brought (Job load) now new → (opened : PipeState) × Stems opened first → IsLimited now brought → holds_left new.topology new.steps true < holds_left now.topology now.steps (is_some brought)
    less_job load r o l = subst (λ (t : Topology). holds_left t new.steps true < holds_left now.topology now.steps (is_some brought)) (sym (same (Job load) r o)) (r.lessens l.row tt)

    pub less_again : Rounded look brought Again now new → (opened : PipeState) × Stems opened first → IsLimited now brought → holds_left new.topology new.steps false < holds_left now.topology now.steps (is_some brought)
    less_again r o l = subst (λ (t : Topology). holds_left t new.steps false < holds_left now.topology now.steps (is_some brought)) (sym (same Again r o)) (r.lessens l.row tt)

    -- a pipe that has the memory had it before
    had_memory : (round : Round (Load B)) → Rounded look brought round now new → HasMemory new.end → HasMemory now.end
    had_memory round r wanting = by now.end refl
      where
        by : (end : Option (Result RunEnd AllocError)) → now.end ≡ end → HasMemory now.end
        by None e = subst HasMemory (sym e) tt
        by (Some end) e = subst HasMemory (r.ended (subst IsSome (sym e) refl)).0 wanting

    -- rows of quiet answers
    pub rows_then : (round : Round (Load B)) → Rounded look brought round now new → (opened : PipeState) × Stems opened first → IsLimited now brought → RowsFrom first now
        → first.end ≡ None → HasMemory new.end → RowsWithin new.topology.idle_limit first.steps → RowsWithin new.topology.idle_limit new.steps
    rows_then round r o l before going wanting rows =
        let topology = same round r o in
        let k = before going (had_memory round r wanting) (subst (λ (t : Topology). RowsWithin t.idle_limit first.steps) topology rows) in
        subst (λ (t : Topology). RowsWithin t.idle_limit new.steps) (sym topology) (r.rows k.0 wanting l.limit l.row k.1)

    pub rows_on : (round : Round (Load B)) → IsOn round → Rounded look brought round now new → (opened : PipeState) × Stems opened first → IsLimited now brought → RowsFrom first now → RowsFrom first new
    rows_on round on r o l before going wanting rows = (goes_by round new.end on (r.on on).1 wanting, rows_then round r o l before going wanting rows)
