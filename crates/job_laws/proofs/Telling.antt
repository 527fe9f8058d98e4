-- A body that leaves for a fetch, whose source is told the moment, stands as before.
use Rattle.std.proofs.Common.{◌≡◌, ℕ, [], ◌∷◌, ◌==◌, ◌&&◌, Bool, true, false, if◌then◌else◌, refl, ap, subst, Some, None, Option}
use Rattle.std.specs.Prelude.{IfSome, IsSome, option_map}
use Rattle.std.proofs.lemmas.Bool.{eq-eqb}
use Rattle.pipe_types.specs.declared.numbers.Post.{Post}
use Rattle.pipe_types.specs.declared.numbers.StageNo.{StageNo}
use Rattle.pipe_types.specs.declared.step.Step.{Step}
use Rattle.pipe_types.specs.declared.step.Step.TheVariants.{Fetch, Take, Child}
use Rattle.pipe_types.specs.declared.topology.Role.{Role}
use Rattle.pipe_types.specs.declared.topology.Role.TheVariants.{Producer, Processor, Supervisor, Batcher, BatchProcessor}
use Rattle.pipe_types.specs.declared.topology.StageSpec.{StageSpec}
use Rattle.pipe_types.specs.declared.topology.Topology.{Topology}
use Rattle.pipe_types.specs.Numbers.{post, same_post, same_stage}
use Rattle.pipe_types.specs.Stages.{spec_of}
use Rattle.pipe_model.specs.History.{History, now}
use Rattle.pipe_model.specs.Legal.{is_legal, has_role, is_producer_role, is_supervisor_role, takes_role}
use Rattle.pipe_model.specs.Posts.{puts_out}
use Rattle.pipe_laws.proofs.Allowed.{legal_step, take_facts, child_facts}
use Rattle.pipe_laws.proofs.Busy.{producer_supervises, takes_producer, two_roles}
use Rattle.pipe_laws.proofs.Tests.{clash, same_stage-self}
use Rattle.rate_laws.specs.Rates.{fetched_at}
use Rattle.pace_laws.proofs.Fetching.{tells, told_again}
use Rattle.stage_bodies.specs.Seen.{FeedSeen, Single, Merged, BodySeen}
use Rattle.stage_bodies.specs.Moments.{told_feed, told_body, told_for}
use Rattle.stage_bodies.specs.Jobs.{Both}
use Rattle.stage_bodies.specs.Posts.{IsWorkOf}
use Rattle.stage_bodies.specs.declared.job.Work.{Work}
use Rattle.stage_bodies.specs.declared.job.Work.TheVariants as work
use Rattle.body_laws.specs.Keeps.{KeepsBody, KeepsFeed}
use Rattle.body_laws.specs.Ready.{There, IsBodyFor, IsBodyOf, IsBodyAt, IsToldFeed, WasTold}
use Rattle.body_laws.proofs.Posts.{same_post-true}

-- ---- the moment of a fetch

chosen : (b : Bool) (x y : ℕ) → b ≡ true → (if b then x else y) ≡ x
chosen true x y e = refl
chosen false x y e = cc

-- the step that puts a producer's post out is a fetch, which is made now
pub fetch_moment : (topology : Topology) (before : History) (step : Step) (p : Post) → is_legal topology (step ∷ before) ≡ true → puts_out step p ≡ true → has_role topology p.stage is_producer_role ≡ true → fetched_at (step ∷ before) p.stage ≡ now (step ∷ before)
fetch_moment topology before (Fetch t n) p legal put role =
    let same : p.stage ≡ t = ap (λ (q : Post). q.stage) (same_post-true p (post t 0) put) in
    chosen (same_stage p.stage t) (now before) (fetched_at before p.stage) (subst (λ s. same_stage p.stage s ≡ true) same (same_stage-self p.stage))
fetch_moment topology before (Take t u k) p legal put role =
    let same : p.stage ≡ t = ap (λ (q : Post). q.stage) (same_post-true p (post t 0) put) in
    absurd (two_roles topology t takes_role is_producer_role takes_producer (take_facts topology before t u k (legal_step topology before (Take t u k) legal)).role (subst (λ s. has_role topology s is_producer_role ≡ true) same role))
fetch_moment topology before (Child t m slot) p legal put role =
    let same : p.stage ≡ t = ap (λ (q : Post). q.stage) (same_post-true p (post t slot) put) in
    absurd (two_roles topology t is_producer_role is_supervisor_role producer_supervises (subst (λ s. has_role topology s is_producer_role ≡ true) same role) (child_facts topology before t m slot (legal_step topology before (Child t m slot) legal)).role)
fetch_moment topology before step p legal put role = cc

-- while a post is not put out its stage fetches nothing
pub fetch_stays : (before : History) (step : Step) (p : Post) → puts_out step p ≡ false → p.slot ≡ 0 → fetched_at (step ∷ before) p.stage ≡ fetched_at before p.stage
fetch_stays before (Fetch t n) p put first = by (same_stage p.stage t) refl
  where
    both : (a b : Bool) → a ≡ true → b ≡ true → (a && b) ≡ true
    both true true e f = refl
    both true false e f = cc
    both false b e f = cc

    by : (b : Bool) → same_stage p.stage t ≡ b → (if b then now before else fetched_at before p.stage) ≡ fetched_at before p.stage
    by true e = clash (same_post p (post t 0)) (both (same_stage p.stage t) (p.slot == 0) e (eq-eqb p.slot 0 first)) put
    by false e = refl
fetch_stays before step p put first = refl

-- ---- the source that is told

some_told : (now : ℕ) (source : Option FeedSeen) → IsSome source → IsSome (option_map (told_feed now) source)
some_told now None some = some
some_told now (Some feed) some = refl

told_ready : (topology : Topology) (before : History) (p : Post) (now : ℕ) (body : BodySeen) → IsBodyAt topology before p body → IsBodyAt topology before p (told_body now body)
told_ready topology before p now body = by (spec_of topology p.stage)
  where
    by_role : (spec : StageSpec) (role : Role) → IsBodyFor topology before p.stage spec role body → IsBodyFor topology before p.stage spec role (told_body now body)
    by_role spec Producer h = some_told now body.source h
    by_role spec Processor h = h
    by_role spec Supervisor h = h
    by_role spec Batcher h = h
    by_role spec BatchProcessor h = h

    by : (o : Option StageSpec) → There o (λ spec. IsBodyOf topology before p.stage spec body) → There o (λ spec. IsBodyOf topology before p.stage spec (told_body now body))
    by None h = h
    by (Some spec) h = by_role spec spec.role h

told_source : (before : History) (s : StageNo) (opened source : Option FeedSeen) → Both (KeepsFeed before s true []) opened source → Both (KeepsFeed before s true []) opened (option_map (told_feed (fetched_at before s)) source)
told_source before s None None k = k
told_source before s None (Some feed) k = k
told_source before s (Some old) None k = k
told_source before s (Some (Single old)) (Some (Merged now)) k = k
told_source before s (Some (Merged old)) (Some (Single now)) k = k
told_source before s (Some (Merged old)) (Some (Merged now)) k = k
told_source before s (Some (Single old)) (Some (Single lines)) k = record {
  read = record {
    same_telling = k.read.same_telling;
    each_is_a_line = k.read.each_is_a_line;
    same_bytes = k.read.same_bytes;
    to_come = k.read.to_come;
    at_end = k.read.at_end;
    at_long = k.read.at_long;
    at_fault = k.read.at_fault;
    faults_stay = k.read.faults_stay;
    waits_stay = k.read.waits_stay;
  };
  known = k.known;
  quiet = k.quiet;
  paced = tells old.source.paced.pace before s old.source lines refl k.paced;
}

told_kept : (topology : Topology) (before : History) (p : Post) (opened : Option BodySeen) (body : BodySeen)
    → Both (KeepsBody topology before p) opened (Some body) → Both (KeepsBody topology before p) opened (Some (told_body (fetched_at before p.stage) body))
told_kept topology before p None body k = k
told_kept topology before p (Some old) body k = record { source = told_source before p.stage old.source body.source k.source; sink = k.sink; callback = k.callback }

told_was : (before : History) (s : StageNo) (source : Option FeedSeen) → IfSome (option_map (told_feed (fetched_at before s)) source) (IsToldFeed before s)
told_was before s None = tt
told_was before s (Some (Single lines)) = told_again (fetched_at before s) lines.source.paced
told_was before s (Some (Merged merge)) = tt

-- ---- by the work

pub ready_told : (topology : Topology) (before : History) (p : Post) (w : Work) (moment : ℕ) (body : BodySeen) → IsBodyAt topology before p body → IsBodyAt topology before p (told_for w moment body)
ready_told topology before p (work.Fetch most) moment body h = told_ready topology before p moment body h
ready_told topology before p (work.Chunk messages) moment body h = h
ready_told topology before p (work.Batch batch) moment body h = h
ready_told topology before p (work.Child message) moment body h = h

pub kept_told : (topology : Topology) (before : History) (p : Post) (w : Work) (moment : ℕ) (opened : Option BodySeen) (body : BodySeen) → IsWorkOf topology before p w → (has_role topology p.stage is_producer_role ≡ true → fetched_at before p.stage ≡ moment)
    → Both (KeepsBody topology before p) opened (Some body) → Both (KeepsBody topology before p) opened (Some (told_for w moment body))
kept_told topology before p (work.Fetch most) moment opened body is same k =
    subst (λ m. Both (KeepsBody topology before p) opened (Some (told_body m body))) (same is.0) (told_kept topology before p opened body k)
kept_told topology before p (work.Chunk messages) moment opened body is same k = k
kept_told topology before p (work.Batch batch) moment opened body is same k = k
kept_told topology before p (work.Child message) moment opened body is same k = k

pub was_told : (topology : Topology) (before : History) (p : Post) (w : Work) (moment : ℕ) (body : BodySeen) → IsWorkOf topology before p w → (has_role topology p.stage is_producer_role ≡ true → fetched_at before p.stage ≡ moment)
    → WasTold before p.stage w (told_for w moment body)
was_told topology before p (work.Fetch most) moment body is same = subst (λ m. IfSome (option_map (told_feed m) body.source) (IsToldFeed before p.stage)) (same is.0) (told_was before p.stage body.source)
was_told topology before p (work.Chunk messages) moment body is same = tt
was_told topology before p (work.Batch batch) moment body is same = tt
was_told topology before p (work.Child message) moment body is same = tt

-- it stays told while its post is out
pub still_told : (topology : Topology) (before : History) (step : Step) (p : Post) (w : Work) (body : BodySeen) → puts_out step p ≡ false → IsWorkOf topology before p w → WasTold before p.stage w body → WasTold (step ∷ before) p.stage w body
still_told topology before step p (work.Fetch most) body put is told = by body.source told
  where
    by : (source : Option FeedSeen) → IfSome source (IsToldFeed before p.stage) → IfSome source (IsToldFeed (step ∷ before) p.stage)
    by None h = tt
    by (Some (Single lines)) h = rw (fetch_stays before step p put is.3) h
    by (Some (Merged merge)) h = tt
still_told topology before step p (work.Chunk messages) body put is told = tt
still_told topology before step p (work.Batch batch) body put is told = tt
still_told topology before step p (work.Child message) body put is told = tt
