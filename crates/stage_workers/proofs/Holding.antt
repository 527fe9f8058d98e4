-- A hold: what is brought to a round, and what comes of it.
use Rattle.std.proofs.Common.{◌≡◌, List, sym, subst, Option, Some, None}
use Rattle.std.specs.Prelude.{ℕ, Bool, IfSome}
use Rattle.pipe_types.specs.declared.numbers.Post.{Post}
use Rattle.pipe_model.specs.History.{History}
use Rattle.pipeline_turn.specs.Jobs.{IsUndone, AreAway}
use Rattle.stage_workers.specs.Rounds.{IfJob, brought_post}
use Rattle.stage_workers.specs.declared.shift.Round.{Round}
use Rattle.stage_workers.specs.declared.shift.Round.TheVariants.{Job, Waits, Again, Ended}
use Rattle.stage_workers.specs.Holds.{Comes, after_round}
use Rattle.stage_workers.specs.declared.worker.After.{After}

-- what is brought is undone, as the seat's job is
pub brings : {H : Type 0} (post : H → Post) (IsHome : H → Type 0) (now seen : History) (brought : Option H) (job : Option Post) → job ≡ brought_post post brought → IfSome job (λ p. IsUndone now seen p) → IfSome brought IsHome
    → IfSome brought (λ home. IsHome home × IsUndone now seen (post home))
brings post IsHome now seen None job is undone home = tt
brings post IsHome now seen (Some h) job is undone home = (home, subst (λ (o : Option Post). IfSome o (λ p. IsUndone now seen p)) is undone)

-- the same said of equal jobs and lists
pub away_as : (own own' job job' : Option Post) (taken taken' given : List Post) → own ≡ own' → job ≡ job' → taken ≡ taken' → AreAway own job taken given → AreAway own' job' taken' given
away_as own own' job job' taken taken' given a b c are =
    subst (λ (z : Option Post × Option Post × List Post). AreAway z.0 z.1 z.2 given) (λ i. (a i, b i, c i)) are

comes_after : {L H : Type 0} (IsLoad : L → Type 0) (IsHome : H → Type 0) (round : Round L) (news : ℕ) (is_still : Bool) → IfJob round IsLoad → Comes IsLoad IsHome (after_round round news is_still)
comes_after IsLoad IsHome (Job load) news is_still h = h
comes_after IsLoad IsHome Waits news is_still h = tt
comes_after IsLoad IsHome Again news is_still h = tt
comes_after IsLoad IsHome Ended news is_still h = tt

-- the job that the worker goes away with is away from such a value, whose steps the seat has seen
pub comes_by : {O L H : Type 0} (IsLoad : O → History → L → Type 0) (IsHome : O → History → H → Type 0) (origin origin' : O) (seen seen' : History) (round : Round L) (news : ℕ) (is_still : Bool) (after : After L H)
    → origin' ≡ origin → seen' ≡ seen → after ≡ after_round round news is_still → IfJob round (IsLoad origin seen) → Comes (IsLoad origin' seen') (IsHome origin' seen') after
comes_by {O} {L} {H} IsLoad IsHome origin origin' seen seen' round news is_still after same_origin same_seen is job =
    subst (λ (z : O × History × After L H). Comes (IsLoad z.0 z.1) (IsHome z.0 z.1) z.2) (sym (λ i. (same_origin i, same_seen i, is i)))
    (comes_after (IsLoad origin seen) (IsHome origin seen) round news is_still job)
