-- A stage that feeds another stands before it.
use Rattle.std.proofs.Common.{◌≡◌, ℕ, zero, suc, ◌+◌, ◌<◌, ◌≤◌, List, [], ◌∷◌, length, Bool, true, subst, Some, arith, inl, inr}
use Rattle.std.specs.Prelude.{slice_get, ◌==◌, ◌⊎◌}
use Rattle.std.proofs.lemmas.Bool.{cases_lt}
use Rattle.pipe_types.specs.declared.topology.StageSpec.{StageSpec}
use Rattle.pipe_types.specs.declared.topology.Role.{Role}
use Rattle.pipe_types.specs.declared.topology.Role.TheVariants.{Producer, Processor, Supervisor, Batcher, BatchProcessor}
use Rattle.pipe_types.specs.Stages.{role_feeds, spec_feeds}
use Rattle.pipe_types.specs.Sound.{is_ordered, may_begin, may_go_on, may_follow, batchers}
use Rattle.pipe_laws.proofs.Levels.{next_rank, rank_of}
use Rattle.pipe_laws.proofs.Tests.{and_left, and_right}

fed_rank : (p c : Role) (b : Bool) → role_feeds p c b ≡ true → rank_of p < rank_of c
fed_rank Producer Processor b h = omega arith
fed_rank Producer Supervisor b h = omega arith
fed_rank Processor Batcher b h = omega arith
fed_rank Batcher BatchProcessor b h = omega arith
fed_rank Producer Producer b h = cc
fed_rank Producer Batcher b h = cc
fed_rank Producer BatchProcessor b h = cc
fed_rank Processor Producer b h = cc
fed_rank Processor Processor b h = cc
fed_rank Processor Supervisor b h = cc
fed_rank Processor BatchProcessor b h = cc
fed_rank Supervisor c b h = cc
fed_rank Batcher Producer b h = cc
fed_rank Batcher Processor b h = cc
fed_rank Batcher Supervisor b h = cc
fed_rank Batcher Batcher b h = cc
fed_rank BatchProcessor c b h = cc

-- ranks grow along the stages
rank_above : (n : ℕ) (spec : StageSpec) (specs : List StageSpec) → may_go_on n spec specs ≡ true → (j : ℕ) (c : StageSpec) → slice_get specs j ≡ Some c → rank_of spec.role ≤ rank_of c.role
rank_above n spec [] h j c e = cc
rank_above n spec (next ∷ specs) h zero c e =
    let is : next ≡ c = cc in
    let one = next_rank spec.role next.role spec next (and_right (next.no.0 == spec.no.0 + 1) _ (and_left (may_follow spec next) _ h)) in
    subst (λ (y : StageSpec). rank_of spec.role ≤ rank_of y.role) is one
rank_above n spec (next ∷ specs) h (suc j) c e =
    let one = next_rank spec.role next.role spec next (and_right (next.no.0 == spec.no.0 + 1) _ (and_left (may_follow spec next) _ h)) in
    let rest = rank_above n next specs (and_right (may_follow spec next) _ h) j c e in
    omega (arith, one, rest)

ranks_go_on : (n : ℕ) (spec : StageSpec) (specs : List StageSpec) → may_go_on n spec specs ≡ true → (i j : ℕ) (p c : StageSpec) → i ≤ j → slice_get (spec ∷ specs) i ≡ Some p → slice_get (spec ∷ specs) j ≡ Some c → rank_of p.role ≤ rank_of c.role
ranks_go_on n spec specs h zero zero p c le e f = let same : p ≡ c = cc in subst (λ (y : StageSpec). rank_of p.role ≤ rank_of y.role) same (omega arith)
ranks_go_on n spec specs h zero (suc j) p c le e f =
    let is : spec ≡ p = cc in
    subst (λ (y : StageSpec). rank_of y.role ≤ rank_of c.role) is (rank_above n spec specs h j c f)
ranks_go_on n spec specs h (suc i) zero p c le e f = absurd (omega arith)
ranks_go_on n spec [] h (suc i) (suc j) p c le e f = cc
ranks_go_on n spec (next ∷ specs) h (suc i) (suc j) p c le e f = ranks_go_on n next specs (and_right (may_follow spec next) _ h) i j p c (omega arith) e f

pub ranks_grow : (specs : List StageSpec) → is_ordered specs ≡ true → (i j : ℕ) (p c : StageSpec) → i ≤ j → slice_get specs i ≡ Some p → slice_get specs j ≡ Some c → rank_of p.role ≤ rank_of c.role
ranks_grow [] h i j p c le e f = cc
ranks_grow (spec ∷ specs) h i j p c le e f = ranks_go_on (length (batchers (spec ∷ specs))) spec specs (and_right (may_begin spec) _ h) i j p c le e f

pub fed_before : (specs : List StageSpec) → is_ordered specs ≡ true → (i j : ℕ) (p c : StageSpec) → slice_get specs i ≡ Some p → slice_get specs j ≡ Some c → spec_feeds p c ≡ true → i < j
fed_before specs h i j p c e f fed = by (cases_lt i j)
  where
    by : (i < j) ⊎ (j ≤ i) → i < j
    by (inl low) = low
    by (inr high) =
        let up = fed_rank p.role c.role (p.batcher == c.batcher) fed in
        let down = ranks_grow specs h j i c p high f e in
        absurd (omega (arith, up, down))
