-- A message never goes back: each move keeps or raises the level of its place.
use Rattle.std.proofs.Common.{◌≡◌, ℕ, ◌+◌, ◌*◌, ◌≤◌, Bool, true, refl, Some, None, Option, arith}
use Rattle.std.specs.Prelude.{◌==◌}
use Rattle.pipe_types.specs.declared.numbers.StageNo.{StageNo}
use Rattle.pipe_types.specs.declared.topology.Topology.{Topology}
use Rattle.pipe_types.specs.declared.topology.StageSpec.{StageSpec}
use Rattle.pipe_types.specs.declared.topology.Role.{Role}
use Rattle.pipe_types.specs.declared.topology.Role.TheVariants.{Producer, Processor, Supervisor, Batcher, BatchProcessor}
use Rattle.pipe_types.specs.declared.message.Place.{Place}
use Rattle.pipe_types.specs.declared.message.Place.TheVariants.{Waiting, Inbox, Running, Gathered, Acked, Lost}
use Rattle.pipe_types.specs.Sound.{is_next}
use Rattle.pipe_types.specs.Stages.{feeds, spec_of, role_feeds, option_feeds}
use Rattle.pipe_types.specs.declared.step.Step.{Step}
use Rattle.pipe_model.specs.History.{History}
use Rattle.pipe_model.specs.Moves.{is_final}
use Rattle.pipe_laws.proofs.Places.{Move, stays, comes, comes_lost, sent_on, runs, waits, is_gathered, joins, ends}

abbrev pub rank_of : Role → ℕ
rank_of Producer = 0
rank_of Processor = 1
rank_of Supervisor = 1
rank_of Batcher = 2
rank_of BatchProcessor = 3

abbrev pub rank_in : Option StageSpec → ℕ
rank_in None = 0
rank_in (Some spec) = rank_of spec.role

-- how far down a stage stands
abbrev pub rank : Topology → StageNo → ℕ
rank topology s = rank_in (spec_of topology s)

rank_of_most : (role : Role) → rank_of role ≤ 3
rank_of_most Producer = omega arith
rank_of_most _ = omega arith

-- a stage is followed by one that stands no higher
pub next_rank : (a b : Role) (x y : StageSpec) → is_next a b x y ≡ true → rank_of a ≤ rank_of b
next_rank Producer b x y h = omega arith
next_rank Processor Processor x y h = omega arith
next_rank Processor Batcher x y h = omega arith
next_rank Batcher Batcher x y h = omega arith
next_rank Batcher BatchProcessor x y h = omega arith
next_rank BatchProcessor BatchProcessor x y h = omega arith
next_rank _ _ x y h = cc

rank_in_most : (o : Option StageSpec) → rank_in o ≤ 3
rank_in_most None = omega arith
rank_in_most (Some spec) = rank_of_most spec.role

pub rank_most : (topology : Topology) (s : StageNo) → rank topology s ≤ 3
rank_most topology s = rank_in_most (spec_of topology s)

role_down : (p c : Role) (b : Bool) → role_feeds p c b ≡ true → rank_of c ≡ rank_of p + 1
role_down Producer Producer b h = cc
role_down Producer Processor b h = refl
role_down Producer Supervisor b h = refl
role_down Producer Batcher b h = cc
role_down Producer BatchProcessor b h = cc
role_down Processor Producer b h = cc
role_down Processor Processor b h = cc
role_down Processor Supervisor b h = cc
role_down Processor Batcher b h = refl
role_down Processor BatchProcessor b h = cc
role_down Supervisor c b h = cc
role_down Batcher Producer b h = cc
role_down Batcher Processor b h = cc
role_down Batcher Supervisor b h = cc
role_down Batcher Batcher b h = cc
role_down Batcher BatchProcessor b h = refl
role_down BatchProcessor c b h = cc

option_down : (p c : Option StageSpec) → option_feeds p c ≡ true → rank_in c ≡ rank_in p + 1
option_down (Some p) (Some c) h = role_down p.role c.role (p.batcher == c.batcher) h
option_down None c h = cc
option_down (Some p) None h = cc

-- a consumer stands one below its producer
pub feeds_down : (topology : Topology) (p c : StageNo) → feeds topology p c ≡ true → rank topology c ≡ rank topology p + 1
feeds_down topology p c h = option_down (spec_of topology p) (spec_of topology c) h

-- how far a message has come
abbrev pub level : Topology → Option Place → ℕ
level topology None = 0
level topology (Some (Inbox u)) = 4 * rank topology u.consumer
level topology (Some (Running s)) = 4 * rank topology s + 1
level topology (Some (Gathered s)) = 4 * rank topology s + 2
level topology (Some (Waiting s)) = 4 * rank topology s + 3
level topology _ = 100

level_final : (topology : Topology) (p : Place) → is_final (Some p) ≡ true → level topology (Some p) ≡ 100
level_final topology (Acked outcome) h = refl
level_final topology (Lost loss) h = refl
level_final topology _ h = cc

pub level_most : (topology : Topology) (p : Option Place) → level topology p ≤ 100
level_most topology (Some (Inbox u)) = omega (arith, rank_most topology u.consumer)
level_most topology (Some (Running s)) = omega (arith, rank_most topology s)
level_most topology (Some (Gathered s)) = omega (arith, rank_most topology s)
level_most topology (Some (Waiting s)) = omega (arith, rank_most topology s)
level_most topology _ = omega arith

pub level_grows : (topology : Topology) (before : History) (step : Step) (p q : Option Place) → Move topology before step p q → level topology p ≤ level topology q
level_grows topology before step p q stays = omega arith
level_grows topology before step p q (comes s) = omega arith
level_grows topology before step p q (comes_lost loss) = omega arith
level_grows topology before step p q (sent_on s u on) = omega (arith, feeds_down topology s u.consumer on.feeding)
level_grows topology before step p q (runs u from) = omega arith
level_grows topology before step p q (waits s) = omega arith
level_grows topology before step p q (is_gathered u) = omega arith
level_grows topology before step p q (joins s b from) = omega (arith, rank_most topology s)
level_grows topology before step p q (ends x y final) = omega (arith, level_most topology (Some x), level_final topology y final)
