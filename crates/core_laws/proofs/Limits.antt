-- What a sound topology's stages may ask for.
use Rattle.std.proofs.Common.{◌≡◌, ℕ, ◌<◌, ◌≤◌, List, length, true, false, Some, arith}
use Rattle.std.specs.Prelude.{◌==◌, ◌&&◌, ◌||◌, not, nat_lt, nat_le, is_some}
use Rattle.std.proofs.lemmas.Bool.{eqb-true, ltb-true, leb-true}
use Rattle.pipe_types.specs.declared.numbers.StageNo.{StageNo}
use Rattle.pipe_types.specs.declared.topology.Topology.{Topology}
use Rattle.pipe_types.specs.declared.topology.StageSpec.{StageSpec}
use Rattle.pipe_types.specs.declared.topology.Role.{Role}
use Rattle.pipe_types.specs.declared.topology.Role.TheVariants.{Producer, Processor, Supervisor, Batcher, BatchProcessor}
use Rattle.pipe_types.specs.Stages.{spec_of}
use Rattle.pipe_types.specs.Sound.{IsSound, batchers, has_fields_of, is_select_in, asks_up_to, by_demand, by_partition, by_broadcast, processors, batch_processors, is_size, no_batcher, no_demand, never_cancels, is_lines, are_rules, is_reason, is_between}
use Rattle.pipe_model.specs.Legal.{is_producer_role}
use Rattle.pipe_laws.proofs.Tests.{and_left, and_right}
use Rattle.queue_laws.proofs.Sounds.{sound_fields}

-- at most 10,000 units, and a consumer asks again before it has none left
pub record HasDemand (role : Role) (spec : StageSpec) : Type 0 where
  pub most : spec.max ≤ 10000
  pub below : is_producer_role role ≡ false → spec.min < spec.max

demand_of : (stages : List StageSpec) (spec : StageSpec) (role : Role) → has_fields_of stages role spec ≡ true → HasDemand role spec
demand_of stages spec role h = by_role role h
  where
    asks : (role : Role) (limit : ℕ) → limit ≤ 10000 → asks_up_to limit spec ≡ true → HasDemand role spec
    asks role limit few h =
        let low = ltb-true spec.min spec.max (and_left (nat_lt spec.min spec.max) _ h) in
        let high = leb-true spec.max limit (and_right (nat_lt spec.min spec.max) _ h) in
        record { most = omega (arith, few, high); below = λ e. low }

    by_role : (role : Role) → has_fields_of stages role spec ≡ true → HasDemand role spec
    by_role Producer h =
        let second = and_right ((by_demand spec spec.dispatch || (by_partition (length (processors stages)) spec spec.dispatch && nat_le spec.field 255)) && (is_size spec.size && is_some spec.edge)) _ h in
        let demand = and_right (no_batcher spec) _ (and_left (no_batcher spec && no_demand spec) _ second) in
        let none = and_right (never_cancels spec.mode) _ demand in
        let zero_max = eqb-true spec.max 0 (and_right (spec.min == 0) _ none) in record { most = omega (arith, zero_max); below = λ e. (let x : true ≡ false = e in cc) }
    by_role Processor h =
        let first = and_left (((spec.batchers == length (batchers stages)) && ((spec.batchers == 0 && by_demand spec spec.dispatch) || (by_partition spec.batchers spec spec.dispatch && spec.field == 0))) && ((nat_lt spec.index 32 && asks_up_to 10000 spec) && (not (is_lines spec.kind) && (are_rules spec.batchers spec.rules && is_reason spec.failed)))) _ h in
        let second = and_right ((spec.batchers == length (batchers stages)) && ((spec.batchers == 0 && by_demand spec spec.dispatch) || (by_partition spec.batchers spec spec.dispatch && spec.field == 0))) _ first in
        asks Processor 10000 (omega arith) (and_right (nat_lt spec.index 32) _ (and_left (nat_lt spec.index 32 && asks_up_to 10000 spec) _ second))
    by_role Supervisor h =
        asks Supervisor 16 (omega arith) (and_left (asks_up_to 16 spec) _ (and_left (asks_up_to 16 spec && (not (is_lines spec.kind) && (are_rules 0 spec.rules && is_reason spec.failed))) _ h))
    by_role Batcher h =
        let first = and_left ((spec.batcher == spec.index && ((by_demand spec spec.dispatch || by_broadcast spec spec.dispatch) || (by_partition (length (batch_processors spec.index stages)) spec spec.dispatch && spec.field == 0))) && (asks_up_to 10000 spec && (is_between 1 10000 spec.batch_size && is_between 1 3600000 spec.batch_timeout))) _ h in
        let second = and_right (spec.batcher == spec.index && ((by_demand spec spec.dispatch || by_broadcast spec spec.dispatch) || (by_partition (length (batch_processors spec.index stages)) spec spec.dispatch && spec.field == 0))) _ first in
        asks Batcher 10000 (omega arith) (and_left (asks_up_to 10000 spec) _ second)
    by_role BatchProcessor h =
        let first = and_left ((nat_lt spec.index 16 && (spec.min == 0 && spec.max == 1)) && ((are_rules 0 spec.rules && is_select_in stages spec) && is_reason spec.failed)) _ h in
        let one = and_right (nat_lt spec.index 16) _ (and_left (nat_lt spec.index 16 && (spec.min == 0 && spec.max == 1)) _ first) in
        let zero_min = eqb-true spec.min 0 (and_left (spec.min == 0) _ one) in
        let one_max = eqb-true spec.max 1 (and_right (spec.min == 0) _ one) in
        record { most = omega (arith, one_max); below = λ e. omega (arith, zero_min, one_max) }

pub has_demand : (topology : Topology) (s : StageNo) (spec : StageSpec) → IsSound topology → spec_of topology s ≡ Some spec → HasDemand spec.role spec
has_demand topology s spec sound e = demand_of topology.stages spec spec.role (sound_fields topology s spec sound e)
