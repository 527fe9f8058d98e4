-- How many asks.
use Rattle.std.proofs.Common.{◌≡◌, ℕ, ◌+◌, ◌*◌, ◌<◌, ◌≤◌, List, [], ◌∷◌, length, Bool, true, false, refl, ap, ◌∙◌, subst, arith, Some}
use Rattle.std.specs.Prelude.{if◌then◌else◌, ◌==◌, ◌&&◌, nat_le, ◌-◌}
use Rattle.std.proofs.lemmas.Bool.{eqb-true, leb-true}
use Rattle.std.proofs.lemmas.List.{length-map}
use Rattle.pipe_types.specs.declared.numbers.StageNo.{StageNo}
use Rattle.pipe_types.specs.declared.numbers.SubNo.{SubNo}
use Rattle.pipe_types.specs.declared.topology.Topology.{Topology}
use Rattle.pipe_types.specs.declared.topology.StageSpec.{StageSpec}
use Rattle.pipe_types.specs.declared.step.Step.{Step}
use Rattle.pipe_types.specs.declared.step.Step.TheVariants.{Ask}
use Rattle.pipe_types.specs.Numbers.{same_stage, same_sub, subscription}
use Rattle.pipe_types.specs.Stages.{spec_of, spec_in, feeds}
use Rattle.pipe_types.specs.Sound.{IsSound}
use Rattle.pipe_model.specs.History.{History}
use Rattle.pipe_model.specs.Lives.{generation, is_live, is_live_sub, current_sub}
use Rattle.pipe_model.specs.Ledger.{due, max_in, min_in, pending}
use Rattle.pipe_model.specs.Legal.{is_legal}
use Rattle.pipe_laws.proofs.Tests.{and_left, and_right, same_sub-true, same_sub-self}
use Rattle.pipe_laws.proofs.Lists.{weigh}
use Rattle.pipe_laws.proofs.Allowed.{legal_before, legal_step, unowed}
use Rattle.queue_laws.proofs.Roles.{some_spec, fed_spec}
use Rattle.count_laws.specs.Counts.{asks}
use Rattle.count_laws.proofs.Bounds.{generations_within}
use Rattle.count_laws.proofs.Sends.{asks_few}
use Rattle.work_laws.specs.Work.{how_many, is_ask}
use Rattle.work_laws.specs.Limits.{number_of_stages, demands, most_units, most_generations, most_asks}
use Rattle.work_laws.proofs.Keys.{below, among_below, length_below, pairs, among_pairs, length_pairs, stage_numbers, stage_among, weigh_most}
use Rattle.work_laws.proofs.Spread.{Counted, spread}
use Rattle.work_laws.proofs.Lives.{lives_few}

-- the demand of a stage is one of all
demand_within : (stages : List StageSpec) (s : StageNo) → max_in (spec_in stages s) ≤ demands stages
demand_within [] s = omega arith
demand_within (x ∷ stages) s = either (same_stage x.no s) (demand_within stages s)
  where
    either : (b : Bool) → max_in (spec_in stages s) ≤ demands stages → max_in (if b then Some x else spec_in stages s) ≤ x.max + demands stages
    either true rest = omega arith
    either false rest = omega (arith, rest)

-- a subscription that is asked is live
asked_live : (topology : Topology) (before : History) (u : SubNo) (n : ℕ) → is_legal topology (Ask u n ∷ before) ≡ true → is_live_sub topology before u ≡ true
asked_live topology before u n h = either (is_live_sub topology before u) (nat_le (pending topology before u) (min_in (spec_of topology u.consumer))) some is
  where
    row : (nat_le 1 n && n == due topology before u) ≡ true
    row = unowed topology before (Ask u n) (λ s. refl) (λ s. refl) (legal_step topology before (Ask u n) h)

    some : 1 ≤ n
    some = leb-true 1 n (and_left (nat_le 1 n) _ row)

    is : n ≡ due topology before u
    is = eqb-true n (due topology before u) (and_right (nat_le 1 n) _ row)

    either : (a b : Bool) → 1 ≤ n → n ≡ (if a && b then max_in (spec_of topology u.consumer) - pending topology before u else 0) → a ≡ true
    either true b k e = refl
    either false b k e = absurd (omega arith)

-- the generations of the pairs of stages
abbrev all_subs : Topology → List (StageNo × (StageNo × ℕ))
all_subs topology = pairs (stage_numbers topology.stages) (pairs (stage_numbers topology.stages) (below (most_generations topology)))

abbrev asks_of : History → StageNo × (StageNo × ℕ) → ℕ
asks_of before k = asks before (subscription k.0 k.1.0 k.1.1)

length_subs : (topology : Topology) → length (all_subs topology) ≡ number_of_stages topology * (number_of_stages topology * most_generations topology)
length_subs topology =
    length_pairs nos (pairs nos (below most)) ∙ (λ i. length-map topology.stages (λ (spec : StageSpec). spec.no) i * inner i)
  where
    nos : List StageNo
    nos = stage_numbers topology.stages

    most : ℕ
    most = most_generations topology

    inner : length (pairs nos (below most)) ≡ number_of_stages topology * most
    inner = length_pairs nos (below most) ∙ (λ i. length-map topology.stages (λ (spec : StageSpec). spec.no) i * length_below most i)

pub asks_all : (topology : Topology) (before : History) → IsSound topology → is_legal topology before ≡ true → how_many is_ask before ≤ most_asks topology
asks_all topology before sound h =
    let all : how_many is_ask before ≤ weigh (asks_of before) (all_subs topology) = spread topology is_ask asks_of (all_subs topology) (record { grows = grows; counts = counts }) before h in
    let most : weigh (asks_of before) (all_subs topology) ≤ length (all_subs topology) * (most_units topology + demands topology.stages) = weigh_most (asks_of before) (most_units topology + demands topology.stages) (all_subs topology) (λ k. few (subscription k.0 k.1.0 k.1.1)) in
    let named : weigh (asks_of before) (all_subs topology) ≤ most_asks topology = subst (λ n. weigh (asks_of before) (all_subs topology) ≤ n * (most_units topology + demands topology.stages)) (length_subs topology) most in
    omega (arith, all, named)
  where
    few : (u : SubNo) → asks before u ≤ most_units topology + demands topology.stages
    few u = omega (arith, asks_few topology before u sound h, demand_within topology.stages u.consumer)

    grows : (before : History) (step : Step) (k : StageNo × (StageNo × ℕ)) → asks_of before k ≤ asks_of (step ∷ before) k
    grows before (Ask u n) k = either (same_sub u (subscription k.0 k.1.0 k.1.1))
      where
        either : (b : Bool) → asks_of before k ≤ (if b then asks_of before k + 1 else asks_of before k)
        either true = omega arith
        either false = omega arith
    grows before _ k = omega arith

    counts : (before : History) (step : Step) → is_legal topology (step ∷ before) ≡ true → is_ask step ≡ true → Counted {K = StageNo × (StageNo × ℕ)} asks_of (all_subs topology) before step
    counts before (Ask u n) l e =
        let legal = legal_before topology before (Ask u n) l in
        let live = asked_live topology before u n l in
        let fed : feeds topology u.producer u.consumer ≡ true = and_left (feeds topology u.producer u.consumer) _ live in
        let same : same_sub u (current_sub topology before u.consumer u.producer) ≡ true = and_right (is_live topology before u.consumer) _ (and_right (is_live topology before u.producer) _ (and_right (feeds topology u.producer u.consumer) _ live)) in
        let now : u.generation ≡ generation topology before u.consumer u.producer = ap (λ (v : SubNo). v.generation) (same_sub-true u (current_sub topology before u.consumer u.producer) same) in
        let within = generations_within topology before u.consumer u.producer in
        let low : u.generation < most_generations topology = omega (arith, now, within, lives_few topology before u.consumer sound legal, lives_few topology before u.producer sound legal) in
        let both = fed_spec topology u.producer u.consumer fed in
        let producer = some_spec topology u.producer both.0 in
        let consumer = some_spec topology u.consumer both.1 in
        let more : asks (Ask u n ∷ before) u ≡ asks before u + 1 = ap (λ b. if b then asks before u + 1 else asks before u) (same_sub-self u) in
        record {
          key = (u.consumer, (u.producer, u.generation));
          there = among_pairs u.consumer (u.producer, u.generation) (stage_numbers topology.stages) (pairs (stage_numbers topology.stages) (below (most_generations topology)))
              (stage_among topology.stages u.consumer consumer.0 consumer.1)
              (among_pairs u.producer u.generation (stage_numbers topology.stages) (below (most_generations topology)) (stage_among topology.stages u.producer producer.0 producer.1) (among_below u.generation (most_generations topology) low));
          more = omega (arith, more);
        }
    counts before _ l e = let x : false ≡ true = e in cc
