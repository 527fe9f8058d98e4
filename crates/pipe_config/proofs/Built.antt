-- The topology of settings that fit and that no fault names is sound.
use Rattle.std.proofs.Common.{◌≡◌, ℕ, suc, ◌+◌, ◌-◌, ◌*◌, ◌%◌, ◌<◌, ◌≤◌, Bool, true, false, not, ◌&&◌, ◌||◌, ◌==◌, nat_le, nat_lt, codes, map, List, [], ◌∷◌, ◌++◌, length, Option, Some, None, is_some, is_none, unwrap_or, flat_map, cond, refl, ap, sym, subst, ◌∙◌, arith, length-append}
use Rattle.std.proofs.lemmas.Bool.{eq-eqb, and_parts, le-leb, leb-true}
use Rattle.std.proofs.lemmas.Bool.Decides.{nat_tests}
use Rattle.std.proofs.lemmas.List.Folds.{list_all-append}
use Rattle.pipe_types.specs.declared.topology.RestartLimit.{RestartLimit}
use Rattle.std.specs.List.{list_all}
use Rattle.pipe_types.specs.declared.topology.StageSpec.{StageSpec}
use Rattle.pipe_types.specs.declared.topology.Role.TheVariants as role
use Rattle.pipe_types.specs.Sound.{IsSound, is_between, is_name, is_named, is_batch_processor, has_fields, is_reached, producers, processors, batchers, batch_processors, is_window, is_limit, is_control, is_rate, is_lines, is_reason, are_settings}
use Rattle.config_table.specs.declared.fault.ConfigFault.TheVariants as fault
use Rattle.config_settings.specs.declared.settings.ProducerSettings.{ProducerSettings}
use Rattle.config_settings.specs.declared.settings.ProcessorSettings.{ProcessorSettings}
use Rattle.config_settings.specs.declared.settings.SupervisorSettings.{SupervisorSettings}
use Rattle.config_settings.specs.declared.settings.BatcherSettings.{BatcherSettings}
use Rattle.config_settings.specs.declared.settings.Settings.{Settings}
use Rattle.config_judge.specs.Judge.{faults_in, duplicate_names, duplicates_with, routes_with, group_faults, bad_dispatches, unreachable_with, lacks_stage, stage_count, processor_count, supervisor_count, batcher_names, producer_names, processor_routes, supervisor_routes, batcher_routes, fault_if}
use Rattle.config_build.specs.Build.{topology_in, stages_of, partition_field, places, producer_stages, processor_stage, processor_stages, supervisor_stages, batcher_stages, batch_processor_stage, batch_processor_stages, second_limit, third_limit, fourth_limit}
use Rattle.config_settings.specs.declared.settings.OwnLimit.{OwnLimit}
use Rattle.config_build.specs.Limits.{is_own, limit_from, own_limits, limits_of, producer_limits, processor_limits, supervisor_limits, batcher_limits, limit_place, next_place, places_after}
use Rattle.pipe_config.specs.Fit.{IsFit, most_fit, seconds_fit, limit_fits, producer_fits, processors_fit, supervisor_fits, batches_fit, selects_fit, batcher_fits, demand_fits, handler_fits, field_fits}
use Rattle.pipe_config.proofs.Groups.{AllRole, role_producers, role_processors, role_supervisors, role_batchers, role_batch_processors, length-producers, length-processors, length-supervisors, length-batchers, length-batch_processors, five_producers, five_processors, five_batchers}
use Rattle.pipe_config.proofs.Order.{IsEnough, stages_are_ordered}
use Rattle.pipe_config.proofs.Named.{both, all_map, all_append, named_producers, named_processors, named_supervisors, named_batchers, named_batch_processors, found_batchers, find_other}
use Rattle.pipe_config.proofs.Distinct.{no_fault, nothing_left, names_are_distinct}
use Rattle.pipe_config.proofs.Rules.{rules_fit}
use Rattle.pipe_config.proofs.Fields.{FieldFits, ProcessorRules, SupervisorRules, producer_fields, processor_fields, supervisor_fields, batcher_fields, member_fields, counted_batchers, none_of}
use Rattle.pipe_config.proofs.Walked.{least_none}
use Rattle.config_table.specs.Fault.{least, under}
use Rattle.pipe_config.proofs.Reached.{batchers_reached}
use Rattle.std.proofs.lemmas.List.Elements.{filter-append}

length-names : (bs : List BatcherSettings) → length (batcher_names bs) ≡ length bs
length-names [] = refl
length-names (b ∷ bs) = ap suc (length-names bs)

names_fit : (ps : List ProducerSettings) → list_all producer_fits ps ≡ true → list_all (λ p. is_name p.name) ps ≡ true
names_fit [] h = refl
names_fit (p ∷ ps) h = let (here, more) = and_parts (producer_fits p) (list_all producer_fits ps) h in both (and_parts (is_name p.name) (nat_le p.buffer_size 200000) here).0 (names_fit ps more)

abbrev batcher_rest : BatcherSettings → Bool
batcher_rest b = (is_between 1 10000 b.batch_size && is_between 1 3600000 b.batch_timeout) && (demand_fits 10000 b.demand && handler_fits b.handler)

batcher_front : (b : BatcherSettings) → batcher_fits b ≡ true → (is_name b.name ≡ true) × (is_between 1 16 b.concurrency ≡ true)
batcher_front b h = and_parts (is_name b.name) (is_between 1 16 b.concurrency) (and_parts (is_name b.name && is_between 1 16 b.concurrency) (batcher_rest b) (and_parts (batches_fit b) (selects_fit b) h).0).0

batcher_names_fit : (bs : List BatcherSettings) → list_all batcher_fits bs ≡ true → list_all (λ b. is_name b.name) bs ≡ true
batcher_names_fit [] h = refl
batcher_names_fit (b ∷ bs) h = let (here, more) = and_parts (batcher_fits b) (list_all batcher_fits bs) h in both (batcher_front b here).0 (batcher_names_fit bs more)

sizes_fit : (bs : List BatcherSettings) → list_all batcher_fits bs ≡ true → list_all (λ b. is_between 1 16 b.concurrency) bs ≡ true
sizes_fit [] h = refl
sizes_fit (b ∷ bs) h = let (here, more) = and_parts (batcher_fits b) (list_all batcher_fits bs) h in both (batcher_front b here).1 (sizes_fit bs more)

concurrency_fits : (q : ProcessorSettings) → processors_fit (Some q) ≡ true → (is_between 1 32 q.concurrency ≡ true) × (field_fits q.partition_by ≡ true)
concurrency_fits q h = and_parts (is_between 1 32 q.concurrency) (field_fits q.partition_by) (and_parts (is_between 1 32 q.concurrency && field_fits q.partition_by) (demand_fits 10000 q.demand && (not (is_lines q.handler.kind) && handler_fits q.handler)) h).0

-- the groups that the fault of stages leaves
abbrev lacks : List ProducerSettings → Option ProcessorSettings → Option SupervisorSettings → List BatcherSettings → Bool
lacks ps procs sup bs = length ps == 0 || ((is_none procs && is_none sup) || (is_some sup && (is_some procs || not (length bs == 0))))

lacks_rest : (a b : Bool) → (a || b) ≡ false → (a ≡ false) × (b ≡ false)
lacks_rest true b h = cc
lacks_rest false b h = (refl, h)

some_producer : (ps : List ProducerSettings) (b : Bool) → (length ps == 0 || b) ≡ false → 1 ≤ length ps
some_producer [] b h = cc
some_producer (p ∷ ps) b h = omega arith

enough : (procs : Option ProcessorSettings) (sup : Option SupervisorSettings) (bs : List BatcherSettings) → ((is_none procs && is_none sup) || (is_some sup && (is_some procs || not (length bs == 0)))) ≡ false → processors_fit procs ≡ true → IsEnough procs sup bs
enough None None bs h fit = cc
enough None (Some s) [] h fit = tt
enough None (Some s) (b ∷ bs) h fit = let e : (suc (length bs) == 0) ≡ false = grind (arith, nat_tests) in let t : not (suc (length bs) == 0) ≡ false = h in let u : not false ≡ false = rw e at t in cc
enough (Some q) None bs h fit = (concurrency_fits q fit).0
enough (Some q) (Some s) bs h fit = cc

field_part : (f : Option ℕ) (n : ℕ) → field_fits f ≡ true → nat_le 1 n ≡ true → FieldFits f n
field_part None n h one = tt
field_part (Some field) n h one = (h, one)

partition_fits : (procs : Option ProcessorSettings) → processors_fit procs ≡ true → FieldFits (partition_field procs) (processor_count procs)
partition_fits None h = tt
partition_fits (Some q) h = let (size, field) = concurrency_fits q h in field_part q.partition_by q.concurrency field (and_parts (nat_le 1 q.concurrency) (nat_le q.concurrency 32) size).0

processor_rules : (known : List (List ℕ)) (procs : Option ProcessorSettings) → processors_fit procs ≡ true → processor_routes known procs ≡ [] → ProcessorRules known procs
processor_rules known None h routes = tt
processor_rules known (Some q) h routes =
    let handling = (and_parts (is_between 1 32 q.concurrency && field_fits q.partition_by) (demand_fits 10000 q.demand && (not (is_lines q.handler.kind) && handler_fits q.handler)) h).1 in
    let handler = (and_parts (not (is_lines q.handler.kind)) (handler_fits q.handler) (and_parts (demand_fits 10000 q.demand) (not (is_lines q.handler.kind) && handler_fits q.handler) handling).1).1 in
    rules_fit (under (codes "processors") (codes "steps")) known q.handler.steps routes (and_parts (nat_le (length q.handler.steps) 64) (is_reason q.handler.failed) handler).0

supervisor_rules : (sup : Option SupervisorSettings) → supervisor_fits sup ≡ true → supervisor_routes sup ≡ [] → SupervisorRules sup
supervisor_rules None h routes = tt
supervisor_rules (Some s) h routes =
    let handler = (and_parts (not (is_lines s.handler.kind)) (handler_fits s.handler) (and_parts (demand_fits 16 s.demand) (not (is_lines s.handler.kind) && handler_fits s.handler) h).1).1 in
    rules_fit (under (codes "supervisor") (codes "steps")) [] s.handler.steps routes (and_parts (nat_le (length s.handler.steps) 64) (is_reason s.handler.failed) handler).0

-- batchers only beside processors
reached : (all : List StageSpec) (known : List (List ℕ)) (first second l2 l4 : ℕ) (procs : Option ProcessorSettings) (sup : Option SupervisorSettings) (bs : List BatcherSettings) → IsEnough procs sup bs → processors all ≡ processor_stages known first l2 procs → unreachable_with known bs procs ≡ []
    → list_all (is_reached all) (batcher_stages second l4 0 bs) ≡ true
reached all known first second l2 l4 None None bs e group h = absurd e
reached all known first second l2 l4 None (Some s) [] e group h = refl
reached all known first second l2 l4 None (Some s) (b ∷ bs) e group h = absurd e
reached all known first second l2 l4 (Some q) None bs e group h =
    let least = leb-true 1 q.concurrency (and_parts (nat_le 1 q.concurrency) (nat_le q.concurrency 32) e).0 in
    let size : q.concurrency ≡ suc (q.concurrency - 1) = omega arith in
    batchers_reached all known q first (limit_place l2 q.limit) second l4 q.concurrency (q.concurrency - 1) bs size group h
reached all known first second l2 l4 (Some q) (Some s) bs e group h = absurd e

five_all : (test : StageSpec → Bool) (ps cs ss bs ds : List StageSpec) → list_all test ps ≡ true → list_all test cs ≡ true → list_all test ss ≡ true → list_all test bs ≡ true → list_all test ds ≡ true → list_all test (ps ++ (cs ++ (ss ++ (bs ++ ds)))) ≡ true
five_all test ps cs ss bs ds p c s b d = all_append test ps (cs ++ (ss ++ (bs ++ ds))) p (all_append test cs (ss ++ (bs ++ ds)) c (all_append test ss (bs ++ ds) s (all_append test bs ds b d)))

window_fits : (seconds : ℕ) → is_between 1 3600 seconds ≡ true → is_window (seconds * 1000) ≡ true
window_fits seconds h =
    let least = leb-true 1 seconds (and_parts (nat_le 1 seconds) (nat_le seconds 3600) h).0 in
    let most = leb-true seconds 3600 (and_parts (nat_le 1 seconds) (nat_le seconds 3600) h).1 in
    let low : 1000 ≤ seconds * 1000 = omega arith in
    let high : seconds * 1000 ≤ 3600000 = omega arith in
    let whole : (seconds * 1000) % 1000 ≡ 0 = omega arith in
    both (both (le-leb 1000 (seconds * 1000) low) (le-leb (seconds * 1000) 3600000 high)) (eq-eqb ((seconds * 1000) % 1000) 0 whole)

-- no fault of stages
no_group_fault : (s : Settings) → group_faults s ≡ [] → (lacks_stage s ≡ false) × (stage_count s ≤ 64)
no_group_fault s h =
    let (stages, more) = no_fault (lacks_stage s) fault.NoStage (fault_if (nat_lt 64 (stage_count s)) fault.TooManyStages) h in
    (stages, few (nat_lt 64 (stage_count s)) refl more)
  where
    few : (b : Bool) → nat_lt 64 (stage_count s) ≡ b → fault_if b fault.TooManyStages ≡ [] → stage_count s ≤ 64
    few true e h = cc
    few false e h = grind (arith, nat_tests)

-- settings that no fault names have at most 64 stages
pub few_stages : (s : Settings) → least (faults_in s) ≡ None → stage_count s ≤ 64
few_stages s h =
    let known : List (List ℕ) = batcher_names s.batchers in
    let after_names = (nothing_left (duplicates_with known s) (routes_with known s ++ (group_faults s ++ (bad_dispatches 0 s.batchers ++ unreachable_with known s.batchers s.processors))) (least_none (faults_in s) h)).1 in
    let after_routes = (nothing_left (routes_with known s) (group_faults s ++ (bad_dispatches 0 s.batchers ++ unreachable_with known s.batchers s.processors)) after_names).1 in
    (no_group_fault s (nothing_left (group_faults s) (bad_dispatches 0 s.batchers ++ unreachable_with known s.batchers s.processors) after_routes).0).1

abbrev is_of : ℕ → StageSpec → Bool
is_of k s = is_batch_processor s.role && s.batcher == k

members_of : (k : ℕ) (ps cs ss bs ds : List StageSpec) → AllRole role.Producer ps → AllRole role.Processor cs → AllRole role.Supervisor ss → AllRole role.Batcher bs
    → batch_processors k (ps ++ (cs ++ (ss ++ (bs ++ ds)))) ≡ batch_processors k ds
members_of k ps cs ss bs ds p c v b =
    rw (
      filter-append (is_of k) ps (cs ++ (ss ++ (bs ++ ds))),
      filter-append (is_of k) cs (ss ++ (bs ++ ds)),
      filter-append (is_of k) ss (bs ++ ds),
      filter-append (is_of k) bs ds,
      none_of role.Producer k ps refl p,
      none_of role.Processor k cs refl c,
      none_of role.Supervisor k ss refl v,
      none_of role.Batcher k bs refl b,
    ) refl

-- how many stages stand before the batchers, and the stages of each kind
abbrev stages_above : Settings → ℕ
stages_above s = length s.producers + processor_count s.processors + supervisor_count s.supervisor

abbrev producers_in : Settings → List StageSpec
producers_in s = producer_stages (partition_field s.processors) (processor_count s.processors) 1 0 s.producers

abbrev processors_in : Settings → List StageSpec
processors_in s = processor_stages (batcher_names s.batchers) (length s.producers) (second_limit s) s.processors

abbrev supervisors_in : Settings → List StageSpec
supervisors_in s = supervisor_stages (length s.producers) (third_limit s) s.supervisor

abbrev batchers_in : Settings → List StageSpec
batchers_in s = batcher_stages (stages_above s) (fourth_limit s) 0 s.batchers

abbrev writers_in : Settings → List StageSpec
writers_in s = batch_processor_stages (stages_above s + length s.batchers) (fourth_limit s) 0 s.batchers

count_fits : (s : Settings) → stage_count s ≤ 64 → length (stages_of s) ≤ 64
count_fits s few =
    rw (
      length-append (producers_in s) ((processors_in s) ++ ((supervisors_in s) ++ ((batchers_in s) ++ (writers_in s)))),
      length-append (processors_in s) ((supervisors_in s) ++ ((batchers_in s) ++ (writers_in s))),
      length-append (supervisors_in s) ((batchers_in s) ++ (writers_in s)),
      length-append (batchers_in s) (writers_in s),
      length-producers (partition_field s.processors) (processor_count s.processors) 1 0 s.producers,
      length-processors (batcher_names s.batchers) (length s.producers) (second_limit s) s.processors,
      length-supervisors (length s.producers) (third_limit s) s.supervisor,
      length-batchers (stages_above s) (fourth_limit s) 0 s.batchers,
      length-batch_processors (stages_above s + length s.batchers) (fourth_limit s) 0 s.batchers,
    )
    (omega arith)

-- ---- the limits

lt_true : (a b : ℕ) → a < b → nat_lt a b ≡ true
lt_true a b h = grind (arith, nat_tests)

-- places go on by the limits that the tables have of their own
after_step : (s : Settings) (l : ℕ) (own : OwnLimit) (owns : List OwnLimit) (b : Bool) → ((k : ℕ) → places_after k owns ≡ k + length (flat_map (own_limits s) owns))
    → places_after (cond b (l + 1) l) owns ≡ l + length (cond b (limit_from s own ∷ []) [] ++ flat_map (own_limits s) owns)
after_step s l own owns true h = omega (arith, h (l + 1))
after_step s l own owns false h = h l

after_count : (s : Settings) (l : ℕ) (owns : List OwnLimit) → places_after l owns ≡ l + length (flat_map (own_limits s) owns)
after_count s l [] = omega arith
after_count s l (own ∷ owns) = after_step s l own owns (is_own own) (λ k. after_count s k owns)

from_step : (l : ℕ) (owns : List OwnLimit) (b : Bool) → ((k : ℕ) → k ≤ places_after k owns) → l ≤ places_after (cond b (l + 1) l) owns
from_step l owns true h = omega (arith, h (l + 1))
from_step l owns false h = h l

places_from : (l : ℕ) (owns : List OwnLimit) → l ≤ places_after l owns
places_from l [] = omega arith
places_from l (own ∷ owns) = from_step l owns (is_own own) (λ k. places_from k owns)

total_limits : (s : Settings) → places_after (fourth_limit s) (batcher_limits s.batchers) ≡ length (limits_of s)
total_limits s =
    let a : List RestartLimit = flat_map (own_limits s) (producer_limits s.producers) in
    let b : List RestartLimit = flat_map (own_limits s) (processor_limits s.processors) in
    let c : List RestartLimit = flat_map (own_limits s) (supervisor_limits s.supervisor) in
    let d : List RestartLimit = flat_map (own_limits s) (batcher_limits s.batchers) in
    let second : second_limit s ≡ 1 + length a = after_count s 1 (producer_limits s.producers) in
    let third : third_limit s ≡ second_limit s + length b = after_count s (second_limit s) (processor_limits s.processors) in
    let fourth : fourth_limit s ≡ third_limit s + length c = after_count s (third_limit s) (supervisor_limits s.supervisor) in
    let last : places_after (fourth_limit s) (batcher_limits s.batchers) ≡ fourth_limit s + length d = after_count s (fourth_limit s) (batcher_limits s.batchers) in
    let whole : length (limits_of s) ≡ 1 + (length a + (length b + (length c + length d))) = omega (arith, length-append a (b ++ (c ++ d)), length-append b (c ++ d), length-append c d) in
    omega (arith, second, third, fourth, last, whole)

-- each stage's limit is there

abbrev has_limit : ℕ → StageSpec → Bool
has_limit total s = nat_lt s.limit total

place_step : (total l : ℕ) (owns : List OwnLimit) (b : Bool) → 1 ≤ total → places_after (cond b (l + 1) l) owns ≤ total → nat_lt (cond b l 0) total ≡ true
place_step total l owns true one h = lt_true l total (omega (arith, places_from (l + 1) owns))
place_step total l owns false one h = lt_true 0 total one

limited_producers : (total : ℕ) (field : Option ℕ) (n l i : ℕ) (ps : List ProducerSettings) → 1 ≤ total → places_after l (producer_limits ps) ≤ total → list_all (has_limit total) (producer_stages field n l i ps) ≡ true
limited_producers total field n l i [] one h = refl
limited_producers total field n l i (p ∷ ps) one h = both (place_step total l (producer_limits ps) (is_own p.limit) one h) (limited_producers total field n (next_place l p.limit) (i + 1) ps one h)

limited_processors : (total : ℕ) (known : List (List ℕ)) (first l : ℕ) (q : Option ProcessorSettings) → 1 ≤ total → places_after l (processor_limits q) ≤ total → list_all (has_limit total) (processor_stages known first l q) ≡ true
limited_processors total known first l None one h = refl
limited_processors total known first l (Some q) one h = all_map (has_limit total) (processor_stage known q first (limit_place l q.limit)) (places 0 q.concurrency) (λ i. place_step total l [] (is_own q.limit) one h)

limited_supervisors : (total first l : ℕ) (s : Option SupervisorSettings) → 1 ≤ total → places_after l (supervisor_limits s) ≤ total → list_all (has_limit total) (supervisor_stages first l s) ≡ true
limited_supervisors total first l None one h = refl
limited_supervisors total first l (Some s) one h = both (place_step total l [] (is_own s.limit) one h) refl

limited_batchers : (total second l i : ℕ) (bs : List BatcherSettings) → 1 ≤ total → places_after l (batcher_limits bs) ≤ total → list_all (has_limit total) (batcher_stages second l i bs) ≡ true
limited_batchers total second l i [] one h = refl
limited_batchers total second l i (b ∷ bs) one h = both (place_step total l (batcher_limits bs) (is_own b.limit) one h) (limited_batchers total second (next_place l b.limit) (i + 1) bs one h)

limited_members : (total before l k : ℕ) (bs : List BatcherSettings) → 1 ≤ total → places_after l (batcher_limits bs) ≤ total → list_all (has_limit total) (batch_processor_stages before l k bs) ≡ true
limited_members total before l k [] one h = refl
limited_members total before l k (b ∷ bs) one h =
    all_append (has_limit total) (map (batch_processor_stage k b before (limit_place l b.limit)) (places 0 b.concurrency)) (batch_processor_stages (before + b.concurrency) (next_place l b.limit) (k + 1) bs)
    (all_map (has_limit total) (batch_processor_stage k b before (limit_place l b.limit)) (places 0 b.concurrency) (λ i. place_step total l (batcher_limits bs) (is_own b.limit) one h))
    (limited_members total (before + b.concurrency) (next_place l b.limit) (k + 1) bs one h)

limited_stages : (s : Settings) → list_all (has_limit (length (limits_of s))) (stages_of s) ≡ true
limited_stages s =
    let total : ℕ = length (limits_of s) in
    let last : fourth_limit s ≤ total = omega (arith, places_from (fourth_limit s) (batcher_limits s.batchers), total_limits s) in
    let third : third_limit s ≤ fourth_limit s = places_from (third_limit s) (supervisor_limits s.supervisor) in
    let before : second_limit s ≤ third_limit s = places_from (second_limit s) (processor_limits s.processors) in
    let front : 1 ≤ second_limit s = places_from 1 (producer_limits s.producers) in
    let one : 1 ≤ total = omega (arith, last, third, before, front) in
    let behind : places_after (fourth_limit s) (batcher_limits s.batchers) ≤ total = omega (arith, total_limits s) in
    let to_third : third_limit s ≤ total = omega (arith, last, third) in
    let to_second : second_limit s ≤ total = omega (arith, to_third, before) in
    five_all (has_limit total) (producers_in s) (processors_in s) (supervisors_in s) (batchers_in s) (writers_in s) (limited_producers total (partition_field s.processors) (processor_count s.processors) 1 0 s.producers one to_second)
    (limited_processors total (batcher_names s.batchers) (length s.producers) (second_limit s) s.processors one to_third) (limited_supervisors total (length s.producers) (third_limit s) s.supervisor one last)
    (limited_batchers total (stages_above s) (fourth_limit s) 0 s.batchers one behind) (limited_members total (stages_above s + length s.batchers) (fourth_limit s) 0 s.batchers one behind)

-- each limit is in its range

most_or : (o : Option ℕ) (n : ℕ) → most_fit o ≡ true → nat_le n 1000 ≡ true → nat_le (unwrap_or o n) 1000 ≡ true
most_or None n h e = e
most_or (Some m) n h e = h

seconds_or : (o : Option ℕ) (n : ℕ) → seconds_fit o ≡ true → is_between 1 3600 n ≡ true → is_between 1 3600 (unwrap_or o n) ≡ true
seconds_or None n h e = e
seconds_or (Some m) n h e = h

limit_from_fits : (s : Settings) (own : OwnLimit) → nat_le s.max_restarts 1000 ≡ true → is_between 1 3600 s.max_seconds ≡ true → limit_fits own ≡ true → is_limit (limit_from s own) ≡ true
limit_from_fits s own most seconds h =
    let (few, long) = and_parts (most_fit own.max_restarts) (seconds_fit own.max_seconds) h in
    both (most_or own.max_restarts s.max_restarts few most) (window_fits (unwrap_or own.max_seconds s.max_seconds) (seconds_or own.max_seconds s.max_seconds long seconds))

own_limits_fit : (s : Settings) (own : OwnLimit) (b : Bool) → is_limit (limit_from s own) ≡ true → list_all is_limit (cond b (limit_from s own ∷ []) []) ≡ true
own_limits_fit s own true h = both h refl
own_limits_fit s own false h = refl

all_limits_fit : (s : Settings) (owns : List OwnLimit) → nat_le s.max_restarts 1000 ≡ true → is_between 1 3600 s.max_seconds ≡ true → list_all limit_fits owns ≡ true → list_all is_limit (flat_map (own_limits s) owns) ≡ true
all_limits_fit s [] most seconds h = refl
all_limits_fit s (own ∷ owns) most seconds h =
    let (here, more) = and_parts (limit_fits own) (list_all limit_fits owns) h in
    list_all-append is_limit (own_limits s own) (flat_map (own_limits s) owns)
    ∙ both (own_limits_fit s own (is_own own) (limit_from_fits s own most seconds here)) (all_limits_fit s owns most seconds more)

limits_fit : (s : Settings) → IsFit s → nat_le s.max_restarts 1000 ≡ true → is_between 1 3600 s.max_seconds ≡ true → list_all is_limit (limits_of s) ≡ true
limits_fit s fit most seconds =
    let a : List RestartLimit = flat_map (own_limits s) (producer_limits s.producers) in
    let b : List RestartLimit = flat_map (own_limits s) (processor_limits s.processors) in
    let c : List RestartLimit = flat_map (own_limits s) (supervisor_limits s.supervisor) in
    let d : List RestartLimit = flat_map (own_limits s) (batcher_limits s.batchers) in
    let (ps, after_ps) = and_parts (list_all limit_fits (producer_limits s.producers)) (list_all limit_fits (processor_limits s.processors) && (list_all limit_fits (supervisor_limits s.supervisor) && list_all limit_fits (batcher_limits s.batchers))) fit.limits in
    let (cs, after_cs) = and_parts (list_all limit_fits (processor_limits s.processors)) (list_all limit_fits (supervisor_limits s.supervisor) && list_all limit_fits (batcher_limits s.batchers)) after_ps in
    let (ss, bs) = and_parts (list_all limit_fits (supervisor_limits s.supervisor)) (list_all limit_fits (batcher_limits s.batchers)) after_cs in
    both (both most (window_fits s.max_seconds seconds))
    (list_all-append is_limit a (b ++ (c ++ d)) ∙ both (all_limits_fit s (producer_limits s.producers) most seconds ps)
    (list_all-append is_limit b (c ++ d) ∙ both (all_limits_fit s (processor_limits s.processors) most seconds cs)
    (list_all-append is_limit c d ∙ both (all_limits_fit s (supervisor_limits s.supervisor) most seconds ss) (all_limits_fit s (batcher_limits s.batchers) most seconds bs))))

settings_fit : (s : Settings) → IsFit s → length (producers (stages_of s)) ≡ length s.producers → are_settings (topology_in s) ≡ true
settings_fit s fit count =
    let (restarts, others) = and_parts (nat_le s.max_restarts 1000 && is_between 1 3600 s.max_seconds) (nat_le s.idle_limit 1000000 && is_control s.control) fit.pipeline in
    let (most, seconds) = and_parts (nat_le s.max_restarts 1000) (is_between 1 3600 s.max_seconds) restarts in
    let (idle, control) = and_parts (nat_le s.idle_limit 1000000) (is_control s.control) others in
    let some : 1 ≤ length (limits_of s) = omega arith in
    both (both (le-leb 1 (length (limits_of s)) some) (both (limits_fit s fit most seconds) (limited_stages s))) (both (both idle control) (both fit.sizes (subst (λ (k : ℕ). is_rate k s.rate ≡ true) (sym count) fit.rate)))

pub built_is_sound : (s : Settings) → IsFit s → faults_in s ≡ [] → IsSound (topology_in s)
built_is_sound s fit h =
    let known : List (List ℕ) = batcher_names s.batchers in
    let first : ℕ = length s.producers in
    let second : ℕ = first + processor_count s.processors + supervisor_count s.supervisor in
    let third : ℕ = second + length s.batchers in
    let field : Option ℕ = partition_field s.processors in
    let n : ℕ = processor_count s.processors in
    let l2 : ℕ = second_limit s in
    let l3 : ℕ = third_limit s in
    let l4 : ℕ = fourth_limit s in
    let ps : List StageSpec = producer_stages field n 1 0 s.producers in
    let cs : List StageSpec = processor_stages known first l2 s.processors in
    let ss : List StageSpec = supervisor_stages first l3 s.supervisor in
    let bs : List StageSpec = batcher_stages second l4 0 s.batchers in
    let ds : List StageSpec = batch_processor_stages third l4 0 s.batchers in
    let all : List StageSpec = ps ++ (cs ++ (ss ++ (bs ++ ds))) in
    let p : AllRole role.Producer ps = role_producers field n 1 0 s.producers in
    let c : AllRole role.Processor cs = role_processors known first l2 s.processors in
    let v : AllRole role.Supervisor ss = role_supervisors first l3 s.supervisor in
    let b : AllRole role.Batcher bs = role_batchers second l4 0 s.batchers in
    let d : AllRole role.BatchProcessor ds = role_batch_processors third l4 0 s.batchers in
    let (duplicates, after_names) = nothing_left (duplicates_with known s) (routes_with known s ++ (group_faults s ++ (bad_dispatches 0 s.batchers ++ unreachable_with known s.batchers s.processors))) h in
    let (routes, after_routes) = nothing_left (routes_with known s) (group_faults s ++ (bad_dispatches 0 s.batchers ++ unreachable_with known s.batchers s.processors)) after_names in
    let (groups, after_groups) = nothing_left (group_faults s) (bad_dispatches 0 s.batchers ++ unreachable_with known s.batchers s.processors) after_routes in
    let (dispatches, unreached) = nothing_left (bad_dispatches 0 s.batchers) (unreachable_with known s.batchers s.processors) after_groups in
    let (batcher_straight, others) = nothing_left (batcher_routes 0 s.batchers) (processor_routes known s.processors ++ supervisor_routes s.supervisor) routes in
    let (processor_straight, supervisor_straight) = nothing_left (processor_routes known s.processors) (supervisor_routes s.supervisor) others in
    let (names, producers_new) = nothing_left (duplicate_names (codes "batcher") [] 0 known) (duplicate_names (codes "producer") known 0 (producer_names s.producers)) duplicates in
    let (present, few) = no_group_fault s groups in
    let (no_gap, level_two) = lacks_rest (length s.producers == 0) ((is_none s.processors && is_none s.supervisor) || (is_some s.supervisor && (is_some s.processors || not (length s.batchers == 0)))) present in
    let is_enough : IsEnough s.processors s.supervisor s.batchers = enough s.processors s.supervisor s.batchers level_two fit.processors in
    let batchers_are : batchers all ≡ bs = five_batchers ps cs ss bs ds p c v b d in
    let processors_are : processors all ≡ cs = five_processors ps cs ss bs ds p c v b d in
    let producers_are : producers all ≡ ps = five_producers ps cs ss bs ds p c v b d in
    let batchers_count : length (batchers all) ≡ length s.batchers = ap length batchers_are ∙ length-batchers second l4 0 s.batchers in
    let processors_count : length (processors all) ≡ n = ap length processors_are ∙ length-processors known first l2 s.processors in
    let known_count : length (batchers all) ≡ length known = batchers_count ∙ sym (length-names s.batchers) in
    let found = found_batchers all second l4 0 s.batchers ds (λ k above. find_other role.Producer k ps (cs ++ (ss ++ (bs ++ ds))) refl p ∙ (find_other role.Processor k cs (ss ++ (bs ++ ds)) refl c ∙ find_other role.Supervisor k ss (bs ++ ds) refl v)) in
    let counted = counted_batchers all 0 third l4 s.batchers (λ k above. ap length (members_of k ps cs ss bs ds p c v b)) in
    record {
      few = count_fits s few;
      ordered = stages_are_ordered field n known s.producers s.processors s.supervisor s.batchers first second third 1 l2 l3 l4 all refl (some_producer s.producers ((is_none s.processors && is_none s.supervisor) || (is_some s.supervisor && (is_some s.processors || not (length s.batchers == 0)))) present) refl refl is_enough (sizes_fit s.batchers fit.batchers) refl batchers_count;
      named = five_all (is_named all) ps cs ss bs ds (named_producers all field n 1 0 s.producers (names_fit s.producers fit.producers)) (named_processors all known first l2 s.processors) (named_supervisors all first l3 s.supervisor)
          (named_batchers all second l4 0 s.batchers (batcher_names_fit s.batchers fit.batchers)) (named_batch_processors all second third l4 0 s.batchers found);
      distinct = rw (producers_are, batchers_are) (names_are_distinct field n 1 second l4 s.producers s.batchers names producers_new);
      in_range = five_all (has_fields all) ps cs ss bs ds (producer_fields all field n 1 0 s.producers processors_count (partition_fits s.processors fit.processors) fit.producers)
          (processor_fields all known first l2 s.processors known_count fit.processors (processor_rules known s.processors fit.processors processor_straight))
          (supervisor_fields all first l3 s.supervisor fit.supervisor (supervisor_rules s.supervisor fit.supervisor supervisor_straight))
          (batcher_fields all second l4 0 s.batchers counted fit.batchers) (member_fields all second third l4 0 s.batchers found fit.batchers batcher_straight);
      reached = rw batchers_are (reached all known first second l2 l4 s.processors s.supervisor s.batchers is_enough processors_are unreached);
      settings = settings_fit s fit (ap length producers_are ∙ length-producers field n 1 0 s.producers);
    }
