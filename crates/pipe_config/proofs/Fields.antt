-- The fields of the stages that settings give.
use Rattle.std.proofs.Common.{◌≡◌, ℕ, zero, suc, ◌+◌, ◌<◌, ◌≤◌, Bool, true, false, not, ◌&&◌, ◌||◌, ◌==◌, nat_le, nat_lt, codes, List, [], ◌∷◌, length, map, filter, Option, Some, None, unwrap_or, refl, ap, ◌∙◌, arith, length-append}
use Rattle.std.proofs.lemmas.Bool.{eq-eqb, and_parts, le-leb, leb-true}
use Rattle.std.proofs.lemmas.Bool.Decides.{nat_tests}
use Rattle.std.proofs.lemmas.List.Elements.{filter-append}
use Rattle.std.specs.List.{list_all}
use Rattle.std.specs.Prelude.{slice_get, is_none}
use Rattle.pipe_types.specs.declared.topology.StageSpec.{StageSpec}
use Rattle.pipe_types.specs.declared.topology.Role.{Role}
use Rattle.pipe_types.specs.declared.topology.Dispatch.{Dispatch}
use Rattle.pipe_types.specs.declared.topology.Dispatch.TheVariants.{Demand, Broadcast, Partition}
use Rattle.pipe_types.specs.Sound.{has_fields, is_name, processors, batchers, batch_processors, is_batch_processor, batcher_at, is_broadcaster, by_demand, by_broadcast, by_partition, is_between, are_rules, is_reason, is_lines}
use Rattle.config_settings.specs.declared.settings.ProducerSettings.{ProducerSettings}
use Rattle.config_settings.specs.declared.settings.ProcessorSettings.{ProcessorSettings}
use Rattle.config_settings.specs.declared.settings.SupervisorSettings.{SupervisorSettings}
use Rattle.config_settings.specs.declared.settings.BatcherSettings.{BatcherSettings}
use Rattle.config_judge.specs.Judge.{batcher_route, batcher_routes}
use Rattle.config_build.specs.Build.{producer_stage, producer_stages, places, processor_stage, processor_stages, supervisor_stages, batcher_stage, batcher_stages, batch_processor_stage, batch_processor_stages, dispatch_to, rules_of, select_at}
use Rattle.config_build.specs.Limits.{limit_place, next_place}
use Rattle.config_table.specs.Fault.{under, at_place}
use Rattle.pipe_config.specs.Fit.{demand_fits, handler_fits, producer_fits, field_fits, processors_fit, supervisor_fits, are_selectors, is_broadcast, selects_fit, batches_fit, batcher_fits}
use Rattle.pipe_config.proofs.Groups.{AllRole, length-places}
use Rattle.pipe_config.proofs.Named.{both, all_append, AllFound}
use Rattle.pipe_config.proofs.Rules.{rules_fit}
use Rattle.pipe_config.proofs.Distinct.{nothing_left}

-- a test of every place of a group
pub all_places : (test : StageSpec → Bool) (f : ℕ → StageSpec) (n i most : ℕ) → i + n ≤ most → ((k : ℕ) → k < most → test (f k) ≡ true) → list_all test (map f (places i n)) ≡ true
all_places test f zero i most fits h = refl
all_places test f (suc n) i most fits h = both (h i (omega arith)) (all_places test f n (i + 1) most (omega arith) h)

lt_true : (a b : ℕ) → a < b → nat_lt a b ≡ true
lt_true a b h = grind (arith, nat_tests)

-- ---- producers

abbrev pub FieldFits : Option ℕ → ℕ → Type 0
FieldFits None n = Unit {0}
FieldFits (Some field) n = (nat_le field 255 ≡ true) × (nat_le 1 n ≡ true)

one_producer : (all : List StageSpec) (field : Option ℕ) (n l i : ℕ) (p : ProducerSettings) → length (processors all) ≡ n → FieldFits field n → nat_le p.buffer_size 200000 ≡ true → has_fields all (producer_stage field n l i p) ≡ true
one_producer all None n l i p count fits size = rw size refl
one_producer all (Some field) n l i p count fits size = rw (count, size, fits.0, fits.1, eq-eqb n n refl) refl

pub producer_fields : (all : List StageSpec) (field : Option ℕ) (n l i : ℕ) (ps : List ProducerSettings) → length (processors all) ≡ n → FieldFits field n → list_all producer_fits ps ≡ true → list_all (has_fields all) (producer_stages field n l i ps) ≡ true
producer_fields all field n l i [] count fits h = refl
producer_fields all field n l i (p ∷ ps) count fits h =
    let (here, more) = and_parts (producer_fits p) (list_all producer_fits ps) h in
    both (one_producer all field n (limit_place l p.limit) i p count fits (and_parts (is_name p.name) (nat_le p.buffer_size 200000) here).1) (producer_fields all field n (next_place l p.limit) (i + 1) ps count fits more)

-- ---- processors

sends_well : (known : List (List ℕ)) (q : ProcessorSettings) (first l i : ℕ)
    → ((length known == 0 && by_demand (processor_stage known q first l i) (dispatch_to (length known))) || (by_partition (length known) (processor_stage known q first l i) (dispatch_to (length known)) && (0 == 0))) ≡ true
sends_well [] q first l i = refl
sends_well (k ∷ ks) q first l i =
    let none : (suc (length ks) == 0) ≡ false = grind (arith, nat_tests) in
    let some : nat_le 1 (suc (length ks)) ≡ true = le-leb 1 (suc (length ks)) (omega arith) in
    rw (none, some, eq-eqb (suc (length ks)) (suc (length ks)) refl) refl

one_processor : (all : List StageSpec) (known : List (List ℕ)) (q : ProcessorSettings) (first l i : ℕ) → length (batchers all) ≡ length known → nat_lt i 32 ≡ true → demand_fits 10000 q.demand ≡ true → not (is_lines q.handler.kind) ≡ true
    → are_rules (length known) (rules_of known q.handler.steps) ≡ true → is_reason q.handler.failed ≡ true → has_fields all (processor_stage known q first l i) ≡ true
one_processor all known q first l i count place demand kind rules failed =
    both
    (both (both (rw count (eq-eqb (length known) (length known) refl)) (sends_well known q first l i))
    (both (both place demand) (both kind (both rules failed))))
    refl

abbrev pub ProcessorRules : List (List ℕ) → Option ProcessorSettings → Type 0
ProcessorRules known None = Unit {0}
ProcessorRules known (Some q) = are_rules (length known) (rules_of known q.handler.steps) ≡ true

pub processor_fields : (all : List StageSpec) (known : List (List ℕ)) (first l : ℕ) (q : Option ProcessorSettings) → length (batchers all) ≡ length known → processors_fit q ≡ true → ProcessorRules known q → list_all (has_fields all) (processor_stages known first l q) ≡ true
processor_fields all known first l None count h rules = refl
processor_fields all known first l (Some q) count h rules =
    let (sizes, others) = and_parts (is_between 1 32 q.concurrency && field_fits q.partition_by) (demand_fits 10000 q.demand && (not (is_lines q.handler.kind) && handler_fits q.handler)) h in
    let (demand, handling) = and_parts (demand_fits 10000 q.demand) (not (is_lines q.handler.kind) && handler_fits q.handler) others in
    let (kind, handler) = and_parts (not (is_lines q.handler.kind)) (handler_fits q.handler) handling in
    let (few, failed) = and_parts (nat_le (length q.handler.steps) 64) (is_reason q.handler.failed) handler in
    let (size, field) = and_parts (is_between 1 32 q.concurrency) (field_fits q.partition_by) sizes in
    let most : q.concurrency ≤ 32 = leb-true q.concurrency 32 (and_parts (nat_le 1 q.concurrency) (nat_le q.concurrency 32) size).1 in
    all_places (has_fields all) (processor_stage known q first (limit_place l q.limit)) q.concurrency 0 32 (omega arith)
    (λ i below. one_processor all known q first (limit_place l q.limit) i count (lt_true i 32 below) demand kind rules failed)

-- ---- the supervisor

abbrev pub SupervisorRules : Option SupervisorSettings → Type 0
SupervisorRules None = Unit {0}
SupervisorRules (Some s) = are_rules 0 (rules_of [] s.handler.steps) ≡ true

pub supervisor_fields : (all : List StageSpec) (first l : ℕ) (s : Option SupervisorSettings) → supervisor_fits s ≡ true → SupervisorRules s → list_all (has_fields all) (supervisor_stages first l s) ≡ true
supervisor_fields all first l None h rules = refl
supervisor_fields all first l (Some s) h rules =
    let (demand, handling) = and_parts (demand_fits 16 s.demand) (not (is_lines s.handler.kind) && handler_fits s.handler) h in
    let (kind, handler) = and_parts (not (is_lines s.handler.kind)) (handler_fits s.handler) handling in
    let (few, failed) = and_parts (nat_le (length s.handler.steps) 64) (is_reason s.handler.failed) handler in
    both (both (both demand (both kind (both rules failed))) refl) refl

-- ---- batchers

-- each batcher has as many batch processors as it says
abbrev pub AllCounted : List StageSpec → ℕ → List BatcherSettings → Type 0
AllCounted all i [] = Unit {0}
AllCounted all i (b ∷ bs) = (length (batch_processors i all) ≡ b.concurrency) × AllCounted all (i + 1) bs

abbrev is_of : ℕ → StageSpec → Bool
is_of k s = is_batch_processor s.role && s.batcher == k

own_group : (k : ℕ) (b : BatcherSettings) (before l : ℕ) (is : List ℕ) → filter (is_of k) (map (batch_processor_stage k b before l) is) ≡ map (batch_processor_stage k b before l) is
own_group k b before l [] = refl
own_group k b before l (i ∷ is) = rw (own_group k b before l is, eq-eqb k k refl) refl

other_group : (k j : ℕ) (b : BatcherSettings) (before l : ℕ) (is : List ℕ) → (j == k) ≡ false → filter (is_of k) (map (batch_processor_stage j b before l) is) ≡ []
other_group k j b before l [] e = refl
other_group k j b before l (i ∷ is) e = rw (other_group k j b before l is e, e) refl

later_groups : (k before l j : ℕ) (bs : List BatcherSettings) → k < j → filter (is_of k) (batch_processor_stages before l j bs) ≡ []
later_groups k before l j [] h = refl
later_groups k before l j (b ∷ bs) h =
    let other : (j == k) ≡ false = grind (arith, nat_tests) in
    filter-append (is_of k) (map (batch_processor_stage j b before (limit_place l b.limit)) (places 0 b.concurrency)) (batch_processor_stages (before + b.concurrency) (next_place l b.limit) (j + 1) bs)
    ∙ rw (other_group k j b before (limit_place l b.limit) (places 0 b.concurrency) other, later_groups k (before + b.concurrency) (next_place l b.limit) (j + 1) bs (omega arith)) refl

first_group : (k before l : ℕ) (b : BatcherSettings) (bs : List BatcherSettings) → length (filter (is_of k) (batch_processor_stages before l k (b ∷ bs))) ≡ b.concurrency
first_group k before l b bs =
    rw (
      filter-append (is_of k) (map (batch_processor_stage k b before (limit_place l b.limit)) (places 0 b.concurrency)) (batch_processor_stages (before + b.concurrency) (next_place l b.limit) (k + 1) bs),
      own_group k b before (limit_place l b.limit) (places 0 b.concurrency),
      later_groups k (before + b.concurrency) (next_place l b.limit) (k + 1) bs (omega arith),
      length-append (map (batch_processor_stage k b before (limit_place l b.limit)) (places 0 b.concurrency)) [],
      length-places (batch_processor_stage k b before (limit_place l b.limit)) 0 b.concurrency,
    )
    (omega arith)

next_group : (k before l j : ℕ) (b : BatcherSettings) (bs : List BatcherSettings) → j + 1 ≤ k → filter (is_of k) (batch_processor_stages before l j (b ∷ bs)) ≡ filter (is_of k) (batch_processor_stages (before + b.concurrency) (next_place l b.limit) (j + 1) bs)
next_group k before l j b bs h =
    let other : (j == k) ≡ false = grind (arith, nat_tests) in
    filter-append (is_of k) (map (batch_processor_stage j b before (limit_place l b.limit)) (places 0 b.concurrency)) (batch_processor_stages (before + b.concurrency) (next_place l b.limit) (j + 1) bs)
    ∙ rw (other_group k j b before (limit_place l b.limit) (places 0 b.concurrency) other) refl

pub counted_batchers : (all : List StageSpec) (j before l : ℕ) (bs : List BatcherSettings) → ((k : ℕ) → j ≤ k → length (batch_processors k all) ≡ length (filter (is_of k) (batch_processor_stages before l j bs))) → AllCounted all j bs
counted_batchers all j before l [] h = tt
counted_batchers all j before l (b ∷ bs) h = (
  h j (omega arith) ∙ first_group j before l b bs,
  counted_batchers all (j + 1) (before + b.concurrency) (next_place l b.limit) bs (λ k above. h k (omega arith) ∙ ap length (next_group k before l j b bs above)),
)

-- a group of another role has no batch processor
pub none_of : (r : Role) (k : ℕ) (xs : List StageSpec) → is_batch_processor r ≡ false → AllRole r xs → filter (is_of k) xs ≡ []
none_of r k [] other h = refl
none_of r k (x ∷ xs) other h = let e : is_batch_processor x.role ≡ false = ap is_batch_processor h.0 ∙ other in rw (none_of r k xs other h.1, e) refl

dispatches_well : (all : List StageSpec) (second l i : ℕ) (b : BatcherSettings) (d : Option Dispatch) → b.dispatch ≡ d → length (batch_processors i all) ≡ b.concurrency → nat_le 1 b.concurrency ≡ true
    → ((by_demand (batcher_stage second l i b) (unwrap_or b.dispatch Demand) || by_broadcast (batcher_stage second l i b) (unwrap_or b.dispatch Demand)) || (by_partition (length (batch_processors i all)) (batcher_stage second l i b) (unwrap_or b.dispatch Demand) && (0 == 0))) ≡ true
dispatches_well all second l i b (Some Partition) e count some = rw (e, count, some, eq-eqb b.concurrency b.concurrency refl) refl
dispatches_well all second l i b _ e count some = rw e refl

one_batcher : (all : List StageSpec) (second l i : ℕ) (b : BatcherSettings) → length (batch_processors i all) ≡ b.concurrency → batcher_fits b ≡ true → has_fields all (batcher_stage second l i b) ≡ true
one_batcher all second l i b count h =
    let (first, others) = and_parts (is_name b.name && is_between 1 16 b.concurrency) ((is_between 1 10000 b.batch_size && is_between 1 3600000 b.batch_timeout) && (demand_fits 10000 b.demand && handler_fits b.handler)) (and_parts (batches_fit b) (selects_fit b) h).0 in
    let (name, size) = and_parts (is_name b.name) (is_between 1 16 b.concurrency) first in
    let (batching, rest) = and_parts (is_between 1 10000 b.batch_size && is_between 1 3600000 b.batch_timeout) (demand_fits 10000 b.demand && handler_fits b.handler) others in
    let (demand, handler) = and_parts (demand_fits 10000 b.demand) (handler_fits b.handler) rest in
    let some : nat_le 1 b.concurrency ≡ true = (and_parts (nat_le 1 b.concurrency) (nat_le b.concurrency 16) size).0 in
    both (both (both (eq-eqb i i refl) (dispatches_well all second l i b b.dispatch refl count some)) (both demand batching)) refl

pub batcher_fields : (all : List StageSpec) (second l i : ℕ) (bs : List BatcherSettings) → AllCounted all i bs → list_all batcher_fits bs ≡ true → list_all (has_fields all) (batcher_stages second l i bs) ≡ true
batcher_fields all second l i [] count h = refl
batcher_fields all second l i (b ∷ bs) count h =
    let (here, more) = and_parts (batcher_fits b) (list_all batcher_fits bs) h in
    both (one_batcher all second (limit_place l b.limit) i b count.0 here) (batcher_fields all second (next_place l b.limit) (i + 1) bs count.1 more)

-- ---- batch processors

short_at : (texts : List (List ℕ)) (i : ℕ) → list_all (λ text. nat_le (length text) 4096) texts ≡ true → nat_le (length (unwrap_or (slice_get texts i) [])) 4096 ≡ true
short_at [] i h = refl
short_at (text ∷ texts) zero h = (and_parts (nat_le (length text) 4096) (list_all (λ t. nat_le (length t) 4096) texts) h).0
short_at (text ∷ texts) (suc i) h = short_at texts i (and_parts (nat_le (length text) 4096) (list_all (λ t. nat_le (length t) 4096) texts) h).1

either_true : (a : Bool) {b : Bool} → b ≡ true → (a || b) ≡ true
either_true true h = refl
either_true false h = h

-- the batcher broadcasts where its settings say so
casts : (second l k : ℕ) (b : BatcherSettings) (d : Option Dispatch) → b.dispatch ≡ d → is_broadcast d ≡ true → is_broadcaster (Some (batcher_stage second l k b)) ≡ true
casts second l k b (Some Broadcast) e h = rw e refl
casts second l k b _ e h = cc

-- what its batch processors select
selects_well : (all : List StageSpec) (second l k : ℕ) (b : BatcherSettings) (texts : Option (List (List ℕ))) (i : ℕ) → b.select ≡ texts → batcher_at all k ≡ Some (batcher_stage second l k b)
    → are_selectors texts ≡ true → (is_none texts || is_broadcast b.dispatch) ≡ true
    → (nat_le (length (select_at texts i)) 4096 && ((length (select_at texts i) == 0) || is_broadcaster (batcher_at all k))) ≡ true
selects_well all second l k b None i e found short where_cast = refl
selects_well all second l k b (Some texts) i e found short where_cast =
    both (short_at texts i short)
    (either_true (length (select_at (Some texts) i) == 0) (ap is_broadcaster found ∙ casts second l k b b.dispatch refl where_cast))

one_member : (all : List StageSpec) (second l k : ℕ) (b : BatcherSettings) (before i : ℕ) → batcher_at all k ≡ Some (batcher_stage second l k b) → selects_fit b ≡ true → nat_lt i 16 ≡ true → are_rules 0 (rules_of [] b.handler.steps) ≡ true → is_reason b.handler.failed ≡ true
    → has_fields all (batch_processor_stage k b before l i) ≡ true
one_member all second l k b before i found select place rules failed =
    let (short, cast) = and_parts (are_selectors b.select) (is_none b.select || is_broadcast b.dispatch) select in
    both (both (both place refl) (both (both rules (selects_well all second l k b b.select i refl found short cast)) failed)) refl

pub member_fields : (all : List StageSpec) (second before l k : ℕ) (bs : List BatcherSettings) → AllFound all second l k bs → list_all batcher_fits bs ≡ true → batcher_routes k bs ≡ [] → list_all (has_fields all) (batch_processor_stages before l k bs) ≡ true
member_fields all second before l k [] found h routes = refl
member_fields all second before l k (b ∷ bs) found h routes =
    let (here, more) = and_parts (batcher_fits b) (list_all batcher_fits bs) h in
    let (straight, later) = nothing_left (batcher_route k b) (batcher_routes (k + 1) bs) routes in
    let (first, others) = and_parts (is_name b.name && is_between 1 16 b.concurrency) ((is_between 1 10000 b.batch_size && is_between 1 3600000 b.batch_timeout) && (demand_fits 10000 b.demand && handler_fits b.handler)) (and_parts (batches_fit b) (selects_fit b) here).0 in
    let (name, size) = and_parts (is_name b.name) (is_between 1 16 b.concurrency) first in
    let (batching, rest) = and_parts (is_between 1 10000 b.batch_size && is_between 1 3600000 b.batch_timeout) (demand_fits 10000 b.demand && handler_fits b.handler) others in
    let (demand, handler) = and_parts (demand_fits 10000 b.demand) (handler_fits b.handler) rest in
    let (few, failed) = and_parts (nat_le (length b.handler.steps) 64) (is_reason b.handler.failed) handler in
    let most : b.concurrency ≤ 16 = leb-true b.concurrency 16 (and_parts (nat_le 1 b.concurrency) (nat_le b.concurrency 16) size).1 in
    let rules : are_rules 0 (rules_of [] b.handler.steps) ≡ true = rules_fit (under (at_place (codes "batcher") k) (codes "steps")) [] b.handler.steps straight few in
    all_append (has_fields all) (map (batch_processor_stage k b before (limit_place l b.limit)) (places 0 b.concurrency)) (batch_processor_stages (before + b.concurrency) (next_place l b.limit) (k + 1) bs)
    (all_places (has_fields all) (batch_processor_stage k b before (limit_place l b.limit)) b.concurrency 0 16 (omega arith) (λ i below. one_member all second (limit_place l b.limit) k b before i found.0 (and_parts (batches_fit b) (selects_fit b) here).1 (lt_true i 16 below) rules failed))
    (member_fields all second (before + b.concurrency) (next_place l b.limit) (k + 1) bs found.1 more later)
