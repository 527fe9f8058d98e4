-- Soundness is blind to the restart limits of the stages, but for that these are there.
use Rattle.std.proofs.Common.{◌≡◌, ℕ, ◌+◌, ◌≤◌, Bool, true, false, ◌&&◌, ◌||◌, not, ◌==◌, cond, List, [], ◌∷◌, ◌++◌, length, map, filter, find, Option, None, Some, refl, ap, sym, ◌∙◌, subst}
use Rattle.std.proofs.lemmas.List.{length-map, map-append}
use Rattle.std.proofs.lemmas.Bool.{and_parts}
use Rattle.std.specs.Prelude.{IsTrue, bytes_eq, nat_le, nat_lt, option_map, is_some}
use Rattle.std.specs.List.{list_any, list_all}
use Rattle.pipe_types.specs.declared.topology.Topology.{Topology}
use Rattle.pipe_types.specs.declared.topology.StageSpec.{StageSpec}
use Rattle.pipe_types.specs.declared.topology.RestartLimit.{RestartLimit}
use Rattle.pipe_types.specs.declared.topology.Role.{Role}
use Rattle.pipe_types.specs.declared.topology.Role.TheVariants.{Producer, Processor, Supervisor, Batcher, BatchProcessor}
use Rattle.pipe_types.specs.declared.topology.Dispatch.{Dispatch}
use Rattle.pipe_types.specs.declared.topology.Dispatch.TheVariants.{Demand, Broadcast, Partition}
use Rattle.pipe_types.specs.Sound.{IsSound, is_producer, is_processor, is_batcher, is_batch_processor, producers, processors, batchers, batch_processors, is_next, may_follow, may_begin, may_go_on, is_ordered, is_member_of, batcher_at, is_named_as, is_named, are_distinct, by_demand, by_partition, by_broadcast, is_broadcaster, has_fields_of, has_fields, may_send_to, is_reached, are_limits, are_settings, is_control, is_rate, is_between}
use Rattle.core_checks.specs.Limits.{bare}

-- ---- lists

both : {a b : Bool} → a ≡ true → b ≡ true → (a && b) ≡ true
both {a} {b} p q = rw (p, q) refl

kept_by : (b : Bool) (x : StageSpec) (ys xs : List StageSpec) → ys ≡ map bare xs → cond b (bare x ∷ ys) ys ≡ map bare (cond b (x ∷ xs) xs)
kept_by true x ys xs e = ap (λ l. bare x ∷ l) e
kept_by false x ys xs e = e

-- what a test keeps that is blind to the limit
kept : (p : StageSpec → Bool) → ((s : StageSpec) → p (bare s) ≡ p s) → (xs : List StageSpec) → filter p (map bare xs) ≡ map bare (filter p xs)
kept p h [] = refl
kept p h (x ∷ xs) =
    ap (λ b. cond b (bare x ∷ filter p (map bare xs)) (filter p (map bare xs))) (h x) ∙ kept_by (p x) x (filter p (map bare xs)) (filter p xs) (kept p h xs)

many : (p : StageSpec → Bool) → ((s : StageSpec) → p (bare s) ≡ p s) → (xs : List StageSpec) → length (filter p (map bare xs)) ≡ length (filter p xs)
many p h xs = ap length (kept p h xs) ∙ length-map (filter p xs) bare

found_by : (b : Bool) (x : StageSpec) (o q : Option StageSpec) → o ≡ option_map bare q → cond b (Some (bare x)) o ≡ option_map bare (cond b (Some x) q)
found_by true x o q e = refl
found_by false x o q e = e

found : (p : StageSpec → Bool) → ((s : StageSpec) → p (bare s) ≡ p s) → (xs : List StageSpec) → find p (map bare xs) ≡ option_map bare (find p xs)
found p h [] = refl
found p h (x ∷ xs) =
    ap (λ b. cond b (Some (bare x)) (find p (map bare xs))) (h x) ∙ found_by (p x) x (find p (map bare xs)) (find p xs) (found p h xs)

all_same : (p q : StageSpec → Bool) → ((s : StageSpec) → p (bare s) ≡ q s) → (xs : List StageSpec) → list_all p (map bare xs) ≡ list_all q xs
all_same p q h [] = refl
all_same p q h (x ∷ xs) = ap (λ b. b && list_all p (map bare xs)) (h x) ∙ ap (λ b. q x && b) (all_same p q h xs)

any_same : (p q : StageSpec → Bool) → ((s : StageSpec) → p (bare s) ≡ q s) → (xs : List StageSpec) → list_any p (map bare xs) ≡ list_any q xs
any_same p q h [] = refl
any_same p q h (x ∷ xs) = ap (λ b. b || list_any p (map bare xs)) (h x) ∙ ap (λ b. q x || b) (any_same p q h xs)

-- ---- the order

next_same : (r q : Role) (a b : StageSpec) → is_next r q (bare a) (bare b) ≡ is_next r q a b
next_same Producer Producer a b = refl
next_same Producer Processor a b = refl
next_same Producer Supervisor a b = refl
next_same Producer Batcher a b = refl
next_same Producer BatchProcessor a b = refl
next_same Processor Producer a b = refl
next_same Processor Processor a b = refl
next_same Processor Supervisor a b = refl
next_same Processor Batcher a b = refl
next_same Processor BatchProcessor a b = refl
next_same Supervisor Producer a b = refl
next_same Supervisor Processor a b = refl
next_same Supervisor Supervisor a b = refl
next_same Supervisor Batcher a b = refl
next_same Supervisor BatchProcessor a b = refl
next_same Batcher Producer a b = refl
next_same Batcher Processor a b = refl
next_same Batcher Supervisor a b = refl
next_same Batcher Batcher a b = refl
next_same Batcher BatchProcessor a b = refl
next_same BatchProcessor Producer a b = refl
next_same BatchProcessor Processor a b = refl
next_same BatchProcessor Supervisor a b = refl
next_same BatchProcessor Batcher a b = refl
next_same BatchProcessor BatchProcessor a b = refl

follow_same : (a b : StageSpec) → may_follow (bare a) (bare b) ≡ may_follow a b
follow_same a b = ap (λ n. b.no.0 == a.no.0 + 1 && n) (next_same a.role b.role a b)

goes_on : (n : ℕ) (s : StageSpec) (xs : List StageSpec) → may_go_on n (bare s) (map bare xs) ≡ may_go_on n s xs
goes_on n s [] = refl
goes_on n s (t ∷ xs) = ap (λ f. f && may_go_on n (bare t) (map bare xs)) (follow_same s t) ∙ ap (λ b. may_follow s t && b) (goes_on n t xs)

ordered_same : (xs : List StageSpec) → is_ordered (map bare xs) ≡ is_ordered xs
ordered_same [] = refl
ordered_same (s ∷ xs) =
    ap (λ n. may_begin s && may_go_on n (bare s) (map bare xs)) (many (λ t. is_batcher t.role) (λ t. refl) (s ∷ xs))
    ∙ ap (λ b. may_begin s && b) (goes_on (length (batchers (s ∷ xs))) s xs)

-- ---- the names

batcher_same : (xs : List StageSpec) (k : ℕ) → batcher_at (map bare xs) k ≡ option_map bare (batcher_at xs k)
batcher_same xs k = found (λ s. is_batcher s.role && s.index == k) (λ s. refl) xs

member_same : (o : Option StageSpec) (s : StageSpec) → is_member_of (option_map bare o) (bare s) ≡ is_member_of o s
member_same None s = refl
member_same (Some b) s = refl

named_as : (xs : List StageSpec) (r : Role) (s : StageSpec) → is_named_as (map bare xs) r (bare s) ≡ is_named_as xs r s
named_as xs BatchProcessor s = ap (λ o. is_member_of o (bare s)) (batcher_same xs s.batcher) ∙ member_same (batcher_at xs s.batcher) s
named_as xs _ s = refl

named_same : (xs : List StageSpec) → list_all (is_named (map bare xs)) (map bare xs) ≡ list_all (is_named xs) xs
named_same xs = all_same (is_named (map bare xs)) (is_named xs) (λ s. named_as xs s.role s) xs

differ_same : (xs : List StageSpec) → are_distinct (map bare xs) ≡ are_distinct xs
differ_same [] = refl
differ_same (s ∷ xs) =
    ap (λ b. not b && are_distinct (map bare xs)) (any_same (λ t. bytes_eq s.name t.name) (λ t. bytes_eq s.name t.name) (λ t. refl) xs)
    ∙ ap (λ b. not (list_any (λ t. bytes_eq s.name t.name) xs) && b) (differ_same xs)

distinct_same : (xs : List StageSpec) → are_distinct (producers (map bare xs) ++ batchers (map bare xs)) ≡ are_distinct (producers xs ++ batchers xs)
distinct_same xs =
    ap (λ l. are_distinct (l ++ batchers (map bare xs))) (kept (λ s. is_producer s.role) (λ s. refl) xs)
    ∙ ap (λ l. are_distinct (map bare (producers xs) ++ l)) (kept (λ s. is_batcher s.role) (λ s. refl) xs)
    ∙ ap are_distinct (sym (map-append bare (producers xs) (batchers xs)))
    ∙ differ_same (producers xs ++ batchers xs)

-- ---- the fields

demand_same : (s : StageSpec) (d : Dispatch) → by_demand (bare s) d ≡ by_demand s d
demand_same s Demand = refl
demand_same s Broadcast = refl
demand_same s Partition = refl

broadcast_same : (s : StageSpec) (d : Dispatch) → by_broadcast (bare s) d ≡ by_broadcast s d
broadcast_same s Demand = refl
broadcast_same s Broadcast = refl
broadcast_same s Partition = refl

partition_same : (n : ℕ) (s : StageSpec) (d : Dispatch) → by_partition n (bare s) d ≡ by_partition n s d
partition_same n s Demand = refl
partition_same n s Broadcast = refl
partition_same n s Partition = refl

broadcaster_same : (o : Option StageSpec) → is_broadcaster (option_map bare o) ≡ is_broadcaster o
broadcaster_same None = refl
broadcaster_same (Some b) = broadcast_same b b.dispatch

fields_same : (xs : List StageSpec) (r : Role) (s : StageSpec) → has_fields_of (map bare xs) r (bare s) ≡ has_fields_of xs r s
fields_same xs Producer s =
    rw (many (λ t. is_processor t.role) (λ t. refl) xs, demand_same s s.dispatch, partition_same (length (processors xs)) s s.dispatch) refl
fields_same xs Processor s =
    rw (many (λ t. is_batcher t.role) (λ t. refl) xs, demand_same s s.dispatch, partition_same s.batchers s s.dispatch) refl
fields_same xs Supervisor s = rw (demand_same s s.dispatch) refl
fields_same xs Batcher s =
    rw (many (λ t. is_batch_processor t.role && t.batcher == s.index) (λ t. refl) xs, demand_same s s.dispatch, broadcast_same s s.dispatch, partition_same (length (batch_processors s.index xs)) s s.dispatch) refl
fields_same xs BatchProcessor s = rw (batcher_same xs s.batcher, broadcaster_same (batcher_at xs s.batcher), demand_same s s.dispatch) refl

in_range_same : (xs : List StageSpec) → list_all (has_fields (map bare xs)) (map bare xs) ≡ list_all (has_fields xs) xs
in_range_same xs = all_same (has_fields (map bare xs)) (has_fields xs) (λ s. fields_same xs s.role s) xs

-- ---- the batchers that messages reach

reached_by : (xs : List StageSpec) (b : StageSpec) → is_reached (map bare xs) (bare b) ≡ is_reached xs b
reached_by xs b =
    ap (λ l. b.index == 0 || list_any (may_send_to b.index) l) (kept (λ s. is_processor s.role) (λ s. refl) xs)
    ∙ ap (λ f. b.index == 0 || f) (any_same (may_send_to b.index) (may_send_to b.index) (λ s. refl) (processors xs))

reached_same : (xs : List StageSpec) → list_all (is_reached (map bare xs)) (batchers (map bare xs)) ≡ list_all (is_reached xs) (batchers xs)
reached_same xs =
    ap (λ l. list_all (is_reached (map bare xs)) l) (kept (λ s. is_batcher s.role) (λ s. refl) xs)
    ∙ all_same (is_reached (map bare xs)) (is_reached xs) (λ b. reached_by xs b) (batchers xs)

-- ---- the whole

-- what is blind to the limits is the same of stages that differ in these alone
alike : {A : Type 0} (f : List StageSpec → A) → ((xs : List StageSpec) → f (map bare xs) ≡ f xs) → (ys xs : List StageSpec) → map bare ys ≡ map bare xs → f ys ≡ f xs
alike f h ys xs e = sym (h ys) ∙ ap f e ∙ h xs

-- with other limits a sound topology is sound
pub sound_with : (t : Topology) (ys : List StageSpec) (ls : List RestartLimit) → IsSound t → map bare ys ≡ map bare t.stages → are_limits ls ys ≡ true → IsSound (record t { stages = ys; limits = ls })
sound_with t ys ls x e limits =
    let (_, others) = and_parts (are_limits t.limits t.stages) (settings_of (length (producers t.stages)) t) x.settings in
    record {
      few = subst (λ (n : ℕ). n ≤ 64) (sym (alike length (λ xs. length-map xs bare) ys t.stages e)) x.few;
      ordered = alike is_ordered ordered_same ys t.stages e ∙ x.ordered;
      named = alike (λ xs. list_all (is_named xs) xs) named_same ys t.stages e ∙ x.named;
      distinct = alike (λ xs. are_distinct (producers xs ++ batchers xs)) distinct_same ys t.stages e ∙ x.distinct;
      in_range = alike (λ xs. list_all (has_fields xs) xs) in_range_same ys t.stages e ∙ x.in_range;
      reached = alike (λ xs. list_all (is_reached xs) (batchers xs)) reached_same ys t.stages e ∙ x.reached;
      settings = both limits (ap (λ n. settings_of n t) (alike (λ xs. length (producers xs)) (many (λ s. is_producer s.role) (λ s. refl)) ys t.stages e) ∙ others);
    }
  where
    settings_of : ℕ → Topology → Bool
    settings_of n t = (nat_le t.idle_limit 1000000 && is_control t.control) && ((is_between 1 2000000 t.record_limit && is_between 1 536870912 t.byte_limit) && is_rate n t.rate)
