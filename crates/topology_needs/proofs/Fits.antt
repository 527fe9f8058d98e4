-- What a sound topology needs and what it begins with are small numbers.
use Rattle.std.proofs.Common.{◌≡◌, ◌<◌, ◌≤◌, ◌^◌, true, ◌&&◌, not, nat_lt, nat_le, List, get_or, arith, lit≤}
use Rattle.std.specs.List.{All}
use Rattle.std.proofs.lemmas.Bool.{and_parts, leb-true}
use Rattle.std.proofs.lemmas.List.Elements.{All-weaker, All-filter}
use Rattle.std.proofs.lemmas.List.Sums.{AllPass-from_list_all, sum_by-le, count_by-le-length, length-filter}
use Rattle.pipe_types.specs.declared.topology.Topology.{Topology}
use Rattle.pipe_types.specs.declared.topology.StageSpec.{StageSpec}
use Rattle.pipe_types.specs.declared.topology.Role.{Role}
use Rattle.pipe_types.specs.declared.topology.Role.TheVariants.{Supervisor}
use Rattle.pipe_types.specs.declared.topology.Kind.{Kind}
use Rattle.pipe_types.specs.Sound.{IsSound, has_fields, has_fields_of, is_supervisor_in, asks_up_to, is_lines, are_rules, is_reason, no_batcher, no_dispatcher, no_buffer, no_edge, no_batching, no_select, no_batchers}
use Rattle.pipe_types.specs.Stages.{spec_feeds}
use Rattle.stage_job.specs.Boxes.{same_kind}
use Rattle.topology_needs.specs.Needs.{posts_in, posts_of, of_kind, need_of, consumers_of, subscriptions_of}

children_few : (s : StageSpec) → is_supervisor_in s ≡ true → s.max ≤ 16
children_few s h =
    let own = (and_parts (asks_up_to 16 s && (not (is_lines s.kind) && (are_rules 0 s.rules && is_reason s.failed))) ((no_batcher s && no_dispatcher s) && ((no_buffer s && no_edge s) && ((no_batching s && no_select s) && no_batchers s))) h).0 in
    let asks = (and_parts (asks_up_to 16 s) (not (is_lines s.kind) && (are_rules 0 s.rules && is_reason s.failed)) own).0 in
    leb-true s.max 16 (and_parts (nat_lt s.min s.max) (nat_le s.max 16) asks).1

posts_few : (stages : List StageSpec) (r : Role) (s : StageSpec) → has_fields_of stages r s ≡ true → posts_in r s.max ≤ 16
posts_few stages Supervisor s h = children_few s h
posts_few stages _ s h = lit≤ tt

pub need_fits : (topology : Topology) (kind : Kind) → IsSound topology → need_of topology kind < 2 ^ 64
need_fits topology kind sound =
    let stages = topology.stages in
    let each : All (λ s. posts_of s ≤ 16) stages =
    All-weaker (λ s. has_fields stages s ≡ true) (λ s. posts_of s ≤ 16) (λ s h. posts_few stages s.role s h) stages (AllPass-from_list_all (has_fields stages) stages sound.in_range) in
    let these : All (λ s. posts_of s ≤ 16) (of_kind kind stages) = All-filter (λ s. same_kind kind s.kind) (λ s. posts_of s ≤ 16) stages each in
    let most = sum_by-le posts_of 16 (of_kind kind stages) these in
    let kept = count_by-le-length (λ (s : StageSpec). same_kind kind s.kind) stages in
    let size = length-filter (λ (s : StageSpec). same_kind kind s.kind) stages in
    let few = sound.few in
    omega arith

pub subscriptions_fit : (topology : Topology) → IsSound topology → subscriptions_of topology < 2 ^ 64
subscriptions_fit topology sound =
    let stages = topology.stages in
    let few = sound.few in
    let each : All (λ p. consumers_of stages p ≤ 64) stages =
    λ k d below. omega (arith, count_by-le-length (spec_feeds (get_or stages k d)) stages) in
    let most = sum_by-le (consumers_of stages) 64 stages each in
    omega arith
