-- A stage of a sound topology can arm a callback.
use Rattle.std.proofs.Common.{◌≡◌, ℕ, ◌≤◌, List, [], ◌∷◌, true, refl, sym, subst, arith, Some}
use Rattle.std.specs.Prelude.{◌&&◌, not, nat_le, nat_lt}
use Rattle.std.specs.List.{list_all}
use Rattle.std.proofs.lemmas.Bool.{leb-true, eqb-true}
use Rattle.std.proofs.lemmas.Bool.Decides.{nat_tests}
use Rattle.pipe_types.specs.declared.numbers.StageNo.{StageNo}
use Rattle.pipe_types.specs.declared.topology.Rule.{Rule}
use Rattle.pipe_types.specs.declared.topology.Rule.TheVariants.{Pass, Prefix, Require, Route, Key, Flush, Raise, Crash, FailEvery}
use Rattle.pipe_types.specs.declared.topology.Role.{Role}
use Rattle.pipe_types.specs.declared.topology.Role.TheVariants.{Producer, Processor, Supervisor, Batcher, BatchProcessor}
use Rattle.pipe_types.specs.declared.topology.StageSpec.{StageSpec}
use Rattle.pipe_types.specs.declared.topology.Topology.{Topology}
use Rattle.pipe_types.specs.Stages.{spec_of}
use Rattle.pipe_types.specs.Sound.{IsSound, has_fields_of, is_rule, are_rules, is_between, is_empty, is_steps, is_lines, is_reason, no_handler, no_batchers, no_children, no_batching, no_batcher, no_demand, no_buffer, no_edge, no_dispatcher, no_select, is_select_in}
use Rattle.pipe_laws.proofs.Tests.{and_left, and_right}
use Rattle.queue_laws.proofs.Sounds.{sound_fields}
use Rattle.stage_callback.specs.Callbacks.{can_arm, is_countable, routes_below}

-- a rule of the format can be armed
record Arms (n : ℕ) (rule : Rule) : Type 0 where
  pub countable : is_countable rule ≡ true
  pub below : routes_below n rule ≡ true

some_times : (m : ℕ) → is_between 1 1000000 m ≡ true → nat_lt 0 m ≡ true
some_times m e =
    let h : 1 ≤ m = leb-true 1 m (and_left (nat_le 1 m) _ e) in
    grind (arith, nat_tests)

arms : (n : ℕ) (rule : Rule) → is_rule n rule ≡ true → Arms n rule
arms n Pass e = record { countable = refl; below = refl }
arms n (Prefix text) e = record { countable = refl; below = refl }
arms n (Require text) e = record { countable = refl; below = refl }
arms n (Route field k value) e = record { countable = refl; below = and_right (nat_le field 255) _ e }
arms n (Key field) e = record { countable = refl; below = refl }
arms n (Flush text) e = record { countable = refl; below = refl }
arms n (Raise text) e = record { countable = refl; below = refl }
arms n (Crash text) e = record { countable = refl; below = refl }
arms n (FailEvery m) e = record { countable = some_times m e; below = refl }

all_countable : (n : ℕ) (rules : List Rule) → list_all (is_rule n) rules ≡ true → list_all is_countable rules ≡ true
all_countable n [] e = refl
all_countable n (rule ∷ rules) e =
    rw (arms n rule (and_left (is_rule n rule) _ e)).countable (all_countable n rules (and_right (is_rule n rule) _ e))

all_below : (n : ℕ) (rules : List Rule) → list_all (is_rule n) rules ≡ true → list_all (routes_below n) rules ≡ true
all_below n [] e = refl
all_below n (rule ∷ rules) e =
    rw (arms n rule (and_left (is_rule n rule) _ e)).below (all_below n rules (and_right (is_rule n rule) _ e))

rules_arm : (s : StageSpec) → list_all (is_rule s.batchers) s.rules ≡ true → can_arm s ≡ true
rules_arm s e = rw (all_countable s.batchers s.rules e) (all_below s.batchers s.rules e)

none_are_rules : (n : ℕ) (rules : List Rule) → is_empty rules ≡ true → list_all (is_rule n) rules ≡ true
none_are_rules n [] e = refl
none_are_rules n (rule ∷ rules) e = cc

no_rules_arm : (s : StageSpec) → no_handler s ≡ true → can_arm s ≡ true
no_rules_arm s e = rules_arm s (none_are_rules s.batchers s.rules (and_left (is_empty s.rules) _ (and_right (is_steps s.kind) _ e)))

-- of a stage that has no batchers the rules name none
ruled_by : (s : StageSpec) → are_rules 0 s.rules ≡ true → no_batchers s ≡ true → can_arm s ≡ true
ruled_by s e none =
    let no : s.batchers ≡ 0 = eqb-true s.batchers 0 none in
    rules_arm s (subst (λ n. list_all (is_rule n) s.rules ≡ true) (sym no) (and_right _ (list_all (is_rule 0) s.rules) e))

arms_as : (stages : List StageSpec) (r : Role) (s : StageSpec) → has_fields_of stages r s ≡ true → can_arm s ≡ true
arms_as stages Producer s e =
    no_rules_arm s (and_left (no_handler s) _ (and_left (no_handler s && no_batching s) _ (and_right (no_batcher s && no_demand s) _ (and_right _ ((no_batcher s && no_demand s) && ((no_handler s && no_batching s) && ((no_children s && no_select s) && no_batchers s))) e))))
arms_as stages Processor s e =
    let handler = and_right _ (not (is_lines s.kind) && (are_rules s.batchers s.rules && is_reason s.failed)) (and_right _ _ (and_left _ ((no_batcher s && no_buffer s) && ((no_edge s && no_batching s) && (no_children s && no_select s))) e)) in
    rules_arm s (and_right _ (list_all (is_rule s.batchers) s.rules) (and_left (are_rules s.batchers s.rules) _ (and_right (not (is_lines s.kind)) _ handler)))
arms_as stages Supervisor s e =
    let rest : ((no_batcher s && no_dispatcher s) && ((no_buffer s && no_edge s) && ((no_batching s && no_select s) && no_batchers s))) ≡ true = and_right _ ((no_batcher s && no_dispatcher s) && ((no_buffer s && no_edge s) && ((no_batching s && no_select s) && no_batchers s))) e in
    let handler = and_right _ (not (is_lines s.kind) && (are_rules 0 s.rules && is_reason s.failed)) (and_left _ ((no_batcher s && no_dispatcher s) && ((no_buffer s && no_edge s) && ((no_batching s && no_select s) && no_batchers s))) e) in
    ruled_by s (and_left (are_rules 0 s.rules) _ (and_right (not (is_lines s.kind)) _ handler))
    (and_right (no_batching s && no_select s) (no_batchers s) (and_right (no_buffer s && no_edge s) _ (and_right (no_batcher s && no_dispatcher s) _ rest)))
arms_as stages Batcher s e =
    let rest : ((no_buffer s && no_handler s) && ((no_edge s && (no_children s && no_select s)) && no_batchers s)) ≡ true = and_right _ ((no_buffer s && no_handler s) && ((no_edge s && (no_children s && no_select s)) && no_batchers s)) e in
    no_rules_arm s (and_right (no_buffer s) (no_handler s) (and_left (no_buffer s && no_handler s) _ rest))
arms_as stages BatchProcessor s e =
    let rest : ((no_dispatcher s && no_buffer s) && ((no_batching s && no_children s) && no_batchers s)) ≡ true = and_right _ ((no_dispatcher s && no_buffer s) && ((no_batching s && no_children s) && no_batchers s)) e in
    let handler = and_right _ ((are_rules 0 s.rules && is_select_in stages s) && is_reason s.failed) (and_left _ ((no_dispatcher s && no_buffer s) && ((no_batching s && no_children s) && no_batchers s)) e) in
    ruled_by s (and_left (are_rules 0 s.rules) _ (and_left (are_rules 0 s.rules && is_select_in stages s) _ handler)) (and_right (no_batching s && no_children s) (no_batchers s) (and_right (no_dispatcher s && no_buffer s) _ rest))

pub armable : (topology : Topology) (s : StageNo) (spec : StageSpec) → IsSound topology → spec_of topology s ≡ Some spec → can_arm spec ≡ true
armable topology s spec sound e = arms_as topology.stages spec.role spec (sound_fields topology s spec sound e)
