-- What the settings and the file's table compute to.
use Rattle.std.proofs.Common.{◌≡◌, ℕ, ◌≤◌, ◌++◌, true, List, [], length, Some, Result, Ok, Err, IfOk, codes, sym, ap, ◌∙◌, subst, arith, position, ◌==◌}
use Rattle.std.proofs.lemmas.Bool.Decides.{nat_tests}
use Rattle.std.proofs.lemmas.Fmt.{decimal_digit}
use Rattle.pipe_types.specs.Sound.{IsSound, is_between}
use Rattle.std.specs.declared.alloc.AllocError.{AllocError}
use Rattle.pipe_types.specs.declared.topology.Topology.{Topology}
use Rattle.config_settings.specs.declared.settings.Settings.{Settings}
use Rattle.pipe_types.specs.declared.topology.Rule.TheVariants.{Require}
use Rattle.toml.specs.Data.{table, item, no_items}
use Rattle.config_rule.specs.RuleText.{at_space, rule_of}
use Rattle.config_rule.specs.SourceText.{merged_in, may_be_source}
use Rattle.config_judge.specs.Judge.{faults_in}
use Rattle.config_build.specs.Build.{topology_in}
use Rattle.pipe_config.specs.Fit.{IsFit}
use Rattle.pipe_config.proofs.Built.{built_is_sound}
use Rattle.config_table.specs.declared.format.Section.TheVariants.{Processors, Producer}
use Rattle.config_table.specs.declared.format.FileVersion.TheVariants.{One}
use Rattle.config_table.specs.Walk.{faults_of, table_faults, each_faults}
use Rattle.pipe_config.specs.File.{judged, topology_of}
use Rattle.config_flow.specs.Flow.{flow_settings, flow_topology_of, flow_table, processors_table, producer_table}

-- the first space of the rule's text stands behind its word
place_lemma : (prefix : List ℕ) → position (λ b. b == 32) (codes "require " ++ prefix) ≡ Some 7
place_lemma prefix = grind (arith, nat_tests)

space_lemma : (prefix : List ℕ) → at_space (codes "require " ++ prefix) ≡ Some (codes "require", prefix)
space_lemma prefix = rw (place_lemma prefix)

require_rule : (prefix : List ℕ) → rule_of [] (codes "require " ++ prefix) ≡ Some (Require prefix)
require_rule prefix = rw (space_lemma prefix)

-- the settings give the two stages
settings_give_flow : (source prefix : List ℕ) → topology_in (flow_settings source prefix) ≡ flow_topology_of source prefix
settings_give_flow source prefix = rw (require_rule prefix, decimal_digit 0 (omega arith))

-- they fit the format, and no fault names one of them
settings_fit : (source prefix : List ℕ) → IsFit (flow_settings source prefix)
settings_fit source prefix = record { producers = search; processors = search; supervisor = search; batchers = search; pipeline = search; limits = search; sizes = search; rate = search }

no_fault : (source prefix : List ℕ) → faults_in (flow_settings source prefix) ≡ []
no_fault source prefix = rw (require_rule prefix)

pub sound_flow : (source prefix : List ℕ) → IsSound (flow_topology_of source prefix)
sound_flow source prefix = subst IsSound (settings_give_flow source prefix) (built_is_sound (flow_settings source prefix) (settings_fit source prefix) (no_fault source prefix))

-- what the settings are built into
pub built_flow : (source prefix : List ℕ) (s : Settings) (r : Result Topology AllocError) → s ≡ flow_settings source prefix → IfOk r (λ t. t ≡ topology_in s) → IfOk r (λ t. t ≡ flow_topology_of source prefix)
built_flow source prefix s (Ok t) is built = built ∙ ap topology_in is ∙ settings_give_flow source prefix
built_flow source prefix s (Err e) is built = tt

-- an answer is sound, since its value is
pub sound_answer : (source prefix : List ℕ) (s : Settings) (r : Result Topology AllocError) → s ≡ flow_settings source prefix → IfOk r (λ t. t ≡ topology_in s) → IfOk r IsSound
sound_answer source prefix s (Ok t) is built = subst IsSound (sym (built ∙ ap topology_in is ∙ settings_give_flow source prefix)) (sound_flow source prefix)
sound_answer source prefix s (Err e) is built = tt

-- no place of the file's table is at fault
rule_part : (prefix : List ℕ) → table_faults One Processors (codes "processors") (Some (processors_table prefix)) ≡ []
rule_part prefix = rw (require_rule prefix)

producer_part : (source : List ℕ) → is_between 1 4096 (length source) ≡ true → may_be_source (merged_in source) ≡ true → each_faults One Producer (codes "producer") 0 (item (table (producer_table source)) no_items) ≡ []
producer_part source h named = rw (h, named)

table_has_no_fault : (source prefix : List ℕ) → is_between 1 4096 (length source) ≡ true → may_be_source (merged_in source) ≡ true → faults_of One (flow_table source prefix) ≡ []
table_has_no_fault source prefix h named = rw (rule_part prefix, producer_part source h named)

judged_flow : (source prefix : List ℕ) → judged (flow_settings source prefix) ≡ Ok (flow_topology_of source prefix)
judged_flow source prefix = rw (no_fault source prefix, settings_give_flow source prefix)

pub flow_of_file : (source prefix : List ℕ) → 1 ≤ length source → length source ≤ 4096 → may_be_source (merged_in source) ≡ true → topology_of (flow_table source prefix) ≡ Ok (flow_topology_of source prefix)
flow_of_file source prefix given short named =
    let h : is_between 1 4096 (length source) ≡ true = grind (arith, nat_tests) in
    let e : faults_of One (flow_table source prefix) ≡ [] = table_has_no_fault source prefix h named in
    rw e (judged_flow source prefix)
