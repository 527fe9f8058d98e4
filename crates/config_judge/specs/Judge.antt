-- What is wrong with a topology file whose values stand in their ranges: names, routes, groups, dispatchers.
use Rattle.std.specs.Prelude.{codes, ℕ, ◌+◌, ◌==◌, Bool, false, not, ◌&&◌, ◌||◌, nat_le, nat_lt, List, [], ◌∷◌, ◌++◌, length, map, Option, Some, None, is_some, is_none, if◌then◌else◌, bytes_eq}
use Rattle.std.specs.List.{list_any}
use Rattle.pipe_types.specs.declared.topology.Rule.{Rule}
use Rattle.pipe_types.specs.declared.topology.Rule.TheVariants.{Route}
use Rattle.pipe_types.specs.declared.topology.Dispatch.{Dispatch}
use Rattle.pipe_types.specs.Sound.{is_steps, names_batcher}
use Rattle.config_rule.specs.RuleText.{rule_of}
use Rattle.config_table.specs.declared.fault.ConfigFault.{ConfigFault}
use Rattle.config_table.specs.declared.fault.ConfigFault.TheVariants as fault
use Rattle.config_table.specs.Fault.{under, at_place}
use Rattle.config_settings.specs.declared.settings.ProducerSettings.{ProducerSettings}
use Rattle.config_settings.specs.declared.settings.ProcessorSettings.{ProcessorSettings}
use Rattle.config_settings.specs.declared.settings.SupervisorSettings.{SupervisorSettings}
use Rattle.config_settings.specs.declared.settings.BatcherSettings.{BatcherSettings}
use Rattle.config_settings.specs.declared.settings.Settings.{Settings}

abbrev pub batcher_names : List BatcherSettings → List (List ℕ)
batcher_names = map (λ b. b.name)

abbrev pub producer_names : List ProducerSettings → List (List ℕ)
producer_names = map (λ p. p.name)

-- a fault at a place where a test holds
abbrev pub fault_if : Bool → ConfigFault → List ConfigFault
fault_if wrong fault = if wrong then fault ∷ [] else []

-- a name that stood before
abbrev pub is_in : List ℕ → List (List ℕ) → Bool
is_in name names = list_any (λ known. bytes_eq known name) names

abbrev pub name_faults : List ℕ → ℕ → Bool → List ConfigFault
name_faults path i stood_before = fault_if stood_before (fault.DuplicateName (under (at_place path i) (codes "name")))

abbrev pub duplicate_names : List ℕ → (before : List (List ℕ)) → ℕ → List (List ℕ) → List ConfigFault
duplicate_names path before i [] = []
duplicate_names path before i (name ∷ names) =
    name_faults path i (is_in name before) ++ duplicate_names path (before ++ name ∷ []) (i + 1) names

-- a route that names no batcher
abbrev pub is_astray : ℕ → Option Rule → Bool
is_astray n None = false
is_astray n (Some (Route field k value)) = nat_le n k
is_astray n (Some _) = false

abbrev pub route_faults : List ℕ → ℕ → Bool → List ConfigFault
route_faults path i astray = fault_if astray (fault.UnknownBatcher (at_place path i))

abbrev pub astray_routes : List ℕ → (known : List (List ℕ)) → ℕ → List (List ℕ) → List ConfigFault
astray_routes path known i [] = []
astray_routes path known i (text ∷ texts) =
    route_faults path i (is_astray (length known) (rule_of known text)) ++ astray_routes path known (i + 1) texts

abbrev pub batcher_route : ℕ → BatcherSettings → List ConfigFault
batcher_route i b = astray_routes (under (at_place (codes "batcher") i) (codes "steps")) [] 0 b.handler.steps

abbrev pub batcher_routes : ℕ → List BatcherSettings → List ConfigFault
batcher_routes i [] = []
batcher_routes i (b ∷ batchers) = batcher_route i b ++ batcher_routes (i + 1) batchers

abbrev pub processor_routes : (known : List (List ℕ)) → Option ProcessorSettings → List ConfigFault
processor_routes known None = []
processor_routes known (Some p) = astray_routes (under (codes "processors") (codes "steps")) known 0 p.handler.steps

abbrev pub supervisor_routes : Option SupervisorSettings → List ConfigFault
supervisor_routes None = []
supervisor_routes (Some s) = astray_routes (under (codes "supervisor") (codes "steps")) [] 0 s.handler.steps

-- no producer, neither processors nor a supervisor, both, or a supervisor beside a batcher
abbrev pub lacks_stage : Settings → Bool
lacks_stage s = length s.producers == 0 || ((is_none s.processors && is_none s.supervisor) || (is_some s.supervisor && (is_some s.processors || not (length s.batchers == 0))))

-- how many stages there are
abbrev pub processor_count : Option ProcessorSettings → ℕ
processor_count None = 0
processor_count (Some p) = p.concurrency

abbrev pub supervisor_count : Option SupervisorSettings → ℕ
supervisor_count None = 0
supervisor_count (Some s) = 1

abbrev pub batch_processor_count : List BatcherSettings → ℕ
batch_processor_count [] = 0
batch_processor_count (b ∷ batchers) = b.concurrency + batch_processor_count batchers

abbrev pub stage_count : Settings → ℕ
stage_count s = length s.producers + processor_count s.processors + supervisor_count s.supervisor + length s.batchers + batch_processor_count s.batchers

-- a dispatcher of another word
abbrev pub dispatch_faults : ℕ → Option Dispatch → List ConfigFault
dispatch_faults i dispatch = fault_if (is_none dispatch) (fault.BadDispatch (under (at_place (codes "batcher") i) (codes "dispatch")))

abbrev pub bad_dispatches : ℕ → List BatcherSettings → List ConfigFault
bad_dispatches i [] = []
bad_dispatches i (b ∷ batchers) = dispatch_faults i b.dispatch ++ bad_dispatches (i + 1) batchers

-- a batcher other than the first that no route names
abbrev pub leads_to : ℕ → Option Rule → Bool
leads_to k None = false
leads_to k (Some rule) = names_batcher k rule

abbrev pub is_left_out : (known : List (List ℕ)) → (steps : List (List ℕ)) → ℕ → Bool
is_left_out known steps k = not (k == 0) && not (list_any (λ text. leads_to k (rule_of known text)) steps)

abbrev pub left_out_faults : ℕ → Bool → List ConfigFault
left_out_faults i is_out = fault_if is_out (fault.Unreachable (at_place (codes "batcher") i))

abbrev pub left_out : (known steps : List (List ℕ)) → ℕ → List BatcherSettings → List ConfigFault
left_out known steps i [] = []
left_out known steps i (b ∷ batchers) = left_out_faults i (is_left_out known steps i) ++ left_out known steps (i + 1) batchers

-- where the processors are of the kind of steps
abbrev pub unreachable_with : (known : List (List ℕ)) → List BatcherSettings → Option ProcessorSettings → List ConfigFault
unreachable_with known batchers None = []
unreachable_with known batchers (Some p) = if is_steps p.handler.kind then left_out known p.handler.steps 0 batchers else []

-- ---- the whole, where these are the batchers' names

abbrev pub duplicates_with : (known : List (List ℕ)) → Settings → List ConfigFault
duplicates_with known s = duplicate_names (codes "batcher") [] 0 known ++ duplicate_names (codes "producer") known 0 (producer_names s.producers)

abbrev pub routes_with : (known : List (List ℕ)) → Settings → List ConfigFault
routes_with known s = batcher_routes 0 s.batchers ++ (processor_routes known s.processors ++ supervisor_routes s.supervisor)

abbrev pub group_faults : Settings → List ConfigFault
group_faults s = fault_if (lacks_stage s) fault.NoStage ++ fault_if (nat_lt 64 (stage_count s)) fault.TooManyStages

-- the faults behind those of names
abbrev pub later_faults : (known : List (List ℕ)) → Settings → List ConfigFault
later_faults known s = routes_with known s ++ (group_faults s ++ (bad_dispatches 0 s.batchers ++ unreachable_with known s.batchers s.processors))

abbrev pub faults_with : (known : List (List ℕ)) → Settings → List ConfigFault
faults_with known s = duplicates_with known s ++ later_faults known s

-- the faults of the settings, those of one number in the order of the walk
abbrev pub faults_in : Settings → List ConfigFault
faults_in s = faults_with (batcher_names s.batchers) s
