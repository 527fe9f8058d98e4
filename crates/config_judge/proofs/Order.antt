-- The numbers of the faults of each part, and so which part's first fault counts.
use Rattle.std.proofs.Common.{◌≡◌, ℕ, ◌+◌, ◌≤◌, List, [], ◌∷◌, ◌++◌, Bool, true, false, Option, Some, None, refl, ap, ◌∙◌, arith}
use Rattle.std.specs.Prelude.{codes, Result, Ok, Err, IfOk, All, nat_lt, is_none, if◌then◌else◌, length}
use Rattle.std.proofs.lemmas.Bool.Decides.{nat_tests}
use Rattle.std.proofs.lemmas.List.Elements.{All-nil, All-cons, All-append, All-head, All-tail}
use Rattle.config_table.specs.declared.fault.ConfigFault.{ConfigFault}
use Rattle.config_table.specs.declared.fault.ConfigFault.TheVariants as fault
use Rattle.config_rule.specs.RuleText.{rule_of}
use Rattle.config_table.specs.Fault.{number_of, sooner, least, under, at_place}
use Rattle.config_table.proofs.Least.{least-append}
use Rattle.config_settings.specs.declared.settings.BatcherSettings.{BatcherSettings}
use Rattle.config_settings.specs.declared.settings.ProcessorSettings.{ProcessorSettings}
use Rattle.config_settings.specs.declared.settings.SupervisorSettings.{SupervisorSettings}
use Rattle.config_settings.specs.declared.settings.Settings.{Settings}
use Rattle.pipe_types.specs.Sound.{is_steps}
use Rattle.config_judge.specs.Judge as judge

-- the fault's number is from low to high
abbrev IsWithin : ℕ → ℕ → ConfigFault → Type 0
IsWithin low high fault = (low ≤ number_of fault) × (number_of fault ≤ high)

abbrev pub AreWithin : ℕ → ℕ → List ConfigFault → Type 0
AreWithin low high faults = All (IsWithin low high) faults

widened : (low high low' high' : ℕ) (faults : List ConfigFault) → low' ≤ low → high ≤ high' → AreWithin low high faults → AreWithin low' high' faults
widened low high low' high' [] below above within = All-nil (IsWithin low' high')
widened low high low' high' (fault ∷ faults) below above within =
    let is = All-head (IsWithin low high) fault faults within in
    All-cons (IsWithin low' high') fault faults (omega (arith, is.0), omega (arith, is.1))
    (widened low high low' high' faults below above (All-tail (IsWithin low high) fault faults within))

one_of_two : (low high : ℕ) (a b f : ConfigFault) → IsWithin low high a → IsWithin low high b → sooner (Some a) (Some b) ≡ Some f → IsWithin low high f
one_of_two low high a b f first second is = grind (arith, nat_tests)

-- the one that counts is within them
least_or : (low high : ℕ) (a f : ConfigFault) (rest : Option ConfigFault) (faults : List ConfigFault) → IsWithin low high a
    → ((g : ConfigFault) → rest ≡ Some g → IsWithin low high g) → sooner (Some a) rest ≡ Some f → IsWithin low high f
least_or low high a f None faults first others is = grind arith
least_or low high a f (Some b) faults first others is = one_of_two low high a b f first (others b refl) is

least_within : (low high : ℕ) (faults : List ConfigFault) (f : ConfigFault) → AreWithin low high faults → least faults ≡ Some f → IsWithin low high f
least_within low high [] f within is = absurd (grind arith)
least_within low high (a ∷ faults) f within is =
    least_or low high a f (least faults) faults (All-head (IsWithin low high) a faults within)
    (λ g at. least_within low high faults g (All-tail (IsWithin low high) a faults within) at) is

not_sooner : (f g : ConfigFault) → number_of f ≤ number_of g → sooner (Some f) (Some g) ≡ Some f
not_sooner f g le = grind (arith, nat_tests)

stays : (f : ConfigFault) (rest : Option ConfigFault) → ((g : ConfigFault) → rest ≡ Some g → number_of f ≤ number_of g) → sooner (Some f) rest ≡ Some f
stays f None later = refl
stays f (Some g) later = not_sooner f g (later g refl)

-- the first fault of a part counts, where those behind have no lower number
pub first_counts : (low high : ℕ) (first rest : List ConfigFault) (f : ConfigFault) → AreWithin 0 low first → AreWithin low high rest
    → Some f ≡ least first → Some f ≡ least (first ++ rest)
first_counts low high first rest f before behind is =
    let at : least first ≡ Some f = cc in
    let e : least (first ++ rest) ≡ sooner (Some f) (least rest) = least-append first rest ∙ ap (λ found. sooner found (least rest)) at in
    let s : sooner (Some f) (least rest) ≡ Some f =
    stays f (least rest) (λ g is_g. omega (arith, (least_within 0 low first f before at).1, (least_within low high rest g behind is_g).0)) in
    cc

-- where a part has none, the first of the rest counts
pub next_counts : (first rest : List ConfigFault) (found : Option ConfigFault) → None ≡ least first → found ≡ least rest → found ≡ least (first ++ rest)
next_counts first rest found none is =
    let e : least (first ++ rest) ≡ sooner (least first) (least rest) = least-append first rest in
    let at : least first ≡ None = cc in
    let s : sooner (least first) (least rest) ≡ least rest = ap (λ a. sooner a (least rest)) at in
    cc

pub next_counts_of : {E : Type 0} (first rest : List ConfigFault) (result : Result (Option ConfigFault) E) → None ≡ least first
    → IfOk result (λ found. found ≡ least rest) → IfOk result (λ found. found ≡ least (first ++ rest))
next_counts_of first rest (Ok found) none is = next_counts first rest found none is
next_counts_of first rest (Err e) none is = tt

some_or_none : (low high : ℕ) (wrong : Bool) (fault : ConfigFault) → IsWithin low high fault → AreWithin low high (judge.fault_if wrong fault)
some_or_none low high true fault within = All-cons (IsWithin low high) fault [] within (All-nil (IsWithin low high))
some_or_none low high false fault within = All-nil (IsWithin low high)

of_names : (path : List ℕ) (before : List (List ℕ)) (i : ℕ) (names : List (List ℕ)) → AreWithin 7 7 (judge.duplicate_names path before i names)
of_names path before i [] = All-nil (IsWithin 7 7)
of_names path before i (name ∷ names) =
    All-append (IsWithin 7 7) (judge.name_faults path i (judge.is_in name before)) _
    (some_or_none 7 7 (judge.is_in name before) _ (omega arith, omega arith)) (of_names path (before ++ name ∷ []) (i + 1) names)

of_routes : (path : List ℕ) (known : List (List ℕ)) (i : ℕ) (texts : List (List ℕ)) → AreWithin 8 8 (judge.astray_routes path known i texts)
of_routes path known i [] = All-nil (IsWithin 8 8)
of_routes path known i (text ∷ texts) =
    All-append (IsWithin 8 8) (judge.route_faults path i (judge.is_astray (length known) (rule_of known text))) _
    (some_or_none 8 8 (judge.is_astray (length known) (rule_of known text)) _ (omega arith, omega arith)) (of_routes path known (i + 1) texts)

of_batchers : (i : ℕ) (batchers : List BatcherSettings) → AreWithin 8 8 (judge.batcher_routes i batchers)
of_batchers i [] = All-nil (IsWithin 8 8)
of_batchers i (b ∷ batchers) = All-append (IsWithin 8 8) (judge.batcher_route i b) _ (of_routes (under (at_place (codes "batcher") i) (codes "steps")) [] 0 b.handler.steps) (of_batchers (i + 1) batchers)

of_processors : (known : List (List ℕ)) (processors : Option ProcessorSettings) → AreWithin 8 8 (judge.processor_routes known processors)
of_processors known None = All-nil (IsWithin 8 8)
of_processors known (Some p) = of_routes (under (codes "processors") (codes "steps")) known 0 p.handler.steps

of_supervisor : (supervisor : Option SupervisorSettings) → AreWithin 8 8 (judge.supervisor_routes supervisor)
of_supervisor None = All-nil (IsWithin 8 8)
of_supervisor (Some s) = of_routes (under (codes "supervisor") (codes "steps")) [] 0 s.handler.steps

of_dispatches : (i : ℕ) (batchers : List BatcherSettings) → AreWithin 11 11 (judge.bad_dispatches i batchers)
of_dispatches i [] = All-nil (IsWithin 11 11)
of_dispatches i (b ∷ batchers) =
    All-append (IsWithin 11 11) (judge.dispatch_faults i b.dispatch) _ (some_or_none 11 11 (is_none b.dispatch) _ (omega arith, omega arith)) (of_dispatches (i + 1) batchers)

of_left_out : (known steps : List (List ℕ)) (i : ℕ) (batchers : List BatcherSettings) → AreWithin 12 12 (judge.left_out known steps i batchers)
of_left_out known steps i [] = All-nil (IsWithin 12 12)
of_left_out known steps i (b ∷ batchers) =
    All-append (IsWithin 12 12) (judge.left_out_faults i (judge.is_left_out known steps i)) _
    (some_or_none 12 12 (judge.is_left_out known steps i) _ (omega arith, omega arith)) (of_left_out known steps (i + 1) batchers)

if_steps : (is_steps : Bool) (faults : List ConfigFault) → AreWithin 12 12 faults → AreWithin 12 12 (if is_steps then faults else [])
if_steps true faults within = within
if_steps false faults within = All-nil (IsWithin 12 12)

of_unreachable : (known : List (List ℕ)) (batchers : List BatcherSettings) (processors : Option ProcessorSettings) → AreWithin 12 12 (judge.unreachable_with known batchers processors)
of_unreachable known batchers None = All-nil (IsWithin 12 12)
of_unreachable known batchers (Some p) = if_steps (is_steps p.handler.kind) _ (of_left_out known p.handler.steps 0 batchers)

-- the faults of each part, and of all behind it
pub names_first : (known : List (List ℕ)) (s : Settings) → AreWithin 0 7 (judge.duplicates_with known s)
names_first known s =
    widened 7 7 0 7 (judge.duplicates_with known s) (omega arith) (omega arith)
    (All-append (IsWithin 7 7) (judge.duplicate_names (codes "batcher") [] 0 known) _ (of_names (codes "batcher") [] 0 known) (of_names (codes "producer") known 0 (judge.producer_names s.producers)))

of_all_routes : (known : List (List ℕ)) (s : Settings) → AreWithin 8 8 (judge.routes_with known s)
of_all_routes known s =
    All-append (IsWithin 8 8) (judge.batcher_routes 0 s.batchers) _ (of_batchers 0 s.batchers)
    (All-append (IsWithin 8 8) (judge.processor_routes known s.processors) _ (of_processors known s.processors) (of_supervisor s.supervisor))

pub routes_next : (known : List (List ℕ)) (s : Settings) → AreWithin 0 8 (judge.routes_with known s)
routes_next known s = widened 8 8 0 8 (judge.routes_with known s) (omega arith) (omega arith) (of_all_routes known s)

of_groups : (s : Settings) → AreWithin 9 10 (judge.group_faults s)
of_groups s =
    All-append (IsWithin 9 10) (judge.fault_if (judge.lacks_stage s) fault.NoStage) _
    (some_or_none 9 10 (judge.lacks_stage s) fault.NoStage (omega arith, omega arith))
    (some_or_none 9 10 (nat_lt 64 (judge.stage_count s)) fault.TooManyStages (omega arith, omega arith))

pub groups_next : (s : Settings) → AreWithin 0 10 (judge.group_faults s)
groups_next s = widened 9 10 0 10 (judge.group_faults s) (omega arith) (omega arith) (of_groups s)

pub dispatches_next : (s : Settings) → AreWithin 0 11 (judge.bad_dispatches 0 s.batchers)
dispatches_next s = widened 11 11 0 11 (judge.bad_dispatches 0 s.batchers) (omega arith) (omega arith) (of_dispatches 0 s.batchers)

pub behind_dispatches : (known : List (List ℕ)) (s : Settings) → AreWithin 11 12 (judge.unreachable_with known s.batchers s.processors)
behind_dispatches known s = widened 12 12 11 12 (judge.unreachable_with known s.batchers s.processors) (omega arith) (omega arith) (of_unreachable known s.batchers s.processors)

pub behind_groups : (known : List (List ℕ)) (s : Settings) → AreWithin 10 12 (judge.bad_dispatches 0 s.batchers ++ judge.unreachable_with known s.batchers s.processors)
behind_groups known s =
    All-append (IsWithin 10 12) (judge.bad_dispatches 0 s.batchers) _
    (widened 11 11 10 12 (judge.bad_dispatches 0 s.batchers) (omega arith) (omega arith) (of_dispatches 0 s.batchers))
    (widened 11 12 10 12 (judge.unreachable_with known s.batchers s.processors) (omega arith) (omega arith) (behind_dispatches known s))

pub behind_routes : (known : List (List ℕ)) (s : Settings)
    → AreWithin 8 12 (judge.group_faults s ++ (judge.bad_dispatches 0 s.batchers ++ judge.unreachable_with known s.batchers s.processors))
behind_routes known s =
    All-append (IsWithin 8 12) (judge.group_faults s) _ (widened 9 10 8 12 (judge.group_faults s) (omega arith) (omega arith) (of_groups s))
    (widened 10 12 8 12 _ (omega arith) (omega arith) (behind_groups known s))

pub behind_names : (known : List (List ℕ)) (s : Settings) → AreWithin 7 12 (judge.later_faults known s)
behind_names known s =
    All-append (IsWithin 7 12) (judge.routes_with known s) _ (widened 8 8 7 12 (judge.routes_with known s) (omega arith) (omega arith) (of_all_routes known s))
    (widened 8 12 7 12 _ (omega arith) (omega arith) (behind_routes known s))
