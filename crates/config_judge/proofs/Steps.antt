-- One more item of a list, behind those whose fault is known.
use Rattle.std.proofs.Common.{◌≡◌, ℕ, ◌+◌, ◌<◌, List, [], ◌∷◌, ◌++◌, length, take, drop, get_or, Option, sym, append_assoc, arith}
use Rattle.std.proofs.lemmas.List.{drop_more, take_more}
use Rattle.config_rule.specs.RuleText.{rule_of}
use Rattle.config_table.specs.declared.fault.ConfigFault.{ConfigFault}
use Rattle.config_table.specs.Fault.{least, sooner}
use Rattle.config_table.proofs.Least.{sooner-part, least-append}
use Rattle.config_settings.specs.declared.settings.BatcherSettings.{BatcherSettings}
use Rattle.config_judge.specs.Judge.{is_in, name_faults, duplicate_names, is_astray, route_faults, astray_routes, batcher_route, batcher_routes, dispatch_faults, bad_dispatches, left_out_faults, is_left_out, left_out}

pub least_pair : (a b : Option ConfigFault) (xs ys : List ConfigFault) → a ≡ least xs → b ≡ least ys → sooner a b ≡ least (xs ++ ys)
least_pair a b xs ys p q = rw (p, q) (sym (least-append xs ys))

pub least_of_three : (a b c : Option ConfigFault) (xs ys zs : List ConfigFault) → a ≡ least xs → b ≡ least ys → c ≡ least zs → sooner a (sooner b c) ≡ least (xs ++ (ys ++ zs))
least_of_three a b c xs ys zs p q r = least_pair a (sooner b c) xs (ys ++ zs) p (least_pair b c ys zs q r)

pub name_step : (path : List ℕ) (before names : List (List ℕ)) (i : ℕ) (name : List ℕ) (found fault : Option ConfigFault)
    → i < length names → name ≡ get_or names i name → fault ≡ least (name_faults path i (is_in name (before ++ take i names)))
    → sooner (sooner found fault) (least (duplicate_names path (before ++ take (i + 1) names) (i + 1) (drop (i + 1) names))) ≡ sooner found (least (duplicate_names path (before ++ take i names) i (drop i names)))
name_step path before names i name found fault below at is =
    rw (drop_more names i name below, take_more names i name below, ← at, is, ← append_assoc before (take i names) (name ∷ []))
    (sooner-part found (name_faults path i (is_in name (before ++ take i names))) (duplicate_names path ((before ++ take i names) ++ name ∷ []) (i + 1) (drop (i + 1) names)))

pub route_step : (path : List ℕ) (known texts : List (List ℕ)) (i : ℕ) (text : List ℕ) (found fault : Option ConfigFault)
    → i < length texts → text ≡ get_or texts i text → fault ≡ least (route_faults path i (is_astray (length known) (rule_of known text)))
    → sooner (sooner found fault) (least (astray_routes path known (i + 1) (drop (i + 1) texts))) ≡ sooner found (least (astray_routes path known i (drop i texts)))
route_step path known texts i text found fault below at is =
    rw (drop_more texts i text below, ← at, is)
    (sooner-part found (route_faults path i (is_astray (length known) (rule_of known text))) (astray_routes path known (i + 1) (drop (i + 1) texts)))

pub batcher_step : (batchers : List BatcherSettings) (i : ℕ) (b : BatcherSettings) (found fault : Option ConfigFault)
    → i < length batchers → b ≡ get_or batchers i b → fault ≡ least (batcher_route i b)
    → sooner (sooner found fault) (least (batcher_routes (i + 1) (drop (i + 1) batchers))) ≡ sooner found (least (batcher_routes i (drop i batchers)))
batcher_step batchers i b found fault below at is =
    rw (drop_more batchers i b below, ← at, is)
    (sooner-part found (batcher_route i b) (batcher_routes (i + 1) (drop (i + 1) batchers)))

pub dispatch_step : (batchers : List BatcherSettings) (i : ℕ) (b : BatcherSettings) (found fault : Option ConfigFault)
    → i < length batchers → b ≡ get_or batchers i b → fault ≡ least (dispatch_faults i b.dispatch)
    → sooner (sooner found fault) (least (bad_dispatches (i + 1) (drop (i + 1) batchers))) ≡ sooner found (least (bad_dispatches i (drop i batchers)))
dispatch_step batchers i b found fault below at is =
    rw (drop_more batchers i b below, ← at, is)
    (sooner-part found (dispatch_faults i b.dispatch) (bad_dispatches (i + 1) (drop (i + 1) batchers)))

left_out_drop : (known steps : List (List ℕ)) (k : ℕ) (batchers : List BatcherSettings) (i : ℕ) → i < length batchers
    → left_out known steps k (drop i batchers) ≡ left_out_faults k (is_left_out known steps k) ++ left_out known steps (k + 1) (drop (i + 1) batchers)
left_out_drop known steps k [] i below = absurd (omega (arith, below))
left_out_drop known steps k (b ∷ batchers) i below = rw (drop_more (b ∷ batchers) i b below)

pub left_out_step : (known steps : List (List ℕ)) (batchers : List BatcherSettings) (i : ℕ) (found fault : Option ConfigFault)
    → i < length batchers → fault ≡ least (left_out_faults i (is_left_out known steps i))
    → sooner (sooner found fault) (least (left_out known steps (i + 1) (drop (i + 1) batchers))) ≡ sooner found (least (left_out known steps i (drop i batchers)))
left_out_step known steps batchers i found fault below is =
    rw (left_out_drop known steps i batchers i below, is)
    (sooner-part found (left_out_faults i (is_left_out known steps i)) (left_out known steps (i + 1) (drop (i + 1) batchers)))
