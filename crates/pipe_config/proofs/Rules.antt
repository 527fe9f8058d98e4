-- The rules of texts that the walk and the judge let pass.
use Rattle.std.proofs.Common.{◌≡◌, ℕ, suc, ◌+◌, ◌≤◌, Bool, true, false, ◌&&◌, ◌||◌, cond, nat_le, nat_lt, codes, List, [], ◌∷◌, length, Option, Some, None, option_map, option_and_then, refl, ap, ◌∙◌, arith}
use Rattle.std.proofs.lemmas.Bool.{and_parts, le-leb, leb-true}
use Rattle.std.proofs.lemmas.Bool.Decides.{nat_tests}
use Rattle.std.specs.Prelude.{bytes_eq}
use Rattle.std.specs.List.{list_all, list_any, cons_option}
use Rattle.pipe_types.specs.declared.topology.Rule.{Rule}
use Rattle.pipe_types.specs.declared.topology.Rule.TheVariants as rule
use Rattle.pipe_types.specs.Sound.{is_rule, are_rules, is_between, names_batcher}
use Rattle.config_rule.specs.RuleText.{rule_of, rule_from, route_by, route_to, decimal_in, is_decimal, digits_number, at_space}
use Rattle.config_judge.specs.Judge.{is_astray, astray_routes, leads_to}
use Rattle.config_build.specs.Build.{rules_of}
use Rattle.pipe_config.proofs.Named.{both}
use Rattle.pipe_config.proofs.Distinct.{no_fault}

-- the numbers of a rule but a batcher's
abbrev is_formed : Rule → Bool
is_formed (rule.Route field k value) = nat_le field 255
is_formed (rule.Key field) = nat_le field 255
is_formed (rule.FailEvery n) = is_between 1 1000000 n
is_formed _ = true

abbrev formed : Option Rule → Bool
formed None = true
formed (Some r) = is_formed r

formed_if : (b : Bool) (x y : Option Rule) → formed x ≡ true → formed y ≡ true → formed (cond b x y) ≡ true
formed_if true x y p q = p
formed_if false x y p q = q

within_255 : (text : List ℕ) → (is_decimal text && is_between 0 255 (digits_number text)) ≡ true → nat_le (digits_number text) 255 ≡ true
within_255 text e = (and_parts (nat_le 0 (digits_number text)) (nat_le (digits_number text) 255) (and_parts (is_decimal text) (is_between 0 255 (digits_number text)) e).1).1

formed_key : (text : List ℕ) (b : Bool) → (is_decimal text && is_between 0 255 (digits_number text)) ≡ b → formed (option_map rule.Key (cond b (Some (digits_number text)) None)) ≡ true
formed_key text true e = within_255 text e
formed_key text false e = refl

formed_count : (text : List ℕ) (b : Bool) → (is_decimal text && is_between 1 1000000 (digits_number text)) ≡ b → formed (option_map rule.FailEvery (cond b (Some (digits_number text)) None)) ≡ true
formed_count text true e = (and_parts (is_decimal text) (is_between 1 1000000 (digits_number text)) e).1
formed_count text false e = refl

formed_route_to : (known : List (List ℕ)) (field : ℕ) (o : Option (List ℕ × List ℕ)) → nat_le field 255 ≡ true → formed (route_to known field o) ≡ true
formed_route_to known field None e = refl
formed_route_to known field (Some p) e = e

formed_field : (known : List (List ℕ)) (text : List ℕ) (o : Option (List ℕ × List ℕ)) (b : Bool) → (is_decimal text && is_between 0 255 (digits_number text)) ≡ b
    → formed (option_and_then (λ field. route_to known field o) (cond b (Some (digits_number text)) None)) ≡ true
formed_field known text o true e = formed_route_to known (digits_number text) o (within_255 text e)
formed_field known text o false e = refl

formed_route : (known : List (List ℕ)) (o : Option (List ℕ × List ℕ)) → formed (route_by known o) ≡ true
formed_route known None = refl
formed_route known (Some p) = formed_field known p.0 (at_space p.1) (is_decimal p.0 && is_between 0 255 (digits_number p.0)) refl

formed_from : (known : List (List ℕ)) (text : List ℕ) (o : Option (List ℕ × List ℕ)) → formed (rule_from known text o) ≡ true
formed_from known text None = formed_if (bytes_eq text (codes "pass")) (Some rule.Pass) None refl refl
formed_from known text (Some p) =
    formed_if (bytes_eq p.0 (codes "prefix")) (Some (rule.Prefix p.1)) _ refl
    (formed_if (bytes_eq p.0 (codes "require")) (Some (rule.Require p.1)) _ refl
    (formed_if (bytes_eq p.0 (codes "route")) (route_by known (at_space p.1)) _ (formed_route known (at_space p.1))
    (formed_if (bytes_eq p.0 (codes "key")) (option_map rule.Key (decimal_in 0 255 p.1)) _ (formed_key p.1 (is_decimal p.1 && is_between 0 255 (digits_number p.1)) refl)
    (formed_if (bytes_eq p.0 (codes "flush")) (Some (rule.Flush p.1)) _ refl
    (formed_if (bytes_eq p.0 (codes "raise")) (Some (rule.Raise p.1)) _ refl
    (formed_if (bytes_eq p.0 (codes "crash")) (Some (rule.Crash p.1)) _ refl
    (formed_if (bytes_eq p.0 (codes "fail_every")) (option_map rule.FailEvery (decimal_in 1 1000000 p.1)) None (formed_count p.1 (is_decimal p.1 && is_between 1 1000000 (digits_number p.1)) refl) refl)))))))

below : (n k : ℕ) → nat_le n k ≡ false → nat_lt k n ≡ true
below n k h = grind (arith, nat_tests)

-- a rule with its numbers in range, that is no route to a missing batcher
rule_fits : (n : ℕ) (r : Rule) → is_formed r ≡ true → is_astray n (Some r) ≡ false → is_rule n r ≡ true
rule_fits n (rule.Route field k value) f a = both f (below n k a)
rule_fits n (rule.Key field) f a = f
rule_fits n (rule.FailEvery count) f a = f
rule_fits n _ f a = refl

one_rule : (n : ℕ) (o : Option Rule) (rest : List Rule) → formed o ≡ true → is_astray n o ≡ false → list_all (is_rule n) rest ≡ true → list_all (is_rule n) (cons_option o rest) ≡ true
one_rule n None rest f a h = h
one_rule n (Some r) rest f a h = both (rule_fits n r f a) h

pub all_rules : (path : List ℕ) (known : List (List ℕ)) (i : ℕ) (steps : List (List ℕ)) → astray_routes path known i steps ≡ [] → list_all (is_rule (length known)) (rules_of known steps) ≡ true
all_rules path known i [] h = refl
all_rules path known i (text ∷ steps) h =
    let (here, more) = no_fault (is_astray (length known) (rule_of known text)) _ (astray_routes path known (i + 1) steps) h in
    one_rule (length known) (rule_of known text) (rules_of known steps) (formed_from known text (at_space text)) here (all_rules path known (i + 1) steps more)

no_longer : (o : Option Rule) (rest : List Rule) (n : ℕ) → length rest ≤ n → length (cons_option o rest) ≤ suc n
no_longer None rest n h = omega arith
no_longer (Some r) rest n h = omega arith

pub length-rules : (known steps : List (List ℕ)) → length (rules_of known steps) ≤ length steps
length-rules known [] = omega arith
length-rules known (text ∷ steps) = no_longer (rule_of known text) (rules_of known steps) (length steps) (length-rules known steps)

pub rules_fit : (path : List ℕ) (known steps : List (List ℕ)) → astray_routes path known 0 steps ≡ [] → nat_le (length steps) 64 ≡ true → are_rules (length known) (rules_of known steps) ≡ true
rules_fit path known steps h few =
    let short : length (rules_of known steps) ≤ 64 = omega (arith, leb-true (length steps) 64 few, length-rules known steps) in
    both (le-leb (length (rules_of known steps)) 64 short) (all_rules path known 0 steps h)

-- a route among the texts is one among the rules
one_route : (k : ℕ) (o : Option Rule) (rest : List Rule) → list_any (names_batcher k) (cons_option o rest) ≡ (leads_to k o || list_any (names_batcher k) rest)
one_route k None rest = refl
one_route k (Some r) rest = refl

pub routes_lead : (k : ℕ) (known steps : List (List ℕ)) → list_any (names_batcher k) (rules_of known steps) ≡ list_any (λ text. leads_to k (rule_of known text)) steps
routes_lead k known [] = refl
routes_lead k known (text ∷ steps) = one_route k (rule_of known text) (rules_of known steps) ∙ ap (λ o. leads_to k (rule_of known text) || o) (routes_lead k known steps)
