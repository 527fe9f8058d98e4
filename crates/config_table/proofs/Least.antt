-- The fault that counts of the parts of a walk.
use Rattle.std.proofs.Common.{◌≡◌, List, [], ◌∷◌, ◌++◌, Option, Some, None, refl, ap, sym, ◌∙◌, arith}
use Rattle.std.proofs.lemmas.Bool.Decides.{nat_tests}
use Rattle.config_table.specs.declared.fault.ConfigFault.{ConfigFault}
use Rattle.config_table.specs.Fault.{sooner, least}

pub sooner-none : (a : Option ConfigFault) → sooner a None ≡ a
sooner-none None = refl
sooner-none (Some a) = refl

sooner_some : (x y z : ConfigFault) → sooner (sooner (Some x) (Some y)) (Some z) ≡ sooner (Some x) (sooner (Some y) (Some z))
sooner_some x y z = grind (arith, nat_tests)

pub sooner-sooner : (a b c : Option ConfigFault) → sooner (sooner a b) c ≡ sooner a (sooner b c)
sooner-sooner None b c = refl
sooner-sooner (Some x) None c = refl
sooner-sooner (Some x) (Some y) None = sooner-none (sooner (Some x) (Some y))
sooner-sooner (Some x) (Some y) (Some z) = sooner_some x y z

pub least-append : (xs ys : List ConfigFault) → least (xs ++ ys) ≡ sooner (least xs) (least ys)
least-append [] ys = refl
least-append (x ∷ xs) ys = ap (sooner (Some x)) (least-append xs ys) ∙ sym (sooner-sooner (Some x) (least xs) (least ys))

-- the fault of two parts
pub least_of_two : (a b : Option ConfigFault) (xs ys : List ConfigFault) → a ≡ least xs → b ≡ least ys → sooner a b ≡ least (xs ++ ys)
least_of_two a b xs ys p q = rw (p, q) (sym (least-append xs ys))

-- one more part, behind those whose fault is known
pub sooner-part : (found : Option ConfigFault) (part rest : List ConfigFault) → sooner (sooner found (least part)) (least rest) ≡ sooner found (least (part ++ rest))
sooner-part found part rest = sooner-sooner found (least part) (least rest) ∙ ap (sooner found) (sym (least-append part rest))
