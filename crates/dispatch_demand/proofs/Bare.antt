-- The demand rule does not read the parts of rooms.
use Rattle.std.proofs.Common.{◌≡◌, ℕ, List, [], ◌∷◌, ◌++◌, map, cond, refl, ap, sym, ◌∙◌, ◌+◌}
use Rattle.std.specs.Prelude.{Bool, true, false, filter, sum_by, if◌then◌else◌, length, nat_le, nat_lt, ◌&&◌}
use Rattle.std.proofs.lemmas.List.Sums.{sum_by-cons}
use Rattle.pipe_types.specs.declared.room.Room.{Room}
use Rattle.pipe_types.specs.declared.room.Sent.{Sent}
use Rattle.pipe_types.specs.Dispatchers.{ByDemand}
use Rattle.pipe_types.specs.Dispatchers.{ahead, goes, is_served_before, on_each, sends_from}
use Rattle.dispatch_demand.proofs.Places.{bare}

sum_bare : (f : Room → ℕ) (rooms : List Room) → sum_by f (map bare rooms) ≡ sum_by (λ v. f (bare v)) rooms
sum_bare f [] = refl
sum_bare f (u ∷ us) = sum_by-cons f (bare u) (map bare us) ∙ (ap (λ (n : ℕ). f (bare u) + n) (sum_bare f us) ∙ sym (sum_by-cons (λ v. f (bare v)) u us))

ahead_bare : (rooms : List Room) (u : Room) → ahead (map bare rooms) (bare u) ≡ ahead rooms u
ahead_bare rooms u = sum_bare (λ v. if is_served_before v (bare u) then v.left else 0) rooms

goes_bare : (rooms : List Room) (earlier : List ℕ) (part : ℕ) (u : Room) → goes ByDemand (map bare rooms) earlier part (bare u) ≡ goes ByDemand rooms earlier part u
goes_bare rooms earlier part u = ap (λ (n : ℕ). nat_le n (length earlier) && nat_lt (length earlier) (n + u.left)) (ahead_bare rooms u)

kept_bare : (unit : ℕ) (one other : Room → Bool) → ((u : Room) → one (bare u) ≡ other u) → (rooms : List Room) → on_each unit (filter one (map bare rooms)) ≡ on_each unit (filter other rooms)
kept_bare unit one other same [] = refl
kept_bare unit one other same (u ∷ us) =
    ap (λ (b : Bool). on_each unit (cond b (bare u ∷ filter one (map bare us)) (filter one (map bare us)))) (same u)
    ∙ either (other u) (kept_bare unit one other same us)
  where
    either : (b : Bool) → on_each unit (filter one (map bare us)) ≡ on_each unit (filter other us) → on_each unit (cond b (bare u ∷ filter one (map bare us)) (filter one (map bare us))) ≡ on_each unit (cond b (u ∷ filter other us) (filter other us))
    either true e = ap (λ (xs : List Sent). record { unit = unit; sub = u.sub } ∷ xs) e
    either false e = e

pub sends_bare : (rooms : List Room) (earlier : List ℕ) (units : List (ℕ × ℕ)) → sends_from ByDemand (map bare rooms) earlier units ≡ sends_from ByDemand rooms earlier units
sends_bare rooms earlier [] = refl
sends_bare rooms earlier (unit ∷ units) =
    λ i. kept_bare unit.0 (goes ByDemand (map bare rooms) earlier unit.1) (goes ByDemand rooms earlier unit.1) (goes_bare rooms earlier unit.1) rooms i ++ sends_bare rooms (unit.1 ∷ earlier) units i
