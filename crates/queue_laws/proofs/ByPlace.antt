-- What a dispatch sends, by the places of the units that wait.
use Rattle.std.proofs.Common.{◌≡◌, ℕ, suc, ◌+◌, List, [], ◌∷◌, ◌++◌, map, get_or, refl, ap, sym, ◌∙◌, arith}
use Rattle.std.specs.Prelude.{filter}
use Rattle.std.specs.List.{enumerate_from}
use Rattle.pipe_types.specs.declared.numbers.StageNo.{StageNo}
use Rattle.pipe_types.specs.declared.topology.Topology.{Topology}
use Rattle.pipe_types.specs.declared.room.Room.{Room}
use Rattle.pipe_types.specs.declared.room.Sent.{Sent as SentUnit}
use Rattle.pipe_types.specs.Dispatchers.{Serving, goes, on_each, sends_from, sends_by_place}
use Rattle.pipe_types.specs.Stages.{spec_of}
use Rattle.pipe_model.specs.History.{History}
use Rattle.pipe_model.specs.Flow.{view_of, waiting, deliveries, rooms_by, serving_by, mark_in}

abbrev named : (ℕ → ℕ) → SentUnit → SentUnit
named f d = record { unit = f d.unit; sub = d.sub }

on_each_named : (f : ℕ → ℕ) (unit : ℕ) (rooms : List Room) (rest : List SentUnit) → on_each (f unit) rooms ++ map (named f) rest ≡ map (named f) (on_each unit rooms ++ rest)
on_each_named f unit [] rest = refl
on_each_named f unit (r ∷ rooms) rest = ap (λ ds. record { unit = f unit; sub = r.sub } ∷ ds) (on_each_named f unit rooms rest)

sends_named : (f : ℕ → ℕ) (kind : Serving) (rooms : List Room) (earlier : List ℕ) (units : List (ℕ × ℕ)) → sends_from kind rooms earlier (map (λ u. (f u.0, u.1)) units) ≡ map (named f) (sends_from kind rooms earlier units)
sends_named f kind rooms earlier [] = refl
sends_named f kind rooms earlier (u ∷ units) =
    ap (λ ds. on_each (f u.0) (filter (goes kind rooms earlier u.1) rooms) ++ ds) (sends_named f kind rooms (u.1 ∷ earlier) units)
    ∙ on_each_named f u.0 (filter (goes kind rooms earlier u.1) rooms) (sends_from kind rooms (u.1 ∷ earlier) units)

numbered : (p : ℕ → ℕ) (whole xs : List ℕ) (k : ℕ) → ((i : ℕ) → get_or whole (k + i) 0 ≡ get_or xs i 0) → map {B = ℕ × ℕ} (λ n. (n, p n)) xs ≡ map (λ (u : ℕ × ℕ). (get_or whole u.0 0, u.1)) (enumerate_from k (map p xs))
numbered p whole [] k at = refl
numbered p whole (x ∷ xs) k at =
    let here : get_or whole k 0 ≡ x = ap (λ j. get_or whole j 0) (omega arith) ∙ at 0 in
    let rest : map {B = ℕ × ℕ} (λ n. (n, p n)) xs ≡ map (λ (u : ℕ × ℕ). (get_or whole u.0 0, u.1)) (enumerate_from (k + 1) (map p xs)) = numbered p whole xs (k + 1) (λ i. ap (λ j. get_or whole j 0) (omega arith) ∙ at (suc i)) in
    λ i. (sym here i, p x) ∷ rest i

-- what a dispatch sends, from what its dispatcher sends by the places of the queue
pub deliveries_by_place : (topology : Topology) (before : History) (s : StageNo) → deliveries topology before s ≡ map (λ d. record { unit = get_or (waiting topology before s) d.unit 0; sub = d.sub }) (sends_by_place (serving_by topology before (view_of topology before) s) (rooms_by topology before (view_of topology before) s) (map (λ n. mark_in before (view_of topology before) (spec_of topology s) n) (waiting topology before s)))
deliveries_by_place topology before s =
    ap (sends_from (serving_by topology before (view_of topology before) s) (rooms_by topology before (view_of topology before) s) []) (numbered (λ n. mark_in before (view_of topology before) (spec_of topology s) n) (waiting topology before s) (waiting topology before s) 0 (λ i. ap (λ j. get_or (waiting topology before s) j 0) (omega arith)))
    ∙ sends_named (λ i. get_or (waiting topology before s) i 0) (serving_by topology before (view_of topology before) s) (rooms_by topology before (view_of topology before) s) [] (enumerate_from 0 (map (λ n. mark_in before (view_of topology before) (spec_of topology s) n) (waiting topology before s)))
