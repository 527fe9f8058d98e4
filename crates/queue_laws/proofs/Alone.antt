-- The batches that a dispatch serves without a leg: each waited in the stage, and none is sent.
use Rattle.std.proofs.Common.{◌≡◌, ℕ, List, [], ◌∷◌, map, Bool, true, false, refl, subst}
use Rattle.std.specs.Prelude.{if◌then◌else◌, filter}
use Rattle.pipe_types.specs.declared.numbers.StageNo.{StageNo}
use Rattle.pipe_types.specs.declared.topology.Topology.{Topology}
use Rattle.pipe_types.specs.declared.room.Room.{Room}
use Rattle.pipe_types.specs.Dispatchers.{Serving, is_served, serves_from}
use Rattle.pipe_types.specs.Stages.{spec_of}
use Rattle.pipe_model.specs.History.{History}
use Rattle.pipe_model.specs.Flow.{place, waits_in, view_of, batch, is_batcher, batch_waits_in, is_empty, among, subs_of, deliveries, alone, served_by, serving_by, rooms_by, mark_in, waiting}
use Rattle.pipe_laws.proofs.Lists.{Each, each_weaker, each_filter, each_among}
use Rattle.pipe_laws.proofs.Entries.{is_waiting, waiting_each}

-- what is served is some of the units
pub serves_each : (Q : ℕ → Type 0) (kind : Serving) (rooms : List Room) (earlier : List ℕ) (units : List (ℕ × ℕ)) → Each (λ (unit : ℕ × ℕ). Q unit.0) units → Each Q (serves_from kind rooms earlier units)
serves_each Q kind rooms earlier [] h = tt
serves_each Q kind rooms earlier (unit ∷ units) h = either (is_served kind rooms earlier unit.1) (serves_each Q kind rooms (unit.1 ∷ earlier) units h.1)
  where
    either : (b : Bool) → Each Q (serves_from kind rooms (unit.1 ∷ earlier) units) → Each Q (if b then unit.0 ∷ serves_from kind rooms (unit.1 ∷ earlier) units else serves_from kind rooms (unit.1 ∷ earlier) units)
    either true rest = (h.0, rest)
    either false rest = rest

pub record IsAlone (topology : Topology) (before : History) (t : StageNo) (b : ℕ) : Type 0 where
  pub waits : batch_waits_in t (batch topology before b) ≡ true
  pub unsent : is_empty (subs_of (deliveries topology before t) b) ≡ true

served_each : (topology : Topology) (before : History) (t : StageNo) → Each (λ n. is_waiting topology before t n ≡ true) (served_by topology before (view_of topology before) t)
served_each topology before t =
    serves_each (λ n. is_waiting topology before t n ≡ true) (serving_by topology before (view_of topology before) t) (rooms_by topology before (view_of topology before) t) []
    (map {B = ℕ × ℕ} (λ n. (n, mark_in before (view_of topology before) (spec_of topology t) n)) (waiting topology before t))
    (marked (waiting topology before t) (waiting_each topology before t))
  where
    marked : (ns : List ℕ) → Each (λ n. is_waiting topology before t n ≡ true) ns → Each (λ (unit : ℕ × ℕ). is_waiting topology before t unit.0 ≡ true) (map {B = ℕ × ℕ} (λ n. (n, mark_in before (view_of topology before) (spec_of topology t) n)) ns)
    marked [] h = tt
    marked (n ∷ ns) h = (h.0, marked ns h.1)

pub alone_each : (topology : Topology) (before : History) (t : StageNo) → Each (IsAlone topology before t) (alone topology before t)
alone_each topology before t = either (is_batcher (spec_of topology t)) refl
  where
    waits_by : (b : ℕ) → is_batcher (spec_of topology t) ≡ true → is_waiting topology before t b ≡ true → batch_waits_in t (batch topology before b) ≡ true
    waits_by b e h = subst (λ x. (if x then batch_waits_in t (batch topology before b) else waits_in t (place topology before b)) ≡ true) e h

    either : (x : Bool) → is_batcher (spec_of topology t) ≡ x → Each (IsAlone topology before t) (if x then filter (λ b. is_empty (subs_of (deliveries topology before t) b)) (served_by topology before (view_of topology before) t) else [])
    either false e = tt
    either true e =
        each_weaker (λ b. (is_waiting topology before t b ≡ true) × (is_empty (subs_of (deliveries topology before t) b) ≡ true)) (IsAlone topology before t)
        (λ b p. record { waits = waits_by b e p.0; unsent = p.1 }) _
        (each_filter (λ n. is_waiting topology before t n ≡ true) (λ b. is_empty (subs_of (deliveries topology before t) b)) (served_by topology before (view_of topology before) t) (served_each topology before t))

pub alone_is : (topology : Topology) (before : History) (t : StageNo) (b : ℕ) → among (alone topology before t) b ≡ true → IsAlone topology before t b
alone_is topology before t b h = each_among (IsAlone topology before t) (alone topology before t) b (alone_each topology before t) h

-- only a batcher serves so
pub none_alone : (topology : Topology) (before : History) (t : StageNo) → is_batcher (spec_of topology t) ≡ false → alone topology before t ≡ []
none_alone topology before t e = rw e refl
