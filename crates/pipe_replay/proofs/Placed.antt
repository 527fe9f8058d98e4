-- Where messages stand, by tables that stand for the history.
use Rattle.std.proofs.Common.{◌≡◌, ℕ, ◌+◌, ◌-◌, ◌<◌, ◌≤◌, true, List, length, get_or, refl, ap, sym, ◌∙◌, arith, lt-ltb, inl, inr, true≢false}
use Rattle.std.proofs.lemmas.Option.{slice_get_read, slice_get_cases}
use Rattle.std.specs.Prelude.{if◌then◌else◌, Option, Some, None, slice_get, unwrap_or}
use Rattle.pipe_types.specs.declared.numbers.StageNo.{StageNo}
use Rattle.pipe_types.specs.declared.topology.Topology.{Topology}
use Rattle.pipe_types.specs.declared.message.Place.{Place}
use Rattle.pipe_model.specs.History.{History, accepted}
use Rattle.pipe_model.specs.Content.{producer_of}
use Rattle.pipe_model.specs.Flow.{place}
use Rattle.pipe_model.specs.Legal.{is_legal}
use Rattle.pipe_model.specs.Moves.{is_final}
use Rattle.pipe_laws.proofs.Acknowledged.{produced}
use Rattle.plain_queues.specs.declared.tables.Tables.{Tables}
use Rattle.plain_queues.specs.Views.{place_at}
use Rattle.plain_places.specs.Standing.{TablesStand}

place_at_next : (places : List Place) (i : ℕ) → place_at places (i + 1) ≡ slice_get places i
place_at_next places i =
    let e : i + 1 - 1 ≡ i = omega arith in
    ap (λ b. if b then slice_get places (i + 1 - 1) else None) (lt-ltb 0 (i + 1) (omega arith)) ∙ ap (slice_get places) e

place_by_rows : (topology : Topology) (before : History) (tables : Tables) (i : ℕ) → TablesStand topology before tables → place topology before (i + 1) ≡ slice_get tables.places.items i
place_by_rows topology before tables i stand = sym (ap (λ v. v.place (i + 1)) stand.view) ∙ place_at_next tables.places.items i

pub placed : (topology : Topology) (before : History) (tables : Tables) (i : ℕ) (p : Place) → TablesStand topology before tables → i < length tables.places.items → p ≡ get_or tables.places.items i p
    → place topology before (i + 1) ≡ Some p
placed topology before tables i p stand within is = place_by_rows topology before tables i stand ∙ slice_get_read tables.places.items (length tables.places.items) i p refl within is

-- what is settled has a row
pub final_within : (topology : Topology) (before : History) (tables : Tables) (i : ℕ) → TablesStand topology before tables → is_final (place topology before (i + 1)) ≡ true → i < length tables.places.items
final_within topology before tables i stand final =
    elim (slice_get_cases tables.places.items i).1 [
      | inl here ↦ here.1
      | inr past ↦ absurd (true≢false (sym final ∙ ap is_final (place_by_rows topology before tables i stand ∙ past.1)))
    ]

some_is : {X : Type 0} (o : Option X) (d x : X) → o ≡ Some x → o ≡ Some (unwrap_or o d)
some_is o d x is = is ∙ sym (ap (λ p. Some (unwrap_or p d)) is)

-- an accepted message has a producer
pub producer_is : (topology : Topology) (before : History) (n : ℕ) (d : StageNo) → is_legal topology before ≡ true → 1 ≤ n → n ≤ accepted before → producer_of before n ≡ Some (unwrap_or (producer_of before n) d)
producer_is topology before n d legal low high = let made = produced topology before n legal low high in some_is (producer_of before n) d made.0 made.1
