-- A place of something that is not open.
use Rattle.std.specs.Prelude.{◌≡◌, ◌<◌, ℕ, true, List, length, Some, None, slice_index_or, take}
use Rattle.std.specs.Str.{bytes_eq}
use Rattle.mem_edges.specs.declared.named.Named.{Named}
use Rattle.mem_edges.specs.Shelf.{under, is_free}

-- the newest under the name stands at this place and is not open
pub record IsFreePlace {T : Type 0} (name : List ℕ) (shelf : List (Named T)) (at : ℕ) : Type 0 where
  pub within : at < length shelf
  pub free : is_free name shelf ≡ true
  pub here : (d : Named T) → under name shelf ≡ Some (slice_index_or shelf at d)
  pub named : (d : Named T) → bytes_eq (slice_index_or shelf at d).name name ≡ true
  pub newest : under name (take at shelf) ≡ None
