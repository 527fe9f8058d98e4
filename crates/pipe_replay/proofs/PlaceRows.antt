-- The rows of places, with one more.
use Rattle.std.proofs.Common.{◌≡◌, ℕ, ◌+◌, List, [], ◌∷◌, ◌++◌, ap, sym, ◌∙◌}
use Rattle.std.specs.Prelude.{All, Some}
use Rattle.std.proofs.lemmas.List.{map-append}
use Rattle.std.proofs.lemmas.List.Elements.{All-append, All-nil, All-cons}
use Rattle.pipe_types.specs.declared.topology.Topology.{Topology}
use Rattle.pipe_types.specs.declared.state.PlaceRow.{PlaceRow}
use Rattle.pipe_model.specs.History.{History, accepted}
use Rattle.pipe_model.specs.Content.{producer_of}
use Rattle.pipe_model.specs.Flow.{place}
use Rattle.pipe_model.specs.Acknowledgements.{numbers_upto}
use Rattle.pipe_model.specs.Places.{ArePlaces, settled_at}
use Rattle.pipe_replay.specs.Rows.{IsPlaceRow, ArePlacesUpto}
use Rattle.pipe_replay.proofs.Upto.{upto_more}

all_more : {X : Type 0} (P : X → Type 0) (xs : List X) (x : X) → All P xs → P x → All P (xs ++ x ∷ [])
all_more P xs x all one = All-append P xs (x ∷ []) all (All-cons P x [] one (All-nil P))

pub places_more : (topology : Topology) (before : History) (i : ℕ) (rows : List PlaceRow) (row : PlaceRow)
    → ArePlacesUpto topology before i rows → IsPlaceRow topology before (i + 1) row → ArePlacesUpto topology before (i + 1) (rows ++ row ∷ [])
places_more topology before i rows row are is = record {
  numbers = map-append (λ r. r.no.0) rows (row ∷ []) ∙ ap (λ ns. ns ++ row.no.0 ∷ []) are.numbers ∙ ap (λ n. numbers_upto i ++ n ∷ []) is.no ∙ sym (upto_more i);
  produced = all_more (λ r. producer_of before r.no.0 ≡ Some r.producer) rows row are.produced (ap (producer_of before) is.no ∙ is.producer);
  placed = all_more (λ r. place topology before r.no.0 ≡ Some r.place) rows row are.placed (ap (place topology before) is.no ∙ is.place);
  settled = all_more (λ r. r.at ≡ settled_at topology before r.no.0) rows row are.settled (is.at ∙ ap (settled_at topology before) (sym is.no));
}

pub all_places : (topology : Topology) (before : History) (count : ℕ) (rows : List PlaceRow) → count ≡ accepted before
    → ArePlacesUpto topology before count rows → ArePlaces topology before rows
all_places topology before count rows is are = record {
  numbers = are.numbers ∙ ap numbers_upto is;
  produced = are.produced;
  placed = are.placed;
  settled = are.settled;
}
