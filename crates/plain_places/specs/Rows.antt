-- Places and batches after a change, as whole lists.
use Rattle.std.specs.Prelude.{ℕ, ◌+◌, List, [], ◌∷◌, ◌++◌, replicate}
use Rattle.pipe_types.specs.declared.message.Place.{Place}
use Rattle.pipe_model.specs.History.{History}
use Rattle.pipe_model.specs.Batches as model
use Rattle.plain_places.specs.Moves.{PlaceChange, Added, Moved, BatchChange, Closed, BatchesMoved, Stays, moved_by, batch_moved}

-- each element after its change, where the first has this number
abbrev pub each_from : {A : Type 0} → (ℕ → A → A) → ℕ → List A → List A
each_from change n [] = []
each_from change n (x ∷ xs) = change n x ∷ each_from change (n + 1) xs

-- the places after a change
abbrev pub places_changed : History → PlaceChange → List Place → List Place
places_changed before (Added count new) places = places ++ replicate count new
places_changed before (Moved move) places = each_from (moved_by before move) 1 places

-- the batches after a change
abbrev pub batches_changed : History → BatchChange → List model.Batch → List model.Batch
batches_changed before (Closed numbers s) batches = each_from (batch_moved before Stays) 1 batches ++ record { numbers = numbers; place = model.AtBatcher s } ∷ []
batches_changed before (BatchesMoved move) batches = each_from (batch_moved before move) 1 batches
