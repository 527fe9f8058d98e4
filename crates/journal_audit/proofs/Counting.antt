-- How many places pass a test.
use Rattle.std.proofs.Common.{◌≤◌, Bool, List, length}
use Rattle.std.specs.Prelude.{count_by}
use Rattle.std.proofs.lemmas.List.Sums.{count_by-le-length}
use Rattle.pipe_types.specs.declared.message.Place.{Place}

-- no more than there are
pub count_within : (p : Place → Bool) (places : List Place) → count_by p places ≤ length places
count_within p places = count_by-le-length p places
