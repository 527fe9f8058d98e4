-- Batches that are judged by their own numbers.
use Rattle.std.specs.Prelude.{ℕ, Bool, true, false, List, map}
use Rattle.pipe_types.specs.declared.topology.Dispatch.{Dispatch}
use Rattle.pipe_types.specs.declared.topology.Dispatch.TheVariants.{Broadcast}

abbrev pub is_cast : Dispatch → Bool
is_cast Broadcast = true
is_cast _ = false

-- each unit with its own number
abbrev pub with_selves : List ℕ → List (ℕ × ℕ)
with_selves ns = map (λ n. (n, n)) ns
