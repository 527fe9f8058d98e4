-- The bodies that are reset, by their places.
use Rattle.std.specs.Prelude.{◌≡◌, ◌≤◌, ◌<◌, ℕ, ◌+◌, Option}
use Rattle.stage_bodies.specs.Seen.{BodySeen}
use Rattle.stage_bodies.specs.Jobs.{Both, IsResetBody}

-- the bodies at so many places from the first on are reset, and the others are as they were
pub record AreResetFrom (first many : ℕ) (now after : ℕ → Option BodySeen) : Type 0 where
  pub here : (at : ℕ) → first ≤ at → at < first + many → Both IsResetBody (now at) (after at)
  pub below : (at : ℕ) → at < first → after at ≡ now at
  pub above : (at : ℕ) → first + many ≤ at → after at ≡ now at
