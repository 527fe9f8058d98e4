-- What a restart limit knows of the restarts that were made.
use Rattle.std.specs.Prelude.{◌≡◌, ℕ, ◌≤◌, List, [], ◌∷◌, take, All}

-- at most so many restarts within the window, and the last times of restarts, the latest first
pub record RestartLimit : Type 0 where
  pub max : ℕ
  pub window : ℕ
  pub times : List ℕ

-- each time is no earlier than those behind it
abbrev pub LatestFirst : List ℕ → Type 0
LatestFirst [] = Unit {0}
LatestFirst (t ∷ times) = All (λ earlier. earlier ≤ t) times × LatestFirst times

-- of all restarts that were made, the latest first, the limit keeps as many of the last as it allows
pub record Remembers (limit : RestartLimit) (made : List ℕ) : Type 0 where
  pub last : limit.times ≡ take limit.max made
  pub latest_first : LatestFirst made
