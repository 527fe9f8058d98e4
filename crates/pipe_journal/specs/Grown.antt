-- Lists that grow at their end. No public clause cites this module.
use Rattle.std.specs.Prelude.{◌≡◌, ℕ, List, [], ◌∷◌, ◌++◌, length}

-- the new list begins with the old one
pub record Extends {X : Type 0} (old new : List X) : Type 0 where
  pub more : List X
  pub is : new ≡ old ++ more

-- one stands behind the old ones, at this place
pub record IsAdded {X : Type 0} (at : ℕ) (old : List X) (added : X) (new : List X) : Type 0 where
  pub at_is : at ≡ length old
  pub is : new ≡ old ++ added ∷ []

-- so many stand behind the old ones, the first at this place
pub record AreAdded {X : Type 0} (first count : ℕ) (old added new : List X) : Type 0 where
  pub first_is : first ≡ length old
  pub count_is : count ≡ length added
  pub is : new ≡ old ++ added
