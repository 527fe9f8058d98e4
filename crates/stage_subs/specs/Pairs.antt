-- What is known of a pair of stages.
use Rattle.std.specs.Prelude.{ℕ, Bool}
use Rattle.stage_demand.specs.Demand.{Counts}

-- the generation of the pair's last subscription, whether it is live, and its counts
pub record PairRow : Type 0 where
  pub generation : ℕ
  pub is_live : Bool
  pub counts : Counts
