-- How a subscription's demand is seen, and when its consumer asks for more.
use Rattle.std.specs.Prelude.{ℕ, ◌-◌, nat_le, if◌then◌else◌}
use Rattle.stage_demand.specs.declared.Demand.{Demand}

-- the bounds of a subscription, and how many units were asked for, arrived and were handled
pub record Counts : Type 0 where
  pub min : ℕ
  pub max : ℕ
  pub asked : ℕ
  pub arrived : ℕ
  pub handled : ℕ

abbrev pub counts_of : Demand → Counts
counts_of d = record { min = d.min; max = d.max; asked = d.asked; arrived = d.arrived; handled = d.handled }

-- the ask that is due: up to max again, where at most min units are asked for and not handled, and else none
abbrev pub due_of : Counts → ℕ
due_of c = if nat_le (c.asked - c.handled) c.min then c.max - (c.asked - c.handled) else 0
