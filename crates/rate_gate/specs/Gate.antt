-- What a gate shows.
use Rattle.std.specs.Prelude.{ℕ}
use Rattle.pipe_edges.specs.Paces.{Pace}
use Rattle.rate_gate.specs.declared.gate.Gate.{Gate}

abbrev pub pace_of : Gate → Pace
pace_of g = record { share = g.share; interval = g.interval }

-- the moment that was told last, 0 before the first
abbrev pub moment_of : Gate → ℕ
moment_of g = g.moment

-- the records given since its interval began
abbrev pub given_of : Gate → ℕ
given_of g = g.given
