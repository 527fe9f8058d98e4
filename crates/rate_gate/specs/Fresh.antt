-- What stands before a source that was just put into its gate.
use Rattle.std.specs.Prelude.{[], false}
use Rattle.rate_gate.specs.Front.{FrontSeen}
use Rattle.rate_gate.specs.Gate.{pace_of, moment_of, given_of}
use Rattle.rate_gate.specs.declared.gate.Gate.{Gate}

-- nothing is held, and nothing was given or stopped
abbrev pub front_of : Gate → FrontSeen
front_of g = record { held = []; pace = pace_of g; moment = moment_of g; given = given_of g; part = false; stops = 0 }
