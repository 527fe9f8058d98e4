use Rattle.std.proofs.Common.{◌≡◌, ◌≤◌, ℕ, List, length, false}
use Rattle.std.specs.Prelude.{IsTrue}
use Rattle.ack_feed.specs.Fed.{IsFed}
use Rattle.ack_feed.specs.Lines.{sink_of, held_lines, pending, room_of, has_failed}
use Rattle.ack_feed.proofs.lines.LineFeed.flush.Given as goal

-- what was sent is still so, and no write failed
abbrev pub invariant-empty : goal.invariant-empty
invariant-empty g l = record {
  fed : (begun : List ℕ) (sent : List (List ℕ)) → IsTrue (g.K.ByteSink.told (sink_of l.initial.self))
      → IsFed begun sent (g.K.ByteSink.held (sink_of l.initial.self)) (pending l.initial.self)
      → IsFed begun sent (g.K.ByteSink.held (sink_of l.self)) (pending l.self);
  same_telling : g.K.ByteSink.told (sink_of l.self) ≡ g.K.ByteSink.told (sink_of l.initial.self);
  room : room_of l.self ≡ room_of l.initial.self;
  whole : has_failed l.self ≡ false;
  faults_stay : g.K.ByteSink.faults (sink_of l.initial.self) ≤ g.K.ByteSink.faults (sink_of l.self);
}

abbrev pub decreases-empty : goal.decreases-empty
decreases-empty g l = length (held_lines l.self)
