use Rattle.std.proofs.Common.{◌≡◌, ℕ, ◌+◌, ◌<◌, ◌∷◌, length, get_or}
use Rattle.plain_queues.specs.Flows.{topology_of, history_of}
use Rattle.pipe_model.specs.Places.{settled_at}
use Rattle.pipe_replay.proofs.settled.settled_after.Given as goal

abbrev pub invariant-loop-i : goal.invariant-loop-i
invariant-loop-i l = record {
  long : length l.after.items ≡ l.i;
  each : (k : ℕ) → k < l.i → get_or l.after.items k 0 ≡ settled_at (topology_of l.flow) (l.step ∷ history_of l.flow) (k + 1);
}
