use Rattle.std.proofs.Common.{◌≡◌, true, take}
use Rattle.pipe_model.specs.History.{history}
use Rattle.pipe_model.specs.Legal.{is_legal}
use Rattle.pipe_replay.specs.States.{StateStands}
use Rattle.pipe_replay.proofs.state.state_of.Given as goal

abbrev pub invariant-loop-i : goal.invariant-loop-i
invariant-loop-i l = record {
  legal : is_legal l.topology (history (take l.i l.steps)) ≡ true;
  stands : StateStands l.topology (history (take l.i l.steps)) l.state;
}
