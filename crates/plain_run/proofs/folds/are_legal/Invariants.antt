use Rattle.std.proofs.Common.{◌≡◌, true, take}
use Rattle.pipe_model.specs.History.{history}
use Rattle.pipe_model.specs.Legal.{is_legal}
use Rattle.plain_run.proofs.folds.are_legal.Given as goal

abbrev pub invariant-loop-i : goal.invariant-loop-i
invariant-loop-i l = record {
  topology : l.run.topology ≡ l.initial.run.topology;
  steps : l.run.steps ≡ history (take l.i l.steps);
  legal : is_legal l.initial.run.topology (history (take l.i l.steps)) ≡ true;
}
