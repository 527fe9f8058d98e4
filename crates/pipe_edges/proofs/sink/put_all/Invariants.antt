use Rattle.std.proofs.Common.{length, take, ◌-◌, ◌≡◌, ◌≤◌, ◌++◌}
use Rattle.std.specs.Prelude.{IsTrue}
use Rattle.pipe_edges.proofs.sink.put_all.Given as goal

abbrev pub invariant-loop-done : goal.invariant-loop-done
invariant-loop-done g l = record {
  within : l.done ≤ length l.all;
  same_telling : g.K.ByteSink.told l.sink ≡ g.K.ByteSink.told l.initial.sink;
  faults_stay : g.K.ByteSink.faults l.initial.sink ≤ g.K.ByteSink.faults l.sink;
  put : IsTrue (g.K.ByteSink.told l.initial.sink) → g.K.ByteSink.held l.sink ≡ g.K.ByteSink.held l.initial.sink ++ take l.done l.all;
}

abbrev pub decreases-loop-done : goal.decreases-loop-done
decreases-loop-done g l = length l.all - l.done
