use Rattle.std.proofs.Common.{length, take, ◌-◌, ◌≡◌, ◌≤◌, ◌++◌}
use Rattle.std.specs.Prelude.{IsTrue}
use Rattle.journal_texts.proofs.stream.write_bytes.Given as goal

-- so many bytes were written
abbrev pub invariant-loop-done : goal.invariant-loop-done
invariant-loop-done g l = record {
  within : l.done ≤ length l.bytes;
  same_telling : g.K.ByteSink.told l.sink ≡ g.K.ByteSink.told l.initial.sink;
  faults_stay : g.K.ByteSink.faults l.initial.sink ≤ g.K.ByteSink.faults l.sink;
  put : IsTrue (g.K.ByteSink.told l.initial.sink) → g.K.ByteSink.held l.sink ≡ g.K.ByteSink.held l.initial.sink ++ take l.done l.bytes;
}

abbrev pub decreases-loop-done : goal.decreases-loop-done
decreases-loop-done g l = length l.bytes - l.done
