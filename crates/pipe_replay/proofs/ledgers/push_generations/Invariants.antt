use Rattle.std.proofs.Common.{◌≡◌, ◌++◌, map}
use Rattle.pipe_types.specs.Numbers.{subscription}
use Rattle.pipe_model.specs.Acknowledgements.{numbers_upto}
use Rattle.plain_legal.specs.Machines.{topology_of, history_of}
use Rattle.pipe_replay.specs.Rows.{sub_row}
use Rattle.pipe_replay.proofs.ledgers.push_generations.Given as goal

abbrev pub invariant-loop-before : goal.invariant-loop-before
invariant-loop-before l = l.rows.items ≡ l.fn.old.items ++ map (λ g. sub_row (topology_of l.machine) (history_of l.machine) (subscription l.consumer l.producer g)) (numbers_upto l.before)
