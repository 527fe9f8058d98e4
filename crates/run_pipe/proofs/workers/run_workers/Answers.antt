use Rattle.std.proofs.Common.{subst}
use Rattle.run_pipe.specs.Runs.{RanToEnd}
use Rattle.run_pipe.specs.Seen.{state_of}
use Rattle.run_pipe.proofs.Outcomes.{has_run}
use Rattle.run_pipe.proofs.workers.run_workers.Goals as goal

pub run_here-requires-clause-stems : goal.run_here-requires-clause-stems
run_here-requires-clause-stems g c = (state_of c.args.pipe, c.requires.stems)

pub returns-then-workers-eq1 : goal.returns-then-workers-eq1
returns-then-workers-eq1 g c =
    record { ran = has_run (state_of c.args.pipe) (state_of c.args.pipe) (state_of c.run_here.new.pipe) c.requires.stems c.run_here.ensures.ran }

pub run_here-requires-in-Ok-clause-stems : goal.run_here-requires-in-Ok-clause-stems
run_here-requires-in-Ok-clause-stems g c = (state_of c.args.pipe, c.in-Ok.ensures.stems)

pub returns-in-Ok : goal.returns-in-Ok
returns-in-Ok g c =
    record { ran = has_run (state_of c.args.pipe) (state_of c.in-Ok.pipe) (state_of c.run_here-in-Ok.new.pipe) c.in-Ok.ensures.stems c.run_here-in-Ok.ensures.ran }

pub returns-in-Err : goal.returns-in-Err
returns-in-Err g c =
    let opened = state_of c.args.pipe in
    let final = state_of c.end_without_memory.new.self in
    record {
      ran = has_run opened opened final c.requires.stems (subst (λ p. RanToEnd (state_of p) final) c.in-Err.ensures.value_returned c.end_without_memory.ensures.ran);
    }
