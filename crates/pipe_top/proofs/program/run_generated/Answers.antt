use Rattle.std.proofs.Common.{refl, arith}
use Rattle.pipe_top.specs.Cases.{MadeFrom}
use Rattle.pipe_top.proofs.Reading.{gen_came, gen_unread}
use Rattle.pipe_top.proofs.program.run_generated.Goals as goal

pub run_or_refuse-requires-clause-fed : goal.run_or_refuse-requires-clause-fed
run_or_refuse-requires-clause-fed g c κs lives s spec found is = refl

pub run_or_refuse-requires-clause-unmerged : goal.run_or_refuse-requires-clause-unmerged
run_or_refuse-requires-clause-unmerged g c κs lives some spec = refl

pub returns-in-Ok-clause-came : goal.returns-in-Ok-clause-came
returns-in-Ok-clause-came g c =
    let r = c.run_or_refuse in
    let w = c.args.words in
    let made = c.new-supply.ensures in
    gen_came _ _ _ _ w.seed w.count w.topology.now c.in-Ok.topology r.result.topology r.result.journal.steps r.result.verdict c.in-Ok.ensures
    (r.ensures.comes (MadeFrom w.seed w.count) (record { is = rw (made.seed, made.count, made.producers, c.producers.ensures.number) refl; few = omega arith }))

pub returns-in-Err-clause-came : goal.returns-in-Err-clause-came
returns-in-Err-clause-came g c =
    let r = c.refused in
    let w = c.args.words in
    gen_unread _ _ _ w.seed w.count w.topology.now c.in-Err.refusal r.result.topology r.result.journal.steps r.result.verdict c.in-Err.ensures r.ensures.verdict r.ensures.no_run
    (rw r.ensures.same_clock refl) (rw r.ensures.same_boxes refl)
