use Rattle.std.proofs.Common.{ap, refl}
use Rattle.box_stock.proofs.Filled.{names_feed}
use Rattle.edge_names.specs.Supplies.{by_name}
use Rattle.pipe_top.specs.Cases.{Filed}
use Rattle.pipe_top.proofs.Runnables.{filed_unmerged}
use Rattle.pipe_top.proofs.Reading.{came_to_nothing, run_came, run_unread}
use Rattle.pipe_top.proofs.program.run_file.Goals as goal

pub run_or_refuse-requires-clause-fed : goal.run_or_refuse-requires-clause-fed
run_or_refuse-requires-clause-fed g c κs lives = names_feed _ c.in-Ok-read_named.topology c.in-Ok-read_named.ensures.reads.1

pub run_or_refuse-requires-clause-unmerged : goal.run_or_refuse-requires-clause-unmerged
run_or_refuse-requires-clause-unmerged g c κs lives = filed_unmerged c.in-Ok-read_named.topology _ c.of_file-supply.ensures

pub returns-in_default-clause-came : goal.returns-in_default-clause-came
returns-in_default-clause-came g c =
    let r = c.refused in
    came_to_nothing _ _ _ _ r.result.topology r.result.journal.steps r.result.verdict r.ensures.verdict r.ensures.no_run
    (record { sources = refl; sinks = refl; clock = rw r.ensures.same_clock refl; boxes = rw r.ensures.same_boxes refl }) refl refl

pub returns-in-Ok-read_named-clause-came : goal.returns-in-Ok-read_named-clause-came
returns-in-Ok-read_named-clause-came g c =
    let r = c.run_or_refuse in
    let w = c.args.words in
    run_came _ _ _ _ w.topology.now w.workers w.acks w.steps c.in-Ok.live _ c.in-Ok-read_named.topology r.result.topology r.result.journal.steps r.result.verdict c.in-Ok.ensures c.in-Ok-read_named.ensures
    (r.ensures.comes Filed (record { is = ap by_name c.of_file-supply.ensures; few = tt }))

pub returns-in-Err-clause-came : goal.returns-in-Err-clause-came
returns-in-Err-clause-came g c =
    let r = c.refused-in-Err in
    let w = c.args.words in
    run_unread _ _ _ w.topology.now w.workers w.acks w.steps _ c.in-Err.refusal r.result.topology r.result.journal.steps r.result.verdict c.in-Err.ensures r.ensures.verdict r.ensures.no_run
    (rw r.ensures.same_clock refl) (rw r.ensures.same_boxes refl)
