use Rattle.std.proofs.Common.{ap, refl}
use Rattle.box_stock.proofs.Filled.{names_feed}
use Rattle.edge_names.specs.Supplies.{by_name}
use Rattle.pipe_top.specs.Cases.{Named}
use Rattle.pipe_top.proofs.Runnables.{named_unmerged}
use Rattle.pipe_top.proofs.Reading.{came_by_flow, came_to_nothing}
use Rattle.pipe_top.proofs.program.run_flow.Goals as goal

pub run_or_refuse-requires-clause-fed : goal.run_or_refuse-requires-clause-fed
run_or_refuse-requires-clause-fed g c κs lives = names_feed _ c.in-Ok.topology c.in-Ok.ensures.sound

pub run_or_refuse-requires-clause-unmerged : goal.run_or_refuse-requires-clause-unmerged
run_or_refuse-requires-clause-unmerged g c κs lives = named_unmerged c.in-Ok.topology _ c.as_it_stands-supply.ensures

pub returns-clause-came : goal.returns-clause-came
returns-clause-came g c =
    let r = c.run_or_refuse in
    let w = c.args.words in
    came_by_flow _ _ _ w.source.now w.prefix.now c.in-Ok.topology r.result.topology r.result.journal.steps r.result.verdict c.in-Ok.ensures.value
    (r.ensures.comes Named (record { is = ap by_name c.as_it_stands-supply.ensures; few = tt }))

pub returns-in_default-clause-came : goal.returns-in_default-clause-came
returns-in_default-clause-came g c =
    let r = c.refused in
    came_to_nothing _ _ _ _ r.result.topology r.result.journal.steps r.result.verdict r.ensures.verdict r.ensures.no_run
    (record { sources = refl; sinks = refl; clock = rw r.ensures.same_clock refl; boxes = rw r.ensures.same_boxes refl }) refl refl
