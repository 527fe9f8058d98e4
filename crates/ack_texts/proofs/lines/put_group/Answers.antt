use Rattle.std.proofs.Common.{◌≤◌, length, ap, ◌∙◌, subst}
use Rattle.std.specs.List.{flat_map}
use Rattle.std.proofs.lemmas.List.{take_all}
use Rattle.journal_texts.proofs.Lists.{retext}
use Rattle.ack_texts.proofs.Entries.{all_lines, line_by, stages_step}
use Rattle.ack_texts.proofs.Logged.{failed_is, successful_is}
use Rattle.ack_texts.proofs.lines.put_group.Goals as goal

pub loop-spec-preserved : goal.loop-spec-preserved
loop-spec-preserved g c = λ before step are.
    let topology = c.args.topology.now in
    let rows = c.args.rows.now in
    retext g.W.TextSink.puts _ _ _ _ (stages_step (line_by topology before step) c.as_slice-spec-items.result.now topology.stages c.loop-spec.spec-index c.spec-item.result c.as_slice-spec-items.ensures c.loop-spec-test.true c.spec-item.is)
    (g.met.W.TextSink.together _ _ _ _ _ (c.loop-spec.invariant before step are) (c.put_line_of.ensures _ _ (successful_is topology before step rows _ are) (failed_is topology before step rows _ are)))

pub returns : goal.returns
returns g c = λ before step are.
    let topology = c.args.topology.now in
    let all = subst (λ stages. length stages ≤ c.loop-spec.spec-index) c.as_slice-spec-items.ensures c.loop-spec-test.false in
    retext g.W.TextSink.puts _ _ _ _ (ap (λ stages. flat_map (line_by topology before step) stages) (take_all c.loop-spec.spec-index topology.stages all) ∙ all_lines topology before step c.requires.sound)
    (c.loop-spec.invariant before step are)
