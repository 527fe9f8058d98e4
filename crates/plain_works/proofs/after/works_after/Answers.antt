use Rattle.std.proofs.Common.{ap, ◌∙◌}
use Rattle.plain_queues.specs.Flows.{topology_of, history_of}
use Rattle.plain_works.specs.Works.{units_by, count_by, handled_by, with_taken, with_count, with_handled}
use Rattle.plain_works.proofs.Rows.{takes_led, counts_led, handled_led, stand_next}
use Rattle.plain_works.proofs.after.works_after.Goals as goal

pub returns : goal.returns
returns c =
    let works = c.args.works in
    stand_next (topology_of c.args.flow.now) (history_of c.args.flow.now) c.args.step.now works
    (record { takes = c.in_ok-take_rows.take_rows; counts = c.in_ok-count_rows.count_rows; handled = c.in_ok-handled_rows.handled_rows })
    (λ s. ap (λ rows. units_by rows s) c.in_ok-take_rows.ensures ∙ takes_led c.in_ok-take.take works.takes.items s ∙ ap (λ row. with_taken row s (units_by works.takes.items s)) c.in_ok-take.ensures)
    (λ s. ap (λ rows. count_by rows s) c.in_ok-count_rows.ensures ∙ counts_led c.in_ok-count.count works.counts.items s ∙ ap (λ row. with_count row s (count_by works.counts.items s)) c.in_ok-count.ensures)
    (λ u. ap (λ rows. handled_by rows u) c.in_ok-handled_rows.ensures ∙ handled_led c.in_ok-handling.handling works.handled.items u ∙ ap (λ row. with_handled row u (handled_by works.handled.items u)) c.in_ok-handling.ensures)
    c.requires.works
