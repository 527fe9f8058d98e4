use Rattle.std.proofs.Common.{◌∙◌}
use Rattle.pipe_model.specs.Flow.{picks_by}
use Rattle.plain_queues.specs.Flows.{topology_of, history_of}
use Rattle.plain_queues.specs.Views.{view_in}
use Rattle.plain_sends.proofs.Marks.{sent_step, served_step}
use Rattle.plain_sends.proofs.casts.cast.Goals as goal

pub loop-i-preserved : goal.loop-i-preserved
loop-i-preserved c =
    let picks = picks_by (topology_of c.args.flow.now) (history_of c.args.flow.now) (view_in c.args.flow.now.tables.now) in (
      sent_step picks c.args.rooms.now c.args.batches.now c.loop-i.i c.loop-i.sent.items c.in_ok-more_sent.more_sent.items c.loop-i-test.true c.in_ok-more_sent.ensures
          ∙ c.loop-i.invariant.0,
      served_step picks c.args.rooms.now c.args.batches.now c.loop-i.i c.loop-i.served.items c.in_ok-more_served.more_served.items c.loop-i-test.true c.in_ok-more_served.ensures
          ∙ c.loop-i.invariant.1,
    )
