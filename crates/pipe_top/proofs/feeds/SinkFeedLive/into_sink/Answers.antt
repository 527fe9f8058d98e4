use Rattle.std.proofs.Common.{ap}
use Rattle.pipe_top.proofs.Feeding.{fed_since}
use Rattle.pipe_top.proofs.feeds.SinkFeedLive.into_sink.Goals as goal

pub returns-clause-fed : goal.returns-clause-fed
returns-clause-fed g c = λ topology steps all fits part whole.
    fed_since g.K.ByteSink.told g.K.ByteSink.held c.args.watch _ (ap g.K.ByteSink.told c.into_sink.ensures) (ap g.K.ByteSink.held c.into_sink.ensures) topology steps all fits part whole
