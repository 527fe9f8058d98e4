use Rattle.std.proofs.Common.{◌≡◌, ◌≤◌, ◌-◌, length, drop, false}
use Rattle.pipe_model.specs.History.{History}
use Rattle.ack_texts.proofs.Along.{At}
use Rattle.ack_feed.specs.Feeds.{topology_of, shown_of, opened_of, feed_of, Flows}
use Rattle.ack_feed.specs.Lines.{sink_of, has_failed}
use Rattle.ack_feed.proofs.feed.AckFeed+K.catch_up.Given as goal

-- it has seen the steps in front of the rows that are left
abbrev pub invariant-groups : goal.invariant-groups
invariant-groups g l = record {
  within : l.start ≤ length l.rows;
  along : (before : History) × At l.journal.steps l.rows (drop l.start l.rows) before × (shown_of l.self ≡ length before) × Flows g.K.ByteSink.told g.K.ByteSink.held l.self before;
  topology : topology_of l.self ≡ topology_of l.initial.self;
  opened : opened_of l.self ≡ opened_of l.initial.self;
  whole : has_failed (feed_of l.self) ≡ false;
  same_telling : g.K.ByteSink.told (sink_of (feed_of l.self)) ≡ g.K.ByteSink.told (sink_of (feed_of l.initial.self));
  faults_stay : g.K.ByteSink.faults (sink_of (feed_of l.initial.self)) ≤ g.K.ByteSink.faults (sink_of (feed_of l.self));
}

abbrev pub decreases-groups : goal.decreases-groups
decreases-groups g l = length l.rows - l.start
