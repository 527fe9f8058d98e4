use Rattle.std.proofs.Common.{◌≡◌, true, false, ap, sym, ◌∙◌, refl, subst, Ok}
use Rattle.pipe_types.specs.Sound.{IsSound}
use Rattle.pipe_journal.specs.Acked.{IsLog}
use Rattle.ack_feed.specs.Lines.{has_failed}
use Rattle.ack_feed.specs.Moves.{ended_failed}
use Rattle.ack_feed.specs.Feeds.{AckFeed}
use Rattle.ack_feed.specs.declared.lines.FeedEnd.{FeedEnd}
use Rattle.ack_feed.specs.declared.lines.FeedEnd.TheVariants.{Done, Failed}
use Rattle.ack_feed.proofs.Moving.{all_seen, begun_same, flushed, follows_stands, part_seen, part_stands}
use Rattle.ack_feed.proofs.feed.AckFeedWatch.seen.Goals as goal

pub catch_up-requires-clause-sound : goal.catch_up-requires-clause-sound
catch_up-requires-clause-sound g c = c.requires.stands.1.sound

pub catch_up-requires-clause-log : goal.catch_up-requires-clause-log
catch_up-requires-clause-log g c =
    let journal = c.args.journal.now in
    subst (IsLog c.args.self.now.topology journal.steps) (sym c.acked.ensures) (subst (λ t. IsLog t journal.steps journal.acked.rows) (sym c.requires.fits.1) c.requires.fits.3)

pub catch_up-requires-clause-follows : goal.catch_up-requires-clause-follows
catch_up-requires-clause-follows g c = follows_stands g.K.ByteSink.told g.K.ByteSink.held c.args.self.now c.args.journal.now.steps c.requires.stands

-- A write failed

pub returns-in-Ok-Failed-clause-same_begun : goal.returns-in-Ok-Failed-clause-same_begun
returns-in-Ok-Failed-clause-same_begun g c = begun_same g.K.ByteSink.told g.K.ByteSink.held c.args.self.now c.catch_up.new.self c.catch_up.ensures.same_telling c.catch_up.ensures.opened

pub returns-in-Ok-Failed-clause-stands : goal.returns-in-Ok-Failed-clause-stands
returns-in-Ok-Failed-clause-stands g c =
    let new = c.catch_up.new.self in
    let is : c.catch_up.result ≡ Ok Failed = c.in-Ok-Failed.is ∙ ap (λ (e : FeedEnd). Ok e) c.in-Ok-Failed.field-0-is in
    let failed : has_failed new.feed ≡ true = c.catch_up.ensures.failed ∙ ap ended_failed is in
    part_stands g.K.ByteSink.told g.K.ByteSink.held new c.args.journal.now.steps (subst IsSound (sym c.catch_up.ensures.topology) c.requires.stands.1.sound) c.catch_up.ensures.follows
    (λ whole. let clash : true ≡ false = sym failed ∙ whole in cc)

-- All was seen

pub returns-in-Ok-Done-clause-same_begun : goal.returns-in-Ok-Done-clause-same_begun
returns-in-Ok-Done-clause-same_begun g c =
    let mid = c.catch_up.new.self in
    let new : AckFeed g.row.K.Denot = record mid { feed = c.flush.new.self } in
    begun_same g.K.ByteSink.told g.K.ByteSink.held c.args.self.now new (c.flush.ensures.same_telling ∙ c.catch_up.ensures.same_telling) c.catch_up.ensures.opened

pub returns-in-Ok-Done-clause-stands : goal.returns-in-Ok-Done-clause-stands
returns-in-Ok-Done-clause-stands g c =
    let told = g.K.ByteSink.told in
    let held = g.K.ByteSink.held in
    let steps = c.args.journal.now.steps in
    let mid = c.catch_up.new.self in
    let new : AckFeed g.row.K.Denot = record mid { feed = c.flush.new.self } in
    let is : c.catch_up.result ≡ Ok Done = c.in-Ok-Done.is ∙ ap (λ (e : FeedEnd). Ok e) c.in-Ok-Done.field-0-is in
    let all = c.catch_up.ensures.all is in
    all_seen told held new steps c.flush.result c.end_of.result c.end_of.ensures (subst IsSound (sym c.catch_up.ensures.topology) c.requires.stands.1.sound) all.0
    (flushed told held mid new steps refl refl c.flush.ensures.same_telling c.flush.ensures.fed all.1) c.flush.ensures.all

-- Memory was wanting

pub returns-in-Err-clause-same_begun : goal.returns-in-Err-clause-same_begun
returns-in-Err-clause-same_begun g c =
    let mid = c.catch_up.new.self in
    let new : AckFeed g.row.K.Denot = record mid { feed = c.flush-in-Err.new.self } in
    begun_same g.K.ByteSink.told g.K.ByteSink.held c.args.self.now new (c.flush-in-Err.ensures.same_telling ∙ c.catch_up.ensures.same_telling) c.catch_up.ensures.opened

pub returns-in-Err-clause-stands : goal.returns-in-Err-clause-stands
returns-in-Err-clause-stands g c =
    let told = g.K.ByteSink.told in
    let held = g.K.ByteSink.held in
    let mid = c.catch_up.new.self in
    let new : AckFeed g.row.K.Denot = record mid { feed = c.flush-in-Err.new.self } in
    let f = c.catch_up.ensures.follows in
    part_seen told held new c.args.journal.now.steps c.flush-in-Err.result c.end_of-in-Err.result c.end_of-in-Err.ensures (subst IsSound (sym c.catch_up.ensures.topology) c.requires.stands.1.sound)
    (record { steps = f.steps; shown = f.shown; flows = flushed told held mid new f.steps refl refl c.flush-in-Err.ensures.same_telling c.flush-in-Err.ensures.fed f.flows; begins = f.begins })
    c.flush-in-Err.ensures.all
