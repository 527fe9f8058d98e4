use Rattle.std.proofs.Common.{◌≡◌, ℕ, ◌+◌, ◌-◌, ◌∷◌, ◌++◌, length, take, drop, ap, sym, ◌∙◌, refl, subst, arith, Ok}
use Rattle.std.proofs.lemmas.List.{drop_all, take-append-drop}
use Rattle.pipe_laws.proofs.Journals.{begins_with_itself}
use Rattle.pipe_journal.specs.Acked.{AreAcked, IsLog}
use Rattle.ack_texts.proofs.Along.{At, at_end, at_seen, drop_add, further, group_place, rest_group, rest_within}
use Rattle.ack_feed.specs.Moves.{ended_failed}
use Rattle.ack_feed.specs.declared.lines.FeedEnd.{FeedEnd}
use Rattle.ack_feed.specs.declared.lines.FeedEnd.TheVariants.{Done, Failed}
use Rattle.ack_feed.proofs.Moving.{place_within, sent_done, sent_failed, sent_wanting}
use Rattle.ack_feed.proofs.feed.AckFeed+K.catch_up.Goals as goal

pub groups-init : goal.groups-init
groups-init g c =
    let f = c.requires.follows in
    record {
      within = c.rows_from-start.ensures.within;
      along = (
        f.steps,
        at_seen c.args.self.now.topology c.args.journal.now.steps c.args.rows.now f.steps c.args.self.now.shown c.rows_from-start.result f.shown c.requires.log f.begins c.rows_from-start.ensures.late c.rows_from-start.ensures.early,
        f.shown,
        f.flows,
      );
      topology = refl;
      opened = refl;
      whole = c.requires.whole;
      same_telling = refl;
      faults_stay = omega arith;
    }

pub steps_upto-next-requires : goal.steps_upto-next-requires
steps_upto-next-requires g c = place_within c.args.self.now.topology c.args.journal.now.steps c.args.rows.now c.groups.start c.len-steps.result _ c.requires.log c.len-steps.ensures c.groups-test.true

-- the lines of one step were sent

pub groups-preserved : goal.groups-preserved
groups-preserved g c =
    let told = g.K.ByteSink.told in
    let held = g.K.ByteSink.held in
    let steps = c.args.journal.now.steps in
    let rows = c.args.rows.now in
    let start = c.groups.start in
    let count = c.group_len.result in
    let old = c.groups.self in
    let new = c.send_group.new.self in
    let at = c.groups.invariant.along in
    let log : IsLog old.topology steps rows = subst (λ t. IsLog t steps rows) (sym c.groups.invariant.topology) c.requires.log in
    let rest : drop start rows ≡ take count (drop start rows) ++ drop count (drop start rows) = sym (take-append-drop count (drop start rows)) in
    let group = rest_group rows start count c.group_len.ensures.group in
    let f = further old.topology steps rows (drop start rows) at.0 (take count (drop start rows)) (drop count (drop start rows)) log at.1 rest group in
    let width : count ≡ (start + count) - start = omega arith in
    let is : c.send_group.result ≡ Ok Done = c.in-Ok-Done.is ∙ ap (λ (e : FeedEnd). Ok e) c.in-Ok-Done.field-0-is in
    let sent = sent_done _ told held old new c.steps_upto-next.result at.0 (f.step ∷ f.middle) is
    (c.send_group.ensures.sent at.0 f.middle f.step (subst (λ n. AreAcked old.topology f.middle f.step (take n (drop start rows))) width f.acked) f.text at.3) in
    record {
      within = rest_within rows start count c.groups.invariant.within c.group_len.ensures.within;
      along = (
        f.step ∷ f.middle,
        subst (λ rs. At steps rows rs (f.step ∷ f.middle)) (drop_add count start rows) f.at,
        sent.0 ∙ (c.steps_upto-next.ensures ∙ (ap (λ n. n + 1) (group_place rows start count group.place _ c.groups-test.true c.group_len.ensures.some group.same) ∙ omega (arith, f.long))),
        sent.1,
      );
      topology = c.send_group.ensures.topology ∙ c.groups.invariant.topology;
      opened = c.send_group.ensures.opened ∙ c.groups.invariant.opened;
      whole = c.send_group.ensures.failed ∙ ap ended_failed is;
      same_telling = c.send_group.ensures.same_telling ∙ c.groups.invariant.same_telling;
      faults_stay = omega (arith, c.send_group.ensures.faults_stay, c.groups.invariant.faults_stay);
    }

-- A write failed, or memory was wanting

pub returns-in-Ok-Failed-clause-follows : goal.returns-in-Ok-Failed-clause-follows
returns-in-Ok-Failed-clause-follows g c =
    let told = g.K.ByteSink.told in
    let held = g.K.ByteSink.held in
    let steps = c.args.journal.now.steps in
    let rows = c.args.rows.now in
    let start = c.groups.start in
    let count = c.group_len.result in
    let old = c.groups.self in
    let at = c.groups.invariant.along in
    let log : IsLog old.topology steps rows = subst (λ t. IsLog t steps rows) (sym c.groups.invariant.topology) c.requires.log in
    let rest : drop start rows ≡ take count (drop start rows) ++ drop count (drop start rows) = sym (take-append-drop count (drop start rows)) in
    let f = further old.topology steps rows (drop start rows) at.0 (take count (drop start rows)) (drop count (drop start rows)) log at.1 rest (rest_group rows start count c.group_len.ensures.group) in
    let width : count ≡ (start + count) - start = omega arith in
    let is : c.send_group.result ≡ Ok Failed = c.in-Ok-Failed.is ∙ ap (λ (e : FeedEnd). Ok e) c.in-Ok-Failed.field-0-is in
    let sent = sent_failed _ told held old c.send_group.new.self c.steps_upto-next.result at.0 (f.step ∷ f.middle) is
    (c.send_group.ensures.sent at.0 f.middle f.step (subst (λ n. AreAcked old.topology f.middle f.step (take n (drop start rows))) width f.acked) f.text at.3) in
    record { steps = at.0; shown = sent.0 ∙ at.2; flows = sent.1; begins = at.1.begins }

pub returns-in-Err-clause-follows : goal.returns-in-Err-clause-follows
returns-in-Err-clause-follows g c =
    let told = g.K.ByteSink.told in
    let held = g.K.ByteSink.held in
    let steps = c.args.journal.now.steps in
    let rows = c.args.rows.now in
    let start = c.groups.start in
    let count = c.group_len.result in
    let old = c.groups.self in
    let at = c.groups.invariant.along in
    let log : IsLog old.topology steps rows = subst (λ t. IsLog t steps rows) (sym c.groups.invariant.topology) c.requires.log in
    let rest : drop start rows ≡ take count (drop start rows) ++ drop count (drop start rows) = sym (take-append-drop count (drop start rows)) in
    let f = further old.topology steps rows (drop start rows) at.0 (take count (drop start rows)) (drop count (drop start rows)) log at.1 rest (rest_group rows start count c.group_len.ensures.group) in
    let width : count ≡ (start + count) - start = omega arith in
    let sent = sent_wanting _ _ told held old c.send_group.new.self c.steps_upto-next.result at.0 (f.step ∷ f.middle) c.in-Err.is
    (c.send_group.ensures.sent at.0 f.middle f.step (subst (λ n. AreAcked old.topology f.middle f.step (take n (drop start rows))) width f.acked) f.text at.3) in
    record { steps = at.0; shown = sent.0 ∙ at.2; flows = sent.1; begins = at.1.begins }

-- All was seen

pub returns-clause-follows : goal.returns-clause-follows
returns-clause-follows g c =
    let steps = c.args.journal.now.steps in
    let rows = c.args.rows.now in
    let at = c.groups.invariant.along in
    let log : IsLog c.groups.self.topology steps rows = subst (λ t. IsLog t steps rows) (sym c.groups.invariant.topology) c.requires.log in
    let same = at_end c.groups.self.topology steps rows (drop c.groups.start rows) at.0 log at.1 (drop_all c.groups.start rows (omega (arith, c.groups-test.false))) in
    record {
      steps = steps;
      shown = c.len-steps.ensures;
      flows = λ tells. let got = at.3 tells in (got.0, got.1, got.2 ∙ same);
      begins = begins_with_itself steps;
    }

pub returns-clause-all : goal.returns-clause-all
returns-clause-all g c = λ is.
    let steps = c.args.journal.now.steps in
    let rows = c.args.rows.now in
    let at = c.groups.invariant.along in
    let log : IsLog c.groups.self.topology steps rows = subst (λ t. IsLog t steps rows) (sym c.groups.invariant.topology) c.requires.log in
    let same = at_end c.groups.self.topology steps rows (drop c.groups.start rows) at.0 log at.1 (drop_all c.groups.start rows (omega (arith, c.groups-test.false))) in
    (c.len-steps.ensures, λ tells. let got = at.3 tells in (got.0, got.1, got.2 ∙ same))
