use Rattle.std.proofs.Common.{◌≡◌, ℕ, ◌+◌, ◌-◌, [], ◌∷◌, ◌++◌, length, take, drop, ap, sym, ◌∙◌, subst, arith}
use Rattle.std.proofs.lemmas.List.{drop_all, take-append-drop}
use Rattle.pipe_journal.specs.declared.acked.AckRow.{AckRow}
use Rattle.pipe_journal.specs.Acked.{AreAcked}
use Rattle.journal_texts.proofs.Lists.{retext}
use Rattle.ack_texts.specs.Groups.{IsGroup}
use Rattle.ack_texts.proofs.Along.{At, at_end, at_start, drop_add, further, rest_group, rest_within}
use Rattle.ack_texts.proofs.groups.put_groups.Goals as goal

pub groups-init : goal.groups-init
groups-init g c = record { within = omega arith; puts = λ steps log. ([], at_start steps c.args.rows.now, g.met.W.TextSink.nothing _) }

pub groups-preserved : goal.groups-preserved
groups-preserved g c =
    let rows = c.args.rows.now in
    let start = c.groups.start in
    let count = c.group_len.result in
    let group = rest_group rows start count c.group_len.ensures.group in
    record {
      within = rest_within rows start count c.groups.invariant.within c.group_len.ensures.within;
      puts = λ steps log.
          let at = c.groups.invariant.puts steps log in
          let rest : drop start rows ≡ take count (drop start rows) ++ drop count (drop start rows) = sym (take-append-drop count (drop start rows)) in
          let f = further c.args.topology.now steps rows (drop start rows) at.0 (take count (drop start rows)) (drop count (drop start rows)) log at.1 rest group in
          let width : count ≡ (start + count) - start = omega arith in (
            f.step ∷ f.middle,
            subst (λ rs. At steps rows rs (f.step ∷ f.middle)) (drop_add count start rows) f.at,
            retext g.W.TextSink.puts _ _ _ _ (sym f.text)
                (g.met.W.TextSink.together _ _ _ _ _ at.2 (c.put_group.ensures f.middle f.step (subst (λ n. AreAcked c.args.topology.now f.middle f.step (take n (drop start rows))) width f.acked))),
          );
    }

pub returns : goal.returns
returns g c = λ steps log.
    let rows = c.args.rows.now in
    let at = c.groups.invariant.puts steps log in
    retext g.W.TextSink.puts _ _ _ _ (at_end c.args.topology.now steps rows (drop c.groups.start rows) at.0 log at.1 (drop_all c.groups.start rows (omega (arith, c.groups-test.false)))) at.2
