use Rattle.std.proofs.Common.{take, ap, ◌∙◌, arith}
use Rattle.std.specs.Prelude.{count_by, ◌+◌}
use Rattle.std.proofs.lemmas.List.{take_all, length-take-le}
use Rattle.journal_audit.specs.Counts.{is_among}
use Rattle.journal_texts.proofs.Placewise.{count_next, at_most_one}
use Rattle.journal_audit.proofs.Counting.{count_within}
use Rattle.journal_audit.proofs.summary.count.Goals as goal

pub overflow_add-count : goal.overflow_add-count
overflow_add-count c =
    let items = c.args.places.now.items in
    let few = count_within (is_among c.args.which) (take c.loop-at.at items) in
    omega (arith, few, c.requires.few, c.loop-at.invariant, c.one_if-count.ensures, at_most_one c.is_counted.result, length-take-le c.loop-at.at items (omega (arith, c.loop-at-test.true, c.len-at-end.ensures)), c.loop-at-test.true, c.len-at-end.ensures)

pub loop-at-preserved : goal.loop-at-preserved
loop-at-preserved c =
    let items = c.args.places.now.items in
    ap (λ n. n + c.one_if-count.result) c.loop-at.invariant
    ∙ (ap (λ n. count_by (is_among c.args.which) (take c.loop-at.at items) + n) c.one_if-count.ensures ∙ count_next (is_among c.args.which) items c.loop-at.at c.read.result c.is_counted.result c.read.ensures c.is_counted.ensures)

pub returns : goal.returns
returns c =
    let items = c.args.places.now.items in
    c.loop-at.invariant ∙ ap (count_by (is_among c.args.which)) (take_all c.loop-at.at items (omega (arith, c.loop-at-test.false, c.len-at-end.ensures)))
