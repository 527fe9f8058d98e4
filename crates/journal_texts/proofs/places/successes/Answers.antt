use Rattle.std.proofs.Common.{◌≡◌, ◌≤◌, take, length, ap, sym, ◌∙◌, arith}
use Rattle.std.specs.Prelude.{count_by, ◌+◌}
use Rattle.std.proofs.lemmas.List.{take_all, length-take-le}
use Rattle.std.proofs.lemmas.List.Sums.{count_by-le-length}
use Rattle.journal_texts.specs.Report.{is_successful}
use Rattle.journal_texts.proofs.Placewise.{count_next, at_most_one}
use Rattle.journal_texts.proofs.places.successes.Goals as goal

pub overflow_add-count : goal.overflow_add-count
overflow_add-count c =
    let items = c.args.places.now.items in
    let few = count_by-le-length is_successful (take c.loop-at.at items) in
    omega (arith, few, c.loop-at.invariant, c.one_if-count.ensures, at_most_one c.is_successful.result, length-take-le c.loop-at.at items (omega (arith, c.loop-at-test.true, c.len-at-end.ensures)))

pub loop-at-preserved : goal.loop-at-preserved
loop-at-preserved c =
    let items = c.args.places.now.items in
    ap (λ n. n + c.one_if-count.result) c.loop-at.invariant
    ∙ (ap (λ n. count_by is_successful (take c.loop-at.at items) + n) c.one_if-count.ensures ∙ count_next is_successful items c.loop-at.at c.read.result c.is_successful.result c.read.ensures c.is_successful.ensures)

pub returns : goal.returns
returns c =
    let items = c.args.places.now.items in
    c.loop-at.invariant ∙ ap (count_by is_successful) (take_all c.loop-at.at items (omega (arith, c.loop-at-test.false, c.len-at-end.ensures)))
