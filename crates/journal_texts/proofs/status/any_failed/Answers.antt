use Rattle.std.proofs.Common.{◌≡◌, [], drop, ap, sym, ◌∙◌, arith}
use Rattle.std.specs.List.{list_any}
use Rattle.std.proofs.lemmas.List.{drop_all}
use Rattle.journal_texts.specs.Report.{is_failed}
use Rattle.journal_texts.proofs.Placewise.{any_from}
use Rattle.journal_texts.proofs.status.any_failed.Goals as goal

pub returns-then-is_failed : goal.returns-then-is_failed
returns-then-is_failed c = sym (any_from is_failed c.args.places.now.items c.loop-at.at c.read.result _ c.read.ensures (sym c.if-is_failed.true ∙ c.is_failed.ensures)) ∙ c.loop-at.invariant

pub loop-at-preserved : goal.loop-at-preserved
loop-at-preserved c = sym (any_from is_failed c.args.places.now.items c.loop-at.at c.read.result _ c.read.ensures (sym c.if-is_failed.false ∙ c.is_failed.ensures)) ∙ c.loop-at.invariant

pub returns : goal.returns
returns c =
    let items = c.args.places.now.items in
    let none : drop c.loop-at.at items ≡ [] = drop_all c.loop-at.at items (omega (arith, c.loop-at-test.false, c.len-at-end.ensures)) in
    ap (list_any is_failed) (sym none) ∙ c.loop-at.invariant
