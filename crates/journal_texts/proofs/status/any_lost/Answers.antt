use Rattle.std.proofs.Common.{◌≡◌, [], drop, ap, sym, ◌∙◌, arith}
use Rattle.std.specs.List.{list_any}
use Rattle.std.proofs.lemmas.List.{drop_all}
use Rattle.journal_texts.specs.Report.{is_lost}
use Rattle.journal_texts.proofs.Placewise.{any_from}
use Rattle.journal_texts.proofs.status.any_lost.Goals as goal

pub returns-then-is_lost : goal.returns-then-is_lost
returns-then-is_lost c = sym (any_from is_lost c.args.places.now.items c.loop-at.at c.read.result _ c.read.ensures (sym c.if-is_lost.true ∙ c.is_lost.ensures)) ∙ c.loop-at.invariant

pub loop-at-preserved : goal.loop-at-preserved
loop-at-preserved c = sym (any_from is_lost c.args.places.now.items c.loop-at.at c.read.result _ c.read.ensures (sym c.if-is_lost.false ∙ c.is_lost.ensures)) ∙ c.loop-at.invariant

pub returns : goal.returns
returns c =
    let items = c.args.places.now.items in
    let none : drop c.loop-at.at items ≡ [] = drop_all c.loop-at.at items (omega (arith, c.loop-at-test.false, c.len-at-end.ensures)) in
    ap (list_any is_lost) (sym none) ∙ c.loop-at.invariant
