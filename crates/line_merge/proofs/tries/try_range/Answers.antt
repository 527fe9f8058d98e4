use Rattle.std.proofs.Common.{sym, ◌∙◌}
use Rattle.std.specs.Prelude.{slice_get}
use Rattle.line_merge.proofs.Ranges.{found_in_range, tried_all}
use Rattle.line_merge.proofs.tries.try_range.Goals as goal

pub returns-in-Some-clause-cause : goal.returns-in-Some-clause-cause
returns-in-Some-clause-cause g c =
    let x = c.loop-at.invariant in
    let e = c.in-Ok.ensures in
    found_in_range g.B.ByteSource c.args.from c.args.to c.loop-at.at (slice_get c.args.streams.now.items) (slice_get c.loop-at.streams.items) (slice_get c.try_at.new.streams.items)
    c.in-Ok.tried c.in-Some.item c.loop-at.auto.at c.loop-at-test.true (sym c.item_at.ensures ∙ c.in-Some.is) x.tried e.others e.cause

pub returns-clause-cause : goal.returns-clause-cause
returns-clause-cause g c =
    let x = c.loop-at.invariant in
    tried_all g.B.ByteSource c.args.from c.args.to c.loop-at.at (slice_get c.args.streams.now.items) (slice_get c.loop-at.streams.items)
    c.loop-at-test.false (c.loop-at.auto.at-end c.requires.ordered) x.tried
