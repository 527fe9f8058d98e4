use Rattle.std.proofs.Common.{◌≡◌, ◌≤◌, ◌-◌, length, get_or, arith}
use Rattle.pipe_journal.proofs.Cutting.{part_at}
use Rattle.pipe_journal.proofs.shelf.part.Goals as goal

pub slice_bounds-result-count : goal.slice_bounds-result-count
slice_bounds-result-count c =
    let found = part_at 0 c.args.bytes.now c.args.ends.now c.args.at c.requires.ends c.requires.within in
    omega (arith, c.start_of-start.ensures, found.ordered)

pub slice_bounds-result-start : goal.slice_bounds-result-start
slice_bounds-result-start c =
    let found = part_at 0 c.args.bytes.now c.args.ends.now c.args.at c.requires.ends c.requires.within in
    let ordered : c.start_of-start.result ≤ get_or c.args.ends.now c.args.at 0 = omega (arith, c.start_of-start.ensures, found.ordered) in
    ordered

pub slice_bounds-result-end : goal.slice_bounds-result-end
slice_bounds-result-end c =
    let found = part_at 0 c.args.bytes.now c.args.ends.now c.args.at c.requires.ends c.requires.within in
    let within : get_or c.args.ends.now c.args.at 0 ≤ length c.args.bytes.now = found.within in
    within

pub returns : goal.returns
returns c = rw c.start_of-start.ensures (part_at 0 c.args.bytes.now c.args.ends.now c.args.at c.requires.ends c.requires.within).is
