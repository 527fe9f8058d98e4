use Rattle.std.proofs.Common.{◌+◌, ap}
use Rattle.journal_texts.proofs.Tallies.{counted_more}
use Rattle.journal_texts.proofs.failures.count_one.Goals as goal

pub returns : goal.returns
returns c =
    let put = c.in_ok-insert.ensures in
    counted_more c.args.reasons.now c.insert.new.self c.args.reason _ put.was_ordered put.entries (ap (λ n. n + 1) c.count_of-before.ensures)
