use Rattle.std.proofs.Common.{◌≡◌, ◌+◌, length, take, ap, ◌∙◌, arith}
use Rattle.pipe_model.specs.History.{bytes_in}
use Rattle.plain_counts.proofs.Lists.{take_one_more}
use Rattle.plain_counts.proofs.Sums.{bytes_more}
use Rattle.plain_counts.proofs.counts.bytes_of.Goals as goal

pub loop-record-preserved : goal.loop-record-preserved
loop-record-preserved c =
    let xs = c.args.records.now in
    let i = c.loop-record.record-index in
    let r = c.record-item.result in
    let sum : bytes_in (take (i + 1) xs) ≡ bytes_in (take i xs) + length r = ap bytes_in (take_one_more xs i r (omega arith) c.record-item.is) ∙ bytes_more (take i xs) r in
    let new : c.in_ok-count.count ≡ c.loop-record.count + c.len.result = c.in_ok-count.ensures in
    let len : c.len.result ≡ length r = c.len.ensures in
    omega (arith, sum, new, len, c.loop-record.invariant)
