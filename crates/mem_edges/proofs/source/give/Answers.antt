use Rattle.std.proofs.Common.{arith}
use Rattle.mem_edges.proofs.Parts.{next_bytes}
use Rattle.mem_edges.proofs.source.give.Goals as goal

pub returns-clause-bytes : goal.returns-clause-bytes
returns-clause-bytes c =
    next_bytes c.args.bytes.now _ _ c.args.at.now c.min-count.result (omega arith) c.copy_from_slice.ensures.after
