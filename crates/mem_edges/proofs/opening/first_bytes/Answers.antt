use Rattle.mem_edges.proofs.Parts.{first_of}
use Rattle.mem_edges.proofs.opening.first_bytes.Goals as goal

pub returns : goal.returns
returns c =
    first_of _ _ _ _ _ _ c.from_vec.ensures c.in_ok-from_slice.ensures.items c.as_slice-all.ensures c.min-count.ensures
