use Rattle.std.proofs.Common.{◌≡◌, ℕ, [], length}
use Rattle.std.specs.Prelude.{slice_get}
use Rattle.line_merge.specs.Streams.{Both}
use Rattle.line_merge.specs.Tries.{Gives, AreTried, is_in}
use Rattle.line_merge.proofs.tries.try_range.Given as goal

-- the sources so far have no line
abbrev pub invariant-loop-at : goal.invariant-loop-at
invariant-loop-at g l =
    let source = g.B.ByteSource in
    record {
      len : length l.streams.items ≡ length l.fn.streams.items;
      gives : (k : ℕ) → Both (Gives source []) (slice_get l.fn.streams.items k) (slice_get l.streams.items k);
      tried : AreTried source (is_in l.from l.at) (slice_get l.fn.streams.items) (slice_get l.streams.items);
    }
