use Rattle.std.proofs.Common.{◌≡◌, ◌≤◌, ◌+◌, ◌++◌, length, map, reverse, vec_capacity}
use Rattle.line_merge.specs.Opening.{source_in}
use Rattle.line_merge.proofs.streams.close_each.Given as goal

abbrev pub invariant-loop-stream : goal.invariant-loop-stream
invariant-loop-stream g l = record {
  room : length l.streams.items + length l.sources.items ≤ vec_capacity l.sources;
  same : map source_in l.streams.items ++ reverse l.sources.items ≡ map source_in l.fn.streams.items ++ reverse l.fn.sources.items;
}

abbrev pub decreases-loop-stream : goal.decreases-loop-stream
decreases-loop-stream g l = length l.streams.items
