use Rattle.std.proofs.Common.{◌≡◌, ◌≤◌, ◌+◌, ◌++◌, length, map, reverse, vec_capacity}
use Rattle.line_merge.specs.Opening.{AreNew, source_in}
use Rattle.line_merge.proofs.streams.open_each.Given as goal

abbrev pub invariant-loop-source : goal.invariant-loop-source
invariant-loop-source g l = record {
  room : length l.streams.items + length l.sources.items ≤ vec_capacity l.streams;
  same : map source_in l.streams.items ++ reverse l.sources.items ≡ map source_in l.fn.streams.items ++ reverse l.fn.sources.items;
  all_new : AreNew l.streams.items;
  capacity : vec_capacity l.sources ≡ vec_capacity l.fn.sources;
  count : length l.streams.items + length l.sources.items ≡ length l.fn.streams.items + length l.fn.sources.items;
}

abbrev pub decreases-loop-source : goal.decreases-loop-source
decreases-loop-source g l = length l.sources.items
