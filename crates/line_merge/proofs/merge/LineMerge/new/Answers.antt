use Rattle.std.proofs.Common.{◌∙◌, map}
use Rattle.source_lines.specs.Seen.{source_seen}
use Rattle.line_merge.proofs.Merging.{none_placed}
use Rattle.line_merge.proofs.Opened.{nothing_read_of_all}
use Rattle.line_merge.proofs.merge.LineMerge.new.Goals as goal

pub returns-in-Ok-clause-merged : goal.returns-in-Ok-clause-merged
returns-in-Ok-clause-merged g c = record {
  placed = none_placed (map (source_seen g.B.ByteSource) c.args.sources);
  each = nothing_read_of_all g.B.ByteSource c.args.sources c.in-Ok.streams.items (c.in-Ok.ensures.sources ∙ c.into_vec.ensures) c.in-Ok.ensures.open;
  known = tt;
}
