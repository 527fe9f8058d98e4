-- What was found, as the item that it becomes.
use Rattle.std.specs.Prelude.{ℕ}
use Rattle.pipe_edges.specs.declared.reading.Fetched.{Fetched}
use Rattle.pipe_edges.specs.declared.reading.Fetched.TheVariants as fetched
use Rattle.line_merge.specs.Taken.{only}
use Rattle.line_merge.specs.declared.item.MergeItem.{MergeItem}
use Rattle.line_merge.specs.declared.item.MergeItem.TheVariants.{Line, NotYet, End, Fault, TooLong}

abbrev pub item_by : (place : ℕ) → Fetched → MergeItem
item_by place (fetched.Records records) = Line place (only records)
item_by place fetched.NotYet = NotYet
item_by place fetched.End = End
item_by place fetched.Fault = Fault place
item_by place fetched.TooLong = TooLong place
