-- What a line source shows.
use Rattle.std.specs.Prelude.{ℕ, List, Option}
use Rattle.pipe_edges.specs.declared.lines.LineSource.{LineSource}
use Rattle.pipe_edges.specs.declared.reading.LineEnd.{LineEnd}

-- where the bytes come from
abbrev pub line_source : {B : Type 0} → LineSource B → B
line_source s = s.source

-- the bytes that were read and stand behind the lines that were handed out
abbrev pub waiting : {B : Type 0} → LineSource B → List ℕ
waiting s = s.held

-- why no more lines come, once that is known
abbrev pub line_end_of : {B : Type 0} → LineSource B → Option LineEnd
line_end_of s = s.end
