-- What contracts see of a source of bytes and of its lines: plain data.
use Rattle.std.specs.Prelude.{ℕ, Bool, List, Option}
use Rattle.pipe_edges.specs.declared.source.ByteSource.{Ghosts as SourceOf}
use Rattle.pipe_edges.specs.Paces.{PaceSeen}
use Rattle.pipe_edges.specs.LineSource.{line_source, waiting, line_end_of}
use Rattle.pipe_edges.specs.declared.lines.LineSource.{LineSource}
use Rattle.pipe_edges.specs.declared.reading.LineEnd.{LineEnd}

-- a source of bytes: whether it tells them, what was read and what is left, its faults and its waits, and its gate
pub record SourceSeen : Type 0 where
  pub told : Bool
  pub taken : List ℕ
  pub left : List ℕ
  pub faults : ℕ
  pub waits : ℕ
  pub paced : PaceSeen

abbrev pub source_seen : {S : Type 0} → SourceOf S → S → SourceSeen
source_seen source s =
    record { told = source.told s; taken = source.taken s; left = source.left s; faults = source.faults s; waits = source.waits s; paced = source.paced s }

-- a source whose lines are handed out: the source, the bytes that were read and not handed out, and why no more come
pub record LineSeen : Type 0 where
  pub source : SourceSeen
  pub waiting : List ℕ
  pub end : Option LineEnd

abbrev pub line_seen : {S : Type 0} → SourceOf S → LineSource S → LineSeen
line_seen source lines =
    record { source = source_seen source (line_source lines); waiting = waiting lines; end = line_end_of lines }
