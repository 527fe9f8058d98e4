use Rattle.source_lines.proofs.Fetches.{reads_on}
use Rattle.source_lines.proofs.reading.read_lines.Goals as goal

-- src/reading.rt:13:1
pub returns-clause-read : goal.returns-clause-read
returns-clause-read g c =
    let f = c.fetch.ensures in
    reads_on g.B.ByteSource c.args.source.now c.fetch.new.self _ c.fetch.result
    (record {
      handed = f.handed;
      in_order = f.in_order;
      each_is_a_line = f.each_is_a_line;
      cause = f.cause;
      nothing_left = f.nothing_left;
      remembers = f.remembers;
      again = f.again;
      paced = f.paced;
    })

pub returns-clause-needed : goal.returns-clause-needed
returns-clause-needed g c = c.fetch.ensures.needed
