use Rattle.std.proofs.Common.{ap, ◌∙◌}
use Rattle.std.specs.Prelude.{Ok}
use Rattle.pipe_edges.specs.Fetch.{records_of}
use Rattle.line_merge.specs.Items.{line_of}
use Rattle.line_merge.proofs.Taking.{gives_on, records_by}
use Rattle.line_merge.proofs.stream.Stream.take_line.Goals as goal

pub returns-in-Ok-clause-gives : goal.returns-in-Ok-clause-gives
returns-in-Ok-clause-gives g c =
    let f = c.in-Ok.ensures in
    let t = c.new-tried.result in
    gives_on g.B.ByteSource c.args.self.now _ (Ok c.in-Ok.fetched) (line_of t)
    (record { handed = f.handed; in_order = f.in_order; each_is_a_line = f.each_is_a_line; cause = f.cause; nothing_left = f.nothing_left; remembers = f.remembers; again = f.again; paced = f.paced })
    (ap records_of c.new-tried.ensures ∙ records_by t)
