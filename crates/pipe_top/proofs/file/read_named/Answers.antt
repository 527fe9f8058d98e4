use Rattle.std.proofs.Common.{refl}
use Rattle.edge_names.proofs.Seeing.{seen_by}
use Rattle.pipe_top.proofs.Reading.{LeavesEdges, file_read, file_failed, file_wanting, file_unasked}
use Rattle.pipe_top.proofs.file.read_named.Given.{Over}
use Rattle.pipe_top.proofs.file.read_named.Goals.{After-read_file}
use Rattle.pipe_top.proofs.file.read_named.Goals as goal

leaves : (g : Over) (c : After-read_file g) → LeavesEdges (seen_by g.E.Edges g.E.Source.ByteSource g.E.Sink.ByteSink c.args.edges.now) (seen_by g.E.Edges g.E.Source.ByteSource g.E.Sink.ByteSink c.read_file.new.self)
leaves g c = let r = c.read_file.ensures in record { same_telling = r.same_telling; stands = r.stands; same_sources = rw r.back.sources refl; same_sinks = rw r.back.sinks refl; faults_stay = r.faults_stay }

pub returns-in_default : goal.returns-in_default
returns-in_default g c = file_unasked _ c.args.name.now

pub returns-in-Ok-read_file : goal.returns-in-Ok-read_file
returns-in-Ok-read_file g c =
    let r = c.in-Ok-read_file.ensures in
    file_read _ _ c.args.name.now c.in-Ok.name c.in-Ok-read_file.bytes c.topology_in.result c.in-Ok.ensures (leaves g (goal.at.returns-in-Ok-read_file g c).After-read_file) r.given r.asked c.topology_in.ensures

pub returns-in-Err-Failed : goal.returns-in-Err-Failed
returns-in-Err-Failed g c =
    let r = c.in-Err-Failed.ensures in
    file_failed _ _ c.args.name.now c.in-Ok.name c.in-Ok.ensures (leaves g (goal.at.returns-in-Err-Failed g c).After-read_file) (rw c.in-Err-Failed.field-0-is at r.asked) (rw c.in-Err-Failed.field-0-is at r.cause)

pub returns-in-Err-OutOfMemory : goal.returns-in-Err-OutOfMemory
returns-in-Err-OutOfMemory g c = file_wanting _ _ c.args.name.now (leaves g (goal.at.returns-in-Err-OutOfMemory g c).After-read_file) (rw c.in-Err-OutOfMemory.field-0-is at c.in-Err-OutOfMemory.ensures.asked)
