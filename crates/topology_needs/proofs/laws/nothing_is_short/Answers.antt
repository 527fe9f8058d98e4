use Rattle.topology_needs.proofs.Rows.{enough}
use Rattle.topology_needs.proofs.laws.nothing_is_short.Goals as goal

pub returns : goal.returns
returns c = enough c.args.topology.now c.args.boxes.now c.args.kind c.requires
