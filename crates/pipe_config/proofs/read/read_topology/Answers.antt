use Rattle.pipe_config.specs.File.{topology_of_file}
use Rattle.pipe_config.proofs.Sound.{accepted_of, refused_of, sound_of}
use Rattle.pipe_config.proofs.read.read_topology.Goals as goal

pub returns : goal.returns
returns c = record {
  accepted = accepted_of (topology_of_file c.args.bytes.now) c.answer_of.result c.answer_of.ensures;
  refused = refused_of (topology_of_file c.args.bytes.now) c.answer_of.result c.answer_of.ensures;
  sound = sound_of c.args.bytes.now c.answer_of.result c.answer_of.ensures;
}
