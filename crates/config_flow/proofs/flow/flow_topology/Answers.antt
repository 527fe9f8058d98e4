use Rattle.config_flow.proofs.Values.{built_flow, sound_answer}
use Rattle.config_flow.proofs.flow.flow_topology.Goals as goal

pub returns-clause-value : goal.returns-clause-value
returns-clause-value c = built_flow c.args.source.now c.args.prefix.now c.in_ok-settings.settings c.build_topology.result c.in_ok-settings.ensures c.build_topology.ensures

pub returns-clause-sound : goal.returns-clause-sound
returns-clause-sound c = sound_answer c.args.source.now c.args.prefix.now c.in_ok-settings.settings c.build_topology.result c.in_ok-settings.ensures c.build_topology.ensures
