use Rattle.std.proofs.Common.{sym, ◌∙◌}
use Rattle.pipe_config.proofs.Built.{few_stages}
use Rattle.pipe_config.proofs.read.judge_settings.Goals as goal

pub build_topology-requires-clause-few : goal.build_topology-requires-clause-few
build_topology-requires-clause-few c = few_stages c.args.settings.now (sym c.in-Ok.ensures ∙ c.in-None.is)
