use Rattle.std.proofs.Common.{rules, tests, ◌∙◌}
use Rattle.std.proofs.lemmas.Iterator.{YieldsList-from_slice}
use Rattle.std.proofs.lemmas.Iterator.Consumers.{YieldsList-from_filter, count_from_yields_List}
use Rattle.std.proofs.lemmas.List.Sums.{length-filter}
use Rattle.pipe_types.specs.Sound.{is_producer}
use Rattle.pipe_types.specs.declared.topology.StageSpec.{StageSpec}
use Rattle.pipe_top.proofs.program.count_producers.Goals as goal

pub returns : goal.returns
returns c =
    count_from_yields_List c.filter.result c.count.result c.count.ensures.ran
    (YieldsList-from_filter _ (λ (s : StageSpec). is_producer s.role) (YieldsList-from_slice c.args.stages.now cc) c.filter.ensures.closure (λ x r q k. search (rules, tests)))
    ∙ length-filter (λ (s : StageSpec). is_producer s.role) c.args.stages.now
