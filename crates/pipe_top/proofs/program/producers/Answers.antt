use Rattle.std.proofs.Common.{◌∙◌, sym, arith}
use Rattle.std.proofs.lemmas.List.Sums.{length-filter}
use Rattle.pipe_types.specs.Sound.{is_producer}
use Rattle.pipe_types.specs.declared.topology.StageSpec.{StageSpec}
use Rattle.pipe_top.proofs.Shares.{some_producer}
use Rattle.pipe_top.proofs.program.producers.Goals as goal

pub returns-clause-number : goal.returns-clause-number
returns-clause-number c =
    (rw c.as_slice.ensures at c.count_producers.ensures) ∙ sym (length-filter (λ (s : StageSpec). is_producer s.role) c.args.topology.now.stages)

pub returns-clause-some : goal.returns-clause-some
returns-clause-some c =
    let count = rw c.as_slice.ensures at c.count_producers.ensures in
    omega (arith, count, length-filter (λ (s : StageSpec). is_producer s.role) c.args.topology.now.stages, some_producer c.args.topology.now c.requires.sound)
