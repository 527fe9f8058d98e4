use Rattle.std.proofs.Common.{◌∙◌}
use Rattle.pipe_types.specs.Stages.{spec_of}
use Rattle.pipe_model.specs.Flow.{waiting}
use Rattle.core_laws.specs.Columns.{part_of}
use Rattle.core_moves.specs.Sends.{first_number}
use Rattle.core_rows.proofs.Queues.{read_waiting}
use Rattle.core_moves.proofs.Sending.{first_of_parts}
use Rattle.core_moves.proofs.dispatches.first_waiting.Goals as goal

pub returns : goal.returns
returns c =
    let core = c.args.core.now in
    c.first_of.ensures
    ∙ (read_waiting first_number core c.args.stage c.deref.result.now c.requires.stands.holds c.deref.ensures.value ∙ first_of_parts (part_of core.topology core.journal.steps (spec_of core.topology c.args.stage)) (waiting core.topology core.journal.steps c.args.stage))
