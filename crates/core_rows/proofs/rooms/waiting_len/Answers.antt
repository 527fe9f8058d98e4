use Rattle.std.proofs.Common.{◌∙◌, length}
use Rattle.pipe_types.specs.Stages.{spec_of}
use Rattle.pipe_model.specs.Flow.{waiting}
use Rattle.core_laws.specs.Columns.{part_of}
use Rattle.core_rows.proofs.Queues.{read_waiting, length_mapped}
use Rattle.core_rows.proofs.rooms.waiting_len.Goals as goal

pub returns : goal.returns
returns c =
    let core = c.args.core.now in
    c.queue_len.ensures
    ∙ (read_waiting length core c.args.stage c.deref.result.now c.requires.stands.holds c.deref.ensures.value ∙ length_mapped (λ n. (part_of core.topology core.journal.steps (spec_of core.topology c.args.stage) n, n)) (waiting core.topology core.journal.steps c.args.stage))
