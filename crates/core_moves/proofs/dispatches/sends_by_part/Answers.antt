use Rattle.std.proofs.Common.{◌∙◌, sym}
use Rattle.pipe_types.specs.Dispatchers.{ByPartition}
use Rattle.pipe_model.specs.Flow.{rooms_by, view_of}
use Rattle.core_moves.proofs.Sending.{none_wait, part_go}
use Rattle.core_moves.proofs.dispatches.sends_by_part.Goals as goal

pub returns-then-is_waiting_empty : goal.returns-then-is_waiting_empty
returns-then-is_waiting_empty c =
    let core = c.args.core.now in
    none_wait core.topology core.journal.steps c.args.producer.now.no ByPartition (rooms_by core.topology core.journal.steps (view_of core.topology core.journal.steps) c.args.producer.now.no) (sym c.is_waiting_empty.ensures ∙ c.if-is_waiting_empty.true)

pub returns : goal.returns
returns c = c.is_any_wanted.ensures ∙ part_go c.args.core.now.topology c.args.core.now.journal.steps c.args.producer.now c.requires.there c.requires.live c.requires.kind
