use Rattle.std.proofs.Common.{◌∙◌, sym}
use Rattle.pipe_types.specs.Dispatchers.{ByDemand}
use Rattle.pipe_model.specs.Flow.{rooms_by, view_of}
use Rattle.core_moves.proofs.Sending.{none_wait, demand_go}
use Rattle.core_moves.proofs.dispatches.sends_by_demand.Goals as goal

pub returns-then-is_waiting_empty : goal.returns-then-is_waiting_empty
returns-then-is_waiting_empty c =
    let core = c.args.core.now in
    none_wait core.topology core.journal.steps c.args.spec.now.no ByDemand (rooms_by core.topology core.journal.steps (view_of core.topology core.journal.steps) c.args.spec.now.no) (sym c.is_waiting_empty.ensures ∙ c.if-is_waiting_empty.true)

pub returns : goal.returns
returns c =
    let core = c.args.core.now in
    c.is_any_open.ensures ∙ demand_go core.topology core.journal.steps c.args.spec.now.no c.requires.live (sym c.is_waiting_empty.ensures ∙ c.if-is_waiting_empty.false)
