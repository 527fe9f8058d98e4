use Rattle.std.proofs.Common.{◌∙◌, ap, sym}
use Rattle.config_table.specs.Fault.{least}
use Rattle.config_judge.specs.Judge as judge
use Rattle.config_judge.proofs.Order.{first_counts, next_counts, next_counts_of, routes_next, behind_routes, groups_next, behind_groups, dispatches_next, behind_dispatches}
use Rattle.config_judge.proofs.judge.later_fault.Goals as goal

pub returns-in-Some : goal.returns-in-Some
returns-in-Some c =
    first_counts 8 12 (judge.routes_with c.args.known.now c.args.settings.now) _ c.in-Some.fault (routes_next c.args.known.now c.args.settings.now)
    (behind_routes c.args.known.now c.args.settings.now) (sym c.in-Some.is ∙ c.in_ok-fault.ensures)

pub returns-in-Some-group_fault : goal.returns-in-Some-group_fault
returns-in-Some-group_fault c =
    next_counts (judge.routes_with c.args.known.now c.args.settings.now) _ _ (sym c.in_default.is ∙ c.in_ok-fault.ensures)
    (first_counts 10 12 (judge.group_faults c.args.settings.now) _ c.in-Some-group_fault.fault (groups_next c.args.settings.now)
    (behind_groups c.args.known.now c.args.settings.now) (sym c.in-Some-group_fault.is ∙ c.group_fault.ensures))

pub returns-in-Some-2 : goal.returns-in-Some-2
returns-in-Some-2 c =
    next_counts (judge.routes_with c.args.known.now c.args.settings.now) _ _ (sym c.in_default.is ∙ c.in_ok-fault.ensures)
    (next_counts (judge.group_faults c.args.settings.now) _ _ (sym c.in_default-group_fault.is ∙ c.group_fault.ensures)
    (first_counts 11 12 (judge.bad_dispatches 0 c.args.settings.now.batchers) _ c.in-Some-2.fault (dispatches_next c.args.settings.now)
    (behind_dispatches c.args.known.now c.args.settings.now) (sym c.in-Some-2.is ∙ c.in_ok-fault-2.ensures ∙ ap (λ bs. least (judge.bad_dispatches 0 bs)) c.as_slice.ensures)))

pub returns : goal.returns
returns c =
    next_counts_of (judge.routes_with c.args.known.now c.args.settings.now) _ c.unreachable_fault.result (sym c.in_default.is ∙ c.in_ok-fault.ensures)
    (next_counts_of (judge.group_faults c.args.settings.now) _ c.unreachable_fault.result (sym c.in_default-group_fault.is ∙ c.group_fault.ensures)
    (next_counts_of (judge.bad_dispatches 0 c.args.settings.now.batchers) _ c.unreachable_fault.result
    (sym c.in_default-2.is ∙ c.in_ok-fault-2.ensures ∙ ap (λ bs. least (judge.bad_dispatches 0 bs)) c.as_slice.ensures) c.unreachable_fault.ensures))
