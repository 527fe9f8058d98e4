use Rattle.std.proofs.Common.{ap, sym, ◌∙◌, arith}
use Rattle.std.specs.List.{list_any}
use Rattle.pipe_model.specs.History.{history}
use Rattle.plain_rows.specs.Halts.{halts_at}
use Rattle.plain_rows.proofs.Lasts.{any_here, any_behind}
use Rattle.plain_rows.proofs.controls.may_halt.Goals as goal

pub returns-then-does : goal.returns-then-does
returns-then-does c =
    let past = c.args.past.now in
    any_here (λ spec. halts_at past.topology.now (history past.steps.now) spec.no)
    _ c.loop-spec.spec-index c.spec-item.result (omega arith) c.spec-item.is c.loop-spec.invariant (sym c.in_ok-does.ensures ∙ c.if-does.true)
    ∙ ap (list_any (λ spec. halts_at past.topology.now (history past.steps.now) spec.no)) c.as_slice-specs.ensures

pub loop-spec-preserved : goal.loop-spec-preserved
loop-spec-preserved c =
    let past = c.args.past.now in
    any_behind (λ spec. halts_at past.topology.now (history past.steps.now) spec.no)
    _ c.loop-spec.spec-index c.spec-item.result (omega arith) c.spec-item.is c.loop-spec.invariant (sym c.in_ok-does.ensures ∙ c.if-does.false)
