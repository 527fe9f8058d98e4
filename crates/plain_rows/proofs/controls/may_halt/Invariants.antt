use Rattle.std.proofs.Common.{◌≡◌, drop}
use Rattle.std.specs.List.{list_any}
use Rattle.pipe_model.specs.History.{history}
use Rattle.plain_rows.specs.Halts.{halts_at}
use Rattle.plain_rows.proofs.controls.may_halt.Given as goal

abbrev pub invariant-loop-spec : goal.invariant-loop-spec
invariant-loop-spec l =
    list_any (λ spec. halts_at l.past.topology.now (history l.past.steps.now) spec.no) (drop l.spec-index l.specs)
    ≡ list_any (λ spec. halts_at l.past.topology.now (history l.past.steps.now) spec.no) l.specs
