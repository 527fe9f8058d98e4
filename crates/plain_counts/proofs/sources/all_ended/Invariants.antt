use Rattle.std.proofs.Common.{◌≡◌, take}
use Rattle.std.specs.Prelude.{◌||◌, not}
use Rattle.std.specs.List.{list_all}
use Rattle.pipe_model.specs.History.{history}
use Rattle.pipe_model.specs.Legal.{is_producer_role, has_ended}
use Rattle.plain_counts.proofs.sources.all_ended.Given as goal

abbrev pub invariant-loop-spec : goal.invariant-loop-spec
invariant-loop-spec l = l.all ≡ list_all (λ spec. not (is_producer_role spec.role) || has_ended (history l.steps) spec.no) (take l.spec-index l.specs)
