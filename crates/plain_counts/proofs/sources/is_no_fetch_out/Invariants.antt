use Rattle.std.proofs.Common.{◌≡◌, take}
use Rattle.std.specs.Prelude.{◌&&◌, not}
use Rattle.std.specs.List.{list_all}
use Rattle.pipe_types.specs.Numbers.{post}
use Rattle.pipe_model.specs.Posts.{is_out}
use Rattle.pipe_model.specs.History.{history}
use Rattle.pipe_model.specs.Legal.{is_producer_role}
use Rattle.plain_counts.proofs.sources.is_no_fetch_out.Given as goal

abbrev pub invariant-loop-spec : goal.invariant-loop-spec
invariant-loop-spec l = l.none ≡ list_all (λ spec. not (is_producer_role spec.role && is_out (history l.steps) (post spec.no 0))) (take l.spec-index l.specs)
