use Rattle.std.proofs.Common.{◌≡◌, drop}
use Rattle.std.specs.Prelude.{not, ◌&&◌}
use Rattle.std.specs.List.{list_all}
use Rattle.pipe_types.specs.Numbers.{post}
use Rattle.pipe_model.specs.Posts.{is_out}
use Rattle.pipe_model.specs.Legal.{is_producer_role}
use Rattle.core_rows.proofs.posts.is_no_fetch_out.Given as goal

abbrev pub invariant-loop-spec : goal.invariant-loop-spec
invariant-loop-spec l = list_all (λ spec. not (is_producer_role spec.role && is_out l.core.journal.steps (post spec.no 0))) (drop l.spec-index l.spec-items) ≡ list_all (λ spec. not (is_producer_role spec.role && is_out l.core.journal.steps (post spec.no 0))) l.spec-items
