use Rattle.std.proofs.Common.{◌≡◌, drop}
use Rattle.std.specs.List.{list_any}
use Rattle.pipe_model.specs.Posts.{has_post_out}
use Rattle.plain_run.proofs.standing.is_any_out.Given as goal

abbrev pub invariant-loop-spec : goal.invariant-loop-spec
invariant-loop-spec l = list_any (λ spec. has_post_out l.core.journal.steps spec.no) (drop l.spec-index l.spec-items) ≡ list_any (λ spec. has_post_out l.core.journal.steps spec.no) l.spec-items
