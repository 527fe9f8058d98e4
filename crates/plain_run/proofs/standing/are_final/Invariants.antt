use Rattle.std.proofs.Common.{◌≡◌, drop, Some}
use Rattle.std.specs.List.{list_all}
use Rattle.pipe_model.specs.Moves.{is_final}
use Rattle.plain_run.proofs.standing.are_final.Given as goal

-- those that are left say what all say
abbrev pub invariant-loop-at : goal.invariant-loop-at
invariant-loop-at l = list_all (λ p. is_final (Some p)) (drop l.at l.places.items) ≡ list_all (λ p. is_final (Some p)) l.places.items
