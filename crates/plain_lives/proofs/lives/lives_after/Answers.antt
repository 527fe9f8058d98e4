use Rattle.std.proofs.Common.{◌++◌, ap, ◌∙◌}
use Rattle.pipe_model.specs.Lives.{reason_in, is_alive, renews, one_more}
use Rattle.plain_lives.specs.Lives.{generation_by, kept}
use Rattle.plain_lives.proofs.Standing.{stand_next}
use Rattle.plain_lives.proofs.lives.lives_after.Goals as goal

pub returns : goal.returns
returns c = λ before stand.
    let topology = c.args.topology.now in
    let lives = c.args.lives in
    let step = c.args.step.now in
    stand_next topology before lives
    (record { deaths = c.in_ok-deaths.deaths; renewals = c.in_ok-renewals.renewals })
    step c.in_ok-killed.killed.items c.in_ok-killed.ensures
    (c.in_ok-deaths.ensures ∙ ap (λ old. c.in_ok-killed.killed.items ++ kept step old) c.as_slice.ensures.value)
    (λ s p.
    c.in_ok-renewals.ensures s p
    ∙ ap (λ old. one_more (renews (λ t. is_alive topology (reason_in old t) t) step s p) (generation_by lives.renewals.items s p)) c.as_slice-2.ensures.value)
    stand
