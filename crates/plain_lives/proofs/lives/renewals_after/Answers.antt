use Rattle.std.proofs.Common.{ap, refl, sym, ◌∙◌}
use Rattle.std.proofs.lemmas.Result.{IfOk-weaker}
use Rattle.pipe_model.specs.Lives.{reason_in, is_alive, renews, one_more}
use Rattle.plain_lives.specs.Lives.{generation_by}
use Rattle.plain_lives.proofs.Standing.{renewed_next}
use Rattle.plain_lives.proofs.lives.renewals_after.Goals as goal

pub returns-in_ok-live-in-Restart : goal.returns-in_ok-live-in-Restart
returns-in_ok-live-in-Restart c =
    let topology = c.args.topology.now in
    let deaths = c.args.deaths.now in
    let old = c.args.renewals.items in
    IfOk-weaker c.with_renewal.result _ _
    (λ more is. λ s p.
    ap (λ rs. generation_by rs s p) is
    ∙ renewed_next topology deaths old (record { restarted = c.in-Restart.stage; live = c.in_ok-live-in-Restart.live }) c.in-Restart.stage refl c.in_ok-live-in-Restart.ensures s p
    ∙ ap (λ step. one_more (renews (λ t. is_alive topology (reason_in deaths t) t) step s p) (generation_by old s p)) (sym c.in-Restart.is))
    c.with_renewal.ensures
