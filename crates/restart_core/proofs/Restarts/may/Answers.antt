use Rattle.std.proofs.Common.{refl, arith}
use Rattle.restart_core.proofs.LastRestarts.{may_by_oldest}
use Rattle.restart_core.proofs.Restarts.may.Goals as goal

pub returns-in-Some : goal.returns-in-Some
returns-in-Some c =
    let len = c.self.inside.times.ok.0 in
    rw (← c.self.view_is)
    (λ made remembers.
    may_by_oldest _ made c.in-Some.oldest.now c.saturating_add.result c.args.now remembers
    (omega arith)
    (omega (arith, c.in-Some.ensures.variant.0 refl))
    (rw (← len) c.in-Some.ensures.lookup)
    (λ passed. omega arith)
    (λ counts. omega arith))
