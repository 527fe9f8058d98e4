use Rattle.std.proofs.Common.{◌≡◌, ℕ, suc, ◌-◌, ap, ◌∙◌, arith}
use Rattle.std.specs.Prelude.{slice_get}
use Rattle.pipe_model.specs.Content.{producer_of}
use Rattle.pipe_model.specs.Flow.{place}
use Rattle.settle_laws.specs.Settled.{outcome_row}
use Rattle.plain_run.proofs.settled.row_at.Goals as goal

pub returns : goal.returns
returns c =
    let core = c.args.core.now in
    let f = c.requires.holds.fields in
    let one : suc (c.args.no - 1) ≡ c.args.no = omega (arith, c.requires.least) in
    let made : c.producer_at.result ≡ producer_of core.journal.steps c.args.no =
    c.producer_at.ensures ∙ (ap (λ ps. slice_get ps (c.args.no - 1)) c.deref.ensures.value ∙ (f.producers (c.args.no - 1) ∙ ap (producer_of core.journal.steps) one)) in
    let placed : c.get.result ≡ place core.topology core.journal.steps c.args.no = c.get.ensures ∙ (f.places (c.args.no - 1) ∙ ap (place core.topology core.journal.steps) one) in
    c.outcome_of.ensures ∙ (λ i. outcome_row c.args.no (made i) (placed i))
