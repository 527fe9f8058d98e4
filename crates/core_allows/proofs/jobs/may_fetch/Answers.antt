use Rattle.std.proofs.Common.{◌∙◌, ap, sym}
use Rattle.std.proofs.lemmas.Bool.{eqb-true}
use Rattle.pipe_types.specs.declared.step.Step.TheVariants.{Fetch}
use Rattle.pipe_model.specs.Legal.{may_come, bound}
use Rattle.move_laws.proofs.Still.{found_no}
use Rattle.core_allows.proofs.Held.{found_there}
use Rattle.core_allows.proofs.Unfound.{other_count}
use Rattle.core_allows.proofs.jobs.may_fetch.Goals as goal

pub returns-then-not-is_bound : goal.returns-then-not-is_bound
returns-then-not-is_bound c = other_count c.args.core.now.topology c.args.core.now.journal.steps c.args.stage c.args.n (sym c.is_bound.ensures ∙ c.if-not-is_bound.true)

pub may_fetch-requires-clause-there : goal.may_fetch-requires-clause-there
may_fetch-requires-clause-there c = found_there c.args.core.now.topology c.args.stage c.in-Some.spec.now (sym c.in-Some.ensures)

pub returns-in-Some : goal.returns-in-Some
returns-in-Some c =
    let t = c.args.core.now.topology in
    let h = c.args.core.now.journal.steps in
    let s = c.args.stage in
    c.may_fetch.ensures
    ∙ (ap (λ u. may_come t h (Fetch u (bound t h u))) (found_no t s c.in-Some.spec.now (sym c.in-Some.ensures))
    ∙ ap (λ m. may_come t h (Fetch s m)) (sym (eqb-true c.args.n (bound t h s) (sym c.is_bound.ensures ∙ c.if-not-is_bound.false))))
