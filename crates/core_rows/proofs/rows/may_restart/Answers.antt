use Rattle.std.proofs.Common.{◌≡◌, length, None, Some, refl, ap, sym, ◌∙◌}
use Rattle.std.specs.Prelude.{slice_get}
use Rattle.std.proofs.lemmas.Option.{slice_get_past, slice_get_read}
use Rattle.pipe_model.specs.Legal.{limit_open}
use Rattle.core_rows.proofs.Allowed.{may_held, may_none}
use Rattle.core_rows.proofs.rows.may_restart.Goals as goal

pub returns-in-Some : goal.returns-in-Some
returns-in-Some c =
    let core = c.args.core.now in
    let at = c.limit_of-at.result in
    let rows = c.deref.result.now in
    let found : slice_get rows at ≡ Some c.in-Some.limit.now = slice_get_read rows (length rows) at c.in-Some.limit.now refl c.in-Some.ensures.lookup.3.0 c.in-Some.ensures.lookup.1 in
    let held : slice_get core.restarts.items at ≡ Some c.in-Some.limit.now = ap (λ rs. slice_get rs at) (sym c.deref.ensures.value) ∙ found in
    may_held core at c.in-Some.limit.now c.may.result c.requires.stands.holds held c.may.ensures
    ∙ ap (limit_open core.topology core.journal.steps) c.limit_of-at.ensures

pub returns-in-None : goal.returns-in-None
returns-in-None c =
    let core = c.args.core.now in
    let at = c.limit_of-at.result in
    let rows = c.deref.result.now in
    let none : slice_get core.restarts.items at ≡ None = ap (λ rs. slice_get rs at) (sym c.deref.ensures.value) ∙ slice_get_past rows at c.in-None.ensures.lookup.3 in
    may_none core at c.requires.stands.holds none ∙ ap (limit_open core.topology core.journal.steps) c.limit_of-at.ensures
