use Rattle.std.proofs.Common.{◌≡◌, ℕ, Option, ◌∙◌, ap, sym}
use Rattle.std.specs.Prelude.{slice_get, option_to_list}
use Rattle.pipe_model.specs.Posts.{in_slot}
use Rattle.core_tables.specs.Rows.{post_at}
use Rattle.plain_run.specs.Works.{held_in}
use Rattle.plain_run.proofs.Working.{started_is}
use Rattle.plain_run.proofs.Naming.{units_child}
use Rattle.plain_run.proofs.jobs.unit_at.Goals as goal

pub returns-then-is_supervisor : goal.returns-then-is_supervisor
returns-then-is_supervisor c =
    let core = c.args.core.now in
    let p = c.args.post in
    let own : c.started_in.result ≡ in_slot core.journal.steps p.stage p.slot =
    c.started_in.ensures ∙ (ap (λ rows. held_in (slice_get rows (post_at p.stage.0 p.slot))) c.deref-then-is_supervisor.ensures.value
    ∙ started_is core c.args.works.now p.stage p.slot c.requires.holds c.requires.works c.requires.out) in
    c.child_at.ensures ∙ (ap (λ (o : Option ℕ). slice_get (option_to_list o) c.args.at) own
    ∙ sym (units_child core.topology core.journal.steps p c.args.at (sym c.is_processor.ensures ∙ c.if-is_processor.false) (sym c.is_supervisor.ensures ∙ c.if-is_supervisor.true)))
