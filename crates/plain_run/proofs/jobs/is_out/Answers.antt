use Rattle.std.proofs.Common.{◌∙◌, ap}
use Rattle.std.specs.Prelude.{slice_get}
use Rattle.core_tables.specs.Rows.{post_at}
use Rattle.core_state.specs.Readings.{out_by}
use Rattle.core_state.proofs.Reading.{out_is}
use Rattle.plain_run.proofs.jobs.is_out.Goals as goal

pub returns : goal.returns
returns c =
    let p = c.args.post in
    c.is_job_out.ensures
    ∙ (ap (λ rows. out_by (slice_get rows (post_at p.stage.0 p.slot)) p.slot) c.deref.ensures.value
    ∙ out_is c.args.core.now p.stage p.slot c.requires.holds)
