use Rattle.std.proofs.Common.{◌∙◌, ap}
use Rattle.std.specs.Prelude.{slice_get}
use Rattle.pipe_model.specs.Flow.{is_empty}
use Rattle.core_tables.specs.Tables.{list_in}
use Rattle.core_rows.proofs.rests.is_chunk_empty.Goals as goal

pub returns : goal.returns
returns c =
    let s = c.args.stage in
    c.is_list_empty.ensures ∙ (ap (λ xs. is_empty (list_in (slice_get xs s.0))) c.deref.ensures.value ∙ ap is_empty (c.requires.stands.holds.fields.chunks s))
