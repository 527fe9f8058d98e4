use Rattle.std.proofs.Common.{[], refl, ap, sym, ◌∙◌}
use Rattle.line_merge.specs.Items.{given_of}
use Rattle.pipe_edges.specs.Fetch.{records_of}
use Rattle.line_merge.proofs.Merging.{records_given}
use Rattle.line_merge.proofs.merge.LineMerge.fetch.Goals as goal

pub returns-in-Ok-clause-merged : goal.returns-in-Ok-clause-merged
returns-in-Ok-clause-merged g c opened given before =
    (given_of c.in-Ok.found, records_given c.in-Ok.found ∙ ap records_of (sym c.into_fetched.ensures), c.in-Ok.ensures.merged opened given before)

pub returns-in-Err-clause-merged : goal.returns-in-Err-clause-merged
returns-in-Err-clause-merged g c opened given before = ([], refl, c.in-Err.ensures.merged opened given before)
