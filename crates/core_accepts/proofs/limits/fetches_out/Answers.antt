use Rattle.std.proofs.Common.{◌∙◌}
use Rattle.core_accepts.proofs.Bounding.{fetches_by}
use Rattle.core_accepts.proofs.limits.fetches_out.Goals as goal

pub returns : goal.returns
returns c =
    c.sum_out.ensures ∙ fetches_by c.args.core.now c.deref.result.now c.deref-2.result.now c.as_slice.result.now c.requires.stands.holds c.deref.ensures.value c.deref-2.ensures.value c.as_slice.ensures
