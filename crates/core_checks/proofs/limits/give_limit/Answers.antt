use Rattle.std.proofs.Common.{◌≡◌, ◌<◌, ap, ◌∙◌, sym, map, rules, get_or, slice_set}
use Rattle.std.proofs.Math.Seq.{map-set_same}
use Rattle.core_checks.specs.Limits.{bare}
use Rattle.core_checks.proofs.limits.give_limit.Goals as goal

pub returns-then-at-len : goal.returns-then-at-len
returns-then-at-len c =
    let same : c.index_mut.result.now ≡ get_or c.args.stages.now.items c.from-at.result c.index_mut.result.now = search rules in
    map-set_same bare c.args.stages.now.items c.from-at.result _ c.index_mut.result.now (ap bare same)
