use Rattle.std.proofs.Common.{◌≡◌, true, ap, ◌∙◌, map, rules}
use Rattle.pipe_types.specs.Sound.{are_limits as are_limits_of}
use Rattle.core_checks.specs.Limits.{bare}
use Rattle.core_checks.proofs.Limited.{sound_with}
use Rattle.core_checks.proofs.limits.with_limits.Goals as goal

pub returns : goal.returns
returns c =
    let same : map bare c.from_vec.result ≡ map bare c.args.topology.stages = ap (map bare) c.from_vec.ensures ∙ c.give_limits.ensures ∙ ap (map bare) c.into_vec-stages.ensures in
    let are : are_limits_of c.from_vec-2.result c.from_vec.result ≡ true = search rules in
    record { sound = sound_with c.args.topology c.from_vec.result c.from_vec-2.result c.requires.sound same are }
