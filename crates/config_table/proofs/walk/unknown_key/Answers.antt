use Rattle.std.proofs.Common.{◌≡◌, ◌∷◌, ◌∙◌, ap, arith}
use Rattle.std.proofs.lemmas.Grind.{common_steps}
use Rattle.toml.proofs.Views.{Entry}
use Rattle.config_table.specs.Fault.{least}
use Rattle.config_table.specs.Walk.{key_faults}
use Rattle.config_table.proofs.Items.{unknown_step}
use Rattle.config_table.proofs.walk.unknown_key.Goals as goal

pub members-preserved : goal.members-preserved
members-preserved c =
    let (can, finite, so_far) = c.members.invariant in
    let e : Entry = (c.in-Some.key.now, c.in-Some._value.now) in
    let left : c.members.key-iterator ≡ e ∷ c.next.new.self = grind (arith, common_steps) in (
      tt,
      tt,
      rw c.sooner-found.ensures
          (unknown_step c.args.version c.args.path.now c.args.rows.now c.members.key-iterator c.next.new.self e c.members.found c.in_ok-fault.fault _
          left (c.in_ok-fault.ensures ∙ ap (λ key. least (key_faults c.args.version c.args.path.now c.args.rows.now key)) c.as_str.ensures.value) so_far),
    )
