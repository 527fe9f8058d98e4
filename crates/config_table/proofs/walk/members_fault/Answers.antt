use Rattle.std.proofs.Common.{◌≡◌, ◌∷◌, ◌∙◌, ap, arith}
use Rattle.std.proofs.lemmas.Grind.{common_steps}
use Rattle.toml.proofs.Views.{Entry}
use Rattle.toml.specs.View.{view}
use Rattle.config_table.specs.Fault.{least}
use Rattle.config_table.specs.Walk.{top_faults}
use Rattle.config_table.proofs.Items.{top_step}
use Rattle.config_table.proofs.walk.members_fault.Goals as goal

pub members-preserved : goal.members-preserved
members-preserved c =
    let (can, finite, so_far) = c.members.invariant in
    let e : Entry = (c.in-Some.key.now, c.in-Some.value.now) in
    let left : c.members.key-iterator ≡ e ∷ c.next.new.self = grind (arith, common_steps) in (
      tt,
      tt,
      rw c.sooner-found.ensures
          (top_step c.args.version c.args.producers c.members.key-iterator c.next.new.self e c.members.found c.in_ok-fault.fault _
          left (c.in_ok-fault.ensures ∙ ap (λ key. least (top_faults c.args.version c.args.producers key (view e.1))) c.as_str.ensures.value) so_far),
    )
