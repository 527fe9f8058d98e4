use Rattle.std.proofs.Common.{◌∙◌, ap, option_map}
use Rattle.std.specs.Prelude.{if◌then◌else◌}
use Rattle.pipe_types.specs.declared.numbers.SubNo.{SubNo}
use Rattle.pipe_types.specs.Numbers.{stage}
use Rattle.stage_subs.specs.Subs.{row_at, is_pair, closed}
use Rattle.part_checks.proofs.subs.close.Goals as goal

pub invariant_of-pair : goal.invariant_of-pair
invariant_of-pair c =
    let old = row_at c.args.pair.now.subs (stage 2) (stage 1) in
    record {
      row =
          c.close.ensures.closed.rows (stage 2) (stage 1)
          ∙ (ap (λ (u : SubNo). if is_pair u.consumer u.producer (stage 2) (stage 1) then option_map closed old else old) c.sub_of.ensures ∙ ap (option_map closed) c.args.pair.now.row);
    }
