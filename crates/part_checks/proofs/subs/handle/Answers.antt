use Rattle.std.proofs.Common.{◌+◌, ◌∙◌, ℕ, Some, ap, sym, option_map}
use Rattle.std.specs.Prelude.{if◌then◌else◌}
use Rattle.pipe_types.specs.declared.numbers.SubNo.{SubNo}
use Rattle.pipe_types.specs.Numbers.{stage}
use Rattle.stage_subs.specs.Subs.{row_at, is_pair, handled_more}
use Rattle.part_checks.proofs.subs.handle.Goals as goal

pub invariant_of-pair : goal.invariant_of-pair
invariant_of-pair c =
    let old = row_at c.args.pair.now.subs (stage 2) (stage 1) in
    record {
      row =
          c.handled.ensures.handled.rows (stage 2) (stage 1)
          ∙ (ap (λ (u : SubNo). if is_pair u.consumer u.producer (stage 2) (stage 1) then option_map (handled_more c.args.n) old else old) c.sub_of.ensures
          ∙ (ap (option_map (handled_more c.args.n)) c.args.pair.now.row
          ∙ ap (λ (n : ℕ). Some (record { generation = c.args.pair.now.generation; is_live = c.args.pair.now.live; counts = record { min = 5; max = 10; asked = c.args.pair.now.asked; arrived = c.args.pair.now.sent; handled = c.args.pair.now.handled + n } })) (sym c.from-count.ensures)));
    }
