use Rattle.std.proofs.Common.{ℕ, ◌+◌, List, [], ◌∷◌, ◌++◌, map, ap, sym, ◌∙◌, append_assoc}
use Rattle.pipe_types.specs.declared.state.SubRow.{SubRow}
use Rattle.pipe_types.specs.Numbers.{subscription}
use Rattle.pipe_model.specs.Acknowledgements.{numbers_upto}
use Rattle.plain_legal.specs.Machines.{topology_of, history_of}
use Rattle.pipe_replay.specs.Rows.{sub_row}
use Rattle.pipe_replay.proofs.Upto.{map_upto_more}
use Rattle.pipe_replay.proofs.ledgers.push_generations.Goals as goal

pub loop-before-preserved : goal.loop-before-preserved
loop-before-preserved c =
    let topology = topology_of c.args.machine.now in
    let before = history_of c.args.machine.now in
    let row = λ (g : ℕ). sub_row topology before (subscription c.args.consumer c.args.producer g) in
    let old = c.args.old.items in
    let n = c.loop-before.before in
    c.in_ok-push.ensures.items
    ∙ ap (λ (rows : List SubRow). rows ++ c.in_ok-sub_row.field-0 ∷ []) c.loop-before.invariant
    ∙ ap (λ (r : SubRow). (old ++ map row (numbers_upto n)) ++ r ∷ []) (c.in_ok-sub_row.ensures ∙ ap row c.in_ok-unit_no.ensures)
    ∙ append_assoc old (map row (numbers_upto n)) (row (n + 1) ∷ [])
    ∙ ap (λ (rows : List SubRow). old ++ rows) (sym (map_upto_more row n))
