use Rattle.std.proofs.Common.{◌≡◌, ◌-◌, arith, length, vec_len}
use Rattle.std.proofs.lemmas.List.{nil_from_length}
use Rattle.std.proofs.lemmas.Bool.Decides.{nat_tests}
use Rattle.stage_subs.proofs.Rows.{same_rows, same_live, same_due}
use Rattle.stage_subs.proofs.make_rows.Goals as goal

pub returns-in_ok-resize-clause-rows : goal.returns-in_ok-resize-clause-rows
returns-in_ok-resize-clause-rows c =
    let none : length c.args.rows.now.items ≡ 0 = grind (arith, nat_tests) in
    same_rows 4225 (4225 - vec_len c.args.rows.now) c.args.rows.now.items c.resize.new.self.items (nil_from_length _ none) c.in_ok-resize.ensures.items

pub returns-in_ok-resize-clause-live : goal.returns-in_ok-resize-clause-live
returns-in_ok-resize-clause-live c =
    let none : length c.args.rows.now.items ≡ 0 = grind (arith, nat_tests) in
    same_live 4225 (4225 - vec_len c.args.rows.now) c.args.rows.now.items c.resize.new.self.items (nil_from_length _ none) c.in_ok-resize.ensures.items

pub returns-in_ok-resize-clause-due : goal.returns-in_ok-resize-clause-due
returns-in_ok-resize-clause-due c =
    let none : length c.args.rows.now.items ≡ 0 = grind (arith, nat_tests) in
    same_due 4225 (4225 - vec_len c.args.rows.now) c.args.rows.now.items c.resize.new.self.items (nil_from_length _ none) c.in_ok-resize.ensures.items
