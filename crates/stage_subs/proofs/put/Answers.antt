use Rattle.std.proofs.Common.{◌≡◌, ◌+◌, arith, Some}
use Rattle.std.specs.Prelude.{if◌then◌else◌}
use Rattle.std.proofs.Math.ListN.{set}
use Rattle.stage_subs.specs.Subs.{slot_of, rows_of, due_rows}
use Rattle.stage_subs.proofs.Rows.{put_rows, put_live, put_due, due_most, one_less, one_more}
use Rattle.stage_subs.proofs.put.Goals as goal

pub returns-clause-put : goal.returns-clause-put
returns-clause-put c = put_rows c.args.rows.now c.args.consumer c.args.producer c.args.row c.requires.within c.requires.producer_in_range

pub returns-clause-live : goal.returns-clause-live
returns-clause-live c = put_live c.args.rows.now c.args.consumer c.args.producer c.args.row c.requires.within c.requires.producer_in_range

pub recount-requires-clause-some : goal.recount-requires-clause-some
recount-requires-clause-some c =
    let at = slot_of c.args.consumer c.args.producer in
    let counts = put_due c.args.rows.now c.args.consumer c.args.producer c.index-rows-at.result c.args.row c.requires.within c.index-rows-at.is in
    one_less c.is_due-was.result c.is_due.result (due_rows (rows_of (set c.args.rows.now at (Some c.args.row)))) (due_rows (rows_of c.args.rows.now)) c.args.due.now
    (rw (c.is_due-was.ensures, c.is_due.ensures) counts) c.requires.counted

pub recount-requires-clause-few : goal.recount-requires-clause-few
recount-requires-clause-few c =
    let rows = c.args.rows.now in
    let at = slot_of c.args.consumer c.args.producer in
    let counts = put_due rows c.args.consumer c.args.producer c.index-rows-at.result c.args.row c.requires.within c.index-rows-at.is in
    one_more c.is_due-was.result c.is_due.result (due_rows (rows_of (set rows at (Some c.args.row)))) (due_rows (rows_of rows)) c.args.due.now
    (rw (c.is_due-was.ensures, c.is_due.ensures) counts) c.requires.counted (due_most rows at c.args.row c.requires.sized)

pub returns-clause-counted : goal.returns-clause-counted
returns-clause-counted c =
    let rows = c.args.rows.now in
    let at = slot_of c.args.consumer c.args.producer in
    let counts = put_due rows c.args.consumer c.args.producer c.index-rows-at.result c.args.row c.requires.within c.index-rows-at.is in
    let same : due_rows (rows_of (set rows at (Some c.args.row))) + (if c.is_due-was.result then 1 else 0) ≡ due_rows (rows_of rows) + (if c.is_due.result then 1 else 0) = rw (c.is_due-was.ensures, c.is_due.ensures) counts in
    omega (arith, same, c.recount.ensures, c.requires.counted)
