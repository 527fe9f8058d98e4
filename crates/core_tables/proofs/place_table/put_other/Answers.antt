use Rattle.std.proofs.Common.{◌≡◌, length, refl, Some, arith}
use Rattle.std.specs.Prelude.{slice_get}
use Rattle.std.proofs.lemmas.Option.{slice_get_read}
use Rattle.core_tables.proofs.Placing.{puts_first, puts_again, few_others}
use Rattle.core_tables.proofs.place_table.put_other.Goals as goal

pub put_first-requires-clause-room : goal.put_first-requires-clause-room
put_first-requires-clause-room c =
    let rows = c.args.rows.now.items in
    let old = c.index.result.now in
    let was : slice_get rows c.args.at ≡ Some old = slice_get_read rows (length rows) c.args.at old refl c.requires.within c.index.ensures in
    let few = few_others c.args.others.now.items rows c.args.at old c.requires.kept c.requires.within was (omega arith) in
    omega (arith, few, c.requires.room, c.args.rows.now.ok.0, c.args.rows.now.ok.1, c.args.others.now.ok.0)

pub put_first-requires-clause-few : goal.put_first-requires-clause-few
put_first-requires-clause-few c =
    let rows = c.args.rows.now.items in
    let old = c.index.result.now in
    let was : slice_get rows c.args.at ≡ Some old = slice_get_read rows (length rows) c.args.at old refl c.requires.within c.index.ensures in
    let few = few_others c.args.others.now.items rows c.args.at old c.requires.kept c.requires.within was (omega arith) in
    omega (arith, few, c.requires.few, c.args.rows.now.ok.0, c.args.rows.now.ok.1)

pub put_again-requires-clause-most : goal.put_again-requires-clause-most
put_again-requires-clause-most c =
    let rows = c.args.rows.now.items in
    let old = c.index.result.now in
    let was : slice_get rows c.args.at ≡ Some old = slice_get_read rows (length rows) c.args.at old refl c.requires.within c.index.ensures in
    (c.requires.kept.held c.args.at old was).most

pub returns-then-slot-eq0-clause-kept : goal.returns-then-slot-eq0-clause-kept
returns-then-slot-eq0-clause-kept c =
    let rows = c.args.rows.now.items in
    let old = c.index.result.now in
    let was : slice_get rows c.args.at ≡ Some old = slice_get_read rows (length rows) c.args.at old refl c.requires.within c.index.ensures in
    (puts_first c.args.others.now.items c.put_first.new.others.items rows c.put_first.new.rows.items c.args.at old c.args.place c.requires.kept c.requires.within was (omega arith) c.put_first.ensures.others c.put_first.ensures.rows).0

pub returns-then-slot-eq0-clause-items : goal.returns-then-slot-eq0-clause-items
returns-then-slot-eq0-clause-items c =
    let rows = c.args.rows.now.items in
    let old = c.index.result.now in
    let was : slice_get rows c.args.at ≡ Some old = slice_get_read rows (length rows) c.args.at old refl c.requires.within c.index.ensures in
    (puts_first c.args.others.now.items c.put_first.new.others.items rows c.put_first.new.rows.items c.args.at old c.args.place c.requires.kept c.requires.within was (omega arith) c.put_first.ensures.others c.put_first.ensures.rows).1

pub returns-else-slot-eq0-clause-kept : goal.returns-else-slot-eq0-clause-kept
returns-else-slot-eq0-clause-kept c =
    let rows = c.args.rows.now.items in
    let old = c.index.result.now in
    let was : slice_get rows c.args.at ≡ Some old = slice_get_read rows (length rows) c.args.at old refl c.requires.within c.index.ensures in
    (puts_again c.args.others.now.items c.put_again.new.others.items rows c.put_again.new.rows.items c.args.at old c.args.place c.requires.kept c.requires.within was (omega arith) c.put_again.ensures.others c.put_again.ensures.rows).0

pub returns-else-slot-eq0-clause-items : goal.returns-else-slot-eq0-clause-items
returns-else-slot-eq0-clause-items c =
    let rows = c.args.rows.now.items in
    let old = c.index.result.now in
    let was : slice_get rows c.args.at ≡ Some old = slice_get_read rows (length rows) c.args.at old refl c.requires.within c.index.ensures in
    (puts_again c.args.others.now.items c.put_again.new.others.items rows c.put_again.new.rows.items c.args.at old c.args.place c.requires.kept c.requires.within was (omega arith) c.put_again.ensures.others c.put_again.ensures.rows).1
