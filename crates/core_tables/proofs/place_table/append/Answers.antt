use Rattle.std.proofs.Common.{◌∙◌, ◌++◌, ◌∷◌, [], map, subst, ap, arith}
use Rattle.core_tables.specs.Placed.{IsSplit, seen}
use Rattle.core_tables.proofs.Placing.{appends_spot, appends_other}
use Rattle.core_tables.proofs.place_table.append.Goals as goal

pub append_other-requires-clause-others_room : goal.append_other-requires-clause-others_room
append_other-requires-clause-others_room c = omega (arith, c.requires.kept.few, c.requires.rows, c.requires.room, c.args.rows.now.ok.0, c.args.others.now.ok.0)

pub append_other-requires-clause-few : goal.append_other-requires-clause-few
append_other-requires-clause-few c = omega (arith, c.requires.kept.few, c.requires.rows, c.requires.few, c.args.rows.now.ok.0)

pub returns-in-None-clause-kept : goal.returns-in-None-clause-kept
returns-in-None-clause-kept c =
    (appends_spot c.args.others.now.items c.args.rows.now.items c.append_spot.new.rows.items c.split-spot.result.0 c.args.place c.requires.kept c.append_spot.ensures.rows
    (subst (IsSplit c.args.place c.split-spot.result.0) c.in-None.is c.split-spot.ensures)).0

pub returns-in-None-clause-items : goal.returns-in-None-clause-items
returns-in-None-clause-items c =
    (appends_spot c.args.others.now.items c.args.rows.now.items c.append_spot.new.rows.items c.split-spot.result.0 c.args.place c.requires.kept c.append_spot.ensures.rows
    (subst (IsSplit c.args.place c.split-spot.result.0) c.in-None.is c.split-spot.ensures)).1

pub returns-in-Some-clause-kept : goal.returns-in-Some-clause-kept
returns-in-Some-clause-kept c =
    (appends_other c.args.others.now.items c.append_other.new.others.items c.args.rows.now.items c.append_other.new.rows.items c.in-Some.other c.requires.kept c.append_other.ensures.others c.append_other.ensures.rows).0

pub returns-in-Some-clause-items : goal.returns-in-Some-clause-items
returns-in-Some-clause-items c =
    (appends_other c.args.others.now.items c.append_other.new.others.items c.args.rows.now.items c.append_other.new.rows.items c.in-Some.other c.requires.kept c.append_other.ensures.others c.append_other.ensures.rows).1
    ∙ ap (λ p. map (seen c.args.others.now.items) c.args.rows.now.items ++ p ∷ []) (subst (IsSplit c.args.place c.split-spot.result.0) c.in-Some.is c.split-spot.ensures).1
