use Rattle.std.proofs.Common.{subst}
use Rattle.core_tables.specs.Placed.{IsSplit}
use Rattle.core_tables.proofs.Placing.{puts_spot}
use Rattle.core_tables.proofs.place_table.put.Goals as goal

pub returns-in-None-clause-kept : goal.returns-in-None-clause-kept
returns-in-None-clause-kept c =
    (puts_spot c.args.others.now.items c.args.rows.now.items c.put_spot.new.rows.items c.args.at c.split-spot.result.0 c.args.place c.requires.kept c.requires.within c.put_spot.ensures.rows
    (subst (IsSplit c.args.place c.split-spot.result.0) c.in-None.is c.split-spot.ensures)).0

pub returns-in-None-clause-items : goal.returns-in-None-clause-items
returns-in-None-clause-items c =
    (puts_spot c.args.others.now.items c.args.rows.now.items c.put_spot.new.rows.items c.args.at c.split-spot.result.0 c.args.place c.requires.kept c.requires.within c.put_spot.ensures.rows
    (subst (IsSplit c.args.place c.split-spot.result.0) c.in-None.is c.split-spot.ensures)).1
