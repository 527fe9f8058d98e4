use Rattle.std.proofs.Common.{◌∙◌, refl, arith}
use Rattle.core_allows.proofs.OpenBatches.{held_at, batcher_within, closes_some, closes_none}
use Rattle.core_allows.proofs.closes.closes_by.Goals as goal

pub index-requires : goal.index-requires
index-requires c =
    let core = c.args.core.now in
    let x = c.requires.stands.holds in
    omega (arith, batcher_within core.topology c.args.stage x.sound c.requires.role, x.fields.sized.batchers)

pub returns-in-Some : goal.returns-in-Some
returns-in-Some c =
    let core = c.args.core.now in
    let held = c.index.result.now in
    c.is_same.ensures
    ∙ closes_some core c.args.stage c.args.first held c.is_dry-dry.result c.in-Some.found c.args.trigger c.requires.stands
    (held_at core c.args.stage held c.requires.stands c.requires.role c.index.ensures) c.is_dry-dry.ensures c.requires.least c.in-Some.ensures.closable c.in-Some.ensures.first

pub returns-in-None : goal.returns-in-None
returns-in-None c =
    let core = c.args.core.now in
    let held = c.index.result.now in
    closes_none core c.args.stage c.args.first held c.is_dry-dry.result c.args.trigger c.requires.stands
    (held_at core c.args.stage held c.requires.stands c.requires.role c.index.ensures) c.is_dry-dry.ensures c.requires.least (c.in-None.ensures.none.0 refl)
