use Rattle.std.proofs.Common.{◌∙◌, refl, arith}
use Rattle.pipe_model.specs.Legal.{is_batcher_role}
use Rattle.core_rows.proofs.Fetched.{role_is}
use Rattle.core_rows.proofs.Known.{row_within}
use Rattle.core_moves.proofs.Firsts.{held_here, found_some, found_none}
use Rattle.core_moves.proofs.closes.closing_of.Goals as goal

pub is_dry-dry-requires-clause-role : goal.is_dry-dry-requires-clause-role
is_dry-dry-requires-clause-role c = role_is c.args.core.now.topology c.args.spec.now is_batcher_role c.requires.there ∙ c.requires.batcher

pub index-requires : goal.index-requires
index-requires c =
    let core = c.args.core.now in
    let x = c.requires.stands.holds in
    omega (arith, row_within core.topology c.args.spec.now x.sound c.requires.there, x.fields.sized.batchers)

pub returns-in-Some : goal.returns-in-Some
returns-in-Some c =
    let core = c.args.core.now in
    let held = c.index.result.now in
    found_some core c.args.spec.now.no held c.is_dry-dry.result c.in-Some.found c.requires.stands (held_here core c.args.spec.now held c.requires.stands c.requires.there c.index.ensures) c.is_dry-dry.ensures c.in-Some.ensures.closable c.in-Some.ensures.first

pub returns-in-None : goal.returns-in-None
returns-in-None c =
    let core = c.args.core.now in
    let held = c.index.result.now in
    found_none core c.args.spec.now.no held c.is_dry-dry.result c.requires.stands (held_here core c.args.spec.now held c.requires.stands c.requires.there c.index.ensures) c.is_dry-dry.ensures (c.in-None.ensures.none.0 refl)
