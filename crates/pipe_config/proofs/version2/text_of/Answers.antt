use Rattle.std.proofs.Common.{◌≡◌, true, false, Err, ap, sym, ◌∙◌}
use Rattle.toml.specs.Data.{members_have_valid_dates}
use Rattle.toml.specs.View.{table_view}
use Rattle.pipe_config.specs.Flat.{is_flat}
use Rattle.pipe_config.proofs.Leaves.{flat_table}
use Rattle.pipe_config.proofs.Shallow.{shallow, flat_dates}
use Rattle.pipe_config.proofs.version2.text_of.Goals as goal

pub prove-unreachable-requires : goal.prove-unreachable-requires
prove-unreachable-requires c =
    let seen = c.is_flat.ensures in
    let flat : is_flat (table_view c.args.table.now) ≡ true = flat_table (table_view c.args.table.now) seen.top seen.parts c.requires.version c.requires.faultless in
    let not_flat : is_flat (table_view c.args.table.now) ≡ false = sym seen.flat ∙ c.if-prove.true in
    cc

pub returns-in-Ok : goal.returns-in-Ok
returns-in-Ok c =
    let seen = c.is_flat.ensures in
    c.in-Ok.ensures.reads_back (shallow (table_view c.args.table.now) (flat_table (table_view c.args.table.now) seen.top seen.parts c.requires.version c.requires.faultless))

pub unreachable-requires : goal.unreachable-requires
unreachable-requires c =
    let seen = c.is_flat.ensures in
    let flat : is_flat (table_view c.args.table.now) ≡ true = flat_table (table_view c.args.table.now) seen.top seen.parts c.requires.version c.requires.faultless in
    let good : members_have_valid_dates (table_view c.args.table.now) ≡ true = flat_dates (table_view c.args.table.now) flat in
    let bad : members_have_valid_dates (table_view c.args.table.now) ≡ false = c.table_to_string.ensures.dates.0 (c.in-Err-DateInvalid.is ∙ ap Err c.in-Err-DateInvalid.field-0-is) in
    cc
