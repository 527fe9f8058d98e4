-- A flat table is shallow and has no date-times.
use Rattle.std.proofs.Common.{◌≡◌, ◌≤◌, true, arith, refl}
use Rattle.std.proofs.lemmas.Bool.{and_parts}
use Rattle.toml.specs.Data.{Data, Items, no_items, item, Members, no_members, member, string, integer, array, table, depth, items_depth, members_depth, has_valid_dates, items_have_valid_dates, members_have_valid_dates}
use Rattle.pipe_config.specs.Flat.{is_text, are_texts, is_leaf, are_leaves, is_leaf_table, are_leaf_tables, is_part, is_flat}
use Rattle.pipe_config.proofs.Named.{both}

text_depth : (d : Data) → is_text d ≡ true → depth d ≤ 0
text_depth (string s) h = omega arith
text_depth _ h = cc

texts_depth : (ds : Items) → are_texts ds ≡ true → items_depth ds ≤ 0
texts_depth no_items h = omega arith
texts_depth (item d ds) h = let (here, more) = and_parts (is_text d) (are_texts ds) h in omega (arith, text_depth d here, texts_depth ds more)

leaf_depth : (d : Data) → is_leaf d ≡ true → depth d ≤ 1
leaf_depth (string s) h = omega arith
leaf_depth (integer z) h = omega arith
leaf_depth (array ds) h = omega (arith, texts_depth ds h)
leaf_depth _ h = cc

leaves_depth : (ms : Members) → are_leaves ms ≡ true → members_depth ms ≤ 1
leaves_depth no_members h = omega arith
leaves_depth (member k d ms) h = let (here, more) = and_parts (is_leaf d) (are_leaves ms) h in omega (arith, leaf_depth d here, leaves_depth ms more)

leaf_table_depth : (d : Data) → is_leaf_table d ≡ true → depth d ≤ 2
leaf_table_depth (table ms) h = omega (arith, leaves_depth ms h)
leaf_table_depth _ h = cc

leaf_tables_depth : (ds : Items) → are_leaf_tables ds ≡ true → items_depth ds ≤ 2
leaf_tables_depth no_items h = omega arith
leaf_tables_depth (item d ds) h = let (here, more) = and_parts (is_leaf_table d) (are_leaf_tables ds) h in omega (arith, leaf_table_depth d here, leaf_tables_depth ds more)

part_depth : (d : Data) → is_part d ≡ true → depth d ≤ 3
part_depth (string s) h = omega arith
part_depth (integer z) h = omega arith
part_depth (array ds) h = omega (arith, leaf_tables_depth ds h)
part_depth (table ms) h = omega (arith, leaves_depth ms h)
part_depth _ h = cc

flat_depth : (ms : Members) → is_flat ms ≡ true → members_depth ms ≤ 3
flat_depth no_members h = omega arith
flat_depth (member k d ms) h = let (here, more) = and_parts (is_part d) (is_flat ms) h in omega (arith, part_depth d here, flat_depth ms more)

-- the printer's text of a flat table is read back
pub shallow : (ms : Members) → is_flat ms ≡ true → members_depth ms ≤ 80
shallow ms h = omega (arith, flat_depth ms h)

text_dates : (d : Data) → is_text d ≡ true → has_valid_dates d ≡ true
text_dates (string s) h = refl
text_dates _ h = cc

texts_dates : (ds : Items) → are_texts ds ≡ true → items_have_valid_dates ds ≡ true
texts_dates no_items h = refl
texts_dates (item d ds) h = let (here, more) = and_parts (is_text d) (are_texts ds) h in both (text_dates d here) (texts_dates ds more)

leaf_dates : (d : Data) → is_leaf d ≡ true → has_valid_dates d ≡ true
leaf_dates (string s) h = refl
leaf_dates (integer z) h = refl
leaf_dates (array ds) h = texts_dates ds h
leaf_dates _ h = cc

leaves_dates : (ms : Members) → are_leaves ms ≡ true → members_have_valid_dates ms ≡ true
leaves_dates no_members h = refl
leaves_dates (member k d ms) h = let (here, more) = and_parts (is_leaf d) (are_leaves ms) h in both (leaf_dates d here) (leaves_dates ms more)

leaf_table_dates : (d : Data) → is_leaf_table d ≡ true → has_valid_dates d ≡ true
leaf_table_dates (table ms) h = leaves_dates ms h
leaf_table_dates _ h = cc

leaf_tables_dates : (ds : Items) → are_leaf_tables ds ≡ true → items_have_valid_dates ds ≡ true
leaf_tables_dates no_items h = refl
leaf_tables_dates (item d ds) h = let (here, more) = and_parts (is_leaf_table d) (are_leaf_tables ds) h in both (leaf_table_dates d here) (leaf_tables_dates ds more)

part_dates : (d : Data) → is_part d ≡ true → has_valid_dates d ≡ true
part_dates (string s) h = refl
part_dates (integer z) h = refl
part_dates (array ds) h = leaf_tables_dates ds h
part_dates (table ms) h = leaves_dates ms h
part_dates _ h = cc

-- the printer has no date-time to refuse
pub flat_dates : (ms : Members) → is_flat ms ≡ true → members_have_valid_dates ms ≡ true
flat_dates no_members h = refl
flat_dates (member k d ms) h = let (here, more) = and_parts (is_part d) (is_flat ms) h in both (part_dates d here) (flat_dates ms more)
