-- What the reader of TOML answers, as the table of the bytes.
use Rattle.std.proofs.Common.{◌≡◌, ℕ, ◌<◌, ◌≤◌, Bool, true, false, List, length, Some, None, IsUtf8, cond, ltb, refl, arith}
use Rattle.std.proofs.lemmas.Bool.Decides.{nat_tests}
use Rattle.std.proofs.lemmas.Str.{IsUtf8-from_is_utf8, is_utf8-from_IsUtf8}
use Rattle.std.specs.Str.{is_utf8}
use Rattle.toml.specs.Data.{Members}
use Rattle.toml.specs.Parse.{parse_document}
use Rattle.pipe_config.specs.File.{table_of}

pub long_file : (bytes : List ℕ) → 1048576 < length bytes → table_of bytes ≡ None
long_file bytes long = grind (arith, nat_tests)

pub text_table : (bytes : List ℕ) (table : Members) → length bytes ≤ 1048576 → IsUtf8 bytes × (parse_document bytes ≡ Some table) → table_of bytes ≡ Some table
text_table bytes table short (utf8, parsed) = let e : is_utf8 bytes ≡ true = is_utf8-from_IsUtf8 bytes utf8 in let s : ltb 1048576 (length bytes) ≡ false = grind (arith, nat_tests) in rw (s, e) parsed

bad_text : (b : Bool) (bytes : List ℕ) → is_utf8 bytes ≡ b → (IsUtf8 bytes → parse_document bytes ≡ None) → cond b (parse_document bytes) None ≡ None
bad_text true bytes e refused = refused (IsUtf8-from_is_utf8 bytes e)
bad_text false bytes e refused = refl

pub no_text : (bytes : List ℕ) → length bytes ≤ 1048576 → (IsUtf8 bytes → parse_document bytes ≡ None) → table_of bytes ≡ None
no_text bytes short refused = let s : ltb 1048576 (length bytes) ≡ false = grind (arith, nat_tests) in rw s (bad_text (is_utf8 bytes) bytes refl refused)
