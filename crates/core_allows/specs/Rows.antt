-- What a row that may be missing says.
use Rattle.std.specs.Prelude.{ℕ, Bool, false, ◌==◌, ◌&&◌, nat_le, nat_lt, Option, Some, None}
use Rattle.pipe_types.specs.declared.numbers.MsgNo.{MsgNo}
use Rattle.core_tables.specs.declared.rows.PostRow.{PostRow}
use Rattle.core_tables.specs.declared.rows.StageRow.{StageRow}

-- the post's job was last put out from this incarnation
abbrev pub from_by : Option PostRow → (incarnation : ℕ) → Bool
from_by None i = false
from_by (Some row) i = row.from == i

-- how many records the stage's last fetch might bring
abbrev pub fetched_by : Option StageRow → ℕ
fetched_by None = 0
fetched_by (Some row) = row.last_fetch

-- the message is the one that the slot holds, or where it holds none the first, in one of so many slots
abbrev pub starts_by : Option MsgNo → (n slot most first : ℕ) → Bool
starts_by (Some held) n slot most first = held.0 == n
starts_by None n slot most first = nat_le 1 n && (nat_lt slot most && n == first)
