-- The rows of the pairs in a table, and what a call makes of them.
use Rattle.std.specs.Prelude.{◌≡◌, ℕ, zero, suc, ◌+◌, ◌*◌, ◌-◌, ◌<◌, Bool, true, false, ◌&&◌, ◌==◌, nat_le, nat_lt, if◌then◌else◌, List, length, map, count_by, slice_index_or, Option, Some, None, option_map}
use Rattle.pipe_types.specs.declared.numbers.StageNo.{StageNo}
use Rattle.pipe_types.specs.declared.numbers.SubNo.{SubNo}
use Rattle.pipe_types.specs.Numbers.{stage, same_stage, subscription}
use Rattle.stage_demand.specs.Demand.{counts_of, due_of}
use Rattle.stage_subs.specs.declared.SubRow.{SubRow}
use Rattle.stage_subs.specs.declared.TheConstants.{LAST_STAGE, STRIDE, CONSUMERS}
use Rattle.stage_subs.specs.Pairs.{PairRow}

-- a row as contracts see it
abbrev pub seen_in : SubRow → PairRow
seen_in row = record { generation = row.generation; is_live = row.live; counts = counts_of row.demand }

abbrev pub rows_of : List (Option SubRow) → List (Option PairRow)
rows_of rows = map (option_map seen_in) rows

-- where the row of a pair stands
abbrev pub slot_of : (consumer producer : StageNo) → ℕ
slot_of c p = c.0 * STRIDE + p.0

-- the pair's row: none where the pair never had a subscription
abbrev pub row_at : List (Option PairRow) → (consumer producer : StageNo) → Option PairRow
row_at table c p = if nat_le p.0 LAST_STAGE then slice_index_or table (slot_of c p) None else None

-- the row of a subscription's pair
abbrev pub row_of : List (Option PairRow) → SubNo → Option PairRow
row_of table u = row_at table u.consumer u.producer

-- the generation of the pair's last subscription, and 0 where it never had one
abbrev pub generation_in : Option PairRow → ℕ
generation_in None = 0
generation_in (Some row) = row.generation

abbrev pub live_in : Option PairRow → Bool
live_in None = false
live_in (Some row) = row.is_live

-- how many subscriptions are live
abbrev pub live_rows : List (Option PairRow) → ℕ
live_rows table = count_by live_in table

-- an ask is due on the pair's last subscription, which is live
abbrev pub has_due_in : Option PairRow → Bool
has_due_in None = false
has_due_in (Some row) = row.is_live && nat_lt 0 (due_of row.counts)

-- on how many subscriptions an ask is due
abbrev pub due_rows : List (Option PairRow) → ℕ
due_rows table = count_by has_due_in table

-- the subscription is its pair's last one, and live
abbrev pub is_live_in : Option PairRow → (generation : ℕ) → Bool
is_live_in None g = false
is_live_in (Some row) g = row.is_live && row.generation == g

abbrev pub is_live : List (Option PairRow) → SubNo → Bool
is_live table u = is_live_in (row_of table u) u.generation

abbrev pub live_sub_in : Option PairRow → (consumer producer : StageNo) → Option SubNo
live_sub_in None c p = None
live_sub_in (Some row) c p = if row.is_live then Some (subscription c p row.generation) else None

-- the pair's live subscription
abbrev pub live_sub : List (Option PairRow) → (consumer producer : StageNo) → Option SubNo
live_sub table c p = live_sub_in (row_at table c p) c p

abbrev pub due_in : Option PairRow → (generation : ℕ) → ℕ
due_in None g = 0
due_in (Some row) g = if row.is_live && row.generation == g then due_of row.counts else 0

-- the ask that is due on the subscription: none where it is not live
abbrev pub due_on : List (Option PairRow) → SubNo → ℕ
due_on table u = due_in (row_of table u) u.generation

abbrev pub room_in : Option PairRow → (generation : ℕ) → ℕ
room_in None g = 0
room_in (Some row) g = if row.is_live && row.generation == g then row.counts.asked - row.counts.arrived else 0

-- the open demand of the subscription: none where it is not live
abbrev pub room_on : List (Option PairRow) → SubNo → ℕ
room_on table u = room_in (row_of table u) u.generation

abbrev pub open_in : Option PairRow → ℕ
open_in None = 0
open_in (Some row) = if row.is_live then row.counts.asked - row.counts.arrived else 0

-- the open demand on the producer of the consumers below this number
abbrev pub room_to : List (Option PairRow) → (producer : StageNo) → (consumers : ℕ) → ℕ
room_to table p zero = 0
room_to table p (suc c) = room_to table p c + open_in (row_at table (stage c) p)

-- and of all consumers
abbrev pub room_below : List (Option PairRow) → (producer : StageNo) → ℕ
room_below table p = room_to table p CONSUMERS

-- What a call makes of a row

-- a new subscription
abbrev pub begun : (generation min max : ℕ) → PairRow
begun g min max = record { generation = g; is_live = true; counts = record { min = min; max = max; asked = 0; arrived = 0; handled = 0 } }

abbrev pub closed : PairRow → PairRow
closed row = record { generation = row.generation; is_live = false; counts = row.counts }

abbrev pub asked_more : ℕ → PairRow → PairRow
asked_more n row = record row { counts = record row.counts { asked = row.counts.asked + n } }

abbrev pub sent_more : ℕ → PairRow → PairRow
sent_more k row = record row { counts = record row.counts { arrived = row.counts.arrived + k } }

abbrev pub handled_more : ℕ → PairRow → PairRow
handled_more k row = record row { counts = record row.counts { handled = row.counts.handled + k } }

-- What a call makes of a table

abbrev pub is_pair : (consumer producer : StageNo) → StageNo → StageNo → Bool
is_pair c p d q = same_stage d c && same_stage q p

-- the pair has this row, and every other pair has the row that it had
pub record IsPut (old new : List (Option PairRow)) (consumer producer : StageNo) (row : PairRow) : Type 0 where
  pub rows : (c p : StageNo) → row_at new c p ≡ (if is_pair consumer producer c p then Some row else row_at old c p)

-- the row of the subscription's pair is changed so, and every other pair has the row that it had
pub record IsChanged (old new : List (Option PairRow)) (u : SubNo) (change : PairRow → PairRow) : Type 0 where
  pub rows : (c p : StageNo) → row_at new c p ≡ (if is_pair u.consumer u.producer c p then option_map change (row_at old c p) else row_at old c p)

-- What a table keeps

-- it has no row yet or one for each pair, so many of its subscriptions are live, and on so many an ask is due
pub record IsTable (rows : List (Option SubRow)) (live due : ℕ) : Type 0 where
  pub sized : 0 < length rows → length rows ≡ CONSUMERS * STRIDE
  pub counted : live_rows (rows_of rows) ≡ live
  pub due_counted : due_rows (rows_of rows) ≡ due
