-- What a feed of lines shows.
use Rattle.std.specs.Prelude.{ℕ, Bool, if◌then◌else◌, List, length, drop, nat_lt, is_some, unwrap_or}
use Rattle.ack_feed.specs.Fed.{text_of}
use Rattle.ack_feed.specs.declared.lines.LineFeed.{LineFeed}

-- where the lines go
abbrev pub sink_of : {K : Type 0} → LineFeed K → K
sink_of feed = feed.sink

-- the lines that are held, the first first
abbrev pub held_lines : {K : Type 0} → LineFeed K → List (List ℕ)
held_lines feed = feed.lines.items

-- the bytes that are still to be written
abbrev pub pending : {K : Type 0} → LineFeed K → List ℕ
pending feed = drop (unwrap_or feed.fault 0) (text_of feed.lines.items)

-- for how many lines there is room
abbrev pub room_of : {K : Type 0} → LineFeed K → ℕ
room_of feed = feed.lines.capacity

-- the lines that are held once there is room for one more: where there was none, the first of them has gone
abbrev pub room_made : (room : ℕ) → List (List ℕ) → List (List ℕ)
room_made room lines = if nat_lt (length lines) room then lines else drop 1 lines

-- a write failed
abbrev pub has_failed : {K : Type 0} → LineFeed K → Bool
has_failed feed = is_some feed.fault
