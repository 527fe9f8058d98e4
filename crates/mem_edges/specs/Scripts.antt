-- What the acts of a script make of a call.
use Rattle.std.specs.Prelude.{◌≡◌, ◌==◌, ◌+◌, ◌-◌, ◌^◌, ℕ, List, [], ◌∷◌, min, max, if◌then◌else◌}
use Rattle.pipe_edges.specs.declared.source.ReadEnd.{ReadEnd}
use Rattle.pipe_edges.specs.declared.source.ReadEnd.TheVariants as read
use Rattle.pipe_edges.specs.declared.sink.WriteEnd.{WriteEnd}
use Rattle.pipe_edges.specs.declared.sink.WriteEnd.TheVariants as write
use Rattle.mem_edges.specs.declared.source.SourceAct.{SourceAct}
use Rattle.mem_edges.specs.declared.source.SourceAct.TheVariants.{Give, Wait, Fail}
use Rattle.mem_edges.specs.declared.sink.SinkAct.{SinkAct}
use Rattle.mem_edges.specs.declared.sink.SinkAct.TheVariants as sink

-- so many bytes, or all that are left where these are fewer, or the end
abbrev pub gift : ℕ → ℕ → ReadEnd
gift most left = if left == 0 then read.End else read.Got (min most left)

-- what a read answers by the acts that are to come, the room in its piece and the number of bytes left
abbrev pub read_answer : List SourceAct → ℕ → ℕ → ReadEnd
read_answer [] room left = gift room left
read_answer (Give n ∷ _) room left = gift (min (max n 1) room) left
read_answer (Wait ∷ _) room left = read.Empty
read_answer (Fail ∷ _) room left = read.Failed

abbrev pub IsGift : ℕ → ℕ → ℕ → ReadEnd → Type 0
IsGift most room left end = end ≡ gift (min most room) left

-- at most how many bytes a write takes by the acts that are to come and what it is offered
abbrev pub write_count : List SinkAct → ℕ → ℕ
write_count [] size = size
write_count (sink.Take n ∷ _) size = min (max n 1) size
write_count (sink.Fail ∷ _) size = 0

-- what a write takes is what its act allows, as far as there is room, and it fails just where that is nothing
abbrev pub TakesBy : List SinkAct → ℕ → ℕ → WriteEnd → Type 0
TakesBy acts size room (write.Took n) = n ≡ min (write_count acts size) room
TakesBy acts size room write.Failed = min (write_count acts size) room ≡ 0

-- the room that a write leaves
abbrev pub room_after : ℕ → WriteEnd → ℕ
room_after room (write.Took n) = room - n
room_after room write.Failed = room

-- ---- counts

-- a count of 64 bits is one more, or is full
abbrev pub counted_once : ℕ → ℕ
counted_once count = min (count + 1) (2 ^ 64 - 1)

-- the faults of a source after a read, one more just where it failed
abbrev pub faults_after_read : ReadEnd → ℕ → ℕ
faults_after_read read.Failed faults = counted_once faults
faults_after_read _ faults = faults

-- and its waits, one more just where nothing was ready
abbrev pub waits_after_read : ReadEnd → ℕ → ℕ
waits_after_read read.Empty waits = counted_once waits
waits_after_read _ waits = waits

-- the faults of a sink after a write, one more just where it failed
abbrev pub faults_after_write : WriteEnd → ℕ → ℕ
faults_after_write write.Failed faults = counted_once faults
faults_after_write (write.Took n) faults = faults
