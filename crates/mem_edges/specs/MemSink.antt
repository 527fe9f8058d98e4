-- What a sink in memory shows.
use Rattle.std.specs.Prelude.{◌≡◌, ℕ, List, drop}
use Rattle.mem_edges.specs.declared.sink.MemSink.{MemSink}
use Rattle.mem_edges.specs.declared.sink.SinkAct.{SinkAct}

-- all the bytes that it holds
abbrev pub held_by : MemSink → List ℕ
held_by k = k.held.items

-- how many further bytes fit
abbrev pub room_of : MemSink → ℕ
room_of k = k.room

-- its whole script, and the acts that are to come
abbrev pub acts : MemSink → List SinkAct
acts k = k.script

abbrev pub acts_left : MemSink → List SinkAct
acts_left k = drop k.next k.script

-- it answered no write
pub record IsUnwritten (k : MemSink) : Type 0 where
  pub no_act : k.next ≡ 0
  pub no_fault : k.faults ≡ 0
