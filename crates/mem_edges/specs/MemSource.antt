-- What a source in memory shows.
use Rattle.std.specs.Prelude.{◌≡◌, ℕ, List, take, drop}
use Rattle.mem_edges.specs.declared.source.MemSource.{MemSource}
use Rattle.mem_edges.specs.declared.source.SourceAct.{SourceAct}

-- the bytes that it gave and those that are left
abbrev pub all_bytes : MemSource → List ℕ
all_bytes m = m.bytes

abbrev pub taken_of : MemSource → List ℕ
taken_of m = take m.at m.bytes

abbrev pub left_of : MemSource → List ℕ
left_of m = drop m.at m.bytes

-- its whole script, and the acts that are to come
abbrev pub acts : MemSource → List SourceAct
acts m = m.script

abbrev pub acts_left : MemSource → List SourceAct
acts_left m = drop m.next m.script

-- it answered no read
pub record IsUnread (m : MemSource) : Type 0 where
  pub nothing_taken : m.at ≡ 0
  pub no_act : m.next ≡ 0
  pub no_fault : m.faults ≡ 0
  pub no_wait : m.waits ≡ 0
