-- What a journal's entries stand for, given the store of what does not fit into them. No public clause cites this module.
use Rattle.std.specs.Prelude.{◌≡◌, ℕ, ◌+◌, ◌-◌, ◌<◌, ◌≤◌, Bool, true, false, List, [], ◌∷◌, map, reverse, replicate, unwrap_or, length, take, drop, slice_get}
use Rattle.std.specs.Bool.{⊤}
use Rattle.slab.specs.Slab.{Slab, get, ContainsKey, slab_len}
use Rattle.pipe_types.specs.declared.step.Step.{Step}
use Rattle.pipe_types.specs.declared.message.BatchEnd.{BatchEnd}
use Rattle.pipe_types.specs.declared.message.Outcome.{Outcome}
use Rattle.pipe_types.specs.declared.message.Reply.{Reply}
use Rattle.pipe_journal.specs.declared.store.Store.{Store}
use Rattle.pipe_journal.specs.declared.entry.Entry.{Entry}
use Rattle.pipe_journal.specs.Grown.{Extends}
use Rattle.pipe_model.specs.History.{History}

abbrev pub is_success : Outcome → Bool
is_success Outcome.Successful = true
is_success _ = false

-- so many items from a place on
abbrev pub piece : {X : Type 0} (first count : ℕ) → List X → List X
piece first count items = take count (drop first items)

-- the reply at a place
abbrev pub reply_in : List Reply → ℕ → Reply
reply_in replies at = unwrap_or (slice_get replies at) Reply.Crashed

-- the step under a key
abbrev pub step_in : Store → ℕ → Step
step_in store key = unwrap_or (get store.whole key) Step.Halt

-- the step of an entry
abbrev pub step_of : Store → Entry → Step
step_of store (Entry.Ask sub n) = Step.Ask sub n
step_of store (Entry.Fetch s n) = Step.Fetch s n
step_of store (Entry.Accept s first count) = Step.Accept s (piece first count store.kept.records)
step_of store (Entry.Quiet s) = Step.Quiet s
step_of store (Entry.SourceEnd s how) = Step.SourceEnd s how
step_of store (Entry.Dispatch s) = Step.Dispatch s
step_of store (Entry.Take s sub k) = Step.Take s sub k
step_of store (Entry.Done s first count) = Step.Done s (piece first count store.kept.replies)
step_of store (Entry.Gather s m) = Step.Gather s m
step_of store (Entry.Close s first trigger) = Step.Close s first trigger
step_of store (Entry.WroteAll s count bytes) = Step.Wrote s bytes (BatchEnd.Outcomes (replicate count Outcome.Successful))
step_of store (Entry.WroteNone s bytes) = Step.Wrote s bytes BatchEnd.Crashed
step_of store (Entry.Child s m slot) = Step.Child s m slot
step_of store (Entry.ChildEnd s slot at) = Step.ChildEnd s slot (reply_in store.kept.replies at)
step_of store (Entry.Kill s why) = Step.Kill s why
step_of store (Entry.Restart s) = Step.Restart s
step_of store (Entry.Tick now) = Step.Tick now
step_of store (Entry.Drain cause) = Step.Drain cause
step_of store Entry.Halt = Step.Halt
step_of store (Entry.Refuse line) = Step.Refuse line
step_of store (Entry.Whole key) = step_in store key

-- what the entry names stands in the store
abbrev pub IsHeld : Store → Entry → Type 0
IsHeld store (Entry.Accept s first count) = first + count ≤ length store.kept.records
IsHeld store (Entry.Done s first count) = first + count ≤ length store.kept.replies
IsHeld store (Entry.ChildEnd s slot at) = at < length store.kept.replies
IsHeld store (Entry.Whole key) = ContainsKey store.whole key
IsHeld store _ = ⊤

-- what all these entries name does
abbrev pub AreHeld : Store → List Entry → Type 0
AreHeld store [] = ⊤
AreHeld store (entry ∷ entries) = IsHeld store entry × AreHeld store entries

-- each value of the old slab stays under its key in the new one
abbrev pub KeepsValues : {X : Type 0} → Slab X → Slab X → Type 0
KeepsValues old new = (key : ℕ) → ContainsKey old key → get new key ≡ get old key

-- all that stood in the store stands where it stood
pub record Keeps (old new : Store) : Type 0 where
  pub records : Extends old.kept.records new.kept.records
  pub replies : Extends old.kept.replies new.kept.replies
  pub whole : KeepsValues old.whole new.whole

-- how many values more fit with no allocation
abbrev pub room_in : {X : Type 0} → Slab X → ℕ
room_in slab = slab.capacity - slab_len slab

-- how many steps more the store has room for, packed or not
abbrev pub spare_of : Store → ℕ
spare_of store = room_in store.whole

-- the steps of these entries, which are oldest first
abbrev pub steps_of : Store → List Entry → History
steps_of store entries = reverse (map (step_of store) entries)
