-- The kinds of atomic step: how each changes a view, and what it tells. `tell` and `finish` change none.
use Rattle.std.specs.Prelude.{◌≡◌, ◌≢◌, ℕ, ◌+◌, ◌-◌, [], ◌∷◌, List, Contains, Option, Some, None, true, false}
use Rattle.atomic_table.specs.Table.{Me}
use Rattle.atomic_table.specs.Table as table
use Rattle.pipe_types.specs.declared.numbers.Post.{Post}
use Rattle.pipe_model.specs.History.{History}
use Rattle.pipe_model.specs.Begins.{BeginsWith}
use Rattle.pipeline_turn.specs.Jobs.{IsUndone, longer}
use Rattle.pipeline_turn.specs.declared.view.View.{View}
use Rattle.pipeline_turn.specs.declared.view.Handed.{Handed}

module _ {O : Type 0} where
  -- take, where the value was at home
  abbrev pub taking : History → List Post → View O → View O
  taking journal posts v = record v { seen = journal; away = posts; holds = true }

  -- take, where it was away
  abbrev pub missing : View O → View O
  missing v = record v { misses = v.misses + 1 }

  -- give
  abbrev pub giving : History → Option Post → View O → View O
  giving journal job v = record v { seen = journal; job = job; holds = false }

  -- split: the old seat, and the new one
  abbrev pub parting : View O → View O
  parting v = record v { parts = v.parts - 1 }

  abbrev pub parted : View O → View O
  parted v = record v { parts = 1; told = []; job = None; holds = false; misses = 0 }

  -- join: the receiver, and the other; then the receiver has seen the longer journal of the two
  abbrev pub hearing : View O → View O → View O
  hearing v w = record v { parts = v.parts + w.parts; told = w.seen }

  abbrev pub spent_view : View O
  spent_view = record { parts = 0; origin = None; seen = []; told = []; away = []; job = None; holds = false; misses = 0 }

  abbrev pub settling : View O → View O
  settling v = record v { seen = longer v.seen v.told; told = [] }

abbrev pub Knows : Type 0 → Type 0 → Type 0
Knows V O = Me (Option (Handed V)) (View O)

abbrev pub At : Type 0 → Type 0
At V = table.Step (Option (Handed V))

-- a taken value stems from the seat's origin, begins with what the seat had seen, and the seat's job is undone and away
pub record Suits {V O : Type 0} (steps : V → History) (stems : O → V → Type 0) (away : V → List Post) (v : View O) (value : V) : Type 0 where
  pub from : (origin : O) → v.origin ≡ Some origin → stems origin value
  pub saw : BeginsWith (steps value) v.seen
  pub undone : (post : Post) → v.job ≡ Some post → IsUndone (steps value) v.seen post
  pub job_away : (post : Post) → v.job ≡ Some post → Contains (away value) post

module _ {V O : Type 0} where
  -- the value is in the slot that the seat then has; or it was away, and the seat missed it
  abbrev pub took : (V → History) → (O → V → Type 0) → (V → List Post) → At V → Knows V O → ℕ → Knows V O → Type 0
  took steps stems away at m found m' =
      (found ≡ 0 → (h : Handed V) × (m' ≡ (taking (steps h.value) (away h.value) m.0, (0, Some h) ∷ m.1)) × Suits steps stems away m.0 h.value)
      × (found ≢ 0 → m' ≡ (missing m.0, m.1))

  abbrev pub gave : (V → History) → At V → Knows V O → ℕ → Knows V O → Type 0
  gave steps at m found m' = (h : Handed V) → m.1 ≡ (0, Some h) ∷ [] → m' ≡ (giving (steps h.value) h.job m.0, [])

  abbrev pub unchanged : At V → Knows V O → ℕ → Knows V O → Type 0
  unchanged at m found m' = m' ≡ m

  abbrev pub settled : At V → Knows V O → ℕ → Knows V O → Type 0
  settled at m found m' =
      (m' ≡ (settling m.0, m.1)) × BeginsWith (longer m.0.seen m.0.told) m.0.seen × BeginsWith (longer m.0.seen m.0.told) m.0.told
