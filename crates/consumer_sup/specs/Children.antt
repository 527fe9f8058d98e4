-- The children of a supervisor, and what becomes of one whose run ends.
use Rattle.std.specs.Prelude.{ℕ, ◌+◌, Bool, true, false, if◌then◌else◌, List, Option, Some, None, count_by, is_some, slice_index_or}
use Rattle.pipe_types.specs.declared.topology.ChildMode.{ChildMode}
use Rattle.pipe_types.specs.Children.{runs_again}
use Rattle.consumer_sup.specs.declared.Child.{Child}
use Rattle.consumer_sup.specs.declared.ChildEnd.{ChildEnd}
use Rattle.consumer_sup.specs.declared.ChildEnd.TheVariants.{Settled, Again, Lost}

-- the mode of the children, and what stands in each slot
pub record Slots : Type 0 where
  pub mode : ChildMode
  pub slots : List (Option Child)

-- the child in a slot: none in a free slot, and none past the last
abbrev pub child_in : List (Option Child) → (slot : ℕ) → Option Child
child_in slots slot = slice_index_or slots slot None

-- how many children are alive
abbrev pub alive : List (Option Child) → ℕ
alive slots = count_by is_some slots

-- what the end of a run makes of a child that crashed this often before
abbrev pub end_of : ChildMode → (crashes : ℕ) → (crashed : Bool) → ChildEnd
end_of mode crashes false = Settled
end_of mode crashes true = if runs_again mode crashes then Again else Lost

-- what stands in its slot afterwards
abbrev pub after_end : ChildEnd → Child → Option Child
after_end Again child = Some (record { no = child.no; crashes = child.crashes + 1 })
after_end _ child = None
