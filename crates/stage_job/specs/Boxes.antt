-- Boxes of a stock by their kinds.
use Rattle.std.specs.Prelude.{ℕ, Bool, true, false, List, count_by}
use Rattle.pipe_types.specs.declared.topology.Kind.{Kind}
use Rattle.pipe_types.specs.declared.topology.Kind.TheVariants.{Steps, Lines, Own}

abbrev pub same_kind : Kind → Kind → Bool
same_kind Steps Steps = true
same_kind Lines Lines = true
same_kind Own Own = true
same_kind _ _ = false

-- how many of the kinds are this one
abbrev pub boxes_of_kind : Kind → List Kind → ℕ
boxes_of_kind wanted kinds = count_by (same_kind wanted) kinds
