-- When a call by name fails.
use Rattle.std.specs.Prelude.{◌≡◌, Bool, true, false, Result, Ok, Err}
use Rattle.pipe_edges.specs.declared.edges.EdgeEnd.{EdgeEnd}
use Rattle.pipe_edges.specs.declared.edges.EdgeEnd.TheVariants.{Failed, OutOfMemory}

-- a call fails exactly where it is refused, but for want of memory
abbrev pub RefusesExactly : {T : Type 0} → Bool → Result T EdgeEnd → Type 0
RefusesExactly refused (Ok _) = refused ≡ false
RefusesExactly refused (Err Failed) = refused ≡ true
RefusesExactly refused (Err OutOfMemory) = Unit {0}
