-- What was given back.
use Rattle.std.specs.Prelude.{ℕ, List, map}
use Rattle.file_socket_sinks.specs.declared.edges.GivenBack.{GivenBack}

-- what was given back, each with its name, in order
abbrev pub given_in : {T : Type 0} → List (GivenBack T) → List (List ℕ × T)
given_in back = map (λ (b : GivenBack _). (b.name, b.item)) back
