-- What is seen of a callback.
use Rattle.std.specs.Prelude.{ℕ, Bool, List}
use Rattle.pipe_types.specs.declared.topology.Kind.{Kind}
use Rattle.pipe_types.specs.declared.topology.StageSpec.{StageSpec}
use Rattle.stage_callback.specs.Laws.{Law}
use Rattle.stage_callback.specs.declared.answers.Said.{Said}
use Rattle.stage_bodies.specs.Seen.{BoxSeen}

abbrev pub box_of : Kind → StageSpec → (count calls bad resets : ℕ) → Law → (told : Bool) → List Said → BoxSeen
box_of kind spec count calls bad resets law told said =
    record { kind = kind; spec = spec; count = count; calls = calls; bad = bad; resets = resets; law = law; told = told; said = said }
