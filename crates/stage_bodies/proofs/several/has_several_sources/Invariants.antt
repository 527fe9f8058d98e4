use Rattle.std.proofs.Common.{◌≡◌, Bool, drop, ◌&&◌, ◌||◌}
use Rattle.stage_bodies.specs.Several.{have_producer, has_several_sources}
use Rattle.stage_bodies.proofs.several.has_several_sources.Given as goal

-- what is left decides, and one producer more where one was there
abbrev pub invariant-loop-spec : goal.invariant-loop-spec
invariant-loop-spec l =
    has_several_sources l.stages ≡ ((l.is_one && have_producer (drop l.spec-index l.stages)) || has_several_sources (drop l.spec-index l.stages))
