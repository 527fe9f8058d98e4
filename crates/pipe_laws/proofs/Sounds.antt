-- The stages of a sound topology stand in number order.
use Rattle.std.proofs.Common.{◌≡◌, ℕ, ◌+◌, List, [], ◌∷◌, length, true, arith}
use Rattle.std.specs.Prelude.{◌==◌}
use Rattle.std.proofs.lemmas.Bool.{eqb-true}
use Rattle.pipe_types.specs.declared.topology.Topology.{Topology}
use Rattle.pipe_types.specs.declared.topology.StageSpec.{StageSpec}
use Rattle.pipe_types.specs.Sound.{IsSound, is_ordered, may_begin, may_go_on, may_follow, batchers}
use Rattle.pipe_laws.proofs.Tests.{and_left, and_right}
use Rattle.pipe_laws.proofs.Numbers.{AscendFrom}

go_on_ascends : (n : ℕ) (spec : StageSpec) (specs : List StageSpec) → may_go_on n spec specs ≡ true → AscendFrom spec.no.0 specs
go_on_ascends n spec [] h = tt
go_on_ascends n spec (next ∷ specs) h =
    let follows : may_follow spec next ≡ true = and_left (may_follow spec next) _ h in
    let one : next.no.0 ≡ spec.no.0 + 1 = eqb-true next.no.0 (spec.no.0 + 1) (and_left (next.no.0 == spec.no.0 + 1) _ follows) in
    (omega arith, go_on_ascends n next specs (and_right (may_follow spec next) _ h))

ordered_ascends : (specs : List StageSpec) → is_ordered specs ≡ true → AscendFrom 0 specs
ordered_ascends [] h = tt
ordered_ascends (spec ∷ specs) h =
    let begins : may_begin spec ≡ true = and_left (may_begin spec) _ h in
    let one : spec.no.0 ≡ 1 = eqb-true spec.no.0 1 (and_left (spec.no.0 == 1) _ begins) in
    (omega arith, go_on_ascends (length (batchers (spec ∷ specs))) spec specs (and_right (may_begin spec) _ h))

-- the stages of a sound topology ascend from 1
pub sound_ascends : (topology : Topology) → IsSound topology → AscendFrom 0 topology.stages
sound_ascends topology sound = ordered_ascends topology.stages sound.ordered
