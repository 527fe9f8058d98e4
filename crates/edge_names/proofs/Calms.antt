-- What made sources have counted, stage by stage.
use Rattle.std.proofs.Common.{◌≡◌, ℕ, Bool, true, false, List, [], ◌∷◌, subst}
use Rattle.std.specs.Prelude.{Option, Some, if◌then◌else◌, All}
use Rattle.std.proofs.lemmas.List.Elements.{All-head, All-tail}
use Rattle.pipe_types.specs.Numbers.{post, same_stage}
use Rattle.pipe_types.specs.Stages.{spec_in, spec_of}
use Rattle.pipe_types.specs.declared.numbers.StageNo.{StageNo}
use Rattle.pipe_types.specs.declared.topology.StageSpec.{StageSpec}
use Rattle.pipe_types.specs.declared.topology.Topology.{Topology}
use Rattle.stage_bodies.specs.Seen.{BodySeen}
use Rattle.stage_bodies.specs.Posts.{place_at}
use Rattle.stage_laws.specs.Numbered.{IsNumberedTopology}
use Rattle.edge_names.specs.Supplies.{Feeds, supplied}
use Rattle.edge_names.specs.Returned.{AreCalm, IsCalm, source_in}

-- what holds of all stages holds of one that is found
all_found : (P : StageSpec → Type 0) (stages : List StageSpec) (s : StageNo) (spec : StageSpec) → All P stages → spec_in stages s ≡ Some spec → P spec
all_found P [] s spec h e = cc
all_found P (x ∷ xs) s spec h e = either (same_stage x.no s) e (all_found P xs s spec (All-tail P x xs h))
  where
    either : (b : Bool) → (if b then Some x else spec_in xs s) ≡ Some spec → (spec_in xs s ≡ Some spec → P spec) → P spec
    either true same rest = let is : x ≡ spec = cc in subst P is (All-head P x xs h)
    either false other rest = rest other

pub calm_of_stage : (feeds : Feeds) (topology : Topology) (s : StageNo) (spec : StageSpec) (table : ℕ → Option BodySeen) → IsNumberedTopology topology → spec_of topology s ≡ Some spec
    → AreCalm feeds topology.stages table → IsCalm (supplied feeds spec) (source_in (table (place_at (post s 0))))
calm_of_stage feeds topology s spec table numbered found calm =
    subst (λ (n : StageNo). IsCalm (supplied feeds spec) (source_in (table (place_at (post n 0))))) (numbered.named s spec found)
    (all_found (λ (x : StageSpec). IsCalm (supplied feeds x) (source_in (table (place_at (post x.no 0))))) topology.stages s spec calm found)
