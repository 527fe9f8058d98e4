-- Where no source is a merge beside a rate, no merge has a pace.
use Rattle.std.proofs.Common.{◌≡◌, ℕ, List, true, false, length, refl, ap, sym, ◌∙◌, subst, Option, Some, None}
use Rattle.std.specs.Prelude.{IsSome}
use Rattle.pipe_types.specs.Sound.{producers}
use Rattle.pipe_types.specs.declared.topology.Rate.{Rate}
use Rattle.pipe_types.specs.declared.topology.Role.{Role}
use Rattle.pipe_types.specs.declared.topology.Role.TheVariants.{Producer, Processor, Supervisor, Batcher, BatchProcessor}
use Rattle.pipe_types.specs.declared.topology.StageSpec.{StageSpec}
use Rattle.pipe_types.specs.declared.topology.Topology.{Topology}
use Rattle.pipe_edges.specs.Paces.{Pace}
use Rattle.edge_names.specs.Gates.{pace_by, pace_of_stage}
use Rattle.edge_names.specs.Supplies.{Feed, Merged, Fed, IsUnmerged, at_paces, merge_count, supplied_by}
use Rattle.pipe_run.proofs.Bodies.{AreUngated, is_fed, written_not_fed}
use Rattle.edge_names.specs.Supplies.{written}

record IsMergeOf (at : Option Pace) (given : Option Feed) (pace : Option Pace) (names : List (List ℕ)) : Type 0 where
  pub same : at ≡ pace
  pub is : given ≡ Some (Merged names)

merge_of : (r : Role) (at : Option Pace) (given : Option Feed) (edge : Option (List ℕ)) (pace : Option Pace) (names : List (List ℕ)) → supplied_by r at given edge ≡ Some (Fed pace (Merged names)) → IsMergeOf at given pace names
merge_of Producer at (Some feed) edge pace names e = record { same = cc; is = let f : feed ≡ Merged names = cc in ap Some f }
merge_of Producer at None edge pace names e = cc
merge_of Processor at given edge pace names e = cc
merge_of Supervisor at given edge pace names e = cc
merge_of Batcher at given edge pace names e = cc
merge_of BatchProcessor at given edge pace names e = let no : is_fed (written edge) ≡ false = written_not_fed edge in let yes : is_fed (written edge) ≡ true = ap is_fed e in cc

pub ungated : (topology : Topology) (origin : StageSpec → Option Feed) → IsUnmerged topology origin → AreUngated (at_paces topology origin)
ungated topology origin unmerged spec pace names e = by topology.rate refl
  where
    of : IsMergeOf (pace_of_stage topology spec) (origin spec) pace names
    of = merge_of spec.role (pace_of_stage topology spec) (origin spec) spec.edge pace names e

    by : (rate : Option Rate) → topology.rate ≡ rate → pace ≡ None
    by None is = sym of.same ∙ ap (λ r. pace_by r (length (producers topology.stages)) spec.index) is
    by (Some rate) is =
        let some : IsSome topology.rate = subst (λ (r : Option Rate). IsSome r) (sym is) refl in
        let none : merge_count (origin spec) ≡ None = unmerged some spec in
        let yes : merge_count (origin spec) ≡ Some (length names) = ap merge_count of.is in
        cc
