-- Where each source keeps its pace, the run keeps the rate.
use Rattle.std.proofs.Common.{◌≡◌, ◌≤◌, ℕ, Bool, true, false, length, refl, ap, ◌∙◌, Option, Some, None}
use Rattle.std.specs.Prelude.{IfSome, IsSome, option_map}
use Rattle.pipe_types.specs.Numbers.{post}
use Rattle.pipe_types.specs.Sound.{IsSound, is_producer, producers}
use Rattle.pipe_types.specs.Stages.{spec_of}
use Rattle.pipe_types.specs.declared.numbers.StageNo.{StageNo}
use Rattle.pipe_types.specs.declared.topology.Rate.{Rate}
use Rattle.pipe_types.specs.declared.topology.Role.{Role}
use Rattle.pipe_types.specs.declared.topology.Role.TheVariants.{Producer, Processor, Supervisor, Batcher, BatchProcessor}
use Rattle.pipe_types.specs.declared.topology.StageSpec.{StageSpec}
use Rattle.pipe_types.specs.declared.topology.Topology.{Topology}
use Rattle.pipe_model.specs.History.{History}
use Rattle.pipe_model.specs.Legal.{is_legal}
use Rattle.pipe_edges.specs.Paces.{Pace}
use Rattle.rate_laws.specs.Rates.{KeepsRate, KeepsShares, came_by, share_of}
use Rattle.rate_laws.proofs.Laws.{keeps_rate}
use Rattle.stage_bodies.specs.Seen.{SourcesSeen, OneSource, ManySources, sources_out, BodySeen}
use Rattle.stage_bodies.specs.Posts.{place_at}
use Rattle.body_laws.specs.Ready.{There}
use Rattle.edge_names.specs.Seen.{EdgesSeen}
use Rattle.edge_names.specs.Gates.{pace_by, pace_of_stage}
use Rattle.edge_names.specs.Supplies.{Feed, Fed, FeedsProducers, at_paces, fed, supplied_by}
use Rattle.edge_names.specs.Opened.{supplied_in}
use Rattle.edge_names.specs.Returned.{feed_in}
use Rattle.edge_names.proofs.Gating.{some_producer}
use Rattle.pipe_run.specs.Outside.{AreUsed, IsFedRead}

producer_role : (r : Role) → is_producer r ≡ true → r ≡ Producer
producer_role Producer e = refl
producer_role Processor e = cc
producer_role Supervisor e = cc
producer_role Batcher e = cc
producer_role BatchProcessor e = cc

-- a source that is there and keeps a pace brings no more than its share; a merge has no pace
within_share : (whole : Bool) (edges : EdgesSeen) (before : History) (p : StageNo) (pace : Pace) (feed : Feed) (o : Option SourcesSeen) (i : ℕ) → There o (IsFedRead whole edges before p (Some pace) feed) → came_by p pace.interval i before ≤ pace.share
within_share whole edges before p pace feed (Some (OneSource source)) i read = read.pace.0 i
within_share whole edges before p pace feed (Some (ManySources sources)) i read = let none : Some pace ≡ None = read.pace.0 in cc
within_share whole edges before p pace feed None i read = absurd read

share_kept : (origin : StageSpec → Option Feed) (whole : Bool) (topology : Topology) (edges : EdgesSeen) (before : History) (bodies : ℕ → Option BodySeen) (rate : Rate) → topology.rate ≡ Some rate → FeedsProducers origin topology
    → AreUsed (at_paces topology origin) whole topology edges before bodies → KeepsShares topology rate before
share_kept origin whole topology edges before bodies rate is feeds used p spec found producer i = by (origin spec) refl (feeds p spec found role)
  where
    role : spec.role ≡ Producer
    role = producer_role spec.role producer

    pace : Pace
    pace = record { share = share_of rate.allowed (length (producers topology.stages)) spec.index; interval = rate.interval }

    by : (o : Option Feed) → origin spec ≡ o → IsSome o → came_by p rate.interval i before ≤ share_of rate.allowed (length (producers topology.stages)) spec.index
    by None e some = let x : false ≡ true = some in cc
    by (Some feed) e some =
        let at : pace_of_stage topology spec ≡ Some pace = ap (λ r. pace_by r (length (producers topology.stages)) spec.index) is in
        let mine : supplied_in (at_paces topology origin) (spec_of topology p) ≡ Some (Fed (Some pace) feed) =
        ap (supplied_in (at_paces topology origin)) found
        ∙ ap (λ r. supplied_by r (pace_of_stage topology spec) (origin spec) spec.edge) role
        ∙ ap (λ x. fed x (origin spec)) at
        ∙ ap (λ x. fed (Some pace) x) e
        in
        within_share whole edges before p pace feed (option_map sources_out (feed_in (bodies (place_at (post p 0))))) i (used.sources p (Some pace) feed mine)

pub rate_kept : (origin : StageSpec → Option Feed) (whole : Bool) (topology : Topology) (edges : EdgesSeen) (before : History) (bodies : ℕ → Option BodySeen) → IsSound topology → is_legal topology before ≡ true → FeedsProducers origin topology
    → AreUsed (at_paces topology origin) whole topology edges before bodies → IfSome topology.rate (λ rate. KeepsRate rate before)
rate_kept origin whole topology edges before bodies sound legal feeds used = by topology.rate refl
  where
    by : (o : Option Rate) → topology.rate ≡ o → IfSome o (λ rate. KeepsRate rate before)
    by None is = tt
    by (Some rate) is = keeps_rate topology rate before sound legal (some_producer topology sound) (share_kept origin whole topology edges before bodies rate is feeds used)
