-- What bodies hold for the jobs of their posts.
use Rattle.std.specs.Prelude.{◌≡◌, ◌≢◌, ℕ, false, [], IsTrue, IsSome, IfSome, Option, Some, None, is_some}
use Rattle.pipe_types.specs.declared.numbers.StageNo.{StageNo}
use Rattle.pipe_types.specs.declared.numbers.Post.{Post}
use Rattle.pipe_types.specs.declared.topology.Kind.TheVariants.{Own}
use Rattle.pipe_types.specs.declared.topology.Role.{Role}
use Rattle.pipe_types.specs.declared.topology.Role.TheVariants.{Producer, Processor, Supervisor, Batcher, BatchProcessor}
use Rattle.pipe_types.specs.declared.topology.StageSpec.{StageSpec}
use Rattle.pipe_types.specs.declared.topology.Topology.{Topology}
use Rattle.pipe_types.specs.Stages.{spec_of}
use Rattle.pipe_model.specs.History.{History}
use Rattle.pipe_model.specs.Posts.{is_out}
use Rattle.stage_bodies.specs.Seen.{LineSeen, MergeSeen, FeedSeen, Single, Merged, sources_in, BoxSeen, BodySeen}
use Rattle.stage_bodies.specs.Reads.{AreMergedFrom}
use Rattle.line_merge.specs.Seen.{AreUnpaced}
use Rattle.stage_bodies.specs.Posts.{place_at}
use Rattle.stage_bodies.specs.declared.job.Work.{Work}
use Rattle.stage_bodies.specs.declared.job.Work.TheVariants as work
use Rattle.pace_laws.specs.Pacing.{IsNewGate, IsTold}
use Rattle.body_laws.specs.Keeps.{has_post, IsCounted}

-- one is there, and so
abbrev pub There : {A : Type 0} → Option A → (A → Type 0) → Type 0
There (Some x) P = P x
There None P = ⊥

-- a callback that was armed with the spec of the stage, and counts as the journal says
pub record IsArmed (topology : Topology) (before : History) (s : StageNo) (armed : StageSpec) (box : BoxSeen) : Type 0 where
  pub spec : box.spec ≡ armed
  pub kind : box.kind ≡ armed.kind
  pub count : IsCounted topology before s box

-- what the body of a stage of this role holds
abbrev pub IsBodyFor : Topology → History → StageNo → StageSpec → Role → BodySeen → Type 0
IsBodyFor topology before s spec Producer body = IsSome body.source
IsBodyFor topology before s spec Processor body = There body.callback (IsArmed topology before s spec)
IsBodyFor topology before s spec Supervisor body = There body.callback (IsArmed topology before s spec)
IsBodyFor topology before s spec Batcher body = Unit {0}
IsBodyFor topology before s spec BatchProcessor body =
    There body.callback (IsArmed topology before s spec) × (is_some body.sink ≡ is_some spec.edge)

-- the body holds what the jobs of the stage need
abbrev pub IsBodyOf : Topology → History → StageNo → StageSpec → BodySeen → Type 0
IsBodyOf topology before s spec body = IsBodyFor topology before s spec spec.role body

-- the body holds what the jobs of the post need
abbrev pub IsBodyAt : Topology → History → Post → BodySeen → Type 0
IsBodyAt topology before p body = There (spec_of topology p.stage) (λ spec. IsBodyOf topology before p.stage spec body)

-- a merge is not told
abbrev pub IsToldFeed : History → StageNo → FeedSeen → Type 0
IsToldFeed before s (Single now) = IsTold before s now
IsToldFeed before s (Merged now) = Unit {0}

-- the source of a body that left for a fetch was told the moment of the fetch
abbrev pub WasTold : History → StageNo → Work → BodySeen → Type 0
WasTold before s (work.Fetch most) body = IfSome body.source (IsToldFeed before s)
WasTold before s _ body = Unit {0}

-- the body of each post that is not out is there, and holds what its jobs need
abbrev pub Ready : Topology → History → (ℕ → Option BodySeen) → Type 0
Ready topology before now =
    (p : Post) → IsTrue (has_post topology p) → is_out before p ≡ false → There (now (place_at p)) (IsBodyAt topology before p)

-- nothing was read of the source, whose gate was told no moment and has given nothing
pub record AreNewLines (lines : LineSeen) : Type 0 where
  pub waiting : lines.waiting ≡ []
  pub end : lines.end ≡ None
  pub gate : IsNewGate lines.source.paced

-- nothing was read of the sources, which have no pace
pub record IsNewMerge (merge : MergeSeen) : Type 0 where
  pub read : AreMergedFrom (sources_in (Merged merge)) merge []
  pub unpaced : AreUnpaced merge

abbrev pub IsNewFeed : FeedSeen → Type 0
IsNewFeed (Single lines) = AreNewLines lines
IsNewFeed (Merged merge) = IsNewMerge merge

-- nothing was read of its source, and a built-in callback counted nothing
pub record IsUnused (body : BodySeen) : Type 0 where
  pub source : IfSome body.source IsNewFeed
  pub count : IfSome body.callback (λ box. box.kind ≢ Own → box.count ≡ 0)

-- the bodies that a run begins with: each post has its own, which is unused
pub record IsFilled (topology : Topology) (opened : ℕ → Option BodySeen) : Type 0 where
  pub ready : Ready topology [] opened
  pub unused : (p : Post) → IsTrue (has_post topology p) → IfSome (opened (place_at p)) IsUnused
