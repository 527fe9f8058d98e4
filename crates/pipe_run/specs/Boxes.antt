-- What a run leaves of the boxes of a stock.
use Rattle.std.specs.Prelude.{◌≡◌, ◌≤◌, ℕ, Bool, true, false, List, length, map, slice_get, IsTrue, Option, Some, None}
use Rattle.pipe_types.specs.declared.numbers.Post.{Post}
use Rattle.pipe_types.specs.declared.topology.Kind.{Kind}
use Rattle.pipe_types.specs.declared.topology.Kind.TheVariants.{Own}
use Rattle.pipe_types.specs.declared.topology.Topology.{Topology}
use Rattle.pipe_types.specs.Stages.{spec_of}
use Rattle.pipe_model.specs.History.{History}
use Rattle.stage_callback.specs.Laws.{RoseExactly}
use Rattle.stage_job.specs.Chunks.{RoseBy}
use Rattle.stage_bodies.specs.Seen.{BoxSeen, BodySeen}
use Rattle.stage_bodies.specs.Jobs.{Both, KeepsBox}
use Rattle.stage_bodies.specs.Posts.{place_at}
use Rattle.body_laws.specs.Counts.{calls_of, bad_of, resets_of}
use Rattle.body_laws.specs.Lawful.{AreLawfulAnswers}
use Rattle.body_laws.specs.Keeps.{IsCounted, KeepsCallback, has_post}
use Rattle.body_laws.specs.Ready.{There}
use Rattle.box_stock.specs.Homes.{post_for}
use Rattle.box_stock.specs.Lends.{IsSameBox, callback_in}

-- the same callback with the same law, armed with the spec of the stage; its counts did not fall
pub record IsBoxArmed (topology : Topology) (p : Post) (old new : BoxSeen) : Type 0 where
  pub kind : new.kind ≡ old.kind
  pub law : new.law ≡ old.law
  pub told : new.told ≡ old.told
  pub spec : spec_of topology p.stage ≡ Some new.spec
  pub calls : old.calls ≤ new.calls
  pub bad : old.bad ≤ new.bad

-- it was used by the post as the journal says: a built-in kind has the journal's count, and a user's own counted each call and
-- each bad answer of the journal, and just its resets; what the journal says that it answered is lawful for what it was shown
pub record IsBoxUsed (topology : Topology) (before : History) (p : Post) (old new : BoxSeen) : Type 0 where
  pub armed : IsBoxArmed topology p old new
  pub count : IsCounted topology before p.stage new
  pub calls : new.kind ≡ Own → RoseBy (calls_of before p) old.calls new.calls
  pub bad : new.kind ≡ Own → RoseBy (bad_of before p) old.bad new.bad
  pub resets : new.kind ≡ Own → RoseExactly (resets_of topology before p) old.resets new.resets
  pub lawful : AreLawfulAnswers topology before p old.law

abbrev pub IsBoxUsedBy : (whole : Bool) → Topology → History → Post → (old new : BoxSeen) → Type 0
IsBoxUsedBy true topology before p old new = IsBoxUsed topology before p old new
IsBoxUsedBy false topology before p old new = IsBoxArmed topology p old new

-- a box that is for a post was used by it; any other is as it was
abbrev pub IsBoxLeft : (whole : Bool) → Topology → History → Option Post → (old new : BoxSeen) → Type 0
IsBoxLeft whole topology before (Some p) old new = IsBoxUsedBy whole topology before p old new
IsBoxLeft whole topology before None old new = new ≡ old

abbrev pub kinds : List BoxSeen → List Kind
kinds boxes = map (λ box. box.kind) boxes

-- the boxes of a stock, in their order, as a run leaves them
pub record AreBoxesLeft (whole : Bool) (topology : Topology) (before : History) (old new : List BoxSeen) : Type 0 where
  pub as_many : length new ≡ length old
  pub each : (k : ℕ) → Both (IsBoxLeft whole topology before (post_for topology (kinds old) k)) (slice_get old k) (slice_get new k)

-- the same callbacks in their order, whatever they were armed with since
pub record AreSameBoxes (old new : List BoxSeen) : Type 0 where
  pub as_many : length new ≡ length old
  pub each : (k : ℕ) → Both IsSameBox (slice_get old k) (slice_get new k)

-- ---- in the bodies

abbrev pub KeepsCallbackBy : (whole : Bool) → Topology → History → Post → (old new : BoxSeen) → Type 0
KeepsCallbackBy true topology before p old new = KeepsCallback topology before p old new
KeepsCallbackBy false topology before p old new = KeepsBox old new

-- of each post that had a callback, the body holds it still, used as the journal says
abbrev pub LeavesCallbacks : (whole : Bool) → Topology → History → (table final : ℕ → Option BodySeen) → Type 0
LeavesCallbacks whole topology before table final =
    (p : Post) (box : BoxSeen) → IsTrue (has_post topology p) → callback_in (table (place_at p)) ≡ Some box
    → There (callback_in (final (place_at p))) (KeepsCallbackBy whole topology before p box)
