-- What becomes of the boxes of a stock.
use Rattle.std.specs.Prelude.{◌≡◌, ◌≤◌, ◌<◌, ◌-◌, ◌==◌, ℕ, suc, Bool, false, List, map, length, slice_get, option_map, IsTrue, IsSome, Option, Some, None}
use Rattle.pipe_types.specs.declared.numbers.Post.{Post}
use Rattle.pipe_types.specs.declared.topology.Kind.{Kind}
use Rattle.pipe_types.specs.declared.topology.Role.{Role}
use Rattle.pipe_types.specs.declared.topology.Role.TheVariants.{Producer, Batcher}
use Rattle.pipe_types.specs.declared.topology.StageSpec.{StageSpec}
use Rattle.pipe_types.specs.declared.topology.Topology.{Topology}
use Rattle.pipe_types.specs.Stages.{spec_of}
use Rattle.stage_bodies.specs.Seen.{BoxSeen, BodySeen}
use Rattle.stage_bodies.specs.Jobs.{Both}
use Rattle.stage_bodies.specs.Posts.{place_at}
use Rattle.body_laws.specs.Keeps.{has_post}
use Rattle.body_laws.specs.Ready.{There}
use Rattle.box_stock.specs.declared.handing.Slip.{Slip}
use Rattle.box_stock.specs.declared.handing.Slip.TheVariants.{Lent, Kept}

-- ---- boxes

-- the box at a place of a stock
abbrev pub box_at : {C : Type 0} → (C → BoxSeen) → List C → ℕ → Option BoxSeen
box_at seen stock k = option_map seen (slice_get stock k)

abbrev pub kinds_of : {C : Type 0} → (C → BoxSeen) → List C → List Kind
kinds_of seen stock = map (λ box. (seen box).kind) stock

-- the same callback, whatever it was armed with since
pub record IsSameBox (old new : BoxSeen) : Type 0 where
  pub kind : new.kind ≡ old.kind
  pub law : new.law ≡ old.law
  pub resets : new.resets ≡ old.resets
  pub told : new.told ≡ old.told
  pub said : IsTrue old.told → new.said ≡ old.said
  pub calls : old.calls ≤ new.calls
  pub bad : old.bad ≤ new.bad

-- it was armed with the spec, and counts from 0
pub record IsFreshBox (armed : StageSpec) (old new : BoxSeen) : Type 0 where
  pub same : IsSameBox old new
  pub spec : new.spec ≡ armed
  pub count : new.count ≡ 0

abbrev pub IsArmedWith : Option StageSpec → (old new : BoxSeen) → Type 0
IsArmedWith (Some spec) old new = IsFreshBox spec old new
IsArmedWith None old new = new ≡ old

abbrev pub spec_at : Topology → Option Post → Option StageSpec
spec_at topology (Some p) = spec_of topology p.stage
spec_at topology None = None

-- a box that is for a post was armed with the spec of its stage; any other is as it was
abbrev pub IsArmedFor : Topology → Option Post → (old new : BoxSeen) → Type 0
IsArmedFor topology home old new = IsArmedWith (spec_at topology home) old new

-- ---- where they are

abbrev pub bare_body : BodySeen
bare_body = record { source = None; sink = None; callback = None }

abbrev pub body_with : BoxSeen → BodySeen
body_with box = record { source = None; sink = None; callback = Some box }

-- a place is that of the post
abbrev pub is_home : Option Post → ℕ → Bool
is_home (Some p) at = place_at p == at
is_home None at = false

-- the slip tells where the box is: in the body of its post, or kept
abbrev pub IsSlipOf : {C : Type 0} → (C → BoxSeen) → Option Post → BoxSeen → Slip C → Type 0
IsSlipOf seen (Some p) box (Lent at) = at ≡ place_at p
IsSlipOf seen None box (Kept kept) = seen kept ≡ box
IsSlipOf seen _ box _ = ⊥

-- the table holds the box, if it is for a post
abbrev pub HoldsBox : Option Post → BoxSeen → (table : ℕ → Option BodySeen) → Type 0
HoldsBox (Some p) box table = table (place_at p) ≡ Some (body_with box)
HoldsBox None box table = Unit {0}

-- the slip of the box at a place, where slips lie on one another: that of the first box is the last
abbrev pub slip_at : {C : Type 0} → List (Slip C) → ℕ → Option (Slip C)
slip_at slips k = slice_get slips (length slips - suc k)

pub record IsLent {C : Type 0} (seen : C → BoxSeen) (home : Option Post) (table : ℕ → Option BodySeen) (box : BoxSeen) (written : Slip C) : Type 0 where
  pub slip : IsSlipOf seen home box written
  pub held : HoldsBox home box table

abbrev pub IsHandedTo : {C : Type 0} → (C → BoxSeen) → Topology → Option Post → (table : ℕ → Option BodySeen) → (old : BoxSeen) → Slip C → Type 0
IsHandedTo seen topology home table old slip = (new : BoxSeen) × IsArmedFor topology home old new × IsLent seen home table new slip

-- a box that is for a post is in its body, armed with the spec of its stage; any other is kept as it was
abbrev pub IsHandedOut : {C : Type 0} → (C → BoxSeen) → Topology → Option Post → (table : ℕ → Option BodySeen) → Option BoxSeen → Option (Slip C) → Type 0
IsHandedOut seen topology home table old slip = Both (IsHandedTo seen topology home table) old slip

-- the places of different boxes differ
abbrev pub AreApart : (home : ℕ → Option Post) → Type 0
AreApart home = (j k : ℕ) (p q : Post) → home j ≡ Some p → home k ≡ Some q → place_at p ≡ place_at q → j ≡ k

-- ---- the table

-- what the body of a post holds before anything is opened
abbrev pub IsBodyBefore : StageSpec → Role → BodySeen → Type 0
IsBodyBefore spec Producer body = body ≡ bare_body
IsBodyBefore spec Batcher body = ⊥
IsBodyBefore spec _ body = There body.callback (λ box. (body ≡ body_with box) × (box.spec ≡ spec) × (box.kind ≡ spec.kind) × (box.count ≡ 0))

-- each post of the topology has its body, and no other place has one
pub record AreHandedOut (topology : Topology) (table : ℕ → Option BodySeen) : Type 0 where
  pub posts : (p : Post) → IsTrue (has_post topology p) → There (table (place_at p)) (λ body. There (spec_of topology p.stage) (λ spec. IsBodyBefore spec spec.role body))
  pub others : (p : Post) → p.slot < 16 → has_post topology p ≡ false → table (place_at p) ≡ None

-- ---- the way back

-- the callback that a body holds now
abbrev pub callback_in : Option BodySeen → Option BoxSeen
callback_in (Some body) = body.callback
callback_in None = None

-- the body, without the callback that it may hold
abbrev pub without_box : BodySeen → BodySeen
without_box body = record body { callback = None }

-- what comes back for a slip: what the table holds, or what was kept
abbrev pub back_for : {C : Type 0} → (C → BoxSeen) → (table : ℕ → Option BodySeen) → Option (Slip C) → Option BoxSeen
back_for seen table (Some (Lent at)) = callback_in (table at)
back_for seen table (Some (Kept kept)) = Some (seen kept)
back_for seen table None = None

-- the boxes that were lent are all there still, each in a place of its own
pub record AreStillThere {C : Type 0} (slips : List (Slip C)) (table : ℕ → Option BodySeen) : Type 0 where
  pub there : (k at : ℕ) → slice_get slips k ≡ Some (Lent at) → IsSome (callback_in (table at))
  pub apart : (j k at : ℕ) → slice_get slips j ≡ Some (Lent at) → slice_get slips k ≡ Some (Lent at) → j ≡ k

-- each post of the topology that had a callback has one still
abbrev pub CallbacksRemain : Topology → (table now : ℕ → Option BodySeen) → Type 0
CallbacksRemain topology table now =
    (p : Post) → IsTrue (has_post topology p) → IsSome (callback_in (table (place_at p))) → IsSome (callback_in (now (place_at p)))
