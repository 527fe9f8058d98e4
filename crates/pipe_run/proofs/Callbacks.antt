-- What the bodies hold of the callbacks that they had.
use Rattle.std.proofs.Common.{◌≡◌, ℕ, Bool, true, false, refl, ap, sym, ◌∙◌, subst, inl, inr, Option, Some, None}
use Rattle.std.specs.Prelude.{IsTrue, IsSome}
use Rattle.pipe_types.specs.Sound.{IsSound}
use Rattle.pipe_types.specs.Stages.{spec_of}
use Rattle.pipe_types.specs.declared.numbers.Post.{Post}
use Rattle.pipe_types.specs.declared.topology.StageSpec.{StageSpec}
use Rattle.pipe_types.specs.declared.topology.Topology.{Topology}
use Rattle.pipe_model.specs.History.{History}
use Rattle.pipe_model.specs.Moves.{jobs_out}
use Rattle.pipe_model.specs.Posts.{is_out}
use Rattle.move_laws.proofs.Still.{slot_none}
use Rattle.stage_bodies.specs.Seen.{BoxSeen, BodySeen}
use Rattle.stage_bodies.specs.Jobs.{Both, KeepsBox}
use Rattle.stage_bodies.specs.Posts.{place_at}
use Rattle.body_laws.specs.Keeps.{Keeps, KeepsCallback, KeepsPost, has_post, has_post_in}
use Rattle.body_laws.specs.Ready.{There}
use Rattle.body_laws.proofs.Posts.{few_slots}
use Rattle.edge_names.specs.Returned.{KeepsCallbacks}
use Rattle.box_stock.specs.Lends.{CallbacksRemain, callback_in}
use Rattle.pipe_run.specs.Boxes.{KeepsCallbackBy, LeavesCallbacks}

-- the spec of a post of the topology
pub post_spec : (topology : Topology) (p : Post) → has_post topology p ≡ true → (spec : StageSpec) × (spec_of topology p.stage ≡ Some spec)
post_spec topology p h = by (spec_of topology p.stage) refl
  where
    by : (o : Option StageSpec) → spec_of topology p.stage ≡ o → (spec : StageSpec) × (spec_of topology p.stage ≡ Some spec)
    by None is = let x : false ≡ true = sym (ap (λ o. has_post_in o p.slot) is) ∙ h in cc
    by (Some spec) is = (spec, is)

pub same_callback : (x y : Option BodySeen) → Both (λ before now. now.callback ≡ before.callback) x y → callback_in y ≡ callback_in x
same_callback (Some a) (Some b) h = h
same_callback None None h = refl
same_callback (Some a) None h = absurd h
same_callback None (Some b) h = absurd h

both_at : (R : BoxSeen → BoxSeen → Type 0) (x y : Option BoxSeen) (a : BoxSeen) → x ≡ Some a → Both R x y → There y (R a)
both_at R (Some x) (Some y) a e h = let same : x ≡ a = cc in subst (λ z. R z y) same h
both_at R (Some x) None a e h = absurd h
both_at R None y a e h = cc

there_map : (P Q : BoxSeen → Type 0) (o : Option BoxSeen) → ((x : BoxSeen) → P x → Q x) → There o P → There o Q
there_map P Q (Some x) f h = f x h
there_map P Q None f h = h

there_some : (P : BoxSeen → Type 0) (o : Option BoxSeen) → There o P → IsSome o
there_some P (Some x) h = refl
there_some P None h = absurd h

kept_by : (whole : Bool) (topology : Topology) (before : History) (p : Post) (old new : BoxSeen) → KeepsCallback topology before p old new → KeepsCallbackBy whole topology before p old new
kept_by true topology before p old new k = k
kept_by false topology before p old new k = k.kept

-- the callback of a post, in a body that kept what the journal says
callback_kept : (whole : Bool) (topology : Topology) (before : History) (p : Post) (out : Bool) (box : BoxSeen) (o n : Option BodySeen) → (IsTrue whole → out ≡ false) → callback_in o ≡ Some box
    → (IsSome o → IsSome n) → KeepsPost topology before p out o n → There (callback_in n) (KeepsCallbackBy whole topology before p box)
callback_kept whole topology before p false box (Some b) (Some c) home is stays k =
    there_map (KeepsCallback topology before p box) (KeepsCallbackBy whole topology before p box) c.callback (λ new h. kept_by whole topology before p box new h)
    (both_at (KeepsCallback topology before p) b.callback c.callback box is k.callback)
callback_kept true topology before p true box (Some b) (Some c) home is stays k = let x : true ≡ false = home refl in cc
callback_kept false topology before p true box (Some b) (Some c) home is stays (inl none) = cc
callback_kept false topology before p true box (Some b) (Some c) home is stays (inr k) = both_at KeepsBox b.callback c.callback box is k.callback
callback_kept whole topology before p out box (Some b) None home is stays k = let x : false ≡ true = stays refl in cc
callback_kept whole topology before p out box None n home is stays k = cc

pub leaves : (whole : Bool) (topology : Topology) (before : History) (table opened bodies final : ℕ → Option BodySeen) → IsSound topology → KeepsCallbacks table opened → Keeps topology before opened bodies
    → (IsTrue whole → jobs_out topology before ≡ false) → ((at : ℕ) → IsSome (opened at) → IsSome (bodies at)) → KeepsCallbacks bodies final → LeavesCallbacks whole topology before table final
leaves whole topology before table opened bodies final sound first keeps none_out stay last p box here is =
    let at = place_at p in
    let spec = post_spec topology p here in
    let home = λ (w : IsTrue whole). slot_none topology before p.stage spec.0 p.slot (none_out w) spec.1 (few_slots topology p sound here) in
    let then : callback_in (opened at) ≡ Some box = same_callback (table at) (opened at) (first at) ∙ is in
    subst (λ o. There o (KeepsCallbackBy whole topology before p box)) (sym (same_callback (bodies at) (final at) (last at)))
    (callback_kept whole topology before p (is_out before p) box (opened at) (bodies at) home then (stay at) (keeps p here))

-- ---- no callback is gone

some_of : (o : Option BoxSeen) → IsSome o → (box : BoxSeen) × (o ≡ Some box)
some_of (Some box) h = (box, refl)
some_of None h = let x : false ≡ true = h in cc

pub left_remain : (whole : Bool) (topology : Topology) (before : History) (table final : ℕ → Option BodySeen) → LeavesCallbacks whole topology before table final → CallbacksRemain topology table final
left_remain whole topology before table final leaves p here some =
    let box = some_of (callback_in (table (place_at p))) some in
    there_some (KeepsCallbackBy whole topology before p box.0) (callback_in (final (place_at p))) (leaves p box.0 here box.1)

pub same_remain : (topology : Topology) (table final : ℕ → Option BodySeen) → KeepsCallbacks table final → CallbacksRemain topology table final
same_remain topology table final same p here some =
    subst (λ (x : Option BoxSeen). IsSome x) (sym (same_callback (table (place_at p)) (final (place_at p)) (same (place_at p)))) some
