-- What becomes of the boxes of a stock that were handed out and taken back.
use Rattle.std.proofs.Common.{◌≡◌, ℕ, ◌<◌, ◌≤◌, Bool, true, false, List, [], ◌∷◌, length, take, map, arith, refl, ap, sym, ◌∙◌, subst, inl, inr, Option, Some, None}
use Rattle.std.specs.Prelude.{slice_get}
use Rattle.std.proofs.lemmas.Bool.{cases_lt}
use Rattle.std.proofs.lemmas.List.{length-map}
use Rattle.std.proofs.lemmas.Option.{slice_get-map, slice_get_past}
use Rattle.pipe_types.specs.Sound.{IsSound}
use Rattle.pipe_types.specs.Stages.{spec_of}
use Rattle.pipe_types.specs.declared.numbers.Post.{Post}
use Rattle.pipe_types.specs.declared.topology.Kind.{Kind}
use Rattle.pipe_types.specs.declared.topology.StageSpec.{StageSpec}
use Rattle.pipe_types.specs.declared.topology.Topology.{Topology}
use Rattle.pipe_model.specs.History.{History}
use Rattle.stage_job.specs.Boxes.{boxes_of_kind}
use Rattle.stage_job.specs.Chunks.{RoseBy}
use Rattle.stage_bodies.specs.Seen.{BoxSeen, BodySeen}
use Rattle.stage_bodies.specs.Jobs.{Both, KeepsBox}
use Rattle.stage_bodies.specs.Posts.{place_at}
use Rattle.body_laws.specs.Keeps.{has_post}
use Rattle.body_laws.specs.Ready.{There}
use Rattle.edge_names.specs.Returned.{KeepsCallbacks}
use Rattle.box_stock.specs.Homes.{post_for}
use Rattle.box_stock.specs.Lends.{IsArmedWith, IsFreshBox, IsHandedOut, IsSameBox, back_for, box_at, callback_in, kinds_of, slip_at}
use Rattle.box_stock.specs.declared.handing.Slip.{Slip}
use Rattle.box_stock.specs.declared.handing.Slip.TheVariants.{Lent, Kept}
use Rattle.box_stock.proofs.Located.{home_found, post_of}
use Rattle.pipe_run.specs.Boxes.{AreBoxesLeft, AreSameBoxes, IsBoxArmed, IsBoxLeft, IsBoxUsedBy, KeepsCallbackBy, LeavesCallbacks, kinds}
use Rattle.stage_callback.specs.Laws.{RoseExactly}
use Rattle.body_laws.specs.Counts.{resets_of}
use Rattle.body_laws.specs.Lawful.{AreLawfulAnswers}
use Rattle.pipe_run.proofs.Callbacks.{post_spec, same_callback}

-- ---- one box

rise_from : (n a b c : ℕ) → a ≤ b → RoseBy n b c → RoseBy n a c
rise_from n a b c le (inl more) = inl (omega arith)
rise_from n a b c le (inr full) = inr full

armed_as : (topology : Topology) (p : Post) (spec : StageSpec) (old armed last : BoxSeen) → spec_of topology p.stage ≡ Some spec → IsFreshBox spec old armed → KeepsBox armed last → IsBoxArmed topology p old last
armed_as topology p spec old armed last found f k = record {
  kind = k.kind ∙ f.same.kind;
  law = k.law ∙ f.same.law;
  told = k.told ∙ f.same.told;
  spec = found ∙ ap Some (sym (k.spec ∙ f.spec));
  calls = omega (arith, f.same.calls, k.calls);
  bad = omega (arith, f.same.bad, k.bad);
}

used_as : (whole : Bool) (topology : Topology) (before : History) (p : Post) (spec : StageSpec) (old armed last : BoxSeen) → spec_of topology p.stage ≡ Some spec → IsFreshBox spec old armed → KeepsCallbackBy whole topology before p armed last
    → IsBoxUsedBy whole topology before p old last
used_as true topology before p spec old armed last found f k = record {
  armed = armed_as topology p spec old armed last found f k.kept;
  count = k.count;
  calls = λ own. rise_from _ old.calls armed.calls last.calls f.same.calls (k.calls own);
  bad = λ own. rise_from _ old.bad armed.bad last.bad f.same.bad (k.bad own);
  resets = λ own. subst (λ n. RoseExactly (resets_of topology before p) n last.resets) f.same.resets (k.resets own);
  lawful = subst (λ law. AreLawfulAnswers topology before p law) f.same.law k.lawful;
}
used_as false topology before p spec old armed last found f k = armed_as topology p spec old armed last found f k

both_there : (R : BoxSeen → BoxSeen → Type 0) (P : BoxSeen → Type 0) (a : BoxSeen) (o : Option BoxSeen) → ((x : BoxSeen) → P x → R a x) → There o P → Both R (Some a) o
both_there R P a (Some x) f h = f x h
both_there R P a None f h = h

-- a box that is for a post was used by it; any other is as it was
box_left : {C : Type 0} (seen : C → BoxSeen) (whole : Bool) (topology : Topology) (before : History) (home : Option Post) (table final : ℕ → Option BodySeen) (old : Option BoxSeen) (slip : Option (Slip C)) (new : Option BoxSeen)
    → ((p : Post) → home ≡ Some p → has_post topology p ≡ true) → LeavesCallbacks whole topology before table final → IsHandedOut seen topology home table old slip → new ≡ back_for seen final slip
    → Both (IsBoxLeft whole topology before home) old new
box_left seen whole topology before (Some p) table final (Some a) (Some (Lent at)) new posts leaves h is =
    let here = posts p refl in
    let spec = post_spec topology p here in
    let fresh : IsFreshBox spec.0 a h.0 = subst (λ o. IsArmedWith o a h.0) spec.1 h.1 in
    let at_post : new ≡ callback_in (final (place_at p)) = is ∙ ap (λ k. callback_in (final k)) h.2.slip in
    subst (λ o. Both (IsBoxUsedBy whole topology before p) (Some a) o) (sym at_post)
    (both_there (IsBoxUsedBy whole topology before p) (KeepsCallbackBy whole topology before p h.0) a (callback_in (final (place_at p)))
    (λ x k. used_as whole topology before p spec.0 a h.0 x spec.1 fresh k)
    (leaves p h.0 here (ap callback_in h.2.held)))
box_left seen whole topology before (Some p) table final (Some a) (Some (Kept kept)) new posts leaves h is = absurd h.2.slip
box_left seen whole topology before None table final (Some a) (Some (Kept kept)) new posts leaves h is =
    subst (λ o. Both (λ (x y : BoxSeen). y ≡ x) (Some a) o) (sym is) (h.2.slip ∙ h.1)
box_left seen whole topology before None table final (Some a) (Some (Lent at)) new posts leaves h is = absurd h.2.slip
box_left seen whole topology before home table final (Some a) None new posts leaves h is = absurd h
box_left seen whole topology before home table final None (Some slip) new posts leaves h is = absurd h
box_left seen whole topology before home table final None None new posts leaves h is = subst (λ o. Both (IsBoxLeft whole topology before home) None o) (sym is) tt

same_box : (a : BoxSeen) → IsSameBox a a
same_box a = record { kind = refl; law = refl; resets = refl; told = refl; said = λ t. refl; calls = omega arith; bad = omega arith }

armed_same : (o : Option StageSpec) (old new : BoxSeen) → IsArmedWith o old new → IsSameBox old new
armed_same (Some spec) old new h = h.same
armed_same None old new h = subst (λ x. IsSameBox old x) (sym h) (same_box old)

-- a box comes back where the bodies kept their callbacks
box_same : {C : Type 0} (seen : C → BoxSeen) (topology : Topology) (home : Option Post) (table final : ℕ → Option BodySeen) (old : Option BoxSeen) (slip : Option (Slip C)) (new : Option BoxSeen)
    → KeepsCallbacks table final → IsHandedOut seen topology home table old slip → new ≡ back_for seen final slip → Both IsSameBox old new
box_same seen topology (Some p) table final (Some a) (Some (Lent at)) new same h is =
    let now : new ≡ Some h.0 = is ∙ (ap (λ k. callback_in (final k)) h.2.slip ∙ (same_callback (table (place_at p)) (final (place_at p)) (same (place_at p)) ∙ ap callback_in h.2.held)) in
    subst (λ o. Both IsSameBox (Some a) o) (sym now) (armed_same (spec_of topology p.stage) a h.0 h.1)
box_same seen topology (Some p) table final (Some a) (Some (Kept kept)) new same h is = absurd h.2.slip
box_same seen topology None table final (Some a) (Some (Kept kept)) new same h is =
    let now : new ≡ Some a = is ∙ ap Some (h.2.slip ∙ h.1) in
    subst (λ o. Both IsSameBox (Some a) o) (sym now) (same_box a)
box_same seen topology None table final (Some a) (Some (Lent at)) new same h is = absurd h.2.slip
box_same seen topology home table final (Some a) None new same h is = absurd h
box_same seen topology home table final None (Some slip) new same h is = absurd h
box_same seen topology home table final None None new same h is = subst (λ o. Both IsSameBox None o) (sym is) tt

-- ---- all boxes

-- a stock that was handed out and taken back
pub record IsTakenBack {C : Type 0} (seen : C → BoxSeen) (topology : Topology) (stock back : List C) (slips : List (Slip C)) (table final : ℕ → Option BodySeen) : Type 0 where
  pub sound : IsSound topology
  pub as_many_slips : length slips ≡ length stock
  pub as_many : length back ≡ length slips
  pub handed : (k : ℕ) → k < length stock → IsHandedOut seen topology (post_for topology (kinds_of seen stock) k) table (box_at seen stock k) (slip_at slips k)
  pub taken : (k : ℕ) → k < length slips → box_at seen back k ≡ back_for seen final (slip_at slips k)

kinds_seen : {C : Type 0} (seen : C → BoxSeen) (stock : List C) → kinds (map seen stock) ≡ kinds_of seen stock
kinds_seen seen [] = refl
kinds_seen seen (x ∷ xs) = ap (λ ks. (seen x).kind ∷ ks) (kinds_seen seen xs)

home_is_post : (topology : Topology) (ks : List Kind) (k : ℕ) (p : Post) → IsSound topology → post_for topology ks k ≡ Some p → has_post topology p ≡ true
home_is_post topology ks k p sound e =
    let v = home_found topology ks k p e in
    (post_of v.kind topology (boxes_of_kind v.kind (take k ks)) p sound v.post).there

-- what holds of the boxes at each place holds of them as they are seen
pub each_box : {C : Type 0} (seen : C → BoxSeen) (R : ℕ → BoxSeen → BoxSeen → Type 0) (stock back : List C) → length back ≡ length stock → ((k : ℕ) → k < length stock → Both (R k) (box_at seen stock k) (box_at seen back k))
    → (k : ℕ) → Both (R k) (slice_get (map seen stock) k) (slice_get (map seen back) k)
each_box seen R stock back as_many h k =
    elim (cases_lt k (length stock)) [
      | inl below ↦
          subst (λ o. Both (R k) o (slice_get (map seen back) k)) (sym (slice_get-map seen stock k))
          (subst (λ o. Both (R k) (box_at seen stock k) o) (sym (slice_get-map seen back k)) (h k below))
      | inr past ↦
          subst (λ o. Both (R k) o (slice_get (map seen back) k)) (sym (slice_get_past (map seen stock) k (omega (arith, past, length-map stock seen))))
          (subst (λ o. Both (R k) None o) (sym (slice_get_past (map seen back) k (omega (arith, past, as_many, length-map back seen)))) tt)
    ]

many_seen : {C : Type 0} (seen : C → BoxSeen) (stock back : List C) → length back ≡ length stock → length (map seen back) ≡ length (map seen stock)
many_seen seen stock back e = length-map back seen ∙ (e ∙ sym (length-map stock seen))

pub boxes_left : {C : Type 0} (seen : C → BoxSeen) (whole : Bool) (topology : Topology) (before : History) (stock back : List C) (slips : List (Slip C)) (table final : ℕ → Option BodySeen) → IsTakenBack seen topology stock back slips table final
    → LeavesCallbacks whole topology before table final → AreBoxesLeft whole topology before (map seen stock) (map seen back)
boxes_left seen whole topology before stock back slips table final t leaves =
    let as_many = t.as_many ∙ t.as_many_slips in
    record {
      as_many = many_seen seen stock back as_many;
      each = subst (λ ks. (k : ℕ) → Both (IsBoxLeft whole topology before (post_for topology ks k)) (slice_get (map seen stock) k) (slice_get (map seen back) k)) (sym (kinds_seen seen stock))
          (each_box seen (λ k. IsBoxLeft whole topology before (post_for topology (kinds_of seen stock) k)) stock back as_many
          (λ k below.
          box_left seen whole topology before (post_for topology (kinds_of seen stock) k) table final (box_at seen stock k) (slip_at slips k) (box_at seen back k)
          (λ p e. home_is_post topology (kinds_of seen stock) k p t.sound e) leaves (t.handed k below) (t.taken k (omega (arith, below, t.as_many_slips)))));
    }

pub boxes_same : {C : Type 0} (seen : C → BoxSeen) (topology : Topology) (stock back : List C) (slips : List (Slip C)) (table final : ℕ → Option BodySeen) → IsTakenBack seen topology stock back slips table final
    → KeepsCallbacks table final → AreSameBoxes (map seen stock) (map seen back)
boxes_same seen topology stock back slips table final t same =
    let as_many = t.as_many ∙ t.as_many_slips in
    record {
      as_many = many_seen seen stock back as_many;
      each = each_box seen (λ k. IsSameBox) stock back as_many
          (λ k below.
          box_same seen topology (post_for topology (kinds_of seen stock) k) table final (box_at seen stock k) (slip_at slips k) (box_at seen back k) same (t.handed k below)
          (t.taken k (omega (arith, below, t.as_many_slips))));
    }

-- where there was no memory for handing out, the same boxes are there
pub boxes_unlent : {C : Type 0} (seen : C → BoxSeen) (stock back : List C) → length back ≡ length stock → ((k : ℕ) → Both IsSameBox (box_at seen stock k) (box_at seen back k)) → AreSameBoxes (map seen stock) (map seen back)
boxes_unlent seen stock back as_many h =
    record { as_many = many_seen seen stock back as_many; each = each_box seen (λ k. IsSameBox) stock back as_many (λ k below. h k) }
