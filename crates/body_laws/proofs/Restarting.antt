-- The bodies of a stage that is restarted.
use Rattle.std.proofs.Common.{◌≡◌, ℕ, [], ◌∷◌, Bool, true, false, refl, ap, sym, ◌∙◌, subst, Some, None, Option}
use Rattle.std.specs.Prelude.{IsSome, is_some}
use Rattle.pipe_types.specs.declared.numbers.StageNo.{StageNo}
use Rattle.pipe_types.specs.declared.numbers.Post.{Post}
use Rattle.pipe_types.specs.declared.step.Step.TheVariants.{Restart}
use Rattle.pipe_types.specs.declared.topology.Role.{Role}
use Rattle.pipe_types.specs.declared.topology.Role.TheVariants.{Producer, Processor, Supervisor, Batcher, BatchProcessor}
use Rattle.pipe_types.specs.declared.topology.StageSpec.{StageSpec}
use Rattle.pipe_types.specs.declared.topology.Topology.{Topology}
use Rattle.pipe_types.specs.Numbers.{post, same_stage}
use Rattle.pipe_types.specs.Sound.{IsSound}
use Rattle.pipe_types.specs.Stages.{spec_of}
use Rattle.pipe_model.specs.History.{History}
use Rattle.pipe_model.specs.Posts.{is_out, has_post_out, slots}
use Rattle.pipe_model.specs.Work.{count}
use Rattle.pipe_model.specs.Legal.{is_legal, needs_restart, no_post_out}
use Rattle.pipe_laws.proofs.Tests.{and_left, and_right, not_true, same_stage-true, same_stage-self}
use Rattle.pipe_laws.proofs.Allowed.{legal_step, unowed}
use Rattle.stage_laws.proofs.FewSlots.{none_any, slot_case}
use Rattle.stage_callback.proofs.Resets.{counted_on}
use Rattle.pipe_types.specs.declared.topology.Kind.TheVariants.{Own}
use Rattle.stage_bodies.specs.Seen.{FeedSeen, SinkSeen, BoxSeen, BodySeen}
use Rattle.stage_bodies.specs.Jobs.{Both, IsReset, IsResetBody}
use Rattle.stage_bodies.specs.Posts.{place_at}
use Rattle.body_laws.specs.Counts.{calls_of, bad_of, resets_of}
use Rattle.body_laws.specs.Keeps.{has_post, KeepsFeed, KeepsSink, KeepsCallback, KeepsBody, KeepsPost, Keeps}
use Rattle.body_laws.specs.Lates.{AreReset}
use Rattle.body_laws.specs.Ready.{There, IsArmed, IsBodyFor, IsBodyAt, Ready}
use Rattle.body_laws.proofs.Posts.{few_slots}
use Rattle.body_laws.proofs.Rises.{rise_stays}
use Rattle.body_laws.proofs.Steps.{stays, flip}
use Rattle.body_laws.proofs.Answering.{box_then}
use Rattle.body_laws.proofs.Staying.{both_map, both_then, there_map, post_stays, ready_stays}
use Rattle.body_laws.proofs.Jobs.{feed_as, sink_as}

-- no post of the stage is out
home : (topology : Topology) (before : History) (p : Post) → IsSound topology → is_legal topology (Restart p.stage ∷ before) ≡ true → has_post topology p ≡ true → is_out before p ≡ false
home topology before p sound legal here =
    let all = unowed topology before (Restart p.stage) (λ t. refl) (λ t. refl) (legal_step topology before (Restart p.stage) legal) in
    let none = not_true (has_post_out before p.stage) (and_left (no_post_out topology before p.stage) _ (and_right (needs_restart topology before p.stage) _ all)) in
    slot_case (λ slot. is_out before (post p.stage slot) ≡ false) (none_any (λ slot. is_out before (post p.stage slot)) slots none) p.slot (few_slots topology p sound here)

count_none : (topology : Topology) (before : History) (s : StageNo) → count topology (Restart s ∷ before) s ≡ 0
count_none topology before s = rw (same_stage-self s) refl

callback_restarts : (topology : Topology) (before : History) (p : Post) (a b c : BoxSeen) → KeepsCallback topology before p a b → IsReset b c → KeepsCallback topology (Restart p.stage ∷ before) p a c
callback_restarts topology before p a b c k r = record {
  kept = box_then a b c k.kept r.kept;
  count = λ own calm present. r.zero ∙ sym (count_none topology before p.stage);
  calls = λ own. rise_stays (calls_of before p) a.calls b.calls c.calls (k.calls (sym r.kept.kind ∙ own)) r.kept.calls;
  bad = λ own. rise_stays (bad_of before p) a.bad b.bad c.bad (k.bad (sym r.kept.kind ∙ own)) r.kept.bad;
  resets = λ own.
      let own_before : b.kind ≡ Own = sym r.kept.kind ∙ own in
      rw (same_stage-self p.stage) (counted_on (resets_of topology before p) 1 a.resets b.resets c.resets (k.resets own_before) (r.resets own_before));
  lawful = (k.lawful, tt);
}

source_restarts : (before : History) (s : StageNo) (a b : Option FeedSeen) → Both (KeepsFeed before s true []) a b → Both (KeepsFeed (Restart s ∷ before) s true []) a b
source_restarts before s a b k = both_map (λ x y h. feed_as before (Restart s ∷ before) s x y refl refl refl (record { came = λ interval i. refl; own = λ share interval. refl; same_fetch = refl }) h) a b k

sink_restarts : (topology : Topology) (before : History) (s : StageNo) (a b : Option SinkSeen) → Both (KeepsSink topology before s) a b → Both (KeepsSink topology (Restart s ∷ before) s) a b
sink_restarts topology before s a b k = both_map (λ x y h. sink_as topology before (Restart s ∷ before) s x y refl refl h) a b k

body_restarts : (topology : Topology) (before : History) (p : Post) (a b c : BodySeen) → KeepsBody topology before p a b → IsResetBody b c → KeepsBody topology (Restart p.stage ∷ before) p a c
body_restarts topology before p a b c k r = record {
  source = source_restarts before p.stage a.source c.source (subst (λ o. Both (KeepsFeed before p.stage true []) a.source o) (sym r.source) k.source);
  sink = sink_restarts topology before p.stage a.sink c.sink (subst (λ o. Both (KeepsSink topology before p.stage) a.sink o) (sym r.sink) k.sink);
  callback = both_then (λ x y z h g. callback_restarts topology before p x y z h g) a.callback b.callback c.callback k.callback r.callback;
}

armed_restarts : (topology : Topology) (before : History) (s : StageNo) (spec : StageSpec) (x y : Option BoxSeen) → Both IsReset x y → There x (IsArmed topology before s spec) → There y (IsArmed topology (Restart s ∷ before) s spec)
armed_restarts topology before s spec (Some b) (Some c) r armed =
    record { spec = r.kept.spec ∙ armed.spec; kind = r.kept.kind ∙ armed.kind; count = λ own calm present. r.zero ∙ sym (count_none topology before s) }
armed_restarts topology before s spec None None r armed = armed
armed_restarts topology before s spec (Some b) None r armed = r
armed_restarts topology before s spec None (Some c) r armed = absurd r

fit_restarts : (topology : Topology) (before : History) (s : StageNo) (spec : StageSpec) (role : Role) (body after : BodySeen) → IsResetBody body after → IsBodyFor topology before s spec role body → IsBodyFor topology (Restart s ∷ before) s spec role after
fit_restarts topology before s spec Producer body after r k = subst (λ (o : Option FeedSeen). IsSome o) (sym r.source) k
fit_restarts topology before s spec Processor body after r k = armed_restarts topology before s spec body.callback after.callback r.callback k
fit_restarts topology before s spec Supervisor body after r k = armed_restarts topology before s spec body.callback after.callback r.callback k
fit_restarts topology before s spec Batcher body after r k = k
fit_restarts topology before s spec BatchProcessor body after r k =
    (armed_restarts topology before s spec body.callback after.callback r.callback k.0, ap (λ (o : Option SinkSeen). is_some o) r.sink ∙ k.1)

ready_restarts : (topology : Topology) (before : History) (p : Post) (x y : Option BodySeen) → Both IsResetBody x y → There x (IsBodyAt topology before p) → There y (IsBodyAt topology (Restart p.stage ∷ before) p)
ready_restarts topology before p (Some body) (Some after) r k = there_map (λ spec h. fit_restarts topology before p.stage spec spec.role body after r h) (spec_of topology p.stage) k
ready_restarts topology before p None None r k = k
ready_restarts topology before p (Some body) None r k = r
ready_restarts topology before p None (Some after) r k = absurd k

as_home : (topology : Topology) (before : History) (p : Post) (b : Bool) (x y : Option BodySeen) → b ≡ false → KeepsPost topology before p b x y → KeepsPost topology before p false x y
as_home topology before p b x y e k = subst (λ c. KeepsPost topology before p c x y) e k

pub restart_keeps : (topology : Topology) (before : History) (s : StageNo) (opened now after : ℕ → Option BodySeen) → IsSound topology → is_legal topology (Restart s ∷ before) ≡ true → AreReset topology s now after → Keeps topology before opened now → Keeps topology (Restart s ∷ before) opened after
restart_keeps topology before s opened now after sound legal all keeps q here = either (same_stage s q.stage) refl
  where
    either : (b : Bool) → same_stage s q.stage ≡ b → KeepsPost topology (Restart s ∷ before) q (is_out before q) (opened (place_at q)) (after (place_at q))
    either false e =
        subst (λ x. KeepsPost topology (Restart s ∷ before) q (is_out before q) (opened (place_at q)) x) (sym (all.elsewhere q here e))
        (post_stays topology before (Restart s) q (is_out before q) (opened (place_at q)) (now (place_at q)) (stays topology before (Restart s) q sound legal here refl (flip s q.stage e)) (keeps q here))
    either true e =
        let is : s ≡ q.stage = same_stage-true s q.stage e in
        let at : is_out before q ≡ false = home topology before q sound (subst (λ t. is_legal topology (Restart t ∷ before) ≡ true) is legal) here in
        subst (λ b. KeepsPost topology (Restart s ∷ before) q b (opened (place_at q)) (after (place_at q))) (sym at)
        (subst (λ t. Both (KeepsBody topology (Restart t ∷ before) q) (opened (place_at q)) (after (place_at q))) (sym is)
        (both_then (λ x y z h r. body_restarts topology before q x y z h r) (opened (place_at q)) (now (place_at q)) (after (place_at q))
        (as_home topology before q (is_out before q) (opened (place_at q)) (now (place_at q)) at (keeps q here)) (all.here q here (sym is))))

pub restart_ready : (topology : Topology) (before : History) (s : StageNo) (now after : ℕ → Option BodySeen) → IsSound topology → is_legal topology (Restart s ∷ before) ≡ true → AreReset topology s now after → Ready topology before now → Ready topology (Restart s ∷ before) after
restart_ready topology before s now after sound legal all ready q here at = either (same_stage s q.stage) refl
  where
    either : (b : Bool) → same_stage s q.stage ≡ b → There (after (place_at q)) (IsBodyAt topology (Restart s ∷ before) q)
    either false e =
        subst (λ x. There x (IsBodyAt topology (Restart s ∷ before) q)) (sym (all.elsewhere q here e))
        (there_map (λ body h. ready_stays topology before (Restart s) q body (stays topology before (Restart s) q sound legal here refl (flip s q.stage e)) h) (now (place_at q)) (ready q here at))
    either true e =
        let is : s ≡ q.stage = same_stage-true s q.stage e in
        subst (λ t. There (after (place_at q)) (IsBodyAt topology (Restart t ∷ before) q)) (sym is)
        (ready_restarts topology before q (now (place_at q)) (after (place_at q)) (all.here q here (sym is)) (ready q here at))
