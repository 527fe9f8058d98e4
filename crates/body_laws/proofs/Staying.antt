-- Bodies of which a step says nothing stand as before.
use Rattle.std.proofs.Common.{◌≡◌, ℕ, ◌<◌, List, [], ◌∷◌, Bool, true, false, refl, ap, sym, ◌∙◌, subst, inl, inr, Some, None, Option}
use Rattle.std.specs.Prelude.{IfSome, not, ◌&&◌, ◌||◌, ◌==◌, if◌then◌else◌}
use Rattle.std.proofs.lemmas.Bool.{eqb-true}
use Rattle.pipe_types.specs.declared.numbers.Post.{Post}
use Rattle.pipe_types.specs.declared.numbers.StageNo.{StageNo}
use Rattle.pipe_types.specs.declared.topology.Role.{Role}
use Rattle.pipe_types.specs.declared.topology.Role.TheVariants.{Producer, Processor, Supervisor, Batcher, BatchProcessor}
use Rattle.pipe_types.specs.declared.topology.StageSpec.{StageSpec}
use Rattle.pipe_types.specs.declared.topology.Topology.{Topology}
use Rattle.pipe_types.specs.declared.step.Step.{Step}
use Rattle.pipe_types.specs.Stages.{spec_of}
use Rattle.pipe_types.specs.Sound.{IsSound}
use Rattle.pipe_model.specs.History.{History}
use Rattle.pipe_model.specs.Lives.{restarts}
use Rattle.pipe_model.specs.Posts.{puts_out, answers, is_out}
use Rattle.pipe_model.specs.Legal.{is_legal}
use Rattle.pipe_laws.proofs.Tests.{clash}
use Rattle.stage_bodies.specs.Seen.{LineSeen, FeedSeen, Single, Merged, SinkSeen, BoxSeen, BodySeen}
use Rattle.stage_bodies.specs.Jobs.{Both}
use Rattle.stage_bodies.specs.Posts.{place_at}
use Rattle.pace_laws.proofs.Fetching.{part as pace_part, stays as pace_on}
use Rattle.body_laws.specs.Keeps.{has_post, KeepsSource, KeepsFeed, KeepsSink, IsCounted, KeepsCallback, KeepsBody, KeepsPartly, KeepsPost, Keeps}
use Rattle.body_laws.specs.Ready.{There, IsArmed, IsBodyFor, IsBodyAt, Ready}
use Rattle.body_laws.proofs.Posts.{few_slots, own_places}
use Rattle.body_laws.proofs.Steps.{Stays, stays, out_stays}

-- ---- pairs that are both there

pub both_map : {A : Type 0} {P Q : A → A → Type 0} → ((a b : A) → P a b → Q a b) → (x y : Option A) → Both P x y → Both Q x y
both_map f (Some a) (Some b) h = f a b h
both_map f None None h = h
both_map f (Some a) None h = h
both_map f None (Some b) h = h

pub both_then : {A : Type 0} {P Q R : A → A → Type 0} → ((a b c : A) → P a b → Q b c → R a c) → (x y z : Option A) → Both P x y → Both Q y z → Both R x z
both_then f (Some a) (Some b) (Some c) h k = f a b c h k
both_then f None None None h k = k
both_then f (Some a) (Some b) None h k = absurd k
both_then f (Some a) None z h k = absurd h
both_then f None (Some b) z h k = absurd h
both_then f None None (Some c) h k = absurd k

-- with what is known of the second
pub both_with : {A : Type 0} → (P : A → A → Type 0) (T : A → Type 0) (x y : Option A) → Both P x y → IfSome y T → Both (λ a b. P a b × T b) x y
both_with P T (Some a) (Some b) h t = (h, t)
both_with P T None None h t = h
both_with P T (Some a) None h t = h
both_with P T None (Some b) h t = h

pub there_map : {A : Type 0} {P Q : A → Type 0} → ((a : A) → P a → Q a) → (x : Option A) → There x P → There x Q
there_map f (Some a) h = f a h
there_map f None h = h

-- ---- one step

counted_stays : (topology : Topology) (before : History) (step : Step) (p : Post) (box : BoxSeen) → Stays topology before step p → IsCounted topology before p.stage box → IsCounted topology (step ∷ before) p.stage box
counted_stays topology before step p box st k = λ own calm live. k own calm (st.present live) ∙ sym st.count

source_stays : (topology : Topology) (before : History) (step : Step) (p : Post) (whole : Bool) (lost : List (List ℕ)) (a b : LineSeen) → Stays topology before step p → KeepsSource before p.stage whole lost a b → KeepsSource (step ∷ before) p.stage whole lost a b
source_stays topology before step p whole lost a b st k = record {
  read = rw st.fed k.read;
  known = rw st.end k.known;
  quiet = rw st.quiets k.quiet;
  paced = pace_on a.source.paced.pace before (step ∷ before) p.stage whole a.source b st.paced k.paced;
}

feed_stays : (topology : Topology) (before : History) (step : Step) (p : Post) (whole : Bool) (lost : List (List ℕ)) (a b : FeedSeen) → Stays topology before step p → KeepsFeed before p.stage whole lost a b → KeepsFeed (step ∷ before) p.stage whole lost a b
feed_stays topology before step p whole lost (Single a) (Single b) st k = source_stays topology before step p whole lost a b st k
feed_stays topology before step p whole lost (Merged a) (Merged b) st k =
    record { given = k.given; records = rw st.fed k.records; read = k.read; known = rw st.end k.known; quiet = rw st.quiets k.quiet; unpaced = k.unpaced }
feed_stays topology before step p whole lost (Single a) (Merged b) st k = absurd k
feed_stays topology before step p whole lost (Merged a) (Single b) st k = absurd k

sink_stays : (topology : Topology) (before : History) (step : Step) (p : Post) (a b : SinkSeen) → Stays topology before step p → KeepsSink topology before p.stage a b → KeepsSink topology (step ∷ before) p.stage a b
sink_stays topology before step p a b st k = record {
  told = k.told;
  held = λ t. rw st.text (k.held t);
  faults_stay = k.faults_stay;
  short = rw st.short k.short;
}

callback_stays : (topology : Topology) (before : History) (step : Step) (p : Post) (a b : BoxSeen) → Stays topology before step p → KeepsCallback topology before p a b → KeepsCallback topology (step ∷ before) p a b
callback_stays topology before step p a b st k = record {
  kept = k.kept;
  count = counted_stays topology before step p b st k.count;
  calls = λ own. rw st.calls (k.calls own);
  bad = λ own. rw st.bad (k.bad own);
  resets = λ own. rw st.resets (k.resets own);
  lawful = (k.lawful, st.lawful a.law);
}

pub body_stays : (topology : Topology) (before : History) (step : Step) (p : Post) (a b : BodySeen) → Stays topology before step p → KeepsBody topology before p a b → KeepsBody topology (step ∷ before) p a b
body_stays topology before step p a b st k = record {
  source = both_map (λ x y h. feed_stays topology before step p true [] x y st h) a.source b.source k.source;
  sink = both_map (λ x y h. sink_stays topology before step p x y st h) a.sink b.sink k.sink;
  callback = both_map (λ x y h. callback_stays topology before step p x y st h) a.callback b.callback k.callback;
}

pub partly_stays : (topology : Topology) (before : History) (step : Step) (p : Post) (a b : BodySeen) → Stays topology before step p → KeepsPartly topology before p a b → KeepsPartly topology (step ∷ before) p a b
partly_stays topology before step p a b st k = record {
  source = both_map (λ x y h. (h.0, feed_stays topology before step p false h.0 x y st h.1)) a.source b.source k.source;
  sink = both_map (λ x y h. sink_stays topology before step p x y st h) a.sink b.sink k.sink;
  callback = k.callback;
}

pub post_stays : (topology : Topology) (before : History) (step : Step) (p : Post) (out : Bool) (a b : Option BodySeen) → Stays topology before step p → KeepsPost topology before p out a b → KeepsPost topology (step ∷ before) p out a b
post_stays topology before step p true a b st (inl none) = inl none
post_stays topology before step p true a b st (inr k) = inr (both_map (λ x y h. partly_stays topology before step p x y st h) a b k)
post_stays topology before step p false a b st k = both_map (λ x y h. body_stays topology before step p x y st h) a b k

armed_stays : (topology : Topology) (before : History) (step : Step) (p : Post) (spec : StageSpec) (box : BoxSeen) → Stays topology before step p → IsArmed topology before p.stage spec box → IsArmed topology (step ∷ before) p.stage spec box
armed_stays topology before step p spec box st k = record {
  spec = k.spec;
  kind = k.kind;
  count = counted_stays topology before step p box st k.count;
}

body_for_stays : (topology : Topology) (before : History) (step : Step) (p : Post) (spec : StageSpec) (role : Role) (body : BodySeen) → Stays topology before step p → IsBodyFor topology before p.stage spec role body → IsBodyFor topology (step ∷ before) p.stage spec role body
body_for_stays topology before step p spec Producer body st k = k
body_for_stays topology before step p spec Processor body st k = there_map (λ box h. armed_stays topology before step p spec box st h) body.callback k
body_for_stays topology before step p spec Supervisor body st k = there_map (λ box h. armed_stays topology before step p spec box st h) body.callback k
body_for_stays topology before step p spec Batcher body st k = k
body_for_stays topology before step p spec BatchProcessor body st k = (there_map (λ box h. armed_stays topology before step p spec box st h) body.callback k.0, k.1)

pub ready_stays : (topology : Topology) (before : History) (step : Step) (p : Post) (body : BodySeen) → Stays topology before step p → IsBodyAt topology before p body → IsBodyAt topology (step ∷ before) p body
ready_stays topology before step p body st k = there_map (λ spec h. body_for_stays topology before step p spec spec.role body st h) (spec_of topology p.stage) k

-- ---- whether the post is out

pub out_as : (topology : Topology) (before : History) (p : Post) (b c : Bool) (x y : Option BodySeen) → b ≡ c → KeepsPost topology before p c x y → KeepsPost topology before p b x y
out_as topology before p b c x y e k = rw e k

source_is_part : (before : History) (s : StageNo) (a b : LineSeen) → KeepsSource before s true [] a b → KeepsSource before s false [] a b
source_is_part before s a b k = record { read = k.read; known = k.known; quiet = k.quiet; paced = pace_part a.source.paced.pace before s a.source b k.paced }

feed_is_part : (before : History) (s : StageNo) (a b : FeedSeen) → KeepsFeed before s true [] a b → KeepsFeed before s false [] a b
feed_is_part before s (Single a) (Single b) k = source_is_part before s a b k
feed_is_part before s (Merged a) (Merged b) k = k
feed_is_part before s (Single a) (Merged b) k = absurd k
feed_is_part before s (Merged a) (Single b) k = absurd k

-- a body that stands where the journal leaves it stands so in part
pub whole_is_part : (topology : Topology) (before : History) (p : Post) (a b : BodySeen) → KeepsBody topology before p a b → KeepsPartly topology before p a b
whole_is_part topology before p a b k = record {
  source = both_map (λ x y h. ([], feed_is_part before p.stage x y h)) a.source b.source k.source;
  sink = k.sink;
  callback = both_map (λ x y h. h.kept) a.callback b.callback k.callback;
}

goes_out : (topology : Topology) (before : History) (p : Post) (out : Bool) (x y : Option BodySeen) → KeepsPost topology before p out x y → KeepsPost topology before p true x y
goes_out topology before p true x y k = k
goes_out topology before p false x y k = inr (both_map (λ a b h. whole_is_part topology before p a b h) x y k)

-- ---- steps that answer no post

-- the step answers no post of the topology, and restarts no stage
pub record Quietly (topology : Topology) (step : Step) : Type 0 where
  pub unanswered : (p : Post) → has_post topology p ≡ true → answers step p ≡ false
  pub unrestarted : (p : Post) → restarts step p.stage ≡ false

pub keeps_quietly : (topology : Topology) (before : History) (step : Step) (opened now : ℕ → Option BodySeen) → IsSound topology → is_legal topology (step ∷ before) ≡ true → Quietly topology step
    → Keeps topology before opened now → Keeps topology (step ∷ before) opened now
keeps_quietly topology before step opened now sound legal calm keeps p here = either (puts_out step p) refl
  where
    st : Stays topology before step p
    st = stays topology before step p sound legal here (calm.unanswered p here) (calm.unrestarted p)

    either : (b : Bool) → puts_out step p ≡ b → KeepsPost topology (step ∷ before) p (is_out (step ∷ before) p) (opened (place_at p)) (now (place_at p))
    either false e =
        out_as topology (step ∷ before) p (is_out (step ∷ before) p) (is_out before p) (opened (place_at p)) (now (place_at p)) (out_stays before step p e (calm.unanswered p here))
        (post_stays topology before step p (is_out before p) (opened (place_at p)) (now (place_at p)) st (keeps p here))
    either true e =
        out_as topology (step ∷ before) p (is_out (step ∷ before) p) true (opened (place_at p)) (now (place_at p)) (ap (λ b. b || (not (answers step p) && is_out before p)) e)
        (goes_out topology (step ∷ before) p (is_out before p) (opened (place_at p)) (now (place_at p)) (post_stays topology before step p (is_out before p) (opened (place_at p)) (now (place_at p)) st (keeps p here)))

pub ready_quietly : (topology : Topology) (before : History) (step : Step) (now : ℕ → Option BodySeen) → IsSound topology → is_legal topology (step ∷ before) ≡ true → Quietly topology step
    → Ready topology before now → Ready topology (step ∷ before) now
ready_quietly topology before step now sound legal calm ready p here home = either (puts_out step p) refl
  where
    either : (b : Bool) → puts_out step p ≡ b → There (now (place_at p)) (IsBodyAt topology (step ∷ before) p)
    either false e =
        there_map (λ body h. ready_stays topology before step p body (stays topology before step p sound legal here (calm.unanswered p here) (calm.unrestarted p)) h) (now (place_at p))
        (ready p here (sym (out_stays before step p e (calm.unanswered p here)) ∙ home))
    either true e = clash (is_out (step ∷ before) p) (ap (λ b. b || (not (answers step p) && is_out before p)) e) home

-- ---- a body leaves

at_place : (topology : Topology) (p q : Post) → IsSound topology → p.slot < 16 → has_post topology q ≡ true → (place_at p == place_at q) ≡ true → p ≡ q
at_place topology p q sound low here e = own_places p q low (few_slots topology q sound here) (eqb-true (place_at p) (place_at q) e)

pub keeps_away : (topology : Topology) (before : History) (p : Post) (opened now after : ℕ → Option BodySeen) → IsSound topology → p.slot < 16 → is_out before p ≡ true
    → ((s : ℕ) → after s ≡ (if place_at p == s then None else now s))
    → Keeps topology before opened now → Keeps topology before opened after
keeps_away topology before p opened now after sound low out moved keeps q here = either (place_at p == place_at q) refl
  where
    either : (b : Bool) → (place_at p == place_at q) ≡ b → KeepsPost topology before q (is_out before q) (opened (place_at q)) (after (place_at q))
    either false e =
        subst (λ x. KeepsPost topology before q (is_out before q) (opened (place_at q)) x) (sym (moved (place_at q) ∙ ap (λ b. if b then None else now (place_at q)) e)) (keeps q here)
    either true e =
        let is : p ≡ q = at_place topology p q sound low here e in
        let gone : after (place_at q) ≡ None = moved (place_at q) ∙ ap (λ b. if b then None else now (place_at q)) e in
        out_as topology before q (is_out before q) true (opened (place_at q)) (after (place_at q)) (sym (ap (is_out before) is) ∙ out) (inl gone)

pub ready_away : (topology : Topology) (before : History) (p : Post) (now after : ℕ → Option BodySeen) → IsSound topology → p.slot < 16 → is_out before p ≡ true
    → ((s : ℕ) → after s ≡ (if place_at p == s then None else now s))
    → Ready topology before now → Ready topology before after
ready_away topology before p now after sound low out moved ready q here home = either (place_at p == place_at q) refl
  where
    either : (b : Bool) → (place_at p == place_at q) ≡ b → There (after (place_at q)) (IsBodyAt topology before q)
    either false e =
        subst (λ x. There x (IsBodyAt topology before q)) (sym (moved (place_at q) ∙ ap (λ b. if b then None else now (place_at q)) e)) (ready q here home)
    either true e = clash (is_out before q) (sym (ap (is_out before) (at_place topology p q sound low here e)) ∙ out) home

-- ---- a body comes back, of a post that is still out

pub keeps_back : (topology : Topology) (before : History) (p : Post) (body : BodySeen) (opened now after : ℕ → Option BodySeen) → IsSound topology → p.slot < 16 → is_out before p ≡ true
    → ((s : ℕ) → after s ≡ (if place_at p == s then Some body else now s)) → Both (KeepsPartly topology before p) (opened (place_at p)) (Some body)
    → Keeps topology before opened now → Keeps topology before opened after
keeps_back topology before p body opened now after sound low out moved stands keeps q here = either (place_at p == place_at q) refl
  where
    either : (b : Bool) → (place_at p == place_at q) ≡ b → KeepsPost topology before q (is_out before q) (opened (place_at q)) (after (place_at q))
    either false e =
        subst (λ x. KeepsPost topology before q (is_out before q) (opened (place_at q)) x) (sym (moved (place_at q) ∙ ap (λ b. if b then Some body else now (place_at q)) e)) (keeps q here)
    either true e =
        let is : p ≡ q = at_place topology p q sound low here e in
        let back : after (place_at q) ≡ Some body = moved (place_at q) ∙ ap (λ b. if b then Some body else now (place_at q)) e in
        out_as topology before q (is_out before q) true (opened (place_at q)) (after (place_at q)) (sym (ap (is_out before) is) ∙ out)
        (inr (subst (λ x. Both (KeepsPartly topology before q) (opened (place_at q)) x) (sym back) (subst (λ r. Both (KeepsPartly topology before r) (opened (place_at r)) (Some body)) is stands)))

pub ready_back : (topology : Topology) (before : History) (p : Post) (body : BodySeen) (now after : ℕ → Option BodySeen) → IsSound topology → p.slot < 16 → is_out before p ≡ true
    → ((s : ℕ) → after s ≡ (if place_at p == s then Some body else now s))
    → Ready topology before now → Ready topology before after
ready_back topology before p body now after sound low out moved ready q here home = either (place_at p == place_at q) refl
  where
    either : (b : Bool) → (place_at p == place_at q) ≡ b → There (after (place_at q)) (IsBodyAt topology before q)
    either false e =
        subst (λ x. There x (IsBodyAt topology before q)) (sym (moved (place_at q) ∙ ap (λ b. if b then Some body else now (place_at q)) e)) (ready q here home)
    either true e = clash (is_out before q) (sym (ap (is_out before) (at_place topology p q sound low here e)) ∙ out) home

-- ---- a body comes back with an answer that the journal has

pub keeps_answered : (topology : Topology) (before : History) (step : Step) (p : Post) (body : BodySeen) (opened now after : ℕ → Option BodySeen) → IsSound topology → is_legal topology (step ∷ before) ≡ true → p.slot < 16
    → ((q : Post) → has_post topology q ≡ true → (place_at p == place_at q) ≡ false → (puts_out step q ≡ false) × (answers step q ≡ false)) → ((q : Post) → restarts step q.stage ≡ false)
    → is_out (step ∷ before) p ≡ false
    → ((s : ℕ) → after s ≡ (if place_at p == s then Some body else now s)) → Both (KeepsBody topology (step ∷ before) p) (opened (place_at p)) (Some body)
    → Keeps topology before opened now → Keeps topology (step ∷ before) opened after
keeps_answered topology before step p body opened now after sound legal low others calm home moved stands keeps q here = either (place_at p == place_at q) refl
  where
    either : (b : Bool) → (place_at p == place_at q) ≡ b → KeepsPost topology (step ∷ before) q (is_out (step ∷ before) q) (opened (place_at q)) (after (place_at q))
    either false e =
        let apart = others q here e in
        subst (λ x. KeepsPost topology (step ∷ before) q (is_out (step ∷ before) q) (opened (place_at q)) x) (sym (moved (place_at q) ∙ ap (λ b. if b then Some body else now (place_at q)) e))
        (out_as topology (step ∷ before) q (is_out (step ∷ before) q) (is_out before q) (opened (place_at q)) (now (place_at q)) (out_stays before step q apart.0 apart.1)
        (post_stays topology before step q (is_out before q) (opened (place_at q)) (now (place_at q)) (stays topology before step q sound legal here apart.1 (calm q)) (keeps q here)))
    either true e =
        let is : p ≡ q = at_place topology p q sound low here e in
        let back : after (place_at q) ≡ Some body = moved (place_at q) ∙ ap (λ b. if b then Some body else now (place_at q)) e in
        out_as topology (step ∷ before) q (is_out (step ∷ before) q) false (opened (place_at q)) (after (place_at q)) (sym (ap (is_out (step ∷ before)) is) ∙ home)
        (subst (λ x. Both (KeepsBody topology (step ∷ before) q) (opened (place_at q)) x) (sym back) (subst (λ r. Both (KeepsBody topology (step ∷ before) r) (opened (place_at r)) (Some body)) is stands))

pub ready_answered : (topology : Topology) (before : History) (step : Step) (p : Post) (body : BodySeen) (now after : ℕ → Option BodySeen) → IsSound topology → is_legal topology (step ∷ before) ≡ true → p.slot < 16
    → ((q : Post) → has_post topology q ≡ true → (place_at p == place_at q) ≡ false → (puts_out step q ≡ false) × (answers step q ≡ false)) → ((q : Post) → restarts step q.stage ≡ false)
    → ((s : ℕ) → after s ≡ (if place_at p == s then Some body else now s)) → IsBodyAt topology (step ∷ before) p body
    → Ready topology before now → Ready topology (step ∷ before) after
ready_answered topology before step p body now after sound legal low others calm moved fit ready q here home = either (place_at p == place_at q) refl
  where
    either : (b : Bool) → (place_at p == place_at q) ≡ b → There (after (place_at q)) (IsBodyAt topology (step ∷ before) q)
    either false e =
        let apart = others q here e in
        subst (λ x. There x (IsBodyAt topology (step ∷ before) q)) (sym (moved (place_at q) ∙ ap (λ b. if b then Some body else now (place_at q)) e))
        (there_map (λ other h. ready_stays topology before step q other (stays topology before step q sound legal here apart.1 (calm q)) h) (now (place_at q))
        (ready q here (sym (out_stays before step q apart.0 apart.1) ∙ home)))
    either true e =
        let is : p ≡ q = at_place topology p q sound low here e in
        let back : after (place_at q) ≡ Some body = moved (place_at q) ∙ ap (λ b. if b then Some body else now (place_at q)) e in
        subst (λ x. There x (IsBodyAt topology (step ∷ before) q)) (sym back) (subst (λ r. IsBodyAt topology (step ∷ before) r body) is fit)
