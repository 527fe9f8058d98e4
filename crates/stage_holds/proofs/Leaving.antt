-- A worker goes away with a job and the body of its post.
use Rattle.std.proofs.Common.{◌≡◌, ℕ, ◌+◌, ◌≤◌, ◌<◌, [], ◌∷◌, Bool, true, false, refl, ap, sym, ◌∙◌, subst, inl, inr, Some, None, Option, arith}
use Rattle.std.specs.Prelude.{◌==◌, ◌≢◌, ◌⊎◌, ◌||◌, if◌then◌else◌, option_map, is_some}
use Rattle.std.proofs.lemmas.Bool.{eqb-true, eq-eqb}
use Rattle.std.proofs.lemmas.List.Elements.{All-nil, All-cons}
use Rattle.pipe_types.specs.declared.numbers.StageNo.{StageNo}
use Rattle.pipe_types.specs.declared.numbers.Post.{Post}
use Rattle.pipe_types.specs.declared.step.Step.{Step}
use Rattle.pipe_types.specs.declared.step.Step.TheVariants.{Fetch, Take, Child}
use Rattle.pipe_types.specs.declared.topology.Topology.{Topology}
use Rattle.pipe_types.specs.Sound.{IsSound}
use Rattle.pipe_model.specs.History.{History, now}
use Rattle.pipe_model.specs.Posts.{puts_out, answers, is_out}
use Rattle.pipe_model.specs.Legal.{is_legal, owed, quiet_row}
use Rattle.pipe_model.specs.Moves.{move, Job as JobMove}
use Rattle.pipe_laws.specs.Followed.{FollowsMoves}
use Rattle.stage_bodies.specs.Seen.{BodySeen}
use Rattle.stage_bodies.specs.Jobs.{Fits}
use Rattle.stage_bodies.specs.Moments.{told_for}
use Rattle.stage_bodies.specs.Posts.{place_at, IsJobOf}
use Rattle.stage_bodies.specs.declared.job.Job.{Job}
use Rattle.body_laws.specs.Keeps.{Keeps}
use Rattle.body_laws.specs.Ready.{Ready, There, IsBodyAt}
use Rattle.body_laws.proofs.Jobs.{begun_ready, ready_fits}
use Rattle.body_laws.proofs.Laws.{silent_keeps, silent_ready, away_keeps, away_ready}
use Rattle.stage_moves.specs.Begun.{IsBegun}
use Rattle.stage_moves.specs.Steps.{jobs_begun}
use Rattle.stage_moves.proofs.Kept.{job_keeps}
use Rattle.job_laws.specs.Away.{IsAway}
use Rattle.job_laws.proofs.Away.{leaves}
use Rattle.job_laws.proofs.Outs.{put_out_once}
use Rattle.stage_moves.specs.Going.{Within}
use Rattle.stage_moves.proofs.Controls.{job_count}
use Rattle.stage_moves.proofs.Working.{Began, began, put_only}
use Rattle.std.specs.Prelude.{Result, Ok, Err}
use Rattle.std.specs.Result.{IsErr}
use Rattle.stage_holds.specs.declared.loads.Load.{Load}
use Rattle.stage_holds.specs.Holds.{AddsHold, AreHome, OutsAre, Leaves, LeavesOn}
use Rattle.stage_holds.specs.Rows.{RowsWithin}
use Rattle.stage_holds.proofs.Outing.{begun_outs}
use Rattle.stage_holds.proofs.Telling.{told_fits}

pub record Gone (topology : Topology) (before after : History) (home away : ℕ → Option BodySeen) (job : Job) (body : BodySeen) : Type 0 where
  pub sound : IsSound topology
  pub ready : Ready topology before home
  pub began : Began topology before after job.post
  pub legal : is_legal topology (began.step ∷ before) ≡ true
  pub is : IsJobOf topology (began.step ∷ before) job
  pub at : home (place_at job.post) ≡ Some body
  pub gone : (s : ℕ) → away s ≡ (if place_at job.post == s then None else home s)

pub gone_with : (topology other : Topology) (before after : History) (home away : ℕ → Option BodySeen) (s : StageNo) (job : Job) (at : ℕ) (body : BodySeen)
    → IsSound topology → Ready topology before home → owed topology before ≡ None → move topology before ≡ JobMove s → other ≡ topology → is_legal other after ≡ true
    → IsBegun topology before s after job → IsJobOf other after job → at ≡ place_at job.post → Some body ≡ home at → ((t : ℕ) → away t ≡ (if at == t then None else home t))
    → Gone topology before after home away job body
gone_with topology other before after home away s job at body sound ready free first same legal begun is place out gone =
    let legal_here = subst (λ o. is_legal o after ≡ true) same legal in
    let b = began topology before after s job sound legal_here free first begun in
    record {
      sound = sound;
      ready = ready;
      began = b;
      legal = subst (λ h. is_legal topology h ≡ true) b.is legal_here;
      is = subst (λ h. IsJobOf topology h job) b.is (subst (λ o. IsJobOf o after job) same is);
      at = ap home (sym place) ∙ sym out;
      gone = λ t. gone t ∙ ap (λ a. if a == t then None else home t) place;
    }

-- a body is there
pub is_there : (topology other : Topology) (before after : History) (home : ℕ → Option BodySeen) (s : StageNo) (job : Job) (at : ℕ)
    → IsSound topology → Ready topology before home → owed topology before ≡ None → move topology before ≡ JobMove s → other ≡ topology → is_legal other after ≡ true
    → IsBegun topology before s after job → at ≡ place_at job.post → None ≡ home at → ⊥
is_there topology other before after home s job at sound ready free first same legal begun place out =
    let legal_here = subst (λ o. is_legal o after ≡ true) same legal in
    let b = began topology before after s job sound legal_here free first begun in
    subst (λ o. There o (IsBodyAt topology (b.step ∷ before) job.post)) (ap home (sym place) ∙ sym out) (begun_ready topology before b.step job.post home sound (subst (λ h. is_legal topology h ≡ true) b.is legal_here) b.puts ready)

there_one : {A : Type 0} (P : A → Type 0) (x : Option A) (a : A) → x ≡ Some a → There x P → P a
there_one P x a e h = subst (λ o. There o P) e h

module _ {topology : Topology} {before after : History} {home away : ℕ → Option BodySeen} {job : Job} {body : BodySeen} (g : Gone topology before after home away job body) where
  pub goes_follows : FollowsMoves topology before → FollowsMoves topology after
  goes_follows f = subst (λ h. FollowsMoves topology h) (sym g.began.is) (f, g.began.next)

  pub goes_ready : Ready topology after away
  goes_ready =
      subst (λ h. Ready topology h away) (sym g.began.is)
      (away_ready topology (g.began.step ∷ before) job.post home away g.sound g.is.out g.gone (silent_ready topology before g.began.step home g.sound g.legal g.began.silent g.ready))

  pub goes_keeps : (opened : ℕ → Option BodySeen) → Keeps topology before opened home → Keeps topology after opened away
  goes_keeps opened k =
      subst (λ h. Keeps topology h opened away) (sym g.began.is)
      (away_keeps topology (g.began.step ∷ before) job.post opened home away g.sound g.is.out g.gone (silent_keeps topology before g.began.step opened home g.sound g.legal g.began.silent k))

  pub goes_away : (opened : ℕ → Option BodySeen) → Keeps topology before opened home → IsAway topology after (opened (place_at job.post)) job (told_for job.work (now after) body)
  goes_away opened k =
      subst (λ h. IsAway topology h (opened (place_at job.post)) job (told_for job.work (now h) body)) (sym g.began.is)
      (leaves topology before g.began.step job body opened home g.sound g.legal g.began.puts g.is g.at k g.ready)

  pub goes_fit : Fits job.work body
  goes_fit =
      ready_fits topology (g.began.step ∷ before) job.post job.work body g.is.work
      (there_one (IsBodyAt topology (g.began.step ∷ before) job.post) (home (place_at job.post)) body g.at (begun_ready topology before g.began.step job.post home g.sound g.legal g.began.puts g.ready))

  answers_none : (step : Step) (p q : Post) → puts_out step p ≡ true → answers step q ≡ false
  answers_none step p q put = by step put
    where
      by : (step : Step) → puts_out step p ≡ true → answers step q ≡ false
      by (Fetch t n) h = refl
      by (Take t u k) h = refl
      by (Child t m slot) h = refl
      by step h = cc

  puts_first : (a b : Bool) → a ≡ true → (a || b) ≡ true
  puts_first true b h = refl
  puts_first false b h = cc

  was_home : (b : Bool) → is_out before job.post ≡ b → is_out before job.post ≡ false
  was_home true e = let x : false ≡ true = sym (put_out_once topology before g.began.step job.post g.legal e) ∙ g.began.puts in cc
  was_home false e = e

  pub goes_adds : AddsHold None (Some job.post) before after
  goes_adds = record {
    begins = record { later = g.began.step ∷ []; is = g.began.is };
    others_unanswered = λ q out other. record { later = g.began.step ∷ []; is = g.began.is; silent = All-cons (λ s. answers s q ≡ false) g.began.step [] (answers_none g.began.step job.post q g.began.puts) (All-nil (λ s. answers s q ≡ false)) };
    own_job = (
      subst (λ h. is_out h job.post ≡ true) (sym g.began.is) (puts_first (puts_out g.began.step job.post) _ g.began.puts),
      λ other. was_home (is_out before job.post) refl,
    );
  }

  pub goes_outs : OutsAre None (Some job.post) before after
  goes_outs = subst (λ (h : History). OutsAre None (Some job.post) before h) (sym g.began.is) (begun_outs job.post before g.began.step (λ q e. put_only job.post q g.began.step g.began.puts e))

  pub goes_row : 1 ≤ topology.idle_limit → quiet_row after < topology.idle_limit
  goes_row limit = subst (λ h. quiet_row h < topology.idle_limit) (sym g.began.is) (g.began.row limit)

  pub goes_rows : 1 ≤ topology.idle_limit → RowsWithin topology.idle_limit before → RowsWithin topology.idle_limit after
  goes_rows limit r = let low = g.began.row limit in subst (λ (h : History). RowsWithin topology.idle_limit h) (sym g.began.is) (r, omega (arith, low))

  pub goes_within : Within topology 1 before after
  goes_within =
      subst (λ h. Within topology 1 before h) (sym g.began.is)
      (record { same_time = g.began.same_time; same_still = g.began.same_still; begun = few _ (jobs_begun before) g.began.begun; control = λ opened lines k. job_keeps topology before g.began.step opened lines g.began.job k; same_controls = job_count before g.began.step g.began.job })
    where
      few : (x y : ℕ) → x ≡ 1 + y → x ≤ y + 1
      few x y e = omega (arith, e)

-- ---- the places

pick : (b : Bool) (x : Option BodySeen) → b ≡ true → (if b then None else x) ≡ None
pick true x e = refl
pick false x e = cc

pub leaves_home : (p : Post) (home away : ℕ → Option BodySeen) → ((s : ℕ) → away s ≡ (if place_at p == s then None else home s)) → AreHome None (Some p) home away
leaves_home p home away gone = λ at. (λ e. by_place at (place_at p == at) refl e, λ h. back at h)
  where
    none_is : (at : ℕ) → None ≡ Some at → ⊥
    none_is at e = cc

    by_place : (at : ℕ) (b : Bool) → (place_at p == at) ≡ b → away at ≡ None → (Some (place_at p) ≡ Some at) ⊎ ((home at ≡ None) × (None ≢ Some at))
    by_place at true e none = inl (ap Some (eqb-true (place_at p) at e))
    by_place at false e none = inr (sym (gone at ∙ ap (λ (b : Bool). if b then None else home at) e) ∙ none, λ x. none_is at x)

    unsome : {A : Type 0} (x y : A) → Some x ≡ Some y → x ≡ y
    unsome x y e = cc

    or_empty : (b : Bool) (x : Option BodySeen) → x ≡ None → (if b then None else x) ≡ None
    or_empty true x e = refl
    or_empty false x e = e

    back : (at : ℕ) → (Some (place_at p) ≡ Some at) ⊎ ((home at ≡ None) × (None ≢ Some at)) → away at ≡ None
    back at (inl e) = gone at ∙ pick (place_at p == at) (home at) (eq-eqb (place_at p) at (unsome (place_at p) at e))
    back at (inr h) = gone at ∙ or_empty (place_at p == at) (home at) h.0

pub comes_home_again : (p : Post) (body : BodySeen) (home back : ℕ → Option BodySeen) → ((s : ℕ) → back s ≡ (if place_at p == s then Some body else home s)) → AreHome (Some p) None home back
comes_home_again p body home back table = λ at. (λ e. by_place at (place_at p == at) refl e, λ h. back_at at h)
  where
    some_none : (x : BodySeen) → Some x ≡ None → ⊥
    some_none x e = cc

    false_true : {A : Type 0} (b : Bool) → b ≡ false → b ≡ true → A
    false_true true e f = cc
    false_true false e f = cc

    none_is : (at : ℕ) → None ≡ Some at → ⊥
    none_is at e = cc

    unsome : {A : Type 0} (x y : A) → Some x ≡ Some y → x ≡ y
    unsome x y e = cc

    shown : (at : ℕ) (b : Bool) → (place_at p == at) ≡ b → back at ≡ (if b then Some body else home at)
    shown at b e = table at ∙ ap (λ (c : Bool). if c then Some body else home at) e

    by_place : (at : ℕ) (b : Bool) → (place_at p == at) ≡ b → back at ≡ None → (None ≡ Some at) ⊎ ((home at ≡ None) × (Some (place_at p) ≢ Some at))
    by_place at true e none = absurd (some_none body (sym (shown at true e) ∙ none))
    by_place at false e none = inr (sym (shown at false e) ∙ none, λ x. false_true (place_at p == at) e (eq-eqb (place_at p) at (unsome (place_at p) at x)))

    elsewhere : (at : ℕ) (b : Bool) → (place_at p == at) ≡ b → Some (place_at p) ≢ Some at → home at ≡ None → back at ≡ None
    elsewhere at true e other none = absurd (other (ap Some (eqb-true (place_at p) at e)))
    elsewhere at false e other none = shown at false e ∙ none

    back_at : (at : ℕ) → (None ≡ Some at) ⊎ ((home at ≡ None) × (Some (place_at p) ≢ Some at)) → back at ≡ None
    back_at at (inl e) = absurd (none_is at e)
    back_at at (inr h) = elsewhere at (place_at p == at) refl h.1 h.0

-- one hold of places and then another, of which only the first brings a body home and only the second takes one away
pub homes_then : (own job : Option Post) (home mid back : ℕ → Option BodySeen) → AreHome own None home mid → AreHome None job mid back → AreHome own job home back
homes_then own job home mid back p q = λ at. (λ e. there at ((q at).0 e), λ h. (q at).1 (here at h))
  where
    none_is : (at : ℕ) → None ≡ Some at → ⊥
    none_is at e = cc

    mid_empty : (at : ℕ) → (None ≡ Some at) ⊎ ((home at ≡ None) × (option_map place_at own ≢ Some at)) → (home at ≡ None) × (option_map place_at own ≢ Some at)
    mid_empty at (inl e) = absurd (none_is at e)
    mid_empty at (inr h) = h

    there : (at : ℕ) → (option_map place_at job ≡ Some at) ⊎ ((mid at ≡ None) × (None ≢ Some at)) → (option_map place_at job ≡ Some at) ⊎ ((home at ≡ None) × (option_map place_at own ≢ Some at))
    there at (inl e) = inl e
    there at (inr h) = inr (mid_empty at ((p at).0 h.0))

    here : (at : ℕ) → (option_map place_at job ≡ Some at) ⊎ ((home at ≡ None) × (option_map place_at own ≢ Some at)) → (option_map place_at job ≡ Some at) ⊎ ((mid at ≡ None) × (None ≢ Some at))
    here at (inl e) = inl e
    here at (inr h) = inr ((p at).1 (inr h), λ e. none_is at e)

-- no place was filled or emptied
pub same_homes : (home back : ℕ → Option BodySeen) → ((at : ℕ) → is_some (back at) ≡ is_some (home at)) → AreHome None None home back
same_homes home back same = λ at. (λ e. inr (empty (back at) (home at) (sym (same at)) e, λ x. none_is at x), λ h. by at h)
  where
    none_is : (at : ℕ) → None ≡ Some at → ⊥
    none_is at e = cc

    empty : (x y : Option BodySeen) → is_some y ≡ is_some x → x ≡ None → y ≡ None
    empty x None e none = refl
    empty None (Some y) e none = cc
    empty (Some x) (Some y) e none = cc

    by : (at : ℕ) → (None ≡ Some at) ⊎ ((home at ≡ None) × (None ≢ Some at)) → back at ≡ None
    by at (inl e) = absurd (none_is at e)
    by at (inr h) = empty (home at) (back at) (same at) h.0

-- ---- all of it

-- behind a fetch its source was told the moment
pub leaves_by : {B : Type 0} (look : B → BodySeen) (load : Load B) (body : BodySeen) (topology : Topology) (before after : History) (home away : ℕ → Option BodySeen) → look load.body ≡ told_for load.job.work (now after) body → Gone topology before after home away load.job body → Leaves look load topology before home after away
leaves_by look load body topology before after home away is g = record {
  follows = goes_follows g;
  ready = goes_ready g;
  keeps = goes_keeps g;
  load = λ opened k. subst (λ b. IsAway topology after (opened (place_at load.job.post)) load.job b) (sym is) (goes_away g opened k);
  fits = subst (λ b. Fits load.job.work b) (sym is) (told_fits load.job.work (now after) body (goes_fit g));
  adds = goes_adds g;
  within = goes_within g;
  outs = goes_outs g;
  row = goes_row g;
  rows = goes_rows g;
  homes = leaves_home load.job.post home away g.gone;
}

pub leaves_none : {B E : Type 0} (look : B → BodySeen) (r : Result (Load B) E) (topology : Topology) (before after : History) (home : ℕ → Option BodySeen) → IsErr r → after ≡ before → LeavesOn look r topology before home after home
leaves_none look (Ok load) topology before after home fails same = let y : false ≡ true = fails in cc
leaves_none look (Err e) topology before after home fails same = (same, refl)
