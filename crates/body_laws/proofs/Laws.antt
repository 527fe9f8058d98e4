-- The laws.
use Rattle.std.proofs.Common.{◌≡◌, ℕ, ◌≤◌, ◌∷◌, Bool, true, false, refl, ap, sym, ◌∙◌, subst, Some, None, Option, arith}
use Rattle.std.specs.Prelude.{not, ◌&&◌, ◌||◌, ◌==◌, if◌then◌else◌}
use Rattle.std.proofs.lemmas.Bool.{eqb-true, eq-eqb}
use Rattle.pipe_types.specs.declared.numbers.StageNo.{StageNo}
use Rattle.pipe_types.specs.declared.numbers.Post.{Post}
use Rattle.pipe_types.specs.declared.step.Step.{Step}
use Rattle.pipe_types.specs.declared.topology.Topology.{Topology}
use Rattle.pipe_types.specs.Numbers.{stage, post, same_stage, same_post}
use Rattle.pipe_types.specs.Sound.{IsSound}
use Rattle.pipe_model.specs.History.{History}
use Rattle.pipe_model.specs.Lives.{restarts}
use Rattle.pipe_model.specs.Posts.{puts_out, answers, is_out}
use Rattle.pipe_model.specs.Legal.{is_legal}
use Rattle.pipe_laws.proofs.Tests.{clash, same_stage-self}
use Rattle.pipe_laws.proofs.Allowed.{legal_before}
use Rattle.stage_bodies.specs.Seen.{BodySeen}
use Rattle.stage_bodies.specs.Jobs.{Both, IsDone, IsCutOff}
use Rattle.stage_bodies.specs.Posts.{place_at, IsWorkOf, IsOutNow, IsJobOf, step_of, brings_records}
use Rattle.stage_bodies.specs.declared.job.Answer.{Answer}
use Rattle.stage_bodies.specs.declared.job.Job.{Job}
use Rattle.stage_bodies.specs.declared.job.Work.{Work}
use Rattle.stage_bodies.specs.declared.job.Work.TheVariants as work
use Rattle.stage_bodies.specs.declared.job.Outcome.{Outcome as Came}
use Rattle.stage_bodies.specs.declared.job.Outcome.TheVariants as came
use Rattle.body_laws.specs.Keeps.{is_silent, KeepsBody, KeepsPartly, Keeps}
use Rattle.body_laws.specs.Ready.{IsBodyAt, Ready, WasTold}
use Rattle.body_laws.proofs.Posts.{same_post-true, same_post-self, out_has_post, no_post_of_control}
use Rattle.body_laws.proofs.Steps.{current_out}
use Rattle.body_laws.proofs.Staying.{keeps_quietly, ready_quietly, keeps_away, ready_away, keeps_back, ready_back, keeps_answered, ready_answered}
use Rattle.body_laws.proofs.Jobs.{silent_quietly, answered_body, answered_fit, unrecorded_body, cut_body}

-- ---- silent steps

pub silent_keeps : (topology : Topology) (before : History) (step : Step) (opened now : ℕ → Option BodySeen) → IsSound topology → is_legal topology (step ∷ before) ≡ true → is_silent step ≡ true → Keeps topology before opened now → Keeps topology (step ∷ before) opened now
silent_keeps topology before step opened now sound legal calm keeps = keeps_quietly topology before step opened now sound legal (silent_quietly topology step sound calm) keeps

pub silent_ready : (topology : Topology) (before : History) (step : Step) (now : ℕ → Option BodySeen) → IsSound topology → is_legal topology (step ∷ before) ≡ true → is_silent step ≡ true → Ready topology before now → Ready topology (step ∷ before) now
silent_ready topology before step now sound legal calm ready = ready_quietly topology before step now sound legal (silent_quietly topology step sound calm) ready

-- ---- a body leaves with its job

pub out_now : (topology : Topology) (before : History) (p : Post) → IsOutNow topology before p → is_out before p ≡ true
out_now topology before p out = current_out before p.stage p.slot out.current

pub away_keeps : (topology : Topology) (before : History) (p : Post) (opened now after : ℕ → Option BodySeen) → IsSound topology → IsOutNow topology before p
    → ((s : ℕ) → after s ≡ (if place_at p == s then None else now s)) → Keeps topology before opened now → Keeps topology before opened after
away_keeps topology before p opened now after sound out moved keeps = keeps_away topology before p opened now after sound out.slot (out_now topology before p out) moved keeps

pub away_ready : (topology : Topology) (before : History) (p : Post) (now after : ℕ → Option BodySeen) → IsSound topology → IsOutNow topology before p
    → ((s : ℕ) → after s ≡ (if place_at p == s then None else now s)) → Ready topology before now → Ready topology before after
away_ready topology before p now after sound out moved ready = ready_away topology before p now after sound out.slot (out_now topology before p out) moved ready

-- ---- it comes back, and the journal has no answer

pub back_ready : (topology : Topology) (before : History) (p : Post) (body : BodySeen) (now after : ℕ → Option BodySeen) → IsSound topology → IsOutNow topology before p
    → ((s : ℕ) → after s ≡ (if place_at p == s then Some body else now s)) → Ready topology before now → Ready topology before after
back_ready topology before p body now after sound out moved ready = ready_back topology before p body now after sound out.slot (out_now topology before p out) moved ready

pub both_part : (topology : Topology) (before : History) (p : Post) (x : Option BodySeen) (old new : BodySeen) → ((a : BodySeen) → KeepsBody topology before p a old → KeepsPartly topology before p a new) → Both (KeepsBody topology before p) x (Some old) → Both (KeepsPartly topology before p) x (Some new)
both_part topology before p (Some a) old new f k = f a k
both_part topology before p None old new f k = absurd k

pub cut_keeps : (topology : Topology) (before : History) (p : Post) (old new : BodySeen) (opened now after : ℕ → Option BodySeen) → IsSound topology → IsOutNow topology before p → IsCutOff old new
    → Both (KeepsBody topology before p) (opened (place_at p)) (Some old) → ((s : ℕ) → after s ≡ (if place_at p == s then Some new else now s)) → Keeps topology before opened now → Keeps topology before opened after
cut_keeps topology before p old new opened now after sound out cut stood moved keeps =
    keeps_back topology before p new opened now after sound out.slot (out_now topology before p out) moved
    (both_part topology before p (opened (place_at p)) old new (λ a k. cut_body topology before p a old new cut k) stood) keeps

pub unrecorded_keeps : (topology : Topology) (before : History) (job : Job) (o : Came) (old new : BodySeen) (opened now after : ℕ → Option BodySeen) → IsSound topology → IsJobOf topology before job
    → brings_records o ≡ true → IsDone job.work o old new → Both (KeepsBody topology before job.post) (opened (place_at job.post)) (Some old) → ((s : ℕ) → after s ≡ (if place_at job.post == s then Some new else now s))
    → Keeps topology before opened now → Keeps topology before opened after
unrecorded_keeps topology before job o old new opened now after sound is brings done stood moved keeps =
    keeps_back topology before job.post new opened now after sound is.out.slot (out_now topology before job.post is.out) moved
    (both_part topology before job.post (opened (place_at job.post)) old new (λ a k. unrecorded_body topology before job.post job.work o a old new brings done k) stood) keeps

-- ---- it comes back with an answer that the journal has

step_leaves : (p : Post) (o : Came) (s : StageNo) (q : Post) → (restarts (step_of p o) s ≡ false) × (puts_out (step_of p o) q ≡ false)
step_leaves p (came.Records records) s q = (refl, refl)
step_leaves p came.NotYet s q = (refl, refl)
step_leaves p (came.Ended how) s q = (refl, refl)
step_leaves p (came.Replies replies) s q = (refl, refl)
step_leaves p (came.Wrote bytes end) s q = (refl, refl)
step_leaves p (came.Reply reply) s q = (refl, refl)

step_restarts : (p : Post) (o : Came) (s : StageNo) → restarts (step_of p o) s ≡ false
step_restarts p o s = (step_leaves p o s p).0

pub step_puts_out : (p : Post) (o : Came) (q : Post) → puts_out (step_of p o) q ≡ false
step_puts_out p o q = (step_leaves p o p.stage q).1

-- a child's answer names its slot; any other is of slot 0
abbrev pub NamesSlot : Post → Came → Type 0
NamesSlot p (came.Reply reply) = Unit {0}
NamesSlot p _ = p.slot ≡ 0

zero_names : (p : Post) (o : Came) → p.slot ≡ 0 → NamesSlot p o
zero_names p (came.Reply reply) e = tt
zero_names p _ e = e

pub names_slot : (topology : Topology) (before : History) (p : Post) (w : Work) (o : Came) (old new : BodySeen) → IsWorkOf topology before p w → IsDone w o old new → NamesSlot p o
names_slot topology before p (work.Fetch most) o old new is done = zero_names p o is.3
names_slot topology before p (work.Chunk messages) o old new is done = zero_names p o is.2
names_slot topology before p (work.Batch batch) o old new is done = zero_names p o is.2
names_slot topology before p (work.Child message) (came.Reply reply) old new is done = tt
names_slot topology before p (work.Child message) o old new is done = absurd done

first_of_stage : (p q : Post) → p.slot ≡ 0 → same_post q (post p.stage 0) ≡ true → q ≡ p
first_of_stage p q e h = same_post-true q (post p.stage 0) h ∙ ap (post p.stage) (sym e)

pub at_end : (b c : Bool) → (not b && c) ≡ true → c ≡ true
at_end true c h = cc
at_end false c h = h

pub answers_only : (p q : Post) (o : Came) → NamesSlot p o → answers (step_of p o) q ≡ true → q ≡ p
answers_only p q (came.Records records) e h = first_of_stage p q e h
answers_only p q came.NotYet e h = first_of_stage p q e h
answers_only p q (came.Ended how) e h = first_of_stage p q e (at_end (same_stage p.stage (stage 0)) (same_post q (post p.stage 0)) h)
answers_only p q (came.Replies replies) e h = first_of_stage p q e h
answers_only p q (came.Wrote bytes end) e h = first_of_stage p q e h
answers_only p q (came.Reply reply) e h = same_post-true q p h

first_self : (p : Post) → p.slot ≡ 0 → same_post p (post p.stage 0) ≡ true
first_self p e = rw (same_stage-self p.stage) (eq-eqb p.slot 0 e)

pub no_control : (p : Post) → 1 ≤ p.stage.0 → same_stage p.stage (stage 0) ≡ false
no_control p low = either (same_stage p.stage (stage 0)) refl
  where
    either : (b : Bool) → same_stage p.stage (stage 0) ≡ b → same_stage p.stage (stage 0) ≡ false
    either true e = let zero_stage = eqb-true p.stage.0 0 e in absurd (omega (arith, low, zero_stage))
    either false e = e

pub answers_self : (p : Post) (o : Came) → 1 ≤ p.stage.0 → NamesSlot p o → answers (step_of p o) p ≡ true
answers_self p (came.Records records) low e = first_self p e
answers_self p came.NotYet low e = first_self p e
answers_self p (came.Ended how) low e = rw (no_control p low) (first_self p e)
answers_self p (came.Replies replies) low e = first_self p e
answers_self p (came.Wrote bytes end) low e = first_self p e
answers_self p (came.Reply reply) low e = same_post-self p

home_by : (a b out : Bool) → a ≡ false → b ≡ true → (a || (not b && out)) ≡ false
home_by true b out e f = cc
home_by false true out e f = refl
home_by false false out e f = cc

home : (before : History) (p : Post) (o : Came) → 1 ≤ p.stage.0 → NamesSlot p o → is_out (step_of p o ∷ before) p ≡ false
home before p o low e = home_by (puts_out (step_of p o) p) (answers (step_of p o) p) (is_out before p) (step_puts_out p o p) (answers_self p o low e)

others : (p q : Post) (o : Came) → NamesSlot p o → (place_at p == place_at q) ≡ false → (puts_out (step_of p o) q ≡ false) × (answers (step_of p o) q ≡ false)
others p q o e apart = (step_puts_out p o q, either (answers (step_of p o) q) refl)
  where
    either : (b : Bool) → answers (step_of p o) q ≡ b → answers (step_of p o) q ≡ false
    either false h = h
    either true h = clash (place_at p == place_at q) (eq-eqb (place_at p) (place_at q) (ap place_at (sym (answers_only p q o e h)))) apart

pub stage_low : (topology : Topology) (before : History) (p : Post) → IsSound topology → is_legal topology before ≡ true → IsOutNow topology before p → 1 ≤ p.stage.0
stage_low topology before p sound legal out = no_post_of_control topology p.stage p.slot sound (out_has_post topology before p.stage p.slot legal (out_now topology before p out))

pub both_whole : (topology : Topology) (h h' : History) (p : Post) (x : Option BodySeen) (old new : BodySeen) → ((a : BodySeen) → KeepsBody topology h p a old → KeepsBody topology h' p a new) → Both (KeepsBody topology h p) x (Some old) → Both (KeepsBody topology h' p) x (Some new)
both_whole topology h h' p (Some a) old new f k = f a k
both_whole topology h h' p None old new f k = absurd k

answer_keeps_at : (topology : Topology) (before : History) (p : Post) (w : Work) (o : Came) (old new : BodySeen) (opened now after : ℕ → Option BodySeen) → IsSound topology → is_legal topology (step_of p o ∷ before) ≡ true → IsOutNow topology before p → IsWorkOf topology before p w
    → IsBodyAt topology before p old → WasTold before p.stage w old → IsDone w o old new → Both (KeepsBody topology before p) (opened (place_at p)) (Some old) → ((s : ℕ) → after s ≡ (if place_at p == s then Some new else now s))
    → Keeps topology before opened now → Keeps topology (step_of p o ∷ before) opened after
answer_keeps_at topology before p w o old new opened now after sound legal out is fit told done stood moved keeps =
    let names = names_slot topology before p w o old new is done in
    keeps_answered topology before (step_of p o) p new opened now after sound legal out.slot (λ q here apart. others p q o names apart) (λ q. step_restarts p o q.stage)
    (home before p o (stage_low topology before p sound (legal_before topology before (step_of p o) legal) out) names) moved
    (both_whole topology before (step_of p o ∷ before) p (opened (place_at p)) old new (λ a k. answered_body topology before p w o a old new out.live is fit told done k) stood) keeps

answer_ready_at : (topology : Topology) (before : History) (p : Post) (w : Work) (o : Came) (old new : BodySeen) (now after : ℕ → Option BodySeen) → IsSound topology → is_legal topology (step_of p o ∷ before) ≡ true → IsOutNow topology before p → IsWorkOf topology before p w
    → IsBodyAt topology before p old → IsDone w o old new → ((s : ℕ) → after s ≡ (if place_at p == s then Some new else now s))
    → Ready topology before now → Ready topology (step_of p o ∷ before) after
answer_ready_at topology before p w o old new now after sound legal out is fit done moved ready =
    ready_answered topology before (step_of p o) p new now after sound legal out.slot (λ q here apart. others p q o (names_slot topology before p w o old new is done) apart) (λ q. step_restarts p o q.stage) moved
    (answered_fit topology before p w o old new out.live is fit done) ready

pub answer_keeps : (topology : Topology) (before : History) (job : Job) (answer : Answer) (old new : BodySeen) (opened now after : ℕ → Option BodySeen) → IsSound topology → is_legal topology (step_of answer.post answer.outcome ∷ before) ≡ true
    → IsJobOf topology before job → answer.post ≡ job.post → IsBodyAt topology before job.post old → WasTold before job.post.stage job.work old → IsDone job.work answer.outcome old new → Both (KeepsBody topology before job.post) (opened (place_at job.post)) (Some old)
    → ((s : ℕ) → after s ≡ (if place_at job.post == s then Some new else now s)) → Keeps topology before opened now → Keeps topology (step_of answer.post answer.outcome ∷ before) opened after
answer_keeps topology before job answer old new opened now after sound legal is same fit told done stood moved keeps =
    subst (λ p. Keeps topology (step_of p answer.outcome ∷ before) opened after) (sym same)
    (answer_keeps_at topology before job.post job.work answer.outcome old new opened now after sound (subst (λ p. is_legal topology (step_of p answer.outcome ∷ before) ≡ true) same legal) is.out is.work fit told done stood moved keeps)

pub answer_ready : (topology : Topology) (before : History) (job : Job) (answer : Answer) (old new : BodySeen) (now after : ℕ → Option BodySeen) → IsSound topology → is_legal topology (step_of answer.post answer.outcome ∷ before) ≡ true
    → IsJobOf topology before job → answer.post ≡ job.post → IsBodyAt topology before job.post old → IsDone job.work answer.outcome old new
    → ((s : ℕ) → after s ≡ (if place_at job.post == s then Some new else now s)) → Ready topology before now → Ready topology (step_of answer.post answer.outcome ∷ before) after
answer_ready topology before job answer old new now after sound legal is same fit done moved ready =
    subst (λ p. Ready topology (step_of p answer.outcome ∷ before) after) (sym same)
    (answer_ready_at topology before job.post job.work answer.outcome old new now after sound (subst (λ p. is_legal topology (step_of p answer.outcome ∷ before) ≡ true) same legal) is.out is.work fit done moved ready)
