-- What a stage took stays what it works on while its post is out.
use Rattle.std.proofs.Common.{◌≡◌, ℕ, [], ◌∷◌, map, Bool, true, false, refl, ap, sym, ◌∙◌, subst, inl, Some, None, Option}
use Rattle.std.specs.Prelude.{not, ◌&&◌, ◌||◌, ◌==◌, if◌then◌else◌, is_some}
use Rattle.std.proofs.lemmas.Bool.{eqb-true, eq-eqb, false_from_ne_true}
use Rattle.pipe_types.specs.declared.numbers.StageNo.{StageNo}
use Rattle.pipe_types.specs.declared.numbers.SubNo.{SubNo}
use Rattle.pipe_types.specs.declared.step.Step.{Step}
use Rattle.pipe_types.specs.declared.step.Step.TheVariants.{Fetch, Take, Done, Child}
use Rattle.pipe_types.specs.declared.topology.Role.{Role}
use Rattle.pipe_types.specs.declared.topology.Role.TheVariants.{BatchProcessor}
use Rattle.pipe_types.specs.declared.topology.Topology.{Topology}
use Rattle.pipe_types.specs.Numbers.{post, same_stage}
use Rattle.pipe_types.specs.Sound.{IsSound}
use Rattle.pipe_model.specs.History.{History}
use Rattle.pipe_model.specs.Lives.{is_live}
use Rattle.pipe_model.specs.Posts.{puts_out, answers, is_out, in_slot}
use Rattle.pipe_model.specs.Batches.{Batch}
use Rattle.pipe_model.specs.Flow.{place, batch, sent_to, runs_in}
use Rattle.pipe_model.specs.Legal.{is_legal, has_role, is_producer_role, is_processor_role, is_supervisor_role, is_batch_processor_role}
use Rattle.pipe_model.specs.Standing.{running, at_work, leg_works_in}
use Rattle.pipe_model.specs.Work.{taken_units}
use Rattle.pipe_laws.proofs.Tests.{and_left, and_right, not_true, same_stage-true}
use Rattle.pipe_laws.proofs.Lists.{Each, each_weaker, each_always, each_filter, each_map}
use Rattle.pipe_laws.proofs.Allowed.{legal_before, legal_step, unowed, take_facts, child_facts, fetch_role, done_facts}
use Rattle.pipe_laws.proofs.Busy.{two_roles}
use Rattle.pipe_laws.proofs.Roles.{processor_producer, processor_supervisor, supervisor_writes}
use Rattle.pipe_laws.proofs.Kept.{runs_here}
use Rattle.pipe_laws.proofs.Slots.{slot_runs}
use Rattle.queue_laws.proofs.Distinct.{batch_stays}
use Rattle.queue_laws.proofs.Laws.{chunk_law, work_law}
use Rattle.job_laws.proofs.Outs.{put_current}
use Rattle.job_laws.proofs.Running.{StillRuns, ends_chunk, run_on}

-- ---- roles

writer_fetches : (r : Role) → is_batch_processor_role r ≡ true → is_producer_role r ≡ true → ⊥
writer_fetches BatchProcessor h k = let x : false ≡ true = k in cc
writer_fetches _ h k = let x : false ≡ true = h in cc

writer_starts : (r : Role) → is_batch_processor_role r ≡ true → is_supervisor_role r ≡ true → ⊥
writer_starts r h k = supervisor_writes r k h

-- ---- what was taken

pub taken_same : (topology : Topology) (before : History) (step : Step) (s : StageNo) → puts_out step (post s 0) ≡ false → taken_units topology (step ∷ before) s ≡ taken_units topology before s
taken_same topology before (Take t u k) s e = rw (and_first (same_stage s t) e) refl
  where
    and_first : (b : Bool) → (b && true) ≡ false → b ≡ false
    and_first true e = e
    and_first false e = refl
taken_same topology before _ s e = refl

pub slot_same : (before : History) (step : Step) (s : StageNo) (slot : ℕ) → puts_out step (post s slot) ≡ false → in_slot (step ∷ before) s slot ≡ in_slot before s slot
slot_same before (Child t m k) s slot e = ap (λ b. if b then Some m.0 else in_slot before s slot) (ap (λ b. same_stage s t && b) (flip (k == slot) (slot == k) (λ h. eq-eqb slot k (sym (eqb-true k slot h))) (λ h. eq-eqb k slot (sym (eqb-true slot k h)))) ∙ e)
  where
    flip : (a b : Bool) → (a ≡ true → b ≡ true) → (b ≡ true → a ≡ true) → a ≡ b
    flip true b f g = sym (f refl)
    flip false true f g = g refl
    flip false false f g = refl
slot_same before _ s slot e = refl

-- ---- messages at work

-- a step that does not answer the post answers no chunk of its stage
pub unanswered_chunk : (step : Step) (s : StageNo) → answers step (post s 0) ≡ false → ends_chunk step s ≡ false
unanswered_chunk (Done t replies) s e = and_first (same_stage s t) e
  where
    and_first : (b : Bool) → (b && true) ≡ false → b ≡ false
    and_first true e = e
    and_first false e = refl
unanswered_chunk _ s e = refl

put_live : (topology : Topology) (before : History) (step : Step) (s : StageNo) (slot : ℕ) → is_legal topology (step ∷ before) ≡ true → puts_out step (post s slot) ≡ true → is_live topology (step ∷ before) s ≡ true
put_live topology before (Fetch t n) s slot h e =
    ap (is_live topology before) (same_stage-true s t (and_left (same_stage s t) _ e)) ∙ and_left (is_live topology before t) _ (unowed topology before (Fetch t n) (λ u. refl) (λ u. refl) (legal_step topology before (Fetch t n) h))
put_live topology before (Take t u k) s slot h e =
    ap (is_live topology before) (same_stage-true s t (and_left (same_stage s t) _ e)) ∙ (take_facts topology before t u k (legal_step topology before (Take t u k) h)).live
put_live topology before (Child t m k) s slot h e =
    ap (is_live topology before) (same_stage-true s t (and_left (same_stage s t) _ e)) ∙ (child_facts topology before t m k (legal_step topology before (Child t m k) h)).live
put_live topology before step s slot h e = cc

-- a step that takes
abbrev pub IsTake : Step → Type 0
IsTake (Take s u k) = Unit {0}
IsTake _ = ⊥

-- a stage that neither fetches nor starts children goes out by a take
put_takes : (topology : Topology) (before : History) (step : Step) (s : StageNo) (one : Role → Bool) → ((r : Role) → one r ≡ true → is_producer_role r ≡ true → ⊥) → ((r : Role) → one r ≡ true → is_supervisor_role r ≡ true → ⊥)
    → is_legal topology (step ∷ before) ≡ true → has_role topology s one ≡ true → puts_out step (post s 0) ≡ true → IsTake step
put_takes topology before (Fetch t n) s one fetches starts h role e =
    two_roles topology s one is_producer_role fetches role (ap (λ x. has_role topology x is_producer_role) (same_stage-true s t (and_left (same_stage s t) _ e)) ∙ fetch_role topology before t n (legal_step topology before (Fetch t n) h))
put_takes topology before (Take t u k) s one fetches starts h role e = tt
put_takes topology before (Child t m k) s one fetches starts h role e =
    two_roles topology s one is_supervisor_role starts role (ap (λ x. has_role topology x is_supervisor_role) (same_stage-true s t (and_left (same_stage s t) _ e)) ∙ (child_facts topology before t m k (legal_step topology before (Child t m k) h)).role)
put_takes topology before step s one fetches starts h role e = cc

now_taken : (topology : Topology) (before : History) (step : Step) (s : StageNo) → IsSound topology → is_legal topology (step ∷ before) ≡ true → has_role topology s is_processor_role ≡ true → puts_out step (post s 0) ≡ true → IsTake step → running topology (step ∷ before) s ≡ taken_units topology (step ∷ before) s
now_taken topology before (Take t u k) s sound h role e take =
    chunk_law topology (Take t u k ∷ before) s sound h refl role (put_live topology before (Take t u k) s 0 h e)
    ∙ ap (λ b. if b then taken_units topology (Take t u k ∷ before) s else []) (put_current before (Take t u k) s 0 e)
now_taken topology before step s sound h role e take = absurd take

-- each message that a processor took runs in it while its post is out, or is settled for good
pub chunk_runs : (topology : Topology) (before : History) (s : StageNo) → IsSound topology → is_legal topology before ≡ true → has_role topology s is_processor_role ≡ true → is_out before (post s 0) ≡ true
    → Each (λ n. StillRuns s (place topology before n)) (taken_units topology before s)
chunk_runs topology [] s sound h role out = cc
chunk_runs topology (step ∷ before) s sound h role out = either (puts_out step (post s 0)) refl out (chunk_runs topology before s sound (legal_before topology before step h) role)
  where
    here : puts_out step (post s 0) ≡ true → Each (λ n. StillRuns s (place topology (step ∷ before) n)) (taken_units topology (step ∷ before) s)
    here e =
        subst (Each (λ n. StillRuns s (place topology (step ∷ before) n))) (now_taken topology before step s sound h role e (put_takes topology before step s is_processor_role processor_producer processor_supervisor h role e))
        (each_weaker (λ n. Unit {0} × (runs_in s (place topology (step ∷ before) n) ≡ true)) (λ n. StillRuns s (place topology (step ∷ before) n)) (λ n r. inl (runs_here s (place topology (step ∷ before) n) r.1)) (running topology (step ∷ before) s)
        (each_filter (λ n. Unit {0}) (λ n. runs_in s (place topology (step ∷ before) n)) (map (λ d. d.1) (sent_to topology (step ∷ before) s)) (each_always (λ n. Unit {0}) (λ n. tt) (map (λ d. d.1) (sent_to topology (step ∷ before) s)))))

    either : (b : Bool) → puts_out step (post s 0) ≡ b → (b || (not (answers step (post s 0)) && is_out before (post s 0))) ≡ true → (is_out before (post s 0) ≡ true → Each (λ n. StillRuns s (place topology before n)) (taken_units topology before s))
        → Each (λ n. StillRuns s (place topology (step ∷ before) n)) (taken_units topology (step ∷ before) s)
    either true e out earlier = here e
    either false e out earlier =
        let none = unanswered_chunk step s (not_true (answers step (post s 0)) (and_left (not (answers step (post s 0))) _ out)) in
        subst (Each (λ n. StillRuns s (place topology (step ∷ before) n))) (sym (taken_same topology before step s e))
        (each_weaker (λ n. StillRuns s (place topology before n)) (λ n. StillRuns s (place topology (step ∷ before) n)) (λ n r. run_on topology before step s n none r) (taken_units topology before s)
        (earlier (and_right (not (answers step (post s 0))) _ out)))

-- ---- children

pub supervisor_chunk : (topology : Topology) (before : History) (step : Step) (s : StageNo) → is_legal topology (step ∷ before) ≡ true → has_role topology s is_supervisor_role ≡ true → ends_chunk step s ≡ false
supervisor_chunk topology before (Done t replies) s h role =
    false_from_ne_true (same_stage s t)
    (λ e. two_roles topology s is_processor_role is_supervisor_role processor_supervisor (ap (λ x. has_role topology x is_processor_role) (same_stage-true s t e) ∙ (done_facts topology before t replies (legal_step topology before (Done t replies) h)).role) role)
supervisor_chunk topology before _ s h role = refl

-- the message of a child runs in the supervisor while the child is out, or is settled for good
pub child_runs : (topology : Topology) (before : History) (s : StageNo) (slot n : ℕ) → is_legal topology before ≡ true → has_role topology s is_supervisor_role ≡ true → is_out before (post s slot) ≡ true → in_slot before s slot ≡ Some n
    → StillRuns s (place topology before n)
child_runs topology [] s slot n h role out e = cc
child_runs topology (step ∷ before) s slot n h role out own = either (puts_out step (post s slot)) refl out (child_runs topology before s slot n (legal_before topology before step h) role)
  where
    either : (b : Bool) → puts_out step (post s slot) ≡ b → (b || (not (answers step (post s slot)) && is_out before (post s slot))) ≡ true → (is_out before (post s slot) ≡ true → in_slot before s slot ≡ Some n → StillRuns s (place topology before n)) → StillRuns s (place topology (step ∷ before) n)
    either true e out earlier = inl (slot_runs topology (step ∷ before) s slot n h role (put_live topology before step s slot h e) (put_current before step s slot e) own)
    either false e out earlier =
        run_on topology before step s n (supervisor_chunk topology before step s h role)
        (earlier (and_right (not (answers step (post s slot))) _ out) (sym (slot_same before step s slot e) ∙ own))

-- ---- batches at work

now_at_work : (topology : Topology) (before : History) (step : Step) (s : StageNo) → IsSound topology → is_legal topology (step ∷ before) ≡ true → has_role topology s is_batch_processor_role ≡ true → puts_out step (post s 0) ≡ true → IsTake step
    → map (λ d. d.1) (at_work topology (step ∷ before) s) ≡ taken_units topology (step ∷ before) s
now_at_work topology before (Take t u k) s sound h role e take =
    work_law topology (Take t u k ∷ before) s sound h refl role (put_live topology before (Take t u k) s 0 h e)
    ∙ ap (λ b. if b then taken_units topology (Take t u k ∷ before) s else []) (put_current before (Take t u k) s 0 e)
now_at_work topology before step s sound h role e take = absurd take

works_there : (u : SubNo) (o : Option Batch) → leg_works_in u o ≡ true → is_some o ≡ true
works_there u (Some x) h = refl
works_there u None h = h

-- each batch that a batch processor took is there
pub batches_there : (topology : Topology) (before : History) (s : StageNo) → IsSound topology → is_legal topology before ≡ true → has_role topology s is_batch_processor_role ≡ true → Each (λ b. is_some (batch topology before b) ≡ true) (taken_units topology before s)
batches_there topology [] s sound h role = tt
batches_there topology (step ∷ before) s sound h role = either (puts_out step (post s 0)) refl (batches_there topology before s sound (legal_before topology before step h) role)
  where
    here : puts_out step (post s 0) ≡ true → Each (λ b. is_some (batch topology (step ∷ before) b) ≡ true) (taken_units topology (step ∷ before) s)
    here e =
        subst (Each (λ b. is_some (batch topology (step ∷ before) b) ≡ true)) (now_at_work topology before step s sound h role e (put_takes topology before step s is_batch_processor_role writer_fetches writer_starts h role e))
        (each_map (λ b. is_some (batch topology (step ∷ before) b) ≡ true) (λ (d : SubNo × ℕ). d.1) (at_work topology (step ∷ before) s)
        (each_weaker (λ (d : SubNo × ℕ). Unit {0} × (leg_works_in d.0 (batch topology (step ∷ before) d.1) ≡ true)) (λ d. is_some (batch topology (step ∷ before) d.1) ≡ true) (λ d w. works_there d.0 (batch topology (step ∷ before) d.1) w.1) (at_work topology (step ∷ before) s)
        (each_filter (λ (d : SubNo × ℕ). Unit {0}) (λ d. leg_works_in d.0 (batch topology (step ∷ before) d.1)) (sent_to topology (step ∷ before) s) (each_always (λ (d : SubNo × ℕ). Unit {0}) (λ d. tt) (sent_to topology (step ∷ before) s)))))

    either : (b : Bool) → puts_out step (post s 0) ≡ b → Each (λ b. is_some (batch topology before b) ≡ true) (taken_units topology before s) → Each (λ b. is_some (batch topology (step ∷ before) b) ≡ true) (taken_units topology (step ∷ before) s)
    either true e earlier = here e
    either false e earlier =
        subst (Each (λ b. is_some (batch topology (step ∷ before) b) ≡ true)) (sym (taken_same topology before step s e))
        (each_weaker (λ b. is_some (batch topology before b) ≡ true) (λ b. is_some (batch topology (step ∷ before) b) ≡ true) (λ b k. batch_stays topology before step b k) (taken_units topology before s) earlier)
