-- The work of a job that is out stays what the journal says of its post.
use Rattle.std.proofs.Common.{◌≡◌, ℕ, ◌+◌, ◌≤◌, List, [], ◌∷◌, Bool, true, false, refl, ap, sym, ◌∙◌, subst, Some, None, Option, arith}
use Rattle.std.specs.Prelude.{◌&&◌, if◌then◌else◌, is_some, option_map}
use Rattle.std.proofs.lemmas.Bool.{ne_eqb}
use Rattle.pipe_types.specs.declared.numbers.Post.{Post}
use Rattle.pipe_types.specs.declared.numbers.StageNo.{StageNo}
use Rattle.pipe_types.specs.declared.message.Batch.{Batch as BatchOut}
use Rattle.pipe_types.specs.declared.step.Step.{Step}
use Rattle.pipe_types.specs.declared.step.Step.TheVariants.{Fetch, Close}
use Rattle.pipe_types.specs.declared.topology.Topology.{Topology}
use Rattle.pipe_types.specs.Numbers.{post, same_stage}
use Rattle.pipe_types.specs.Sound.{IsSound}
use Rattle.pipe_model.specs.History.{History, closed}
use Rattle.pipe_model.specs.Posts.{puts_out, answers, is_out, in_slot}
use Rattle.pipe_model.specs.Batches.{Batch}
use Rattle.pipe_model.specs.Content.{content}
use Rattle.pipe_model.specs.Flow.{place, batch, numbers_in, first_in, view_of, closing}
use Rattle.pipe_model.specs.Legal.{is_legal, fetch_out, has_role, is_processor_role, is_supervisor_role, is_batch_processor_role}
use Rattle.pipe_model.specs.Work.{taken_units, messages_of, chunk_of, batch_of, child_of}
use Rattle.pipe_model.specs.Taken.{Closed, closed_as, IsTaken}
use Rattle.pipe_laws.proofs.Lists.{Each, each_weaker}
use Rattle.pipe_laws.proofs.Settled.{batch_closed}
use Rattle.pipe_laws.proofs.Allowed.{legal_before}
use Rattle.queue_laws.proofs.OneLeg.{numbers_kept}
use Rattle.stage_laws.proofs.Bounds.{batch_least}
use Rattle.stage_bodies.specs.Posts.{IsWorkOf}
use Rattle.stage_bodies.specs.declared.job.Work.{Work}
use Rattle.stage_bodies.specs.declared.job.Work.TheVariants as work
use Rattle.job_laws.proofs.Running.{StillRuns, content_on, messages_same}
use Rattle.job_laws.proofs.Outs.{put_out_once, stays_out}
use Rattle.job_laws.proofs.Batches.{IsPast, batch_past, past_content}
use Rattle.job_laws.proofs.Taken.{taken_same, slot_same, unanswered_chunk, supervisor_chunk, chunk_runs, child_runs, batches_there}

-- ---- fetches

both_out : (b c : Bool) (x y : ℕ) → b ≡ true → c ≡ true → x ≡ y → (if b then x else 0) ≡ (if c then y else 0)
both_out true true x y e f same = same
both_out true false x y e f same = cc
both_out false c x y e f same = cc

left : (b : Bool) (x y : ℕ) → b ≡ false → (if b then x else y) ≡ y
left true x y e = cc
left false x y e = refl

fetch_same : (before : History) (step : Step) (s : StageNo) → puts_out step (post s 0) ≡ false → is_out (step ∷ before) (post s 0) ≡ true → is_out before (post s 0) ≡ true → fetch_out (step ∷ before) s ≡ fetch_out before s
fetch_same before (Fetch t n) s none now was = both_out (is_out (Fetch t n ∷ before) (post s 0)) (is_out before (post s 0)) _ _ now was (left (same_stage s t) _ _ (first (same_stage s t) none))
  where
    first : (b : Bool) → (b && true) ≡ false → b ≡ false
    first true e = e
    first false e = refl
fetch_same before step s none now was = both_out (is_out (step ∷ before) (post s 0)) (is_out before (post s 0)) _ _ now was refl

-- ---- chunks

chunk_same : (topology : Topology) (before : History) (step : Step) (s : StageNo) → IsSound topology → is_legal topology (step ∷ before) ≡ true → has_role topology s is_processor_role ≡ true → is_out before (post s 0) ≡ true → puts_out step (post s 0) ≡ false → answers step (post s 0) ≡ false
    → chunk_of topology (step ∷ before) s ≡ chunk_of topology before s
chunk_same topology before step s sound h role out none unanswered =
    ap (messages_of (step ∷ before)) (taken_same topology before step s none)
    ∙ messages_same (content (step ∷ before)) (content before) (taken_units topology before s)
    (each_weaker (λ n. StillRuns s (place topology before n)) (λ n. content (step ∷ before) n ≡ content before n) (λ n r. content_on topology before step s n sound h (unanswered_chunk step s unanswered) r) (taken_units topology before s)
    (chunk_runs topology before s sound (legal_before topology before step h) role out))

-- ---- batches

none_zero : (topology : Topology) (before : History) → numbers_in (batch topology before 0) ≡ []
none_zero topology before = either (batch topology before 0) refl
  where
    either : (o : Option Batch) → batch topology before 0 ≡ o → numbers_in o ≡ []
    either None e = refl
    either (Some x) e = let low : 1 ≤ 0 = batch_least topology before 0 (ap is_some e) in absurd (omega (arith, low))

numbers_same : (topology : Topology) (before : History) (step : Step) (taken : List ℕ) → Each (λ b. is_some (batch topology before b) ≡ true) taken → numbers_in (batch topology (step ∷ before) (first_in taken)) ≡ numbers_in (batch topology before (first_in taken))
numbers_same topology before step [] there = none_zero topology (step ∷ before) ∙ sym (none_zero topology before)
numbers_same topology before step (b ∷ taken) there = numbers_kept topology before step b there.0

batch_same : (topology : Topology) (before : History) (step : Step) (s : StageNo) → IsSound topology → is_legal topology (step ∷ before) ≡ true → has_role topology s is_batch_processor_role ≡ true → puts_out step (post s 0) ≡ false → batch_of topology (step ∷ before) s ≡ batch_of topology before s
batch_same topology before step s sound h role none =
    ap (λ taken. messages_of (step ∷ before) (numbers_in (batch topology (step ∷ before) (first_in taken)))) (taken_same topology before step s none)
    ∙ ap (messages_of (step ∷ before)) (numbers_same topology before step (taken_units topology before s) (batches_there topology before s sound (legal_before topology before step h) role))
    ∙ messages_same (content (step ∷ before)) (content before) (numbers_in (batch topology before (first_in (taken_units topology before s))))
    (each_weaker (IsPast topology before) (λ n. content (step ∷ before) n ≡ content before n) (λ n far. past_content topology before step n sound h far) (numbers_in (batch topology before (first_in (taken_units topology before s))))
    (batch_past topology before (first_in (taken_units topology before s)) (legal_before topology before step h)))

-- the first of the units that were taken was closed, and is 0 where nothing was taken
first_closed : (topology : Topology) (before : History) (taken : List ℕ) → Each (λ b. is_some (batch topology before b) ≡ true) taken → first_in taken ≤ closed before
first_closed topology before [] there = omega arith
first_closed topology before (b ∷ taken) there = batch_closed topology before b there.0

-- a number is given to one batch
closed_same : (topology : Topology) (before : History) (step : Step) (b : ℕ) → b ≤ closed before → closed_as topology (step ∷ before) b ≡ closed_as topology before b
closed_same topology before (Close t first trigger) b low =
    ap (λ x. if x then Some (record { numbers = closing before (view_of topology before) t first.0; trigger = trigger }) else closed_as topology before b)
    (ne_eqb b (closed before + 1) (λ e. omega (arith, low, e)))
closed_same topology before step b low = refl

-- the batch that was taken keeps its number, its key, why it was closed, and its messages
taken_stays : (topology : Topology) (before : History) (step : Step) (s : StageNo) (out : BatchOut) → IsSound topology → is_legal topology (step ∷ before) ≡ true → has_role topology s is_batch_processor_role ≡ true → puts_out step (post s 0) ≡ false → IsTaken topology before s out
    → IsTaken topology (step ∷ before) s out
taken_stays topology before step s out sound h role none is =
    let same : taken_units topology (step ∷ before) s ≡ taken_units topology before s = taken_same topology before step s none in
    let low : first_in (taken_units topology before s) ≤ closed before = first_closed topology before (taken_units topology before s) (batches_there topology before s sound (legal_before topology before step h) role) in
    let trigger : option_map (λ c. c.trigger) (closed_as topology (step ∷ before) (first_in (taken_units topology (step ∷ before) s))) ≡ Some out.trigger =
    ap (λ (taken : List ℕ). option_map (λ c. c.trigger) (closed_as topology (step ∷ before) (first_in taken))) same
    ∙ (ap (λ (o : Option Closed). option_map (λ c. c.trigger) o) (closed_same topology before step (first_in (taken_units topology before s)) low) ∙ is.batch.trigger) in
    let messages : out.messages ≡ batch_of topology (step ∷ before) s = is.messages ∙ sym (batch_same topology before step s sound h role none) in
    record {
      batch = record { no = is.batch.no ∙ sym (ap first_in same); key = is.batch.key; trigger = trigger; messages = messages };
      messages = messages;
    }

-- ---- children

child_same : (topology : Topology) (before : History) (step : Step) (s : StageNo) (slot : ℕ) → IsSound topology → is_legal topology (step ∷ before) ≡ true → has_role topology s is_supervisor_role ≡ true → is_out before (post s slot) ≡ true → puts_out step (post s slot) ≡ false
    → child_of (step ∷ before) s slot ≡ child_of before s slot
child_same topology before step s slot sound h role out none = by_slot (in_slot before s slot) refl
  where
    by_slot : (o : Option ℕ) → in_slot before s slot ≡ o → child_of (step ∷ before) s slot ≡ child_of before s slot
    by_slot None e = child_none (step ∷ before) (slot_same before step s slot none ∙ e) ∙ sym (child_none before e)
      where
        child_none : (h : History) → in_slot h s slot ≡ None → child_of h s slot ≡ []
        child_none h e = rw e refl
    by_slot (Some n) e =
        child_some (step ∷ before) (slot_same before step s slot none ∙ e)
        ∙ messages_same (content (step ∷ before)) (content before) (n ∷ []) (content_on topology before step s n sound h (supervisor_chunk topology before step s h role) (child_runs topology before s slot n (legal_before topology before step h) role out e), tt)
        ∙ sym (child_some before e)
      where
        child_some : (h : History) → in_slot h s slot ≡ Some n → child_of h s slot ≡ messages_of h (n ∷ [])
        child_some h e = rw e refl

-- ---- all work

pub work_stays : (topology : Topology) (before : History) (step : Step) (p : Post) (w : Work) → IsSound topology → is_legal topology (step ∷ before) ≡ true → is_out before p ≡ true → answers step p ≡ false → IsWorkOf topology before p w → IsWorkOf topology (step ∷ before) p w
work_stays topology before step p w sound h out unanswered is = by_work w is
  where
    none : puts_out step p ≡ false
    none = put_out_once topology before step p h out

    first_none : p.slot ≡ 0 → puts_out step (post p.stage 0) ≡ false
    first_none first = subst (λ n. puts_out step (post p.stage n) ≡ false) first none

    first_unanswered : p.slot ≡ 0 → answers step (post p.stage 0) ≡ false
    first_unanswered first = subst (λ n. answers step (post p.stage n) ≡ false) first unanswered

    first_out : p.slot ≡ 0 → is_out before (post p.stage 0) ≡ true
    first_out first = subst (λ n. is_out before (post p.stage n) ≡ true) first out

    by_work : (w : Work) → IsWorkOf topology before p w → IsWorkOf topology (step ∷ before) p w
    by_work (work.Fetch most) is =
        (is.0, is.1 ∙ sym (fetch_same before step p.stage (first_none is.3) (stays_out before step (post p.stage 0) (first_unanswered is.3) (first_out is.3)) (first_out is.3)), is.2, is.3)
    by_work (work.Chunk messages) is = (is.0, is.1 ∙ sym (chunk_same topology before step p.stage sound h is.0 (first_out is.2) (first_none is.2) (first_unanswered is.2)), is.2)
    by_work (work.Batch batch) is = (is.0, taken_stays topology before step p.stage batch sound h is.0 (first_none is.2) is.1, is.2)
    by_work (work.Child message) is = (is.0, is.1 ∙ sym (child_same topology before step p.stage p.slot sound h is.0 out none))
