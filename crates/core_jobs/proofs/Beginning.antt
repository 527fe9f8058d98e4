-- What a stage may begin, and the job that is out then.
use Rattle.std.proofs.Common.{◌≡◌, ◌≤◌, ◌<◌, ℕ, zero, suc, List, [], ◌∷◌, length, drop, Bool, true, false, refl, ap, sym, ◌∙◌, subst, Some, None, Option, arith}
use Rattle.std.specs.Prelude.{if◌then◌else◌, not, ◌==◌, ◌&&◌, ◌||◌, nat_lt, nat_le}
use Rattle.std.specs.List.{list_any}
use Rattle.std.proofs.lemmas.Bool.{eq-eqb, leb-true, or_right}
use Rattle.pipe_types.specs.declared.numbers.StageNo.{StageNo}
use Rattle.pipe_types.specs.declared.numbers.SubNo.{SubNo}
use Rattle.pipe_types.specs.declared.numbers.MsgNo.{MsgNo}
use Rattle.pipe_types.specs.declared.numbers.Post.{Post}
use Rattle.pipe_types.specs.declared.message.Message.{Message}
use Rattle.pipe_types.specs.declared.topology.Topology.{Topology}
use Rattle.pipe_types.specs.declared.topology.StageSpec.{StageSpec}
use Rattle.pipe_types.specs.declared.topology.Role.{Role}
use Rattle.pipe_types.specs.declared.topology.Role.TheVariants.{Producer, Processor, Supervisor, Batcher, BatchProcessor}
use Rattle.pipe_types.specs.declared.step.Step.{Step}
use Rattle.pipe_types.specs.declared.step.Step.TheVariants.{Fetch, Take, Child}
use Rattle.pipe_types.specs.Numbers.{post, same_stage, same_post, message_no}
use Rattle.pipe_types.specs.Stages.{spec_of}
use Rattle.pipe_types.specs.Sound.{IsSound}
use Rattle.pipe_model.specs.History.{History, incarnation, accepted_bytes}
use Rattle.pipe_model.specs.Posts.{is_out, out_from, in_slot, slots}
use Rattle.pipe_model.specs.Lives.{is_live}
use Rattle.pipe_model.specs.Content.{content}
use Rattle.pipe_model.specs.Flow.{inbox, units_on}
use Rattle.pipe_model.specs.Jobs.{take_first, allows_some, may_take_next, take_step}
use Rattle.pipe_model.specs.Work.{child_of, messages_of}
use Rattle.pipe_model.specs.Legal.{allows, is_legal, happened, is_drain, has_role, is_producer_role, is_processor_role, is_supervisor_role, is_batch_processor_role, takes_role, bound, first_sub, first_unit, chunk_size, fetch_out, has_ended, rests, runs_number}
use Rattle.pipe_model.specs.Moves.{next_in_slot}
use Rattle.move_laws.specs.NextMoves.{MayBegin, fetches, takes, starts}
use Rattle.pipe_laws.proofs.Tests.{and_left, and_right, both, clash, same_stage-self, same_sub-true}
use Rattle.pipe_laws.proofs.Allowed.{unowed, legal_step, take_facts, child_facts, fetch_role, not_halted}
use Rattle.pipe_laws.proofs.Busy.{two_roles, producer_takes, producer_supervises}
use Rattle.pipe_laws.proofs.Slots.{number_is, supervisor_takes}
use Rattle.core_laws.proofs.Past.{slot_low}
use Rattle.core_rows.proofs.Finding.{slot_out}
use Rattle.core_takes.specs.declared.takes.Chunk.{Chunk}
use Rattle.core_takes.specs.declared.takes.Chunk.TheVariants as chunk
use Rattle.core_takes.specs.Takes.{IsChunk}
use Rattle.core_children.specs.Starts.{may_start_child}
use Rattle.stage_bodies.specs.declared.job.Job.{Job}
use Rattle.stage_bodies.specs.declared.job.Work.{Work}
use Rattle.stage_bodies.specs.declared.job.Work.TheVariants as work
use Rattle.stage_bodies.specs.Posts.{IsWorkOf, IsOutNow, IsJobOf}
use Rattle.core_jobs.specs.Begun.{IsBegun, fetched, taken, started, work_on}

-- ---- roles

takes_messages : (role : Role) → takes_role role ≡ true → is_batch_processor_role role ≡ false → is_processor_role role ≡ true
takes_messages Producer h k = h
takes_messages Processor h k = refl
takes_messages Supervisor h k = h
takes_messages Batcher h k = h
takes_messages BatchProcessor h k = sym k

-- a stage that takes and is no batch processor is a processor
processes : (topology : Topology) (s : StageNo) → has_role topology s takes_role ≡ true → has_role topology s is_batch_processor_role ≡ false → has_role topology s is_processor_role ≡ true
processes topology s h k = by (spec_of topology s) refl
  where
    by : (o : Option StageSpec) → spec_of topology s ≡ o → has_role topology s is_processor_role ≡ true
    by None e = let x : has_role topology s takes_role ≡ false = rw e refl in clash (has_role topology s takes_role) h x
    by (Some spec) e =
        let x : has_role topology s takes_role ≡ takes_role spec.role = rw e refl in
        let y : has_role topology s is_batch_processor_role ≡ is_batch_processor_role spec.role = rw e refl in
        let z : has_role topology s is_processor_role ≡ is_processor_role spec.role = rw e refl in
        z ∙ takes_messages spec.role (sym x ∙ h) (sym y ∙ k)

-- ---- what may begin

-- what a producer may begin is its fetch
pub begins_fetch : (topology : Topology) (before : History) (s : StageNo) → has_role topology s is_producer_role ≡ true → MayBegin topology before s → allows topology before (Fetch s (bound topology before s)) ≡ true
begins_fetch topology before s role (fetches h) = h
begins_fetch topology before s role (takes u k h) = absurd (two_roles topology s is_producer_role takes_role producer_takes role (take_facts topology before s u k h).role)
begins_fetch topology before s role (starts slot h) =
    absurd (two_roles topology s is_producer_role is_supervisor_role producer_supervises role (child_facts topology before s (message_no (next_in_slot topology before s slot)) slot h).role)

-- a take that is allowed is that of what stands first
next_take : (topology : Topology) (before : History) (s : StageNo) (o : Option StageSpec) (units : List (SubNo × ℕ)) (u : SubNo) (k : ℕ) → first_sub units u ≡ true → k ≡ chunk_size o (length (units_on u units)) → allows topology before (Take s u k) ≡ true → allows_some topology before (take_first o s units) ≡ true
next_take topology before s o [] u k first size h = first
next_take topology before s o (d ∷ units) u k first size h =
    let same : d.0 ≡ u = same_sub-true d.0 u first in
    subst (λ (v : SubNo). allows topology before (Take s v (chunk_size o (length (units_on v (d ∷ units))))) ≡ true) (sym same)
    (subst (λ (n : ℕ). allows topology before (Take s u n) ≡ true) size h)

-- what a stage may begin that is neither a producer nor a supervisor is the take of what stands first
pub begins_take : (topology : Topology) (before : History) (s : StageNo) → has_role topology s is_producer_role ≡ false → has_role topology s is_supervisor_role ≡ false → MayBegin topology before s → may_take_next topology before s ≡ true
begins_take topology before s p v (fetches h) = clash (has_role topology s is_producer_role) (fetch_role topology before s (bound topology before s) h) p
begins_take topology before s p v (takes u k h) =
    let f = take_facts topology before s u k h in
    next_take topology before s (spec_of topology s) (inbox topology before s) u k f.first f.size h
begins_take topology before s p v (starts slot h) =
    clash (has_role topology s is_supervisor_role) (child_facts topology before s (message_no (next_in_slot topology before s slot)) slot h).role v

any_drop : (test : ℕ → Bool) (k : ℕ) (xs : List ℕ) → list_any test (drop k xs) ≡ true → list_any test xs ≡ true
any_drop test zero xs h = h
any_drop test (suc k) [] h = h
any_drop test (suc k) (x ∷ xs) h = or_right (test x) (list_any test xs) (any_drop test k xs h)

same_here : (s : StageNo) (slot : ℕ) → same_post (post s slot) (post s slot) ≡ true
same_here s slot = both (same_stage s s) (slot == slot) (same_stage-self s) (eq-eqb slot slot refl)

picked : {A : Type 0} (b : Bool) (x y : A) → b ≡ true → (if b then x else y) ≡ x
picked true x y h = refl
picked false x y h = cc

-- the message that was started stands in its slot
in_here : (before : History) (s : StageNo) (m : MsgNo) (slot : ℕ) → in_slot (Child s m slot ∷ before) s slot ≡ Some m.0
in_here before s m slot = picked {A = Option ℕ} (same_stage s s && slot == slot) (Some m.0) (in_slot before s slot) (same_here s slot)

-- a child starts in a slot below 16
start_low : (topology : Topology) (before : History) (s : StageNo) (m : MsgNo) (slot : ℕ) → IsSound topology → is_legal topology before ≡ true → allows topology before (Child s m slot) ≡ true → slot < 16
start_low topology before s m slot sound legal h =
    slot_low topology (Child s m slot ∷ before) s slot m.0 sound (both (is_legal topology before) (allows topology before (Child s m slot)) legal h) (in_here before s m slot)

-- what a supervisor may begin is a child
pub begins_child : (topology : Topology) (before : History) (s : StageNo) → IsSound topology → is_legal topology before ≡ true → has_role topology s is_supervisor_role ≡ true → MayBegin topology before s → may_start_child topology before s ≡ true
begins_child topology before s sound legal role (fetches h) =
    absurd (two_roles topology s is_producer_role is_supervisor_role producer_supervises (fetch_role topology before s (bound topology before s) h) role)
begins_child topology before s sound legal role (takes u k h) = absurd (two_roles topology s is_supervisor_role takes_role supervisor_takes role (take_facts topology before s u k h).role)
begins_child topology before s sound legal role (starts slot h) =
    let test : ℕ → Bool = λ k. allows topology before (Child s (message_no (next_in_slot topology before s k)) k) in
    any_drop test slot slots (slot_out test slot (start_low topology before s (message_no (next_in_slot topology before s slot)) slot sound legal h) h)

-- ---- the post that is out

now_out : (b x : Bool) (i j : ℕ) → b ≡ true → ((b || x) && ((if b then i else j) == i)) ≡ true
now_out true x i j e = eq-eqb i i refl
now_out false x i j e = cc

out_fetch : (topology : Topology) (before : History) (s : StageNo) (n : ℕ) → allows topology before (Fetch s n) ≡ true → IsOutNow topology (Fetch s n ∷ before) (post s 0)
out_fetch topology before s n h = record {
  going = not_halted topology before (Fetch s n) refl h;
  live = and_left (is_live topology before s) _ (unowed topology before (Fetch s n) (λ t. refl) (λ t. refl) h);
  current = now_out (same_post (post s 0) (post s 0)) (is_out before (post s 0)) (incarnation before s) (out_from before (post s 0)) (same_here s 0);
  slot = omega arith;
}

out_take : (topology : Topology) (before : History) (s : StageNo) (u : SubNo) (k : ℕ) → allows topology before (Take s u k) ≡ true → IsOutNow topology (Take s u k ∷ before) (post s 0)
out_take topology before s u k h = record {
  going = not_halted topology before (Take s u k) refl h;
  live = (take_facts topology before s u k h).live;
  current = now_out (same_post (post s 0) (post s 0)) (is_out before (post s 0)) (incarnation before s) (out_from before (post s 0)) (same_here s 0);
  slot = omega arith;
}

out_child : (topology : Topology) (before : History) (s : StageNo) (m : MsgNo) (slot : ℕ) → IsSound topology → is_legal topology before ≡ true → allows topology before (Child s m slot) ≡ true → IsOutNow topology (Child s m slot ∷ before) (post s slot)
out_child topology before s m slot sound legal h = record {
  going = not_halted topology before (Child s m slot) refl h;
  live = (child_facts topology before s m slot h).live;
  current = now_out (same_post (post s slot) (post s slot)) (is_out before (post s slot)) (incarnation before s) (out_from before (post s slot)) (same_here s slot);
  slot = start_low topology before s m slot sound legal h;
}

-- ---- the work

-- a fetch that is allowed is of one record at least
fetch_some : (topology : Topology) (before : History) (s : StageNo) (n : ℕ) → allows topology before (Fetch s n) ≡ true → 1 ≤ n
fetch_some topology before s n h =
    let all = unowed topology before (Fetch s n) (λ t. refl) (λ t. refl) h in
    let one = and_right (is_live topology before s) _ all in
    let two = and_right (has_role topology s is_producer_role) _ one in
    let three = and_right (not (has_ended before s)) _ two in
    let four = and_right (not (is_out before (post s 0))) _ three in
    let five = and_right (not (rests before s)) _ four in
    let six = and_right (not (happened is_drain before)) _ five in
    let seven = and_right (nat_lt (accepted_bytes before) topology.byte_limit) _ six in
    leb-true 1 n (and_left (nat_le 1 n) _ seven)

-- it may bring as many records as it says
out_bound : (before : History) (s : StageNo) (n : ℕ) → fetch_out (Fetch s n ∷ before) s ≡ n
out_bound before s n = rw (same_stage-self s) refl

work_fetch : (topology : Topology) (before : History) (s : StageNo) (n : ℕ) → allows topology before (Fetch s n) ≡ true → IsWorkOf topology (Fetch s n ∷ before) (post s 0) (work.Fetch n)
work_fetch topology before s n h =
    (fetch_role topology before s n h, sym (out_bound before s n), fetch_some topology before s n h, refl)

work_take : (topology : Topology) (before : History) (s : StageNo) (u : SubNo) (k : ℕ) (c : Chunk) → allows topology before (Take s u k) ≡ true → IsChunk topology (Take s u k ∷ before) s c → IsWorkOf topology (Take s u k ∷ before) (post s 0) (work_on c)
work_take topology before s u k (chunk.Messages messages) h is =
    (processes topology s (take_facts topology before s u k h).role is.0, is.1, refl)
work_take topology before s u k (chunk.Batch batch) h is = (is.0, is.1, refl)

child_is : (before : History) (s : StageNo) (slot n : ℕ) → in_slot before s slot ≡ Some n → child_of before s slot ≡ messages_of before (n ∷ [])
child_is before s slot n e = rw e refl

one_message : (before : History) (n : ℕ) (m : Message) → content before n ≡ Some m → messages_of before (n ∷ []) ≡ m ∷ []
one_message before n m e = rw e refl

work_child : (topology : Topology) (before : History) (s : StageNo) (message : Message) (slot : ℕ) → allows topology before (Child s message.no slot) ≡ true → content before message.no.0 ≡ Some message
    → IsWorkOf topology (Child s message.no slot ∷ before) (post s slot) (work.Child message)
work_child topology before s message slot h is =
    ((child_facts topology before s message.no slot h).role, sym (child_is (Child s message.no slot ∷ before) s slot message.no.0 (in_here before s message.no slot) ∙ one_message (Child s message.no slot ∷ before) message.no.0 message is))

-- ---- jobs

-- the same, with the topology and the journal named otherwise
pub as_job : (topology other : Topology) (before after : History) (job : Job) → other ≡ topology → after ≡ before → IsJobOf topology before job → IsJobOf other after job
as_job topology other before after job t b is =
    subst (λ (h : History). IsJobOf other h job) (sym b) (subst (λ (k : Topology). IsJobOf k before job) (sym t) is)

pub fetch_job : (topology : Topology) (before : History) (s : StageNo) (n from : ℕ) → from ≡ incarnation before s → allows topology before (Fetch s n) ≡ true
    → IsJobOf topology (Fetch s n ∷ before) (record { post = post s 0; incarnation = from; work = work.Fetch n })
fetch_job topology before s n from e h = record { out = out_fetch topology before s n h; incarnation = e; work = work_fetch topology before s n h }

pub child_job : (topology : Topology) (before : History) (s : StageNo) (message : Message) (slot from : ℕ) → IsSound topology → is_legal topology before ≡ true → from ≡ incarnation before s → allows topology before (Child s message.no slot) ≡ true
    → content before message.no.0 ≡ Some message → IsJobOf topology (Child s message.no slot ∷ before) (record { post = post s slot; incarnation = from; work = work.Child message })
child_job topology before s message slot from sound legal e h is =
    record { out = out_child topology before s message.no slot sound legal h; incarnation = e; work = work_child topology before s message slot h is }

-- the take of what stands first
pub record TakesFirst (topology : Topology) (before : History) (s : StageNo) (step : Option Step) : Type 0 where
  pub sub : SubNo
  pub size : ℕ
  pub is : step ≡ Some (Take s sub size)
  pub legal : allows topology before (Take s sub size) ≡ true

takes_of : (topology : Topology) (before : History) (s : StageNo) (o : Option StageSpec) (units : List (SubNo × ℕ)) → allows_some topology before (take_first o s units) ≡ true → TakesFirst topology before s (take_first o s units)
takes_of topology before s o [] h = let x : false ≡ true = h in cc
takes_of topology before s o (d ∷ units) h = record { sub = d.0; size = chunk_size o (length (units_on d.0 (d ∷ units))); is = refl; legal = h }

pub takes_first : (topology : Topology) (before : History) (s : StageNo) → may_take_next topology before s ≡ true → TakesFirst topology before s (take_step topology before s)
takes_first topology before s h = takes_of topology before s (spec_of topology s) (inbox topology before s) h

pub take_job : (topology : Topology) (before : History) (s : StageNo) (u : SubNo) (k from : ℕ) (c : Chunk) (w : Work) → from ≡ incarnation before s → w ≡ work_on c → allows topology before (Take s u k) ≡ true → IsChunk topology (Take s u k ∷ before) s c
    → IsJobOf topology (Take s u k ∷ before) (record { post = post s 0; incarnation = from; work = w })
take_job topology before s u k from c w e on h is = record {
  out = out_take topology before s u k h;
  incarnation = e;
  work = subst (λ (x : Work). IsWorkOf topology (Take s u k ∷ before) (post s 0) x) (sym on) (work_take topology before s u k c h is);
}

-- the last step of a legal journal was allowed
pub last_allowed : (topology other : Topology) (before after : History) (step : Step) → other ≡ topology → after ≡ step ∷ before → is_legal other after ≡ true → allows topology before step ≡ true
last_allowed topology other before after step t e h =
    legal_step topology before step (subst (λ (j : History). is_legal topology j ≡ true) e (subst (λ (k : Topology). is_legal k after ≡ true) t h))

-- a child that may start runs its slot's own message, or the first of the inbox
pub child_next : (topology : Topology) (before : History) (s : StageNo) (m : MsgNo) (slot : ℕ) → allows topology before (Child s m slot) ≡ true → m ≡ message_no (next_in_slot topology before s slot)
child_next topology before s m slot h = by (runs_number topology before s (in_slot before s slot)) refl
  where
    by : (b : Bool) → runs_number topology before s (in_slot before s slot) ≡ b → m ≡ message_no (next_in_slot topology before s slot)
    by true run =
        let e : in_slot before s slot ≡ Some m.0 = number_is (in_slot before s slot) m.0 ((child_facts topology before s m slot h).again run) in
        let next : next_in_slot topology before s slot ≡ m.0 = rw (run, e) refl in
        ap message_no (sym next)
    by false run =
        let next : next_in_slot topology before s slot ≡ first_unit (inbox topology before s) = rw run refl in
        ap message_no (((child_facts topology before s m slot h).new run).1 ∙ sym next)

-- ---- what was begun

-- the step that began a job
pub record BeginStep (topology : Topology) (before : History) (s : StageNo) (after : History) (job : Job) : Type 0 where
  pub step : Step
  pub appended : after ≡ step ∷ before
  pub legal : allows topology before step ≡ true
  pub stage : job.post.stage ≡ s

-- a job that began did so by one step, which was allowed
pub begun_step : (topology : Topology) (before : History) (s : StageNo) (after : History) (job : Job) → is_legal topology after ≡ true → IsBegun topology before s after job → BeginStep topology before s after job
begun_step topology before s after job legal (fetched p e) =
    record {
      step = Fetch s (bound topology before s);
      appended = e;
      legal = legal_step topology before (Fetch s (bound topology before s)) (subst (λ (h : History). is_legal topology h ≡ true) e legal);
      stage = ap (λ (q : Post). q.stage) p;
    }
begun_step topology before s after job legal (taken u k p is e) =
    record { step = Take s u k; appended = e; legal = legal_step topology before (Take s u k) (subst (λ (h : History). is_legal topology h ≡ true) e legal); stage = ap (λ (q : Post). q.stage) p }
begun_step topology before s after job legal (started slot p e) =
    record {
      step = Child s (message_no (next_in_slot topology before s slot)) slot;
      appended = e;
      legal = legal_step topology before (Child s (message_no (next_in_slot topology before s slot)) slot) (subst (λ (h : History). is_legal topology h ≡ true) e legal);
      stage = ap (λ (q : Post). q.stage) p;
    }
