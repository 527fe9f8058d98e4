-- What each legal step says, as facts.
use Rattle.std.proofs.Common.{◌≡◌, ℕ, ◌≤◌, List, [], ◌∷◌, length, Bool, true, false, refl, sym, Some, None}
use Rattle.std.specs.Prelude.{if◌then◌else◌, not, nat_le, ◌==◌, ◌&&◌, ◌||◌}
use Rattle.std.proofs.lemmas.Bool.{eqb-true, leb-true}
use Rattle.pipe_types.specs.declared.numbers.SubNo.{SubNo}
use Rattle.pipe_types.specs.declared.numbers.StageNo.{StageNo}
use Rattle.pipe_types.specs.declared.numbers.MsgNo.{MsgNo}
use Rattle.pipe_types.specs.declared.topology.Topology.{Topology}
use Rattle.pipe_types.specs.declared.topology.Role.{Role}
use Rattle.pipe_types.specs.declared.message.BatchEnd.{BatchEnd}
use Rattle.pipe_types.specs.declared.message.BatchEnd.TheVariants.{Crashed as BatchCrashed}
use Rattle.pipe_types.specs.declared.message.Reply.{Reply}
use Rattle.pipe_types.specs.declared.step.LateAnswer.{LateAnswer}
use Rattle.pipe_types.specs.declared.step.Step.{Step}
use Rattle.pipe_types.specs.declared.step.Step.TheVariants.{Fetch, Accept, Take, Done, Gather, Wrote, Child, ChildEnd, Late, Restart}
use Rattle.pipe_types.specs.Numbers.{post}
use Rattle.pipe_types.specs.Stages.{spec_of}
use Rattle.pipe_model.specs.History.{History}
use Rattle.pipe_model.specs.Posts.{is_out, out_from, in_slot}
use Rattle.pipe_model.specs.Lives.{is_live}
use Rattle.pipe_model.specs.Content.{has_crash}
use Rattle.pipe_model.specs.Work.{are_handled, count, chunk_of, child_of}
use Rattle.pipe_model.specs.History.{incarnation}
use Rattle.pipe_model.specs.Flow.{inbox, units_on, is_number}
use Rattle.pipe_model.specs.Legal.{is_legal, allows, owed, passes, may_come, may_dispatch, happened, is_halt, is_late, is_dispatch_of, is_crash_of, has_role, takes_role, is_producer_role, is_processor_role, is_batcher_role, is_batch_processor_role, is_supervisor_role, is_current, first_sub, first_unit, chunk_size, runs_number, has_room, feeds_batchers, ends_batch, late_fits, needs_restart}
use Rattle.pipe_laws.proofs.Tests.{and_left, and_right, not_true}

-- the journal before a legal one's last step is legal, and allowed it
pub legal_before : (topology : Topology) (before : History) (step : Step) → is_legal topology (step ∷ before) ≡ true → is_legal topology before ≡ true
legal_before topology before step h = and_left (is_legal topology before) _ h

pub legal_step : (topology : Topology) (before : History) (step : Step) → is_legal topology (step ∷ before) ≡ true → allows topology before step ≡ true
legal_step topology before step h = and_right (is_legal topology before) _ h

-- where a step that is not late is allowed, the pipeline has not halted
pub not_halted : (topology : Topology) (before : History) (step : Step) → is_late step ≡ false → allows topology before step ≡ true → happened is_halt before ≡ false
not_halted topology before step e h =
    either (happened is_halt before) (is_late step) e
    (and_left (not (happened is_halt before) || is_late step) (passes (owed topology before) step (may_come topology before step)) h)
  where
    either : (a b : Bool) → b ≡ false → (not a || b) ≡ true → a ≡ false
    either true true e k = e
    either true false e k = sym k
    either false b e k = refl

passes_if : (b : Bool) (test : Step → Bool) (step : Step) (otherwise : Bool) → test step ≡ false → passes (if b then Some test else None) step otherwise ≡ true → otherwise ≡ true
passes_if true test step otherwise refused h = cc
passes_if false test step otherwise refused h = h

passes_unowed : (topology : Topology) (before : History) (step : Step) (otherwise : Bool) → ((s : StageNo) → is_dispatch_of s step ≡ false) → ((s : StageNo) → is_crash_of s step ≡ false) → passes (owed topology before) step otherwise ≡ true → otherwise ≡ true
passes_unowed topology [] step otherwise d c h = h
passes_unowed topology (Accept s records ∷ before) step otherwise d c h =
    passes_if (may_dispatch topology (Accept s records ∷ before) s) (is_dispatch_of s) step otherwise (d s) h
passes_unowed topology (Done s replies ∷ before) step otherwise d c h = passes_if (has_crash replies) (is_crash_of s) step otherwise (c s) h
passes_unowed topology (Wrote s bytes BatchCrashed ∷ before) step otherwise d c h = absurd (let e : is_crash_of s step ≡ false = c s in cc)
passes_unowed topology (_ ∷ before) step otherwise d c h = h

-- a step that is never owed is allowed by its own row
pub unowed : (topology : Topology) (before : History) (step : Step) → ((s : StageNo) → is_dispatch_of s step ≡ false) → ((s : StageNo) → is_crash_of s step ≡ false) → allows topology before step ≡ true → may_come topology before step ≡ true
unowed topology before step d c h =
    passes_unowed topology before step (may_come topology before step) d c
    (and_right (not (happened is_halt before) || is_late step) (passes (owed topology before) step (may_come topology before step)) h)

pub record TakeFacts (topology : Topology) (before : History) (s : StageNo) (u : SubNo) (k : ℕ) : Type 0 where
  pub live : is_live topology before s ≡ true
  pub role : has_role topology s takes_role ≡ true
  pub free : is_out before (post s 0) ≡ false
  pub first : first_sub (inbox topology before s) u ≡ true
  pub some : 1 ≤ k
  pub size : k ≡ chunk_size (spec_of topology s) (length (units_on u (inbox topology before s)))
  pub room : (not (feeds_batchers (spec_of topology s)) || has_room topology before s) ≡ true

pub take_facts : (topology : Topology) (before : History) (s : StageNo) (u : SubNo) (k : ℕ) → allows topology before (Take s u k) ≡ true → TakeFacts topology before s u k
take_facts topology before s u k h =
    let all = unowed topology before (Take s u k) (λ t. refl) (λ t. refl) h in
    let one = and_right (is_live topology before s) _ all in
    let two = and_right (has_role topology s takes_role) _ one in
    let three = and_right (not (is_out before (post s 0))) _ two in
    let four = and_right (first_sub (inbox topology before s) u) _ three in
    let five = and_right (nat_le 1 k) _ four in
    record {
      live = and_left (is_live topology before s) _ all;
      role = and_left (has_role topology s takes_role) _ one;
      free = not_true _ (and_left (not (is_out before (post s 0))) _ two);
      first = and_left (first_sub (inbox topology before s) u) _ three;
      some = leb-true 1 k (and_left (nat_le 1 k) _ four);
      size = eqb-true k _ (and_left (k == chunk_size (spec_of topology s) (length (units_on u (inbox topology before s)))) _ five);
      room = and_right (k == chunk_size (spec_of topology s) (length (units_on u (inbox topology before s)))) _ five;
    }

-- what is known of a step that answers a post
pub record AnswerFacts (topology : Topology) (before : History) (s : StageNo) (one : Role → Bool) (slot : ℕ) (fits : Bool) : Type 0 where
  pub live : is_live topology before s ≡ true
  pub role : has_role topology s one ≡ true
  pub current : is_current before s slot ≡ true
  pub handled : fits ≡ true

answer_facts : (topology : Topology) (before : History) (s : StageNo) (one : Role → Bool) (slot : ℕ) (fits : Bool) → (is_live topology before s && (has_role topology s one && (is_current before s slot && fits))) ≡ true → AnswerFacts topology before s one slot fits
answer_facts topology before s one slot fits h =
    let behind = and_right (is_live topology before s) _ h in
    let rest = and_right (has_role topology s one) _ behind in
    record {
      live = and_left (is_live topology before s) _ h;
      role = and_left (has_role topology s one) _ behind;
      current = and_left (is_current before s slot) _ rest;
      handled = and_right (is_current before s slot) _ rest;
    }

abbrev pub DoneFacts : Topology → History → StageNo → List Reply → Type 0
DoneFacts topology before s replies = AnswerFacts topology before s is_processor_role 0 (are_handled (spec_of topology s) (count topology before s) (chunk_of topology before s) replies)

pub done_facts : (topology : Topology) (before : History) (s : StageNo) (replies : List Reply) → allows topology before (Done s replies) ≡ true → DoneFacts topology before s replies
done_facts topology before s replies h = answer_facts topology before s is_processor_role 0 _ (unowed topology before (Done s replies) (λ t. refl) (λ t. refl) h)

abbrev pub WroteFacts : Topology → History → StageNo → ℕ → BatchEnd → Type 0
WroteFacts topology before s bytes end = AnswerFacts topology before s is_batch_processor_role 0 (ends_batch topology before s bytes end)

pub wrote_facts : (topology : Topology) (before : History) (s : StageNo) (bytes : ℕ) (end : BatchEnd) → allows topology before (Wrote s bytes end) ≡ true → WroteFacts topology before s bytes end
wrote_facts topology before s bytes end h = answer_facts topology before s is_batch_processor_role 0 _ (unowed topology before (Wrote s bytes end) (λ t. refl) (λ t. refl) h)

abbrev pub ChildEndFacts : Topology → History → StageNo → ℕ → Reply → Type 0
ChildEndFacts topology before s slot reply = AnswerFacts topology before s is_supervisor_role slot (are_handled (spec_of topology s) 0 (child_of before s slot) (reply ∷ []))

pub child_end_facts : (topology : Topology) (before : History) (s : StageNo) (slot : ℕ) (reply : Reply) → allows topology before (ChildEnd s slot reply) ≡ true → ChildEndFacts topology before s slot reply
child_end_facts topology before s slot reply h = answer_facts topology before s is_supervisor_role slot _ (unowed topology before (ChildEnd s slot reply) (λ t. refl) (λ t. refl) h)

pub record GatherFacts (topology : Topology) (before : History) (s : StageNo) (n : ℕ) : Type 0 where
  pub live : is_live topology before s ≡ true
  pub role : has_role topology s is_batcher_role ≡ true
  pub some : 1 ≤ n
  pub first : n ≡ first_unit (inbox topology before s)

pub gather_facts : (topology : Topology) (before : History) (s : StageNo) (m : MsgNo) → allows topology before (Gather s m) ≡ true → GatherFacts topology before s m.0
gather_facts topology before s m h =
    let all = unowed topology before (Gather s m) (λ t. refl) (λ t. refl) h in
    let one = and_right (is_live topology before s) _ all in
    let two = and_right (has_role topology s is_batcher_role) _ one in
    let three = and_right (nat_le 1 m.0) _ two in
    record {
      live = and_left (is_live topology before s) _ all;
      role = and_left (has_role topology s is_batcher_role) _ one;
      some = leb-true 1 m.0 (and_left (nat_le 1 m.0) _ two);
      first = eqb-true m.0 _ (and_left (m.0 == first_unit (inbox topology before s)) _ three);
    }

pub record ChildFacts (topology : Topology) (before : History) (s : StageNo) (n slot : ℕ) : Type 0 where
  pub live : is_live topology before s ≡ true
  pub role : has_role topology s is_supervisor_role ≡ true
  pub free : is_out before (post s slot) ≡ false
  pub again : runs_number topology before s (in_slot before s slot) ≡ true → is_number (in_slot before s slot) n ≡ true
  pub new : runs_number topology before s (in_slot before s slot) ≡ false → (1 ≤ n) × (n ≡ first_unit (inbox topology before s))

pub child_facts : (topology : Topology) (before : History) (s : StageNo) (m : MsgNo) (slot : ℕ) → allows topology before (Child s m slot) ≡ true → ChildFacts topology before s m.0 slot
child_facts topology before s m slot h =
    let all = unowed topology before (Child s m slot) (λ t. refl) (λ t. refl) h in
    let one = and_right (is_live topology before s) _ all in
    let two = and_right (has_role topology s is_supervisor_role) _ one in
    let three = and_right (not (is_out before (post s slot))) _ two in
    record {
      live = and_left (is_live topology before s) _ all;
      role = and_left (has_role topology s is_supervisor_role) _ one;
      free = not_true _ (and_left (not (is_out before (post s slot))) _ two);
      again = λ e. again_if (runs_number topology before s (in_slot before s slot)) _ _ e three;
      new = λ e. new_if (runs_number topology before s (in_slot before s slot)) _ _ e three;
    }
  where
    again_if : (b x y : Bool) → b ≡ true → (if b then x else y) ≡ true → x ≡ true
    again_if true x y e h = h
    again_if false x y e h = cc

    new_if : (b x y : Bool) → b ≡ false → (if b then x else nat_le 1 m.0 && (y && m.0 == first_unit (inbox topology before s))) ≡ true → (1 ≤ m.0) × (m.0 ≡ first_unit (inbox topology before s))
    new_if true x y e h = cc
    new_if false x y e h =
        (leb-true 1 m.0 (and_left (nat_le 1 m.0) _ h), eqb-true m.0 _ (and_right y _ (and_right (nat_le 1 m.0) _ h)))

-- the stages whose steps are legal are live
pub accept_live : (topology : Topology) (before : History) (s : StageNo) (records : List (List ℕ)) → allows topology before (Accept s records) ≡ true → is_live topology before s ≡ true
accept_live topology before s records h = and_left (is_live topology before s) _ (unowed topology before (Accept s records) (λ t. refl) (λ t. refl) h)

pub accept_role : (topology : Topology) (before : History) (s : StageNo) (records : List (List ℕ)) → allows topology before (Accept s records) ≡ true → has_role topology s is_producer_role ≡ true
accept_role topology before s records h =
    and_left (has_role topology s is_producer_role) _ (and_right (is_live topology before s) _ (unowed topology before (Accept s records) (λ t. refl) (λ t. refl) h))

pub fetch_role : (topology : Topology) (before : History) (s : StageNo) (n : ℕ) → allows topology before (Fetch s n) ≡ true → has_role topology s is_producer_role ≡ true
fetch_role topology before s n h =
    and_left (has_role topology s is_producer_role) _ (and_right (is_live topology before s) _ (unowed topology before (Fetch s n) (λ t. refl) (λ t. refl) h))

pub record LateFacts (topology : Topology) (before : History) (s : StageNo) (slot i : ℕ) (answer : LateAnswer) : Type 0 where
  pub out : is_out before (post s slot) ≡ true
  pub from : out_from before (post s slot) ≡ i
  pub gone : (is_live topology before s && incarnation before s == i) ≡ false
  pub fits : late_fits topology before s answer ≡ true

pub late_facts : (topology : Topology) (before : History) (s : StageNo) (slot i : ℕ) (answer : LateAnswer) → allows topology before (Late s slot i answer) ≡ true → LateFacts topology before s slot i answer
late_facts topology before s slot i answer h =
    let all = unowed topology before (Late s slot i answer) (λ t. refl) (λ t. refl) h in
    let one = and_right (is_out before (post s slot)) _ all in
    let two = and_right (out_from before (post s slot) == i) _ one in
    record {
      out = and_left (is_out before (post s slot)) _ all;
      from = eqb-true _ i (and_left (out_from before (post s slot) == i) _ one);
      gone = not_true _ (and_left (not (is_live topology before s && incarnation before s == i)) _ two);
      fits = and_right (not (is_live topology before s && incarnation before s == i)) _ two;
    }

pub restart_needs : (topology : Topology) (before : History) (s : StageNo) → allows topology before (Restart s) ≡ true → needs_restart topology before s ≡ true
restart_needs topology before s h = and_left (needs_restart topology before s) _ (unowed topology before (Restart s) (λ t. refl) (λ t. refl) h)

pub restart_dead : (topology : Topology) (before : History) (s : StageNo) → allows topology before (Restart s) ≡ true → is_live topology before s ≡ false
restart_dead topology before s h =
    not_true _ (and_left (not (is_live topology before s)) _ (and_right _ _ (restart_needs topology before s h)))
