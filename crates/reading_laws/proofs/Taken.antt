-- A job that is out has messages.
use Rattle.std.proofs.Common.{◌≡◌, ℕ, zero, suc, ◌+◌, ◌≤◌, Bool, true, false, List, [], ◌∷◌, length, map, take, refl, sym, ◌∙◌, subst, Option, Some, None, arith}
use Rattle.std.specs.Prelude.{cond, if◌then◌else◌, ◌==◌, ◌&&◌, ◌||◌, not, is_some, bytes_eq, filter, option_map}
use Rattle.std.proofs.lemmas.Bool.{eqb-true}
use Rattle.pipe_types.specs.declared.numbers.StageNo.{StageNo}
use Rattle.pipe_types.specs.declared.numbers.SubNo.{SubNo}
use Rattle.pipe_types.specs.declared.message.Place.{Place}
use Rattle.pipe_types.specs.declared.message.Reply.{Reply}
use Rattle.pipe_types.specs.declared.step.Step.{Step}
use Rattle.pipe_types.specs.declared.step.Step.TheVariants.{Fetch, Take, Close, Child, Done}
use Rattle.pipe_types.specs.declared.topology.Role.{Role}
use Rattle.pipe_types.specs.declared.topology.Role.TheVariants.{Processor, BatchProcessor}
use Rattle.pipe_types.specs.declared.topology.StageSpec.{StageSpec}
use Rattle.pipe_types.specs.declared.topology.Topology.{Topology}
use Rattle.pipe_types.specs.Numbers.{post, same_stage, same_sub}
use Rattle.pipe_types.specs.Stages.{spec_of}
use Rattle.pipe_model.specs.History.{History, closed}
use Rattle.pipe_model.specs.Batches.{Batch}
use Rattle.pipe_model.specs.Content.{content, key_in, gathers}
use Rattle.pipe_model.specs.Flow.{is_empty, place, batch, view_of, inbox, sent_to, units_on, closing, numbers_in, first_in, is_gathered_in}
use Rattle.pipe_model.specs.Standing.{in_inbox}
use Rattle.pipe_model.specs.Legal.{is_legal, has_role, takes_role, is_producer_role, is_processor_role, is_batch_processor_role, is_supervisor_role}
use Rattle.pipe_model.specs.Posts.{is_out, answers}
use Rattle.pipe_model.specs.Taken.{Closed, closed_as}
use Rattle.pipe_model.specs.Work.{taken_units, chunk_of, batch_of}
use Rattle.pipe_laws.proofs.Tests.{clash, and_left, and_right, same_stage-true}
use Rattle.pipe_laws.proofs.Lists.{Each, each_weaker, each_always, each_filter}
use Rattle.pipe_laws.proofs.Chunks.{each_take}
use Rattle.pipe_laws.proofs.Allowed.{legal_before, legal_step, take_facts, fetch_role, child_facts, done_facts}
use Rattle.pipe_laws.proofs.Accepted.{placed_content, content_kept}
use Rattle.pipe_laws.proofs.Busy.{two_roles, takes_producer, takes_supervisor, chunk_within}
use Rattle.pipe_laws.proofs.Entries.{EntryFits, entries_fit, is_sent_batch, sent_exists, sent_batch_after}
use Rattle.pipe_laws.proofs.Idle.{chunk_facts}
use Rattle.pipe_laws.proofs.Levels.{rank, feeds_down}
use Rattle.pipe_laws.proofs.Replies.{messages_length}
use Rattle.queue_laws.proofs.Apart.{each_kept}
use Rattle.queue_laws.proofs.Batched.{close_some}
use Rattle.queue_laws.proofs.BatchWork.{writer_rank}
use Rattle.queue_laws.proofs.Roles.{rank_batcher}
use Rattle.stage_laws.proofs.Runs.{calm}
use Rattle.core_takes.proofs.TakenClosed.{closed_are}

-- ---- what was taken

take_some : (k : ℕ) (xs : List ℕ) → 1 ≤ k → k ≤ length xs → 1 ≤ length (take k xs)
take_some zero xs low fits = absurd (omega arith)
take_some (suc k) [] low fits = absurd (omega arith)
take_some (suc k) (x ∷ xs) low fits = omega arith

-- a stage that is out at work has taken something
pub taken_some : (topology : Topology) (before : History) (s : StageNo) → is_legal topology before ≡ true → has_role topology s takes_role ≡ true → is_out before (post s 0) ≡ true → 1 ≤ length (taken_units topology before s)
taken_some topology [] s h role out = cc
taken_some topology (Take t u k ∷ before) s h role out = either (same_stage s t) refl out (taken_some topology before s (legal_before topology before (Take t u k) h) role)
  where
    here : 1 ≤ length (take k (units_on u (inbox topology before t)))
    here =
        let facts = take_facts topology before t u k (legal_step topology before (Take t u k) h) in
        take_some k (units_on u (inbox topology before t)) facts.some (omega (arith, facts.size, chunk_within (spec_of topology t) (length (units_on u (inbox topology before t)))))

    either : (b : Bool) → same_stage s t ≡ b → ((b && true) || is_out before (post s 0)) ≡ true → (is_out before (post s 0) ≡ true → 1 ≤ length (taken_units topology before s))
        → 1 ≤ length (if b then take k (units_on u (inbox topology before s)) else taken_units topology before s)
    either true same out rest = subst (λ x. 1 ≤ length (take k (units_on u (inbox topology before x)))) (sym (same_stage-true s t same)) here
    either false same out rest = rest out
taken_some topology (Fetch t n ∷ before) s h role out = either (same_stage s t) refl out (taken_some topology before s (legal_before topology before (Fetch t n) h) role)
  where
    either : (b : Bool) → same_stage s t ≡ b → ((b && true) || is_out before (post s 0)) ≡ true → (is_out before (post s 0) ≡ true → 1 ≤ length (taken_units topology before s)) → 1 ≤ length (taken_units topology before s)
    either false same out rest = rest out
    either true same out rest =
        absurd (two_roles topology t takes_role is_producer_role takes_producer
        (subst (λ x. has_role topology x takes_role ≡ true) (same_stage-true s t same) role)
        (fetch_role topology before t n (legal_step topology before (Fetch t n) h)))
taken_some topology (Child t m slot ∷ before) s h role out = either (same_stage s t) refl (0 == slot) out (taken_some topology before s (legal_before topology before (Child t m slot) h) role)
  where
    either : (b : Bool) → same_stage s t ≡ b → (c : Bool) → ((b && c) || is_out before (post s 0)) ≡ true → (is_out before (post s 0) ≡ true → 1 ≤ length (taken_units topology before s)) → 1 ≤ length (taken_units topology before s)
    either false same c out rest = rest out
    either true same c out rest =
        absurd (two_roles topology t takes_role is_supervisor_role takes_supervisor
        (subst (λ x. has_role topology x takes_role ≡ true) (same_stage-true s t same) role)
        (child_facts topology before t m slot (legal_step topology before (Child t m slot) h)).role)
taken_some topology (step ∷ before) s h role out =
    taken_some topology before s (legal_before topology before step h) role (and_right (not (answers step (post s 0))) _ out)

at_zero : (b : Bool) (slot : ℕ) (was : Bool) → ((b && slot == 0) || was) ≡ true → (was ≡ true → slot ≡ 0) → slot ≡ 0
at_zero false slot was out rest = rest out
at_zero true slot was out rest = by (slot == 0) refl out
  where
    by : (c : Bool) → (slot == 0) ≡ c → (c || was) ≡ true → slot ≡ 0
    by true at out = eqb-true slot 0 at
    by false at out = rest out

-- and its post has the slot 0
pub taker_slot : (topology : Topology) (before : History) (s : StageNo) (slot : ℕ) → is_legal topology before ≡ true → has_role topology s takes_role ≡ true → is_out before (post s slot) ≡ true → slot ≡ 0
taker_slot topology [] s slot h role out = cc
taker_slot topology (Child t m k ∷ before) s slot h role out = either (same_stage s t) refl (slot == k) out (taker_slot topology before s slot (legal_before topology before (Child t m k) h) role)
  where
    either : (b : Bool) → same_stage s t ≡ b → (c : Bool) → ((b && c) || is_out before (post s slot)) ≡ true → (is_out before (post s slot) ≡ true → slot ≡ 0) → slot ≡ 0
    either false same c out rest = rest out
    either true same c out rest =
        absurd (two_roles topology t takes_role is_supervisor_role takes_supervisor
        (subst (λ x. has_role topology x takes_role ≡ true) (same_stage-true s t same) role)
        (child_facts topology before t m k (legal_step topology before (Child t m k) h)).role)
taker_slot topology (Take t u k ∷ before) s slot h role out = at_zero (same_stage s t) slot (is_out before (post s slot)) out (taker_slot topology before s slot (legal_before topology before (Take t u k) h) role)
taker_slot topology (Fetch t n ∷ before) s slot h role out = at_zero (same_stage s t) slot (is_out before (post s slot)) out (taker_slot topology before s slot (legal_before topology before (Fetch t n) h) role)
taker_slot topology (step ∷ before) s slot h role out =
    taker_slot topology before s slot (legal_before topology before step h) role (and_right (not (answers step (post s slot))) _ out)

-- ---- chunks

-- a role that passes one test passes the other
pub weaker_role : (topology : Topology) (s : StageNo) (one other : Role → Bool) → ((r : Role) → one r ≡ true → other r ≡ true) → has_role topology s one ≡ true → has_role topology s other ≡ true
weaker_role topology s one other f h = by (spec_of topology s) refl
  where
    by : (o : Option StageSpec) → spec_of topology s ≡ o → has_role topology s other ≡ true
    by None e = let none : has_role topology s one ≡ false = rw e refl in clash (has_role topology s one) h none
    by (Some spec) e =
        let is : has_role topology s one ≡ one spec.role = rw e refl in
        let goal : has_role topology s other ≡ other spec.role = rw e refl in
        goal ∙ f spec.role (sym is ∙ h)

processor_takes : (r : Role) → is_processor_role r ≡ true → takes_role r ≡ true
processor_takes Processor h = refl
processor_takes _ h = cc

pub writer_takes : (r : Role) → is_batch_processor_role r ≡ true → takes_role r ≡ true
writer_takes BatchProcessor h = refl
writer_takes _ h = cc

-- the messages of a processor's chunk that is answered are there
pub chunk_held : (topology : Topology) (before : History) (s : StageNo) (replies : List Reply) → is_legal topology (Done s replies ∷ before) ≡ true → Each (λ n. is_some (content before n) ≡ true) (taken_units topology before s)
chunk_held topology before s replies h =
    let allowed = legal_step topology before (Done s replies) h in
    let facts = done_facts topology before s replies allowed in
    (chunk_facts topology before s (legal_before topology before (Done s replies) h) facts.role facts.live (calm topology before (Done s replies) s allowed facts.live)).filled facts.current

-- and it has one
pub chunk_some : (topology : Topology) (before : History) (s : StageNo) (replies : List Reply) → is_legal topology (Done s replies ∷ before) ≡ true → 1 ≤ length (chunk_of topology before s)
chunk_some topology before s replies h =
    let facts = done_facts topology before s replies (legal_step topology before (Done s replies) h) in
    let out : is_out before (post s 0) ≡ true = and_left (is_out before (post s 0)) _ facts.current in
    let taken : 1 ≤ length (taken_units topology before s) = taken_some topology before s (legal_before topology before (Done s replies) h) (weaker_role topology s is_processor_role takes_role processor_takes facts.role) out in
    let same : length (chunk_of topology before s) ≡ length (taken_units topology before s) = messages_length before (taken_units topology before s) (chunk_held topology before s replies h) in
    omega arith

-- ---- batches

gathered_some : (s : StageNo) (o : Option Place) → is_gathered_in s o ≡ true → is_some o ≡ true
gathered_some s (Some p) h = refl
gathered_some s None h = cc

-- the numbers of messages that are there, at least one
record AreThere (before : History) (numbers : List ℕ) : Type 0 where
  some : is_empty numbers ≡ false
  each : Each (λ n. is_some (content before n) ≡ true) numbers

there_later : (before : History) (step : Step) (numbers : List ℕ) → AreThere before numbers → AreThere (step ∷ before) numbers
there_later before step numbers there =
    record { some = there.some; each = each_weaker (λ n. is_some (content before n) ≡ true) (λ n. is_some (content (step ∷ before) n) ≡ true) (λ n k. content_kept before step n k) numbers there.each }

abbrev ClosedThere : History → Option Closed → Type 0
ClosedThere before None = Unit {0}
ClosedThere before (Some c) = AreThere before c.numbers

closed_later : (before : History) (step : Step) (o : Option Closed) → ClosedThere before o → ClosedThere (step ∷ before) o
closed_later before step None there = tt
closed_later before step (Some c) there = there_later before step c.numbers there

closed_there : (topology : Topology) (before : History) (b : ℕ) → is_legal topology before ≡ true → ClosedThere before (closed_as topology before b)
closed_there topology [] b h = tt
closed_there topology (Close s first trigger ∷ before) b h =
    either (b == closed before + 1) (closed_later before (Close s first trigger) (closed_as topology before b) (closed_there topology before b (legal_before topology before (Close s first trigger) h)))
  where
    numbers : List ℕ
    numbers = closing before (view_of topology before) s first.0

    held : Each (λ n. is_some (content before n) ≡ true) (closing before (view_of topology before) s first.0)
    held =
        each_weaker (λ n. Unit {0} × ((is_gathered_in s (place topology before n) && bytes_eq (key_in (content before n)) (key_in (content before first.0))) ≡ true)) (λ n. is_some (content before n) ≡ true)
        (λ n p. placed_content topology before n (gathered_some s (place topology before n) (and_left (is_gathered_in s (place topology before n)) _ p.1)))
        (closing before (view_of topology before) s first.0)
        (each_filter (λ n. Unit {0}) (λ n. is_gathered_in s (place topology before n) && bytes_eq (key_in (content before n)) (key_in (content before first.0))) (gathers before s) (each_always (λ n. Unit {0}) (λ n. tt) (gathers before s)))

    either : (is : Bool) → ClosedThere (Close s first trigger ∷ before) (closed_as topology before b)
        → ClosedThere (Close s first trigger ∷ before) (if is then Some (record { numbers = closing before (view_of topology before) s first.0; trigger = trigger }) else closed_as topology before b)
    either false old = old
    either true old =
        there_later before (Close s first trigger) numbers (record { some = close_some topology before s first trigger (legal_step topology before (Close s first trigger) h); each = held })
closed_there topology (step ∷ before) b h = closed_later before step (closed_as topology before b) (closed_there topology before b (legal_before topology before step h))

-- a batch that is there has messages
batch_there : (topology : Topology) (before : History) (b : ℕ) → is_legal topology before ≡ true → is_some (batch topology before b) ≡ true → AreThere before (numbers_in (batch topology before b))
batch_there topology before b h some = by (batch topology before b) (closed_as topology before b) some (closed_are topology before b) (closed_there topology before b h)
  where
    by : (o : Option Batch) (p : Option Closed) → is_some o ≡ true → option_map (λ x. x.numbers) o ≡ option_map (λ c. c.numbers) p → ClosedThere before p → AreThere before (numbers_in o)
    by None p some same there = let wrong : false ≡ true = some in cc
    by (Some x) None some same there = cc
    by (Some x) (Some c) some same there = let e : c.numbers ≡ x.numbers = cc in subst (AreThere before) e there

-- ---- batches that were taken

-- batches that were sent to batch processors
abbrev AreSent : Topology → History → List ℕ → Type 0
AreSent topology before units = Each (λ b. is_sent_batch (batch topology before b) ≡ true) units

sent_later : (topology : Topology) (before : History) (step : Step) (units : List ℕ) → AreSent topology before units → AreSent topology (step ∷ before) units
sent_later topology before step units each =
    each_weaker (λ b. is_sent_batch (batch topology before b) ≡ true) (λ b. is_sent_batch (batch topology (step ∷ before) b) ≡ true) (λ b k. sent_batch_after topology before step b k) units each

first_sent : (topology : Topology) (before : History) (units : List ℕ) → 1 ≤ length units → AreSent topology before units → is_some (batch topology before (first_in units)) ≡ true
first_sent topology before [] some each = absurd (omega arith)
first_sent topology before (b ∷ units) some each = sent_exists (batch topology before b) each.0

-- so are the units in a batch processor's inbox
inbox_sent : (topology : Topology) (before : History) (s : StageNo) (u : SubNo) → has_role topology s is_batch_processor_role ≡ true → AreSent topology before (units_on u (inbox topology before s))
inbox_sent topology before s u role =
    on_sub (inbox topology before s)
    (each_weaker (EntryFits topology before s) (λ d. is_sent_batch (batch topology before d.1) ≡ true)
    (λ d fits.
    let down = feeds_down topology d.0.producer s fits.feeding in
    let two : rank topology d.0.producer ≡ 2 = omega (arith, down, writer_rank topology s role) in
    fits.batched (rank_batcher (spec_of topology d.0.producer) two))
    (inbox topology before s) (each_kept (EntryFits topology before s) (in_inbox topology before) (sent_to topology before s) (entries_fit topology before s)))
  where
    on_sub : (xs : List (SubNo × ℕ)) → Each (λ d. is_sent_batch (batch topology before d.1) ≡ true) xs → AreSent topology before (units_on u xs)
    on_sub [] each = tt
    on_sub (d ∷ xs) each = either (same_sub d.0 u) (on_sub xs each.1)
      where
        either : (b : Bool) → AreSent topology before (units_on u xs) → AreSent topology before (map (λ (d : SubNo × ℕ). d.1) (cond b (d ∷ filter (λ d. same_sub d.0 u) xs) (filter (λ d. same_sub d.0 u) xs)))
        either true rest = (each.0, rest)
        either false rest = rest

-- and what a batch processor has taken
taken_sent : (topology : Topology) (before : History) (s : StageNo) → has_role topology s is_batch_processor_role ≡ true → AreSent topology before (taken_units topology before s)
taken_sent topology [] s role = tt
taken_sent topology (Take t u k ∷ before) s role = either (same_stage s t) (taken_sent topology before s role)
  where
    either : (b : Bool) → AreSent topology before (taken_units topology before s)
        → AreSent topology (Take t u k ∷ before) (if b then take k (units_on u (inbox topology before s)) else taken_units topology before s)
    either false old = sent_later topology before (Take t u k) (taken_units topology before s) old
    either true old =
        sent_later topology before (Take t u k) (take k (units_on u (inbox topology before s)))
        (each_take (λ b. is_sent_batch (batch topology before b) ≡ true) k (units_on u (inbox topology before s)) (inbox_sent topology before s u role))
taken_sent topology (step ∷ before) s role = sent_later topology before step (taken_units topology before s) (taken_sent topology before s role)

some_length : (numbers : List ℕ) → is_empty numbers ≡ false → 1 ≤ length numbers
some_length [] h = cc
some_length (n ∷ numbers) h = omega arith

-- the batch of a batch processor that is out has a message
pub batch_some : (topology : Topology) (before : History) (s : StageNo) → is_legal topology before ≡ true → has_role topology s is_batch_processor_role ≡ true → is_out before (post s 0) ≡ true → 1 ≤ length (batch_of topology before s)
batch_some topology before s h role out =
    let taken : 1 ≤ length (taken_units topology before s) = taken_some topology before s h (weaker_role topology s is_batch_processor_role takes_role writer_takes role) out in
    let some = first_sent topology before (taken_units topology before s) taken (taken_sent topology before s role) in
    let there = batch_there topology before (first_in (taken_units topology before s)) h some in
    let same : length (batch_of topology before s) ≡ length (numbers_in (batch topology before (first_in (taken_units topology before s)))) =
    messages_length before (numbers_in (batch topology before (first_in (taken_units topology before s)))) there.each in
    omega (arith, some_length (numbers_in (batch topology before (first_in (taken_units topology before s)))) there.some)
