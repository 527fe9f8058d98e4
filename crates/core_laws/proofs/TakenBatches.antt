-- The batch that a batch processor took last, while other steps come.
use Rattle.std.proofs.Common.{◌≡◌, ℕ, zero, suc, ◌+◌, ◌≤◌, List, [], ◌∷◌, length, Bool, true, false, refl, ap, ◌∙◌, Some, arith, take}
use Rattle.std.specs.Prelude.{if◌then◌else◌, ◌==◌, ◌&&◌, ◌||◌, not, filter}
use Rattle.std.proofs.lemmas.Bool.{ne_eqb}
use Rattle.pipe_types.specs.declared.numbers.StageNo.{StageNo}
use Rattle.pipe_types.specs.declared.numbers.SubNo.{SubNo}
use Rattle.pipe_types.specs.declared.topology.Topology.{Topology}
use Rattle.pipe_types.specs.declared.topology.Role.{Role}
use Rattle.pipe_types.specs.declared.topology.Role.TheVariants.{Processor, BatchProcessor}
use Rattle.pipe_types.specs.declared.step.Step.{Step}
use Rattle.pipe_types.specs.declared.step.Step.TheVariants.{Fetch, Take, Child, Close}
use Rattle.pipe_types.specs.Numbers.{post, same_stage, same_sub}
use Rattle.pipe_types.specs.Stages.{spec_of}
use Rattle.pipe_model.specs.History.{History, closed}
use Rattle.pipe_model.specs.Flow.{inbox, sent_to, batch, view_of, closing, first_in, units_on}
use Rattle.pipe_model.specs.Legal.{is_legal, allows, has_role, is_producer_role, is_supervisor_role, is_batch_processor_role}
use Rattle.pipe_model.specs.Posts.{is_out, puts_out, answers}
use Rattle.pipe_model.specs.Standing.{in_inbox}
use Rattle.pipe_model.specs.Taken.{closed_as}
use Rattle.pipe_model.specs.Work.{taken_units}
use Rattle.pipe_laws.proofs.Tests.{and_left, and_right, same_stage-true}
use Rattle.pipe_laws.proofs.Lists.{Each, each_weaker, each_map}
use Rattle.pipe_laws.proofs.Allowed.{legal_before, child_facts, fetch_role}
use Rattle.pipe_laws.proofs.Busy.{two_roles}
use Rattle.pipe_laws.proofs.Entries.{EntryFits, entries_fit, sent_exists}
use Rattle.pipe_laws.proofs.Levels.{rank, feeds_down}
use Rattle.pipe_laws.proofs.Settled.{batch_closed}
use Rattle.queue_laws.proofs.Apart.{each_kept}
use Rattle.queue_laws.proofs.Roles.{rank_batcher}
use Rattle.queue_laws.proofs.BatchWork.{writer_rank}
use Rattle.core_laws.specs.Columns.{closed_numbers}
use Rattle.core_laws.specs.Due.{taken_size, puts_job}

-- Roles

writes_or_fetches : (role : Role) → is_batch_processor_role role ≡ true → is_producer_role role ≡ true → ⊥
writes_or_fetches BatchProcessor h k = let x : false ≡ true = k in cc
writes_or_fetches _ h k = let x : false ≡ true = h in cc

writes_or_starts : (role : Role) → is_batch_processor_role role ≡ true → is_supervisor_role role ≡ true → ⊥
writes_or_starts BatchProcessor h k = let x : false ≡ true = k in cc
writes_or_starts _ h k = let x : false ≡ true = h in cc

-- What was taken was closed

units_closed : (topology : Topology) (before : History) (s : StageNo) (u : SubNo) → has_role topology s is_batch_processor_role ≡ true → Each (λ n. n ≤ closed before) (units_on u (inbox topology before s))
units_closed topology before s u role =
    each_map (λ n. n ≤ closed before) (λ (d : SubNo × ℕ). d.1) (filter (λ d. same_sub d.0 u) (inbox topology before s))
    (each_weaker (EntryFits topology before s) (λ d. d.1 ≤ closed before) (λ d fit. low d fit) (filter (λ d. same_sub d.0 u) (inbox topology before s))
    (each_kept (EntryFits topology before s) (λ d. same_sub d.0 u) (inbox topology before s)
    (each_kept (EntryFits topology before s) (in_inbox topology before) (sent_to topology before s) (entries_fit topology before s))))
  where
    low : (d : SubNo × ℕ) → EntryFits topology before s d → d.1 ≤ closed before
    low d fit =
        let down = feeds_down topology d.0.producer s fit.feeding in
        let two : rank topology d.0.producer ≡ 2 = omega (arith, down, writer_rank topology s role) in
        batch_closed topology before d.1 (sent_exists (batch topology before d.1) (fit.batched (rank_batcher (spec_of topology d.0.producer) two)))

first_low : (n k : ℕ) (xs : List ℕ) → Each (λ x. x ≤ n) xs → first_in (take k xs) ≤ n
first_low n zero [] h = omega arith
first_low n zero (x ∷ xs) h = omega arith
first_low n (suc k) [] h = omega arith
first_low n (suc k) (x ∷ xs) h = h.0

-- the batch that a batch processor took was closed before
pub taken_closed : (topology : Topology) (before : History) (s : StageNo) → is_legal topology before ≡ true → has_role topology s is_batch_processor_role ≡ true → first_in (taken_units topology before s) ≤ closed before
taken_closed topology [] s h role = omega arith
taken_closed topology (Take t u k ∷ before) s h role = by (same_stage s t) (taken_closed topology before s (legal_before topology before (Take t u k) h) role)
  where
    by : (b : Bool) → first_in (taken_units topology before s) ≤ closed before → first_in (if b then take k (units_on u (inbox topology before s)) else taken_units topology before s) ≤ closed before
    by true old = first_low (closed before) k (units_on u (inbox topology before s)) (units_closed topology before s u role)
    by false old = old
taken_closed topology (Close t first trigger ∷ before) s h role = omega (arith, taken_closed topology before s (legal_before topology before (Close t first trigger) h) role)
taken_closed topology (step ∷ before) s h role = taken_closed topology before s (legal_before topology before step h) role

-- While no job of the stage is put out

-- a step that puts no job of the stage out leaves its last batch as it is
pub size_kept : (topology : Topology) (before : History) (step : Step) (s : StageNo) → is_legal topology before ≡ true → has_role topology s is_batch_processor_role ≡ true
    → puts_out step (post s 0) ≡ false → taken_size topology (step ∷ before) s ≡ taken_size topology before s
size_kept topology before (Take t u k) s h role none = ap (λ b. length (closed_numbers (closed_as topology before (first_in (if b then take k (units_on u (inbox topology before s)) else taken_units topology before s))))) (and_first (same_stage s t) none)
  where
    and_first : (b : Bool) → (b && true) ≡ false → b ≡ false
    and_first true e = e
    and_first false e = refl
size_kept topology before (Close t first trigger) s h role none =
    let low = taken_closed topology before s h role in
    let other : (first_in (taken_units topology before s) == closed before + 1) ≡ false = ne_eqb (first_in (taken_units topology before s)) (closed before + 1) (λ e. absurd (omega (arith, low, e))) in
    ap (λ b. length (closed_numbers (if b then Some (record { numbers = closing before (view_of topology before) t first.0; trigger = trigger }) else closed_as topology before (first_in (taken_units topology before s))))) other
size_kept topology before step s h role none = refl

-- and its job is out only where it was
pub out_before : (before : History) (step : Step) (s : StageNo) → puts_out step (post s 0) ≡ false → is_out (step ∷ before) (post s 0) ≡ true → is_out before (post s 0) ≡ true
out_before before step s none out = by (puts_out step (post s 0)) none out
  where
    by : (b : Bool) → b ≡ false → (b || (not (answers step (post s 0)) && is_out before (post s 0))) ≡ true → is_out before (post s 0) ≡ true
    by true e out = cc
    by false e out = and_right (not (answers step (post s 0))) _ out

false_of : (b : Bool) → (b ≡ true → ⊥) → b ≡ false
false_of true f = absurd (f refl)
false_of false f = refl

-- a fetch puts no job of a batch processor out, nor does a step that is no fetch and no take
pub no_fetch : (topology : Topology) (before : History) (t : StageNo) (n : ℕ) (s : StageNo) → has_role topology s is_batch_processor_role ≡ true → allows topology before (Fetch t n) ≡ true → puts_out (Fetch t n) (post s 0) ≡ false
no_fetch topology before t n s role allowed =
    false_of (puts_out (Fetch t n) (post s 0))
    (λ e. two_roles topology s is_batch_processor_role is_producer_role writes_or_fetches role (ap (λ x. has_role topology x is_producer_role) (same_stage-true s t (and_left (same_stage s t) true e)) ∙ fetch_role topology before t n allowed))

pub no_job : (topology : Topology) (before : History) (step : Step) (s : StageNo) → has_role topology s is_batch_processor_role ≡ true → allows topology before step ≡ true → puts_job step ≡ false → puts_out step (post s 0) ≡ false
no_job topology before (Fetch t n) s role allowed none = no_fetch topology before t n s role allowed
no_job topology before (Take t u k) s role allowed none = let x : true ≡ false = none in cc
no_job topology before (Child t m slot) s role allowed none =
    false_of (puts_out (Child t m slot) (post s 0))
    (λ e. two_roles topology s is_batch_processor_role is_supervisor_role writes_or_starts role (ap (λ x. has_role topology x is_supervisor_role) (same_stage-true s t (and_left (same_stage s t) _ e)) ∙ (child_facts topology before t m slot allowed).role))
no_job topology before step s role allowed none = refl
