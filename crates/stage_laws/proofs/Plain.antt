-- Messages stand in inboxes that messages come to, and run at level 2.
use Rattle.std.proofs.Common.{◌≡◌, ℕ, List, [], ◌∷◌, map, Bool, true, false, refl, sym, ◌∙◌, subst, Some, None, Option, arith}
use Rattle.std.specs.Prelude.{◌&&◌, ◌||◌, ◌==◌}
use Rattle.std.proofs.lemmas.Bool.{eqb-true}
use Rattle.pipe_types.specs.declared.numbers.SubNo.{SubNo}
use Rattle.pipe_types.specs.declared.numbers.StageNo.{StageNo}
use Rattle.pipe_types.specs.declared.topology.Topology.{Topology}
use Rattle.pipe_types.specs.declared.topology.StageSpec.{StageSpec}
use Rattle.pipe_types.specs.declared.topology.Role.{Role}
use Rattle.pipe_types.specs.declared.topology.Role.TheVariants.{Processor, Supervisor, BatchProcessor}
use Rattle.pipe_types.specs.declared.message.Place.{Place}
use Rattle.pipe_types.specs.declared.message.Place.TheVariants.{Inbox, Running, Acked}
use Rattle.pipe_types.specs.declared.step.Step.{Step}
use Rattle.pipe_types.specs.declared.step.Step.TheVariants.{Take, Child}
use Rattle.pipe_types.specs.Numbers.{same_sub}
use Rattle.pipe_types.specs.Stages.{spec_of, feeds}
use Rattle.pipe_model.specs.History.{History}
use Rattle.pipe_model.specs.Flow.{place, sent_to, is_batcher, runs_in}
use Rattle.pipe_model.specs.Moves.{is_final}
use Rattle.pipe_model.specs.Legal.{is_legal, allows, has_role, takes_role, is_processor_role, is_supervisor_role}
use Rattle.pipe_laws.proofs.Tests.{clash, and_left, and_right, same_stage-true, same_sub-true}
use Rattle.pipe_laws.proofs.Lists.{Each, each_always}
use Rattle.pipe_laws.proofs.Places.{Move, stays, comes, comes_lost, sent_on, runs, waits, is_gathered, joins, ends, move_by, starts}
use Rattle.pipe_laws.proofs.Levels.{rank, rank_in, rank_of, feeds_down}
use Rattle.pipe_laws.proofs.Allowed.{legal_before, legal_step, take_facts, child_facts}
use Rattle.pipe_laws.proofs.Entries.{EntryFits, entries_fit}
use Rattle.pipe_laws.proofs.Kept.{runs_here}
use Rattle.queue_laws.proofs.Fits.{Fits}
use Rattle.queue_laws.proofs.Roles.{rank_batcher}
use Rattle.queue_laws.proofs.Filters.{filter_none}
use Rattle.queue_laws.proofs.Listed.{ListedAt, listed}
use Rattle.pipe_model.specs.Standing.{has_entry, running}

-- what holds of each entry of a list
pub entry_each : (P : SubNo × ℕ → Type 0) (u : SubNo) (n : ℕ) (xs : List (SubNo × ℕ)) → Each P xs → has_entry u n xs ≡ true → P (u, n)
entry_each P u n [] p h = cc
entry_each P u n (d ∷ xs) p h = either (same_sub d.0 u && d.1 == n) refl h (entry_each P u n xs p.1)
  where
    either : (b : Bool) → (same_sub d.0 u && d.1 == n) ≡ b → (b || has_entry u n xs) ≡ true → (has_entry u n xs ≡ true → P (u, n)) → P (u, n)
    either true e h rest =
        let one : d.0 ≡ u = same_sub-true d.0 u (and_left (same_sub d.0 u) _ e) in
        let two : d.1 ≡ n = eqb-true d.1 n (and_right (same_sub d.0 u) _ e) in
        subst (λ x. P (x, n)) one (subst (λ k. P (d.0, k)) two p.0)
    either false e h rest = rest h

-- a message in an inbox was sent there by a stage of messages
pub inbox_fed : (topology : Topology) (before : History) (n : ℕ) (u : SubNo) → Fits topology → is_legal topology before ≡ true → place topology before n ≡ Some (Inbox u)
    → (feeds topology u.producer u.consumer ≡ true) × (is_batcher (spec_of topology u.producer) ≡ false)
inbox_fed topology before n u fit h e =
    let at : ListedAt topology before n (Some (Inbox u)) = subst (ListedAt topology before n) e (listed topology before n fit h) in
    let entry : EntryFits topology before u.consumer (u, n) = entry_each (EntryFits topology before u.consumer) u n (sent_to topology before u.consumer) (entries_fit topology before u.consumer) at.1 in
    (entry.feeding, at.0)

role_rank : (topology : Topology) (s : StageNo) (test : Role → Bool) (P : ℕ → Type 0) → ((role : Role) → test role ≡ true → P (rank_of role)) → has_role topology s test ≡ true → P (rank topology s)
role_rank topology s test P f h = by_spec (spec_of topology s) refl
  where
    by_spec : (o : Option StageSpec) → spec_of topology s ≡ o → P (rank_in o)
    by_spec None e = let none : has_role topology s test ≡ false = rw e refl in clash (has_role topology s test) h none
    by_spec (Some spec) e = let yes : has_role topology s test ≡ test spec.role = rw e refl in f spec.role (sym yes ∙ h)

takes_rank : (role : Role) → takes_role role ≡ true → (rank_of role ≡ 3 → ⊥) → rank_of role ≡ 1
takes_rank Processor h never = refl
takes_rank BatchProcessor h never = absurd (never refl)
takes_rank _ h never = cc

supervisor_rank : (role : Role) → is_supervisor_role role ≡ true → rank_of role ≡ 1
supervisor_rank Supervisor h = refl
supervisor_rank _ h = cc

pub supervised_rank : (topology : Topology) (s : StageNo) → has_role topology s is_supervisor_role ≡ true → rank topology s ≡ 1
supervised_rank topology s h = role_rank topology s is_supervisor_role (λ k. k ≡ 1) supervisor_rank h

pub processor_rank : (topology : Topology) (s : StageNo) → has_role topology s is_processor_role ≡ true → rank topology s ≡ 1
processor_rank topology s h = role_rank topology s is_processor_role (λ k. k ≡ 1) by h
  where
    by : (role : Role) → is_processor_role role ≡ true → rank_of role ≡ 1
    by Processor h = refl
    by _ h = cc

-- work on a message starts at level 2
starts_low : (topology : Topology) (before : History) (step : Step) (u : SubNo) → allows topology before step ≡ true → starts step u.consumer ≡ true
    → feeds topology u.producer u.consumer ≡ true → is_batcher (spec_of topology u.producer) ≡ false → rank topology u.consumer ≡ 1
starts_low topology before (Take t v k) u h e fed plain =
    role_rank topology u.consumer takes_role (λ r. (r ≡ 3 → ⊥) → r ≡ 1) takes_rank
    (subst (λ x. has_role topology x takes_role ≡ true) (same_stage-true t u.consumer e) (take_facts topology before t v k h).role)
    (λ three. let down = feeds_down topology u.producer u.consumer fed in let two : rank topology u.producer ≡ 2 = omega (arith, three, down) in clash (is_batcher (spec_of topology u.producer)) (rank_batcher (spec_of topology u.producer) two) plain)
starts_low topology before (Child t m slot) u h e fed plain =
    role_rank topology u.consumer is_supervisor_role (λ r. r ≡ 1) supervisor_rank
    (subst (λ x. has_role topology x is_supervisor_role ≡ true) (same_stage-true t u.consumer e) (child_facts topology before t m slot h).role)
starts_low topology before _ u h e fed plain = cc

abbrev RunsLow : Topology → Option Place → Type 0
RunsLow topology p = (s : StageNo) → p ≡ Some (Running s) → rank topology s ≡ 1

runs_move : (topology : Topology) (before : History) (step : Step) (n : ℕ) (p q : Option Place) → place topology before n ≡ p → Fits topology → is_legal topology (step ∷ before) ≡ true
    → Move topology before step p q → RunsLow topology p → RunsLow topology q
runs_move topology before step n p q was fit h stays old = old
runs_move topology before step n p q was fit h (comes t) old = λ s e. cc
runs_move topology before step n p q was fit h (comes_lost loss) old = λ s e. cc
runs_move topology before step n p q was fit h (sent_on t u on) old = λ s e. cc
runs_move topology before step n p q was fit h (runs u from) old =
    λ s e. let is : u.consumer ≡ s = cc in
    let fed = inbox_fed topology before n u fit (legal_before topology before step h) was in
    subst (λ x. rank topology x ≡ 1) is (starts_low topology before step u (legal_step topology before step h) from fed.0 fed.1)
runs_move topology before step n p q was fit h (waits t) old = λ s e. cc
runs_move topology before step n p q was fit h (is_gathered u) old = λ s e. cc
runs_move topology before step n p q was fit h (joins t b from) old = λ s e. cc
runs_move topology before step n p q was fit h (ends x y final) old = λ s e. by_final y final s e
  where
    by_final : (y : Place) → is_final (Some y) ≡ true → (s : StageNo) → Some y ≡ Some (Running s) → rank topology s ≡ 1
    by_final (Acked o) f s e = cc
    by_final _ f s e = cc

-- a message runs at level 2
pub runs_low : (topology : Topology) (before : History) (n : ℕ) → Fits topology → is_legal topology before ≡ true → (s : StageNo) → place topology before n ≡ Some (Running s) → rank topology s ≡ 1
runs_low topology [] n fit h = λ s e. cc
runs_low topology (step ∷ before) n fit h =
    runs_move topology before step n (place topology before n) (place topology (step ∷ before) n) refl fit h (move_by topology before step n) (runs_low topology before n fit (legal_before topology before step h))

-- and in no other stage
pub none_runs : (topology : Topology) (before : History) (s : StageNo) → Fits topology → is_legal topology before ≡ true → (rank topology s ≡ 1 → ⊥) → (n : ℕ) → runs_in s (place topology before n) ≡ false
none_runs topology before s fit h never n = either (runs_in s (place topology before n)) refl
  where
    either : (b : Bool) → runs_in s (place topology before n) ≡ b → b ≡ false
    either false e = refl
    either true e = absurd (never (runs_low topology before n fit h s (runs_here s (place topology before n) e)))

pub nothing_runs : (topology : Topology) (before : History) (s : StageNo) → Fits topology → is_legal topology before ≡ true → (rank topology s ≡ 1 → ⊥) → running topology before s ≡ []
nothing_runs topology before s fit h never =
    filter_none (λ n. runs_in s (place topology before n)) (map (λ d. d.1) (sent_to topology before s))
    (each_always (λ n. runs_in s (place topology before n) ≡ false) (none_runs topology before s fit h never) (map (λ d. d.1) (sent_to topology before s)))
