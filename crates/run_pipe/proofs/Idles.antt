-- Rows of quiet answers behind a hold.
use Rattle.std.proofs.Common.{◌≡◌, ◌≤◌, ◌<◌, ℕ, [], ◌∷◌, ◌++◌, Bool, true, false, if◌then◌else◌, refl, sym, ap, ◌∙◌, subst, Some, None, Option}
use Rattle.std.specs.Prelude.{◌||◌, ◌&&◌, not, nat_le, find, option_map}
use Rattle.std.proofs.lemmas.Bool.{leb-false, le-leb}
use Rattle.pipe_types.specs.declared.step.DrainCause.TheVariants.{Sources, Limit, Idle}
use Rattle.pipe_types.specs.declared.step.Step.{Step}
use Rattle.pipe_types.specs.declared.step.Step.TheVariants.{Accept, Done, Wrote, Drain, Halt, Restart, Tick}
use Rattle.pipe_types.specs.declared.message.BatchEnd.TheVariants.{Crashed as BatchCrashed}
use Rattle.pipe_types.specs.declared.topology.StageSpec.{StageSpec}
use Rattle.pipe_types.specs.declared.topology.Topology.{Topology}
use Rattle.pipe_types.specs.Sound.{IsSound}
use Rattle.pipe_model.specs.Begins.{BeginsWith}
use Rattle.pipe_model.specs.Content.{has_crash}
use Rattle.pipe_model.specs.History.{History}
use Rattle.pipe_model.specs.Legal.{allows, passes, owed, may_come, may_dispatch, is_legal, is_late, is_dispatch_of, is_crash_of, happened, is_drain, is_halt, needs_restart, no_post_out, may_restart, quiet_row}
use Rattle.pipe_model.specs.Moves.{Move, Halted, Drained, StepMove, JobsOut, or_else, if_so, when, is_drained, jobs_out, first_move, move_or_pause, move}
use Rattle.pipe_laws.proofs.Allowed.{legal_before, legal_step}
use Rattle.pipe_laws.proofs.Tests.{and_right, both}
use Rattle.move_laws.proofs.Laws.{pause_law}
use Rattle.move_laws.proofs.Legality.{may_allow, going_move}
use Rattle.stage_holds.specs.Nexts.{HasPausedAt}
use Rattle.stage_holds.specs.Rows.{RowsWithin, KeepsRows}
use Rattle.run_pipe.specs.Idle.{HasIdleRows, IsIdle}

-- ---- along a journal

or_none : (a b : Bool) → (a || b) ≡ false → b ≡ false
or_none true b e = cc
or_none false b e = e

or_some : (a b : Bool) → b ≡ true → (a || b) ≡ true
or_some true b e = refl
or_some false b e = e

clash : {A : Type 0} (b : Bool) → b ≡ true → b ≡ false → A
clash true e f = cc
clash false e f = cc

-- until then the rows are all rows
within : (limit : ℕ) (h : History) → HasIdleRows limit h → happened is_drain h ≡ false → happened is_halt h ≡ false → RowsWithin limit h
within limit [] rows undrained going = tt
within limit (step ∷ before) rows undrained going =
    let undrained' = or_none (is_drain step) (happened is_drain before) undrained in
    let going' = or_none (is_halt step) (happened is_halt before) going in
    (within limit before rows.0 undrained' going', rows.1 undrained' going')

idle_rows : (limit : ℕ) (h : History) → RowsWithin limit h → HasIdleRows limit h
idle_rows limit [] rows = tt
idle_rows limit (step ∷ before) rows = (idle_rows limit before rows.0, λ undrained going. rows.1)

happens_on : (test : Step → Bool) (later old : History) → happened test old ≡ true → happened test (later ++ old) ≡ true
happens_on test [] old e = e
happens_on test (step ∷ later) old e = or_some (test step) (happened test (later ++ old)) (happens_on test later old e)

-- behind the drain, or a halt, nothing is said of the rows
drained_rows : (limit : ℕ) (later old : History) → happened is_drain old ≡ true → HasIdleRows limit old → HasIdleRows limit (later ++ old)
drained_rows limit [] old e rows = rows
drained_rows limit (step ∷ later) old e rows = (drained_rows limit later old e rows, λ undrained going. clash (happened is_drain (later ++ old)) (happens_on is_drain later old e) undrained)

halted_rows : (limit : ℕ) (later old : History) → happened is_halt old ≡ true → HasIdleRows limit old → HasIdleRows limit (later ++ old)
halted_rows limit [] old e rows = rows
halted_rows limit (step ∷ later) old e rows = (halted_rows limit later old e rows, λ undrained going. clash (happened is_halt (later ++ old)) (happens_on is_halt later old e) going)

pub idle_on : {H : Type 0} (limit : ℕ) (brought : Option H) (old new : History) → BeginsWith new old → 1 ≤ limit → KeepsRows limit brought old new → IsIdle limit old
    → (happened is_drain new ≡ false → happened is_halt new ≡ false → quiet_row new < limit) → IsIdle limit new
idle_on limit brought old new begins some keeps idle below = record { rows = by (happened is_drain old) refl (happened is_halt old) refl; below = below }
  where
    there : HasIdleRows limit (begins.later ++ old) → HasIdleRows limit new
    there rows = subst (λ (h : History). HasIdleRows limit h) (sym begins.is) rows

    by : (a : Bool) → happened is_drain old ≡ a → (b : Bool) → happened is_halt old ≡ b → HasIdleRows limit new
    by true e b f = there (drained_rows limit begins.later old e idle.rows)
    by false e true f = there (halted_rows limit begins.later old f idle.rows)
    by false e false f = idle_rows limit new (keeps some (λ brings. idle.below e f) (within limit old idle.rows e f))

-- ---- where a pipeline waits for jobs

abbrev is_waiting : Move → Bool
is_waiting JobsOut = true
is_waiting _ = false

-- another move comes, or none of these
abbrev IsOther : Option Move → Type 0
IsOther None = ⊥
IsOther (Some m) = is_waiting m ≡ false

abbrev IsPlain : Option Move → Type 0
IsPlain None = Unit {0}
IsPlain (Some m) = is_waiting m ≡ false

plain_else : (a b : Option Move) → IsPlain a → IsOther b → IsOther (or_else a b)
plain_else None b p o = o
plain_else (Some m) b p o = p

here_else : (b : Bool) (m : Move) (rest : Option Move) → b ≡ true → is_waiting m ≡ false → IsOther (or_else (if_so b m) rest)
here_else true m rest e other = other
here_else false m rest e other = cc

plain_if : (b : Bool) (m : Move) → is_waiting m ≡ false → IsPlain (if_so b m)
plain_if true m other = other
plain_if false m other = tt

plain_found : (make : StageSpec → Move) → ((spec : StageSpec) → is_waiting (make spec) ≡ false) → (o : Option StageSpec) → IsPlain (option_map make o)
plain_found make other None = tt
plain_found make other (Some spec) = other spec

other_move : (o : Option Move) → IsOther o → is_waiting (move_or_pause o) ≡ false
other_move None p = absurd p
other_move (Some m) p = p

-- where the drain may begin since the sources are idle, no pipeline waits
drains_first : (topology : Topology) (before : History) → allows topology before (Drain Idle) ≡ true → IsOther (first_move topology before)
drains_first topology before may =
    plain_else (if_so (happened is_halt before && not (jobs_out topology before)) Halted) _ (plain_if (happened is_halt before && not (jobs_out topology before)) Halted refl)
    (plain_else (if_so (is_drained topology before) Drained) _ (plain_if (is_drained topology before) Drained refl)
    (plain_else (when (λ spec. needs_restart topology before spec.no && no_post_out topology before spec.no) (λ spec. StepMove (if may_restart topology before spec.no then Restart spec.no else Halt)) topology.stages) _
    (plain_found (λ spec. StepMove (if may_restart topology before spec.no then Restart spec.no else Halt)) (λ spec. refl) (find (λ spec. needs_restart topology before spec.no && no_post_out topology before spec.no) topology.stages))
    (plain_else (if_so (allows topology before (Drain Sources)) (StepMove (Drain Sources))) _ (plain_if (allows topology before (Drain Sources)) (StepMove (Drain Sources)) refl)
    (plain_else (if_so (allows topology before (Drain Limit)) (StepMove (Drain Limit))) _ (plain_if (allows topology before (Drain Limit)) (StepMove (Drain Limit)) refl)
    (here_else (allows topology before (Drain Idle)) (StepMove (Drain Idle)) _ may refl)))))

-- so fewer quiet answers stand in a row than the idle limit
pub waiting_row : (topology : Topology) (before : History) → owed topology before ≡ None → happened is_drain before ≡ false → happened is_halt before ≡ false → move topology before ≡ JobsOut → 1 ≤ topology.idle_limit → quiet_row before < topology.idle_limit
waiting_row topology before free undrained going is some = by_row (nat_le topology.idle_limit (quiet_row before)) refl
  where
    other : allows topology before (Drain Idle) ≡ true → is_waiting (move topology before) ≡ false
    other may = ap is_waiting (going_move topology before going) ∙ other_move (first_move topology before) (drains_first topology before may)

    by_row : (b : Bool) → nat_le topology.idle_limit (quiet_row before) ≡ b → quiet_row before < topology.idle_limit
    by_row false e = leb-false topology.idle_limit (quiet_row before) e
    by_row true e =
        clash (is_waiting (move topology before)) (ap is_waiting is)
        (other (may_allow topology before (Drain Idle) free going (both (not (happened is_drain before)) _ (ap not undrained) (both (nat_le 1 topology.idle_limit) _ (le-leb 1 topology.idle_limit some) e))))

-- ---- where it paused

free_if : (b : Bool) (test : Step → Bool) (step : Step) (otherwise : Bool) → test step ≡ false → passes (if b then Some test else None) step otherwise ≡ true → (if b then Some test else None) ≡ None
free_if true test step otherwise refused h = cc
free_if false test step otherwise refused h = refl

tick_free : (topology : Topology) (before : History) (t : ℕ) (otherwise : Bool) → passes (owed topology before) (Tick t) otherwise ≡ true → owed topology before ≡ None
tick_free topology [] t otherwise h = refl
tick_free topology (Accept s records ∷ before) t otherwise h = free_if (may_dispatch topology (Accept s records ∷ before) s) (is_dispatch_of s) (Tick t) otherwise refl h
tick_free topology (Done s replies ∷ before) t otherwise h = free_if (has_crash replies) (is_crash_of s) (Tick t) otherwise refl h
tick_free topology (Wrote s bytes BatchCrashed ∷ before) t otherwise h = cc
tick_free topology (_ ∷ before) t otherwise h = refl

pub paused_row : (topology : Topology) (steps : History) → IsSound topology → is_legal topology steps ≡ true → HasPausedAt topology steps → 1 ≤ topology.idle_limit → quiet_row steps < topology.idle_limit
paused_row topology steps sound legal paused limit =
    let here : is_legal topology (Tick paused.time ∷ paused.before) ≡ true = subst (λ (h : History). is_legal topology h ≡ true) paused.is legal in
    let before = paused.before in
    let free =
    tick_free topology before paused.time (may_come topology before (Tick paused.time))
    (and_right (not (happened is_halt before) || is_late (Tick paused.time)) (passes (owed topology before) (Tick paused.time) (may_come topology before (Tick paused.time))) (legal_step topology before (Tick paused.time) here)) in
    subst (λ (h : History). quiet_row h < topology.idle_limit) (sym paused.is) ((pause_law topology before sound (legal_before topology before (Tick paused.time) here) free paused.pause).idle limit)
