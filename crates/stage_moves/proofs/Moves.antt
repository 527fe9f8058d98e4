-- A step that comes next is one of the pipeline's own.
use Rattle.std.proofs.Common.{◌≡◌, ℕ, List, [], ◌∷◌, Bool, true, false, refl, subst, Some, None, Option}
use Rattle.std.specs.Prelude.{if◌then◌else◌, not, ◌==◌, ◌&&◌, filter, find, option_map, nat_lt, reverse}
use Rattle.pipe_types.specs.declared.numbers.StageNo.{StageNo}
use Rattle.pipe_types.specs.declared.topology.Topology.{Topology}
use Rattle.pipe_types.specs.declared.topology.StageSpec.{StageSpec}
use Rattle.pipe_types.specs.declared.message.Trigger.{Trigger}
use Rattle.pipe_types.specs.declared.step.DrainCause.TheVariants.{Sources, Limit, Control, Idle}
use Rattle.pipe_types.specs.declared.step.Step.{Step}
use Rattle.pipe_types.specs.declared.step.Step.TheVariants.{Ask, Dispatch, Gather, Close, Restart, Drain, Halt}
use Rattle.pipe_types.specs.Numbers.{message_no}
use Rattle.pipe_model.specs.History.{History}
use Rattle.pipe_model.specs.Content.{gathers}
use Rattle.pipe_model.specs.Ledger.{due}
use Rattle.pipe_model.specs.Flow.{place, view_of, inbox, closing, first_in, is_gathered_in}
use Rattle.pipe_model.specs.Legal.{allows, needs_restart, no_post_out, may_restart, happened, is_halt, trigger_of, first_unit}
use Rattle.pipe_model.specs.Moves.{Move, Halted, Drained, StepMove, Job, JobsOut, or_else, if_so, jobs_out, is_drained, all_subs, first_closable, closable, has_job, first_move, move_or_pause, move}

-- the step is one that a next move names
abbrev pub is_named : Step → Bool
is_named (Ask u n) = true
is_named (Dispatch s) = true
is_named (Gather s m) = true
is_named (Close s first trigger) = true
is_named (Restart s) = true
is_named (Drain Control) = false
is_named (Drain cause) = true
is_named Halt = true
is_named _ = false

abbrev IsOwn : Move → Type 0
IsOwn (StepMove step) = is_named step ≡ true
IsOwn _ = Unit {0}

abbrev OfMove : Option Move → Type 0
OfMove None = Unit {0}
OfMove (Some m) = IsOwn m

own_else : (a b : Option Move) → OfMove a → OfMove b → OfMove (or_else a b)
own_else None b p q = q
own_else (Some m) b p q = p

own_if : (b : Bool) (m : Move) → IsOwn m → OfMove (if_so b m)
own_if true m f = f
own_if false m f = tt

own_find : {A : Type 0} (test : A → Bool) (make : A → Move) (xs : List A) → ((x : A) → IsOwn (make x)) → OfMove (option_map make (find test xs))
own_find {A = A} test make xs f = of_found (find test xs)
  where
    of_found : (o : Option A) → OfMove (option_map make o)
    of_found None = tt
    of_found (Some x) = f x

restart_or_halt : (b : Bool) (s : StageNo) → IsOwn (StepMove (if b then Restart s else Halt))
restart_or_halt true s = refl
restart_or_halt false s = refl

own_first : (topology : Topology) (before : History) (s : StageNo) (xs : List ℕ) → OfMove (first_closable topology before s xs)
own_first topology before s [] = tt
own_first topology before s (n ∷ ns) =
    by_first (first_in (closing before (view_of topology before) s n) == n) refl (trigger_of topology before s (closing before (view_of topology before) s n)) refl (own_first topology before s ns)
  where
    by_first : (b : Bool) → (first_in (closing before (view_of topology before) s n) == n) ≡ b → (o : Option Trigger) → trigger_of topology before s (closing before (view_of topology before) s n) ≡ o → OfMove (first_closable topology before s ns) → OfMove (first_closable topology before s (n ∷ ns))
    by_first false e o f rest = rw e rest
    by_first true e None f rest = rw (e, f) rest
    by_first true e (Some trigger) f rest = rw (e, f) refl

own_closable : (topology : Topology) (before : History) (specs : List StageSpec) → OfMove (closable topology before specs)
own_closable topology before [] = tt
own_closable topology before (spec ∷ specs) =
    own_else (first_closable topology before spec.no (filter (λ n. is_gathered_in spec.no (place topology before n)) (gathers before spec.no))) (closable topology before specs)
    (own_first topology before spec.no (filter (λ n. is_gathered_in spec.no (place topology before n)) (gathers before spec.no))) (own_closable topology before specs)

own_of_first : (topology : Topology) (before : History) → OfMove (first_move topology before)
own_of_first topology before =
    own_else _ _ (own_if (happened is_halt before && not (jobs_out topology before)) Halted tt)
    (own_else _ _ (own_if (is_drained topology before) Drained tt)
    (own_else _ _ (own_find (λ spec. needs_restart topology before spec.no && no_post_out topology before spec.no) (λ spec. StepMove (if may_restart topology before spec.no then Restart spec.no else Halt)) topology.stages (λ spec. restart_or_halt (may_restart topology before spec.no) spec.no))
    (own_else _ _ (own_if (allows topology before (Drain Sources)) (StepMove (Drain Sources)) refl)
    (own_else _ _ (own_if (allows topology before (Drain Limit)) (StepMove (Drain Limit)) refl)
    (own_else _ _ (own_if (allows topology before (Drain Idle)) (StepMove (Drain Idle)) refl)
    (own_else _ _ (own_find (λ u. nat_lt 0 (due topology before u)) (λ u. StepMove (Ask u (due topology before u))) (all_subs topology before) (λ u. refl))
    (own_else _ _ (own_find (λ spec. allows topology before (Dispatch spec.no)) (λ spec. StepMove (Dispatch spec.no)) topology.stages (λ spec. refl))
    (own_else _ _ (own_closable topology before topology.stages)
    (own_else _ _ (own_find (λ spec. allows topology before (Gather spec.no (message_no (first_unit (inbox topology before spec.no))))) (λ spec. StepMove (Gather spec.no (message_no (first_unit (inbox topology before spec.no))))) topology.stages (λ spec. refl))
    (own_else _ _ (own_find (has_job topology before) (λ spec. Job spec.no) (reverse topology.stages) (λ spec. tt))
    (own_if (jobs_out topology before) JobsOut tt)))))))))))

own_or_pause : (o : Option Move) → OfMove o → IsOwn (move_or_pause o)
own_or_pause None p = tt
own_or_pause (Some m) p = p

own_next : (b : Bool) (o : Option Move) → OfMove o → IsOwn (move_or_pause (if b then Some JobsOut else o))
own_next true o p = tt
own_next false o p = own_or_pause o p

pub named_move : (topology : Topology) (before : History) (step : Step) → move topology before ≡ StepMove step → is_named step ≡ true
named_move topology before step is =
    let own : IsOwn (move topology before) = own_next (happened is_halt before && jobs_out topology before) (first_move topology before) (own_of_first topology before) in
    subst IsOwn is own
