-- A stage that is not there does nothing, and a fetch is of as many records as it may bring.
use Rattle.std.proofs.Common.{◌≡◌, ℕ, Bool, true, false, refl, ap, sym, ◌∙◌, None}
use Rattle.std.specs.Prelude.{◌&&◌, ◌||◌, ◌==◌, not, is_some, is_none, nat_le, nat_lt}
use Rattle.pipe_types.specs.declared.numbers.StageNo.{StageNo}
use Rattle.pipe_types.specs.declared.topology.Topology.{Topology}
use Rattle.pipe_types.specs.declared.step.Step.TheVariants.{Fetch}
use Rattle.pipe_types.specs.Numbers.{post}
use Rattle.pipe_types.specs.Stages.{spec_of}
use Rattle.pipe_model.specs.History.{History, accepted_bytes}
use Rattle.pipe_model.specs.Posts.{is_out}
use Rattle.pipe_model.specs.Lives.{is_live, death}
use Rattle.pipe_model.specs.Flow.{is_empty, deliveries, alone, lost_over, view_of}
use Rattle.pipe_model.specs.Legal.{may_come, may_dispatch, bound, has_role, is_producer_role, has_ended, rests, happened, is_drain}

pub unfound : (topology : Topology) (before : History) (s : StageNo) → spec_of topology s ≡ None → is_live topology before s ≡ false
unfound topology before s none = ap (λ o. is_some o && is_none (death topology before s)) none

pub unfound_dispatch : (topology : Topology) (before : History) (s : StageNo) → spec_of topology s ≡ None → false ≡ may_dispatch topology before s
unfound_dispatch topology before s none =
    sym (ap (λ b. b && (not (is_empty (deliveries topology before s)) || (not (is_empty (alone topology before s)) || not (is_empty (lost_over topology before (view_of topology before) s))))) (unfound topology before s none))

-- a fetch of another count may not come
pub other_count : (topology : Topology) (before : History) (s : StageNo) (n : ℕ) → (n == bound topology before s) ≡ false → false ≡ may_come topology before (Fetch s n)
other_count topology before s n other =
    sym (ap (λ b. is_live topology before s && (has_role topology s is_producer_role && (not (has_ended before s) && (not (is_out before (post s 0)) && (not (rests before s) && (not (happened is_drain before) && (nat_lt (accepted_bytes before) topology.byte_limit && (nat_le 1 n && b)))))))) other
    ∙ none (is_live topology before s) (has_role topology s is_producer_role) (not (has_ended before s)) (not (is_out before (post s 0))) (not (rests before s)) (not (happened is_drain before)) (nat_lt (accepted_bytes before) topology.byte_limit) (nat_le 1 n))
  where
    off : (a : Bool) {b : Bool} → b ≡ false → (a && b) ≡ false
    off true e = e
    off false e = refl

    none : (a b c d e f g h : Bool) → (a && (b && (c && (d && (e && (f && (g && (h && false)))))))) ≡ false
    none a b c d e f g h = off a (off b (off c (off d (off e (off f (off g (off h refl)))))))
