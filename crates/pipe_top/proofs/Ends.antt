-- How the sources of a legal journal ended.
use Rattle.std.proofs.Common.{◌≡◌, ◌≤◌, [], ◌∷◌, Bool, true, false, refl, sym, ap, ◌∙◌, subst, inl, inr, Option, Some, None, arith}
use Rattle.std.specs.Prelude.{◌⊎◌, ◌&&◌, ◌||◌, ◌==◌, not, if◌then◌else◌, is_some}
use Rattle.std.proofs.lemmas.Bool.{eqb-true}
use Rattle.pipe_types.specs.declared.numbers.StageNo.{StageNo}
use Rattle.pipe_types.specs.declared.topology.Topology.{Topology}
use Rattle.pipe_types.specs.declared.step.SourceHow.{SourceHow}
use Rattle.pipe_types.specs.declared.step.SourceHow.TheVariants as how
use Rattle.pipe_types.specs.declared.step.LateAnswer.TheVariants as late
use Rattle.pipe_types.specs.declared.step.Step.{Step}
use Rattle.pipe_types.specs.declared.step.Step.TheVariants.{SourceEnd, Late}
use Rattle.pipe_types.specs.Numbers.{stage, post, same_stage}
use Rattle.pipe_types.specs.Sound.{IsSound}
use Rattle.pipe_model.specs.History.{History, controls}
use Rattle.pipe_model.specs.Lives.{is_live}
use Rattle.pipe_model.specs.Posts.{is_out}
use Rattle.pipe_model.specs.Outside.{source_end}
use Rattle.pipe_model.specs.Legal.{is_legal, allows, happened, has_ended, has_role, is_current, is_limit, is_producer_role, late_fits, same_truth}
use Rattle.journal_texts.specs.Report.{is_fault, is_source_fault}
use Rattle.pipe_laws.proofs.Allowed.{legal_before, legal_step, late_facts, unowed}
use Rattle.pipe_laws.proofs.Tests.{and_left, and_right, clash, not_true, same_stage-flip, same_stage-self, same_stage-true}
use Rattle.queue_laws.proofs.Late.{producer_slot}
use Rattle.stage_laws.proofs.Numbering.{numbered_topology}
use Rattle.count_laws.proofs.Crashes.{ended_rests}
use Rattle.body_laws.proofs.Posts.{some_role}
use Rattle.body_laws.proofs.Steps.{current_out, end_facts}

-- the source ended since a limit was reached
abbrev pub ends_limited : Option SourceHow → Bool
ends_limited None = false
ends_limited (Some how) = is_limit how

-- the source of a producer ended with a fault or with a line that is too long
pub record EndsBadly (topology : Topology) (before : History) : Type 0 where
  pub at : StageNo
  pub ended : SourceHow
  pub role : has_role topology at is_producer_role ≡ true
  pub end : source_end before at ≡ Some ended
  pub bad : is_fault ended ≡ true

-- the control source ended so
pub record ControlEndsBadly (before : History) : Type 0 where
  pub ended : SourceHow
  pub end : source_end before (stage 0) ≡ Some ended
  pub bad : is_fault ended ≡ true

-- a producer is not stage 0, which is the control source
pub producer_inner : (topology : Topology) (s : StageNo) → IsSound topology → has_role topology s is_producer_role ≡ true → same_stage s (stage 0) ≡ false
producer_inner topology s sound role = either (same_stage s (stage 0)) refl
  where
    low : 1 ≤ s.0
    low =
        let found = some_role topology s is_producer_role role in
        ((numbered_topology topology sound).within s found.0 found.1).0

    either : (b : Bool) → same_stage s (stage 0) ≡ b → same_stage s (stage 0) ≡ false
    either false e = e
    either true e = let is : s.0 ≡ 0 = eqb-true s.0 0 e in absurd (omega (arith, is, low))

-- ---- an end stays

same_either_way : (s t : StageNo) → same_stage s t ≡ same_stage t s
same_either_way s t = either (same_stage s t) refl (same_stage t s) refl
  where
    either : (a : Bool) → same_stage s t ≡ a → (b : Bool) → same_stage t s ≡ b → same_stage s t ≡ same_stage t s
    either true e true f = e ∙ sym f
    either false e false f = e ∙ sym f
    either true e false f = clash (same_stage t s) (same_stage-flip s t e) f
    either false e true f = clash (same_stage s t) (same_stage-flip t s f) e

-- the tests of whether a source has ended agree
pub ended_as : (before : History) (s : StageNo) → is_some (source_end before s) ≡ has_ended before s
ended_as [] s = refl
ended_as (step ∷ before) s = by_step step (ended_as before s)
  where
    by_end : (a b : Bool) (ended : SourceHow) → a ≡ b → is_some (source_end before s) ≡ has_ended before s → is_some (if a then Some ended else source_end before s) ≡ (b || has_ended before s)
    by_end true true ended e old = refl
    by_end false false ended e old = old
    by_end true false ended e old = cc
    by_end false true ended e old = cc

    by_step : (step : Step) → is_some (source_end before s) ≡ has_ended before s → is_some (source_end (step ∷ before) s) ≡ has_ended (step ∷ before) s
    by_step (SourceEnd t ended) old = by_end (same_stage t s) (same_stage s t) ended (same_either_way t s) old
    by_step (Late t slot i (late.Source ended)) old = by_end (same_stage t s) (same_stage s t) ended (same_either_way t s) old
    by_step _ old = old

-- the source of a producer ends once
pub end_stays : (topology : Topology) (before : History) (step : Step) (s : StageNo) (ended : SourceHow) → is_legal topology (step ∷ before) ≡ true → has_role topology s is_producer_role ≡ true → same_stage s (stage 0) ≡ false
    → source_end before s ≡ Some ended → source_end (step ∷ before) s ≡ Some ended
end_stays topology before step s ended legal role inner is = by_step step legal
  where
    rests : is_out before (post s 0) ≡ false
    rests = ended_rests topology before s (legal_before topology before step legal) role inner (sym (ended_as before s) ∙ ap is_some is)

    by_end : (b : Bool) (now : SourceHow) → (b ≡ true → is_out before (post s 0) ≡ true) → (if b then Some now else source_end before s) ≡ Some ended
    by_end true now out = clash (is_out before (post s 0)) (out refl) rests
    by_end false now out = is

    by_step : (step : Step) → is_legal topology (step ∷ before) ≡ true → source_end (step ∷ before) s ≡ Some ended
    by_step (SourceEnd t now) legal = by_end (same_stage t s) now out
      where
        out : same_stage t s ≡ true → is_out before (post s 0) ≡ true
        out e =
            let st : t ≡ s = same_stage-true t s e in
            let off : same_stage t (stage 0) ≡ false = subst (λ x. same_stage x (stage 0) ≡ false) (sym st) inner in
            let facts = end_facts topology before t now off (legal_step topology before (SourceEnd t now) legal) in
            subst (λ x. is_out before (post x 0) ≡ true) st (current_out before t 0 facts.current)
    by_step (Late t slot i (late.Source now)) legal = by_end (same_stage t s) now out
      where
        out : same_stage t s ≡ true → is_out before (post s 0) ≡ true
        out e =
            let st : t ≡ s = same_stage-true t s e in
            let facts = late_facts topology before t slot i (late.Source now) (legal_step topology before (Late t slot i (late.Source now)) legal) in
            let here : has_role topology t is_producer_role ≡ true = subst (λ x. has_role topology x is_producer_role ≡ true) (sym st) role in
            let first : slot ≡ 0 = producer_slot topology before t slot (legal_before topology before (Late t slot i (late.Source now)) legal) here facts.out in
            subst (λ x. is_out before (post x 0) ≡ true) st (subst (λ n. is_out before (post t n) ≡ true) first facts.out)
    by_step _ legal = is

late_producer : (topology : Topology) (before : History) (t : StageNo) (ended : SourceHow) → late_fits topology before t (late.Source ended) ≡ true → has_role topology t is_producer_role ≡ true
late_producer topology before t how.End fits = fits
late_producer topology before t how.Fault fits = fits
late_producer topology before t how.TooLong fits = fits
late_producer topology before t how.Limit fits = cc

-- the control source ends once
control_open : (topology : Topology) (before : History) (t : StageNo) (ended : SourceHow) → same_stage t (stage 0) ≡ true → allows topology before (SourceEnd t ended) ≡ true → has_ended before t ≡ false
control_open topology before t ended on allowed = by_stage (same_stage t (stage 0)) on (unowed topology before (SourceEnd t ended) (λ u. refl) (λ u. refl) allowed)
  where
    by_stage : (b : Bool) → b ≡ true → (if b then not (has_ended before t) && same_truth (is_limit ended) (controls before == 10000) else is_live topology before t && (has_role topology t is_producer_role && (is_current before t 0 && not (is_limit ended)))) ≡ true → has_ended before t ≡ false
    by_stage true e k = not_true (has_ended before t) (and_left (not (has_ended before t)) _ k)
    by_stage false e k = cc

control_end_stays : (topology : Topology) (before : History) (step : Step) (ended : SourceHow) → IsSound topology → is_legal topology (step ∷ before) ≡ true → source_end before (stage 0) ≡ Some ended → source_end (step ∷ before) (stage 0) ≡ Some ended
control_end_stays topology before step ended sound legal is = by_step step legal
  where
    over : has_ended before (stage 0) ≡ true
    over = sym (ended_as before (stage 0)) ∙ ap is_some is

    by_end : (b : Bool) (now : SourceHow) → (b ≡ true → has_ended before (stage 0) ≡ false) → (if b then Some now else source_end before (stage 0)) ≡ Some ended
    by_end true now unended = clash (has_ended before (stage 0)) over (unended refl)
    by_end false now unended = is

    by_step : (step : Step) → is_legal topology (step ∷ before) ≡ true → source_end (step ∷ before) (stage 0) ≡ Some ended
    by_step (SourceEnd t now) legal = by_end (same_stage t (stage 0)) now unended
      where
        unended : same_stage t (stage 0) ≡ true → has_ended before (stage 0) ≡ false
        unended e = subst (λ x. has_ended before x ≡ false) (same_stage-true t (stage 0) e) (control_open topology before t now e (legal_step topology before (SourceEnd t now) legal))
    by_step (Late t slot i (late.Source now)) legal =
        let facts = late_facts topology before t slot i (late.Source now) (legal_step topology before (Late t slot i (late.Source now)) legal) in
        by_end (same_stage t (stage 0)) now
        (λ e. clash (same_stage t (stage 0)) e (producer_inner topology t sound (late_producer topology before t now facts.fits)))
    by_step _ legal = is

-- ---- no producer ends at a limit

end_unlimited : (topology : Topology) (before : History) (t : StageNo) (ended : SourceHow) → same_stage t (stage 0) ≡ false → allows topology before (SourceEnd t ended) ≡ true → is_limit ended ≡ false
end_unlimited topology before t ended off allowed = by_stage (same_stage t (stage 0)) off (unowed topology before (SourceEnd t ended) (λ u. refl) (λ u. refl) allowed)
  where
    by_stage : (b : Bool) → b ≡ false → (if b then not (has_ended before t) && same_truth (is_limit ended) (controls before == 10000) else is_live topology before t && (has_role topology t is_producer_role && (is_current before t 0 && not (is_limit ended)))) ≡ true → is_limit ended ≡ false
    by_stage true e k = cc
    by_stage false e k = not_true (is_limit ended) (and_right (is_current before t 0) _ (and_right (has_role topology t is_producer_role) _ (and_right (is_live topology before t) _ k)))

late_unlimited : (topology : Topology) (before : History) (t : StageNo) (ended : SourceHow) → late_fits topology before t (late.Source ended) ≡ true → is_limit ended ≡ false
late_unlimited topology before t how.End fits = refl
late_unlimited topology before t how.Fault fits = refl
late_unlimited topology before t how.TooLong fits = refl
late_unlimited topology before t how.Limit fits = cc

pub never_limited : (topology : Topology) (before : History) (s : StageNo) → is_legal topology before ≡ true → same_stage s (stage 0) ≡ false → ends_limited (source_end before s) ≡ false
never_limited topology [] s legal inner = refl
never_limited topology (step ∷ before) s legal inner = by_step step legal (never_limited topology before s (legal_before topology before step legal) inner)
  where
    by_end : (b : Bool) (now : SourceHow) → (b ≡ true → is_limit now ≡ false) → ends_limited (source_end before s) ≡ false → ends_limited (if b then Some now else source_end before s) ≡ false
    by_end true now fine old = fine refl
    by_end false now fine old = old

    by_step : (step : Step) → is_legal topology (step ∷ before) ≡ true → ends_limited (source_end before s) ≡ false → ends_limited (source_end (step ∷ before) s) ≡ false
    by_step (SourceEnd t now) legal old =
        by_end (same_stage t s) now
        (λ e. end_unlimited topology before t now (subst (λ x. same_stage x (stage 0) ≡ false) (sym (same_stage-true t s e)) inner) (legal_step topology before (SourceEnd t now) legal)) old
    by_step (Late t slot i (late.Source now)) legal old =
        by_end (same_stage t s) now
        (λ e. late_unlimited topology before t now (late_facts topology before t slot i (late.Source now) (legal_step topology before (Late t slot i (late.Source now)) legal)).fits) old
    by_step _ legal old = old

-- ---- faults

-- where a source ended with a fault or with a line that is too long, it was the control source or a producer's
pub faults_show : (topology : Topology) (before : History) → IsSound topology → is_legal topology before ≡ true → happened is_source_fault before ≡ true
    → ControlEndsBadly before ⊎ EndsBadly topology before
faults_show topology [] sound legal h = cc
faults_show topology (step ∷ before) sound legal h =
    by_fault (is_source_fault step) refl h (faults_show topology before sound (legal_before topology before step legal))
  where
    ended_here : (t : StageNo) (ended : SourceHow) → (if same_stage t t then Some ended else source_end before t) ≡ Some ended
    ended_here t ended = rw (same_stage-self t) refl

    by_stage : (t : StageNo) (now : SourceHow) (b : Bool) → same_stage t (stage 0) ≡ b → is_legal topology (SourceEnd t now ∷ before) ≡ true → is_fault now ≡ true
        → ControlEndsBadly (SourceEnd t now ∷ before) ⊎ EndsBadly topology (SourceEnd t now ∷ before)
    by_stage t now true e legal bad = inl (record { ended = now; end = rw e refl; bad = bad })
    by_stage t now false e legal bad = inr (record {
      at = t;
      ended = now;
      role = (end_facts topology before t now e (legal_step topology before (SourceEnd t now) legal)).role;
      end = ended_here t now;
      bad = bad;
    })

    by_step : (step : Step) → is_legal topology (step ∷ before) ≡ true → is_source_fault step ≡ true → ControlEndsBadly (step ∷ before) ⊎ EndsBadly topology (step ∷ before)
    by_step (SourceEnd t now) legal bad = by_stage t now (same_stage t (stage 0)) refl legal bad
    by_step (Late t slot i (late.Source now)) legal bad = inr (record {
      at = t;
      ended = now;
      role = late_producer topology before t now (late_facts topology before t slot i (late.Source now) (legal_step topology before (Late t slot i (late.Source now)) legal)).fits;
      end = ended_here t now;
      bad = bad;
    })
    by_step _ legal bad = cc

    kept : ControlEndsBadly before ⊎ EndsBadly topology before → ControlEndsBadly (step ∷ before) ⊎ EndsBadly topology (step ∷ before)
    kept (inl b) = inl (record {
      ended = b.ended;
      end = control_end_stays topology before step b.ended sound legal b.end;
      bad = b.bad;
    })
    kept (inr b) = inr (record {
      at = b.at;
      ended = b.ended;
      role = b.role;
      end = end_stays topology before step b.at b.ended legal b.role (producer_inner topology b.at sound b.role) b.end;
      bad = b.bad;
    })

    by_fault : (b : Bool) → is_source_fault step ≡ b → (b || happened is_source_fault before) ≡ true
        → (happened is_source_fault before ≡ true → ControlEndsBadly before ⊎ EndsBadly topology before)
        → ControlEndsBadly (step ∷ before) ⊎ EndsBadly topology (step ∷ before)
    by_fault true e h old = by_step step legal e
    by_fault false e h old = kept (old h)
