-- What a step leaves as it was at a post that it does not answer.
use Rattle.std.proofs.Common.{◌≡◌, ℕ, ◌≤◌, List, ◌∷◌, Bool, true, false, refl, ap, sym, ◌∙◌, subst, arith}
use Rattle.std.specs.Prelude.{not, ◌&&◌, ◌||◌, ◌==◌, if◌then◌else◌}
use Rattle.std.proofs.lemmas.Bool.{eqb-true, eq-eqb, or_left, or_right}
use Rattle.pipe_types.specs.declared.numbers.StageNo.{StageNo}
use Rattle.pipe_types.specs.declared.numbers.Post.{Post}
use Rattle.pipe_types.specs.declared.step.SourceHow.{SourceHow}
use Rattle.pipe_types.specs.declared.step.SourceHow.TheVariants as how
use Rattle.pipe_types.specs.declared.step.LateAnswer.TheVariants as late
use Rattle.pipe_types.specs.declared.step.Step.{Step}
use Rattle.pipe_types.specs.declared.step.Step.TheVariants.{Fetch, Take, Child, Accept, Quiet, SourceEnd, Done, Wrote, ChildEnd, Late, Restart}
use Rattle.pipe_types.specs.declared.topology.Role.{Role}
use Rattle.pipe_types.specs.declared.topology.Topology.{Topology}
use Rattle.pipe_types.specs.Numbers.{stage, post, same_stage, same_post}
use Rattle.pipe_types.specs.Sound.{IsSound}
use Rattle.pipe_model.specs.History.{History, controls}
use Rattle.pipe_model.specs.Lives.{is_live, restarts}
use Rattle.pipe_model.specs.Posts.{puts_out, answers, is_out}
use Rattle.pipe_model.specs.Outside.{fed, source_end, sink_text}
use Rattle.pipe_model.specs.Work.{count}
use Rattle.pipe_model.specs.Legal.{is_legal, allows, late_fits, has_ended, same_truth, is_limit, has_role, is_producer_role, is_processor_role, is_batch_processor_role, is_supervisor_role, is_current}
use Rattle.pipe_laws.proofs.Tests.{clash, and_left, and_right, both, same_stage-true, same_stage-self, same_stage-flip}
use Rattle.pipe_laws.proofs.Allowed.{legal_before, legal_step, unowed, take_facts, child_facts, done_facts, wrote_facts, late_facts}
use Rattle.pipe_laws.proofs.Busy.{was_live, two_roles, producer_supervises}
use Rattle.pipe_laws.proofs.Roles.{supervisor_writes}
use Rattle.pipe_laws.proofs.Idle.{processor_supervisor}
use Rattle.pipe_laws.specs.Read.{quiets}
use Rattle.stage_callback.specs.Laws.{Law}
use Rattle.pace_laws.specs.Pacing.{PaceStays}
use Rattle.pace_laws.proofs.Going.{brings, pace_stays}
use Rattle.body_laws.specs.Counts.{short_writes, calls_of, bad_of, resets_of}
use Rattle.body_laws.specs.Lawful.{IsLawfulStep}
use Rattle.body_laws.specs.Keeps.{has_post}
use Rattle.body_laws.proofs.Posts.{same_post-true, only_slot, out_has_post, no_post_of_control}

-- the step says something of the source, the sink or the count of this stage
abbrev tells_of : Step → StageNo → Bool
tells_of (Accept t records) s = same_stage t s
tells_of (Quiet t) s = same_stage t s
tells_of (SourceEnd t how) s = same_stage t s
tells_of (Done t replies) s = same_stage t s
tells_of (Wrote t bytes end) s = same_stage t s
tells_of (Late t slot i late.Nothing) s = false
tells_of (Late t slot i answer) s = same_stage t s
tells_of (Restart t) s = same_stage s t
tells_of _ s = false

fed_stays : (step : Step) (before : History) (s : StageNo) → tells_of step s ≡ false → fed (step ∷ before) s ≡ fed before s
fed_stays (Accept t records) before s e = rw e refl
fed_stays (Late t slot i (late.Records records)) before s e = rw e refl
fed_stays _ before s e = refl

end_stays : (step : Step) (before : History) (s : StageNo) → tells_of step s ≡ false → source_end (step ∷ before) s ≡ source_end before s
end_stays (SourceEnd t how) before s e = rw e refl
end_stays (Late t slot i (late.Source how)) before s e = rw e refl
end_stays _ before s e = refl

quiets_stay : (step : Step) (before : History) (s : StageNo) → tells_of step s ≡ false → quiets (step ∷ before) s ≡ quiets before s
quiets_stay (Quiet t) before s e = rw e refl
quiets_stay (Late t slot i late.Quiet) before s e = rw e refl
quiets_stay _ before s e = refl

text_stays : (topology : Topology) (step : Step) (before : History) (s : StageNo) → tells_of step s ≡ false → sink_text topology (step ∷ before) s ≡ sink_text topology before s
text_stays topology (Wrote t bytes end) before s e = rw e refl
text_stays topology (Late t slot i (late.Wrote bytes end)) before s e = rw e refl
text_stays topology _ before s e = refl

short_stays : (topology : Topology) (step : Step) (before : History) (s : StageNo) → tells_of step s ≡ false → short_writes topology (step ∷ before) s ≡ short_writes topology before s
short_stays topology (Wrote t bytes end) before s e = rw e refl
short_stays topology (Late t slot i (late.Wrote bytes end)) before s e = rw e refl
short_stays topology _ before s e = refl

pub flip : (s t : StageNo) → same_stage s t ≡ false → same_stage t s ≡ false
flip s t e = either (same_stage t s) refl
  where
    either : (b : Bool) → same_stage t s ≡ b → same_stage t s ≡ false
    either true k = clash (same_stage s t) (same_stage-flip t s k) e
    either false k = k

count_stays : (topology : Topology) (step : Step) (before : History) (s : StageNo) → tells_of step s ≡ false → count topology (step ∷ before) s ≡ count topology before s
count_stays topology (Done t replies) before s e = rw (flip t s e) refl
count_stays topology (Wrote t bytes end) before s e = rw (flip t s e) refl
count_stays topology (Restart t) before s e = rw e refl
count_stays topology _ before s e = refl

calls_stay : (step : Step) (before : History) (p : Post) → answers step p ≡ false → calls_of (step ∷ before) p ≡ calls_of before p
calls_stay (Done t replies) before p e = rw e refl
calls_stay (Wrote t bytes end) before p e = rw e refl
calls_stay (ChildEnd t slot reply) before p e = rw e refl
calls_stay _ before p e = refl

bad_stays : (step : Step) (before : History) (p : Post) → answers step p ≡ false → bad_of (step ∷ before) p ≡ bad_of before p
bad_stays (Done t replies) before p e = rw e refl
bad_stays (Wrote t bytes end) before p e = rw e refl
bad_stays (ChildEnd t slot reply) before p e = rw e refl
bad_stays _ before p e = refl

resets_stay : (topology : Topology) (step : Step) (before : History) (p : Post) → answers step p ≡ false → restarts step p.stage ≡ false → resets_of topology (step ∷ before) p ≡ resets_of topology before p
resets_stay topology (Restart t) before p e r = rw r refl
resets_stay topology (ChildEnd t slot reply) before p e r = rw e refl
resets_stay topology (Late t slot i answer) before p e r = rw e refl
resets_stay topology _ before p e r = refl

lawful_stays : (topology : Topology) (step : Step) (before : History) (p : Post) (law : Law) → tells_of step p.stage ≡ false → answers step p ≡ false → IsLawfulStep topology before step p law
lawful_stays topology (Done t replies) before p law e a = λ is. clash (same_stage t p.stage) is e
lawful_stays topology (Wrote t bytes end) before p law e a = λ is. clash (same_stage t p.stage) is e
lawful_stays topology (Late t slot i (late.Wrote bytes end)) before p law e a = λ is. clash (same_stage t p.stage) is e
lawful_stays topology (ChildEnd t slot reply) before p law e a = λ is. clash (same_post p (post t slot)) is a
lawful_stays topology _ before p law e a = tt

restart_stays : (step : Step) (s : StageNo) → tells_of step s ≡ false → restarts step s ≡ false
restart_stays (Restart t) s e = e
restart_stays _ s e = refl

-- a step that says nothing of a stage brings nothing of it
untold_brings : (step : Step) (s : StageNo) → tells_of step s ≡ false → brings step s ≡ false
untold_brings (Accept t records) s e = e
untold_brings (Quiet t) s e = e
untold_brings (Late t slot i (late.Records records)) s e = e
untold_brings (Late t slot i late.Quiet) s e = e
untold_brings _ s e = refl

-- what the journal says of the post stays as it was
pub record Stays (topology : Topology) (before : History) (step : Step) (p : Post) : Type 0 where
  pub fed : fed (step ∷ before) p.stage ≡ fed before p.stage
  pub end : source_end (step ∷ before) p.stage ≡ source_end before p.stage
  pub quiets : quiets (step ∷ before) p.stage ≡ quiets before p.stage
  pub paced : PaceStays before (step ∷ before) p.stage
  pub text : sink_text topology (step ∷ before) p.stage ≡ sink_text topology before p.stage
  pub short : short_writes topology (step ∷ before) p.stage ≡ short_writes topology before p.stage
  pub count : count topology (step ∷ before) p.stage ≡ count topology before p.stage
  pub present : (is_live topology (step ∷ before) p.stage || is_out (step ∷ before) (post p.stage 0)) ≡ true → (is_live topology before p.stage || is_out before (post p.stage 0)) ≡ true
  pub calls : calls_of (step ∷ before) p ≡ calls_of before p
  pub bad : bad_of (step ∷ before) p ≡ bad_of before p
  pub resets : resets_of topology (step ∷ before) p ≡ resets_of topology before p
  pub lawful : (law : Law) → IsLawfulStep topology before step p law

put_live : (topology : Topology) (before : History) (step : Step) (s : StageNo) (slot : ℕ) → allows topology before step ≡ true → puts_out step (post s slot) ≡ true → is_live topology before s ≡ true
put_live topology before (Fetch t n) s slot h e =
    ap (is_live topology before) (ap (λ (p : Post). p.stage) (same_post-true (post s slot) (post t 0) e)) ∙ and_left (is_live topology before t) _ (unowed topology before (Fetch t n) (λ u. refl) (λ u. refl) h)
put_live topology before (Take t u k) s slot h e =
    ap (is_live topology before) (ap (λ (p : Post). p.stage) (same_post-true (post s slot) (post t 0) e)) ∙ (take_facts topology before t u k h).live
put_live topology before (Child t m k) s slot h e =
    ap (is_live topology before) (ap (λ (p : Post). p.stage) (same_post-true (post s slot) (post t k) e)) ∙ (child_facts topology before t m k h).live
put_live topology before step s slot h e = cc

pub is_present : (topology : Topology) (before : History) (s : StageNo) → is_live topology before s ≡ true → (is_live topology before s || is_out before (post s 0)) ≡ true
is_present topology before s h = or_left (is_live topology before s) (is_out before (post s 0)) h

-- a stage that is live or out was so before a step that does not restart it
present_stays : (topology : Topology) (before : History) (step : Step) (s : StageNo) → allows topology before step ≡ true → restarts step s ≡ false
    → (is_live topology (step ∷ before) s || is_out (step ∷ before) (post s 0)) ≡ true → (is_live topology before s || is_out before (post s 0)) ≡ true
present_stays topology before step s h r now = by_live (is_live topology (step ∷ before) s) refl now
  where
    by_put : (b : Bool) → puts_out step (post s 0) ≡ b → (b || (not (answers step (post s 0)) && is_out before (post s 0))) ≡ true → (is_live topology before s || is_out before (post s 0)) ≡ true
    by_put true e now = is_present topology before s (put_live topology before step s 0 h e)
    by_put false e now = or_right (is_live topology before s) (is_out before (post s 0)) (and_right (not (answers step (post s 0))) _ now)

    by_live : (b : Bool) → is_live topology (step ∷ before) s ≡ b → (b || is_out (step ∷ before) (post s 0)) ≡ true → (is_live topology before s || is_out before (post s 0)) ≡ true
    by_live true e now = is_present topology before s (was_live topology before step s r e)
    by_live false e now = by_put (puts_out step (post s 0)) refl now

pub stays_untold : (topology : Topology) (before : History) (step : Step) (p : Post) → is_legal topology (step ∷ before) ≡ true → tells_of step p.stage ≡ false → answers step p ≡ false → Stays topology before step p
stays_untold topology before step p legal e a = let h = legal_step topology before step legal in record {
  fed = fed_stays step before p.stage e;
  end = end_stays step before p.stage e;
  quiets = quiets_stay step before p.stage e;
  paced = pace_stays topology before step p.stage legal (untold_brings step p.stage e);
  text = text_stays topology step before p.stage e;
  short = short_stays topology step before p.stage e;
  count = count_stays topology step before p.stage e;
  present = present_stays topology before step p.stage h (restart_stays step p.stage e);
  calls = calls_stay step before p a;
  bad = bad_stays step before p a;
  resets = resets_stay topology step before p a (restart_stays step p.stage e);
  lawful = λ law. lawful_stays topology step before p law e a;
}

-- ---- a step that answers another post tells nothing of this one

writer_child : (role : Role) → is_batch_processor_role role ≡ true → is_supervisor_role role ≡ true → ⊥
writer_child role h k = supervisor_writes role k h

pub no_supervisor : (topology : Topology) (s : StageNo) (one : Role → Bool) → ((role : Role) → one role ≡ true → is_supervisor_role role ≡ true → ⊥) → has_role topology s one ≡ true → has_role topology s is_supervisor_role ≡ false
no_supervisor topology s one apart h = either (has_role topology s is_supervisor_role) refl
  where
    either : (b : Bool) → has_role topology s is_supervisor_role ≡ b → has_role topology s is_supervisor_role ≡ false
    either true e = absurd (two_roles topology s one is_supervisor_role apart h e)
    either false e = e

pub producers_alone : (topology : Topology) (s : StageNo) → has_role topology s is_producer_role ≡ true → has_role topology s is_supervisor_role ≡ false
producers_alone topology s h = no_supervisor topology s is_producer_role producer_supervises h

pub processors_alone : (topology : Topology) (s : StageNo) → has_role topology s is_processor_role ≡ true → has_role topology s is_supervisor_role ≡ false
processors_alone topology s h = no_supervisor topology s is_processor_role processor_supervisor h

pub writers_alone : (topology : Topology) (s : StageNo) → has_role topology s is_batch_processor_role ≡ true → has_role topology s is_supervisor_role ≡ false
writers_alone topology s h = no_supervisor topology s is_batch_processor_role writer_child h

-- the post of another slot that is out is no other post in a stage that is no supervisor
other_stage : (topology : Topology) (before : History) (t : StageNo) (slot : ℕ) (p : Post) → is_legal topology before ≡ true → has_post topology p ≡ true → is_out before (post t slot) ≡ true
    → has_role topology t is_supervisor_role ≡ false → same_post p (post t slot) ≡ false → same_stage t p.stage ≡ false
other_stage topology before t slot p legal here out calm apart = either (same_stage t p.stage) refl
  where
    either : (b : Bool) → same_stage t p.stage ≡ b → same_stage t p.stage ≡ false
    either false e = e
    either true e =
        let st : t ≡ p.stage = same_stage-true t p.stage e in
        let one : slot ≡ 0 = only_slot topology t slot (out_has_post topology before t slot legal out) calm in
        let two : p.slot ≡ 0 = only_slot topology p.stage p.slot here (subst (λ x. has_role topology x is_supervisor_role ≡ false) st calm) in
        let same : same_post p (post t slot) ≡ true = both (same_stage p.stage t) (p.slot == slot) (subst (λ x. same_stage p.stage x ≡ true) (sym st) (same_stage-self p.stage)) (eq-eqb p.slot slot (two ∙ sym one)) in
        clash (same_post p (post t slot)) same apart

pub current_out : (before : History) (s : StageNo) (slot : ℕ) → is_current before s slot ≡ true → is_out before (post s slot) ≡ true
current_out before s slot h = and_left (is_out before (post s slot)) _ h

pub record EndFacts (topology : Topology) (before : History) (s : StageNo) : Type 0 where
  pub role : has_role topology s is_producer_role ≡ true
  pub current : is_current before s 0 ≡ true

pub quiet_facts : (topology : Topology) (before : History) (s : StageNo) → allows topology before (Quiet s) ≡ true → EndFacts topology before s
quiet_facts topology before s h =
    let one = and_right (is_live topology before s) _ (unowed topology before (Quiet s) (λ t. refl) (λ t. refl) h) in
    record { role = and_left (has_role topology s is_producer_role) _ one; current = and_right (has_role topology s is_producer_role) _ one }

pub accept_facts : (topology : Topology) (before : History) (s : StageNo) (records : List (List ℕ)) → allows topology before (Accept s records) ≡ true → EndFacts topology before s
accept_facts topology before s records h =
    let one = and_right (is_live topology before s) _ (unowed topology before (Accept s records) (λ t. refl) (λ t. refl) h) in
    record {
      role = and_left (has_role topology s is_producer_role) _ one;
      current = and_left (is_current before s 0) _ (and_right (has_role topology s is_producer_role) _ one);
    }

pub end_facts : (topology : Topology) (before : History) (s : StageNo) (ended : SourceHow) → same_stage s (stage 0) ≡ false → allows topology before (SourceEnd s ended) ≡ true → EndFacts topology before s
end_facts topology before s ended off h = by_stage (same_stage s (stage 0)) off (unowed topology before (SourceEnd s ended) (λ t. refl) (λ t. refl) h)
  where
    by_stage : (b : Bool) → b ≡ false → (if b then not (has_ended before s) && same_truth (is_limit ended) (controls before == 10000) else is_live topology before s && (has_role topology s is_producer_role && (is_current before s 0 && not (is_limit ended)))) ≡ true → EndFacts topology before s
    by_stage true e k = cc
    by_stage false e k =
        let one = and_right (is_live topology before s) _ k in
        record {
          role = and_left (has_role topology s is_producer_role) _ one;
          current = and_left (is_current before s 0) _ (and_right (has_role topology s is_producer_role) _ one);
        }

-- the first premise of a legal step's row
pub untold : (topology : Topology) (before : History) (step : Step) (p : Post) → IsSound topology → is_legal topology (step ∷ before) ≡ true → has_post topology p ≡ true
    → answers step p ≡ false → restarts step p.stage ≡ false → tells_of step p.stage ≡ false
untold topology before (Accept t records) p sound legal here apart r =
    let facts = accept_facts topology before t records (legal_step topology before (Accept t records) legal) in
    other_stage topology before t 0 p (legal_before topology before (Accept t records) legal) here (current_out before t 0 facts.current) (producers_alone topology t facts.role) apart
untold topology before (Quiet t) p sound legal here apart r =
    let facts = quiet_facts topology before t (legal_step topology before (Quiet t) legal) in
    other_stage topology before t 0 p (legal_before topology before (Quiet t) legal) here (current_out before t 0 facts.current) (producers_alone topology t facts.role) apart
untold topology before (SourceEnd t ended) p sound legal here apart r = either (same_stage t (stage 0)) refl apart
  where
    either : (b : Bool) → same_stage t (stage 0) ≡ b → (not b && same_post p (post t 0)) ≡ false → same_stage t p.stage ≡ false
    either true e apart = off (same_stage t p.stage) refl
      where
        off : (b : Bool) → same_stage t p.stage ≡ b → same_stage t p.stage ≡ false
        off false k = k
        off true k =
            let st : t ≡ p.stage = same_stage-true t p.stage k in
            let low : 1 ≤ p.stage.0 = no_post_of_control topology p.stage p.slot sound here in
            let zero_stage : t.0 ≡ 0 = eqb-true t.0 0 e in
            let is : t.0 ≡ p.stage.0 = ap (λ (x : StageNo). x.0) st in
            absurd (omega (arith, low, zero_stage, is))
    either false e apart =
        let facts = end_facts topology before t ended e (legal_step topology before (SourceEnd t ended) legal) in
        other_stage topology before t 0 p (legal_before topology before (SourceEnd t ended) legal) here (current_out before t 0 facts.current) (producers_alone topology t facts.role) apart
untold topology before (Done t replies) p sound legal here apart r =
    let facts = done_facts topology before t replies (legal_step topology before (Done t replies) legal) in
    other_stage topology before t 0 p (legal_before topology before (Done t replies) legal) here (current_out before t 0 facts.current) (processors_alone topology t facts.role) apart
untold topology before (Wrote t bytes end) p sound legal here apart r =
    let facts = wrote_facts topology before t bytes end (legal_step topology before (Wrote t bytes end) legal) in
    other_stage topology before t 0 p (legal_before topology before (Wrote t bytes end) legal) here (current_out before t 0 facts.current) (writers_alone topology t facts.role) apart
untold topology before (Late t slot i late.Nothing) p sound legal here apart r = refl
untold topology before (Late t slot i (late.Records records)) p sound legal here apart r =
    let facts = late_facts topology before t slot i (late.Records records) (legal_step topology before (Late t slot i (late.Records records)) legal) in
    other_stage topology before t slot p (legal_before topology before (Late t slot i (late.Records records)) legal) here facts.out
    (producers_alone topology t (and_left (has_role topology t is_producer_role) _ facts.fits)) apart
untold topology before (Late t slot i late.Quiet) p sound legal here apart r =
    let facts = late_facts topology before t slot i late.Quiet (legal_step topology before (Late t slot i late.Quiet) legal) in
    other_stage topology before t slot p (legal_before topology before (Late t slot i late.Quiet) legal) here facts.out (producers_alone topology t facts.fits) apart
untold topology before (Late t slot i (late.Source ended)) p sound legal here apart r =
    let facts = late_facts topology before t slot i (late.Source ended) (legal_step topology before (Late t slot i (late.Source ended)) legal) in
    other_stage topology before t slot p (legal_before topology before (Late t slot i (late.Source ended)) legal) here facts.out (by_how ended facts.fits) apart
  where
    by_how : (h : SourceHow) → late_fits topology before t (late.Source h) ≡ true → has_role topology t is_supervisor_role ≡ false
    by_how how.End fits = producers_alone topology t fits
    by_how how.Fault fits = producers_alone topology t fits
    by_how how.TooLong fits = producers_alone topology t fits
    by_how how.Limit fits = cc
untold topology before (Late t slot i (late.Wrote bytes end)) p sound legal here apart r =
    let facts = late_facts topology before t slot i (late.Wrote bytes end) (legal_step topology before (Late t slot i (late.Wrote bytes end)) legal) in
    other_stage topology before t slot p (legal_before topology before (Late t slot i (late.Wrote bytes end)) legal) here facts.out
    (writers_alone topology t (and_left (has_role topology t is_batch_processor_role) _ facts.fits)) apart
untold topology before (Restart t) p sound legal here apart r = r
untold topology before _ p sound legal here apart r = refl

pub stays : (topology : Topology) (before : History) (step : Step) (p : Post) → IsSound topology → is_legal topology (step ∷ before) ≡ true → has_post topology p ≡ true
    → answers step p ≡ false → restarts step p.stage ≡ false → Stays topology before step p
stays topology before step p sound legal here apart r =
    stays_untold topology before step p legal (untold topology before step p sound legal here apart r) apart

-- ---- whether a post is out

out_stays_by : (a b out : Bool) → a ≡ false → b ≡ false → (a || (not b && out)) ≡ out
out_stays_by true b out e f = cc
out_stays_by false true out e f = cc
out_stays_by false false out e f = refl

pub out_stays : (before : History) (step : Step) (p : Post) → puts_out step p ≡ false → answers step p ≡ false → is_out (step ∷ before) p ≡ is_out before p
out_stays before step p e f = out_stays_by (puts_out step p) (answers step p) (is_out before p) e f
