-- Posts that are out, and steps that do not answer them.
use Rattle.std.proofs.Common.{◌≡◌, ℕ, ◌<◌, [], ◌∷◌, Bool, true, false, refl, ap, sym, ◌∙◌}
use Rattle.std.specs.Prelude.{not, ◌&&◌, ◌||◌, if◌then◌else◌}
use Rattle.std.proofs.lemmas.Bool.{eq-eqb}
use Rattle.pipe_types.specs.declared.numbers.Post.{Post}
use Rattle.pipe_types.specs.declared.numbers.StageNo.{StageNo}
use Rattle.pipe_types.specs.declared.step.Step.{Step}
use Rattle.pipe_types.specs.declared.step.Step.TheVariants.{Restart}
use Rattle.pipe_types.specs.declared.topology.Topology.{Topology}
use Rattle.pipe_types.specs.Numbers.{post, same_stage}
use Rattle.pipe_model.specs.History.{History, incarnation, incarnation_after}
use Rattle.pipe_model.specs.Lives.{restarts}
use Rattle.pipe_model.specs.Posts.{puts_out, answers, is_out, out_from, has_post_out, slots}
use Rattle.pipe_model.specs.Legal.{is_legal, is_current, needs_restart, no_post_out}
use Rattle.pipe_laws.proofs.Tests.{clash, and_left, and_right, both, not_true, same_stage-true}
use Rattle.pipe_laws.proofs.Allowed.{legal_before, legal_step, unowed}
use Rattle.pipe_laws.proofs.Busy.{same_incarnation}
use Rattle.stage_laws.proofs.FewSlots.{slot_case, none_any}
use Rattle.body_laws.proofs.Jobs.{put_was_home}

-- so no step puts out a post that is out
pub put_out_once : (topology : Topology) (before : History) (step : Step) (p : Post) → is_legal topology (step ∷ before) ≡ true → is_out before p ≡ true → puts_out step p ≡ false
put_out_once topology before step p h out = either (puts_out step p) refl
  where
    either : (b : Bool) → puts_out step p ≡ b → puts_out step p ≡ false
    either false e = e
    either true e = clash (is_out before p) out (put_was_home topology before step p (legal_step topology before step h) e)

pub stays_out : (before : History) (step : Step) (p : Post) → answers step p ≡ false → is_out before p ≡ true → is_out (step ∷ before) p ≡ true
stays_out before step p none out = by_tests (puts_out step p) (answers step p) (is_out before p) none out
  where
    by_tests : (a b c : Bool) → b ≡ false → c ≡ true → (a || (not b && c)) ≡ true
    by_tests true b c e f = refl
    by_tests false false c e f = f
    by_tests false true c e f = cc

pub from_stays : (before : History) (step : Step) (p : Post) → puts_out step p ≡ false → out_from (step ∷ before) p ≡ out_from before p
from_stays before step p e = ap (λ b. if b then incarnation before p.stage else out_from before p) e

-- ---- restarts

-- a stage is not restarted while a post of it is out
pub no_restart : (topology : Topology) (before : History) (step : Step) (p : Post) → is_legal topology (step ∷ before) ≡ true → p.slot < 16 → is_out before p ≡ true → restarts step p.stage ≡ false
no_restart topology before (Restart t) p h few out = either (same_stage p.stage t) refl
  where
    free : no_post_out topology before t ≡ true
    free = and_left (no_post_out topology before t) _ (and_right (needs_restart topology before t) _ (unowed topology before (Restart t) (λ x. refl) (λ x. refl) (legal_step topology before (Restart t) h)))

    home : is_out before (post t p.slot) ≡ false
    home = slot_case (λ slot. is_out before (post t slot) ≡ false) (none_any (λ slot. is_out before (post t slot)) slots (not_true (has_post_out before t) free)) p.slot few

    either : (b : Bool) → same_stage p.stage t ≡ b → same_stage p.stage t ≡ false
    either false e = e
    either true e = clash (is_out before p) out (ap (λ x. is_out before (post x p.slot)) (same_stage-true p.stage t e) ∙ home)
no_restart topology before _ p h few out = refl

puts_no_restart : (step : Step) (p : Post) → puts_out step p ≡ true → restarts step p.stage ≡ false
puts_no_restart (Restart t) p e = cc
puts_no_restart _ p e = refl

-- a post that is out is of the present incarnation
pub from_present : (topology : Topology) (before : History) (p : Post) → is_legal topology before ≡ true → p.slot < 16 → is_out before p ≡ true → out_from before p ≡ incarnation before p.stage
from_present topology [] p h few out = cc
from_present topology (step ∷ before) p h few out =
    either (puts_out step p) refl out (from_present topology before p (legal_before topology before step h) few)
  where
    either : (b : Bool) → puts_out step p ≡ b → (b || (not (answers step p) && is_out before p)) ≡ true → (is_out before p ≡ true → out_from before p ≡ incarnation before p.stage)
        → (if b then incarnation before p.stage else out_from before p) ≡ incarnation_after step p.stage (incarnation before p.stage)
    either true e out rest = sym (same_incarnation step p.stage (incarnation before p.stage) (puts_no_restart step p e))
    either false e out rest =
        let was = and_right (not (answers step p)) _ out in
        rest was ∙ sym (same_incarnation step p.stage (incarnation before p.stage) (no_restart topology before step p h few was))

-- a post that the last step put out is of the present incarnation
pub put_current : (before : History) (step : Step) (s : StageNo) (slot : ℕ) → puts_out step (post s slot) ≡ true → is_current (step ∷ before) s slot ≡ true
put_current before step s slot e =
    both (is_out (step ∷ before) (post s slot)) _ (ap (λ b. b || (not (answers step (post s slot)) && is_out before (post s slot))) e)
    (eq-eqb (out_from (step ∷ before) (post s slot)) (incarnation (step ∷ before) s)
    (ap (λ b. if b then incarnation before s else out_from before (post s slot)) e ∙ sym (same_incarnation step s (incarnation before s) (puts_no_restart step (post s slot) e))))
