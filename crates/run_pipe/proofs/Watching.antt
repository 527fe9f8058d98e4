-- The watch of a pipe from hold to hold.
use Rattle.std.proofs.Common.{◌≡◌, Bool, true, false, arith, refl, sym, ◌∙◌, subst}
use Rattle.std.specs.Prelude.{IsTrue}
use Rattle.pipe_types.specs.Counts.{Rose}
use Rattle.pipe_types.specs.declared.topology.Topology.{Topology}
use Rattle.pipe_model.specs.Begins.{BeginsWith}
use Rattle.pipe_model.specs.History.{History}
use Rattle.pipeline_turn.proofs.Journals.{begins_itself}
use Rattle.pipe_journal.specs.Watched.{is_failure}
use Rattle.pipe_journal.specs.declared.watch.WatchEnd.{WatchEnd}
use Rattle.pipe_journal.specs.declared.watch.WatchEnd.TheVariants.{Done, Failed, OutOfMemory}
use Rattle.stage_job.proofs.CallCounts.{rose_after, rose_before}
use Rattle.run_pipe.specs.Watches.{WatchSeen, KeepsWatch, HasSeen}

not_failed : {A : Type 0} (b : Bool) → IsTrue b → b ≡ false → A
not_failed b t f = let x : true ≡ false = sym t ∙ f in cc

-- it has failed where that is its answer
pub failed_by : (end : WatchEnd) → is_failure end ≡ true → end ≡ Failed
failed_by Done e = cc
failed_by Failed e = refl
failed_by OutOfMemory e = cc

pub watch_itself : (w : WatchSeen) → KeepsWatch w w
watch_itself w = record { begun = refl; faulty = λ t f. not_failed w.failed t f; faults_stay = omega arith }

pub watch_through : (a b c : WatchSeen) → KeepsWatch a b → KeepsWatch b c → KeepsWatch a c
watch_through a b c first second = record {
  begun = second.begun ∙ first.begun;
  faulty = λ t f. by b.failed refl t f;
  faults_stay = omega (arith, first.faults_stay, second.faults_stay);
}
  where
    by : (m : Bool) → b.failed ≡ m → IsTrue c.failed → a.failed ≡ false → Rose a.faults c.faults
    by true e t f = rose_after a.faults b.faults c.faults first.faults_stay second.faults_stay (first.faulty e f)
    by false e t f = rose_before a.faults b.faults c.faults first.faults_stay (second.faulty t e)

module _ (fits : Topology → Type 0) (stood : History → Type 0) (failed : Bool) (topology : Topology) (steps : History) where
  -- a watch that has failed has seen a part
  pub seen_before : (memory : Type 0) → failed ≡ true → fits topology → ((earlier : History) × stood earlier × BeginsWith steps earlier) → HasSeen fits stood failed memory topology steps
  seen_before memory over fit part = record { fit = fit; part = part; all = λ whole m. let x : true ≡ false = sym over ∙ whole in cc }

  pub seen_all : (memory : Type 0) → fits topology → (now : History) → now ≡ steps → stood now → HasSeen fits stood failed memory topology steps
  seen_all memory fit now same all =
      let here = subst stood same all in
      record { fit = fit; part = (steps, here, begins_itself steps); all = λ whole m. here }

  -- and where memory was wanting, or it has failed now, a part again
  pub seen_part : (memory : Type 0) → (failed ≡ false → memory → ⊥) → fits topology → (now : History) → now ≡ steps → ((earlier : History) × stood earlier × BeginsWith now earlier) → HasSeen fits stood failed memory topology steps
  seen_part memory none fit now same part = record { fit = fit; part = (part.0, part.1, subst (λ (h : History). BeginsWith h part.0) same part.2); all = λ whole m. absurd (none whole m) }
