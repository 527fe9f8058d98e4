-- The tables of a run without a step.
use Rattle.std.proofs.Common.{◌≡◌, ℕ, zero, suc, ◌+◌, ◌*◌, ◌<◌, ◌≤◌, List, [], length, replicate, refl, ap, sym, ◌∙◌, Some, None, arith, subst}
use Rattle.std.specs.Prelude.{slice_get, slice_index}
use Rattle.std.proofs.lemmas.List.{length-replicate}
use Rattle.pipe_types.specs.declared.numbers.StageNo.{StageNo}
use Rattle.pipe_types.specs.declared.topology.Topology.{Topology}
use Rattle.pipe_model.specs.History.{History}
use Rattle.core_tables.specs.Tables.{list_at}
use Rattle.core_tables.specs.Rows.{post_at}
use Rattle.core_state.specs.declared.state.Core.{Core}
use Rattle.core_state.specs.Stands.{Stands}
use Rattle.plain_run.specs.declared.works.Works.{Works}
use Rattle.plain_run.specs.declared.after.After.TheVariants.{Free}
use Rattle.plain_run.specs.Works.{WorksStand}
use Rattle.plain_run.specs.Runs.{IsRun}

all_same : {A : Type 0} (n i : ℕ) (x : A) → i < n → slice_get (replicate n x) i ≡ Some x
all_same zero i x below = absurd (omega arith)
all_same (suc n) zero x below = refl
all_same (suc n) (suc i) x below = all_same n i x (omega arith)

all_zero : (n i : ℕ) → slice_index (replicate n 0) i ≡ 0
all_zero zero i = refl
all_zero (suc n) zero = refl
all_zero (suc n) (suc i) = all_zero n i

row_low : (n s slot : ℕ) → s ≤ n → slot < 16 → post_at s slot < (n + 1) * 16
row_low n s slot low high = omega (arith, low, high)

works_new : (topology : Topology) (works : Works) (count : ℕ) → count ≡ length topology.stages + 1 → length works.taken.items ≡ count → ((s : StageNo) → list_at works.taken.items s ≡ [])
    → works.counts.items ≡ replicate count 0 → works.started.items ≡ replicate (count * 16) None → WorksStand topology [] works
works_new topology works count many len none counts started = record {
  sized = record {
    taken = len ∙ (many ∙ one);
    counts = ap length counts ∙ (length-replicate count 0 ∙ (many ∙ one));
    started = ap length started ∙ (length-replicate (count * 16) None ∙ ap (λ m. m * 16) (many ∙ one));
  };
  taken = none;
  least = λ s role k d below. absurd (omega arith);
  counts = λ s. ap (λ (ns : List ℕ). slice_index ns s.0) counts ∙ all_zero count s.0;
  started = λ s slot within low.
      ap (λ rows. slice_get rows (post_at s.0 slot)) started
      ∙ all_same (count * 16) (post_at s.0 slot) None (subst (λ n. post_at s.0 slot < n * 16) (sym many) (row_low (length topology.stages) s.0 slot within low));
}
  where
    one : length topology.stages + 1 ≡ suc (length topology.stages)
    one = omega arith

pub begins : (core : Core) (works : Works) (count : ℕ) → Stands core → core.journal.steps ≡ [] → count ≡ length core.topology.stages + 1 → length works.taken.items ≡ count → ((s : StageNo) → list_at works.taken.items s ≡ [])
    → works.counts.items ≡ replicate count 0 → works.started.items ≡ replicate (count * 16) None → IsRun core works Free
begins core works count x empty many len none counts started = record {
  holds = x.holds;
  owes = x.unowed;
  works = subst (λ (h : History). WorksStand core.topology h works) (sym empty) (works_new core.topology works count many len none counts started);
}
