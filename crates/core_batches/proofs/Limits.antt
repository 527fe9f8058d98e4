-- The limits of a batcher whose open batches change, and a test of numbers turned round.
use Rattle.std.proofs.Common.{◌≡◌, ◌≢◌, ℕ, List, Bool, true, false, refl, ap, sym, ◌∙◌, Some, None, Option, inl, inr}
use Rattle.std.specs.Prelude.{slice_get, option_map, if◌then◌else◌, ◌==◌, ◌⊎◌}
use Rattle.std.proofs.lemmas.Bool.{eq-eqb, eqb-true, false_from_ne_true}
use Rattle.pipe_types.specs.declared.numbers.StageNo.{StageNo}
use Rattle.pipe_types.specs.declared.topology.StageSpec.{StageSpec}
use Rattle.batcher.specs.Batches.{Batches}
use Rattle.core_tables.proofs.Tables.{same_or_other}

pub flip : (a b : ℕ) → (a == b) ≡ (b == a)
flip a b = by (same_or_other a b)
  where
    by : (((a == b) ≡ true) × (a ≡ b)) ⊎ (((a == b) ≡ false) × (a ≢ b)) → (a == b) ≡ (b == a)
    by (inl same) = same.0 ∙ sym (eq-eqb b a (sym same.1))
    by (inr other) = other.0 ∙ sym (false_from_ne_true (b == a) (λ e. other.1 (sym (eqb-true b a e))))

-- a change that leaves the limits leaves them those of the stage
pub limits_after : (f : Batches → Batches) → ((h : Batches) → (f h).batch_size ≡ h.batch_size) → ((h : Batches) → (f h).batch_timeout ≡ h.batch_timeout)
    → (s t : StageNo) (old new : List Batches) (spec : StageSpec) (held : Batches)
    → ((i : ℕ) → slice_get new i ≡ (if s.0 == i then option_map f (slice_get old i) else slice_get old i))
    → ((h : Batches) → slice_get old t.0 ≡ Some h → (h.batch_size ≡ spec.batch_size) × (h.batch_timeout ≡ spec.batch_timeout))
    → slice_get new t.0 ≡ Some held → (held.batch_size ≡ spec.batch_size) × (held.batch_timeout ≡ spec.batch_timeout)
limits_after f size timeout s t old new spec held changed was found = by (s.0 == t.0) (slice_get old t.0) refl (sym (changed t.0) ∙ found)
  where
    by : (b : Bool) (o : Option Batches) → slice_get old t.0 ≡ o → (if b then option_map f o else o) ≡ Some held → (held.batch_size ≡ spec.batch_size) × (held.batch_timeout ≡ spec.batch_timeout)
    by true None e k = cc
    by true (Some h) e k =
        let is : f h ≡ held = cc in
        let limits = was h e in
        (ap (λ (y : Batches). y.batch_size) (sym is) ∙ (size h ∙ limits.0), ap (λ (y : Batches). y.batch_timeout) (sym is) ∙ (timeout h ∙ limits.1))
    by false o e k = was held (e ∙ k)
