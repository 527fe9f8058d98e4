-- Passes over the messages of a batch.
use Rattle.std.proofs.Common.{◌≡◌, ◌≢◌, ℕ, suc, ◌+◌, ◌-◌, ◌<◌, ◌≤◌, List, ◌∷◌, length, drop, set, Bool, true, false, refl, ap, sym, ◌∙◌, Some, get_or, inl, inr}
use Rattle.std.specs.Prelude.{slice_get, option_map, if◌then◌else◌, ◌==◌, ◌&&◌, ◌||◌, ◌⊎◌}
use Rattle.std.proofs.lemmas.Bool.{eq-eqb}
use Rattle.pipe_types.specs.declared.numbers.StageNo.{StageNo}
use Rattle.pipe_types.specs.declared.message.Place.{Place}
use Rattle.pipe_types.specs.declared.message.Place.TheVariants.{Gathered, InBatch}
use Rattle.pipe_types.specs.Numbers.{same_stage, batch_no}
use Rattle.pipe_model.specs.Flow.{put_in_batch, among}
use Rattle.core_tables.proofs.Running.{listed_step}
use Rattle.core_tables.proofs.Tables.{get-set_same, get-set_other, same_or_other}
use Rattle.core_batches.specs.Closes.{join_in}

join_here : (s : StageNo) (b n : ℕ) (ns : List ℕ) (p : Place) → put_in_batch ns s b n (join_in s b p) ≡ put_in_batch (n ∷ ns) s b n p
join_here s b n ns (Gathered t) = by (same_stage s t) refl
  where
    by : (c : Bool) → same_stage s t ≡ c → put_in_batch ns s b n (if c then InBatch (batch_no b) else Gathered t) ≡ (if c && ((n == n) || among ns n) then InBatch (batch_no b) else Gathered t)
    by true e = ap (λ c. if c || among ns n then InBatch (batch_no b) else Gathered t) (sym (eq-eqb n n refl))
    by false e = ap (λ c. if c && among ns n then InBatch (batch_no b) else Gathered t) e
join_here s b n ns _ = refl

join_there : (s : StageNo) (b m n : ℕ) (ns : List ℕ) (p : Place) → (m == n) ≡ false → put_in_batch ns s b n p ≡ put_in_batch (m ∷ ns) s b n p
join_there s b m n ns (Gathered t) e = ap (λ c. if same_stage s t && (c || among ns n) then InBatch (batch_no b) else Gathered t) (sym e)
join_there s b m n ns _ e = refl

-- one turn: the message of the turn joins, and what the later turns do is as before
pub joined_step : (places : List Place) (ns : List ℕ) (k e : ℕ) (s : StageNo) (b : ℕ) (p q : Place) → k < length ns
    → 1 ≤ get_or ns k e → get_or ns k e - 1 < length places → slice_get places (get_or ns k e - 1) ≡ Some p → q ≡ join_in s b p
    → (i : ℕ) → option_map (put_in_batch (drop (k + 1) ns) s b (suc i)) (slice_get (set places (get_or ns k e - 1) q) i) ≡ option_map (put_in_batch (drop k ns) s b (suc i)) (slice_get places i)
joined_step places ns k e s b p q below least within was is i =
    listed_step (λ xs n x. put_in_batch xs s b n x) (join_in s b) (λ n xs x. join_here s b n xs x) (λ m n xs x other. join_there s b m n xs x other) places ns k e p q below least within was is i

-- one row of a table was changed by f
pub row_put : {A : Type 0} (f : A → A) (rows : List A) (s : ℕ) (x y : A) → s < length rows → slice_get rows s ≡ Some x → y ≡ f x
    → (i : ℕ) → slice_get (set rows s y) i ≡ (if s == i then option_map f (slice_get rows i) else slice_get rows i)
row_put f rows s x y within was is i = cases (same_or_other s i)
  where
    cases : (((s == i) ≡ true) × (s ≡ i)) ⊎ (((s == i) ≡ false) × (s ≢ i)) → slice_get (set rows s y) i ≡ (if s == i then option_map f (slice_get rows i) else slice_get rows i)
    cases (inl same) =
        ap (slice_get (set rows s y)) (sym same.1)
        ∙ (get-set_same rows s y within
        ∙ (ap Some is
        ∙ (ap (option_map f) (sym was)
        ∙ (ap (λ k. option_map f (slice_get rows k)) same.1 ∙ sym (ap (λ b. if b then option_map f (slice_get rows i) else slice_get rows i) same.0)))))
    cases (inr other) =
        get-set_other rows s i y (λ e. other.1 (sym e)) ∙ sym (ap (λ b. if b then option_map f (slice_get rows i) else slice_get rows i) other.0)
