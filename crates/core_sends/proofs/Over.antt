-- Units that are lost over a size, one after another.
use Rattle.std.proofs.Common.{◌≡◌, ℕ, suc, ◌+◌, ◌-◌, ◌<◌, ◌≤◌, List, [], ◌∷◌, length, take, map, set, Bool, true, false, refl, ap, sym, ◌∙◌, Some, None, Option, arith, get_or, if◌then◌else◌}
use Rattle.std.specs.Prelude.{slice_get, option_map, ◌==◌, ◌&&◌, ◌||◌}
use Rattle.std.proofs.lemmas.Bool.Decides.{nat_tests}
use Rattle.std.proofs.lemmas.List.{at_drop_more, get_or-take, length-take-le}
use Rattle.pipe_types.specs.declared.numbers.StageNo.{StageNo}
use Rattle.pipe_types.specs.declared.message.Loss.TheVariants.{Overflow}
use Rattle.pipe_types.specs.declared.message.Place.{Place}
use Rattle.pipe_types.specs.declared.message.Place.TheVariants.{Waiting, Lost}
use Rattle.pipe_types.specs.Numbers.{same_stage}
use Rattle.pipe_model.specs.Flow.{among}
use Rattle.core_tables.proofs.Running.{pass_step}
use Rattle.core_sends.specs.Losing.{lost_in, lost_over_size, marked, between}

abbrev numbers : List (ℕ × ℕ) → List ℕ
numbers units = map {A = ℕ × ℕ} {B = ℕ} (λ unit. unit.1) units

-- a pass over the units from one place of a queue to another
between_step : {A : Type 0} (F : List ℕ → ℕ → A → A) (f : A → A)
    → ((n : ℕ) (ns : List ℕ) (p : A) → F ns n (f p) ≡ F (n ∷ ns) n p) → ((m n : ℕ) (ns : List ℕ) (p : A) → (m == n) ≡ false → F ns n p ≡ F (m ∷ ns) n p)
    → (rows : List A) (queue : List (ℕ × ℕ)) (k to : ℕ) (u : ℕ × ℕ) (p q : A) → k < to → to ≤ length queue → u ≡ get_or queue k u → 1 ≤ u.1 → u.1 - 1 < length rows
    → slice_get rows (u.1 - 1) ≡ Some p → q ≡ f p
    → (i : ℕ) → option_map (F (numbers (between (k + 1) to queue)) (suc i)) (slice_get (set rows (u.1 - 1) q) i) ≡ option_map (F (numbers (between k to queue)) (suc i)) (slice_get rows i)
between_step F f here there rows queue k to u p q below end read least within was is i =
    pass_step (λ m n x. F (numbers (between m to queue)) n x) f k u.1
    (λ x. here u.1 (numbers (between (k + 1) to queue)) x ∙ sym (more u.1 x))
    (λ n x other. there u.1 n (numbers (between (k + 1) to queue)) x other ∙ sym (more n x))
    rows p q least within was is i
  where
    more : (n : ℕ) (x : _) → F (numbers (between k to queue)) n x ≡ F (u.1 ∷ numbers (between (k + 1) to queue)) n x
    more n x =
        let long : k < length (take to queue) = omega (arith, length-take-le to queue end, below) in
        at_drop_more (λ us. F (numbers us) n x) (take to queue) k u long
        ∙ ap (λ (v : ℕ × ℕ). F (v.1 ∷ numbers (between (k + 1) to queue)) n x) (get_or-take to queue k u below ∙ sym read)

same_self : (a : ℕ) → (a == a) ≡ true
same_self a = grind (arith, nat_tests)

lost_here : (s : StageNo) (n : ℕ) (ns : List ℕ) (p : Place) → lost_over_size ns s n (lost_in s p) ≡ lost_over_size (n ∷ ns) s n p
lost_here s n ns (Waiting t) = by (same_stage s t) refl
  where
    by : (b : Bool) → same_stage s t ≡ b → lost_over_size ns s n (if b then Lost (Overflow s) else Waiting t) ≡ (if b && ((n == n) || among ns n) then Lost (Overflow s) else Waiting t)
    by true e = rw same_self refl
    by false e = rw e refl
lost_here s n ns _ = refl

lost_there : (s : StageNo) (m n : ℕ) (ns : List ℕ) (p : Place) → (m == n) ≡ false → lost_over_size ns s n p ≡ lost_over_size (m ∷ ns) s n p
lost_there s m n ns (Waiting t) e = rw e refl
lost_there s m n ns _ e = refl

pub lost_step : (s : StageNo) (places : List Place) (queue : List (ℕ × ℕ)) (k to : ℕ) (u : ℕ × ℕ) (p q : Place) → k < to → to ≤ length queue
    → u ≡ get_or queue k u → 1 ≤ u.1 → u.1 - 1 < length places → slice_get places (u.1 - 1) ≡ Some p → q ≡ lost_in s p
    → (i : ℕ) → option_map (lost_over_size (map {A = ℕ × ℕ} {B = ℕ} (λ unit. unit.1) (between (k + 1) to queue)) s (suc i)) (slice_get (set places (u.1 - 1) q) i)
    ≡ option_map (lost_over_size (map {A = ℕ × ℕ} {B = ℕ} (λ unit. unit.1) (between k to queue)) s (suc i)) (slice_get places i)
lost_step s places queue k to u p q below end read least within was is i =
    between_step (λ ns n x. lost_over_size ns s n x) (lost_in s) (lost_here s) (lost_there s) places queue k to u p q below end read least within was is i

lost_nothing : (s : StageNo) (n : ℕ) (p : Place) → lost_over_size [] s n p ≡ p
lost_nothing s n (Waiting t) = by (same_stage s t)
  where
    by : (b : Bool) → (if b && false then Lost (Overflow s) else Waiting t) ≡ Waiting t
    by true = refl
    by false = refl
lost_nothing s n _ = refl

pub lost_none : (s : StageNo) (n : ℕ) (o : Option Place) → option_map (lost_over_size [] s n) o ≡ o
lost_none s n None = refl
lost_none s n (Some p) = ap Some (lost_nothing s n p)

mark_here : (mark n : ℕ) (ns : List ℕ) (p : ℕ) → marked ns mark n mark ≡ marked (n ∷ ns) mark n p
mark_here mark n ns p = by (among ns n) ∙ sym (ap (λ b. if b || among ns n then mark else p) (same_self n))
  where
    by : (b : Bool) → (if b then mark else mark) ≡ mark
    by true = refl
    by false = refl

mark_there : (mark m n : ℕ) (ns : List ℕ) (p : ℕ) → (m == n) ≡ false → marked ns mark n p ≡ marked (m ∷ ns) mark n p
mark_there mark m n ns p e = rw e refl

pub mark_step : (mark : ℕ) (settled : List ℕ) (queue : List (ℕ × ℕ)) (k to : ℕ) (u : ℕ × ℕ) (p : ℕ) → k < to → to ≤ length queue
    → u ≡ get_or queue k u → 1 ≤ u.1 → u.1 - 1 < length settled → slice_get settled (u.1 - 1) ≡ Some p
    → (i : ℕ) → option_map (marked (map {A = ℕ × ℕ} {B = ℕ} (λ unit. unit.1) (between (k + 1) to queue)) mark (suc i)) (slice_get (set settled (u.1 - 1) mark) i)
    ≡ option_map (marked (map {A = ℕ × ℕ} {B = ℕ} (λ unit. unit.1) (between k to queue)) mark (suc i)) (slice_get settled i)
mark_step mark settled queue k to u p below end read least within was i =
    between_step (λ ns n x. marked ns mark n x) (λ x. mark) (mark_here mark) (mark_there mark) settled queue k to u p mark below end read least within was refl i

pub mark_none : (mark n : ℕ) (o : Option ℕ) → option_map (marked [] mark n) o ≡ o
mark_none mark n None = refl
mark_none mark n (Some p) = refl
