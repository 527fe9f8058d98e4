-- One batch, dropped in its batcher or ended by its legs.
use Rattle.std.proofs.Common.{◌≡◌, [], ℕ, List, length, Bool, true, false, refl, ap, sym, ◌∙◌, Some, None, Option, subst}
use Rattle.std.specs.Prelude.{if◌then◌else◌, not, ◌&&◌, is_some, IfSome, option_map}
use Rattle.pipe_types.specs.declared.numbers.StageNo.{StageNo}
use Rattle.pipe_types.specs.declared.numbers.SubNo.{SubNo}
use Rattle.pipe_types.specs.declared.message.Why.{Why}
use Rattle.pipe_types.specs.declared.message.Loss.{Loss}
use Rattle.pipe_types.specs.declared.message.Place.{Place}
use Rattle.pipe_types.specs.declared.message.Place.TheVariants.{InBatch}
use Rattle.pipe_types.specs.Numbers.{batch_no}
use Rattle.pipe_model.specs.Batches.{BatchPlace, AtBatcher, Sent, Dropped, is_settled, settled_as, lost_leg, failed_leg, place_by_batch}
use Rattle.pipe_model.specs.Flow.{among}
use Rattle.pipe_model.specs.Standing.{going}
use Rattle.message_ack.specs.declared.legs.Settled.{Settled}
use Rattle.message_ack.specs.Ends.{IsSettledBy}
use Rattle.core_state.specs.Settles.{ended_by, marked_by, AreNumbers}
use Rattle.core_state.proofs.Settling.{ended_is}
use Rattle.core_losses.specs.Losses.{loss_in}
use Rattle.core_losses.specs.Legs.{AreDue, SettledAs, legs_after, leg_loss}
use Rattle.core_losses.specs.Batches.{drop_of, batch_lost, fate_legs, ended_in, ended_with, marked_in}
use Rattle.core_losses.proofs.LegsLost.{not_not}

pub not_dropped : (why : StageNo → Option Why) (incarnation : StageNo → ℕ) (place : BatchPlace) → drop_of why incarnation place ≡ None → batch_lost why incarnation place ≡ legs_after (leg_loss why incarnation) place
not_dropped why incarnation (Sent legs) e = refl
not_dropped why incarnation (Dropped l) e = refl
not_dropped why incarnation (AtBatcher s) e = by (why s) refl e
  where
    by : (w : Option Why) → why s ≡ w → loss_in (incarnation s) s w ≡ None → batch_lost why incarnation (AtBatcher s) ≡ AtBatcher s
    by None f e = rw f refl
    by (Some w) f e = cc

-- a batch that was sent does not wait in its batcher
pub sent_stays : (due loss : SubNo → Option Loss) (subs : List SubNo) (why : StageNo → Option Why) (incarnation : StageNo → ℕ) (place : BatchPlace) → AreDue due loss subs place → (subs ≡ [] → ⊥) → drop_of why incarnation place ≡ None
sent_stays due loss subs why incarnation (AtBatcher s) h some = absurd (some h)
sent_stays due loss subs why incarnation (Sent legs) h some = refl
sent_stays due loss subs why incarnation (Dropped l) h some = refl

-- legs that ended the batch
pub fate_of : (messages : ℕ) (loss : SubNo → Option Loss) (was : BatchPlace) (settled : Option Settled) → is_some settled ≡ (going was && not (going (legs_after loss was))) → IfSome settled (SettledAs messages (legs_after loss was))
    → IfSome settled (IsSettledBy messages (fate_legs (legs_after loss was)))
fate_of messages loss was None last h = tt
fate_of messages loss (Sent legs) (Some y) last h = h
fate_of messages loss (AtBatcher s) (Some y) last h = cc
fate_of messages loss (Dropped l) (Some y) last h = cc

going_fate : (p : BatchPlace) → not (going p) ≡ is_settled (fate_legs p)
going_fate (AtBatcher s) = refl
going_fate (Sent legs) = not_not (is_settled legs)
going_fate (Dropped l) = refl

pub ended_so : (was now : BatchPlace) (numbers : List ℕ) (settled : Option Settled) (n : ℕ) (p : Place) → is_some settled ≡ (going was && not (going now)) → IfSome settled (IsSettledBy (length numbers) (fate_legs now))
    → ended_by settled numbers n p ≡ ended_in was now numbers n p
ended_so was now numbers settled n p last ends = by (going was) refl
  where
    each : (o : Option Settled) → IfSome o (IsSettledBy (length numbers) (fate_legs now)) → (x : Settled) → o ≡ Some x → IsSettledBy (length numbers) (fate_legs now) x
    each None h x e = cc
    each (Some y) h x e = let is : y ≡ x = cc in subst (IsSettledBy (length numbers) (fate_legs now)) is h

    none : (o : Option Settled) → is_some o ≡ false → ended_by o numbers n p ≡ p
    none None e = refl
    none (Some x) e = cc

    by : (b : Bool) → going was ≡ b → ended_by settled numbers n p ≡ ended_in was now numbers n p
    by true g =
        let last_is : is_some settled ≡ is_settled (fate_legs now) = last ∙ (ap (λ c. c && not (going now)) g ∙ going_fate now) in
        ended_is numbers (fate_legs now) settled n p last_is (each settled ends) ∙ sym (ap (λ c. if c then ended_with numbers (fate_legs now) n p else p) g)
    by false g = none settled (last ∙ ap (λ c. c && not (going now)) g) ∙ sym (ap (λ c. if c then ended_with numbers (fate_legs now) n p else p) g)

pub marked_so : (was now : BatchPlace) (numbers : List ℕ) (settled : Option Settled) (mark n old : ℕ) → is_some settled ≡ (going was && not (going now)) → marked_by settled numbers mark n old ≡ marked_in was now numbers mark n old
marked_so was now numbers None mark n old last = ap (λ c. if c && among numbers n then mark else old) last
marked_so was now numbers (Some x) mark n old last = ap (λ c. if c && among numbers n then mark else old) last

pub numbers_so : (was now : BatchPlace) (count : ℕ) (numbers : List ℕ) (settled : Option Settled) → is_some settled ≡ (going was && not (going now)) → (going was ≡ true → AreNumbers count numbers) → IfSome settled (λ x. AreNumbers count numbers)
numbers_so was now count numbers None last h = tt
numbers_so was now count numbers (Some x) last h = h (first (going was) (not (going now)) (sym last))
  where
    first : (a b : Bool) → (a && b) ≡ true → a ≡ true
    first true b e = refl
    first false b e = cc

pub fate_place : (b : ℕ) (p : BatchPlace) (j : ℕ) → place_by_batch b p j ≡ (if is_settled (fate_legs p) then settled_as (lost_leg (fate_legs p)) (failed_leg (fate_legs p) j) else InBatch (batch_no b))
fate_place b (AtBatcher s) j = refl
fate_place b (Sent legs) j = refl
fate_place b (Dropped l) j = refl

pub each_place : (was now : BatchPlace) (numbers : List ℕ) (settled : Option Settled) (n : ℕ) (o : Option Place) → is_some settled ≡ (going was && not (going now)) → IfSome settled (IsSettledBy (length numbers) (fate_legs now))
    → option_map (ended_by settled numbers n) o ≡ option_map (ended_in was now numbers n) o
each_place was now numbers settled n None last ends = refl
each_place was now numbers settled n (Some p) last ends = ap Some (ended_so was now numbers settled n p last ends)

pub each_mark : (was now : BatchPlace) (numbers : List ℕ) (settled : Option Settled) (mark n : ℕ) (o : Option ℕ) → is_some settled ≡ (going was && not (going now)) → option_map (marked_by settled numbers mark n) o ≡ option_map (marked_in was now numbers mark n) o
each_mark was now numbers settled mark n None last = refl
each_mark was now numbers settled mark n (Some old) last = ap Some (marked_so was now numbers settled mark n old last)
