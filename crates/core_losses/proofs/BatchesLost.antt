-- The batches, one after the other.
use Rattle.std.proofs.Common.{◌≡◌, ◌≢◌, ℕ, zero, suc, ◌+◌, ◌≤◌, List, length, Bool, true, false, refl, ap, sym, ◌∙◌, Some, None, Option, arith, subst, inl, inr}
use Rattle.std.specs.Prelude.{slice_get, if◌then◌else◌, not, ◌&&◌, ◌==◌, is_some, option_map, nat_le, unwrap_or, position, ◌⊎◌}
use Rattle.std.proofs.lemmas.Bool.Decides.{nat_tests}
use Rattle.pipe_types.specs.declared.numbers.StageNo.{StageNo}
use Rattle.pipe_types.specs.declared.numbers.SubNo.{SubNo}
use Rattle.pipe_types.specs.declared.numbers.BatchNo.{BatchNo}
use Rattle.pipe_types.specs.declared.message.Why.{Why}
use Rattle.pipe_types.specs.declared.message.Loss.{Loss}
use Rattle.pipe_types.specs.declared.message.Place.{Place}
use Rattle.pipe_types.specs.declared.message.Place.TheVariants.{Waiting, Inbox, Running, Gathered, InBatch, Acked, Lost}
use Rattle.pipe_types.specs.Numbers.{batch_no}
use Rattle.pipe_model.specs.Batches.{Batch, BatchPlace, is_settled, settled_as, lost_leg, failed_leg}
use Rattle.pipe_model.specs.Flow.{among, by_batch, place_in_batch, numbers_in}
use Rattle.pipe_model.specs.Standing.{going, in_progress}
use Rattle.queue_laws.proofs.Batched.{going_in}
use Rattle.message_ack.specs.Ends.{Ends, sent_in}
use Rattle.core_tables.specs.declared.rows.BatchRow.{BatchRow}
use Rattle.core_tables.proofs.Tables.{same_or_other}
use Rattle.core_laws.specs.Columns.{ends_on, ends_in_progress}
use Rattle.core_losses.specs.Legs.{AreDue, leg_loss}
use Rattle.core_state.specs.Settles.{AreNumbers}
use Rattle.core_losses.specs.Batches.{SeenBatch, AreSeen, batch_lost, lost_batch, after_kill, left_batch, fate_legs, ended_in, marked_in}
use Rattle.core_losses.proofs.Dropping.{fate_place}

-- the first so many batches were gone over
abbrev pub upto : ℕ → (why : StageNo → Option Why) → (incarnation : StageNo → ℕ) → (ℕ → Option Batch) → ℕ → Option Batch
upto at why incarnation batch b = if nat_le b at then lost_batch why incarnation (batch b) else batch b

-- Which batches were gone over

pub upto_yet : (at : ℕ) (why : StageNo → Option Why) (incarnation : StageNo → ℕ) (batch : ℕ → Option Batch) → upto at why incarnation batch (at + 1) ≡ batch (at + 1)
upto_yet at why incarnation batch = let later : nat_le (at + 1) at ≡ false = grind (arith, nat_tests) in ap (λ c. if c then lost_batch why incarnation (batch (at + 1)) else batch (at + 1)) later

upto_here : (at : ℕ) (why : StageNo → Option Why) (incarnation : StageNo → ℕ) (batch : ℕ → Option Batch) → upto (at + 1) why incarnation batch (at + 1) ≡ lost_batch why incarnation (batch (at + 1))
upto_here at why incarnation batch = let now : nat_le (at + 1) (at + 1) ≡ true = grind (arith, nat_tests) in ap (λ c. if c then lost_batch why incarnation (batch (at + 1)) else batch (at + 1)) now

upto_other : (at : ℕ) (why : StageNo → Option Why) (incarnation : StageNo → ℕ) (batch : ℕ → Option Batch) (b : ℕ) → (b ≡ at + 1 → ⊥) → upto (at + 1) why incarnation batch b ≡ upto at why incarnation batch b
upto_other at why incarnation batch b other = let same : nat_le b (at + 1) ≡ nat_le b at = grind (arith, nat_tests) in ap (λ c. if c then lost_batch why incarnation (batch b) else batch b) same

upto_start : (why : StageNo → Option Why) (incarnation : StageNo → ℕ) (batch : ℕ → Option Batch) → (is_some (batch 0) ≡ true → ⊥) → (b : ℕ) → upto 0 why incarnation batch b ≡ batch b
upto_start why incarnation batch none zero = by (batch 0) none
  where
    by : (o : Option Batch) → (is_some o ≡ true → ⊥) → lost_batch why incarnation o ≡ o
    by None h = refl
    by (Some x) h = absurd (h refl)
upto_start why incarnation batch none (suc b) = let later : nat_le (suc b) 0 ≡ false = grind (arith, nat_tests) in ap (λ c. if c then lost_batch why incarnation (batch (suc b)) else batch (suc b)) later

upto_end : (at : ℕ) (why : StageNo → Option Why) (incarnation : StageNo → ℕ) (batch : ℕ → Option Batch) → ((b : ℕ) → is_some (batch b) ≡ true → b ≤ at) → (b : ℕ) → upto at why incarnation batch b ≡ after_kill why incarnation batch b
upto_end at why incarnation batch within b = by (batch b) refl
  where
    by : (o : Option Batch) → batch b ≡ o → upto at why incarnation batch b ≡ after_kill why incarnation batch b
    by None e = if_none (nat_le b at)
      where
        if_none : (c : Bool) → (if c then lost_batch why incarnation (batch b) else batch b) ≡ lost_batch why incarnation (batch b)
        if_none true = refl
        if_none false = e ∙ sym (ap (lost_batch why incarnation) e)
    by (Some x) e = let low : b ≤ at = within b (ap is_some e) in let now : nat_le b at ≡ true = grind (arith, nat_tests) in ap (λ c. if c then lost_batch why incarnation (batch b) else batch b) now

-- places and marks by batches that are the same
same_by : (f g : ℕ → Option Batch) (n : ℕ) (o : Option Place) → ((b : ℕ) → f b ≡ g b) → option_map (by_batch f n) o ≡ option_map (by_batch g n) o
same_by f g n (Some (InBatch b)) h = ap (λ o. Some (place_in_batch b.0 o n)) (h b.0)
same_by f g n _ h = refl

same_left : (f g : ℕ → Option Batch) (o : Option Place) → ((b : ℕ) → f b ≡ g b) → left_batch f o ≡ left_batch g o
same_left f g (Some (InBatch b)) h = ap (λ o. not (in_progress o)) (h b.0)
same_left f g _ h = refl

-- a message in a batch in progress stays there
stays_in : (b : BatchNo) (o : Option Batch) (n : ℕ) → in_progress o ≡ true → place_in_batch b.0 o n ≡ InBatch b
stays_in b None n h = cc
stays_in b (Some x) n h = going_in b.0 x.place (unwrap_or (position (λ m. m == n) x.numbers) 0) h

module _ (due : SubNo → ℕ → Option Loss) (why : StageNo → Option Why) (inc : StageNo → ℕ) (drop : ℕ → Option Loss) (legs : List (ℕ × Ends)) (batches : List BatchRow) (places : List Place) (seen : AreSeen due why inc drop legs batches places) where
  none_first : is_some (seen.batch 0) ≡ true → ⊥
  none_first h = omega (arith, (seen.within 0 h).0)

  pub ends_start : (i : ℕ) → sent_in legs (suc i) ≡ ends_in_progress (upto 0 why inc seen.batch (suc i))
  ends_start i = seen.ends i ∙ sym (ap ends_in_progress (upto_start why inc seen.batch none_first (suc i)))

  pub places_start : (i : ℕ) → slice_get places i ≡ option_map (by_batch (upto 0 why inc seen.batch) (suc i)) (slice_get places i)
  places_start i = by (slice_get places i) refl ∙ sym (same_by (upto 0 why inc seen.batch) seen.batch (suc i) (slice_get places i) (upto_start why inc seen.batch none_first))
    where
      by : (o : Option Place) → slice_get places i ≡ o → o ≡ option_map (by_batch seen.batch (suc i)) o
      by (Some (InBatch b)) e = ap Some (sym (stays_in b (seen.batch b.0) (suc i) (seen.inside i b e).0))
      by _ e = refl

  unleft : (i : ℕ) (o : Option Place) → slice_get places i ≡ o → left_batch seen.batch o ≡ false
  unleft i (Some (InBatch b)) e = ap not (seen.inside i b e).0
  unleft i _ e = refl

  pub marks_start : (marks : List ℕ) (mark i : ℕ) → slice_get marks i ≡ option_map {T = ℕ} {U = ℕ} (λ old. if left_batch (upto 0 why inc seen.batch) (slice_get places i) then mark else old) (slice_get marks i)
  marks_start marks mark i = by (slice_get marks i)
    where
      none : left_batch (upto 0 why inc seen.batch) (slice_get places i) ≡ false
      none = same_left (upto 0 why inc seen.batch) seen.batch (slice_get places i) (upto_start why inc seen.batch none_first) ∙ unleft i (slice_get places i) refl

      by : (o : Option ℕ) → o ≡ option_map {T = ℕ} {U = ℕ} (λ old. if left_batch (upto 0 why inc seen.batch) (slice_get places i) then mark else old) o
      by None = refl
      by (Some old) = sym (ap (λ c. Some (if c then mark else old)) none)

  pub places_end : (at i : ℕ) → length batches ≤ at → option_map (by_batch (upto at why inc seen.batch) (suc i)) (slice_get places i) ≡ option_map (by_batch (after_kill why inc seen.batch) (suc i)) (slice_get places i)
  places_end at i all = same_by (upto at why inc seen.batch) (after_kill why inc seen.batch) (suc i) (slice_get places i) (upto_end at why inc seen.batch (λ b h. omega (arith, all, (seen.within b h).1)))

  pub marks_end : (marks : List ℕ) (mark at i : ℕ) → length batches ≤ at
      → option_map {T = ℕ} {U = ℕ} (λ old. if left_batch (upto at why inc seen.batch) (slice_get places i) then mark else old) (slice_get marks i)
      ≡ option_map {T = ℕ} {U = ℕ} (λ old. if left_batch (after_kill why inc seen.batch) (slice_get places i) then mark else old) (slice_get marks i)
  marks_end marks mark at i all =
      ap (λ c. option_map {T = ℕ} {U = ℕ} (λ old. if c then mark else old) (slice_get marks i))
      (same_left (upto at why inc seen.batch) (after_kill why inc seen.batch) (slice_get places i) (upto_end at why inc seen.batch (λ b h. omega (arith, all, (seen.within b h).1))))

  pub ends_end : (at b : ℕ) → length batches ≤ at → ends_in_progress (upto at why inc seen.batch b) ≡ ends_in_progress (after_kill why inc seen.batch b)
  ends_end at b all = ap ends_in_progress (upto_end at why inc seen.batch (λ k h. omega (arith, all, (seen.within k h).1)) b)

  -- One turn, at the row of the batch

  abbrev pub row_seen : (at count : ℕ) (row : BatchRow) (old : List (ℕ × Ends)) → slice_get batches at ≡ Some row → count ≡ length places → ((i : ℕ) → sent_in old (suc i) ≡ ends_in_progress (upto at why inc seen.batch (suc i)))
      → SeenBatch due why inc (drop (at + 1)) (at + 1) count row.numbers.items row.subs.items (sent_in old (at + 1))
  row_seen at count row old here counted was =
      let r = seen.rows at row here in
      let one : suc at ≡ at + 1 = omega arith in
      let is : seen.batch (at + 1) ≡ Some (record { numbers = row.numbers.items; place = r.place }) = ap seen.batch (sym one) ∙ r.is in
      record {
        legs =
            record {
              messages = length row.numbers.items;
              place = r.place;
              stands = subst (λ (n : ℕ). sent_in old n ≡ ends_in_progress (upto at why inc seen.batch n)) one (was at) ∙ ap ends_in_progress (upto_yet at why inc seen.batch ∙ is);
              dues = subst (λ (n : ℕ). AreDue (λ u. due u n) (leg_loss why inc) row.subs.items r.place) one r.dues;
            };
        many = refl;
        dropped = ap drop (sym one) ∙ r.dropped;
        named = λ g. subst (λ (n : ℕ). AreNumbers n row.numbers.items) (sym counted) (r.named g);
      }

  pub ends_turn : (at : ℕ) (row : BatchRow) (old new : List (ℕ × Ends)) (here : slice_get batches at ≡ Some row) → sent_in new (at + 1) ≡ ends_on (length row.numbers.items) (batch_lost why inc (seen.rows at row here).place)
      → ((b : ℕ) → (b == at + 1) ≡ false → sent_in new b ≡ sent_in old b) → ((i : ℕ) → sent_in old (suc i) ≡ ends_in_progress (upto at why inc seen.batch (suc i))) → (i : ℕ) → sent_in new (suc i) ≡ ends_in_progress (upto (at + 1) why inc seen.batch (suc i))
  ends_turn at row old new here now others was i = by (same_or_other (suc i) (at + 1))
    where
      b : ℕ
      b = suc i

      one : suc at ≡ at + 1
      one = omega arith

      is : seen.batch (at + 1) ≡ Some (record { numbers = row.numbers.items; place = (seen.rows at row here).place })
      is = ap seen.batch (sym one) ∙ (seen.rows at row here).is

      by : (((b == at + 1) ≡ true) × (b ≡ at + 1)) ⊎ (((b == at + 1) ≡ false) × (b ≢ at + 1)) → sent_in new b ≡ ends_in_progress (upto (at + 1) why inc seen.batch b)
      by (inl same) =
          ap (sent_in new) same.1
          ∙ (now ∙ (sym (ap (λ o. ends_in_progress (lost_batch why inc o)) is)
          ∙ (sym (ap ends_in_progress (upto_here at why inc seen.batch)) ∙ ap (λ k. ends_in_progress (upto (at + 1) why inc seen.batch k)) (sym same.1))))
      by (inr other) = others b other.0 ∙ (was i ∙ sym (ap ends_in_progress (upto_other at why inc seen.batch b other.1)))

  -- the messages of other batches stay
  module _ (at : ℕ) (row : BatchRow) (here : slice_get batches at ≡ Some row) (i : ℕ) where
    abbrev was_place : BatchPlace
    was_place = (seen.rows at row here).place

    abbrev now_place : BatchPlace
    now_place = batch_lost why inc (seen.rows at row here).place

    own : seen.batch (at + 1) ≡ Some (record { numbers = row.numbers.items; place = was_place })
    own = ap seen.batch (let one : at + 1 ≡ suc at = omega arith in one) ∙ (seen.rows at row here).is

    member : going was_place ≡ true → among row.numbers.items (suc i) ≡ true → slice_get places i ≡ Some (InBatch (batch_no (at + 1)))
    member g m = seen.members (at + 1) i (ap in_progress own ∙ g) (ap (λ o. among (numbers_in o) (suc i)) own ∙ m)

    -- no message of the batch
    free : (p : Place) → slice_get places i ≡ Some p → (p ≡ InBatch (batch_no (at + 1)) → ⊥) → (going was_place && among row.numbers.items (suc i)) ≡ false
    free p e other = by (going was_place) refl (among row.numbers.items (suc i)) refl
      where
        by : (a : Bool) → going was_place ≡ a → (b : Bool) → among row.numbers.items (suc i) ≡ b → (a && b) ≡ false
        by true f true g = absurd (other (let same : Some p ≡ Some (InBatch (batch_no (at + 1))) = sym e ∙ member f g in cc))
        by true f false g = refl
        by false f b g = refl

    untouched : (p : Place) → (going was_place && among row.numbers.items (suc i)) ≡ false → ended_in was_place now_place row.numbers.items (suc i) p ≡ p
    untouched p = by (going was_place) (among row.numbers.items (suc i)) (is_settled (fate_legs now_place)) (settled_as (lost_leg (fate_legs now_place)) (failed_leg (fate_legs now_place) (unwrap_or (position (λ m. m == suc i) row.numbers.items) 0)))
      where
        by : (a b c : Bool) (q : Place) → (a && b) ≡ false → (if a then (if c && b then q else p) else p) ≡ p
        by true true c q e = cc
        by true false true q e = refl
        by true false false q e = refl
        by false b c q e = refl

    unmarked : (mark old : ℕ) → (going was_place && among row.numbers.items (suc i)) ≡ false → marked_in was_place now_place row.numbers.items mark (suc i) old ≡ old
    unmarked mark old = by (going was_place) (among row.numbers.items (suc i)) (not (going now_place))
      where
        by : (a b c : Bool) → (a && b) ≡ false → (if (a && c) && b then mark else old) ≡ old
        by true true c e = cc
        by true false true e = refl
        by true false false e = refl
        by false b c e = refl

    -- a message of the batch
    mine : (d : BatchNo) → slice_get places i ≡ Some (InBatch d) → d.0 ≡ at + 1 → (going was_place ≡ true) × (among row.numbers.items (suc i) ≡ true)
    mine d e same =
        let h = seen.inside i d e in
        let o : seen.batch d.0 ≡ Some (record { numbers = row.numbers.items; place = was_place }) = ap seen.batch same ∙ own in
        (sym (ap in_progress o) ∙ h.0, sym (ap (λ x. among (numbers_in x) (suc i)) o) ∙ h.1)

    after_own : (d : BatchNo) → d.0 ≡ at + 1 → upto (at + 1) why inc seen.batch d.0 ≡ Some (record { numbers = row.numbers.items; place = now_place })
    after_own d same = ap (upto (at + 1) why inc seen.batch) same ∙ (upto_here at why inc seen.batch ∙ ap (lost_batch why inc) own)

    before_own : (d : BatchNo) → d.0 ≡ at + 1 → upto at why inc seen.batch d.0 ≡ seen.batch d.0
    before_own d same = ap (upto at why inc seen.batch) same ∙ (upto_yet at why inc seen.batch ∙ ap seen.batch (sym same))

    pub place_turn : option_map (ended_in was_place now_place row.numbers.items (suc i)) (option_map (by_batch (upto at why inc seen.batch) (suc i)) (slice_get places i)) ≡ option_map (by_batch (upto (at + 1) why inc seen.batch) (suc i)) (slice_get places i)
    place_turn = by (slice_get places i) refl
      where
        by : (o : Option Place) → slice_get places i ≡ o → option_map (ended_in was_place now_place row.numbers.items (suc i)) (option_map (by_batch (upto at why inc seen.batch) (suc i)) o) ≡ option_map (by_batch (upto (at + 1) why inc seen.batch) (suc i)) o
        by None e = refl
        by (Some (Waiting t)) e = ap Some (untouched (Waiting t) (free (Waiting t) e (λ k. cc)))
        by (Some (Inbox u)) e = ap Some (untouched (Inbox u) (free (Inbox u) e (λ k. cc)))
        by (Some (Running t)) e = ap Some (untouched (Running t) (free (Running t) e (λ k. cc)))
        by (Some (Gathered t)) e = ap Some (untouched (Gathered t) (free (Gathered t) e (λ k. cc)))
        by (Some (Acked x)) e = ap Some (untouched (Acked x) (free (Acked x) e (λ k. cc)))
        by (Some (Lost l)) e = ap Some (untouched (Lost l) (free (Lost l) e (λ k. cc)))
        by (Some (InBatch d)) e = ap Some (either (same_or_other d.0 (at + 1)))
          where
            either : (((d.0 == at + 1) ≡ true) × (d.0 ≡ at + 1)) ⊎ (((d.0 == at + 1) ≡ false) × (d.0 ≢ at + 1))
                → ended_in was_place now_place row.numbers.items (suc i) (place_in_batch d.0 (upto at why inc seen.batch d.0) (suc i)) ≡ place_in_batch d.0 (upto (at + 1) why inc seen.batch d.0) (suc i)
            either (inl same) =
                let m = mine d e same.1 in
                let first : place_in_batch d.0 (upto at why inc seen.batch d.0) (suc i) ≡ InBatch d = ap (λ o. place_in_batch d.0 o (suc i)) (before_own d same.1) ∙ stays_in d (seen.batch d.0) (suc i) (seen.inside i d e).0 in
                let j : ℕ = unwrap_or (position (λ m. m == suc i) row.numbers.items) 0 in
                let q : Place = settled_as (lost_leg (fate_legs now_place)) (failed_leg (fate_legs now_place) j) in
                ap (ended_in was_place now_place row.numbers.items (suc i)) first
                ∙ (ap (λ a. if a then (if is_settled (fate_legs now_place) && among row.numbers.items (suc i) then q else InBatch d) else InBatch d) m.0
                ∙ (ap (λ b. if is_settled (fate_legs now_place) && b then q else InBatch d) m.1
                ∙ (only (is_settled (fate_legs now_place)) q
                ∙ (sym (fate_place d.0 now_place j) ∙ sym (ap (λ o. place_in_batch d.0 o (suc i)) (after_own d same.1))))))
              where
                only : (c : Bool) (q : Place) → (if c && true then q else InBatch d) ≡ (if c then q else InBatch d)
                only true q = refl
                only false q = refl
            either (inr other) =
                untouched (place_in_batch d.0 (upto at why inc seen.batch d.0) (suc i)) (free (InBatch d) e (λ k. other.1 (let is : d ≡ batch_no (at + 1) = cc in ap (λ (x : BatchNo). x.0) is)))
                ∙ sym (ap (λ o. place_in_batch d.0 o (suc i)) (upto_other at why inc seen.batch d.0 other.1))

    left_turn : (mark old : ℕ) (o : Option Place) → slice_get places i ≡ o → marked_in was_place now_place row.numbers.items mark (suc i) (if left_batch (upto at why inc seen.batch) o then mark else old) ≡ (if left_batch (upto (at + 1) why inc seen.batch) o then mark else old)
    left_turn mark old None e = none (going was_place && not (going now_place)) refl
      where
        none : (c : Bool) → (going was_place && not (going now_place)) ≡ c → (if (going was_place && not (going now_place)) && among row.numbers.items (suc i) then mark else old) ≡ old
        none c f = by (going was_place) refl (among row.numbers.items (suc i)) refl (not (going now_place))
          where
            by : (a : Bool) → going was_place ≡ a → (b : Bool) → among row.numbers.items (suc i) ≡ b → (g : Bool) → (if (a && g) && b then mark else old) ≡ old
            by true x true y g = let wrong : ◌≡◌ {A = Option Place} None (Some (InBatch (batch_no (at + 1)))) = sym e ∙ member x y in cc
            by true x false y true = refl
            by true x false y false = refl
            by false x b y g = refl
    left_turn mark old (Some (Waiting t)) e = unmarked mark old (free (Waiting t) e (λ k. cc))
    left_turn mark old (Some (Inbox u)) e = unmarked mark old (free (Inbox u) e (λ k. cc))
    left_turn mark old (Some (Running t)) e = unmarked mark old (free (Running t) e (λ k. cc))
    left_turn mark old (Some (Gathered t)) e = unmarked mark old (free (Gathered t) e (λ k. cc))
    left_turn mark old (Some (Acked x)) e = unmarked mark old (free (Acked x) e (λ k. cc))
    left_turn mark old (Some (Lost l)) e = unmarked mark old (free (Lost l) e (λ k. cc))
    left_turn mark old (Some (InBatch d)) e = either (same_or_other d.0 (at + 1))
      where
        either : (((d.0 == at + 1) ≡ true) × (d.0 ≡ at + 1)) ⊎ (((d.0 == at + 1) ≡ false) × (d.0 ≢ at + 1))
            → marked_in was_place now_place row.numbers.items mark (suc i) (if not (in_progress (upto at why inc seen.batch d.0)) then mark else old) ≡ (if not (in_progress (upto (at + 1) why inc seen.batch d.0)) then mark else old)
        either (inl same) =
            let m = mine d e same.1 in
            let first : not (in_progress (upto at why inc seen.batch d.0)) ≡ false = ap (λ o. not (in_progress o)) (before_own d same.1) ∙ ap not (seen.inside i d e).0 in
            ap (λ c. marked_in was_place now_place row.numbers.items mark (suc i) (if c then mark else old)) first
            ∙ (ap (λ a. if (a && not (going now_place)) && among row.numbers.items (suc i) then mark else old) m.0
            ∙ (ap (λ b. if (true && not (going now_place)) && b then mark else old) m.1
            ∙ (only (not (going now_place)) ∙ sym (ap (λ o. if not (in_progress o) then mark else old) (after_own d same.1)))))
          where
            only : (c : Bool) → (if (true && c) && true then mark else old) ≡ (if c then mark else old)
            only true = refl
            only false = refl
        either (inr other) =
            unmarked mark (if not (in_progress (upto at why inc seen.batch d.0)) then mark else old) (free (InBatch d) e (λ k. other.1 (let is : d ≡ batch_no (at + 1) = cc in ap (λ (x : BatchNo). x.0) is)))
            ∙ sym (ap (λ o. if not (in_progress o) then mark else old) (upto_other at why inc seen.batch d.0 other.1))

    pub mark_turn : (mark : ℕ) (m : Option ℕ) → option_map (marked_in was_place now_place row.numbers.items mark (suc i)) (option_map {T = ℕ} {U = ℕ} (λ old. if left_batch (upto at why inc seen.batch) (slice_get places i) then mark else old) m)
        ≡ option_map {T = ℕ} {U = ℕ} (λ old. if left_batch (upto (at + 1) why inc seen.batch) (slice_get places i) then mark else old) m
    mark_turn mark None = refl
    mark_turn mark (Some old) = ap Some (left_turn mark old (slice_get places i) refl)
