-- What a step's rows of the log say of its acknowledgements: the numbers of a producer's side, in their order, are those of its entry.
use Rattle.std.proofs.Common.{◌≡◌, ℕ, zero, suc, ◌+◌, ◌<◌, ◌≤◌, List, [], ◌∷◌, length, map, Bool, true, false, refl, ap, sym, ◌∙◌, subst, arith, cond, All, Some, None, Option, inl, inr}
use Rattle.std.specs.Prelude.{◌⊎◌, ◌==◌, ◌&&◌, ◌||◌, not, filter, is_some}
use Rattle.std.proofs.lemmas.Bool.{eq-eqb, ne_eqb, cases_eq}
use Rattle.pipe_types.specs.declared.numbers.StageNo.{StageNo}
use Rattle.pipe_types.specs.declared.topology.Topology.{Topology}
use Rattle.pipe_types.specs.declared.message.Place.{Place}
use Rattle.pipe_types.specs.declared.message.Place.TheVariants.{Waiting, Inbox, Running, Gathered, InBatch, Acked, Lost}
use Rattle.pipe_types.specs.declared.message.Outcome.TheVariants.{Successful, Failed}
use Rattle.pipe_types.specs.declared.step.Step.{Step}
use Rattle.pipe_types.specs.Numbers.{same_stage}
use Rattle.pipe_model.specs.History.{History, accepted}
use Rattle.pipe_model.specs.Content.{producer_of}
use Rattle.pipe_model.specs.Flow.{place, among}
use Rattle.pipe_model.specs.Legal.{same_truth}
use Rattle.pipe_model.specs.Acknowledgements.{is_acked, is_acked_successful, is_acked_failed, is_producer, numbers_upto, settled_by}
use Rattle.pipe_laws.proofs.Accepted.{placed_accepted}
use Rattle.pipe_laws.proofs.Lists.{Each}
use Rattle.settle_laws.proofs.Climbs.{climbs_filter, upto_climbs, among_filter, among_upto}
use Rattle.pipe_journal.specs.declared.acked.AckRow.{AckRow}
use Rattle.pipe_journal.specs.Acked.{AreAcked, IsAckRow, numbers_of}
use Rattle.ack_texts.specs.Logs.{is_row_of, numbers_by}
use Rattle.ack_texts.specs.Sides.{IsSide}

-- The numbers of a side

-- the message is the producer's, on this side
abbrev is_number_of : Topology → History → StageNo → Bool → ℕ → Bool
is_number_of topology before p b n = is_producer (producer_of before n) p && same_truth (is_acked_successful (place topology before n)) b

and_false : (b : Bool) → (b && false) ≡ false
and_false true = refl
and_false false = refl

side_among : (topology : Topology) (before : History) (step : Step) (rows : List AckRow) (p : StageNo) (b : Bool) (n : ℕ) → Each (IsAckRow topology before step) rows
    → among (numbers_by rows p b) n ≡ (among (numbers_of rows) n && is_number_of topology (step ∷ before) p b n)
side_among topology before step [] p b n h = refl
side_among topology before step (row ∷ rows) p b n h = by (is_row_of p b row) same (cases_eq row.no.0 n) (side_among topology before step rows p b n h.1)
  where
    same : is_row_of p b row ≡ is_number_of topology (step ∷ before) p b row.no.0
    same = ap (λ s. same_stage row.producer p && same_truth s b) (sym h.0.ended) ∙ ap (λ o. is_producer o p && same_truth (is_acked_successful (place topology (step ∷ before) row.no.0)) b) (sym h.0.producer)

    by : (c : Bool) → c ≡ is_number_of topology (step ∷ before) p b row.no.0 → (row.no.0 ≡ n) ⊎ (row.no.0 ≡ n → ⊥) → among (numbers_by rows p b) n ≡ (among (numbers_of rows) n && is_number_of topology (step ∷ before) p b n)
        → among (map (λ (r : AckRow). r.no.0) (cond c (row ∷ filter (is_row_of p b) rows) (filter (is_row_of p b) rows))) n ≡ (among (numbers_of (row ∷ rows)) n && is_number_of topology (step ∷ before) p b n)
    by true is (inl e) rest =
        ap (λ x. x || among (numbers_by rows p b) n) (eq-eqb row.no.0 n e)
        ∙ (is ∙ (ap (is_number_of topology (step ∷ before) p b) e ∙ sym (ap (λ x. (x || among (numbers_of rows) n) && is_number_of topology (step ∷ before) p b n) (eq-eqb row.no.0 n e))))
    by true is (inr o) rest =
        let no : (row.no.0 == n) ≡ false = ne_eqb row.no.0 n o in
        ap (λ x. x || among (numbers_by rows p b) n) no ∙ (rest ∙ sym (ap (λ x. (x || among (numbers_of rows) n) && is_number_of topology (step ∷ before) p b n) no))
    by false is (inl e) rest =
        let off : is_number_of topology (step ∷ before) p b n ≡ false = sym (is ∙ ap (is_number_of topology (step ∷ before) p b) e) in
        rest ∙ (ap (λ x. among (numbers_of rows) n && x) off ∙ (and_false (among (numbers_of rows) n) ∙ (sym (and_false (among (numbers_of (row ∷ rows)) n)) ∙ sym (ap (λ x. among (numbers_of (row ∷ rows)) n && x) off))))
    by false is (inr o) rest =
        let no : (row.no.0 == n) ≡ false = ne_eqb row.no.0 n o in
        rest ∙ sym (ap (λ x. (x || among (numbers_of rows) n) && is_number_of topology (step ∷ before) p b n) no)

-- The entries

placed : (p : Option Place) → is_acked p ≡ true → is_some p ≡ true
placed None h = cc
placed (Some p) h = refl

-- on which side an acknowledged message is
successful_truth : (p : Option Place) → same_truth (is_acked_successful p) true ≡ is_acked_successful p
successful_truth p = by (is_acked_successful p)
  where
    by : (b : Bool) → same_truth b true ≡ b
    by true = refl
    by false = refl

-- of what the step acknowledges, the producer's that is on a side; and of the accepted messages, what the entry has
side_test : (acked after prod side truth upto : Bool) → (side ≡ true → after ≡ true) → (after ≡ true → truth ≡ side) → (after ≡ true → upto ≡ true)
    → ((not acked && after) && (prod && truth)) ≡ ((prod && (not acked && side)) && upto)
side_test acked false prod side truth upto within is all = by side within
  where
    by : (s : Bool) → (s ≡ true → false ≡ true) → ((not acked && false) && (prod && truth)) ≡ ((prod && (not acked && s)) && upto)
    by true h = let wrong : false ≡ true = h refl in cc
    by false h = off acked prod
      where
        off : (a q : Bool) → ((not a && false) && (q && truth)) ≡ ((q && (not a && false)) && upto)
        off true true = refl
        off true false = refl
        off false true = refl
        off false false = refl
side_test acked true prod side truth upto within is all =
    ap (λ t. (not acked && true) && (prod && t)) (is refl) ∙ (on acked prod side ∙ sym (ap (λ u. (prod && (not acked && side)) && u) (all refl)))
  where
    on : (a q s : Bool) → ((not a && true) && (q && s)) ≡ ((q && (not a && s)) && true)
    on true true s = refl
    on true false s = refl
    on false true true = refl
    on false true false = refl
    on false false s = refl

all_each : {A : Type 0} (P : A → Type 0) (xs : List A) → All P xs → Each P xs
all_each P [] h = tt
all_each P (x ∷ xs) h = (h 0 x (omega arith), all_each P xs (λ k d below. h (suc k) d (omega (arith, below))))

-- the numbers of a side of the rows, in their order, are those of the producer's entry
entry_is : (topology : Topology) (before : History) (step : Step) (rows : List AckRow) (p : StageNo) (b : Bool) (side : Option Place → Bool) → AreAcked topology before step rows
    → ((o : Option Place) → side o ≡ true → is_acked o ≡ true) → ((o : Option Place) → is_acked o ≡ true → same_truth (is_acked_successful o) b ≡ side o)
    → IsSide 0 (numbers_by rows p b) (settled_by topology before step p side)
entry_is topology before step rows p b side are within is = record {
  climbs = climbs_filter test 0 (numbers_upto (accepted (step ∷ before))) (upto_climbs (accepted (step ∷ before)));
  members = λ k from. sym (side_among topology before step rows p b k (all_each (IsAckRow topology before step) rows are.each)
      ∙ (ap (λ c. c && is_number_of topology (step ∷ before) p b k) (are.members k)
      ∙ (side_test (is_acked (place topology before k)) (is_acked (place topology (step ∷ before) k)) (is_producer (producer_of (step ∷ before) k) p) (side (place topology (step ∷ before) k))
      (same_truth (is_acked_successful (place topology (step ∷ before) k)) b) (among (numbers_upto (accepted (step ∷ before))) k)
      (within (place topology (step ∷ before) k)) (is (place topology (step ∷ before) k)) (all k)
      ∙ sym (among_filter test (numbers_upto (accepted (step ∷ before))) k))));
}
  where
    test : ℕ → Bool
    test n = is_producer (producer_of (step ∷ before) n) p && (not (is_acked (place topology before n)) && side (place topology (step ∷ before) n))

    all : (k : ℕ) → is_acked (place topology (step ∷ before) k) ≡ true → among (numbers_upto (accepted (step ∷ before))) k ≡ true
    all k h = let there = placed_accepted topology (step ∷ before) k (placed (place topology (step ∷ before) k) h) in among_upto (accepted (step ∷ before)) k there.0 there.1

pub successful_is : (topology : Topology) (before : History) (step : Step) (rows : List AckRow) (p : StageNo) → AreAcked topology before step rows → IsSide 0 (numbers_by rows p true) (settled_by topology before step p is_acked_successful)
successful_is topology before step rows p are =
    entry_is topology before step rows p true is_acked_successful are within (λ o h. successful_truth o)
  where
    within : (o : Option Place) → is_acked_successful o ≡ true → is_acked o ≡ true
    within (Some (Acked o)) h = refl
    within None h = cc
    within (Some (Waiting t)) h = cc
    within (Some (Inbox u)) h = cc
    within (Some (Running t)) h = cc
    within (Some (Gathered t)) h = cc
    within (Some (InBatch d)) h = cc
    within (Some (Lost l)) h = cc

pub failed_is : (topology : Topology) (before : History) (step : Step) (rows : List AckRow) (p : StageNo) → AreAcked topology before step rows → IsSide 0 (numbers_by rows p false) (settled_by topology before step p is_acked_failed)
failed_is topology before step rows p are =
    entry_is topology before step rows p false is_acked_failed are within truth
  where
    within : (o : Option Place) → is_acked_failed o ≡ true → is_acked o ≡ true
    within (Some (Acked o)) h = refl
    within None h = cc
    within (Some (Waiting t)) h = cc
    within (Some (Inbox u)) h = cc
    within (Some (Running t)) h = cc
    within (Some (Gathered t)) h = cc
    within (Some (InBatch d)) h = cc
    within (Some (Lost l)) h = cc

    truth : (o : Option Place) → is_acked o ≡ true → same_truth (is_acked_successful o) false ≡ is_acked_failed o
    truth (Some (Acked Successful)) h = refl
    truth (Some (Acked (Failed why))) h = refl
    truth None h = cc
    truth (Some (Waiting t)) h = cc
    truth (Some (Inbox u)) h = cc
    truth (Some (Running t)) h = cc
    truth (Some (Gathered t)) h = cc
    truth (Some (InBatch d)) h = cc
    truth (Some (Lost l)) h = cc
