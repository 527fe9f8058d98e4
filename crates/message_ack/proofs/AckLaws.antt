-- The acknowledgement of one producer, and of one producer more.
use Rattle.std.proofs.Common.{◌≡◌, ℕ, ◌+◌, ◌<◌, ◌≤◌, List, [], ◌∷◌, ◌++◌, length, map, take, get_or, refl, ap, sym, ◌∙◌, subst, All, arith}
use Rattle.std.specs.Prelude.{◌↔◌, Contains}
use Rattle.std.specs.List.Sorted.{IsPermutation, IsNonDecreasing, IsNonDecreasingBy, IsStrictlyIncreasing}
use Rattle.std.proofs.lemmas.List.{take_all, map-append, get_or-map, length-map}
use Rattle.std.proofs.lemmas.List.Elements.{All-push}
use Rattle.std.proofs.lemmas.List.Sorted.{IsPermutation-map}
use Rattle.std.proofs.lemmas.Grind.{take_at_read}
use Rattle.pipe_types.specs.declared.numbers.MsgNo.{MsgNo}
use Rattle.pipe_types.specs.declared.numbers.StageNo.{StageNo}
use Rattle.pipe_model.specs.Acknowledgements.{Acknowledgement}
use Rattle.message_ack.specs.declared.verdicts.Verdict.{Verdict}
use Rattle.message_ack.specs.declared.verdicts.Ack.{Ack}
use Rattle.message_ack.specs.Groups.{AreAscending, IsAcknowledgement, AreAcknowledgements, acknowledgement, acknowledgements_in, successful_of, failed_of}

abbrev number : MsgNo → ℕ
number n = n.0

abbrev producer_in : Acknowledgement → ℕ
producer_in ack = ack.producer.0

ascending : (numbers : List MsgNo) → IsNonDecreasingBy number numbers → IsNonDecreasing (map number numbers)
ascending numbers sorted i j d before within =
    let inside : j < length numbers = omega (arith, length-map numbers number) in
    let first = get_or-map number numbers i (record { 0 = d }) d (omega arith) in
    let second = get_or-map number numbers j (record { 0 = d }) d inside in
    let ordered = sorted i j (record { 0 = d }) before inside in
    omega (arith, first, second, ordered)

sorted_numbers : (numbers : List ℕ) (made sorted : List MsgNo) → map number made ≡ numbers → IsPermutation made sorted → IsNonDecreasingBy number sorted → AreAscending numbers (map number sorted)
sorted_numbers numbers made sorted is same rises = record {
  same = subst (λ ns. IsPermutation ns (map number sorted)) is (IsPermutation-map number made sorted same);
  ascending = ascending sorted rises;
}

pub is_acknowledgement : (verdicts : List Verdict) (producer : StageNo) (made sorted made' sorted' : List MsgNo)
    → map number made ≡ successful_of verdicts producer → IsPermutation made sorted → IsNonDecreasingBy number sorted
    → map number made' ≡ failed_of verdicts producer → IsPermutation made' sorted' → IsNonDecreasingBy number sorted'
    → IsAcknowledgement verdicts (acknowledgement (record { producer = producer; successful = sorted; failed = sorted' }))
is_acknowledgement verdicts producer made sorted made' sorted' is same rises is' same' rises' = record {
  successful = sorted_numbers (successful_of verdicts producer) made sorted is same rises;
  failed = sorted_numbers (failed_of verdicts producer) made' sorted' is' same' rises';
}

-- the acknowledgements of these producers
abbrev pub Acknowledges : List Verdict → List Ack → List ℕ → Type 0
Acknowledges verdicts acks producers = (map (λ ack. ack.producer.0) (acknowledgements_in acks) ≡ producers) × All (IsAcknowledgement verdicts) (acknowledgements_in acks)

pub one_more : (verdicts : List Verdict) (acks : List Ack) (ack : Ack) (producers : List ℕ) (i p : ℕ) → i < length producers → p ≡ get_or producers i p → ack.producer.0 ≡ p
    → Acknowledges verdicts acks (take i producers) → IsAcknowledgement verdicts (acknowledgement ack) → Acknowledges verdicts (acks ++ ack ∷ []) (take (i + 1) producers)
one_more verdicts acks ack producers i p within read is made one = (
  ap (map producer_in) (map-append acknowledgement acks (ack ∷ []))
      ∙ (map-append producer_in (acknowledgements_in acks) (acknowledgement ack ∷ [])
      ∙ ((λ j. made.0 j ++ (is ∙ read) j ∷ []) ∙ sym (take_at_read producers i p within).1)),
  subst (All (IsAcknowledgement verdicts)) (sym (map-append acknowledgement acks (ack ∷ [])))
      (All-push (IsAcknowledgement verdicts) (acknowledgements_in acks) (acknowledgement ack) made.1 one),
)

pub all_made : (verdicts : List Verdict) (acks : List Ack) (producers : List ℕ) (i : ℕ) → length producers ≤ i → Acknowledges verdicts acks (take i producers)
    → IsStrictlyIncreasing producers → ((p : ℕ) → Contains (map (λ v. v.producer.0) verdicts) p ↔ Contains producers p) → AreAcknowledgements verdicts (acknowledgements_in acks)
all_made verdicts acks producers i past made rises same =
    let are = made.0 ∙ take_all i producers past in
    record {
      ascending = subst IsStrictlyIncreasing (sym are) rises;
      producers = λ p. subst (λ ps. Contains (map (λ (v : Verdict). v.producer.0) verdicts) p ↔ Contains ps p) (sym are) (same p);
      each = made.1;
    }
