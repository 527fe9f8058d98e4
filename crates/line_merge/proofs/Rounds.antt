-- A round of two ranges.
use Rattle.std.proofs.Common.{◌≡◌, ◌≢◌, ◌≤◌, ◌<◌, ℕ, Bool, true, false, List, [], length, refl, arith, inl, inr}
use Rattle.std.specs.Prelude.{Option, Some, None, Result, Ok, Err, IfOk, slice_get, nat_lt, ◌||◌, IfSome, IsSomeAnd}
use Rattle.std.proofs.lemmas.Bool.Decides.{nat_tests}
use Rattle.std.proofs.lemmas.Option.{slice_get_past}
use Rattle.pipe_edges.specs.declared.source.ByteSource.{Ghosts as SourceOf}
use Rattle.line_merge.specs.Items.{given_of}
use Rattle.line_merge.specs.Streams.{Both, There, is_open_in}
use Rattle.line_merge.specs.Opening.{SomeIsOpen, NoneIsOpen, IsWithout, RestHasCause}
use Rattle.line_merge.specs.Tries.{HasNone, HasEnded, HasWaited, IsTriedIf, AreTried, IsFound, RangeHasCause, RoundHasCause, is_in, comes_before, WasOpen, HasFailed, HasTooLong}
use Rattle.line_merge.specs.declared.stream.Stream.{Stream}
use Rattle.line_merge.specs.declared.item.MergeItem.{MergeItem}
use Rattle.line_merge.specs.declared.item.MergeItem.TheVariants as item
use Rattle.line_merge.proofs.Pairs.{both_then, there_then}

-- ---- found in the first range

before_first : (first place k : ℕ) → first ≤ place → comes_before first place k ≡ is_in first place k
before_first first place k le = let e : nat_lt place first ≡ false = grind (arith, nat_tests) in rw e refl

found_first : {B : Type 0} (source : SourceOf B) (Here : Stream B → Stream B → Type 0) (first place : ℕ) (old new : ℕ → Option (Stream B)) → first ≤ place
    → IsFound source Here (is_in first place) place old new → IsFound source Here (comes_before first place) place old new
found_first source Here first place old new le f = record { here = f.here; others = λ k other. rw (before_first first place k le) (f.others k other) }

pub in_first : {B : Type 0} (source : SourceOf B) (first to : ℕ) (old new : ℕ → Option (Stream B)) (found : MergeItem)
    → RangeHasCause source first to old new (Some found) → RoundHasCause source first old new found
in_first source first to old new (item.Line place line) f = found_first source WasOpen first place old new f.0.0 f.1
in_first source first to old new (item.Fault place) f = found_first source (HasFailed source) first place old new f.0.0 f.1
in_first source first to old new (item.TooLong place) f = found_first source HasTooLong first place old new f.0.0 f.1
in_first source first to old new item.NotYet f = absurd f.0
in_first source first to old new item.End f = absurd f.0

-- ---- found in the second range

both_tried : {B : Type 0} (source : SourceOf B) (p q r : Bool) (a b c : Stream B) → r ≡ (p || q) → ¬ ((p ≡ true) × (q ≡ true)) → IsTriedIf source p a b → IsTriedIf source q b c → IsTriedIf source r a c
both_tried source true true r a b c is apart h i = absurd (apart (refl, refl))
both_tried source true false r a b c is apart h i = rw (is, i) h
both_tried source false true r a b c is apart h i = rw is (rw h at i)
both_tried source false false r a b c is apart h i = rw (is, i, h) refl

behind_first : (first count place k : ℕ) → place < first → k < count → comes_before first place k ≡ (is_in first count k || is_in 0 place k)
behind_first first count place k lt within = let e : nat_lt place first ≡ true = grind (arith, nat_tests) in rw e (grind (arith, nat_tests))

apart_ranges : (first count place k : ℕ) → place ≤ first → ¬ ((is_in first count k ≡ true) × (is_in 0 place k ≡ true))
apart_ranges first count place k le both = grind (arith, nat_tests)

found_second : {B : Type 0} (source : SourceOf B) (Here : Stream B → Stream B → Type 0) (first count place : ℕ) (old mid new : ℕ → Option (Stream B)) → place < first
    → ((k : ℕ) → count ≤ k → old k ≡ None) → ((k : ℕ) → count ≤ k → new k ≡ None)
    → ((a b c : Stream B) → b ≡ a → Here b c → Here a c)
    → AreTried source (is_in first count) old mid → IsFound source Here (is_in 0 place) place mid new → IsFound source Here (comes_before first place) place old new
found_second source Here first count place old mid new lt none_old none_new along before f = record {
  here =
      let free : is_in first count place ≡ false = grind (arith, nat_tests) in
      let here_before : Both (IsTriedIf source false) (old place) (mid place) = rw free at (before place) in
      there_then (IsTriedIf source false) Here Here (old place) (mid place) (new place) here_before f.here along;
  others = λ k other. by (nat_lt k count) k refl other;
}
  where
    by : (within : Bool) → (k : ℕ) → nat_lt k count ≡ within → k ≢ place → Both (IsTriedIf source (comes_before first place k)) (old k) (new k)
    by true k is other =
        let below : k < count = grind (arith, nat_tests) in
        let le : place ≤ first = omega (arith, lt) in
        both_then (IsTriedIf source (is_in first count k)) (IsTriedIf source (is_in 0 place k)) (IsTriedIf source (comes_before first place k)) (old k) (mid k) (new k) (before k) (f.others k other)
        (λ a b c h i. both_tried source (is_in first count k) (is_in 0 place k) (comes_before first place k) a b c (behind_first first count place k lt below) (apart_ranges first count place k le) h i)
    by false k is other =
        let past : count ≤ k = grind (arith, nat_tests) in
        rw (none_old k past, none_new k past) tt

open_along : {B : Type 0} (a b c : Stream B) → b ≡ a → WasOpen b c → WasOpen a c
open_along a b c same was = rw same at was

failed_along : {B : Type 0} (source : SourceOf B) (a b c : Stream B) → b ≡ a → HasFailed source b c → HasFailed source a c
failed_along source a b c same failed = rw same at failed

pub in_second : {B : Type 0} (source : SourceOf B) (first count : ℕ) (old mid new : ℕ → Option (Stream B)) (found : MergeItem)
    → ((k : ℕ) → count ≤ k → old k ≡ None) → ((k : ℕ) → count ≤ k → new k ≡ None)
    → RangeHasCause source first count old mid None → RangeHasCause source 0 first mid new (Some found) → RoundHasCause source first old new found
in_second source first count old mid new (item.Line place line) none_old none_new before f =
    found_second source WasOpen first count place old mid new f.0.1 none_old none_new open_along before f.1
in_second source first count old mid new (item.Fault place) none_old none_new before f =
    found_second source (HasFailed source) first count place old mid new f.0.1 none_old none_new (failed_along source) before f.1
in_second source first count old mid new (item.TooLong place) none_old none_new before f =
    found_second source HasTooLong first count place old mid new f.0.1 none_old none_new (λ a b c same long. long) before f.1
in_second source first count old mid new item.NotYet none_old none_new before f = absurd f.0
in_second source first count old mid new item.End none_old none_new before f = absurd f.0

-- ---- nothing found

pub all_tried : {B : Type 0} (source : SourceOf B) (first count : ℕ) (old mid new : ℕ → Option (Stream B))
    → ((k : ℕ) → count ≤ k → old k ≡ None) → ((k : ℕ) → count ≤ k → new k ≡ None)
    → RangeHasCause source first count old mid None → RangeHasCause source 0 first mid new None → (k : ℕ) → Both (HasNone source) (old k) (new k)
all_tried source first count old mid new none_old none_new before then k = by (nat_lt k count) refl
  where
    by : (within : Bool) → nat_lt k count ≡ within → Both (HasNone source) (old k) (new k)
    by true is =
        let below : k < count = grind (arith, nat_tests) in
        let all : true ≡ (is_in first count k || is_in 0 first k) = grind (arith, nat_tests) in
        let le : first ≤ first = omega arith in
        both_then (IsTriedIf source (is_in first count k)) (IsTriedIf source (is_in 0 first k)) (HasNone source) (old k) (mid k) (new k) (before k) (then k)
        (λ a b c h i. both_tried source (is_in first count k) (is_in 0 first k) true a b c all (apart_ranges first count first k le) h i)
    by false is =
        let past : count ≤ k = grind (arith, nat_tests) in
        rw (none_old k past, none_new k past) tt

waited : {B : Type 0} (source : SourceOf B) (a b : Stream B) → HasNone source a b → is_open_in b ≡ true → HasWaited source a b
waited source a b (inl ended) is = let e : is_open_in b ≡ false = ended.is_closed in cc
waited source a b (inr now) is = now

ended_by : {B : Type 0} (source : SourceOf B) (a b : Stream B) → HasNone source a b → is_open_in b ≡ false → HasEnded b
ended_by source a b (inl ended) is = ended
ended_by source a b (inr now) is = let e : is_open_in b ≡ true = now.is_open in cc

there_waits : {B : Type 0} (source : SourceOf B) (x y : Option (Stream B)) → Both (HasNone source) x y → IsSomeAnd y (λ s. is_open_in s ≡ true) → There (HasWaited source) x y
there_waits source (Some a) (Some b) none is = waited source a b none is
there_waits source None (Some b) none is = absurd none
there_waits source x None none is = absurd is

both_ended : {B : Type 0} (source : SourceOf B) (x y : Option (Stream B)) → Both (HasNone source) x y → IfSome y (λ s. is_open_in s ≡ false) → Both (λ a b. HasEnded b) x y
both_ended source (Some a) (Some b) none is = ended_by source a b none is
both_ended source None None none is = tt
both_ended source None (Some b) none is = absurd none
both_ended source (Some a) None none is = absurd none

pub none_ready : {B : Type 0} (source : SourceOf B) (first : ℕ) (old new : ℕ → Option (Stream B)) → ((k : ℕ) → Both (HasNone source) (old k) (new k)) → SomeIsOpen new → RoundHasCause source first old new item.NotYet
none_ready source first old new none some = (none, (some.0, there_waits source (old some.0) (new some.0) (none some.0) some.1))

pub all_ended : {B : Type 0} (source : SourceOf B) (first : ℕ) (old new : ℕ → Option (Stream B)) → ((k : ℕ) → Both (HasNone source) (old k) (new k)) → NoneIsOpen new → RoundHasCause source first old new item.End
all_ended source first old new none closed k = both_ended source (old k) (new k) (none k) (closed k)

pub without : {B : Type 0} (source : SourceOf B) (first : ℕ) (old new : ℕ → Option (Stream B)) (found : MergeItem) → ((k : ℕ) → Both (HasNone source) (old k) (new k)) → IsWithout new found → RoundHasCause source first old new found
without source first old new item.NotYet none is = none_ready source first old new none is
without source first old new item.End none is = all_ended source first old new none is
without source first old new (item.Line place line) none is = absurd is
without source first old new (item.Fault place) none is = absurd is
without source first old new (item.TooLong place) none is = absurd is

-- nothing is given
pub without_lines : {B : Type 0} (streams : ℕ → Option (Stream B)) (found : MergeItem) → IsWithout streams found → given_of found ≡ []
without_lines streams item.NotYet is = refl
without_lines streams item.End is = refl
without_lines streams (item.Line place line) is = absurd is
without_lines streams (item.Fault place) is = absurd is
without_lines streams (item.TooLong place) is = absurd is

-- ---- both ranges

pub round_of : {B : Type 0} (source : SourceOf B) (first count : ℕ) (old mid new : ℕ → Option (Stream B)) (found : MergeItem)
    → ((k : ℕ) → count ≤ k → old k ≡ None) → ((k : ℕ) → count ≤ k → new k ≡ None)
    → RangeHasCause source first count old mid None → RestHasCause source first mid new found → RoundHasCause source first old new found
round_of source first count old mid new found none_old none_new before (inl some) = in_second source first count old mid new found none_old none_new before some
round_of source first count old mid new found none_old none_new before (inr none) = without source first old new found (all_tried source first count old mid new none_old none_new before none.0) none.1

pub round_in : {B E : Type 0} (source : SourceOf B) (first count : ℕ) (old mid new : ℕ → Option (Stream B)) (result : Result MergeItem E)
    → ((k : ℕ) → count ≤ k → old k ≡ None) → ((k : ℕ) → count ≤ k → new k ≡ None)
    → RangeHasCause source first count old mid None → IfOk result (RestHasCause source first mid new) → IfOk result (RoundHasCause source first old new)
round_in source first count old mid new (Ok found) none_old none_new before rest = round_of source first count old mid new found none_old none_new before rest
round_in source first count old mid new (Err e) none_old none_new before rest = tt

-- ---- past the end

pub none_past : {B : Type 0} (streams : List (Stream B)) (count k : ℕ) → length streams ≤ count → count ≤ k → slice_get streams k ≡ None
none_past streams count k le past = slice_get_past streams k (omega (arith, le, past))
