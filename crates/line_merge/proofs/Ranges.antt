-- Tries in order.
use Rattle.std.proofs.Common.{◌≡◌, ◌≢◌, ◌≤◌, ◌<◌, ◌+◌, ℕ, Bool, true, false, List, [], ◌∷◌, refl, subst, arith, inl, inr}
use Rattle.std.specs.Prelude.{Option, Some, None, ◌==◌, cond}
use Rattle.std.proofs.lemmas.Bool.Decides.{nat_tests}
use Rattle.std.proofs.lemmas.List.{append-nil}
use Rattle.pipe_edges.specs.declared.source.ByteSource.{Ghosts as SourceOf}
use Rattle.pipe_edges.specs.declared.reading.LineEnd.TheVariants as end
use Rattle.line_merge.specs.Items.{item_in, line_of, given_of, lines_from}
use Rattle.line_merge.specs.Streams.{Both, There}
use Rattle.line_merge.specs.Tries.{Gives, HasNone, HasWaited, TakenHasCause, IsTriedIf, AreTried, IsFound, RangeHasCause, is_in, WasOpen, HasFailed, HasTooLong}
use Rattle.line_merge.specs.declared.stream.Stream.{Stream}
use Rattle.line_merge.specs.declared.item.MergeItem.{MergeItem}
use Rattle.line_merge.specs.declared.item.MergeItem.TheVariants as item
use Rattle.line_merge.specs.Taken.{Taken}
use Rattle.line_merge.specs.Taken.{Line, NotYet, Ended}
use Rattle.line_merge.proofs.Pairs.{both_then, there_then, there_both, both_same}
use Rattle.line_merge.proofs.Taking.{gives_none}

-- ---- places

is_in_none : (from k : ℕ) → is_in from from k ≡ false
is_in_none from k = grind (arith, nat_tests)

is_in_same : (from at k : ℕ) → k ≢ at → is_in from (at + 1) k ≡ is_in from at k
is_in_same from at k other = grind (arith, nat_tests)

is_in_last : (from at : ℕ) → from ≤ at → is_in from (at + 1) at ≡ true
is_in_last from at le = grind (arith, nat_tests)

not_in_yet : (from at : ℕ) → is_in from at at ≡ false
not_in_yet from at = grind (arith, nat_tests)

-- ---- lines

pub given_none : {B : Type 0} (source : SourceOf B) (streams : ℕ → Option (Stream B)) (k : ℕ) → Both (Gives source []) (streams k) (streams k)
given_none source streams k = both_same (Gives source []) (streams k) (gives_none source)

then_gives : {B : Type 0} (source : SourceOf B) (lines : List (List ℕ)) (a b c : Stream B) → Gives source [] a b → Gives source lines b c → Gives source lines a c
then_gives source lines a b c r s = record {
  each_is_a_line = s.each_is_a_line;
  waits_stay = omega (arith, r.waits_stay, s.waits_stay);
  reads = λ opened earlier before. s.reads opened earlier (rw append-nil at (r.reads opened earlier before));
  unpaced = λ e. s.unpaced (r.unpaced e);
}

-- nothing, and then some lines
pub gives_then : {B : Type 0} (source : SourceOf B) (lines : List (List ℕ)) (x y z : Option (Stream B)) → Both (Gives source []) x y → Both (Gives source lines) y z → Both (Gives source lines) x z
gives_then source lines x y z r s = both_then (Gives source []) (Gives source lines) (Gives source lines) x y z r s (then_gives source lines)

-- the try of one place
pub gives_at : {B : Type 0} (source : SourceOf B) (old mid new : ℕ → Option (Stream B)) (at : ℕ) (lines : List (List ℕ))
    → ((k : ℕ) → Both (Gives source []) (old k) (mid k)) → ((k : ℕ) → k ≢ at → new k ≡ mid k) → There (Gives source lines) (mid at) (new at)
    → (k : ℕ) → Both (Gives source (cond (at == k) lines [])) (old k) (new k)
gives_at source old mid new at lines before others here k = by (at == k) refl
  where
    by : (same : Bool) → (at == k) ≡ same → Both (Gives source (cond same lines [])) (old k) (new k)
    by true is =
        let e : at ≡ k = grind (arith, nat_tests) in
        rw e at (gives_then source lines (old at) (mid at) (new at) (before at) (there_both (Gives source lines) (mid at) (new at) here))
    by false is =
        let e : k ≢ at = grind (arith, nat_tests) in
        rw (others k e) (before k)

-- the lines of one item, by place
pub lines_given : (at : ℕ) (t : Taken) (found : MergeItem) (k : ℕ) → item_in at t ≡ Some found → lines_from k (given_of found) ≡ cond (at == k) (line_of t) []
lines_given at (Line line) found k is = by (at == k) refl
  where
    e : found ≡ item.Line at line
    e = cc

    by : (same : Bool) → (at == k) ≡ same → lines_from k (given_of found) ≡ cond same (line ∷ []) []
    by true same = rw (e, same) refl
    by false same = rw (e, same) refl
lines_given at NotYet found k is = cc
lines_given at (Ended end.End) found k is = cc
lines_given at (Ended end.Fault) found k is = by (at == k) refl
  where
    e : found ≡ item.Fault at
    e = cc

    by : (same : Bool) → (at == k) ≡ same → lines_from k (given_of found) ≡ cond same [] []
    by true same = rw e refl
    by false same = rw e refl
lines_given at (Ended end.TooLong) found k is = by (at == k) refl
  where
    e : found ≡ item.TooLong at
    e = cc

    by : (same : Bool) → (at == k) ≡ same → lines_from k (given_of found) ≡ cond same [] []
    by true same = rw e refl
    by false same = rw e refl

lines_passed : (at : ℕ) (t : Taken) → item_in at t ≡ None → line_of t ≡ []
lines_passed at (Line line) is = cc
lines_passed at NotYet is = refl
lines_passed at (Ended e) is = refl

either_none : (same : Bool) (none : List (List ℕ)) → cond same none none ≡ none
either_none true none = refl
either_none false none = refl

-- a place that was passed over
pub gives_passed : {B : Type 0} (source : SourceOf B) (old mid new : ℕ → Option (Stream B)) (at : ℕ) (t : Taken) → item_in at t ≡ None
    → ((k : ℕ) → Both (Gives source []) (old k) (mid k)) → ((k : ℕ) → k ≢ at → new k ≡ mid k) → There (Gives source (line_of t)) (mid at) (new at)
    → (k : ℕ) → Both (Gives source []) (old k) (new k)
gives_passed source old mid new at t none before others here k =
    let now : There (Gives source []) (mid at) (new at) = rw (lines_passed at t none) at here in
    rw (either_none (at == k) []) at (gives_at source old mid new at [] before others now k)

-- ---- causes

pub tried_none : {B : Type 0} (source : SourceOf B) (from : ℕ) (streams : ℕ → Option (Stream B)) → AreTried source (is_in from from) streams streams
tried_none source from streams k = rw (is_in_none from k) (both_same (IsTriedIf source false) (streams k) (λ a. refl))

has_none : {B : Type 0} (source : SourceOf B) (at : ℕ) (t : Taken) (a b c : Stream B) → item_in at t ≡ None → b ≡ a → TakenHasCause source b c t → HasNone source a c
has_none source at (Line line) a b c none same cause = cc
has_none source at NotYet a b c none same cause = let now : HasWaited source b c = cause in inr (rw same at now)
has_none source at (Ended end.End) a b c none same cause = inl cause
has_none source at (Ended end.Fault) a b c none same cause = cc
has_none source at (Ended end.TooLong) a b c none same cause = cc

-- the place at hand was not tried yet
untried : {B : Type 0} (source : SourceOf B) (from at : ℕ) (old mid : ℕ → Option (Stream B)) → AreTried source (is_in from at) old mid → Both (IsTriedIf source false) (old at) (mid at)
untried source from at old mid before = rw (not_in_yet from at) at (before at)

-- one place more was tried
pub tried_more : {B : Type 0} (source : SourceOf B) (from at : ℕ) (old mid new : ℕ → Option (Stream B)) (t : Taken) → from ≤ at → item_in at t ≡ None
    → AreTried source (is_in from at) old mid → ((k : ℕ) → k ≢ at → new k ≡ mid k) → There (λ a b. TakenHasCause source a b t) (mid at) (new at)
    → AreTried source (is_in from (at + 1)) old new
tried_more source from at old mid new t le none before others here k = by (at == k) refl
  where
    by : (same : Bool) → (at == k) ≡ same → Both (IsTriedIf source (is_in from (at + 1) k)) (old k) (new k)
    by true is =
        let e : at ≡ k = grind (arith, nat_tests) in
        let now : Both (HasNone source) (old at) (new at) =
        there_both (HasNone source) (old at) (new at)
        (there_then (IsTriedIf source false) (λ a b. TakenHasCause source a b t) (HasNone source) (old at) (mid at) (new at) (untried source from at old mid before) here
        (λ a b c same cause. has_none source at t a b c none same cause)) in
        let last : Both (IsTriedIf source (is_in from (at + 1) at)) (old at) (new at) = rw (is_in_last from at le) now in
        subst (λ j. Both (IsTriedIf source (is_in from (at + 1) j)) (old j) (new j)) e last
    by false is =
        let e : k ≢ at = grind (arith, nat_tests) in
        rw (is_in_same from at k e, others k e) (before k)

-- what is found at the place at hand
found_at : {B : Type 0} (source : SourceOf B) (Here : Stream B → Stream B → Type 0) (from at : ℕ) (old mid new : ℕ → Option (Stream B))
    → AreTried source (is_in from at) old mid → ((k : ℕ) → k ≢ at → new k ≡ mid k) → There Here (mid at) (new at) → IsFound source Here (is_in from at) at old new
found_at source Here from at old mid new before others here = record {
  here =
      there_then (IsTriedIf source false) Here Here (old at) (mid at) (new at) (untried source from at old mid before) here
      (λ a b c same now. rw same at now);
  others = λ k other. rw (others k other) (before k);
}

pub found_in_range : {B : Type 0} (source : SourceOf B) (from to at : ℕ) (old mid new : ℕ → Option (Stream B)) (t : Taken) (found : MergeItem) → from ≤ at → at < to → item_in at t ≡ Some found
    → AreTried source (is_in from at) old mid → ((k : ℕ) → k ≢ at → new k ≡ mid k) → There (λ a b. TakenHasCause source a b t) (mid at) (new at)
    → RangeHasCause source from to old new (Some found)
found_in_range source from to at old mid new (Line line) found le lt is before others here =
    let e : found ≡ item.Line at line = cc in
    rw e ((le, lt), found_at source WasOpen from at old mid new before others here)
found_in_range source from to at old mid new NotYet found le lt is before others here = cc
found_in_range source from to at old mid new (Ended end.End) found le lt is before others here = cc
found_in_range source from to at old mid new (Ended end.Fault) found le lt is before others here =
    let e : found ≡ item.Fault at = cc in
    rw e ((le, lt), found_at source (HasFailed source) from at old mid new before others here)
found_in_range source from to at old mid new (Ended end.TooLong) found le lt is before others here =
    let e : found ≡ item.TooLong at = cc in
    rw e ((le, lt), found_at source HasTooLong from at old mid new before others here)

-- the last place was tried
pub tried_all : {B : Type 0} (source : SourceOf B) (from to at : ℕ) (old new : ℕ → Option (Stream B)) → to ≤ at → at ≤ to → AreTried source (is_in from at) old new → AreTried source (is_in from to) old new
tried_all source from to at old new le ge tried = let same : at ≡ to = omega (arith, le, ge) in subst (λ n. AreTried source (is_in from n) old new) same tried
