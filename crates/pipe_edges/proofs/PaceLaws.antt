-- Laws of sources with a pace.
use Rattle.std.proofs.Common.{◌≡◌, ◌≢◌, true, false, ℕ, ◌+◌, ◌<◌, ◌≤◌, List, [], ◌∷◌, ◌++◌, length, take, arith, refl, ap, sym, subst, ◌∙◌, inl, inr, ◌⊎◌}
use Rattle.std.specs.Prelude.{All, Option, Some, None, Result, Ok, Err, IfOk}
use Rattle.std.proofs.lemmas.List.{append_assoc}
use Rattle.std.proofs.lemmas.List.Elements.{All-nil, All-append, All-head, All-tail, All-same}
use Rattle.pipe_types.specs.Counts.{Rose}
use Rattle.pipe_edges.specs.Texts.{HasNoLf, IsLine, ended}
use Rattle.pipe_edges.specs.Paces.{Pace, PaceSeen, IsHeldUp, KeepsPace, EndsRecord, ReadIsPacedBy}
use Rattle.pipe_edges.specs.Pacing.{is_begun, Gives, IsBetween, RoundCounts, RoundIsHeldUp, RoundKeepsPace, RoundIsPacedBy, FetchCounts, FetchIsHeldUp, FetchIsPacedBy}
use Rattle.pipe_edges.specs.Stop.{fetched_of}
use Rattle.pipe_edges.specs.declared.source.ReadEnd.TheVariants.{Got, Failed, Empty}
use Rattle.pipe_edges.specs.declared.reading.LineEnd.TheVariants as end
use Rattle.pipe_edges.specs.declared.reading.Stop.{Stop}
use Rattle.pipe_edges.specs.declared.reading.Stop.TheVariants.{Lines, NotYet, Ended}

-- ---- counts that do not fall

rose_from : (a b c : ℕ) → a ≤ b → Rose b c → Rose a c
rose_from a b c le (inl below) = inl (omega (arith, le, below))
rose_from a b c le (inr full) = inr full

keeps_same : (pace : Pace) (a : PaceSeen) → KeepsPace pace a a
keeps_same pace a = record {
  same_pace = refl;
  same_moment = refl;
  within = λ h. h;
  own_stays = omega arith;
}

keeps_more : (pace : Pace) (a b c : PaceSeen) → KeepsPace pace a b → KeepsPace pace b c → KeepsPace pace a c
keeps_more pace a b c x y = record {
  same_pace = y.same_pace ∙ x.same_pace;
  same_moment = y.same_moment ∙ x.same_moment;
  within = λ h. y.within (x.within h);
  own_stays = omega (arith, x.own_stays, y.own_stays);
}

held_up_more : (pace : Pace) (a b c : PaceSeen) → KeepsPace pace a b → IsHeldUp pace b c → IsHeldUp pace a c
held_up_more pace a b c x (inl own) = inl (rose_from a.own b.own c.own x.own_stays own)
held_up_more pace a b c x (inr used) = inr used

-- ---- rounds

-- one round after others
pub round_more : (E : Type 0) {F : Type 0} (p : Option Pace) (a b c : PaceSeen) (h i j : List ℕ) (r : Result (Option Stop) F)
    → a.pace ≡ p → RoundIsPacedBy {E = E} p a b h i (Ok None) → RoundIsPacedBy b.pace b c i j r → RoundIsPacedBy p a c h j r
round_more E None a b c h i j r is x y =
    let none : b.pace ≡ None = ap (λ s. s.pace) x ∙ is in
    let y' : c ≡ b = subst (λ q. RoundIsPacedBy q b c i j r) none y in
    y' ∙ x
round_more E {F = F} (Some pace) a b c h i j r is x y =
    let some : b.pace ≡ Some pace = x.kept.same_pace ∙ is in
    let y' : RoundKeepsPace pace b c i j r = subst (λ q. RoundIsPacedBy q b c i j r) some y in
    record {
      kept = keeps_more pace a b c x.kept y'.kept;
      counted = λ before between. y'.counted before (x.counted before between);
      held_up = held_up r y'.held_up;
    } where
      held_up : (r : Result (Option Stop) F) → IfOk r (RoundIsHeldUp pace b c) → IfOk r (RoundIsHeldUp pace a c)
      held_up (Ok (Some NotYet)) k = held_up_more pace a b c x.kept k
      held_up _ k = tt

-- ---- lines cut off

no_lf_there : (front back : List ℕ) → HasNoLf (front ++ 10 ∷ back) → ⊥
no_lf_there [] back h = All-head (λ b. b ≢ 10) 10 back h refl
no_lf_there (b ∷ bs) back h = no_lf_there bs back (All-tail (λ b. b ≢ 10) b (bs ++ 10 ∷ back) h)

no_record : (bytes : List ℕ) → HasNoLf bytes → EndsRecord bytes → ⊥
no_record bytes none ends = no_lf_there ends.front [] (All-same (λ b. b ≢ 10) _ _ (sym ends.parts) none)

same_head : {b c : ℕ} {bs cs : List ℕ} → b ∷ bs ≡ c ∷ cs → b ≡ c
same_head e = cc

same_tail : {b c : ℕ} {bs cs : List ℕ} → b ∷ bs ≡ c ∷ cs → bs ≡ cs
same_tail e = cc

-- bytes with one LF, at their end, have nothing behind an LF
nothing_behind : (front line rest : List ℕ) → HasNoLf front → HasNoLf line → front ++ 10 ∷ [] ≡ line ++ 10 ∷ rest → rest ≡ []
nothing_behind [] [] rest h k e = sym (same_tail e)
nothing_behind [] (c ∷ cs) rest h k e = absurd (All-head (λ b. b ≢ 10) c cs k (sym (same_head e)))
nothing_behind (b ∷ bs) [] rest h k e = absurd (All-head (λ b. b ≢ 10) b bs h (same_head e))
nothing_behind (b ∷ bs) (c ∷ cs) rest h k e =
    nothing_behind bs cs rest (All-tail (λ b. b ≢ 10) b bs h) (All-tail (λ b. b ≢ 10) c cs k) (same_tail e)

none_ended : (records : List (List ℕ)) (left : List ℕ) → ended records ++ left ≡ [] → (records ≡ []) × (left ≡ [])
none_ended [] left e = (refl, e)
none_ended ([] ∷ rs) left e = absurd (cc)
none_ended ((b ∷ bs) ∷ rs) left e = absurd (cc)

cut_counts : (before : ℕ) (a : PaceSeen) (h j : List ℕ) (records : List (List ℕ)) → IsBetween before a h → 0 < length records → h ≡ ended records ++ j → All IsLine records
    → Gives before (length records) a j
cut_counts before a h j [] between some cut each = absurd (omega (arith, some))
cut_counts before a h j (r ∷ rs) (inl gives) some cut each =
    let e : h ≡ r ++ 10 ∷ (ended rs ++ j) = cut ∙ append_assoc r (10 ∷ ended rs) j in
    absurd (no_lf_there r (ended rs ++ j) (All-same (λ b. b ≢ 10) _ _ (sym e) gives.in_step.unbroken))
cut_counts before a h j (r ∷ rs) (inr full) some cut each =
    let e : full.0.front ++ 10 ∷ [] ≡ r ++ 10 ∷ (ended rs ++ j) = sym full.0.parts ∙ cut ∙ append_assoc r (10 ∷ ended rs) j in
    let none : ended rs ++ j ≡ [] = nothing_behind full.0.front r (ended rs ++ j) full.0.unbroken (All-head IsLine r rs each).unbroken e in
    let both = none_ended rs j none in
    rw (both.0, both.1) (record { count = full.1; in_step = record { unbroken = All-nil (λ b. b ≢ 10); part = full.2 } })

pub cut_round : (E : Type 0) (p : Option Pace) (a : PaceSeen) (h j : List ℕ) (records : List (List ℕ)) → 0 < length records → h ≡ ended records ++ j → All IsLine records
    → RoundIsPacedBy {E = E} p a a h j (Ok (Some (Lines records)))
cut_round E None a h j records some cut each = refl
cut_round E (Some pace) a h j records some cut each = record {
  kept = keeps_same pace a;
  counted = λ before between. cut_counts before a h j records between some cut each;
  held_up = tt;
}

-- ---- reads

open_of : (before : ℕ) (a : PaceSeen) (h : List ℕ) → HasNoLf h → IsBetween before a h → Gives before 0 a h
open_of before a h none (inl gives) = gives
open_of before a h none (inr full) = absurd (no_record h none full.0)

begun : (h i : List ℕ) → length h < length i → is_begun i ≡ true
begun h [] more = absurd (omega (arith, more))
begun h (b ∷ bs) more = refl

pub got_round : (E : Type 0) (p : Option Pace) (a b : PaceSeen) (h i piece : List ℕ) (n : ℕ) → HasNoLf h → i ≡ h ++ take n piece → length h < length i
    → ReadIsPacedBy p a b piece (Got n) → RoundIsPacedBy {E = E} p a b h i (Ok None)
got_round E None a b h i piece n none added more read = read
got_round E (Some pace) a b h i piece n none added more read = record {
  kept = read.0;
  counted = λ before between. counts before (open_of before a h none between) read.1;
  held_up = tt;
} where
  counts : (before : ℕ) → Gives before 0 a h
      → (HasNoLf (take n piece) × ((b.given ≡ a.given) × (b.part ≡ true))) ⊎ (EndsRecord (take n piece) × ((b.given ≡ a.given + 1) × (b.part ≡ false)))
      → IsBetween before b i
  counts before gives (inl part) = inl (record {
    count = part.1.0 ∙ gives.count;
    in_step = record {
      unbroken = All-same (λ b. b ≢ 10) _ _ added (All-append (λ b. b ≢ 10) h (take n piece) gives.in_step.unbroken part.0);
      part = part.1.1 ∙ sym (begun h i more);
    };
  })
  counts before gives (inr whole) = inr (
    record {
      front = h ++ whole.0.front;
      parts = added ∙ ap (λ x. h ++ x) whole.0.parts ∙ sym (append_assoc h whole.0.front (10 ∷ []));
      unbroken = All-append (λ b. b ≢ 10) h whole.0.front gives.in_step.unbroken whole.0.unbroken;
    },
    omega (arith, whole.1.0, gives.count),
    whole.1.1,
  )

same_step : (before : ℕ) (a b : PaceSeen) (h i : List ℕ) → i ≡ h → b.given ≡ a.given → b.part ≡ a.part → Gives before 0 a h → Gives before 0 b i
same_step before a b h i same given part gives = rw same (record {
  count = given ∙ gives.count;
  in_step = record { unbroken = gives.in_step.unbroken; part = part ∙ gives.in_step.part };
})

pub empty_round : (E : Type 0) (p : Option Pace) (a b : PaceSeen) (h i piece : List ℕ) → HasNoLf h → i ≡ h
    → ReadIsPacedBy p a b piece Empty → RoundIsPacedBy {E = E} p a b h i (Ok (Some NotYet))
empty_round E None a b h i piece none same read = read
empty_round E (Some pace) a b h i piece none same read = record {
  kept = read.0;
  counted = λ before between. same_step before a b h i same read.1.0.0 read.1.0.1 (open_of before a h none between);
  held_up = read.1.1;
}

pub failed_round : (E : Type 0) (p : Option Pace) (a b : PaceSeen) (h i piece : List ℕ) → HasNoLf h → i ≡ h
    → ReadIsPacedBy p a b piece Failed → RoundIsPacedBy {E = E} p a b h i (Ok (Some (Ended end.Fault)))
failed_round E None a b h i piece none same read = read
failed_round E (Some pace) a b h i piece none same read = record {
  kept = read.0;
  counted = λ before between. same_step before a b h i same read.1.0 read.1.1 (open_of before a h none between);
  held_up = tt;
}

-- ---- fetches

-- the rounds of a fetch are the fetch
pub fetch_of : (E F : Type 0) (p : Option Pace) (a b : PaceSeen) (h i : List ℕ) (stop : Stop)
    → RoundIsPacedBy {E = E} p a b h i (Ok (Some stop)) → FetchIsPacedBy {E = F} p a b h i (Ok (fetched_of stop))
fetch_of E F None a b h i stop x = x
fetch_of E F (Some pace) a b h i stop x = record {
  kept = x.kept;
  counted = λ step. counts stop (x.counted a.given (inl (record { count = omega arith; in_step = step })));
  held_up = held_up stop x.held_up;
} where
  counts : (stop : Stop) → RoundCounts a.given b i (Some stop) → FetchCounts a.given b i (fetched_of stop)
  counts (Ended end.TooLong) k = tt
  counts _ k = k

  held_up : (stop : Stop) → RoundIsHeldUp pace a b (Some stop) → FetchIsHeldUp pace a b (fetched_of stop)
  held_up NotYet k = k
  held_up (Ended end.End) k = tt
  held_up _ k = tt
