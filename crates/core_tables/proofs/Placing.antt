-- Rows of places, and what a write to one makes of the others.
use Rattle.std.proofs.Common.{◌≡◌, ◌≢◌, ℕ, zero, suc, ◌+◌, ◌-◌, ◌<◌, ◌≤◌, List, [], ◌∷◌, ◌++◌, length, map, true, false, refl, ap, sym, ◌∙◌, subst, Some, None, Option, arith, inl, inr, set, get_or}
use Rattle.std.specs.Prelude.{slice_get, sum_by, unwrap_or, is_some, IfSome, ◌==◌, ◌⊎◌}
use Rattle.std.proofs.lemmas.Bool.Decides.{nat_tests}
use Rattle.std.proofs.lemmas.Bool.{false≢true}
use Rattle.std.proofs.lemmas.List.{length-set, length-append, map-set, map-append, get_or-set_same, get_or-set_other, get_or_append_left}
use Rattle.std.proofs.lemmas.List.Sums.{sum_by-set, sum_by-append, sum_by-cons}
use Rattle.std.proofs.lemmas.Option.{slice_get_within, slice_get-get_or, get_or_from_slice_get}
use Rattle.std.proofs.Math.Seq.{get_or-append_seam}
use Rattle.pipe_types.specs.declared.message.Place.{Place}
use Rattle.pipe_types.specs.declared.message.Place.TheVariants.{Waiting}
use Rattle.pipe_types.specs.Numbers.{stage}
use Rattle.core_tables.specs.declared.place_table.Spot.{Spot}
use Rattle.core_tables.specs.declared.place_table.Standing.{Standing}
use Rattle.core_tables.specs.Placed.{placed, other_of, seen, is_other, unused, IsSplit, IsHeld, AreKept}
use Rattle.core_tables.proofs.Tables.{get-set_same, get-set_other, same_or_other}

-- where nothing stands
abbrev nowhere : Place
nowhere = Waiting (stage 0)

same_value : {A : Type 0} (a b : A) → Some a ≡ Some b → a ≡ b
same_value a b e = ap (λ o. unwrap_or o a) e

-- the row at a place of a table of which one was written
row_set : {A : Type 0} (rows : List A) (at : ℕ) (new : A) → at < length rows → (i : ℕ) (a : A) → slice_get (set rows at new) i ≡ Some a
    → ((i ≡ at) × (a ≡ new)) ⊎ ((i ≢ at) × (slice_get rows i ≡ Some a))
row_set rows at new within i a is = by (same_or_other i at)
  where
    by : (((i == at) ≡ true) × (i ≡ at)) ⊎ (((i == at) ≡ false) × (i ≢ at)) → ((i ≡ at) × (a ≡ new)) ⊎ ((i ≢ at) × (slice_get rows i ≡ Some a))
    by (inl here) = inl (here.1, same_value a new (sym is ∙ (ap (slice_get (set rows at new)) here.1 ∙ get-set_same rows at new within)))
    by (inr other) = inr (other.1, sym (get-set_other rows at i new other.1) ∙ is)

-- the row at a place of a table with one more
row_more : {A : Type 0} (rows : List A) (new : A) (i : ℕ) (a : A) → slice_get (rows ++ new ∷ []) i ≡ Some a → (slice_get rows i ≡ Some a) ⊎ (a ≡ new)
row_more [] new zero a is = inr (sym (same_value new a is))
row_more [] new (suc i) a is = absurd (omega (arith, slice_get_within [] i a is))
row_more (row ∷ rows) new zero a is = inl is
row_more (row ∷ rows) new (suc i) a is = row_more rows new i a is

-- the same, and where the new one stands
row_last : {A : Type 0} (rows : List A) (new : A) (i : ℕ) (a : A) → slice_get (rows ++ new ∷ []) i ≡ Some a → (slice_get rows i ≡ Some a) ⊎ ((i ≡ length rows) × (a ≡ new))
row_last [] new zero a is = inr (refl, sym (same_value new a is))
row_last [] new (suc i) a is = absurd (omega (arith, slice_get_within [] i a is))
row_last (row ∷ rows) new zero a is = inl is
row_last (row ∷ rows) new (suc i) a is = further (row_last rows new i a is)
  where
    further : (slice_get rows i ≡ Some a) ⊎ ((i ≡ length rows) × (a ≡ new)) → (slice_get rows i ≡ Some a) ⊎ ((suc i ≡ suc (length rows)) × (a ≡ new))
    further (inl there) = inl there
    further (inr here) = inr (ap suc here.0, here.1)

-- where the row that was written has the place of the one before among the others, or one that none had
kept_set : (others later : List Place) (rows : List Standing) (at : ℕ) (old new : Standing) → AreKept others rows → at < length rows → slice_get rows at ≡ Some old
    → length others ≤ length later → IsHeld (length later) new → (new.other ≡ old.other) ⊎ (length others < new.other) → length later + unused new ≤ length others + unused old
    → AreKept later (set rows at new)
kept_set others later rows at old new x within was more holds own few =
    record {
      held = λ i a is. held_at i a (row_set rows at new within i a is);
      apart = λ i j a b ia jb least same. apart_at i j a b (row_set rows at new within i a ia) (row_set rows at new within j b jb) least same;
      few =
          let sum = sum_by-set unused rows at new old within in
          let one : unused (get_or rows at old) ≡ unused old = ap unused (get_or_from_slice_get rows at old old was) in
          omega (arith, x.few, sum, one, few, length-set rows at new);
    }
  where
    held_at : (i : ℕ) (a : Standing) → ((i ≡ at) × (a ≡ new)) ⊎ ((i ≢ at) × (slice_get rows i ≡ Some a)) → IsHeld (length later) a
    held_at i a (inl here) = subst (IsHeld (length later)) (sym here.1) holds
    held_at i a (inr there) =
        let before = x.held i a there.1 in
        record { most = omega (arith, before.most, more); least = before.least }

    -- no other row has the place of the one that was written
    alone : (j : ℕ) (b : Standing) → slice_get rows j ≡ Some b → 1 ≤ b.other → new.other ≡ b.other → (new.other ≡ old.other) ⊎ (length others < new.other) → at ≡ j
    alone j b jb least same (inl kept) = x.apart at j old b was jb (omega (arith, least, same, kept)) (sym kept ∙ same)
    alone j b jb least same (inr fresh) = absurd (omega (arith, fresh, same, (x.held j b jb).most))

    apart_at : (i j : ℕ) (a b : Standing) → ((i ≡ at) × (a ≡ new)) ⊎ ((i ≢ at) × (slice_get rows i ≡ Some a)) → ((j ≡ at) × (b ≡ new)) ⊎ ((j ≢ at) × (slice_get rows j ≡ Some b))
        → 1 ≤ a.other → a.other ≡ b.other → i ≡ j
    apart_at i j a b (inl here) (inl also) least same = here.0 ∙ sym also.0
    apart_at i j a b (inl here) (inr there) least same =
        let of : a.other ≡ new.other = ap (λ (r : Standing). r.other) here.1 in
        here.0 ∙ alone j b there.1 (omega (arith, least, same)) (sym of ∙ same) own
    apart_at i j a b (inr there) (inl here) least same =
        let of : b.other ≡ new.other = ap (λ (r : Standing). r.other) here.1 in
        sym (here.0 ∙ alone i a there.1 least (sym of ∙ sym same) own)
    apart_at i j a b (inr one) (inr other) least same = x.apart i j a b one.1 other.1 least same

-- one more
pub kept_more : (others later : List Place) (rows : List Standing) (new : Standing) → AreKept others rows → length others ≤ length later → IsHeld (length later) new
    → (new.other ≡ 0) ⊎ (length others < new.other) → length later + unused new ≤ length others + 1 → AreKept later (rows ++ new ∷ [])
kept_more others later rows new x more holds own few =
    record {
      held = λ i a is. held_at i a (row_more rows new i a is);
      apart = λ i j a b ia jb least same. apart_at i j a b (row_there i a ia) (row_there j b jb) least same;
      few =
          let sum = sum_by-append unused rows (new ∷ []) in
          let last : sum_by unused (new ∷ []) ≡ unused new = sum_by-cons unused new [] ∙ omega arith in
          omega (arith, x.few, sum, last, few, length-append rows (new ∷ []));
    }
  where
    held_at : (i : ℕ) (a : Standing) → (slice_get rows i ≡ Some a) ⊎ (a ≡ new) → IsHeld (length later) a
    held_at i a (inl there) =
        let before = x.held i a there in
        record { most = omega (arith, before.most, more); least = before.least }
    held_at i a (inr here) = subst (IsHeld (length later)) (sym here) holds

    -- the row is an old one, or the last
    row_there : (i : ℕ) (a : Standing) → slice_get (rows ++ new ∷ []) i ≡ Some a → (slice_get rows i ≡ Some a) ⊎ ((i ≡ length rows) × (a ≡ new))
    row_there i a is = row_last rows new i a is

    alone : (new.other ≡ 0) ⊎ (length others < new.other) → 1 ≤ new.other → new.other ≤ length others → ⊥
    alone (inl none) least most = omega (arith, none, least)
    alone (inr fresh) least most = omega (arith, fresh, most)

    apart_at : (i j : ℕ) (a b : Standing) → (slice_get rows i ≡ Some a) ⊎ ((i ≡ length rows) × (a ≡ new)) → (slice_get rows j ≡ Some b) ⊎ ((j ≡ length rows) × (b ≡ new)) → 1 ≤ a.other → a.other ≡ b.other → i ≡ j
    apart_at i j a b (inl one) (inl other) least same = x.apart i j a b one other least same
    apart_at i j a b (inr here) (inr also) least same = here.0 ∙ sym also.0
    apart_at i j a b (inr here) (inl there) least same =
        let of : a.other ≡ new.other = ap (λ (r : Standing). r.other) here.1 in
        absurd (alone own (omega (arith, of, least)) (omega (arith, of, same, (x.held j b there).most)))
    apart_at i j a b (inl there) (inr here) least same =
        let of : b.other ≡ new.other = ap (λ (r : Standing). r.other) here.1 in
        absurd (alone own (omega (arith, of, least, same)) (omega (arith, of, same, (x.held i a there).most)))

-- What the rows are seen as

seen_all : {A B : Type 0} (f g : A → B) (xs : List A) → ((j : ℕ) (x : A) → slice_get xs j ≡ Some x → g x ≡ f x) → map g xs ≡ map f xs
seen_all f g [] each = refl
seen_all f g (x ∷ xs) each = ap (λ y. y ∷ map g xs) (each 0 x refl) ∙ ap (λ ys. f x ∷ ys) (seen_all f g xs (λ j z is. each (suc j) z is))

-- one is written, and all others are seen as before
seen_set : {A B : Type 0} (f g : A → B) (xs : List A) (at : ℕ) (y : A) (p : B) → at < length xs → g y ≡ p → ((j : ℕ) (x : A) → j ≢ at → slice_get xs j ≡ Some x → g x ≡ f x)
    → map g (set xs at y) ≡ set (map f xs) at p
seen_set f g [] at y p within is each = absurd (omega (arith, within))
seen_set f g (x ∷ xs) zero y p within is each = ap (λ q. q ∷ map g xs) is ∙ ap (λ ys. p ∷ ys) (seen_all f g xs (λ j z there. each (suc j) z (λ e. omega (arith, e)) there))
seen_set f g (x ∷ xs) (suc n) y p within is each =
    ap (λ q. q ∷ map g (set xs n y)) (each 0 x (λ e. omega (arith, e)) refl)
    ∙ ap (λ ys. f x ∷ ys) (seen_set f g xs n y p (omega (arith, within)) is (λ j z other there. each (suc j) z (λ e. other (omega (arith, e))) there))

-- what does not stand apart is seen alike by all
same_placed : (h k : Place) (spot : Spot) → (is_other spot ≡ true → h ≡ k) → placed h spot ≡ placed k spot
same_placed h k Spot.Other same = same refl
same_placed h k (Spot.Waiting s) same = refl
same_placed h k (Spot.Inbox sub) same = refl
same_placed h k (Spot.Running s) same = refl
same_placed h k (Spot.Gathered s) same = refl
same_placed h k (Spot.InBatch b) same = refl
same_placed h k Spot.Successful same = refl
same_placed h k (Spot.Crashed s n) same = refl
same_placed h k (Spot.Killed s n) same = refl
same_placed h k (Spot.Stopped s n) same = refl
same_placed h k (Spot.Limited s n) same = refl
same_placed h k (Spot.Overflow s) same = refl

-- What a place apart makes of the places

seen_again : (others : List Place) (rows : List Standing) (at : ℕ) (old : Standing) (how : Place) → AreKept others rows → at < length rows → slice_get rows at ≡ Some old → 1 ≤ old.other
    → map (seen (set others (old.other - 1) how)) (set rows at (record { spot = Spot.Other; other = old.other })) ≡ set (map (seen others) rows) at how
seen_again others rows at old how x within was least =
    seen_set (seen others) (seen (set others (old.other - 1) how)) rows at (record { spot = Spot.Other; other = old.other }) how within
    (get_or-set_same others (old.other - 1) how nowhere (omega (arith, least, (x.held at old was).most)))
    (λ j row other there. same_placed (other_of (set others (old.other - 1) how) row.other) (other_of others row.other) row.spot (λ fails. elsewhere j row other there ((x.held j row there).least fails)))
  where
    elsewhere : (j : ℕ) (row : Standing) → j ≢ at → slice_get rows j ≡ Some row → 1 ≤ row.other → other_of (set others (old.other - 1) how) row.other ≡ other_of others row.other
    elsewhere j row other there some =
        get_or-set_other others (old.other - 1) (row.other - 1) how nowhere
        (λ e. other (x.apart j at row old there was some (omega (arith, e, some, least))))

-- behind one more they say what they said
later_seen : (others : List Place) (how : Place) (row : Standing) → IsHeld (length others) row → seen (others ++ how ∷ []) row ≡ seen others row
later_seen others how row held =
    same_placed (other_of (others ++ how ∷ []) row.other) (other_of others row.other) row.spot
    (λ is. get_or_append_left others (how ∷ []) nowhere (row.other - 1) (omega (arith, held.least is, held.most)))

last_of : (others : List Place) (how : Place) → other_of (others ++ how ∷ []) (length others + 1) ≡ how
last_of others how = ap (λ k. get_or (others ++ how ∷ []) k nowhere) last ∙ get_or-append_seam others how [] nowhere
  where
    last : length others + 1 - 1 ≡ length others
    last = omega arith

seen_first : (others : List Place) (rows : List Standing) (at : ℕ) (old : Standing) (how : Place) → AreKept others rows → at < length rows → slice_get rows at ≡ Some old
    → map (seen (others ++ how ∷ [])) (set rows at (record { spot = Spot.Other; other = length others + 1 })) ≡ set (map (seen others) rows) at how
seen_first others rows at old how x within was =
    seen_set (seen others) (seen (others ++ how ∷ [])) rows at (record { spot = Spot.Other; other = length others + 1 }) how within (last_of others how)
    (λ j row other there. later_seen others how row (x.held j row there))

-- What the writes leave

-- a table is kept, and has this place there
abbrev pub IsWritten : (others : List Place) (rows : List Standing) → (before : List Place) → (at : ℕ) → Place → Type 0
IsWritten others rows before at place = AreKept others rows × (map (seen others) rows ≡ set before at place)

written : (others later : List Place) (rows new : List Standing) (before : List Place) (at : ℕ) (place : Place) → later ≡ others → new ≡ rows → IsWritten others rows before at place → IsWritten later new before at place
written others later rows new before at place same also is =
    subst (λ (fs : List Place). IsWritten fs new before at place) (sym same) (subst (λ (rs : List Standing). IsWritten others rs before at place) (sym also) is)

pub puts_first : (others later : List Place) (rows new : List Standing) (at : ℕ) (old : Standing) (how : Place) → AreKept others rows → at < length rows → slice_get rows at ≡ Some old → old.other ≡ 0
    → later ≡ others ++ how ∷ [] → new ≡ set rows at (record { spot = Spot.Other; other = length others + 1 }) → IsWritten later new (map (seen others) rows) at how
puts_first others later rows new at old how x within was none same also =
    written (others ++ how ∷ []) later (set rows at row) new (map (seen others) rows) at how same also
    (kept_set others (others ++ how ∷ []) rows at old row x within was (omega (arith, more)) (record { most = omega (arith, more); least = λ e. omega arith }) (inr (omega arith)) (omega (arith, more, one)), seen_first others rows at old how x within was)
  where
    row : Standing
    row = record { spot = Spot.Other; other = length others + 1 }

    more : length (others ++ how ∷ []) ≡ length others + 1
    more = length-append others (how ∷ [])

    one : (unused old ≡ 1) × (unused row ≡ 0)
    one = (grind (arith, nat_tests, none), grind (arith, nat_tests))

pub puts_again : (others later : List Place) (rows new : List Standing) (at : ℕ) (old : Standing) (how : Place) → AreKept others rows → at < length rows → slice_get rows at ≡ Some old → 1 ≤ old.other
    → later ≡ set others (old.other - 1) how → new ≡ set rows at (record { spot = Spot.Other; other = old.other }) → IsWritten later new (map (seen others) rows) at how
puts_again others later rows new at old how x within was least same also =
    written (set others (old.other - 1) how) later (set rows at row) new (map (seen others) rows) at how same also
    (kept_set others (set others (old.other - 1) how) rows at old row x within was (omega (arith, many)) (record { most = omega (arith, many, (x.held at old was).most); least = λ e. least }) (inl refl) (omega (arith, many)), seen_again others rows at old how x within was least)
  where
    row : Standing
    row = record { spot = Spot.Other; other = old.other }

    many : length (set others (old.other - 1) how) ≡ length others
    many = length-set others (old.other - 1) how

pub puts_spot : (others : List Place) (rows new : List Standing) (at : ℕ) (spot : Spot) (place : Place) → AreKept others rows → at < length rows
    → IfSome (slice_get rows at) (λ row. new ≡ set rows at (record { spot = spot; other = row.other })) → IsSplit place spot None → IsWritten others new (map (seen others) rows) at place
puts_spot others rows new at spot place x within is split = by (slice_get rows at) refl is
  where
    by : (o : Option Standing) → slice_get rows at ≡ o → IfSome o (λ row. new ≡ set rows at (record { spot = spot; other = row.other })) → IsWritten others new (map (seen others) rows) at place
    by None was is = absurd (false≢true (ap is_some (sym was ∙ slice_get-get_or rows at (record { spot = spot; other = 0 }) within)))
    by (Some old) was is =
        let row : Standing = record { spot = spot; other = old.other } in
        written others others (set rows at row) new (map (seen others) rows) at place refl is (
          kept_set others others rows at old row x within was (omega arith) (record { most = (x.held at old was).most; least = λ e. absurd (false≢true (sym split.0 ∙ e)) }) (inl refl) (omega arith),
          map-set (seen others) rows at row ∙ ap (set (map (seen others) rows) at) (split.1 (other_of others old.other)),
        )

-- each place apart has a row, so a row without one leaves room for one more
pub few_others : (others : List Place) (rows : List Standing) (at : ℕ) (old : Standing) → AreKept others rows → at < length rows → slice_get rows at ≡ Some old → old.other ≡ 0 → length others + 1 ≤ length rows
few_others others rows at old x within was none =
    let sum = sum_by-set unused rows at (record old { other = 1 }) old within in
    let one : unused (get_or rows at old) ≡ 1 = ap unused (get_or_from_slice_get rows at old old was) ∙ free in
    omega (arith, x.few, sum, one, taken)
  where
    free : unused old ≡ 1
    free = grind (arith, nat_tests, none)

    taken : unused (record old { other = 1 }) ≡ 0
    taken = refl

-- What one more leaves

-- a table is kept, and has this place behind the others
abbrev pub IsAppended : (others : List Place) (rows : List Standing) → (before : List Place) → Place → Type 0
IsAppended others rows before place = AreKept others rows × (map (seen others) rows ≡ before ++ place ∷ [])

appended : (others later : List Place) (rows new : List Standing) (before : List Place) (place : Place) → later ≡ others → new ≡ rows → IsAppended others rows before place → IsAppended later new before place
appended others later rows new before place same also is =
    subst (λ (fs : List Place). IsAppended fs new before place) (sym same) (subst (λ (rs : List Standing). IsAppended others rs before place) (sym also) is)

pub appends_spot : (others : List Place) (rows new : List Standing) (spot : Spot) (place : Place) → AreKept others rows → new ≡ rows ++ (record { spot = spot; other = 0 }) ∷ [] → IsSplit place spot None
    → IsAppended others new (map (seen others) rows) place
appends_spot others rows new spot place x is split =
    appended others others (rows ++ row ∷ []) new (map (seen others) rows) place refl is (
      kept_more others others rows row x (omega arith) (record { most = omega arith; least = λ e. absurd (false≢true (sym split.0 ∙ e)) }) (inl refl) (omega (arith, free)),
      map-append (seen others) rows (row ∷ []) ∙ ap (λ p. map (seen others) rows ++ p ∷ []) (split.1 (other_of others 0)),
    )
  where
    row : Standing
    row = record { spot = spot; other = 0 }

    free : unused row ≡ 1
    free = refl

pub appends_other : (others later : List Place) (rows new : List Standing) (how : Place) → AreKept others rows → later ≡ others ++ how ∷ [] → new ≡ rows ++ (record { spot = Spot.Other; other = length others + 1 }) ∷ []
    → IsAppended later new (map (seen others) rows) how
appends_other others later rows new how x same also =
    appended (others ++ how ∷ []) later (rows ++ row ∷ []) new (map (seen others) rows) how same also (
      kept_more others (others ++ how ∷ []) rows row x (omega (arith, more)) (record { most = omega (arith, more); least = λ e. omega arith }) (inr (omega arith)) (omega (arith, more, taken)),
      map-append (seen (others ++ how ∷ [])) rows (row ∷ [])
          ∙ (ap (λ ps. ps ++ seen (others ++ how ∷ []) row ∷ []) (seen_all (seen others) (seen (others ++ how ∷ [])) rows (λ j z there. later_seen others how z (x.held j z there)))
          ∙ ap (λ p. map (seen others) rows ++ p ∷ []) (last_of others how)),
    )
  where
    row : Standing
    row = record { spot = Spot.Other; other = length others + 1 }

    more : length (others ++ how ∷ []) ≡ length others + 1
    more = length-append others (how ∷ [])

    taken : unused row ≡ 0
    taken = grind (arith, nat_tests)

pub kept_none : AreKept [] []
kept_none = record { held = λ i a is. absurd (omega (arith, slice_get_within [] i a is)); apart = λ i j a b ia jb least same. absurd (omega (arith, slice_get_within [] i a ia)); few = omega arith }
