-- What was given of the sources of a merge.
use Rattle.std.proofs.Common.{◌≡◌, ◌≤◌, ◌<◌, ◌+◌, ◌-◌, ℕ, zero, suc, true, List, [], ◌∷◌, ◌++◌, length, refl, arith, inl, inr}
use Rattle.std.specs.Prelude.{Option, Some, None, IfSome, IsSomeAnd, All, slice_get, option_map, map, ◌==◌}
use Rattle.std.specs.List.{filter, sum_by}
use Rattle.std.proofs.lemmas.List.Sums.{sum_by-cons}
use Rattle.pipe_types.specs.Counts.{Rose}
use Rattle.std.proofs.lemmas.List.{append-nil, length-append, map-append}
use Rattle.std.proofs.lemmas.List.Elements.{filter-append, All-nil, All-cons, All-append}
use Rattle.std.proofs.lemmas.Bool.Decides.{nat_tests}
use Rattle.pipe_edges.specs.Texts.{IsLine}
use Rattle.std.proofs.lemmas.Option.{slice_get_within, slice_get-map}
use Rattle.pipe_edges.specs.declared.source.ByteSource.{Ghosts as SourceOf}
use Rattle.pipe_edges.specs.Paces.{unpaced}
use Rattle.pipe_edges.specs.LineSource.{line_source}
use Rattle.pipe_edges.specs.declared.reading.LineEnd.TheVariants as end
use Rattle.source_lines.specs.Seen.{SourceSeen, LineSeen, line_seen}
use Rattle.source_lines.specs.Read.{AreReadFrom}
use Rattle.line_merge.specs.Items.{lines_from, places_in, given_of, end_by, item_of, answer_by, next_place}
use Rattle.line_merge.specs.Streams.{Both, There, lines_of}
use Rattle.line_merge.specs.Tries.{Gives, WasOpen, HasWaited, HasEnded, HasFailed, HasTooLong, RoundHasCause}
use Rattle.line_merge.specs.Seen.{MergeSeen, AreMergedFrom, IsMergeEnd, AreUnpaced, end_seen}
use Rattle.line_merge.specs.Fetch.{FetchHasCause, FetchRises, RisesIfNotYet, RoseTogether, Remembers, answer_to}
use Rattle.line_merge.specs.declared.item.MergeEnd.{MergeEnd}
use Rattle.line_merge.specs.declared.item.MergeEnd.TheVariants as merge_end
use Rattle.pipe_edges.specs.Fetch.{records_of}
use Rattle.line_merge.specs.declared.stream.Stream.{Stream}
use Rattle.line_merge.specs.declared.item.MergeItem.{MergeItem}
use Rattle.line_merge.specs.declared.item.MergeItem.TheVariants as item

pub lines_more : (k : ℕ) (given more : List (ℕ × List ℕ)) → lines_from k (given ++ more) ≡ lines_from k given ++ lines_from k more
lines_more k given more = rw filter-append (map-append (λ d. d.1) (filter (λ d. d.0 == k) given) (filter (λ d. d.0 == k) more))

-- a source with its lines, as it is seen
abbrev seen_of : {B : Type 0} → SourceOf B → Stream B → LineSeen
seen_of source s = line_seen source (lines_of s)

both_seen : {B : Type 0} (source : SourceOf B) (given more : List (ℕ × List ℕ)) (k : ℕ) (x : Option SourceSeen) (y z : Option (Stream B))
    → Both (λ o lines. AreReadFrom o lines (lines_from k given)) x (option_map (seen_of source) y) → Both (Gives source (lines_from k more)) y z
    → Both (λ o lines. AreReadFrom o lines (lines_from k (given ++ more))) x (option_map (seen_of source) z)
both_seen source given more k (Some o) (Some a) (Some b) read gives = rw (lines_more k given more) (gives.reads o (lines_from k given) read)
both_seen source given more k None None None read gives = tt
both_seen source given more k (Some o) (Some a) None read gives = absurd gives
both_seen source given more k (Some o) None z read gives = absurd read
both_seen source given more k None (Some a) z read gives = absurd read
both_seen source given more k None None (Some b) read gives = absurd gives

-- a merge of these sources, as it is seen
abbrev seen_by : {B : Type 0} → SourceOf B → List (Stream B) → Option MergeEnd → MergeSeen
seen_by source streams end = record { streams = map (seen_of source) streams; end = end_seen end }

-- each has the place of one of the sources
abbrev ArePlaced : List SourceSeen → List (ℕ × List ℕ) → Type 0
ArePlaced opened given = All (λ d. d.0 < length opened) given

pub none_placed : (opened : List SourceSeen) → ArePlaced opened []
none_placed opened = All-nil (λ d. d.0 < length opened)

-- what a round gives has the place of one of the sources
pub found_placed : {B : Type 0} (source : SourceOf B) (first : ℕ) (opened : List SourceSeen) (old : List (Stream B)) (old_end : Option MergeEnd) (given : List (ℕ × List ℕ)) (new : ℕ → Option (Stream B)) (found : MergeItem)
    → AreMergedFrom opened (seen_by source old old_end) given → RoundHasCause source first (slice_get old) new found → ArePlaced opened (given_of found)
found_placed {B = B} source first opened old old_end given new (item.Line place line) m cause =
    All-cons (λ d. d.0 < length opened) (place, line) []
    (by (slice_get opened place) (slice_get old place) (new place) refl (rw (slice_get-map (seen_of source) old place) at (m.each place)) cause.here) (none_placed opened)
  where
    by : (x : Option SourceSeen) (y z : Option (Stream B)) → slice_get opened place ≡ x → Both (λ o lines. AreReadFrom o lines (lines_from place given)) x (option_map (seen_of source) y) → There WasOpen y z
        → place < length opened
    by (Some o) (Some a) z is read there = slice_get_within opened place o is
    by (Some o) None z is read there = absurd there
    by None (Some a) z is read there = absurd read
    by None None z is read there = absurd there
found_placed source first opened old old_end given new item.NotYet m cause = none_placed opened
found_placed source first opened old old_end given new item.End m cause = none_placed opened
found_placed source first opened old old_end given new (item.Fault place) m cause = none_placed opened
found_placed source first opened old old_end given new (item.TooLong place) m cause = none_placed opened

-- these lines follow
pub merged_on : {B : Type 0} (source : SourceOf B) (opened : List SourceSeen) (old new : List (Stream B)) (old_end new_end : Option MergeEnd) (given more : List (ℕ × List ℕ))
    → ((k : ℕ) → Both (Gives source (lines_from k more)) (slice_get old k) (slice_get new k))
    → IsMergeEnd (map (seen_of source) new) (end_seen new_end) → ArePlaced opened more
    → AreMergedFrom opened (seen_by source old old_end) given → AreMergedFrom opened (seen_by source new new_end) (given ++ more)
merged_on source opened old new old_end new_end given more gives known placed m = record {
  placed = All-append (λ d. d.0 < length opened) given more m.placed placed;
  each = λ k.
      rw (slice_get-map (seen_of source) new k)
      (both_seen source given more k (slice_get opened k) (slice_get old k) (slice_get new k) (rw (slice_get-map (seen_of source) old k) at (m.each k)) (gives k));
  known = known;
}

-- ---- the end

ended_if : {B : Type 0} (source : SourceOf B) (x y : Option (Stream B)) → Both (λ a b. HasEnded b) x y → IfSome (option_map (seen_of source) y) (λ lines. lines.end ≡ Some end.End)
ended_if source (Some a) (Some b) ended = ended.at_end
ended_if source None None ended = tt
ended_if source (Some a) None ended = tt
ended_if source None (Some b) ended = absurd ended

failed_there : {B : Type 0} (source : SourceOf B) (x y : Option (Stream B)) → There (HasFailed source) x y → IsSomeAnd (option_map (seen_of source) y) (λ lines. lines.end ≡ Some end.Fault)
failed_there source (Some a) (Some b) failed = failed.0
failed_there source None y failed = absurd failed
failed_there source (Some a) None failed = absurd failed

long_there : {B : Type 0} (source : SourceOf B) (x y : Option (Stream B)) → There HasTooLong x y → IsSomeAnd (option_map (seen_of source) y) (λ lines. lines.end ≡ Some end.TooLong)
long_there source (Some a) (Some b) long = long
long_there source None y long = absurd long
long_there source (Some a) None long = absurd long

pub end_known : {B : Type 0} (source : SourceOf B) (first : ℕ) (old : ℕ → Option (Stream B)) (streams : List (Stream B)) (found : MergeItem)
    → RoundHasCause source first old (slice_get streams) found → IsMergeEnd (map (seen_of source) streams) (end_seen (end_by found))
end_known source first old streams (item.Line place line) cause = tt
end_known source first old streams item.NotYet cause = tt
end_known source first old streams item.End cause = λ k. rw (slice_get-map (seen_of source) streams k) (ended_if source (old k) (slice_get streams k) (cause k))
end_known source first old streams (item.Fault place) cause =
    (place, rw (slice_get-map (seen_of source) streams place) (failed_there source (old place) (slice_get streams place) cause.here))
end_known source first old streams (item.TooLong place) cause =
    (place, rw (slice_get-map (seen_of source) streams place) (long_there source (old place) (slice_get streams place) cause.here))

pub end_none : (streams : List LineSeen) (e : Option MergeEnd) → e ≡ None → IsMergeEnd streams (end_seen e)
end_none streams e is = rw is tt

-- ---- the order

last_of : (places : List ℕ) (place : ℕ) → slice_get (places ++ place ∷ []) (length (places ++ place ∷ []) - 1) ≡ Some place
last_of places place =
    let e : length (places ++ place ∷ []) - 1 ≡ length places = omega (arith, length-append places (place ∷ [])) in
    rw e (at_end places)
  where
    at_end : (places : List ℕ) → slice_get (places ++ place ∷ []) (length places) ≡ Some place
    at_end [] = refl
    at_end (p ∷ ps) = at_end ps

there_within : {B : Type 0} (R : Stream B → Stream B → Type 0) (old : ℕ → Option (Stream B)) (streams : List (Stream B)) (place : ℕ) → There R (old place) (slice_get streams place) → place < length streams
there_within {B = B} R old streams place there = by (old place) (slice_get streams place) refl there
  where
    by : (x y : Option (Stream B)) → slice_get streams place ≡ y → There R x y → place < length streams
    by (Some a) (Some b) is r = slice_get_within streams place b is
    by (Some a) None is r = absurd r
    by None y is r = absurd r

pub next_within : {B : Type 0} (source : SourceOf B) (first : ℕ) (old : ℕ → Option (Stream B)) (streams : List (Stream B)) (places : List ℕ) (found : MergeItem)
    → RoundHasCause source first old (slice_get streams) found → next_place places ≤ length streams → next_place (places ++ places_in (given_of found)) ≤ length streams
next_within source first old streams places (item.Line place line) cause le =
    let lt = there_within _ old streams place cause.here in
    rw (last_of places place) (omega (arith, lt))
next_within source first old streams places item.NotYet cause le = rw append-nil le
next_within source first old streams places item.End cause le = rw append-nil le
next_within source first old streams places (item.Fault place) cause le = rw append-nil le
next_within source first old streams places (item.TooLong place) cause le = rw append-nil le

-- ---- paces and waits

rise_first : (wa wb so sn a b : ℕ) → a ≡ wa + so → b ≡ wb + sn → Rose wa wb → so ≤ sn → RoseTogether a b
rise_first wa wb so sn a b is now (inl lt) le = inl (omega (arith, is, now, lt, le))
rise_first wa wb so sn a b is now (inr full) le = inr (omega (arith, now, full))

rise_later : (wa wb so sn a b : ℕ) → a ≡ wa + so → b ≡ wb + sn → wa ≤ wb → RoseTogether so sn → RoseTogether a b
rise_later wa wb so sn a b is now le (inl lt) = inl (omega (arith, is, now, lt, le))
rise_later wa wb so sn a b is now le (inr full) = inr (omega (arith, now, full))

unpaced_if : {B : Type 0} (source : SourceOf B) (lines : List (List ℕ)) (x y : Option (Stream B)) → Both (Gives source lines) x y
    → IfSome (option_map (seen_of source) x) (λ seen. seen.source.paced ≡ unpaced) → IfSome (option_map (seen_of source) y) (λ seen. seen.source.paced ≡ unpaced)
unpaced_if source lines (Some a) (Some b) g e = g.unpaced e
unpaced_if source lines None None g e = tt
unpaced_if source lines (Some a) None g e = tt
unpaced_if source lines None (Some b) g e = absurd g

pub no_pace : {B : Type 0} (source : SourceOf B) (old new : List (Stream B)) (old_end new_end : Option MergeEnd) (lines : ℕ → List (List ℕ)) → ((k : ℕ) → Both (Gives source (lines k)) (slice_get old k) (slice_get new k))
    → AreUnpaced (seen_by source old old_end) → AreUnpaced (seen_by source new new_end)
no_pace source old new old_end new_end lines gives none k =
    rw (slice_get-map (seen_of source) new k) (unpaced_if source (lines k) (slice_get old k) (slice_get new k) (gives k) (rw (slice_get-map (seen_of source) old k) at (none k)))

-- the waits of all sources
abbrev waits_of : {B : Type 0} → SourceOf B → List (Stream B) → ℕ
waits_of source streams = sum_by (λ (seen : LineSeen). seen.source.waits) (map (seen_of source) streams)

waits_more : {B : Type 0} (source : SourceOf B) (s : Stream B) (streams : List (Stream B)) → waits_of source (s ∷ streams) ≡ source.waits (line_source (lines_of s)) + waits_of source streams
waits_more source s streams = sum_by-cons (λ (seen : LineSeen). seen.source.waits) (seen_of source s) (map (seen_of source) streams)

-- the waits of lists of sources, one by one
pub sum_stays : {B : Type 0} (source : SourceOf B) (old new : List (Stream B)) (lines : ℕ → List (List ℕ)) → ((k : ℕ) → Both (Gives source (lines k)) (slice_get old k) (slice_get new k))
    → waits_of source old ≤ waits_of source new
sum_stays source [] new lines gives = omega arith
sum_stays source (a ∷ old) [] lines gives = absurd (gives 0)
sum_stays source (a ∷ old) (b ∷ new) lines gives =
    let first = (gives 0).waits_stay in
    let rest = sum_stays source old new (λ k. lines (suc k)) (λ k. gives (suc k)) in
    omega (arith, waits_more source a old, waits_more source b new, first, rest)

-- they rise where one of them has waited
pub sum_rises : {B : Type 0} (source : SourceOf B) (old new : List (Stream B)) (lines : ℕ → List (List ℕ)) → ((k : ℕ) → Both (Gives source (lines k)) (slice_get old k) (slice_get new k))
    → (k : ℕ) → There (HasWaited source) (slice_get old k) (slice_get new k) → RoseTogether (waits_of source old) (waits_of source new)
sum_rises source [] new lines gives k there = absurd there
sum_rises source (a ∷ old) [] lines gives k there = absurd (gives 0)
sum_rises source (a ∷ old) (b ∷ new) lines gives zero there =
    rise_first (source.waits (line_source (lines_of a))) (source.waits (line_source (lines_of b))) (waits_of source old) (waits_of source new) _ _ (waits_more source a old) (waits_more source b new) there.waits
    (sum_stays source old new (λ k. lines (suc k)) (λ k. gives (suc k)))
sum_rises source (a ∷ old) (b ∷ new) lines gives (suc k) there =
    rise_later (source.waits (line_source (lines_of a))) (source.waits (line_source (lines_of b))) (waits_of source old) (waits_of source new) _ _ (waits_more source a old) (waits_more source b new) (gives 0).waits_stay
    (sum_rises source old new (λ k. lines (suc k)) (λ k. gives (suc k)) k there)

pub rise_of : {B : Type 0} (source : SourceOf B) (first : ℕ) (old new : List (Stream B)) (found : MergeItem) → ((k : ℕ) → Both (Gives source (lines_from k (given_of found))) (slice_get old k) (slice_get new k))
    → RoundHasCause source first (slice_get old) (slice_get new) found → RisesIfNotYet found (waits_of source old) (waits_of source new)
rise_of source first old new item.NotYet gives cause = sum_rises source old new (λ k. []) gives cause.1.0 cause.1.1
rise_of source first old new (item.Line place line) gives cause = tt
rise_of source first old new item.End gives cause = tt
rise_of source first old new (item.Fault place) gives cause = tt
rise_of source first old new (item.TooLong place) gives cause = tt

pub rise_again : (e : MergeEnd) (before now : ℕ) → RisesIfNotYet (item_of e) before now
rise_again merge_end.End before now = tt
rise_again (merge_end.Fault place) before now = tt
rise_again (merge_end.TooLong place) before now = tt

-- the lines that were given
pub lines_in : {B : Type 0} (source : SourceOf B) (old new : ℕ → Option (Stream B)) (found : MergeItem) → ((k : ℕ) → Both (Gives source (lines_from k (given_of found))) (old k) (new k))
    → (first : ℕ) → RoundHasCause source first old new found → All IsLine (map (λ d. d.1) (given_of found))
lines_in {B = B} source old new (item.Line place line) gives first cause =
    let same : (place == place) ≡ true = grind (arith, nat_tests) in
    let at : lines_from place ((place, line) ∷ []) ≡ line ∷ [] = rw same refl in
    by (old place) (new place) cause.here (rw at at (gives place))
  where
    by : (x y : Option (Stream B)) → There WasOpen x y → Both (Gives source (line ∷ [])) x y → All IsLine (line ∷ [])
    by (Some a) (Some b) there g = g.each_is_a_line
    by None y there g = absurd there
    by (Some a) None there g = absurd there
lines_in source old new item.NotYet gives first cause = All-nil IsLine
lines_in source old new item.End gives first cause = All-nil IsLine
lines_in source old new (item.Fault place) gives first cause = All-nil IsLine
lines_in source old new (item.TooLong place) gives first cause = All-nil IsLine

-- ---- fetches

pub records_given : (found : MergeItem) → map (λ d. d.1) (given_of found) ≡ records_of (answer_by found)
records_given (item.Line place line) = refl
records_given item.NotYet = refl
records_given item.End = refl
records_given (item.Fault place) = refl
records_given (item.TooLong place) = refl

pub fetch_cause : {B : Type 0} (source : SourceOf B) (first : ℕ) (old new : ℕ → Option (Stream B)) (found : MergeItem) → RoundHasCause source first old new found → FetchHasCause source old new (answer_by found)
fetch_cause source first old new (item.Line place line) cause = refl
fetch_cause source first old new item.NotYet cause = cause
fetch_cause source first old new item.End cause = cause
fetch_cause source first old new (item.Fault place) cause = (place, cause.here)
fetch_cause source first old new (item.TooLong place) cause = (place, cause.here)

pub fetch_rises : (found : MergeItem) (before now : ℕ) → RisesIfNotYet found before now → FetchRises (answer_by found) before now
fetch_rises (item.Line place line) before now rises = tt
fetch_rises item.NotYet before now rises = rises
fetch_rises item.End before now rises = tt
fetch_rises (item.Fault place) before now rises = tt
fetch_rises (item.TooLong place) before now rises = tt

pub fetch_remembers : (found : MergeItem) (now : Option MergeEnd) → now ≡ end_by found → Remembers now (answer_by found)
fetch_remembers (item.Line place line) now is = is
fetch_remembers item.NotYet now is = is
fetch_remembers item.End now is = is
fetch_remembers (item.Fault place) now is = (place, is)
fetch_remembers (item.TooLong place) now is = (place, is)

pub answers_end : (e : MergeEnd) → answer_by (item_of e) ≡ answer_to e
answers_end merge_end.End = refl
answers_end (merge_end.Fault place) = refl
answers_end (merge_end.TooLong place) = refl
