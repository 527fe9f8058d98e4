-- The sources of a merge, opened and given back.
use Rattle.std.proofs.Common.{◌≡◌, ◌≤◌, ◌<◌, ℕ, zero, suc, ◌+◌, true, false, List, [], ◌∷◌, ◌++◌, length, map, reverse, take, drop, refl, ap, sym, ◌∙◌, subst, inl, inr, arith}
use Rattle.std.specs.Prelude.{◌⊎◌, slice_get, All, Option, Some, None, IsSome, IfSome, OnOk, OnErr, option_map, Result, Ok, Err}
use Rattle.std.proofs.lemmas.List.{append-nil, append_assoc, map-append, reverse-append, reverse-reverse}
use Rattle.std.proofs.lemmas.List.Elements.{All-append, All-cons, All-nil}
use Rattle.pipe_edges.specs.Paces.{PaceSeen, unpaced}
use Rattle.pipe_edges.specs.declared.edges.EdgeKind.{EdgeKind}
use Rattle.pipe_edges.specs.declared.edges.EdgeKind.TheVariants.{Source}
use Rattle.pipe_edges.specs.declared.source.ByteSource.{Ghosts as SourceOf}
use Rattle.line_merge.specs.Streams.{sources_of as streams_sources}
use Rattle.line_merge.specs.declared.merge.LineMerge.{LineMerge}
use Rattle.stage_bodies.specs.Seen.{SourceSeen, source_seen, LineSeen, MergeSeen, merge_seen, Merged as MergedSeen, sources_in, SourcesSeen, OneSource, ManySources}
use Rattle.stage_bodies.proofs.Feeds.{many_out}
use Rattle.stage_bodies.specs.Jobs.{Both}
use Rattle.stage_bodies.specs.Reads.{AreMergedFrom}
use Rattle.edge_names.specs.Seen.{EdgesSeen}
use Rattle.edge_names.specs.Named.{GivesSource}
use Rattle.edge_names.specs.Gates.{AreInner, IsInner}
use Rattle.edge_names.specs.Supplies.{Feed, Opened, Merged, Made, feed_at, feed_calls, given_back, merge_count, merged_names, source_call, under_names}
use Rattle.edge_names.specs.Opened.{Asks, AreUnread, FailsToOpen, GiveSources, GivesMerge, IsMergeOf, IsOneCut, IsOneFailed, IsSupplied, IfCutOff, IfFailed}
use Rattle.edge_names.specs.Returned.{GivesBack, GivesOff, IsBackUpTo}
use Rattle.edge_names.specs.declared.opening.Unopened.{Unopened}
use Rattle.edge_names.specs.declared.opening.Unopened.TheVariants.{Failed, OutOfMemory}
use Rattle.edge_names.proofs.Cuts.{is_source, rose_after}
use Rattle.edge_names.proofs.Openings.{asks_more, gives_source_from, take_next}
use Rattle.edge_names.proofs.Returns.{off_as, off_more, off_nothing}

-- ---- feeds

-- a feed that is merged is a merge of its names
pub is_merge : (feed : Option Feed) (count : ℕ) → merge_count feed ≡ Some count → (feed ≡ Some (Merged (merged_names feed))) × (length (merged_names feed) ≡ count)
is_merge (Some (Merged names)) count e = (refl, let same : length names ≡ count = cc in same)
is_merge (Some (Opened name)) count e = cc
is_merge (Some (Made bytes)) count e = cc
is_merge None count e = cc

some_count : {A : Type 0} (o : Option A) → IsSome o → (x : A) × (o ≡ Some x)
some_count (Some x) h = (x, refl)
some_count None h = let x : false ≡ true = h in cc

pub is_some_merge : (feed : Option Feed) → IsSome (merge_count feed) → feed ≡ Some (Merged (merged_names feed))
is_some_merge feed some = let count = some_count (merge_count feed) some in (is_merge feed count.0 count.1).0

-- and any other is the source at each place
pub alone : (feed : Option Feed) (place : ℕ) → merge_count feed ≡ None → feed_at feed place ≡ feed
alone (Some (Merged names)) place e = cc
alone (Some (Opened name)) place e = refl
alone (Some (Made bytes)) place e = refl
alone None place e = refl

-- ---- names and sources

pub unread_all : (edges : EdgesSeen) (names : List (List ℕ)) (sources : List SourceSeen) → GiveSources edges names sources → AreUnread edges (map source_call names) (under_names names sources)
unread_all edges [] [] h = tt
unread_all edges (name ∷ names) (source ∷ sources) h = (refl, h.0, unread_all edges names sources h.1)
unread_all edges [] (source ∷ sources) h = absurd h
unread_all edges (name ∷ names) [] h = absurd h

-- a front of what went back is that of a front of the calls
pub unread_front : (edges : EdgesSeen) (names : List (List ℕ)) (sources : List SourceSeen) (extra : List (EdgeKind × List ℕ)) (count : ℕ) → GiveSources edges names sources
    → AreUnread edges (take (length (take count (under_names names sources))) (map source_call names ++ extra)) (take count (under_names names sources))
unread_front edges [] [] [] zero h = tt
unread_front edges [] [] (x ∷ extra) zero h = tt
unread_front edges [] [] [] (suc count) h = tt
unread_front edges [] [] (x ∷ extra) (suc count) h = tt
unread_front edges (name ∷ names) (source ∷ sources) extra zero h = tt
unread_front edges (name ∷ names) (source ∷ sources) extra (suc count) h = (refl, h.0, unread_front edges names sources extra count h.1)
unread_front edges [] (source ∷ sources) extra count h = absurd h
unread_front edges (name ∷ names) [] extra count h = absurd h

pub give_length : (edges : EdgesSeen) (names : List (List ℕ)) (sources : List SourceSeen) → GiveSources edges names sources → length sources ≡ length names
give_length edges [] [] h = refl
give_length edges (name ∷ names) (source ∷ sources) h = ap suc (give_length edges names sources h.1)
give_length edges [] (source ∷ sources) h = absurd h
give_length edges (name ∷ names) [] h = absurd h

-- one more
give_more : (edges : EdgesSeen) (names : List (List ℕ)) (sources : List SourceSeen) (name : List ℕ) (source : SourceSeen) → GiveSources edges names sources → GivesSource edges name source
    → GiveSources edges (names ++ name ∷ []) (sources ++ source ∷ [])
give_more edges [] [] name source h one = (one, tt)
give_more edges (n ∷ names) (s ∷ sources) name source h one = (h.0, give_more edges names sources name source h.1 one)
give_more edges [] (s ∷ sources) name source h one = absurd h
give_more edges (n ∷ names) [] name source h one = absurd h

pub give_next : (edges : EdgesSeen) (names : List (List ℕ)) (place : ℕ) (name : List ℕ) (sources : List SourceSeen) (source : SourceSeen) → slice_get names place ≡ Some name → GiveSources edges (take place names) sources → GivesSource edges name source
    → GiveSources edges (take (place + 1) names) (sources ++ source ∷ [])
give_next edges names place name sources source here h one =
    subst (λ ns. GiveSources edges ns (sources ++ source ∷ [])) (sym (take_next names place name here)) (give_more edges (take place names) sources name source h one)

pub calls_next : (names : List (List ℕ)) (place : ℕ) (name : List ℕ) → slice_get names place ≡ Some name → map source_call (take place names) ++ source_call name ∷ [] ≡ map source_call (take (place + 1) names)
calls_next names place name here = sym (ap (map source_call) (take_next names place name here) ∙ map-append source_call (take place names) (name ∷ []))

-- the names in front of one, that name, and those behind it
pub cut_at : {A : Type 0} (names : List A) (place : ℕ) (name : A) → slice_get names place ≡ Some name → names ≡ take place names ++ name ∷ drop (suc place) names
cut_at [] place name e = cc
cut_at (x ∷ []) zero name e = let is : x ≡ name = cc in ap (λ z. z ∷ []) is
cut_at (x ∷ y ∷ xs) zero name e = let is : x ≡ name = cc in ap (λ z. z ∷ y ∷ xs) is
cut_at (x ∷ xs) (suc place) name e = ap (λ z. x ∷ z) (cut_at xs place name e)

front_and_rest : {A : Type 0} (place : ℕ) (names : List A) → names ≡ take place names ++ drop place names
front_and_rest zero [] = refl
front_and_rest zero (x ∷ xs) = refl
front_and_rest (suc place) [] = refl
front_and_rest (suc place) (x ∷ xs) = ap (λ z. x ∷ z) (front_and_rest place xs)

pub parts_at : (names : List (List ℕ)) (place : ℕ) (name : List ℕ) → slice_get names place ≡ Some name
    → map source_call names ≡ map source_call (take place names) ++ source_call name ∷ map source_call (drop (suc place) names)
parts_at names place name here = ap (map source_call) (cut_at names place name here) ∙ map-append source_call (take place names) (name ∷ drop (suc place) names)

-- sources of the first names stand under these
under_first : (edges : EdgesSeen) (place : ℕ) (names : List (List ℕ)) (sources : List SourceSeen) → GiveSources edges (take place names) sources → under_names names sources ≡ under_names (take place names) sources
under_first edges zero [] [] h = refl
under_first edges zero (name ∷ names) [] h = refl
under_first edges zero [] (source ∷ sources) h = absurd h
under_first edges zero (name ∷ names) (source ∷ sources) h = absurd h
under_first edges (suc place) [] [] h = refl
under_first edges (suc place) [] (source ∷ sources) h = absurd h
under_first edges (suc place) (name ∷ names) [] h = absurd h
under_first edges (suc place) (name ∷ names) (source ∷ sources) h = ap (λ z. (name, source) ∷ z) (under_first edges place names sources h.1)

-- ---- without a gate

-- what has no pace comes back as it was
is_as_it_was : (gated inner : SourceSeen) → gated.paced ≡ unpaced → IsInner gated inner → inner ≡ gated
is_as_it_was gated inner plain h = by h.gate
  where
    by : (inner ≡ gated) ⊎ (IsSome gated.paced.pace × (gated.paced.own ≡ inner.waits)) → inner ≡ gated
    by (inl same) = same
    by (inr gate) =
        let none : gated.paced.pace ≡ None = ap (λ (p : PaceSeen). p.pace) plain in
        let x : false ≡ true = subst (λ o. IsSome o) none gate.0 in
        cc

abbrev ArePlain : List (List ℕ × SourceSeen) → Type 0
ArePlain [] = Unit {0}
ArePlain (given ∷ back) = (given.1.paced ≡ unpaced) × ArePlain back

plain_given : (edges : EdgesSeen) (names : List (List ℕ)) (sources : List SourceSeen) → GiveSources edges names sources → ArePlain (under_names names sources)
plain_given edges [] [] h = tt
plain_given edges (name ∷ names) (source ∷ sources) h = (h.0.no_pace, plain_given edges names sources h.1)
plain_given edges [] (source ∷ sources) h = absurd h
plain_given edges (name ∷ names) [] h = absurd h

plain_take : (count : ℕ) (back : List (List ℕ × SourceSeen)) → ArePlain back → ArePlain (take count back)
plain_take zero [] h = tt
plain_take zero (given ∷ back) h = tt
plain_take (suc count) [] h = tt
plain_take (suc count) (given ∷ back) h = (h.0, plain_take count back h.1)

are_as_they_were : (gated inner : List (List ℕ × SourceSeen)) → ArePlain gated → AreInner gated inner → inner ≡ gated
are_as_they_were [] [] plain h = refl
are_as_they_were (g ∷ gs) (i ∷ is) plain h =
    let first : i ≡ g = λ k. (h.0 k, is_as_it_was g.1 i.1 plain.0 h.1 k) in
    ap (λ z. z ∷ is) first ∙ ap (λ z. g ∷ z) (are_as_they_were gs is plain.1 h.2)
are_as_they_were [] (i ∷ is) plain h = absurd h
are_as_they_were (g ∷ gs) [] plain h = absurd h

-- ---- given back

-- so far: these went back, and those are left
pub record AreBackSoFar (names : List (List ℕ)) (all : List SourceSeen) (place : ℕ) (left : List SourceSeen) (a b : EdgesSeen) : Type 0 where
  pub done : List (List ℕ × SourceSeen)
  pub parts : under_names names all ≡ done ++ under_names (drop place names) left
  pub back : GivesOff done [] a b

drop_none : {A : Type 0} (xs : List A) → drop 0 xs ≡ xs
drop_none [] = refl
drop_none (x ∷ xs) = refl

pub back_start : (names : List (List ℕ)) (all : List SourceSeen) (a : EdgesSeen) → AreBackSoFar names all 0 all a a
back_start names all a = record { done = []; parts = ap (λ ns. under_names ns all) (sym (drop_none names)); back = off_nothing a }

-- the list of them reversed, of which the last is the next
pub back_begin : {B : Type 0} (names : List (List ℕ)) (seen : B → SourceSeen) (sources turned : List B) (a : EdgesSeen) → turned ≡ reverse sources → AreBackSoFar names (map seen sources) 0 (map seen (reverse turned)) a a
back_begin names seen sources turned a is =
    subst (λ left. AreBackSoFar names (map seen sources) 0 (map seen left) a a) (sym (ap reverse is ∙ reverse-reverse sources)) (back_start names (map seen sources) a)

turned_next : {B : Type 0} (all rest : List B) (o : B) → all ≡ rest ++ o ∷ [] → reverse all ≡ o ∷ reverse rest
turned_next all rest o parts = ap reverse parts ∙ reverse-append rest (o ∷ [])

-- the name at a place, and those behind it
drop_here : (names : List (List ℕ)) (place : ℕ) → ((slice_get names place ≡ None) × (drop place names ≡ []) × (drop (suc place) names ≡ [])) ⊎ ((name : List ℕ) × (slice_get names place ≡ Some name) × (drop place names ≡ name ∷ drop (suc place) names))
drop_here [] zero = inl (refl, refl, refl)
drop_here [] (suc place) = inl (refl, refl, refl)
drop_here (name ∷ []) zero = inr (name, refl, refl)
drop_here (name ∷ other ∷ names) zero = inr (name, refl, refl)
drop_here (name ∷ names) (suc place) = drop_here names place

add_one : (n : ℕ) → suc n ≡ n + 1
add_one n = omega arith

-- one more went back, if there is a name for it
pub back_next : (names : List (List ℕ)) (all : List SourceSeen) (place : ℕ) (gated inner : SourceSeen) (left : List SourceSeen) (a b c : EdgesSeen) → AreBackSoFar names all place (gated ∷ left) a b → IsInner gated inner
    → GivesBack (given_back (feed_at (Some (Merged names)) place) (Some (OneSource inner))) [] b c → AreBackSoFar names all (place + 1) left a c
back_next names all place gated inner left a b c h is back = by (drop_here names place)
  where
    by : ((slice_get names place ≡ None) × (drop place names ≡ []) × (drop (suc place) names ≡ [])) ⊎ ((name : List ℕ) × (slice_get names place ≡ Some name) × (drop place names ≡ name ∷ drop (suc place) names)) → AreBackSoFar names all (place + 1) left a c
    by (inl none) =
        let same : GivesBack [] [] b c = subst (λ o. GivesBack (given_back (option_map Opened o) (Some (OneSource inner))) [] b c) none.0 back in
        let more : GivesOff (h.done ++ []) [] a c = off_more h.done [] [] [] a b c h.back (off_as [] [] b c same) in
        record {
          done = h.done;
          parts = h.parts ∙ ap (λ ns. h.done ++ under_names ns (gated ∷ left)) none.1 ∙ ap (λ ns. h.done ++ under_names ns left) (sym none.2 ∙ ap (λ k. drop k names) (add_one place));
          back = subst (λ xs. GivesOff xs [] a c) (append-nil h.done) more;
        }
    by (inr (name, here, cut)) =
        let one : GivesBack ((name, inner) ∷ []) [] b c = subst (λ o. GivesBack (given_back (option_map Opened o) (Some (OneSource inner))) [] b c) here back in
        let given : List (List ℕ × SourceSeen) = (name, gated) ∷ [] in
        let off : GivesOff given [] b c = record { inner = (name, inner) ∷ []; ungated = (refl, is, tt); back = one } in
        record {
          done = h.done ++ given;
          parts = h.parts ∙ ap (λ ns. h.done ++ under_names ns (gated ∷ left)) (cut ∙ ap (λ k. name ∷ drop k names) (add_one place)) ∙ sym (append_assoc h.done given (under_names (drop (place + 1) names) left));
          back = off_more h.done given [] [] a b c h.back off;
        }

pub back_turn : {B : Type 0} (feed : Option Feed) (seen : B → SourceSeen) (sources all rest : List B) (o : B) (place : ℕ) (inner : SourceSeen) (a b c : EdgesSeen) → feed ≡ Some (Merged (merged_names feed)) → all ≡ rest ++ o ∷ []
    → AreBackSoFar (merged_names feed) (map seen sources) place (map seen (reverse all)) a b → IsInner (seen o) inner → GivesBack (given_back (feed_at feed place) (Some (OneSource inner))) [] b c
    → AreBackSoFar (merged_names feed) (map seen sources) (place + 1) (map seen (reverse rest)) a c
back_turn feed seen sources all rest o place inner a b c merge parts h is back =
    let names = merged_names feed in
    back_next names (map seen sources) place (seen o) inner (map seen (reverse rest)) a b c (subst (λ left. AreBackSoFar names (map seen sources) place (map seen left) a b) (turned_next all rest o parts) h) is
    (subst (λ f. GivesBack (given_back (feed_at f place) (Some (OneSource inner))) [] b c) merge back)

-- all went back
pub back_all : (names : List (List ℕ)) (all : List SourceSeen) (place : ℕ) (left : List SourceSeen) (a b : EdgesSeen) → AreBackSoFar names all place left a b → left ≡ [] → GivesOff (under_names names all) [] a b
back_all names all place left a b h none =
    subst (λ xs. GivesOff xs [] a b) (sym (h.parts ∙ ap (λ xs. h.done ++ xs) (ap (λ l. under_names (drop place names) l) none ∙ nothing (drop place names)) ∙ append-nil h.done)) h.back
  where
    nothing : (ns : List (List ℕ)) → under_names ns [] ≡ []
    nothing [] = refl
    nothing (n ∷ ns) = refl

take_front : {A : Type 0} (xs ys : List A) → take (length xs) (xs ++ ys) ≡ xs
take_front [] [] = refl
take_front [] (y ∷ ys) = refl
take_front (x ∷ xs) ys = ap (λ z. x ∷ z) (take_front xs ys)

-- memory was wanting for the next one
pub back_up_to : (names : List (List ℕ)) (all : List SourceSeen) (place : ℕ) (left : List SourceSeen) (a b c : EdgesSeen) → AreBackSoFar names all place left a b → GivesBack [] [] b c → IsBackUpTo (under_names names all) a c
back_up_to names all place left a b c h none =
    let more : GivesOff (h.done ++ []) [] a c = off_more h.done [] [] [] a b c h.back (off_as [] [] b c none) in
    let done : GivesOff h.done [] a c = subst (λ xs. GivesOff xs [] a c) (append-nil h.done) more in
    record {
      count = length h.done;
      back = subst (λ xs. GivesOff xs [] a c) (sym (ap (take (length h.done)) h.parts ∙ take_front h.done (under_names (drop place names) left))) done;
    }

take_all_of : {A : Type 0} (xs : List A) → take (length xs) xs ≡ xs
take_all_of [] = refl
take_all_of (x ∷ xs) = ap (λ z. x ∷ z) (take_all_of xs)

-- all is as many as there are
pub up_to_all : (xs : List (List ℕ × SourceSeen)) (a b : EdgesSeen) → GivesOff xs [] a b → IsBackUpTo xs a b
up_to_all xs a b h = record { count = length xs; back = subst (λ ys. GivesOff ys [] a b) (sym (take_all_of xs)) h }

pub up_to_either : {T X : Type 0} (r : Result T X) (xs : List (List ℕ × SourceSeen)) (a b : EdgesSeen) → OnOk r (GivesOff xs [] a b) → OnErr r (IsBackUpTo xs a b) → IsBackUpTo xs a b
up_to_either (Ok x) xs a b all part = up_to_all xs a b all
up_to_either (Err x) xs a b all part = part

pub up_to_any : (u : Unopened) (xs : List (List ℕ × SourceSeen)) (a b : EdgesSeen) → GivesOff xs [] a b → IfCutOff u (IsBackUpTo xs a b)
up_to_any (Failed name) xs a b h = tt
up_to_any OutOfMemory xs a b h = up_to_all xs a b h

take_none : {A : Type 0} (xs : List A) → take 0 xs ≡ []
take_none [] = refl
take_none (x ∷ xs) = refl

pub up_to_none : (xs : List (List ℕ × SourceSeen)) (a b : EdgesSeen) → GivesBack [] [] a b → IsBackUpTo xs a b
up_to_none xs a b h = record { count = 0; back = subst (λ ys. GivesOff ys [] a b) (sym (take_none xs)) (off_as [] [] a b h) }

-- ---- opened

-- at each place of a merge there is a name
pub name_at_place : (names : List (List ℕ)) (place count : ℕ) → length names ≡ count → place < count → (name : List ℕ) × (slice_get names place ≡ Some name)
name_at_place [] place count len lt = absurd (omega (arith, len, lt))
name_at_place (name ∷ names) zero count len lt = (name, refl)
name_at_place (name ∷ names) (suc place) count len lt = name_at_place names place (length names) refl (omega (arith, len, lt))

-- the sources of a merge at the places in front of one were opened
pub record AreOpenedUpTo (names : List (List ℕ)) (place : ℕ) (sources : List SourceSeen) (a b : EdgesSeen) : Type 0 where
  pub asks : Asks (map source_call (take place names)) a b
  pub gives : GiveSources a (take place names) sources

all_sources : (names : List (List ℕ)) → All is_source (map source_call names)
all_sources [] = All-nil is_source
all_sources (name ∷ names) = All-cons is_source (source_call name) (map source_call names) refl (all_sources names)

all_more : (xs ys : List (EdgeKind × List ℕ)) → All is_source xs → All is_source ys → All is_source (xs ++ ys)
all_more xs ys h k = All-append is_source xs ys h k

-- one more
pub opened_next : (names : List (List ℕ)) (place : ℕ) (name : List ℕ) (sources : List SourceSeen) (source : SourceSeen) (a b c : EdgesSeen) → slice_get names place ≡ Some name → AreOpenedUpTo names place sources a b
    → Asks (feed_calls (feed_at (Some (Merged names)) place)) b c → IsSupplied b (feed_at (Some (Merged names)) place) (Some source) → AreOpenedUpTo names (place + 1) (sources ++ source ∷ []) a c
opened_next names place name sources source a b c here h asks gives =
    let before = map source_call (take place names) in
    let own : Asks (source_call name ∷ []) b c = subst (λ o. Asks (feed_calls (option_map Opened o)) b c) here asks in
    let one : GivesSource b name source = subst (λ o. IsSupplied b (option_map Opened o) (Some source)) here gives in
    record {
      asks = subst (λ calls. Asks calls a c) (calls_next names place name here) (asks_more before (source_call name ∷ []) a b c h.asks own);
      gives = give_next a names place name sources source here h.gives (gives_source_from before a b name source h.asks one);
    }

abbrev name_in_feed : Option Feed → List ℕ
name_in_feed (Some (Opened name)) = name
name_in_feed _ = []

-- one could not be opened, and those before it went back
pub next_failed : (names : List (List ℕ)) (place : ℕ) (name failed : List ℕ) (sources : List SourceSeen) (a b c d : EdgesSeen) → slice_get names place ≡ Some name → AreOpenedUpTo names place sources a b
    → FailsToOpen (feed_at (Some (Merged names)) place) failed b c → GivesOff (under_names names sources) [] c d → IsOneFailed (map source_call names) failed a d
next_failed names place name failed sources a b c d here h fails off =
    let before = map source_call (take place names) in
    let given = under_names (take place names) sources in
    let named : Some (Opened name) ≡ Some (Opened failed) = sym (ap (option_map Opened) here) ∙ fails.is in
    let same : name ≡ failed = opened_same name failed named in
    let parts : map source_call names ≡ before ++ source_call failed ∷ map source_call (drop (suc place) names) = subst (λ n. map source_call names ≡ before ++ source_call n ∷ map source_call (drop (suc place) names)) same (parts_at names place name here) in
    let asks : Asks (before ++ source_call failed ∷ []) a c = asks_more before (source_call failed ∷ []) a b c h.asks fails.asks in
    let first : under_names names sources ≡ given = under_first a place names sources h.gives in
    let back : off.inner ≡ given = are_as_they_were (under_names names sources) off.inner (subst ArePlain (sym first) (plain_given a (take place names) sources h.gives)) off.ungated ∙ first in
    record {
      kind = Source;
      front = before;
      behind = map source_call (drop (suc place) names);
      parts = parts;
      back = given;
      unread = unread_all a (take place names) sources h.gives;
      same_telling = off.back.same_telling ∙ asks.same_telling;
      asked = λ t. off.back.asked (rw asks.same_telling t) ∙ asks.asked t;
      sources = off.back.back_sources ∙ ap (λ z. c.sources_back ++ z) back ∙ ap (λ z. z ++ given) asks.sources;
      sinks = off.back.back_sinks ∙ append-nil c.sinks_back ∙ asks.sinks;
      faults_stay = let p = asks.faults_stay in let q = off.back.no_fault in omega (arith, p, q);
      fault = rw off.back.no_fault (rose_after a.faults b.faults c.faults h.asks.faults_stay fails.fault);
    }
  where
    opened_same : (x y : List ℕ) → Some (Opened x) ≡ Some (Opened y) → x ≡ y
    opened_same x y e = ap name_in_feed e

-- memory was wanting, after so many calls, and what was opened went back as far as there was memory for that
cut_after : (names : List (List ℕ)) (place : ℕ) (sources : List SourceSeen) (extra rest : List (EdgeKind × List ℕ)) (a c d : EdgesSeen) → GiveSources a (take place names) sources → All is_source extra
    → map source_call names ≡ (map source_call (take place names) ++ extra) ++ rest → Asks (map source_call (take place names) ++ extra) a c → IsBackUpTo (under_names names sources) c d → IsOneCut (map source_call names) a d
cut_after names place sources extra rest a c d gives few parts asks up =
    let before = map source_call (take place names) in
    let given = under_names (take place names) sources in
    let off = up.back in
    let first : under_names names sources ≡ given = under_first a place names sources gives in
    let plain : ArePlain (under_names names sources) = subst ArePlain (sym first) (plain_given a (take place names) sources gives) in
    let back : off.inner ≡ take up.count given = are_as_they_were (take up.count (under_names names sources)) off.inner (plain_take up.count (under_names names sources) plain) off.ungated ∙ ap (take up.count) first in
    record {
      made = before ++ extra;
      back = take up.count given;
      cut = record {
        rest = rest;
        parts = parts;
        of_sources = all_more before extra (all_sources (take place names)) few;
        unread = unread_front a (take place names) sources extra up.count gives;
      };
      same_telling = off.back.same_telling ∙ asks.same_telling;
      asked = λ t. off.back.asked (rw asks.same_telling t) ∙ asks.asked t;
      sources = off.back.back_sources ∙ ap (λ z. c.sources_back ++ z) back ∙ ap (λ z. z ++ take up.count given) asks.sources;
      sinks = off.back.back_sinks ∙ append-nil c.sinks_back ∙ asks.sinks;
      faults_stay = let p = asks.faults_stay in let q = off.back.no_fault in omega (arith, p, q);
    }

next_cut : (names : List (List ℕ)) (place : ℕ) (sources : List SourceSeen) (a b c d : EdgesSeen) → AreOpenedUpTo names place sources a b → Asks [] b c → IsBackUpTo (under_names names sources) c d → IsOneCut (map source_call names) a d
next_cut names place sources a b c d h none up =
    let before = map source_call (take place names) in
    let parts : map source_call names ≡ before ++ map source_call (drop place names) = ap (map source_call) (front_and_rest place names) ∙ map-append source_call (take place names) (drop place names) in
    cut_after names place sources [] (map source_call (drop place names)) a c d h.gives (All-nil is_source) (parts ∙ ap (λ z. z ++ map source_call (drop place names)) (sym (append-nil before)))
    (asks_more before [] a b c h.asks none) up

-- one could not be opened, and there was no memory to give back those before it
next_unreturned : (names : List (List ℕ)) (place : ℕ) (name failed : List ℕ) (sources : List SourceSeen) (a b c d : EdgesSeen) → slice_get names place ≡ Some name → AreOpenedUpTo names place sources a b
    → FailsToOpen (feed_at (Some (Merged names)) place) failed b c → IsBackUpTo (under_names names sources) c d → IsOneCut (map source_call names) a d
next_unreturned names place name failed sources a b c d here h fails up =
    let before = map source_call (take place names) in
    let named : Some (Opened name) ≡ Some (Opened failed) = sym (ap (option_map Opened) here) ∙ fails.is in
    let same : name ≡ failed = ap name_in_feed named in
    let behind = map source_call (drop (suc place) names) in
    let own : Asks (source_call name ∷ []) b c = subst (λ n. Asks (source_call n ∷ []) b c) (sym same) fails.asks in
    cut_after names place sources (source_call name ∷ []) behind a c d h.gives (All-cons is_source (source_call name) [] refl (All-nil is_source))
    (parts_at names place name here ∙ sym (append_assoc before (source_call name ∷ []) behind)) (asks_more before (source_call name ∷ []) a b c h.asks own) up

-- by why the next one was not opened, and why giving up ended
pub given_up_failed : (names : List (List ℕ)) (place : ℕ) (name : List ℕ) (sources : List SourceSeen) (u v : Unopened) (a b c d : EdgesSeen) → slice_get names place ≡ Some name → AreOpenedUpTo names place sources a b
    → IfFailed u (λ n. FailsToOpen (feed_at (Some (Merged names)) place) n b c) → IfFailed v (λ _. (v ≡ u) × GivesOff (under_names names sources) [] c d) → IfFailed v (λ n. IsOneFailed (map source_call names) n a d)
given_up_failed names place name sources u OutOfMemory a b c d here h fails off = tt
given_up_failed names place name sources u (Failed n) a b c d here h fails off =
    next_failed names place name n sources a b c d here h (subst (λ w. IfFailed w (λ m. FailsToOpen (feed_at (Some (Merged names)) place) m b c)) (sym off.0) fails) off.1

pub given_up_cut : (names : List (List ℕ)) (place : ℕ) (name : List ℕ) (sources : List SourceSeen) (u v : Unopened) (a b c d : EdgesSeen) → slice_get names place ≡ Some name → AreOpenedUpTo names place sources a b
    → IfFailed u (λ n. FailsToOpen (feed_at (Some (Merged names)) place) n b c) → IfCutOff u (Asks [] b c) → IfCutOff v (IsBackUpTo (under_names names sources) c d) → IfCutOff v (IsOneCut (map source_call names) a d)
given_up_cut names place name sources u (Failed n) a b c d here h fails none up = tt
given_up_cut names place name sources (Failed n) OutOfMemory a b c d here h fails none up = next_unreturned names place name n sources a b c d here h fails up
given_up_cut names place name sources OutOfMemory OutOfMemory a b c d here h fails none up = next_cut names place sources a b c d h none up

-- there was no memory for the merge
pub merge_cut : (names : List (List ℕ)) (sources : List SourceSeen) (a b c : EdgesSeen) → Asks (map source_call names) a b → GiveSources a names sources → IsBackUpTo (under_names names sources) b c → IsOneCut (map source_call names) a c
merge_cut names sources a b c asks gives up =
    let all : take (length names) names ≡ names = take_all_of names in
    let calls : map source_call (take (length names) names) ≡ map source_call names = ap (map source_call) all in
    cut_after names (length names) sources [] [] a b c (subst (λ ns. GiveSources a ns sources) (sym all) gives) (All-nil is_source)
    (sym (append-nil (map source_call (take (length names) names) ++ []) ∙ append-nil (map source_call (take (length names) names)) ∙ calls))
    (subst (λ cs. Asks cs a b) (sym (append-nil (map source_call (take (length names) names)) ∙ calls)) asks) up

-- ---- the merge

abbrev many_in : SourcesSeen → List SourceSeen
many_in (ManySources sources) = sources
many_in (OneSource source) = []

-- a new merge is that of its sources
pub merge_is : {B : Type 0} (row : SourceOf B) (merge : LineMerge B) (sources : List B) → streams_sources merge ≡ sources → AreMergedFrom (map (source_seen row) sources) (merge_seen row merge) [] → IsMergeOf (map (source_seen row) sources) (merge_seen row merge)
merge_is row merge sources same unread = record { same = ap many_in (sym (many_out row merge sources (sym same))); unread = unread }

each_given : (edges : EdgesSeen) (names : List (List ℕ)) (sources : List SourceSeen) → GiveSources edges names sources → (k : ℕ) → Both (GivesSource edges) (slice_get names k) (slice_get sources k)
each_given edges [] [] h k = tt
each_given edges (name ∷ names) (source ∷ sources) h zero = h.0
each_given edges (name ∷ names) (source ∷ sources) h (suc k) = each_given edges names sources h.1 k
each_given edges [] (source ∷ sources) h k = absurd h
each_given edges (name ∷ names) [] h k = absurd h

unpaced_each : (edges : EdgesSeen) (names : List (List ℕ)) (streams : List LineSeen) → GiveSources edges names (map (λ (l : LineSeen). l.source) streams) → (k : ℕ) → IfSome (slice_get streams k) (λ (l : LineSeen). l.source.paced ≡ unpaced)
unpaced_each edges [] [] h k = tt
unpaced_each edges (name ∷ names) (line ∷ streams) h zero = h.0.no_pace
unpaced_each edges (name ∷ names) (line ∷ streams) h (suc k) = unpaced_each edges names streams h.1 k
unpaced_each edges [] (line ∷ streams) h k = absurd h
unpaced_each edges (name ∷ names) [] h k = absurd h

pub merge_given : (edges : EdgesSeen) (names : List (List ℕ)) (sources : List SourceSeen) (merge : MergeSeen) → 2 ≤ length names → length names ≤ 64 → GiveSources edges names sources → IsMergeOf sources merge → GivesMerge edges names merge
merge_given edges names sources merge some few gives is =
    let own : GiveSources edges names (sources_in (MergedSeen merge)) = subst (λ ss. GiveSources edges names ss) (sym is.same) gives in
    record {
      some = some;
      few = few;
      given = each_given edges names (sources_in (MergedSeen merge)) own;
      unread = subst (λ ss. AreMergedFrom ss merge []) (sym is.same) is.unread;
      unpaced = unpaced_each edges names merge.streams own;
    }
