-- Along a log, the rows of one step after another.
use Rattle.std.proofs.Common.{◌≡◌, ℕ, zero, suc, ◌+◌, ◌-◌, ◌<◌, ◌≤◌, List, [], ◌∷◌, ◌++◌, length, take, drop, get_or, refl, ap, sym, ◌∙◌, subst, inl, inr, arith}
use Rattle.std.specs.Prelude.{◌⊎◌}
use Rattle.std.specs.List.{flat_map}
use Rattle.std.proofs.lemmas.Bool.{cases_lt}
use Rattle.std.proofs.lemmas.List.{append-nil, append_assoc, length-append, length-drop, take_all, take-append-drop, take_more}
use Rattle.std.proofs.lemmas.List.Concat.{flat_map-append}
use Rattle.pipe_types.specs.declared.topology.Topology.{Topology}
use Rattle.pipe_types.specs.declared.step.Step.{Step}
use Rattle.pipe_model.specs.Begins.{BeginsWith}
use Rattle.pipe_model.specs.History.{History}
use Rattle.pipe_model.specs.Acknowledgements.{acknowledgements, acknowledged_by}
use Rattle.pipe_laws.proofs.Lists.{each-append, each_always, each_weaker}
use Rattle.pipe_journal.specs.declared.acked.AckRow.{AckRow}
use Rattle.pipe_journal.specs.Acked.{AreAcked, IsLog}
use Rattle.journal_texts.specs.Acks.{ack_text}
use Rattle.ack_texts.specs.Groups.{AreOf, BeginsOther, Early, IsGroup, Late, Rising}
use Rattle.ack_texts.specs.Lines.{line_of, step_acks}
use Rattle.ack_texts.proofs.Cuts.{all_early, each_last, next, Next, nothing_more, of_step}

-- The places of a log do not fall

rising_of : (low m : ℕ) (rows : List AckRow) → low ≤ m → AreOf m rows → Rising low rows
rising_of low m [] le are = tt
rising_of low m (row ∷ rows) le are = let e : row.at ≡ m = are.0 in (omega (arith, e, le), rising_of row.at m rows (omega (arith, e)) are.1)

rising_join : (low m : ℕ) (xs ys : List AckRow) → low ≤ m → Rising low xs → Early m xs → AreOf m ys → Rising low (xs ++ ys)
rising_join low m [] ys le rising early are = rising_of low m ys le are
rising_join low m (x ∷ xs) ys le rising early are = let less : x.at < m = early.0 in (rising.0, rising_join x.at m xs ys (omega (arith, less)) rising.1 early.1 are)

pub rising_log : (topology : Topology) (steps : History) (rows : List AckRow) → IsLog topology steps rows → Rising 0 rows
rising_log topology [] rows log = subst (Rising 0) (sym log) tt
rising_log topology (step ∷ before) rows log =
    subst (Rising 0) (sym log.2)
    (rising_join 0 (length before) log.0 log.1 (omega arith) (rising_log topology before log.0 log.3) (all_early topology before log.0 log.3) (of_step topology before step log.1 log.4))

rising_back : (low : ℕ) (xs ys : List AckRow) → Rising low (xs ++ ys) → Rising 0 ys
rising_back low [] [] rising = tt
rising_back low [] (y ∷ ys) rising = (omega arith, rising.1)
rising_back low (x ∷ xs) ys rising = rising_back x.at xs ys rising.1

rising_behind : (low m : ℕ) (group later : List AckRow) → 0 < length group → AreOf m group → Rising low (group ++ later) → Rising m later
rising_behind low m [] later some are rising = absurd (omega (arith, some))
rising_behind low m (g ∷ []) later some are rising = subst (λ k. Rising k later) are.0 rising.1
rising_behind low m (g ∷ (h ∷ group)) later some are rising = rising_behind g.at m (h ∷ group) later (omega arith) are.1 rising.1

rising_late : (place low : ℕ) (rows : List AckRow) → place ≤ low → Rising low rows → Late place rows
rising_late place low [] le rising = tt
rising_late place low (row ∷ rows) le rising = let up : low ≤ row.at = rising.0 in (omega (arith, le, up), rising_late place row.at rows (omega (arith, le, up)) rising.1)

late_next : (m : ℕ) (rows : List AckRow) → Rising m rows → BeginsOther m rows → Late (suc m) rows
late_next m [] rising other = tt
late_next m (row ∷ rows) rising other =
    let up : m ≤ row.at = rising.0 in
    let past : suc m ≤ row.at = omega (arith, up, other) in (past, rising_late (suc m) row.at rows past rising.1)

-- where the last of some rows is in front of a place, so are the others
pub rising_early : (low place : ℕ) (rows : List AckRow) (last : AckRow) → Rising low (rows ++ last ∷ []) → last.at < place → Early place (rows ++ last ∷ [])
rising_early low place [] last rising less = (less, tt)
rising_early low place (row ∷ rows) last rising less = (upto row.at rows rising.1, rising_early row.at place rows last rising.1 less)
  where
    upto : (k : ℕ) (xs : List AckRow) → Rising k (xs ++ last ∷ []) → k < place
    upto k [] r = let up : k ≤ last.at = r.0 in omega (arith, up, less)
    upto k (x ∷ xs) r = let up : k ≤ x.at = r.0 in let more : x.at < place = upto x.at xs r.1 in omega (arith, up, more)

rising_front : (low : ℕ) (xs ys : List AckRow) → Rising low (xs ++ ys) → Rising low xs
rising_front low [] ys rising = tt
rising_front low (x ∷ xs) ys rising = (rising.0, rising_front x.at xs ys rising.1)

pub rising_take : (count : ℕ) (rows : List AckRow) → Rising 0 rows → Rising 0 (take count rows)
rising_take count rows rising = rising_front 0 (take count rows) (drop count rows) (subst (Rising 0) (sym (take-append-drop count rows)) rising)

-- A step of a history by its place

record Split (steps : History) (k : ℕ) : Type 0 where
  front : History
  step : Step
  back : History
  is : steps ≡ front ++ step ∷ back
  long : length back ≡ k

split : (steps : History) (k : ℕ) → k < length steps → Split steps k
split [] k low = absurd (omega (arith, low))
split (step ∷ steps) k low = by (cases_lt k (length steps)) (split steps k)
  where
    by : (k < length steps) ⊎ (length steps ≤ k) → (k < length steps → Split steps k) → Split (step ∷ steps) k
    by (inl less) rest = let r = rest less in record { front = step ∷ r.front; step = r.step; back = r.back; is = ap (λ (hs : History). step ∷ hs) r.is; long = r.long }
    by (inr more) rest = record { front = []; step = step; back = steps; is = refl; long = omega (arith, more, low) }

-- A place between two groups of a log

-- up to these rows, those of the first steps
pub record At (whole : History) (rows rest : List AckRow) (before : History) : Type 0 where
  pub first : List AckRow
  pub is : rows ≡ first ++ rest
  pub begins : BeginsWith whole before
  pub early : Early (length before) first
  pub late : Late (length before) rest

pub at_start : (whole : History) (rows : List AckRow) → At whole rows rows []
at_start whole rows = record {
  first = [];
  is = refl;
  begins = record { later = whole; is = sym (append-nil whole) };
  early = tt;
  late = each_always (λ row. 0 ≤ row.at) (λ row. omega arith) rows;
}

-- behind the rows of the steps that were seen
pub at_seen : (topology : Topology) (whole : History) (rows : List AckRow) (before : History) (place count : ℕ) → place ≡ length before → IsLog topology whole rows → BeginsWith whole before
    → Late place (drop count rows) → (Rising 0 rows → Early place (take count rows)) → At whole rows (drop count rows) before
at_seen topology whole rows before place count is log begins late early = record {
  first = take count rows;
  is = sym (take-append-drop count rows);
  begins = begins;
  early = subst (λ k. Early k (take count rows)) is (early (rising_log topology whole rows log));
  late = subst (λ k. Late k (drop count rows)) is late;
}

-- where no rows are left the rest acknowledges nothing
pub at_end : (topology : Topology) (whole : History) (rows rest : List AckRow) (before : History) → IsLog topology whole rows → At whole rows rest before → rest ≡ [] → ack_text topology before ≡ ack_text topology whole
at_end topology whole rows rest before log at none =
    sym (ap (λ (acks : List _). flat_map (line_of topology) acks) (ap (acknowledgements topology) at.begins.is
    ∙ nothing_more topology at.begins.later before rows early (subst (λ (h : History). IsLog topology h rows) at.begins.is log)))
  where
    all : at.first ≡ rows
    all = sym (at.is ∙ (ap (λ (rs : List AckRow). at.first ++ rs) none ∙ append-nil at.first))

    early : Early (length before) rows
    early = subst (Early (length before)) all at.early

-- One group further

first_late : (k m : ℕ) (group later : List AckRow) → 0 < length group → AreOf m group → Late k (group ++ later) → k ≤ m
first_late k m [] later some are late = absurd (omega (arith, some))
first_late k m (g ∷ group) later some are late = let e : g.at ≡ m = are.0 in let up : k ≤ g.at = late.0 in omega (arith, e, up)

first_early : (k m : ℕ) (group later : List AckRow) → 0 < length group → AreOf m group → Early k (group ++ later) → m < k
first_early k m [] later some are early = absurd (omega (arith, some))
first_early k m (g ∷ group) later some are early = let e : g.at ≡ m = are.0 in let low : g.at < k = early.0 in omega (arith, e, low)

-- the rows of the group are those of one step, in front of which nothing more was acknowledged
pub record Further (topology : Topology) (whole : History) (rows : List AckRow) (before : History) (place : ℕ) (group later : List AckRow) : Type 0 where
  pub middle : History
  pub step : Step
  pub long : length middle ≡ place
  pub low : place < length whole
  pub acked : AreAcked topology middle step group
  pub at : At whole rows later (step ∷ middle)
  pub text : ack_text topology (step ∷ middle) ≡ ack_text topology before ++ step_acks topology middle step

pub further : (topology : Topology) (whole : History) (rows rest : List AckRow) (before : History) (group later : List AckRow) → IsLog topology whole rows → At whole rows rest before → rest ≡ group ++ later
    → (g : IsGroup group later) → Further topology whole rows before g.place group later
further topology whole rows rest before group later log at parts g = record {
  middle = middle;
  step = s.step;
  long = long;
  low = below;
  acked = n.acked;
  at = record {
    first = at.first ++ group;
    is = joined ∙ sym (append_assoc at.first group later);
    begins = record { later = s.front; is = whole_is };
    early = all_early topology (s.step ∷ middle) (at.first ++ group) n.log;
    late = late;
  };
  text = ap (λ (acks : List _). flat_map (line_of topology) acks) n.text ∙ flat_map-append (line_of topology) (acknowledgements topology before) (acknowledged_by topology middle s.step);
}
  where
    joined : rows ≡ at.first ++ (group ++ later)
    joined = at.is ∙ ap (λ (rs : List AckRow). at.first ++ rs) parts

    from : length before ≤ g.place
    from = first_late (length before) g.place group later g.some g.same (subst (Late (length before)) parts at.late)

    below : g.place < length whole
    below =
        first_early (length whole) g.place group later g.some g.same
        (each_last (λ row. row.at < length whole) at.first (group ++ later) (subst (Early (length whole)) joined (all_early topology whole rows log)))

    lengths : length whole ≡ length at.begins.later + length before
    lengths = ap length at.begins.is ∙ length-append at.begins.later before

    s : Split at.begins.later (g.place - length before)
    s = split at.begins.later (g.place - length before) (omega (arith, from, below, lengths))

    middle : History
    middle = s.back ++ before

    long : length middle ≡ g.place
    long = let e : length (s.back ++ before) ≡ length s.back + length before = length-append s.back before in omega (arith, e, s.long, from)

    whole_is : whole ≡ s.front ++ (s.step ∷ (s.back ++ before))
    whole_is = at.begins.is ∙ (ap (λ (h : History). h ++ before) s.is ∙ append_assoc s.front (s.step ∷ s.back) before)

    late : Late (suc (length (s.back ++ before))) later
    late =
        subst (λ k. Late (suc k) later) (sym long)
        (late_next g.place later
        (rising_behind 0 g.place group later g.some g.same (rising_back 0 at.first (group ++ later) (subst (Rising 0) joined (rising_log topology whole rows log)))) g.apart)

    n : Next topology before (s.back ++ before) s.step at.first group
    n =
        next topology s.front s.back before s.step rows at.first group later (subst (λ (h : History). IsLog topology h rows) whole_is log) joined at.early
        (subst (λ k. AreOf k group) (sym long) g.same) late

-- Groups

-- the rows of one step from the first on, as many as there are
pub group_of : (rows : List AckRow) (count place : ℕ) → 0 < count → count ≤ length rows → AreOf place (take count rows) → BeginsOther place (drop count rows) → IsGroup (take count rows) (drop count rows)
group_of rows count place some within same apart = record {
  place = place;
  some = taken rows count some within;
  same = same;
  apart = apart;
}
  where
    taken : (rs : List AckRow) (k : ℕ) → 0 < k → k ≤ length rs → 0 < length (take k rs)
    taken rs zero some within = absurd (omega (arith, some))
    taken [] (suc k) some within = absurd (omega (arith, within))
    taken (r ∷ rs) (suc k) some within = omega arith

-- Places in a list

pub drop_add : (n m : ℕ) (rows : List AckRow) → drop n (drop m rows) ≡ drop (m + n) rows
drop_add n zero rows = let e : n ≡ 0 + n = omega arith in ap (λ k. drop k rows) e
drop_add n (suc m) [] = none n ∙ (let e : suc (m + n) ≡ suc m + n = omega arith in ap (λ k. drop {A = AckRow} k []) e)
  where
    none : (k : ℕ) → drop {A = AckRow} k [] ≡ []
    none zero = refl
    none (suc k) = refl
drop_add n (suc m) (row ∷ rows) = drop_add n m rows ∙ (let e : suc (m + n) ≡ suc m + n = omega arith in ap (λ k. drop k (row ∷ rows)) e)

pub begins_none : (rows : List AckRow) (count place : ℕ) → length rows ≤ count → BeginsOther place (drop count rows)
begins_none [] zero place past = tt
begins_none [] (suc count) place past = tt
begins_none (row ∷ rows) zero place past = absurd (omega (arith, past))
begins_none (row ∷ rows) (suc count) place past = begins_none rows count place (omega (arith, past))

pub begins_other : (rows : List AckRow) (count place : ℕ) (d : AckRow) → count < length rows → ((get_or rows count d).at ≡ place → ⊥) → BeginsOther place (drop count rows)
begins_other [] count place d within other = absurd (omega (arith, within))
begins_other (row ∷ rows) zero place d within other = other
begins_other (row ∷ rows) (suc count) place d within other = begins_other rows count place d (omega (arith, within)) other

-- where the last of the first rows is in front of a place, all of them are
pub front_early : (rows : List AckRow) (count place : ℕ) (d : AckRow) → 0 < count → count ≤ length rows → (get_or rows (count - 1) d).at < place → Rising 0 rows → Early place (take count rows)
front_early rows zero place d some within low rising = absurd (omega (arith, some))
front_early rows (suc k) place d some within low rising =
    let inside : k < length rows = omega (arith, within) in
    let same : suc k - 1 ≡ k = omega arith in
    let one : suc k ≡ k + 1 = omega arith in
    let cut : take (suc k) rows ≡ take k rows ++ get_or rows k d ∷ [] = ap (λ n. take n rows) one ∙ take_more rows k d inside in
    subst (Early place) (sym cut) (rising_early 0 place (take k rows) (get_or rows k d) (subst (Rising 0) cut (rising_take (suc k) rows rising)) (subst (λ n. (get_or rows n d).at < place) same low))

-- the place of a group is that of its first row
pub group_place : (rows : List AckRow) (start count place : ℕ) (d : AckRow) → start < length rows → 0 < count → AreOf place (take count (drop start rows)) → (get_or rows start d).at ≡ place
group_place [] start count place d within some are = absurd (omega (arith, within))
group_place (row ∷ rows) zero zero place d within some are = absurd (omega (arith, some))
group_place (row ∷ rows) zero (suc count) place d within some are = are.0
group_place (row ∷ rows) (suc start) count place d within some are = group_place rows start count place d (omega (arith, within)) some are

-- the rows from a place on
pub slice_rest : (rows : List AckRow) (start : ℕ) → take (length rows - start) (drop start rows) ≡ drop start rows
slice_rest rows start = take_all (length rows - start) (drop start rows) (let long = length-drop start rows in omega (arith, long))

-- the group of the first of them
pub rest_group : (rows : List AckRow) (start count : ℕ) → IsGroup (take count (take (length rows - start) (drop start rows))) (drop count (take (length rows - start) (drop start rows)))
    → IsGroup (take count (drop start rows)) (drop count (drop start rows))
rest_group rows start count group = subst (λ (rs : List AckRow). IsGroup (take count rs) (drop count rs)) (slice_rest rows start) group

pub rest_within : (rows : List AckRow) (start count : ℕ) → start ≤ length rows → count ≤ length (take (length rows - start) (drop start rows)) → start + count ≤ length rows
rest_within rows start count inside within =
    let low : count ≤ length (drop start rows) = subst (λ (rs : List AckRow). count ≤ length rs) (slice_rest rows start) within in
    let long = length-drop start rows in
    omega (arith, inside, low, long)
