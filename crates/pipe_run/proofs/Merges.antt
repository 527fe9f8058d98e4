-- From what the sources of a merge were read to, to what the journal says of the sources that were opened.
use Rattle.std.proofs.Common.{◌≡◌, ◌<◌, ◌+◌, ℕ, suc, List, [], ◌∷◌, ◌++◌, length, true, false, refl, ap, sym, ◌∙◌, subst, arith, Option, Some, None}
use Rattle.std.specs.Prelude.{IsTrue, IfSome, IsSomeAnd, ◌⊎◌, All, map, slice_get, option_map}
use Rattle.std.specs.List.{sum_by}
use Rattle.std.proofs.lemmas.List.{append_assoc, append-nil}
use Rattle.std.proofs.lemmas.List.Elements.{All-nil, All-cons, All-head, All-tail}
use Rattle.std.proofs.lemmas.List.Sums.{sum_by-cons}
use Rattle.std.proofs.lemmas.Option.{slice_get-map}
use Rattle.pipe_types.specs.Counts.{Rose}
use Rattle.pipe_types.specs.Numbers.{stage, post, same_stage}
use Rattle.pipe_types.specs.declared.numbers.StageNo.{StageNo}
use Rattle.pipe_types.specs.declared.step.SourceHow.{SourceHow}
use Rattle.pipe_types.specs.declared.step.SourceHow.TheVariants as how
use Rattle.pipe_types.specs.declared.topology.Topology.{Topology}
use Rattle.pipe_model.specs.History.{History}
use Rattle.pipe_model.specs.Legal.{is_legal, has_role, is_producer_role}
use Rattle.pipe_model.specs.Outside.{fed, source_end}
use Rattle.pipe_model.specs.Posts.{is_out}
use Rattle.pipe_laws.specs.Read.{quiets}
use Rattle.pipe_edges.specs.Paces.{unpaced}
use Rattle.pipe_edges.specs.declared.reading.LineEnd.TheVariants as end
use Rattle.source_lines.specs.Cut.{AreFirstLines, AreAllLines, AreLinesBeforeLong}
use Rattle.line_merge.specs.Items.{lines_from}
use Rattle.line_merge.specs.Seen.{IsMergeEnd, AreUnpaced}
use Rattle.line_merge.proofs.Merging.{lines_more}
use Rattle.stage_job.specs.Chunks.{RoseBy}
use Rattle.stage_bodies.specs.Reads.{AreReadFrom, AreMergedFrom}
use Rattle.stage_bodies.specs.Seen.{SourceSeen, LineSeen, MergeSeen, Merged, sources_in, waits_together}
use Rattle.stage_bodies.specs.Jobs.{Both}
use Rattle.body_laws.specs.Keeps.{KeepsMerge}
use Rattle.edge_names.specs.Seen.{EdgesSeen}
use Rattle.edge_names.specs.Named.{GivesSource}
use Rattle.edge_names.specs.Opened.{GivesMerge}
use Rattle.run_pipe.proofs.Obeying.{first_lines, before_long}
use Rattle.pipe_run.specs.Outside.{HasItsBytes, IsMergeRead, ReadsMerge}
use Rattle.pipe_run.proofs.Sources.{all_bytes, known_end, known_fault, known_long, none_lost}

-- ---- records that are in the journal, and those that were lost

record IsCutAt (records lost : List (List ℕ)) (given : List (ℕ × List ℕ)) : Type 0 where
  pub order : List (ℕ × List ℕ)
  pub more : List (ℕ × List ℕ)
  pub parts : given ≡ order ++ more
  pub recorded : map (λ d. d.1) order ≡ records
  pub others : map (λ d. d.1) more ≡ lost

abbrev tail_of : List (List ℕ) → List (List ℕ)
tail_of [] = []
tail_of (r ∷ rs) = rs

abbrev head_of : List (List ℕ) → List ℕ
head_of [] = []
head_of (r ∷ rs) = r

cut_at : (records lost : List (List ℕ)) (given : List (ℕ × List ℕ)) → map (λ d. d.1) given ≡ records ++ lost → IsCutAt records lost given
cut_at [] lost given e = record { order = []; more = given; parts = refl; recorded = refl; others = e }
cut_at (r ∷ records) lost [] e = cc
cut_at (r ∷ records) lost (d ∷ given) e =
    let c = cut_at records lost given (ap tail_of e) in
    let first : d.1 ≡ r = ap head_of e in
    record {
      order = d ∷ c.order;
      more = c.more;
      parts = ap (λ ds. d ∷ ds) c.parts;
      recorded = ap (λ x. x ∷ map (λ (y : ℕ × List ℕ). y.1) c.order) first ∙ ap (λ rs. r ∷ rs) c.recorded;
      others = c.others;
    }

none_more : (more : List (ℕ × List ℕ)) → map (λ d. d.1) more ≡ [] → more ≡ []
none_more [] e = refl
none_more (d ∷ more) e = cc

-- ---- lists of sources

same_length : {A B : Type 0} (R : ℕ → A → B → Type 0) (xs : List A) (ys : List B) → ((k : ℕ) → Both (R k) (slice_get xs k) (slice_get ys k)) → length xs ≡ length ys
same_length R [] [] each = refl
same_length R [] (y ∷ ys) each = absurd (each 0)
same_length R (x ∷ xs) [] each = absurd (each 0)
same_length R (x ∷ xs) (y ∷ ys) each = ap suc (same_length (λ k. R (suc k)) xs ys (λ k. each (suc k)))

length_seen : (streams : List LineSeen) → length (map (λ (lines : LineSeen). lines.source) streams) ≡ length streams
length_seen [] = refl
length_seen (lines ∷ streams) = ap suc (length_seen streams)

front_all : {A : Type 0} (P : A → Type 0) (xs ys : List A) → All P (xs ++ ys) → All P xs
front_all P [] ys each = All-nil P
front_all P (x ∷ xs) ys each = All-cons P x xs (All-head P x (xs ++ ys) each) (front_all P xs ys (All-tail P x (xs ++ ys) each))

waits_seen : (streams : List LineSeen) → sum_by (λ (lines : LineSeen). lines.source.waits) streams ≡ sum_by (λ (s : SourceSeen). s.waits) (map (λ (lines : LineSeen). lines.source) streams)
waits_seen [] = refl
waits_seen (lines ∷ streams) =
    sum_by-cons (λ (l : LineSeen). l.source.waits) lines streams
    ∙ ap (λ n. lines.source.waits + n) (waits_seen streams)
    ∙ sym (sum_by-cons (λ (s : SourceSeen). s.waits) lines.source (map (λ (l : LineSeen). l.source) streams))

no_waits : (edges : EdgesSeen) (names : List (List ℕ)) (sources : List SourceSeen) → ((k : ℕ) → Both (GivesSource edges) (slice_get names k) (slice_get sources k)) → sum_by (λ (s : SourceSeen). s.waits) sources ≡ 0
no_waits edges names [] each = refl
no_waits edges [] (s ∷ sources) each = absurd (each 0)
no_waits edges (name ∷ names) (s ∷ sources) each =
    let first = (each 0).no_wait in
    let rest = no_waits edges names sources (λ k. each (suc k)) in
    omega (arith, sum_by-cons (λ (x : SourceSeen). x.waits) s sources, first, rest)

-- ---- one source of a merge

abbrev source_of : LineSeen → SourceSeen
source_of lines = lines.source

first_at : (edges : EdgesSeen) (k : ℕ) (order more : List (ℕ × List ℕ)) (x : Option (List ℕ)) (y : Option SourceSeen) (z : Option LineSeen)
    → Both (GivesSource edges) x y → Both (λ o lines. AreReadFrom o lines (lines_from k (order ++ more))) y z
    → IfSome (option_map source_of z) (λ s. IsTrue s.told → AreFirstLines (s.taken ++ s.left) (lines_from k order))
first_at edges k order more (Some name) (Some o) (Some lines) gives read = λ t.
    let told : IsTrue o.told = subst (λ b. b ≡ true) read.same_telling t in
    let first = first_lines lines.end o lines (lines_from k (order ++ more)) refl read told in
    subst (λ bytes. AreFirstLines bytes (lines_from k order)) (sym (all_bytes o lines (lines_from k (order ++ more)) gives.nothing_taken read told)) (record {
      others = lines_from k more ++ first.others;
      parts = first.parts ∙ ap (λ rs. rs ++ first.others) (lines_more k order more) ∙ append_assoc (lines_from k order) (lines_from k more) first.others;
    })
first_at edges k order more (Some name) (Some o) None gives read = absurd read
first_at edges k order more None None None gives read = tt
first_at edges k order more None None (Some lines) gives read = absurd read
first_at edges k order more (Some name) None z gives read = absurd gives
first_at edges k order more None (Some o) z gives read = absurd gives

all_at : (edges : EdgesSeen) (k : ℕ) (order : List (ℕ × List ℕ)) (x : Option (List ℕ)) (y : Option SourceSeen) (z : Option LineSeen)
    → Both (GivesSource edges) x y → Both (λ o lines. AreReadFrom o lines (lines_from k order)) y z → IfSome z (λ lines. lines.end ≡ Some end.End)
    → IfSome (option_map source_of z) (λ s. IsTrue s.told → AreAllLines (s.taken ++ s.left) (lines_from k order))
all_at edges k order (Some name) (Some o) (Some lines) gives read ended = λ t.
    let told : IsTrue o.told = subst (λ b. b ≡ true) read.same_telling t in
    subst (λ bytes. AreAllLines bytes (lines_from k order)) (sym (all_bytes o lines (lines_from k order) gives.nothing_taken read told)) (read.at_end told ended)
all_at edges k order (Some name) (Some o) None gives read ended = absurd read
all_at edges k order None None None gives read ended = tt
all_at edges k order None None (Some lines) gives read ended = absurd read
all_at edges k order (Some name) None z gives read ended = absurd gives
all_at edges k order None (Some o) z gives read ended = absurd gives

long_at : (edges : EdgesSeen) (k : ℕ) (order : List (ℕ × List ℕ)) (x : Option (List ℕ)) (y : Option SourceSeen) (z : Option LineSeen)
    → Both (GivesSource edges) x y → Both (λ o lines. AreReadFrom o lines (lines_from k order)) y z → IsSomeAnd z (λ lines. lines.end ≡ Some end.TooLong)
    → IsSomeAnd (option_map source_of z) (λ s. IsTrue s.told → AreLinesBeforeLong (s.taken ++ s.left) (lines_from k order))
long_at edges k order (Some name) (Some o) (Some lines) gives read ended = λ t.
    let told : IsTrue o.told = subst (λ b. b ≡ true) read.same_telling t in
    subst (λ bytes. AreLinesBeforeLong bytes (lines_from k order)) (sym (all_bytes o lines (lines_from k order) gives.nothing_taken read told)) (before_long o lines (lines_from k order) ended read told)
long_at edges k order x y None gives read ended = absurd ended
long_at edges k order (Some name) None (Some lines) gives read ended = absurd gives
long_at edges k order None (Some o) (Some lines) gives read ended = absurd gives
long_at edges k order None None (Some lines) gives read ended = absurd read

fault_at : (edges : EdgesSeen) (k : ℕ) (given : List (ℕ × List ℕ)) (x : Option (List ℕ)) (y : Option SourceSeen) (z : Option LineSeen)
    → Both (GivesSource edges) x y → Both (λ o lines. AreReadFrom o lines (lines_from k given)) y z → IsSomeAnd z (λ lines. lines.end ≡ Some end.Fault)
    → IsSomeAnd (option_map source_of z) (λ s. Rose 0 s.faults)
fault_at edges k given (Some name) (Some o) (Some lines) gives read ended = subst (λ n. Rose n lines.source.faults) gives.no_fault (read.at_fault ended)
fault_at edges k given x y None gives read ended = absurd ended
fault_at edges k given (Some name) None (Some lines) gives read ended = absurd gives
fault_at edges k given None (Some o) (Some lines) gives read ended = absurd gives
fault_at edges k given None None (Some lines) gives read ended = absurd read

bytes_at : (edges : EdgesSeen) (k : ℕ) (given : List (ℕ × List ℕ)) (x : Option (List ℕ)) (y : Option SourceSeen) (z : Option LineSeen)
    → Both (GivesSource edges) x y → Both (λ o lines. AreReadFrom o lines (lines_from k given)) y z → Both HasItsBytes y (option_map source_of z)
bytes_at edges k given (Some name) (Some o) (Some lines) gives read = record {
  same_telling = read.same_telling;
  same_bytes = λ t. all_bytes o lines (lines_from k given) gives.nothing_taken read t;
}
bytes_at edges k given (Some name) (Some o) None gives read = absurd read
bytes_at edges k given None None None gives read = tt
bytes_at edges k given None None (Some lines) gives read = absurd read
bytes_at edges k given (Some name) None z gives read = absurd gives
bytes_at edges k given None (Some o) z gives read = absurd gives

pace_at : (z : Option LineSeen) → IfSome z (λ lines. lines.source.paced ≡ unpaced) → IfSome (option_map source_of z) (λ s. s.paced ≡ unpaced)
pace_at None none = tt
pace_at (Some lines) none = none

-- ---- a merge

reads_merge : (topology : Topology) (before : History) (s : StageNo) (lost : List (List ℕ)) (edges : EdgesSeen) (names : List (List ℕ)) (opened now : MergeSeen) → is_legal topology before ≡ true → has_role topology s is_producer_role ≡ true → same_stage s (stage 0) ≡ false
    → (lost ≡ []) ⊎ (is_out before (post s 0) ≡ true) → GivesMerge edges names opened → KeepsMerge before s lost opened now → ReadsMerge before s (sources_in (Merged now))
reads_merge topology before s lost edges names opened now legal role own in_fetch gives k =
    let sources = sources_in (Merged opened) in
    let c = cut_at (fed before s) lost k.given k.records in
    let seen = λ (n : ℕ). slice_get-map source_of now.streams n in
    let read : AreMergedFrom sources now (c.order ++ c.more) = subst (AreMergedFrom sources now) c.parts k.read in
    let at_end = λ (h : SourceHow) (ended : source_end before s ≡ Some h).
    subst (AreMergedFrom sources now) (ap (λ more. c.order ++ more) (none_more c.more (c.others ∙ none_lost topology before s lost h legal role own in_fetch ended)) ∙ append-nil c.order) read in
    let length_is : length sources ≡ length (sources_in (Merged now)) = same_length (λ n o lines. AreReadFrom o lines (lines_from n (c.order ++ c.more))) sources now.streams read.each ∙ sym (length_seen now.streams) in
    let quiet_from : waits_together opened ≡ 0 = waits_seen opened.streams ∙ no_waits edges names sources gives.given in
    record {
      order = c.order;
      records = c.recorded;
      placed = subst (λ n. All (λ (d : ℕ × List ℕ). d.0 < n) c.order) length_is (front_all (λ (d : ℕ × List ℕ). d.0 < length sources) c.order c.more read.placed);
      in_order = λ n. rw (seen n) (first_at edges n c.order c.more (slice_get names n) (slice_get sources n) (slice_get now.streams n) (gives.given n) (read.each n));
      whole = λ e n.
          let all = at_end how.End e in
          let known : IsMergeEnd now.streams (Some end.End) = subst (IsMergeEnd now.streams) (known_end (source_end before s) now.end k.known e) all.known in
          rw (seen n) (all_at edges n c.order (slice_get names n) (slice_get sources n) (slice_get now.streams n) (gives.given n) (all.each n) (known n));
      too_long = λ e.
          let all = at_end how.TooLong e in
          let known : IsMergeEnd now.streams (Some end.TooLong) = subst (IsMergeEnd now.streams) (known_long (source_end before s) now.end k.known e) all.known in
          (known.0, rw (seen known.0) (long_at edges known.0 c.order (slice_get names known.0) (slice_get sources known.0) (slice_get now.streams known.0) (gives.given known.0) (all.each known.0) known.1));
      fault = λ e.
          let known : IsMergeEnd now.streams (Some end.Fault) = subst (IsMergeEnd now.streams) (known_fault (source_end before s) now.end k.known e) read.known in
          (known.0, rw (seen known.0) (fault_at edges known.0 (c.order ++ c.more) (slice_get names known.0) (slice_get sources known.0) (slice_get now.streams known.0) (gives.given known.0) (read.each known.0) known.1));
      quiet = subst (λ n. RoseBy (quiets before s) 0 n) (waits_seen now.streams) (subst (λ n. RoseBy (quiets before s) n (waits_together now)) quiet_from k.quiet);
    }

pub merge_read : (topology : Topology) (before : History) (s : StageNo) (lost : List (List ℕ)) (edges : EdgesSeen) (names : List (List ℕ)) (opened now : MergeSeen) → is_legal topology before ≡ true → has_role topology s is_producer_role ≡ true → same_stage s (stage 0) ≡ false
    → (lost ≡ []) ⊎ (is_out before (post s 0) ≡ true) → GivesMerge edges names opened → KeepsMerge before s lost opened now → IsMergeRead edges before s names (sources_in (Merged now))
merge_read topology before s lost edges names opened now legal role own in_fetch gives k = record {
  opened = sources_in (Merged opened);
  given = gives.given;
  same = λ n.
      rw (slice_get-map source_of now.streams n)
      (bytes_at edges n k.given (slice_get names n) (slice_get (sources_in (Merged opened)) n) (slice_get now.streams n) (gives.given n) (k.read.each n));
  reads = reads_merge topology before s lost edges names opened now legal role own in_fetch gives k;
}

-- none of its sources has a gate
pub merge_unpaced : (now : MergeSeen) → AreUnpaced now → (k : ℕ) → IfSome (slice_get (sources_in (Merged now)) k) (λ s. s.paced ≡ unpaced)
merge_unpaced now none k = rw (slice_get-map source_of now.streams k) (pace_at (slice_get now.streams k) (none k))
