-- Where nothing failed, the run came to its end.
use Rattle.std.proofs.Common.{◌≡◌, ◌≢◌, ◌<◌, ◌^◌, ℕ, zero, suc, List, [], ◌∷◌, ◌++◌, length, Bool, true, false, refl, ap, sym, ◌∙◌, subst, inl, inr, Option, Some, None, arith}
use Rattle.std.specs.Prelude.{◌⊎◌, ◌&&◌, ◌||◌, All, IsTrue, IfSome, IsSomeAnd, is_some, is_none, find, nat_le, if◌then◌else◌, take, drop, slice_get, option_map}
use Rattle.std.specs.List.{list_any}
use Rattle.std.proofs.lemmas.List.{append_assoc, take_all}
use Rattle.std.proofs.lemmas.List.Elements.{All-nil, All-cons, All-head, All-tail}
use Rattle.pipe_types.specs.Counts.{Rose}
use Rattle.pipe_types.specs.Lines.{lines}
use Rattle.pipe_types.specs.Numbers.{stage, post, same_stage}
use Rattle.pipe_types.specs.Sound.{IsSound, processors, by_demand, by_partition, is_size, is_producer_in}
use Rattle.pipe_types.specs.Stages.{spec_of, spec_in}
use Rattle.pipe_types.specs.declared.numbers.StageNo.{StageNo}
use Rattle.pipe_types.specs.declared.step.SourceHow.{SourceHow}
use Rattle.pipe_types.specs.declared.step.SourceHow.TheVariants as how
use Rattle.pipe_types.specs.declared.topology.Role.TheVariants.{Producer}
use Rattle.pipe_types.specs.declared.topology.StageSpec.{StageSpec}
use Rattle.pipe_types.specs.declared.topology.Topology.{Topology}
use Rattle.pipe_model.specs.History.{History}
use Rattle.pipe_model.specs.Legal.{happened, is_drain, is_halt, has_role, is_producer_role}
use Rattle.pipe_model.specs.Outside.{fed, source_end}
use Rattle.pipe_edges.specs.Paces.{Pace}
use Rattle.pipe_edges.specs.declared.edges.EdgeKind.{EdgeKind}
use Rattle.journal_texts.specs.Acks.{ack_text}
use Rattle.journal_texts.specs.Report.{places, is_fault, is_lost, is_failed, is_source_fault, status_of}
use Rattle.source_lines.specs.Cut.{AreLinesBeforeLong, HasShortLines}
use Rattle.line_merge.specs.Items.{lines_from}
use Rattle.pipe_laws.specs.Read.{HasNoControl}
use Rattle.stage_bodies.specs.Seen.{SourceSeen, SourcesSeen, OneSource, ManySources, sources_out, SinkSeen, LineSeen, BodySeen}
use Rattle.stage_bodies.specs.Jobs.{Both}
use Rattle.stage_bodies.specs.Posts.{place_at}
use Rattle.stage_laws.proofs.Groups.{fields_of}
use Rattle.body_laws.specs.Ready.{There}
use Rattle.body_laws.proofs.Posts.{some_role}
use Rattle.pipe_laws.proofs.Tests.{and_left, and_right, clash, same_stage-true}
use Rattle.edge_names.specs.Seen.{EdgesSeen}
use Rattle.edge_names.specs.Opened.{supplied_in}
use Rattle.edge_names.specs.Gates.{AreInner, IsInner, pace_of_stage}
use Rattle.edge_names.specs.Supplies.{Feeds, Feed, Opened, Merged, Made, Fed, at_paces, by_name, fed as supplied_feed, feed_by, feed_of_names, feed_of_text, given_back, names_of, supplied, supplied_by, under_names}
use Rattle.edge_names.specs.Named.{GivesSource}
use Rattle.edge_names.specs.Controls.{named_control, first_sinks, first_sources}
use Rattle.edge_names.specs.Returned.{feed_in, named_source, sources_of}
use Rattle.pipe_run.specs.Outside.{HasControl, HasItsBytes, IsFedRead, IsOutside, IsOutsideWith, ReadsMerge, ReadsSource}
use Rattle.pipe_run.specs.Whole.{HasCome}
use Rattle.run_verdicts.specs.Verdicts.{status_in}
use Rattle.pipe_top.specs.Runs.{OutsideSeen, IsRun, HasUsed, IsWellFed, IsWellFedIn, IsOutsideOf, IsFaultless, AreFaultless, IsReadWhole, IsComplete, IsCompleteIn, is_limit_drain, is_control_drain, is_idle_drain}
use Rattle.pipe_top.specs.Cases.{Feeding, Named, Filed, MadeFrom, feeds_of, Case, NoCommand, NoTopology as BadTopology, TooFew, Checks, Upgrades, Audits, Rejects, Runs}
use Rattle.pipe_top.specs.Flows.{IsFew, Outcome, ShowsUnfed}
use Rattle.run_verdicts.specs.declared.verdict.Refusal.TheVariants.{Memory}
use Rattle.run_verdicts.specs.declared.verdict.Texts.{Texts}
use Rattle.run_verdicts.specs.declared.verdict.Verdict.{Verdict}
use Rattle.run_verdicts.specs.declared.verdict.Verdict.TheVariants.{Refused}
use Rattle.pipe_top.proofs.Drains.{HasCause, limited, ended, controlled, rested, drain_shows}
use Rattle.pipe_top.proofs.Ends.{ControlEndsBadly, EndsBadly, ends_limited, ended_as, faults_show, never_limited, producer_inner}
use Rattle.pipe_top.proofs.Longs.{not_long}
use Rattle.pipe_top.proofs.Outcomes.{Fails, IsDone, IsUnfedWith, early, is_reported, Reported, ran}
use Rattle.pipe_top.proofs.Shares.{middle_of, producer_is, share_read}
use Rattle.pipe_top.proofs.Statuses.{gravest_small, clean_status}

-- ---- the sources of a whole run

-- the source of the producer is faultless, and was read as the journal says; or so are those of its merge
pub data IsWellRead (before : History) (p : StageNo) : Type 0 where
  one_read : (source : SourceSeen) → ReadsSource before p source → IsFaultless source → IsWellRead before p
  all_read : (sources : List SourceSeen) → ReadsMerge before p sources → ((k : ℕ) → IfSome (slice_get sources k) IsFaultless) → IsWellRead before p

abbrev pub AreWellRead : Topology → History → Type 0
AreWellRead topology before = (p : StageNo) → has_role topology p is_producer_role ≡ true → IsWellRead before p

All-front : {A : Type 0} (P : A → Type 0) (xs ys : List A) → All P (xs ++ ys) → All P xs
All-front P [] ys each = All-nil P
All-front P (x ∷ xs) ys each = All-cons P x xs (All-head P x (xs ++ ys) each) (All-front P xs ys (All-tail P x (xs ++ ys) each))

All-back : {A : Type 0} (P : A → Type 0) (xs ys : List A) → All P (xs ++ ys) → All P ys
All-back P [] ys each = each
All-back P (x ∷ xs) ys each = All-back P xs ys (All-tail P x (xs ++ ys) each)

-- what holds of all that was given back holds of the source of each stage
given_of : (feeds : Feeds) (P : List ℕ × SourceSeen → Type 0) (bodies : ℕ → Option BodySeen) (s : StageNo) (spec : StageSpec) (stages : List StageSpec) → spec_in stages s ≡ Some spec → All P (sources_of feeds stages bodies)
    → All P (named_source (supplied feeds spec) (bodies (place_at (post s 0))))
given_of feeds P bodies s spec [] found each = cc
given_of feeds P bodies s spec (x ∷ stages) found each =
    either (same_stage x.no s) refl found (All-front P (named_source (supplied feeds x) (bodies (place_at (post x.no 0)))) (sources_of feeds stages bodies) each)
    (λ is. given_of feeds P bodies s spec stages is (All-back P (named_source (supplied feeds x) (bodies (place_at (post x.no 0)))) (sources_of feeds stages bodies) each))
  where
    either : (b : Bool) → same_stage x.no s ≡ b → (if b then Some x else find (λ y. same_stage y.no s) stages) ≡ Some spec
        → All P (named_source (supplied feeds x) (bodies (place_at (post x.no 0))))
        → (find (λ y. same_stage y.no s) stages ≡ Some spec → All P (named_source (supplied feeds spec) (bodies (place_at (post s 0)))))
        → All P (named_source (supplied feeds spec) (bodies (place_at (post s 0))))
    either true e is first rest =
        let same : x ≡ spec = cc in
        let at : x.no ≡ s = same_stage-true x.no s e in
        subst (λ y. All P (named_source (supplied feeds y) (bodies (place_at (post s 0))))) same (subst (λ t. All P (named_source (supplied feeds x) (bodies (place_at (post t 0))))) at first)
    either false e is first rest = rest is

-- a producer has a source
has_edge : (topology : Topology) (p : StageNo) (spec : StageSpec) → IsSound topology → spec_of topology p ≡ Some spec → spec.role ≡ Producer → is_some spec.edge ≡ true
has_edge topology p spec sound found producer =
    let fields : is_producer_in topology.stages spec ≡ true = fields_of topology p spec Producer sound found producer in
    and_right (is_size spec.size) _ (and_right (by_demand spec spec.dispatch || (by_partition (length (processors topology.stages)) spec spec.dispatch && nat_le spec.field 255)) _ (and_left ((by_demand spec spec.dispatch || (by_partition (length (processors topology.stages)) spec spec.dispatch && nat_le spec.field 255)) && (is_size spec.size && is_some spec.edge)) _ fields))

-- ---- by what it opens

abbrev is_made : Feed → Bool
is_made (Made bytes) = true
is_made (Opened name) = false
is_made (Merged names) = false

names_made : (names : Option (List ℕ)) (text : List ℕ) → is_made (feed_of_names names text) ≡ false
names_made (Some names) text = refl
names_made None text = refl

-- what a text names is not made
text_made : (splits : Bool) (text : List ℕ) → is_made (feed_of_text splits text) ≡ false
text_made splits text = names_made (names_of splits text) text

-- a source that was given back is faultless
abbrev IsFine : List ℕ × SourceSeen → Type 0
IsFine given = IsFaultless given.1

-- each source of a merge was given back under its name
fine_under : (names : List (List ℕ)) (sources : List SourceSeen) → ((k : ℕ) → Both (λ name source. Unit {0}) (slice_get names k) (slice_get sources k)) → All IsFine (under_names names sources)
    → (k : ℕ) → IfSome (slice_get sources k) IsFaultless
fine_under names [] paired each k = tt
fine_under [] (s ∷ sources) paired each k = absurd (paired 0)
fine_under (n ∷ names) (s ∷ sources) paired each zero = All-head IsFine (n, s) (under_names names sources) each
fine_under (n ∷ names) (s ∷ sources) paired each (suc k) = fine_under names sources (λ j. paired (suc j)) (All-tail IsFine (n, s) (under_names names sources) each) k

pair_up : {A B C : Type 0} (R : A → B → Type 0) (S : B → C → Type 0) (x : Option A) (y : Option B) (z : Option C) → Both R x y → Both S y z → Both (λ a c. Unit {0}) x z
pair_up R S (Some a) (Some b) (Some c) r s = tt
pair_up R S None None None r s = tt
pair_up R S (Some a) (Some b) None r s = absurd s
pair_up R S (Some a) None z r s = absurd r
pair_up R S None (Some b) z r s = absurd r
pair_up R S None None (Some c) r s = absurd s

fed_well_read : (edges : EdgesSeen) (before : History) (p : StageNo) (pace : Option Pace) (feed : Feed) (o : Option SourcesSeen) → is_made feed ≡ false → There o (IsFedRead true edges before p pace feed)
    → All IsFine (given_back (Some feed) o) → IsWellRead before p
fed_well_read edges before p pace feed None named there each = absurd there
fed_well_read edges before p pace (Opened name) (Some (OneSource source)) named there each = one_read source there.read.reads (All-head IsFine (name, source) [] each)
fed_well_read edges before p pace (Merged names) (Some (ManySources sources)) named there each =
    all_read sources there.read.reads
    (fine_under names sources (λ k. pair_up (GivesSource edges) HasItsBytes (slice_get names k) (slice_get there.read.opened k) (slice_get sources k) (there.read.given k) (there.read.same k)) each)
fed_well_read edges before p pace (Opened name) (Some (ManySources sources)) named there each = absurd there.read
fed_well_read edges before p pace (Merged names) (Some (OneSource source)) named there each = absurd there.read
fed_well_read edges before p pace (Made bytes) (Some sources) named there each = let x : true ≡ false = named in cc

-- a source in its gate is faultless where it is without it
fine_gated : (gated inner : SourceSeen) → IsInner gated inner → IsFaultless inner → IsFaultless gated
fine_gated gated inner is fine =
    let tells : IsTrue gated.told = rw is.same_telling at fine.tells in
    record {
      no_fault = λ rose. fine.no_fault (rw is.same_faults rose);
      tells = tells;
      short = subst HasShortLines (is.same_bytes tells) fine.short;
    }

fine_all : (gated inner : List (List ℕ × SourceSeen)) → AreInner gated inner → All (λ (given : List ℕ × SourceSeen). IsFaultless given.1) inner → All (λ (given : List ℕ × SourceSeen). IsFaultless given.1) gated
fine_all [] [] are each = each
fine_all (g ∷ gated) (i ∷ inner) are each =
    All-cons (λ (given : List ℕ × SourceSeen). IsFaultless given.1) g gated
    (fine_gated g.1 i.1 are.1 (All-head (λ (given : List ℕ × SourceSeen). IsFaultless given.1) i inner each))
    (fine_all gated inner are.2 (All-tail (λ (given : List ℕ × SourceSeen). IsFaultless given.1) i inner each))
fine_all [] (i ∷ inner) are each = absurd are
fine_all (g ∷ gated) [] are each = absurd are

-- all that a whole run gave back, the control source first, is faultless as it stood in its gate
all_back : (feeds : Feeds) (topology : Topology) (before : History) (old new : EdgesSeen) → (outside : IsOutside feeds true topology before old new) → AreFaultless old new
    → All IsFine (named_control topology.control outside.control ++ sources_of feeds topology.stages outside.bodies)
all_back feeds topology before old new outside faultless =
    let stages = topology.stages in
    let front = named_control topology.control outside.control in
    let most = sources_of feeds (take (length stages) stages) outside.bodies in
    let last = take outside.more (sources_of feeds (take 1 (drop (length stages) stages)) outside.bodies) in
    let gated = fine_all (first_sources feeds outside.parts outside.more topology outside.control outside.bodies) outside.inner outside.ungated (faultless outside.inner outside.sources) in
    let each : All IsFine (front ++ (most ++ last)) = subst (λ n. All IsFine (first_sources feeds n outside.more topology outside.control outside.bodies)) (outside.all refl) gated in
    let first = All-front IsFine (front ++ most) last (subst (All IsFine) (sym (append_assoc front most last)) each) in
    subst (λ (xs : List StageSpec). All IsFine (front ++ sources_of feeds xs outside.bodies)) (take_all (length stages) stages (omega arith)) first

-- the control source did not end with a fault or with a line that is too long
abbrev IsControlFine : History → Type 0
IsControlFine before = (end : SourceHow) → source_end before (stage 0) ≡ Some end → is_fault end ≡ false

control_well_read : (topology : Topology) (before : History) (edges : EdgesSeen) (name : Option (List ℕ)) (control : Option LineSeen) → (name ≡ None → HasNoControl before)
    → HasControl topology edges before name control → All (λ (given : List ℕ × SourceSeen). IsFaultless given.1) (named_control name control) → IsControlFine before
control_well_read topology before edges (Some name) (Some now) none used each how.End is = refl
control_well_read topology before edges (Some name) (Some now) none used each how.Limit is = refl
control_well_read topology before edges (Some name) (Some now) none used each how.Fault is =
    let fine : IsFaultless now.source = All-head (λ (given : List ℕ × SourceSeen). IsFaultless given.1) (name, now.source) [] each in
    absurd (fine.no_fault (used.reads.fault is))
control_well_read topology before edges (Some name) (Some now) none used each how.TooLong is =
    let fine : IsFaultless now.source = All-head (λ (given : List ℕ × SourceSeen). IsFaultless given.1) (name, now.source) [] each in
    absurd (not_long (now.source.taken ++ now.source.left) (lines (now.source.taken ++ now.source.left)) (used.reads.too_long fine.tells is).0 fine.short)
control_well_read topology before edges None None none used each end is = let no_end = (none refl).no_end in cc
control_well_read topology before edges (Some name) None none used each end is = absurd used
control_well_read topology before edges None (Some now) none used each end is = absurd used

pub control_fine : (feeds : Feeds) (topology : Topology) (before : History) (old new : EdgesSeen) → (topology.control ≡ None → HasNoControl before) → IsOutside feeds true topology before old new → AreFaultless old new → IsControlFine before
control_fine feeds topology before old new none outside faultless =
    control_well_read topology before old topology.control outside.control none outside.obeyed
    (All-front (λ (given : List ℕ × SourceSeen). IsFaultless given.1) (named_control topology.control outside.control) (sources_of feeds topology.stages outside.bodies)
    (all_back feeds topology before old new outside faultless))

named_well_read : (splits : Bool) (topology : Topology) (before : History) (old new : EdgesSeen) → IsSound topology → IsOutside (at_paces topology (by_name splits)) true topology before old new → AreFaultless old new → AreWellRead topology before
named_well_read splits topology before old new sound outside faultless p role =
    let found = some_role topology p is_producer_role role in
    by_edge found.0 found.1 (producer_is found.0.role found.2) found.0.edge refl
  where
    feeds : Feeds
    feeds = at_paces topology (by_name splits)

    back : All IsFine (sources_of feeds topology.stages outside.bodies)
    back = All-back IsFine (named_control topology.control outside.control) (sources_of feeds topology.stages outside.bodies) (all_back feeds topology before old new outside faultless)

    by_edge : (spec : StageSpec) → spec_of topology p ≡ Some spec → spec.role ≡ Producer → (o : Option (List ℕ)) → spec.edge ≡ o → IsWellRead before p
    by_edge spec found producer None is =
        let some : is_some spec.edge ≡ true = has_edge topology p spec sound found producer in
        clash (is_some spec.edge) some (ap is_some is)
    by_edge spec found producer (Some text) is =
        let pace = pace_of_stage topology spec in
        let feed = feed_of_text splits text in
        let body = outside.bodies (place_at (post p 0)) in
        let call : supplied feeds spec ≡ Some (Fed pace feed) = ap (λ r. supplied_by r pace (feed_by splits spec.edge) spec.edge) producer ∙ ap (λ o. supplied_feed pace (feed_by splits o)) is in
        let mine : All IsFine (given_back (Some feed) (option_map sources_out (feed_in body))) =
        subst (λ what. All IsFine (named_source what body)) call (given_of feeds IsFine outside.bodies p spec topology.stages found back) in
        fed_well_read old before p pace feed (option_map sources_out (feed_in body)) (text_made splits text) (outside.used.sources p pace feed (ap (supplied_in feeds) found ∙ call)) mine

not_risen : (now : ℕ) → now ≡ 0 → Rose 0 now → ⊥
not_risen now none (inl low) = omega (arith, none, low)
not_risen now none (inr full) = omega (arith, none, full)

-- a source of generated records needs no premise
made_well_read : (seed count : ℕ) (topology : Topology) (before : History) (old new : EdgesSeen) → IsSound topology → count < 2 ^ 32 → IsOutside (feeds_of (MadeFrom seed count) topology) true topology before old new
    → AreWellRead topology before
made_well_read seed count topology before old new sound few outside p role =
    let share = share_read seed count topology before old new true sound few outside p role in
    one_read share.source share.made.reads (record {
      no_fault = not_risen share.source.faults (share.made.calm refl).0;
      tells = share.made.tells;
      short = share.short;
    })

pub well_read : (feeding : Feeding) (topology : Topology) (before : History) (old new : EdgesSeen) → IsSound topology → IsFew feeding → IsOutside (feeds_of feeding topology) true topology before old new → AreFaultless old new
    → AreWellRead topology before
well_read Named topology before old new sound few outside faultless = named_well_read false topology before old new sound outside faultless
well_read Filed topology before old new sound few outside faultless = named_well_read (is_none topology.rate) topology before old new sound outside faultless
well_read (MadeFrom seed count) topology before old new sound few outside faultless = made_well_read seed count topology before old new sound few outside

-- ---- how it ended

risen_there : (o : Option SourceSeen) → IsSomeAnd o (λ s. Rose 0 s.faults) → IfSome o IsFaultless → ⊥
risen_there None rose fine = absurd rose
risen_there (Some s) rose fine = fine.no_fault rose

long_there : (records : List (List ℕ)) (o : Option SourceSeen) → IsSomeAnd o (λ s. IsTrue s.told → AreLinesBeforeLong (s.taken ++ s.left) records) → IfSome o IsFaultless → ⊥
long_there records None long fine = absurd long
long_there records (Some s) long fine = not_long (s.taken ++ s.left) records (long fine.tells) fine.short

-- a faultless source did not end with a fault or with a line that is too long
fine_end : (before : History) (p : StageNo) (end : SourceHow) → source_end before p ≡ Some end → IsWellRead before p → is_fault end ≡ false
fine_end before p how.End is w = refl
fine_end before p how.Limit is w = refl
fine_end before p how.Fault is (one_read source reads fine) = absurd (fine.no_fault (reads.fault is))
fine_end before p how.Fault is (all_read sources reads fine) =
    let f = reads.fault is in
    absurd (risen_there (slice_get sources f.0) f.1 (fine f.0))
fine_end before p how.TooLong is (one_read source reads fine) = absurd (not_long (source.taken ++ source.left) (fed before p) (reads.too_long fine.tells is) fine.short)
fine_end before p how.TooLong is (all_read sources reads fine) =
    let f = reads.too_long is in
    absurd (long_there (lines_from f.0 reads.order) (slice_get sources f.0) f.1 (fine f.0))

-- an end that is neither bad nor at a limit is the end of the source
end_is : (before : History) (p : StageNo) (end : Option SourceHow) → source_end before p ≡ end → is_some end ≡ true → ends_limited end ≡ false → IsWellRead before p → source_end before p ≡ Some how.End
end_is before p None is some unlimited w = cc
end_is before p (Some how.End) is some unlimited w = is
end_is before p (Some how.Fault) is some unlimited w = clash (is_fault how.Fault) refl (fine_end before p how.Fault is w)
end_is before p (Some how.TooLong) is some unlimited w = clash (is_fault how.TooLong) refl (fine_end before p how.TooLong is w)
end_is before p (Some how.Limit) is some unlimited w = cc

no_fault : (topology : Topology) (before : History) → IsSound topology → IsRun topology before → AreWellRead topology before → IsControlFine before → happened is_source_fault before ≡ false
no_fault topology before sound run read fine = either (happened is_source_fault before) refl
  where
    by_end : ControlEndsBadly before ⊎ EndsBadly topology before → ⊥
    by_end (inl b) = clash (is_fault b.ended) b.bad (fine b.ended b.end)
    by_end (inr b) = clash (is_fault b.ended) b.bad (fine_end before b.at b.ended b.end (read b.at b.role))

    either : (b : Bool) → happened is_source_fault before ≡ b → happened is_source_fault before ≡ false
    either false e = e
    either true e = absurd (by_end (faults_show topology before sound run.claims.legal e))

-- a run that was reported
pub ended_whole : (topology : Topology) (before : History) (status : ℕ) → IsSound topology → IsRun topology before → HasCome topology before → status ≡ status_of topology before → AreWellRead topology before → IsControlFine before → IsComplete topology before status
ended_whole topology before status sound run end by_journal read fine = record {
  status_is = inl (rw by_journal (rw (no_fault topology before sound run read fine)
      (gravest_small (happened is_halt before) (list_any is_lost (places topology before)) (list_any is_failed (places topology before)))));
  whole = λ other. by_end end;
  clean = λ other lossless pass. by_journal ∙ clean_status topology before (no_fault topology before sound run read fine) lossless pass;
}
  where
    by_cause : HasCause topology before → IsReadWhole topology before ⊎ (IsTrue (happened is_limit_drain before) ⊎ (IsTrue (happened is_idle_drain before) ⊎ (IsTrue (happened is_control_drain before) ⊎ IsTrue (happened is_halt before))))
    by_cause (limited h) = inr (inl h)
    by_cause (ended each) = inl (λ p role.
        end_is before p (source_end before p) refl (ended_as before p ∙ each p role)
        (never_limited topology before p run.claims.legal (producer_inner topology p sound role)) (read p role))
    by_cause (controlled h) = inr (inr (inr (inl h)))
    by_cause (rested h) = inr (inr (inl h))

    by_end : HasCome topology before → IsReadWhole topology before ⊎ (IsTrue (happened is_limit_drain before) ⊎ (IsTrue (happened is_idle_drain before) ⊎ (IsTrue (happened is_control_drain before) ⊎ IsTrue (happened is_halt before))))
    by_end (inl drained) = by_cause (drain_shows topology before run.claims.legal (and_left (happened is_drain before) _ drained.0))
    by_end (inr halted) = inr (inr (inr (inr halted.0)))

-- ---- in the case of the call

-- want of memory
wanting : (topology : Topology) (before : History) (status : ℕ) → status ≡ 9 → IsComplete topology before status
wanting topology before status nine = record {
  status_is = inr nine;
  whole = λ other. absurd (other nine);
  clean = λ other lossless pass. absurd (other nine);
}

memory_or : (topology : Topology) (fails : List ℕ → Type 0) (before : History) (verdict : Verdict) (status : ℕ) → status ≡ status_in verdict → (verdict ≡ Refused Memory) ⊎ Fails fails verdict
    → ((name : List ℕ) → fails name → ⊥) → IsComplete topology before status
memory_or topology fails before verdict status is (inl memory) calm = wanting topology before status (is ∙ ap status_in memory)
memory_or topology fails before verdict status is (inr f) calm = absurd (calm f.name f.so)

-- where memory was not wanting, all was used
all_used : (feeds : Feeds) (live : Option (List ℕ)) (memory : Type 0) (says : Bool → Type 0) (topology : Topology) (before : History) (old new : OutsideSeen) → HasUsed feeds live memory says topology before old new → (memory → ⊥)
    → (middle : EdgesSeen) × IsOutside feeds true topology before old.edges middle × (new.edges.sources_back ≡ middle.sources_back)
all_used feeds live memory says topology before old new used never = by_whole used.whole used.wanting used.outside
  where
    by_whole : (b : Bool) → (b ≡ false → memory) → IsOutsideWith feeds b topology before live (ack_text topology before) used.unfed old.edges new.edges
        → (middle : EdgesSeen) × IsOutside feeds true topology before old.edges middle × (new.edges.sources_back ≡ middle.sources_back)
    by_whole true w outside = middle_of feeds true topology before live (ack_text topology before) used.unfed old.edges new.edges outside
    by_whole false w outside = absurd (never (w refl))

-- a live sink without a fault did not fail
fed_by : (feeds : Feeds) (name : List ℕ) (memory : Type 0) (says : Bool → Type 0) (topology : Topology) (before : History) (old new : OutsideSeen) → (used : HasUsed feeds (Some name) memory says topology before old new) → (memory → ⊥)
    → used.unfed ≡ true → IsWellFed (Some name) old.edges new.edges → ⊥
fed_by feeds name memory says topology before old new used never is fed = by_last used.outside.sink.last
  where
    last_sink : List (List ℕ × SinkSeen)
    last_sink = (name, used.outside.sink.sink) ∷ []

    front : List (List ℕ × SinkSeen)
    front = first_sinks feeds used.outside.outside.parts topology used.outside.outside.bodies

    by_last : (new.edges.sinks_back ≡ used.outside.middle.sinks_back ++ last_sink) ⊎ ((used.whole ≡ false) × (new.edges.sinks_back ≡ used.outside.middle.sinks_back)) → ⊥
    by_last (inl last) =
        fed front used.outside.sink.sink
        (last ∙ ap (λ (l : List (List ℕ × SinkSeen)). l ++ last_sink) used.outside.outside.sinks ∙ append_assoc old.edges.sinks_back front last_sink) (used.outside.sink.fault is)
    by_last (inr none) = never (used.wanting none.0)

fed_run : (feeds : Feeds) (live : Option (List ℕ)) (topology : Topology) (before : History) (verdict : Verdict) (texts : Texts) (old new : OutsideSeen) → HasUsed feeds live (verdict ≡ Refused Memory) (ShowsUnfed verdict) topology before old new
    → (verdict ≡ Refused Memory → ⊥) → IsUnfedWith live verdict texts → IsWellFed live old.edges new.edges → ⊥
fed_run feeds (Some name) topology before verdict texts old new used never u fed =
    fed_by feeds name (verdict ≡ Refused Memory) (ShowsUnfed verdict) topology before old new used never (subst (λ (v : Verdict). ShowsUnfed v used.unfed) u.1 used.said) fed
fed_run feeds None topology before verdict texts old new used never u fed = let x : None ≡ Some u.0 = u.2 in cc

complete_in : (case : Case) (fails : List ℕ → Type 0) (calls : List (EdgeKind × List ℕ)) (topology : Option Topology) (before : History) (verdict : Verdict) (status : ℕ) (old new : OutsideSeen)
    → status ≡ status_in verdict → ((name : List ℕ) → fails name → ⊥) → AreFaultless old.edges new.edges → IsWellFedIn case old.edges new.edges
    → Outcome case fails topology before verdict → IsOutsideOf (verdict ≡ Refused Memory) (ShowsUnfed verdict) calls topology before case old new
    → IsCompleteIn before status case
complete_in NoCommand fails calls topology before verdict status old new is calm fine fed o out = tt
complete_in (BadTopology fault) fails calls topology before verdict status old new is calm fine fed o out = tt
complete_in (TooFew shortage) fails calls topology before verdict status old new is calm fine fed o out = tt
complete_in (Checks wanted) fails calls topology before verdict status old new is calm fine fed o out = tt
complete_in (Upgrades file text wanted) fails calls topology before verdict status old new is calm fine fed o out = tt
complete_in (Audits name summary wanted) fails calls topology before verdict status old new is calm fine fed o out = tt
complete_in (Rejects name fault wanted) fails calls topology before verdict status old new is calm fine fed o out = tt
complete_in (Runs shows live feeding wanted) fails calls topology before verdict status old new is calm fine fed (inl e) out =
    memory_or wanted fails before verdict status is (early fails topology before verdict e).why calm
complete_in (Runs shows live feeding wanted) fails calls topology before verdict status old new is calm fine fed (inr r) out =
    by_run (ran verdict shows live wanted before r.comes_to)
  where
    used : HasUsed (feeds_of feeding wanted) live (verdict ≡ Refused Memory) (ShowsUnfed verdict) wanted before old new
    used = rw r.own at out

    by_which : (v : Reported shows live wanted before verdict) → IsDone wanted before verdict v.texts ⊎ IsUnfedWith live verdict v.texts → IsComplete wanted before status
    by_which v (inl d) =
        let whole = all_used (feeds_of feeding wanted) live (verdict ≡ Refused Memory) (ShowsUnfed verdict) wanted before old new used (is_reported v) in
        let still : AreFaultless old.edges whole.0 = λ back same. fine back (whole.2 ∙ same) in
        rw (is ∙ ap status_in d.1) (ended_whole wanted before d.0 r.sound r.run v.come d.2 (well_read feeding wanted before old.edges whole.0 r.sound r.few whole.1 still) (control_fine (feeds_of feeding wanted) wanted before old.edges whole.0 r.run.control whole.1 still))
    by_which v (inr u) = absurd (fed_run (feeds_of feeding wanted) live wanted before verdict v.texts old new used (is_reported v) u fed)

    by_run : Reported shows live wanted before verdict ⊎ (verdict ≡ Refused Memory) → IsComplete wanted before status
    by_run (inl v) = by_which v v.which
    by_run (inr memory) = wanting wanted before status (is ∙ ap status_in memory)

nine_complete : (case : Case) (before : History) (status : ℕ) → status ≡ 9 → IsCompleteIn before status case
nine_complete NoCommand before status is = tt
nine_complete (BadTopology fault) before status is = tt
nine_complete (TooFew shortage) before status is = tt
nine_complete (Checks wanted) before status is = tt
nine_complete (Upgrades file text wanted) before status is = tt
nine_complete (Audits name summary wanted) before status is = tt
nine_complete (Rejects name fault wanted) before status is = tt
nine_complete (Runs shows live feeding wanted) before status is = wanting wanted before status is

pub complete_by : (case : Case) (fails : List ℕ → Type 0) (calls : List (EdgeKind × List ℕ)) (topology : Option Topology) (before : History) (verdict : Verdict) (status : ℕ) (old new : OutsideSeen)
    → (status ≡ status_in verdict) ⊎ ((status ≡ 8) ⊎ (status ≡ 9)) → status ≢ 8 → ((name : List ℕ) → fails name → ⊥) → AreFaultless old.edges new.edges → IsWellFedIn case old.edges new.edges
    → Outcome case fails topology before verdict → IsOutsideOf (verdict ≡ Refused Memory) (ShowsUnfed verdict) calls topology before case old new
    → IsCompleteIn before status case
complete_by case fails calls topology before verdict status old new (inl is) written calm fine fed o out = complete_in case fails calls topology before verdict status old new is calm fine fed o out
complete_by case fails calls topology before verdict status old new (inr (inl is)) written calm fine fed o out = absurd (written is)
complete_by case fails calls topology before verdict status old new (inr (inr is)) written calm fine fed o out = nine_complete case before status is

-- where no write failed, no text was lost
pub unwritten : {out err : Type 0} → out ⊎ err → ¬ out → ¬ err → ⊥
unwritten (inl lost) out_calm err_calm = out_calm lost
unwritten (inr lost) out_calm err_calm = err_calm lost
