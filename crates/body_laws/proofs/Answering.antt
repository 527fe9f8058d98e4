-- What a job's answer makes of its body, beside what the journal says with it.
use Rattle.std.proofs.Common.{◌≡◌, ℕ, ◌^◌, ◌≤◌, ◌<◌, List, [], ◌∷◌, ◌++◌, length, take, Bool, true, false, refl, ap, sym, ◌∙◌, subst, Some, None, Option, arith, ◌+◌, map, inl, inr}
use Rattle.std.specs.Prelude.{not, ◌≢◌, ◌&&◌, nat_lt, IfSome, count_by, ◌||◌}
use Rattle.std.specs.List.{list_all}
use Rattle.std.proofs.lemmas.Bool.{eq-eqb, ltb-true}
use Rattle.std.proofs.lemmas.List.{append-nil, append_assoc, map-append}
use Rattle.pipe_types.specs.declared.numbers.StageNo.{StageNo}
use Rattle.pipe_types.specs.declared.numbers.Post.{Post}
use Rattle.pipe_types.specs.declared.message.Batch.{Batch}
use Rattle.pipe_types.specs.declared.message.Message.{Message}
use Rattle.pipe_types.specs.declared.message.Reply.{Reply}
use Rattle.pipe_types.specs.declared.message.BatchEnd.{BatchEnd}
use Rattle.pipe_types.specs.declared.step.SourceHow.{SourceHow}
use Rattle.pipe_types.specs.declared.step.SourceHow.TheVariants as how
use Rattle.pipe_types.specs.declared.step.Step.TheVariants.{Done, Wrote, ChildEnd}
use Rattle.pipe_types.specs.declared.topology.Kind.{Kind}
use Rattle.pipe_types.specs.declared.topology.Kind.TheVariants.{Steps, Lines, Own}
use Rattle.pipe_types.specs.declared.topology.StageSpec.{StageSpec}
use Rattle.pipe_types.specs.declared.topology.Topology.{Topology}
use Rattle.pipe_types.specs.Handlers.{counted, count_after_batch, batch_text}
use Rattle.pipe_types.specs.Numbers.{post, same_post}
use Rattle.pipe_types.specs.Stages.{spec_of}
use Rattle.pipe_model.specs.History.{History}
use Rattle.pipe_model.specs.Lives.{is_live}
use Rattle.pipe_model.specs.Posts.{is_out}
use Rattle.pipe_model.specs.Outside.{fed, source_end, sink_text, text_taken}
use Rattle.pipe_model.specs.Taken.{IsTaken}
use Rattle.pipe_model.specs.Work.{count, batch_of, own_text, chunk_of, child_of}
use Rattle.pipe_model.specs.Legal.{has_role, is_supervisor_role}
use Rattle.pipe_edges.specs.declared.reading.LineEnd.{LineEnd}
use Rattle.pipe_laws.proofs.Tests.{clash, same_stage-self}
use Rattle.pipe_laws.specs.Read.{quiets}
use Rattle.stage_callback.specs.Callbacks.{is_passed}
use Rattle.stage_callback.specs.Laws.{Law, RoseExactly}
use Rattle.stage_callback.proofs.Resets.{counted_on}
use Rattle.stage_job.specs.Chunks.{RoseBy}
use Rattle.stage_job.specs.Lawful.{AreLawful}
use Rattle.stage_bodies.specs.Lawful.{IsLawfulEnd}
use Rattle.stage_bodies.specs.Seen.{SourceSeen, LineSeen, MergeSeen, waits_together, FeedSeen, Single, Merged, sources_in, SinkSeen, BoxSeen}
use Rattle.stage_bodies.specs.Reads.{AreReadFrom, MergeReadsOn}
use Rattle.line_merge.specs.Seen.{AreUnpaced}
use Rattle.stage_bodies.specs.Jobs.{CutKeepsPace, KeepsBox, ReadsOn, IsFetched, IsMergeFetched, IsCutFeed, Fetches, FetchesMerge, FetchesFeed, records_of, Replies, Ends, Writes, text_by, is_bad_end, reset}
use Rattle.stage_bodies.specs.declared.job.Outcome.{Outcome as Came}
use Rattle.stage_bodies.specs.declared.job.Outcome.TheVariants as came
use Rattle.pace_laws.specs.Pacing.{IsTold, PaceGoes, PaceRests}
use Rattle.pace_laws.proofs.Fetching.{accepts, cut_of, ends, loses, rests}
use Rattle.body_laws.specs.Counts.{short_writes, calls_of, bad_of, one_more, resets_of}
use Rattle.body_laws.specs.Lawful.{has_sink, IsLawfulWrite}
use Rattle.body_laws.specs.Keeps.{IsKnownEnd, KeepsSource, KeepsMerge, KeepsFeed, KeepsSink, IsCounted, KeepsCallback}
use Rattle.body_laws.specs.Ready.{IsArmed, IsToldFeed}
use Rattle.body_laws.proofs.Posts.{same_post-self}
use Rattle.body_laws.proofs.Steps.{is_present}
use Rattle.body_laws.proofs.Rises.{rise_stays, rise_more, rise_one, rise_if, count_small, count_done, count_wrote, one_passed}

-- ---- sources

-- the waits of a source never fall
pub waits_stay : (opened : SourceSeen) (earlier records : List (List ℕ)) (b c : LineSeen) → AreReadFrom opened b earlier → ReadsOn records b c → b.source.waits ≤ c.source.waits
waits_stay opened earlier records b c read on =
    (on (record opened { waits = b.source.waits }) earlier (record {
      same_telling = read.same_telling;
      each_is_a_line = read.each_is_a_line;
      same_bytes = read.same_bytes;
      to_come = read.to_come;
      at_end = read.at_end;
      at_long = read.at_long;
      at_fault = read.at_fault;
      faults_stay = read.faults_stay;
      waits_stay = omega arith;
    })).waits_stay

-- an end that is known stays known
end_known : (ended : Option SourceHow) (old new : Option LineEnd) → IfSome old (λ e. new ≡ Some e) → IsKnownEnd ended old → IsKnownEnd ended new
end_known None old new stays known = tt
end_known (Some how.End) old new stays known = rw known at stays
end_known (Some how.Fault) old new stays known = rw known at stays
end_known (Some how.TooLong) old new stays known = rw known at stays
end_known (Some how.Limit) old new stays known = known

-- these records were read, and the journal does not have them
source_reads : (before : History) (s : StageNo) (records : List (List ℕ)) (a b c : LineSeen) → KeepsSource before s true [] a b → ReadsOn records b c → IfSome b.end (λ e. c.end ≡ Some e) → CutKeepsPace b.source.paced.pace b c → KeepsSource before s false records a c
source_reads before s records a b c k on stays cut = record {
  read = subst (λ r. AreReadFrom a.source c (r ++ records)) (append-nil (fed before s)) (on a.source (fed before s ++ []) k.read);
  known = end_known (source_end before s) b.end c.end stays k.known;
  quiet = rise_stays (quiets before s) a.source.waits b.source.waits c.source.waits k.quiet (waits_stay a.source (fed before s ++ []) records b c k.read on);
  paced = loses a.source.paced.pace before s a.source b c refl cut k.paced;
}

-- a later journal has them
source_accepts : (before after : History) (s : StageNo) (most : ℕ) (records : List (List ℕ)) (a b c : LineSeen) → fed after s ≡ fed before s ++ records → source_end after s ≡ source_end before s → quiets after s ≡ quiets before s
    → PaceGoes before after s records → IsTold before s b → KeepsSource before s true [] a b → Fetches most (came.Records records) b c → KeepsSource after s true [] a c
source_accepts before after s most records a b c same_fed same_end same_quiets goes told k fetched =
    let on = source_reads before s records a b c k fetched.reads fetched.end_stays (cut_of b.source.paced.pace (came.Records records) b c fetched.paced) in
    record {
      read = rw same_fed (subst (λ r. AreReadFrom a.source c r) (sym (append-nil (fed before s ++ records))) on.read);
      known = rw same_end on.known;
      quiet = rw same_quiets on.quiet;
      paced = accepts a.source.paced.pace before after s most records a.source b c refl goes told fetched k.paced;
    }

-- it has one more quiet
source_rests : (before after : History) (s : StageNo) (most : ℕ) (a b c : LineSeen) → fed after s ≡ fed before s → source_end after s ≡ source_end before s → quiets after s ≡ quiets before s + 1
    → PaceRests before after s → IsTold before s b → KeepsSource before s true [] a b → Fetches most came.NotYet b c → KeepsSource after s true [] a c
source_rests before after s most a b c same_fed same_end same_quiets goes told k fetched =
    let on = source_reads before s [] a b c k fetched.reads fetched.end_stays (cut_of b.source.paced.pace came.NotYet b c fetched.paced) in
    record {
      read = rw same_fed on.read;
      known = rw same_end on.known;
      quiet = rw same_quiets (rise_one (quiets before s) a.source.waits b.source.waits c.source.waits k.quiet fetched.answer.0 (waits_stay a.source (fed before s ++ []) [] b c k.read fetched.reads));
      paced = rests a.source.paced.pace before after s most a.source b c refl goes told fetched k.paced;
    }

-- it has the end
source_ends : (before after : History) (s : StageNo) (most : ℕ) (h : SourceHow) (a b c : LineSeen) → fed after s ≡ fed before s → source_end after s ≡ Some h → quiets after s ≡ quiets before s
    → PaceGoes before after s [] → IsTold before s b → KeepsSource before s true [] a b → Fetches most (came.Ended h) b c → KeepsSource after s true [] a c
source_ends before after s most h a b c same_fed same_end same_quiets goes told k fetched =
    let on = source_reads before s [] a b c k fetched.reads fetched.end_stays (cut_of b.source.paced.pace (came.Ended h) b c fetched.paced) in
    record {
      read = rw same_fed on.read;
      known = rw same_end (by_how h fetched.answer);
      quiet = rw same_quiets on.quiet;
      paced = ends a.source.paced.pace before after s most h a.source b c refl goes told fetched k.paced;
    }
  where
    by_how : (h : SourceHow) → IsFetched most b.source.waits c.source.waits c.waiting c.end (came.Ended h) → IsKnownEnd (Some h) c.end
    by_how how.End known = known
    by_how how.Fault known = known
    by_how how.TooLong known = known
    by_how how.Limit known = known

-- ---- merges

-- these records were read, and the journal does not have them
merge_reads : (before : History) (s : StageNo) (records : List (List ℕ)) (a b c : MergeSeen) → KeepsMerge before s [] a b → MergeReadsOn records b c → IfSome b.end (λ e. c.end ≡ Some e) → waits_together b ≤ waits_together c → (AreUnpaced b → AreUnpaced c) → KeepsMerge before s records a c
merge_reads before s records a b c k on stays rises unpaced =
    let more = on (sources_in (Merged a)) k.given k.read in
    record {
      given = k.given ++ more.0;
      records =
          map-append (λ d. d.1) k.given more.0
          ∙ ap (λ x. x ++ map (λ d. d.1) more.0) k.records
          ∙ ap (λ x. (fed before s ++ []) ++ x) more.1
          ∙ ap (λ x. x ++ records) (append-nil (fed before s));
      read = more.2;
      known = end_known (source_end before s) b.end c.end stays k.known;
      quiet = rise_stays (quiets before s) (waits_together a) (waits_together b) (waits_together c) k.quiet rises;
      unpaced = unpaced k.unpaced;
    }

merge_accepts : (before after : History) (s : StageNo) (records : List (List ℕ)) (a b c : MergeSeen) → fed after s ≡ fed before s ++ records → source_end after s ≡ source_end before s → quiets after s ≡ quiets before s
    → KeepsMerge before s [] a b → FetchesMerge (came.Records records) b c → KeepsMerge after s [] a c
merge_accepts before after s records a b c same_fed same_end same_quiets k f =
    let on = merge_reads before s records a b c k f.reads f.end_stays f.waits_stay f.unpaced in
    record {
      given = on.given;
      records = on.records ∙ sym (append-nil (fed before s ++ records)) ∙ ap (λ x. x ++ []) (sym same_fed);
      read = on.read;
      known = rw same_end on.known;
      quiet = rw same_quiets on.quiet;
      unpaced = on.unpaced;
    }

rise_again : (times a b c : ℕ) → RoseBy times a b → RoseBy 1 b c → b ≤ c → RoseBy (times + 1) a c
rise_again times a b c (inl before) (inl now) le = inl (omega (arith, before, now))
rise_again times a b c (inr full) now le = inr (omega (arith, full, le))
rise_again times a b c (inl before) (inr full) le = inr full

merge_rests : (before after : History) (s : StageNo) (a b c : MergeSeen) → fed after s ≡ fed before s → source_end after s ≡ source_end before s → quiets after s ≡ quiets before s + 1
    → KeepsMerge before s [] a b → FetchesMerge came.NotYet b c → KeepsMerge after s [] a c
merge_rests before after s a b c same_fed same_end same_quiets k f =
    let on = merge_reads before s [] a b c k f.reads f.end_stays f.waits_stay f.unpaced in
    record {
      given = on.given;
      records = rw same_fed on.records;
      read = on.read;
      known = rw same_end on.known;
      quiet = rw same_quiets (rise_again (quiets before s) (waits_together a) (waits_together b) (waits_together c) k.quiet f.answer.0 f.waits_stay);
      unpaced = on.unpaced;
    }

merge_ends : (before after : History) (s : StageNo) (h : SourceHow) (a b c : MergeSeen) → fed after s ≡ fed before s → source_end after s ≡ Some h → quiets after s ≡ quiets before s
    → KeepsMerge before s [] a b → FetchesMerge (came.Ended h) b c → KeepsMerge after s [] a c
merge_ends before after s h a b c same_fed same_end same_quiets k f =
    let on = merge_reads before s [] a b c k f.reads f.end_stays f.waits_stay f.unpaced in
    record {
      given = on.given;
      records = rw same_fed on.records;
      read = on.read;
      known = rw same_end (by_how h f.answer);
      quiet = rw same_quiets on.quiet;
      unpaced = on.unpaced;
    }
  where
    by_how : (h : SourceHow) → IsMergeFetched b c (came.Ended h) → IsKnownEnd (Some h) c.end
    by_how how.End known = known
    by_how how.Fault known = known
    by_how how.TooLong known = known
    by_how how.Limit known = known

-- ---- feeds

-- what a fetch brought was read, and the journal does not have it
pub feed_fetched : (before : History) (s : StageNo) (most : ℕ) (o : Came) (a b c : FeedSeen) → KeepsFeed before s true [] a b → FetchesFeed most o b c → KeepsFeed before s false (records_of o) a c
feed_fetched before s most o (Single a) (Single b) (Single c) k f = source_reads before s (records_of o) a b c k f.reads f.end_stays (cut_of b.source.paced.pace o b c f.paced)
feed_fetched before s most o (Merged a) (Merged b) (Merged c) k f = merge_reads before s (records_of o) a b c k f.reads f.end_stays f.waits_stay f.unpaced
feed_fetched before s most o (Single a) (Single b) (Merged c) k f = absurd f
feed_fetched before s most o (Merged a) (Merged b) (Single c) k f = absurd f
feed_fetched before s most o (Single a) (Merged b) c k f = absurd k
feed_fetched before s most o (Merged a) (Single b) c k f = absurd k

-- a fetch was cut off
pub feed_cut : (before : History) (s : StageNo) (a b c : FeedSeen) → KeepsFeed before s true [] a b → IsCutFeed b c → KeepsFeed before s false [] a c
feed_cut before s (Single a) (Single b) (Single c) k f = source_reads before s [] a b c k f.reads f.end_stays f.paced
feed_cut before s (Merged a) (Merged b) (Merged c) k f = merge_reads before s [] a b c k f.reads f.end_stays f.waits_stay f.unpaced
feed_cut before s (Single a) (Single b) (Merged c) k f = absurd f
feed_cut before s (Merged a) (Merged b) (Single c) k f = absurd f
feed_cut before s (Single a) (Merged b) c k f = absurd k
feed_cut before s (Merged a) (Single b) c k f = absurd k

pub feed_accepts : (before after : History) (s : StageNo) (most : ℕ) (records : List (List ℕ)) (a b c : FeedSeen) → fed after s ≡ fed before s ++ records → source_end after s ≡ source_end before s → quiets after s ≡ quiets before s
    → PaceGoes before after s records → IsToldFeed before s b → KeepsFeed before s true [] a b → FetchesFeed most (came.Records records) b c → KeepsFeed after s true [] a c
feed_accepts before after s most records (Single a) (Single b) (Single c) same_fed same_end same_quiets goes told k f = source_accepts before after s most records a b c same_fed same_end same_quiets goes told k f
feed_accepts before after s most records (Merged a) (Merged b) (Merged c) same_fed same_end same_quiets goes told k f = merge_accepts before after s records a b c same_fed same_end same_quiets k f
feed_accepts before after s most records (Single a) (Single b) (Merged c) same_fed same_end same_quiets goes told k f = absurd f
feed_accepts before after s most records (Merged a) (Merged b) (Single c) same_fed same_end same_quiets goes told k f = absurd f
feed_accepts before after s most records (Single a) (Merged b) c same_fed same_end same_quiets goes told k f = absurd k
feed_accepts before after s most records (Merged a) (Single b) c same_fed same_end same_quiets goes told k f = absurd k

pub feed_rests : (before after : History) (s : StageNo) (most : ℕ) (a b c : FeedSeen) → fed after s ≡ fed before s → source_end after s ≡ source_end before s → quiets after s ≡ quiets before s + 1
    → PaceRests before after s → IsToldFeed before s b → KeepsFeed before s true [] a b → FetchesFeed most came.NotYet b c → KeepsFeed after s true [] a c
feed_rests before after s most (Single a) (Single b) (Single c) same_fed same_end same_quiets goes told k f = source_rests before after s most a b c same_fed same_end same_quiets goes told k f
feed_rests before after s most (Merged a) (Merged b) (Merged c) same_fed same_end same_quiets goes told k f = merge_rests before after s a b c same_fed same_end same_quiets k f
feed_rests before after s most (Single a) (Single b) (Merged c) same_fed same_end same_quiets goes told k f = absurd f
feed_rests before after s most (Merged a) (Merged b) (Single c) same_fed same_end same_quiets goes told k f = absurd f
feed_rests before after s most (Single a) (Merged b) c same_fed same_end same_quiets goes told k f = absurd k
feed_rests before after s most (Merged a) (Single b) c same_fed same_end same_quiets goes told k f = absurd k

pub feed_ends : (before after : History) (s : StageNo) (most : ℕ) (h : SourceHow) (a b c : FeedSeen) → fed after s ≡ fed before s → source_end after s ≡ Some h → quiets after s ≡ quiets before s
    → PaceGoes before after s [] → IsToldFeed before s b → KeepsFeed before s true [] a b → FetchesFeed most (came.Ended h) b c → KeepsFeed after s true [] a c
feed_ends before after s most h (Single a) (Single b) (Single c) same_fed same_end same_quiets goes told k f = source_ends before after s most h a b c same_fed same_end same_quiets goes told k f
feed_ends before after s most h (Merged a) (Merged b) (Merged c) same_fed same_end same_quiets goes told k f = merge_ends before after s h a b c same_fed same_end same_quiets k f
feed_ends before after s most h (Single a) (Single b) (Merged c) same_fed same_end same_quiets goes told k f = absurd f
feed_ends before after s most h (Merged a) (Merged b) (Single c) same_fed same_end same_quiets goes told k f = absurd f
feed_ends before after s most h (Single a) (Merged b) c same_fed same_end same_quiets goes told k f = absurd k
feed_ends before after s most h (Merged a) (Single b) c same_fed same_end same_quiets goes told k f = absurd k

-- ---- sinks

-- the bytes that were written are those of a later journal
pub sink_wrote : (topology : Topology) (before after : History) (s : StageNo) (bytes : ℕ) (text : List ℕ) (end : BatchEnd) (a b c : SinkSeen) → sink_text topology after s ≡ sink_text topology before s ++ take bytes (text_taken topology before s end)
    → short_writes topology after s ≡ one_more (nat_lt bytes (length (text_taken topology before s end))) (short_writes topology before s) → text ≡ text_taken topology before s end → KeepsSink topology before s a b → Writes bytes text b c → KeepsSink topology after s a c
sink_wrote topology before after s bytes text end a b c same_text same_short is k written =
    record {
      told = written.told ∙ k.told;
      held = λ t.
          rw same_text
          (written.held (rw k.told t) ∙ ap (λ z. z ++ take bytes text) (k.held t) ∙ append_assoc a.held (sink_text topology before s) (take bytes text) ∙ ap (λ z. a.held ++ (sink_text topology before s ++ take bytes z)) is);
      faults_stay = let one = k.faults_stay in let two = written.faults_stay in omega (arith, one, two);
      short = rw same_short (rise_if (nat_lt bytes (length (text_taken topology before s end))) (short_writes topology before s) a.faults b.faults c.faults k.short
          (λ low. written.short (subst (λ z. bytes < length z) (sym is) (ltb-true bytes (length (text_taken topology before s end)) low))) written.faults_stay);
    }

-- the text by the callback is the text by the journal
pub text_is_taken : (topology : Topology) (before : History) (s : StageNo) (end : BatchEnd) (spec : StageSpec) (messages : List Message) (box : BoxSeen) → spec_of topology s ≡ Some spec → has_role topology s is_supervisor_role ≡ false → (is_live topology before s || is_out before (post s 0)) ≡ true
    → messages ≡ batch_of topology before s → IsArmed topology before s spec box → text_by box.kind box messages end ≡ text_taken topology before s end
text_is_taken topology before s end spec messages box e calm present is armed = by_kind box.kind refl
  where
    built_in : (kind : Kind) → box.kind ≡ kind → (kind ≡ Own → ⊥) → batch_text box.spec box.count messages ≡ batch_text spec (count topology before s) (batch_of topology before s)
    built_in kind k other =
        ap (λ n. batch_text box.spec n messages) (armed.count (λ own. other (sym k ∙ own)) calm present) ∙ ap (λ x. batch_text x (count topology before s) messages) armed.spec
        ∙ ap (λ ms. batch_text spec (count topology before s) ms) is

    by_kind : (kind : Kind) → box.kind ≡ kind → text_by kind box messages end ≡ text_taken topology before s end
    by_kind Own k = rw (e, (sym armed.kind ∙ k)) (ap (λ ms. own_text ms end) is)
    by_kind Steps k =
        let is_so : spec.kind ≡ Steps = sym armed.kind ∙ k in
        rw (e, is_so) (built_in Steps k (λ x. cc) ∙ ap (λ x. batch_text x (count topology before s) (batch_of topology before s)) (λ i. record spec { kind = is_so i }))
    by_kind Lines k =
        let is_so : spec.kind ≡ Lines = sym armed.kind ∙ k in
        rw (e, is_so) (built_in Lines k (λ x. cc) ∙ ap (λ x. batch_text x (count topology before s) (batch_of topology before s)) (λ i. record spec { kind = is_so i }))

-- ---- callbacks

pub box_then : (a b c : BoxSeen) → KeepsBox a b → KeepsBox b c → KeepsBox a c
box_then a b c h k = record {
  kind = k.kind ∙ h.kind;
  spec = k.spec ∙ h.spec;
  law = k.law ∙ h.law;
  told = k.told ∙ h.told;
  calls = let one = h.calls in let two = k.calls in omega (arith, one, two);
  bad = let one = h.bad in let two = k.bad in omega (arith, one, two);
  no_calls = λ own. k.no_calls (λ e. own (sym h.kind ∙ e)) ∙ h.no_calls own;
  no_bad = λ own. k.no_bad (λ e. own (sym h.kind ∙ e)) ∙ h.no_bad own;
}

-- a child's callback begins at a count of 0
pub box_reset : (a b : BoxSeen) → KeepsBox (reset a) b → KeepsBox a b
box_reset a b k = record {
  kind = k.kind;
  spec = k.spec;
  law = k.law;
  told = k.told;
  calls = k.calls;
  bad = k.bad;
  no_calls = k.no_calls;
  no_bad = k.no_bad;
}

pub self_post : (p : Post) → p.slot ≡ 0 → same_post p (post p.stage 0) ≡ true
self_post p e = rw (same_stage-self p.stage) (eq-eqb p.slot 0 e)

-- the count after replies
pub counts_done : (topology : Topology) (before : History) (s : StageNo) (messages : List Message) (replies : List Reply) (b c : BoxSeen) → is_live topology before s ≡ true → IsCounted topology before s b → Replies 0 messages replies b c → IsCounted topology (Done s replies ∷ before) s c
counts_done topology before s messages replies b c live counted_so done = λ own calm now.
    let built_in : b.kind ≢ Own = λ e. own (done.kept.kind ∙ e) in
    let is : b.count ≡ count topology before s = counted_so built_in calm (is_present topology before s live) in
    let small : b.count < 2 ^ 64 = subst (λ n. n < 2 ^ 64) (sym is) (count_small topology before s) in
    done.count built_in small ∙ ap (λ n. counted n (length replies)) is ∙ sym (count_done topology before s replies)

pub counts_wrote : (topology : Topology) (before : History) (s : StageNo) (spec : StageSpec) (bytes : ℕ) (end : BatchEnd) (has_sink : Bool) (messages : List Message) (b c : BoxSeen) → spec_of topology s ≡ Some spec → messages ≡ batch_of topology before s
    → is_live topology before s ≡ true → IsArmed topology before s spec b → Ends messages bytes end has_sink b c → IsCounted topology (Wrote s bytes end ∷ before) s c
counts_wrote topology before s spec bytes end has_sink messages b c e is live armed done = λ own calm now.
    let built_in : b.kind ≢ Own = λ k. own (done.kept.kind ∙ k) in
    let same : b.count ≡ count topology before s = armed.count built_in calm (is_present topology before s live) in
    let small : b.count < 2 ^ 64 = subst (λ n. n < 2 ^ 64) (sym same) (count_small topology before s) in
    done.count built_in small ∙ ap (λ n. count_after_batch b.spec n messages) same ∙ ap (λ x. count_after_batch x (count topology before s) messages) armed.spec
    ∙ ap (λ ms. count_after_batch spec (count topology before s) ms) is ∙ sym (count_wrote topology before s bytes end spec e)

-- no reset more
pub resets_on : (n : ℕ) (a b c : BoxSeen) → RoseExactly n a.resets b.resets → RoseExactly 0 b.resets c.resets → RoseExactly n a.resets c.resets
resets_on n a b c first then = subst (λ m. RoseExactly m a.resets c.resets) (omega arith) (counted_on n 0 a.resets b.resets c.resets first then)

-- the end of a batch that was taken
pub lawful_write : (topology : Topology) (before : History) (s : StageNo) (asked : Batch) (with_sink : Bool) (text : List ℕ) (bytes : ℕ) (end : BatchEnd) (old law : Law) → old ≡ law → IsTaken topology before s asked → with_sink ≡ has_sink (spec_of topology s)
    → text ≡ text_taken topology before s end → IsLawfulEnd old asked with_sink text bytes end → IsLawfulWrite topology before s bytes end law
lawful_write topology before s asked with_sink text bytes end old law same taken sinks texts lawful = record {
  asked = asked;
  taken = taken;
  lawful =
      subst (λ t. IsLawfulEnd law asked (has_sink (spec_of topology s)) t bytes end) texts
      (subst (λ b. IsLawfulEnd law asked b text bytes end) sinks (subst (λ l. IsLawfulEnd l asked with_sink text bytes end) same lawful));
}

pub callback_done : (topology : Topology) (before : History) (p : Post) (messages : List Message) (replies : List Reply) (a b c : BoxSeen) → p.slot ≡ 0 → messages ≡ chunk_of topology before p.stage → is_live topology before p.stage ≡ true → KeepsCallback topology before p a b
    → Replies 0 messages replies b c → KeepsCallback topology (Done p.stage replies ∷ before) p a c
callback_done topology before p messages replies a b c first is live k done = record {
  kept = box_then a b c k.kept done.kept;
  count = counts_done topology before p.stage messages replies b c live k.count done;
  calls = λ own. let own_before : b.kind ≡ Own = sym done.kept.kind ∙ own in
      rw (self_post p first) (rise_more (calls_of before p) (count_by is_passed replies) a.calls b.calls c.calls (k.calls own_before) (done.calls own_before) done.kept.calls);
  bad = λ own. let own_before : b.kind ≡ Own = sym done.kept.kind ∙ own in
      rw (self_post p first) (rise_if (not (list_all is_passed replies)) (bad_of before p) a.bad b.bad c.bad (k.bad own_before) (λ some. done.bad own_before (turned (list_all is_passed replies) some)) done.kept.bad);
  resets = λ own. let own_before : b.kind ≡ Own = sym done.kept.kind ∙ own in
      resets_on (resets_of topology before p) a b c (k.resets own_before) (done.resets own_before);
  lawful = (k.lawful, λ same. subst (λ ms. AreLawful a.law ms replies) is (subst (λ law. AreLawful law messages replies) k.kept.law done.lawful));
}
  where
    turned : (t : Bool) → not t ≡ true → t ≡ false
    turned true e = cc
    turned false e = refl

pub callback_wrote : (topology : Topology) (before : History) (p : Post) (spec : StageSpec) (bytes : ℕ) (end : BatchEnd) (with_sink : Bool) (asked : Batch) (a b c : BoxSeen) → p.slot ≡ 0 → spec_of topology p.stage ≡ Some spec → IsTaken topology before p.stage asked
    → with_sink ≡ has_sink (spec_of topology p.stage) → has_role topology p.stage is_supervisor_role ≡ false → is_live topology before p.stage ≡ true → IsArmed topology before p.stage spec b → KeepsCallback topology before p a b → Ends asked.messages bytes end with_sink b c → IsLawfulEnd b.law asked with_sink (text_by b.kind b asked.messages end) bytes end → c.resets ≡ b.resets
    → KeepsCallback topology (Wrote p.stage bytes end ∷ before) p a c
callback_wrote topology before p spec bytes end with_sink asked a b c first e is sinks calm live armed k done lawful resets = record {
  kept = box_then a b c k.kept done.kept;
  count = counts_wrote topology before p.stage spec bytes end with_sink asked.messages b c e is.messages live armed done;
  calls = λ own. let own_before : b.kind ≡ Own = sym done.kept.kind ∙ own in
      rw (self_post p first) (rise_one (calls_of before p) a.calls b.calls c.calls (k.calls own_before) (done.calls own_before) done.kept.calls);
  bad = λ own. let own_before : b.kind ≡ Own = sym done.kept.kind ∙ own in
      rw (self_post p first) (rise_if (is_bad_end end) (bad_of before p) a.bad b.bad c.bad (k.bad own_before) (λ bad. done.bad own_before bad) done.kept.bad);
  resets = λ own. subst (λ n. RoseExactly (resets_of topology before p) a.resets n) (sym resets) (k.resets (sym done.kept.kind ∙ own));
  lawful = (
    k.lawful,
    λ same.
        lawful_write topology before p.stage asked with_sink (text_by b.kind b asked.messages end) bytes end b.law a.law k.kept.law is sinks
        (text_is_taken topology before p.stage end spec asked.messages b e calm (is_present topology before p.stage live) is.messages armed) lawful,
  );
}

pub callback_child : (topology : Topology) (before : History) (p : Post) (message : Message) (reply : Reply) (a b c : BoxSeen) → has_role topology p.stage is_supervisor_role ≡ true → message ∷ [] ≡ child_of before p.stage p.slot → KeepsCallback topology before p a b → Replies 1 (message ∷ []) (reply ∷ []) (reset b) c
    → KeepsCallback topology (ChildEnd p.stage p.slot reply ∷ before) p a c
callback_child topology before p message reply a b c child is k done = record {
  kept = box_then a b c k.kept (box_reset b c done.kept);
  count = λ own calm live. clash (has_role topology p.stage is_supervisor_role) child calm;
  calls = λ own. let own_before : b.kind ≡ Own = sym done.kept.kind ∙ own in
      rw (same_post-self p) (subst (λ n. RoseBy n a.calls c.calls) (one_passed reply (calls_of before p)) (rise_more (calls_of before p) (count_by is_passed (reply ∷ [])) a.calls b.calls c.calls (k.calls own_before) (done.calls own_before) done.kept.calls));
  bad = λ own. let own_before : b.kind ≡ Own = sym done.kept.kind ∙ own in
      rw (same_post-self p) (rise_if (not (is_passed reply)) (bad_of before p) a.bad b.bad c.bad (k.bad own_before) (λ some. done.bad own_before (turned (is_passed reply) some)) done.kept.bad);
  resets = λ own. let own_before : b.kind ≡ Own = sym done.kept.kind ∙ own in
      rw (same_post-self p) (counted_on (resets_of topology before p) 1 a.resets b.resets c.resets (k.resets own_before) (done.resets own_before));
  lawful = (k.lawful, λ same. subst (λ ms. AreLawful a.law ms (reply ∷ [])) is (subst (λ law. AreLawful law (message ∷ []) (reply ∷ [])) k.kept.law done.lawful));
}
  where
    turned : (t : Bool) → not t ≡ true → (t && true) ≡ false
    turned true e = cc
    turned false e = refl

pub box_stays : (topology : Topology) (before : History) (p : Post) (a b c : BoxSeen) → KeepsCallback topology before p a b → KeepsBox b c → KeepsBox a c
box_stays topology before p a b c k on = box_then a b c k.kept on
