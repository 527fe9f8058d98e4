-- From what a body's source was read to, to what the journal says of the source that was opened.
use Rattle.std.proofs.Common.{◌≡◌, ℕ, List, [], ◌∷◌, ◌++◌, Bool, true, false, refl, ap, sym, ◌∙◌, subst, inl, inr, Option, Some, None}
use Rattle.std.specs.Prelude.{IsTrue, ◌⊎◌, ◌||◌, if◌then◌else◌}
use Rattle.std.proofs.lemmas.List.{append_assoc, append-nil}
use Rattle.pipe_types.specs.Counts.{Rose}
use Rattle.pipe_types.specs.Numbers.{stage, post, same_stage}
use Rattle.pipe_types.specs.declared.numbers.StageNo.{StageNo}
use Rattle.pipe_types.specs.declared.step.LateAnswer.TheVariants as late
use Rattle.pipe_types.specs.declared.step.SourceHow.{SourceHow}
use Rattle.pipe_types.specs.declared.step.SourceHow.TheVariants as how
use Rattle.pipe_types.specs.declared.step.Step.{Step}
use Rattle.pipe_types.specs.declared.step.Step.TheVariants.{SourceEnd, Late}
use Rattle.pipe_types.specs.declared.topology.Topology.{Topology}
use Rattle.pipe_model.specs.History.{History}
use Rattle.pipe_model.specs.Legal.{is_legal, ends_source, has_ended, has_role, is_producer_role}
use Rattle.pipe_model.specs.Outside.{fed, source_end, end_by_step}
use Rattle.pipe_model.specs.Posts.{is_out}
use Rattle.pipe_laws.proofs.Tests.{clash, same_stage-flip}
use Rattle.count_laws.proofs.Crashes.{ended_rests}
use Rattle.pipe_edges.specs.declared.reading.LineEnd.{LineEnd}
use Rattle.pipe_edges.specs.declared.reading.LineEnd.TheVariants as end
use Rattle.source_lines.specs.Cut.{AreFirstLines, AreAllLines, AreLinesBeforeLong}
use Rattle.pipe_laws.specs.Read.{quiets}
use Rattle.stage_job.specs.Chunks.{RoseBy}
use Rattle.stage_bodies.specs.Reads.{AreReadFrom}
use Rattle.stage_bodies.specs.Seen.{SourceSeen, OneSource, LineSeen}
use Rattle.body_laws.specs.Keeps.{IsKnownEnd, KeepsSource}
use Rattle.pipe_edges.specs.Paces.{Pace, PaceSeen}
use Rattle.rate_laws.specs.Rates.{own_quiets}
use Rattle.pace_laws.specs.Pacing.{KeepsPaceBy, at_start}
use Rattle.edge_names.specs.Seen.{EdgesSeen}
use Rattle.edge_names.specs.Named.{GivesSource}
use Rattle.edge_names.specs.Supplies.{Feed, Opened, Merged, Made, Fed, IsMade}
use Rattle.edge_names.specs.Gates.{without_gate}
use Rattle.edge_names.specs.Opened.{GivesFeed, GivesFed}
use Rattle.edge_names.specs.Returned.{IsCalm}
use Rattle.run_pipe.proofs.Obeying.{first_lines, before_long}
use Rattle.pipe_run.specs.Outside.{ReadsSource, IsFeedRead, IsFedRead, IsMadeRead, IsSourceRead, KeepsItsPace}

-- ---- ends

pub known_end : (now : Option SourceHow) (line_end : Option LineEnd) → IsKnownEnd now line_end → now ≡ Some how.End → line_end ≡ Some end.End
known_end now line_end known is = rw is at known

pub known_long : (now : Option SourceHow) (line_end : Option LineEnd) → IsKnownEnd now line_end → now ≡ Some how.TooLong → line_end ≡ Some end.TooLong
known_long now line_end known is = rw is at known

pub known_fault : (now : Option SourceHow) (line_end : Option LineEnd) → IsKnownEnd now line_end → now ≡ Some how.Fault → line_end ≡ Some end.Fault
known_fault now line_end known is = rw is at known

end_later : (t : Bool) (h : SourceHow) (how : SourceHow) (old : Option SourceHow) → (if t then Some h else old) ≡ Some how → (t ≡ true) ⊎ (old ≡ Some how)
end_later true h how old e = inl refl
end_later false h how old e = inr e

end_by_or_before : (step : Step) (s : StageNo) (how : SourceHow) (old : Option SourceHow) → end_by_step step s old ≡ Some how → (ends_source s step ≡ true) ⊎ (old ≡ Some how)
end_by_or_before (SourceEnd t h) s how old e = by (end_later (same_stage t s) h how old e)
  where
    by : (same_stage t s ≡ true) ⊎ (old ≡ Some how) → (same_stage s t ≡ true) ⊎ (old ≡ Some how)
    by (inl same) = inl (same_stage-flip t s same)
    by (inr before) = inr before
end_by_or_before (Late t slot i (late.Source h)) s how old e = by (end_later (same_stage t s) h how old e)
  where
    by : (same_stage t s ≡ true) ⊎ (old ≡ Some how) → (same_stage s t ≡ true) ⊎ (old ≡ Some how)
    by (inl same) = inl (same_stage-flip t s same)
    by (inr before) = inr before
end_by_or_before _ s how old e = inr e

-- a source of which the journal says how it ended has ended
ended_by : (before : History) (s : StageNo) (how : SourceHow) → source_end before s ≡ Some how → has_ended before s ≡ true
ended_by [] s how e = cc
ended_by (step ∷ before) s how e = by (end_by_or_before step s how (source_end before s) e) (λ earlier. ended_by before s how earlier)
  where
    first : (a b : Bool) → a ≡ true → (a || b) ≡ true
    first a b h = rw h refl

    second : (a b : Bool) → b ≡ true → (a || b) ≡ true
    second true b h = refl
    second false b h = h

    by : (ends_source s step ≡ true) ⊎ (source_end before s ≡ Some how) → (source_end before s ≡ Some how → has_ended before s ≡ true) → has_ended (step ∷ before) s ≡ true
    by (inl here) more = first (ends_source s step) (has_ended before s) here
    by (inr earlier) more = second (ends_source s step) (has_ended before s) (more earlier)

-- records are lost only while a fetch is out, and so before the source ends
pub none_lost : {X : Type 0} (topology : Topology) (before : History) (s : StageNo) (lost : List X) (how : SourceHow) → is_legal topology before ≡ true → has_role topology s is_producer_role ≡ true → same_stage s (stage 0) ≡ false
    → (lost ≡ []) ⊎ (is_out before (post s 0) ≡ true) → source_end before s ≡ Some how → lost ≡ []
none_lost topology before s lost how legal role own (inl none) ended = none
none_lost topology before s lost how legal role own (inr out) ended =
    clash (is_out before (post s 0)) out (ended_rests topology before s legal role own (ended_by before s how ended))

-- ---- lines

-- what the source gave and has left is what it had left when it was opened
pub all_bytes : (opened : SourceSeen) (now : LineSeen) (records : List (List ℕ)) → opened.taken ≡ [] → AreReadFrom opened now records → IsTrue opened.told → now.source.taken ++ now.source.left ≡ opened.left
all_bytes opened now records fresh r t = r.same_bytes t ∙ ap (λ x. x ++ opened.left) fresh

-- ---- the source of a producer

-- a source of which nothing was taken and which has counted nothing
record IsUncounted (source : SourceSeen) : Type 0 where
  pub nothing_taken : source.taken ≡ []
  pub no_fault : source.faults ≡ 0
  pub no_wait : source.waits ≡ 0

-- the journal's records are the first of the source's lines, and where it ended they are as its end says
reads_source : (topology : Topology) (before : History) (s : StageNo) (full : Bool) (lost : List (List ℕ)) (opened now : LineSeen) → is_legal topology before ≡ true → has_role topology s is_producer_role ≡ true → same_stage s (stage 0) ≡ false
    → (lost ≡ []) ⊎ (is_out before (post s 0) ≡ true) → IsUncounted opened.source → KeepsSource before s full lost opened now → ReadsSource before s now.source
reads_source topology before s full lost opened now legal role own in_fetch fresh k =
    let f = fed before s in
    let source = opened.source in
    let told_then = λ (t : IsTrue now.source.told). subst (λ b. b ≡ true) k.read.same_telling t in
    let to_end = λ (h : SourceHow) (ended : source_end before s ≡ Some h).
    subst (λ records. AreReadFrom source now records) (ap (λ x. f ++ x) (none_lost topology before s lost h legal role own in_fetch ended) ∙ append-nil f) k.read in
    record {
      in_order = λ t.
          let first = first_lines now.end source now (f ++ lost) refl k.read (told_then t) in
          subst (λ bytes. AreFirstLines bytes f) (sym (all_bytes source now (f ++ lost) fresh.nothing_taken k.read (told_then t))) (record {
            others = lost ++ first.others;
            parts = first.parts ∙ append_assoc f lost first.others;
          });
      whole = λ t e.
          let read = to_end how.End e in
          subst (λ bytes. AreAllLines bytes f) (sym (all_bytes source now f fresh.nothing_taken read (told_then t)))
          (read.at_end (told_then t) (known_end (source_end before s) now.end k.known e));
      too_long = λ t e.
          let read = to_end how.TooLong e in
          subst (λ bytes. AreLinesBeforeLong bytes f) (sym (all_bytes source now f fresh.nothing_taken read (told_then t)))
          (before_long source now f (known_long (source_end before s) now.end k.known e) read (told_then t));
      fault = λ e. subst (λ n. Rose n now.source.faults) fresh.no_fault (k.read.at_fault (known_fault (source_end before s) now.end k.known e));
      quiet = subst (λ n. RoseBy (quiets before s) n now.source.waits) fresh.no_wait k.quiet;
    }

source_read : (topology : Topology) (before : History) (s : StageNo) (full : Bool) (lost : List (List ℕ)) (edges : EdgesSeen) (name : List ℕ) (opened now : LineSeen) → is_legal topology before ≡ true → has_role topology s is_producer_role ≡ true → same_stage s (stage 0) ≡ false
    → (lost ≡ []) ⊎ (is_out before (post s 0) ≡ true) → GivesSource edges name (without_gate opened.source) → KeepsSource before s full lost opened now → IsSourceRead edges before s name now.source
source_read topology before s full lost edges name opened now legal role own in_fetch gives k = record {
  opened = opened.source;
  given = gives;
  same_telling = k.read.same_telling;
  same_bytes = λ t. all_bytes opened.source now (fed before s ++ lost) gives.nothing_taken k.read t;
  reads = reads_source topology before s full lost opened now legal role own in_fetch (record { nothing_taken = gives.nothing_taken; no_fault = gives.no_fault; no_wait = gives.no_wait }) k;
}

made_read : (whole : Bool) (topology : Topology) (before : History) (s : StageNo) (full : Bool) (lost : List (List ℕ)) (pace : Option Pace) (bytes : List ℕ) (opened now : LineSeen) → is_legal topology before ≡ true → has_role topology s is_producer_role ≡ true → same_stage s (stage 0) ≡ false
    → (lost ≡ []) ⊎ (is_out before (post s 0) ≡ true) → IsMade bytes (without_gate opened.source) → KeepsSource before s full lost opened now → (IsTrue whole → IsCalm (Some (Fed pace (Made bytes))) (Some now.source)) → IsMadeRead whole before s bytes now.source
made_read whole topology before s full lost pace bytes opened now legal role own in_fetch gives k calm = record {
  tells = subst (λ b. b ≡ true) (sym k.read.same_telling) gives.tells;
  same_bytes = all_bytes opened.source now (fed before s ++ lost) gives.nothing_taken k.read gives.tells ∙ gives.all_left;
  reads = reads_source topology before s full lost opened now legal role own in_fetch (record { nothing_taken = gives.nothing_taken; no_fault = gives.no_fault; no_wait = gives.no_wait }) k;
  calm = calm;
}

feed_read : (whole : Bool) (topology : Topology) (before : History) (s : StageNo) (full : Bool) (lost : List (List ℕ)) (edges : EdgesSeen) (pace : Option Pace) (feed : Feed) (opened now : LineSeen) → is_legal topology before ≡ true → has_role topology s is_producer_role ≡ true → same_stage s (stage 0) ≡ false
    → (lost ≡ []) ⊎ (is_out before (post s 0) ≡ true) → GivesFeed edges feed (without_gate opened.source) → KeepsSource before s full lost opened now → (IsTrue whole → IsCalm (Some (Fed pace feed)) (Some now.source)) → IsFeedRead whole edges before s feed (OneSource now.source)
feed_read whole topology before s full lost edges pace (Opened name) opened now legal role own in_fetch gives k calm = source_read topology before s full lost edges name opened now legal role own in_fetch gives k
feed_read whole topology before s full lost edges pace (Merged names) opened now legal role own in_fetch gives k calm = absurd gives
feed_read whole topology before s full lost edges pace (Made bytes) opened now legal role own in_fetch gives k calm = made_read whole topology before s full lost pace bytes opened now legal role own in_fetch gives k calm

-- ---- its pace

kept_pace : (pace : Option Pace) (before : History) (s : StageNo) (full : Bool) (opened : SourceSeen) (now : LineSeen) → opened.paced ≡ at_start pace → KeepsPaceBy pace before s full opened now → KeepsItsPace pace before s now.source
kept_pace None before s full opened now begins k = k ∙ begins
kept_pace (Some pace) before s full opened now begins k =
    (k.within, subst (λ n. RoseBy (own_quiets pace.share pace.interval before s) n now.source.paced.own) (ap (λ (p : PaceSeen). p.own) begins) k.own)

pub line_read : (whole : Bool) (topology : Topology) (before : History) (s : StageNo) (full : Bool) (lost : List (List ℕ)) (edges : EdgesSeen) (pace : Option Pace) (feed : Feed) (opened now : LineSeen) → is_legal topology before ≡ true → has_role topology s is_producer_role ≡ true → same_stage s (stage 0) ≡ false
    → (lost ≡ []) ⊎ (is_out before (post s 0) ≡ true) → GivesFed edges pace feed opened → KeepsSource before s full lost opened now → (IsTrue whole → IsCalm (Some (Fed pace feed)) (Some now.source)) → IsFedRead whole edges before s pace feed (OneSource now.source)
line_read whole topology before s full lost edges pace feed opened now legal role own in_fetch gives k calm =
    let same : opened.source.paced.pace ≡ pace = ap (λ (p : PaceSeen). p.pace) gives.gate in
    record {
      read = feed_read whole topology before s full lost edges pace feed opened now legal role own in_fetch gives.source k calm;
      pace = kept_pace pace before s full opened.source now gives.gate (subst (λ p. KeepsPaceBy p before s full opened.source now) same k.paced);
    }
