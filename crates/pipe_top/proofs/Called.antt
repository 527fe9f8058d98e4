-- What a call comes to after a call by name that gave nothing back.
use Rattle.std.proofs.Common.{◌≡◌, ℕ, suc, ◌≤◌, List, [], ◌∷◌, ◌++◌, take, Bool, Option, Some, None, Result, Ok, Err, ◌∙◌, ap, inl, inr, arith}
use Rattle.std.specs.Prelude.{◌⊎◌, All, IsTrue, length, slice_get, option_map}
use Rattle.std.proofs.lemmas.List.{append_assoc}
use Rattle.std.proofs.lemmas.List.Elements.{All-cons}
use Rattle.pipe_types.specs.Counts.{Rose}
use Rattle.pipe_types.specs.declared.numbers.StageNo.{StageNo}
use Rattle.pipe_types.specs.declared.topology.Topology.{Topology}
use Rattle.pipe_types.specs.Numbers.{post}
use Rattle.pipe_model.specs.History.{History}
use Rattle.pipe_edges.specs.Paces.{Pace}
use Rattle.pipe_edges.specs.declared.edges.EdgeKind.{EdgeKind}
use Rattle.pipe_edges.specs.declared.edges.EdgeKind.TheVariants.{File, Source, Sink}
use Rattle.stage_bodies.specs.Seen.{SourceSeen, SourcesSeen, OneSource, ManySources, sources_in, sources_out, SinkSeen, LineSeen, MergeSeen, FeedSeen, Single, Merged as MergedSeen, BodySeen}
use Rattle.stage_bodies.specs.Jobs.{Both}
use Rattle.stage_bodies.specs.Posts.{place_at}
use Rattle.body_laws.specs.Ready.{There}
use Rattle.edge_names.specs.Seen.{EdgesSeen}
use Rattle.edge_names.specs.Gates.{without_gate}
use Rattle.edge_names.specs.Named.{GivesSource, GivesSink}
use Rattle.edge_names.specs.Opened.{AreUnread, GivesFed, GivesFeed, GivesMerge, HasFeed, HasSource, HasSink, IsCut, IsOpened, AreOpened, one, supplied_at}
use Rattle.edge_names.specs.Supplies.{Feeds, Feed, Opened, Merged, Made, Supplied, Fed, Written, stage_calls}
use Rattle.edge_names.specs.Controls.{IsBackFirst, IsFailedInPart, IsStageCut, control_call, first_sinks, named_control}
use Rattle.edge_names.specs.Returned.{feed_in, sink_in, sinks_of}
use Rattle.pipe_run.specs.Outside.{IsFedRead, IsFeedRead, IsMergeRead, IsSourceRead, IsSinkWritten, AreUsed, IsAllOpen, IsAllOpenedInPart, IsAllUnused, IsControlUsed, HasControl, IsOpenedInPart, IsOpenedInPartWith, IsOutside, IsOutsideWith, IsStageUnopened, IsUnopened, IsUnopenedWith}
use Rattle.pipe_run.specs.Live.{IsLiveBack, IsLiveSink}
use Rattle.journal_texts.specs.Acks.{ack_text}
use Rattle.pipe_top.specs.Cases.{feeds_of, Case, NoCommand, NoTopology as BadTopology, TooFew, Checks, Upgrades, Audits, Rejects, Runs}
use Rattle.pipe_top.specs.Runs.{OutsideSeen, IsUntouched, IsJournalBack, IsAuditedIn, IsNothingBack, IsBrokenOff, IsGivenUp, HasRunOrNot, IsOutsideOf, FailsAt}
use Rattle.pipe_top.specs.Audits.{IsAuditOf, MayBeBack}
use Rattle.run_verdicts.specs.Judged.{Summary}
use Rattle.run_verdicts.specs.declared.audits.AuditFault.{AuditFault}
use Rattle.pipe_top.specs.Flows.{IsEarly, Outcome, AskedBy, ComesBy, ShowsUnfed}
use Rattle.run_verdicts.specs.declared.verdict.Refusal.TheVariants.{Usage, Topology as NoTopology, Stock, Edge, Audit, Memory}
use Rattle.run_verdicts.specs.declared.verdict.Verdict.{Verdict}
use Rattle.run_verdicts.specs.declared.verdict.Verdict.TheVariants.{Refused, Done, Unfed}

-- ---- what is given by name

-- the names stand as before
pub record SameNames (old new : EdgesSeen) : Type 0 where
  pub same_telling : new.told ≡ old.told
  pub same_names : IsTrue old.told → (kind : EdgeKind) (other : List ℕ) → new.named kind other ≡ old.named kind other

gives_source : (old new : EdgesSeen) (name : List ℕ) (source : SourceSeen) → SameNames old new → GivesSource new name source → GivesSource old name source
gives_source old new name source same x = record {
  nothing_taken = x.nothing_taken;
  no_fault = x.no_fault;
  no_wait = x.no_wait;
  no_pace = x.no_pace;
  given = λ t.
      let g = x.given (rw same.same_telling t) in
      (g.0, g.1 ∙ same.same_names t Source name);
}

gives_sink : (old new : EdgesSeen) (name : List ℕ) (sink : SinkSeen) → SameNames old new → GivesSink new name sink → GivesSink old name sink
gives_sink old new name sink same x = record {
  no_fault = x.no_fault;
  given = λ t.
      let g = x.given (rw same.same_telling t) in
      (g.0, g.1 ∙ same.same_names t Sink name);
}

both_as : {A B : Type 0} (R S : A → B → Type 0) (x : Option A) (y : Option B) → ((a : A) (b : B) → R a b → S a b) → Both R x y → Both S x y
both_as R S (Some a) (Some b) so h = so a b h
both_as R S None None so h = tt
both_as R S (Some a) None so h = absurd h
both_as R S None (Some b) so h = absurd h

there_as : {A : Type 0} (P Q : A → Type 0) (x : Option A) → ((a : A) → P a → Q a) → There x P → There x Q
there_as P Q (Some a) so h = so a h
there_as P Q None so h = absurd h

-- the sources that these calls opened
unread_as : (old new : EdgesSeen) (calls : List (EdgeKind × List ℕ)) (back : List (List ℕ × SourceSeen)) → SameNames old new → AreUnread new calls back → AreUnread old calls back
unread_as old new [] [] same h = tt
unread_as old new [] (given ∷ back) same h = absurd h
unread_as old new ((Source, name) ∷ calls) (given ∷ back) same h = (h.0, gives_source old new name given.1 same h.1, unread_as old new calls back same h.2)
unread_as old new ((Source, name) ∷ calls) [] same h = absurd h
unread_as old new ((Sink, name) ∷ calls) back same h = absurd h
unread_as old new ((File, name) ∷ calls) back same h = absurd h

has_source : (old new : EdgesSeen) (call : Option (EdgeKind × List ℕ)) (x y : Option LineSeen) → SameNames old new → HasSource new call x y → HasSource old call x y
has_source old new (Some (Source, name)) x (Some lines) same h = record {
  source = gives_source old new name lines.source same h.source;
  nothing_waits = h.nothing_waits;
  no_end = h.no_end;
}
has_source old new (Some (Source, name)) x None same h = absurd h
has_source old new (Some (Sink, name)) x y same h = h
has_source old new (Some (File, name)) x y same h = h
has_source old new None x y same h = h

gives_feed : (old new : EdgesSeen) (feed : Feed) (source : SourceSeen) → SameNames old new → GivesFeed new feed source → GivesFeed old feed source
gives_feed old new (Opened name) source same h = gives_source old new name source same h
gives_feed old new (Merged names) source same h = absurd h
gives_feed old new (Made bytes) source same h = h

gives_fed : (old new : EdgesSeen) (pace : Option Pace) (feed : Feed) (lines : LineSeen) → SameNames old new → GivesFed new pace feed lines → GivesFed old pace feed lines
gives_fed old new pace feed lines same h = record {
  source = gives_feed old new feed (without_gate lines.source) same h.source;
  gate = h.gate;
  nothing_waits = h.nothing_waits;
  no_end = h.no_end;
}

gives_merge : (old new : EdgesSeen) (names : List (List ℕ)) (merge : MergeSeen) → SameNames old new → GivesMerge new names merge → GivesMerge old names merge
gives_merge old new names merge same h = record {
  some = h.some;
  few = h.few;
  given = λ k.
      both_as (GivesSource new) (GivesSource old) (slice_get names k) (slice_get (sources_in (MergedSeen merge)) k)
      (λ name source. gives_source old new name source same) (h.given k);
  unread = h.unread;
  unpaced = h.unpaced;
}

has_feed : (old new : EdgesSeen) (what : Option Supplied) (x y : Option FeedSeen) → SameNames old new → HasFeed new what x y → HasFeed old what x y
has_feed old new (Some (Fed pace feed)) x (Some (Single lines)) same h = gives_fed old new pace feed lines same h
has_feed old new (Some (Fed pace (Merged names))) x (Some (MergedSeen merge)) same h = gives_merge old new names merge same h
has_feed old new (Some (Fed pace (Opened name))) x (Some (MergedSeen merge)) same h = absurd h
has_feed old new (Some (Fed pace (Made bytes))) x (Some (MergedSeen merge)) same h = absurd h
has_feed old new (Some (Fed pace feed)) x None same h = absurd h
has_feed old new (Some (Written name)) x y same h = h
has_feed old new None x y same h = h

has_sink : (old new : EdgesSeen) (what : Option Supplied) (x y : Option SinkSeen) → SameNames old new → HasSink new what x y → HasSink old what x y
has_sink old new (Some (Written name)) x (Some sink) same h = gives_sink old new name sink same h
has_sink old new (Some (Written name)) x None same h = absurd h
has_sink old new (Some (Fed pace feed)) x y same h = h
has_sink old new None x y same h = h

is_opened : (old new : EdgesSeen) (what : Option Supplied) (x y : BodySeen) → SameNames old new → IsOpened new what x y → IsOpened old what x y
is_opened old new what x y same h = record {
  source = has_feed old new what x.source y.source same h.source;
  sink = has_sink old new what x.sink y.sink same h.sink;
  callback = h.callback;
}

are_opened : (feeds : Feeds) (topology : Topology) (n : ℕ) (old new : EdgesSeen) (start bodies : ℕ → Option BodySeen) → SameNames old new → AreOpened feeds topology n new start bodies → AreOpened feeds topology n old start bodies
are_opened feeds topology n old new start bodies same h = λ p few.
    both_as (IsOpened new (supplied_at feeds topology n p)) (IsOpened old (supplied_at feeds topology n p)) (start (place_at p)) (bodies (place_at p))
    (λ x y. is_opened old new (supplied_at feeds topology n p) x y same) (h p few)

source_read : (old new : EdgesSeen) (before : History) (p : StageNo) (name : List ℕ) (source : SourceSeen) → SameNames old new → IsSourceRead new before p name source → IsSourceRead old before p name source
source_read old new before p name source same x = record {
  opened = x.opened;
  given = gives_source old new name (without_gate x.opened) same x.given;
  same_telling = x.same_telling;
  same_bytes = x.same_bytes;
  reads = x.reads;
}

merge_read : (old new : EdgesSeen) (before : History) (p : StageNo) (names : List (List ℕ)) (sources : List SourceSeen) → SameNames old new → IsMergeRead new before p names sources → IsMergeRead old before p names sources
merge_read old new before p names sources same x = record {
  opened = x.opened;
  given = λ k. both_as (GivesSource new) (GivesSource old) (slice_get names k) (slice_get x.opened k) (λ name source. gives_source old new name source same) (x.given k);
  same = x.same;
  reads = x.reads;
}

feed_read : (whole : Bool) (before : History) (p : StageNo) (feed : Feed) (old new : EdgesSeen) (sources : SourcesSeen) → SameNames old new → IsFeedRead whole new before p feed sources → IsFeedRead whole old before p feed sources
feed_read whole before p (Opened name) old new (OneSource source) same x = source_read old new before p name source same x
feed_read whole before p (Merged names) old new (ManySources sources) same x = merge_read old new before p names sources same x
feed_read whole before p (Made bytes) old new (OneSource source) same x = x
feed_read whole before p (Opened name) old new (ManySources sources) same x = absurd x
feed_read whole before p (Merged names) old new (OneSource source) same x = absurd x
feed_read whole before p (Made bytes) old new (ManySources sources) same x = absurd x

fed_read : (whole : Bool) (before : History) (p : StageNo) (pace : Option Pace) (feed : Feed) (old new : EdgesSeen) (sources : SourcesSeen) → SameNames old new → IsFedRead whole new before p pace feed sources → IsFedRead whole old before p pace feed sources
fed_read whole before p pace feed old new sources same x = record {
  read = feed_read whole before p feed old new sources same x.read;
  pace = x.pace;
}

control_used : (topology : Topology) (old new : EdgesSeen) (before : History) (name : List ℕ) (source : SourceSeen) → SameNames old new → IsControlUsed topology new before name source → IsControlUsed topology old before name source
control_used topology old new before name source same x = record {
  opened = x.opened;
  given = gives_source old new name x.opened same x.given;
  same_telling = x.same_telling;
  same_bytes = x.same_bytes;
  reads = x.reads;
}

has_control : (topology : Topology) (old new : EdgesSeen) (before : History) (name : Option (List ℕ)) (control : Option LineSeen) → SameNames old new → HasControl topology new before name control → HasControl topology old before name control
has_control topology old new before (Some name) (Some lines) same h = control_used topology old new before name lines.source same h
has_control topology old new before None None same h = tt
has_control topology old new before (Some name) None same h = absurd h
has_control topology old new before None (Some lines) same h = absurd h

sink_written : (topology : Topology) (old new : EdgesSeen) (before : History) (s : StageNo) (name : List ℕ) (sink : SinkSeen) → SameNames old new
    → IsSinkWritten topology new before s name sink → IsSinkWritten topology old before s name sink
sink_written topology old new before s name sink same x = record {
  opened = x.opened;
  given = gives_sink old new name x.opened same x.given;
  same_telling = x.same_telling;
  held = x.held;
  short = x.short;
}

are_used : (feeds : Feeds) (whole : Bool) (topology : Topology) (old new : EdgesSeen) (before : History) (bodies : ℕ → Option BodySeen) → SameNames old new
    → AreUsed feeds whole topology new before bodies → AreUsed feeds whole topology old before bodies
are_used feeds whole topology old new before bodies same x = record {
  sources = λ s pace feed is.
      there_as (IsFedRead whole new before s pace feed) (IsFedRead whole old before s pace feed) (option_map sources_out (feed_in (bodies (place_at (post s 0)))))
      (λ sources. fed_read whole before s pace feed old new sources same) (x.sources s pace feed is);
  sinks = λ s name call.
      there_as (IsSinkWritten topology new before s name) (IsSinkWritten topology old before s name) (sink_in (bodies (place_at (post s 0))))
      (λ sink. sink_written topology old new before s name sink same) (x.sinks s name call);
}

-- ---- a call that failed

rose_from : (a b c : ℕ) → a ≤ b → Rose b c → Rose a c
rose_from a b c at_least (inl more) = inl (omega (arith, at_least, more))
rose_from a b c at_least (inr full) = inr full

fails_as : (told told' : Bool) (call : EdgeKind × List ℕ) (calls asked middle asked' : List (EdgeKind × List ℕ)) (f f' f'' : ℕ) (name : List ℕ) → told' ≡ told → f ≤ f' → (IsTrue told → middle ≡ asked ++ call ∷ [])
    → FailsAt told' calls middle asked' (Rose f' f'') name → FailsAt told (call ∷ calls) asked asked' (Rose f f'') name
fails_as told told' call calls asked middle asked' f f' f'' name same at_least first x = record {
  kind = x.kind;
  front = call ∷ x.front;
  rest = x.rest;
  parts = ap (λ l. call ∷ l) x.parts;
  is_last = λ t. x.is_last (rw same t) ∙ ap (λ l. l ++ (x.front ++ (x.kind, name) ∷ [])) (first t) ∙ append_assoc asked (call ∷ []) (x.front ++ (x.kind, name) ∷ []);
  rose = rose_from f f' f'' at_least x.rose;
}

-- ---- the outside

-- what became of the edges by a call by name that read a file
pub record Called (old new : EdgesSeen) (call : EdgeKind × List ℕ) : Type 0 where
  pub names : SameNames old new
  pub same_sources : new.sources_back ≡ old.sources_back
  pub same_sinks : new.sinks_back ≡ old.sinks_back
  pub faults_stay : old.faults ≤ new.faults
  pub is_file : call.0 ≡ File
  pub one_call : IsTrue old.told → new.asked ≡ old.asked ++ call ∷ []

abbrev with_edges : OutsideSeen → EdgesSeen → OutsideSeen
with_edges old edges = record old { edges = edges }

back_first_as : (name : Option (List ℕ)) (control : Option LineSeen) (call : EdgeKind × List ℕ) (old middle new : EdgesSeen) → Called old middle call → IsBackFirst name control middle new → IsBackFirst name control old new
back_first_as name control call old middle new c (inl same) = inl (same ∙ c.same_sources)
back_first_as name control call old middle new c (inr given) = inr (given.0, given.1 ∙ ap (λ l. l ++ (named_control name control ++ given.0)) c.same_sources)

outside_as : (feeds : Feeds) (whole : Bool) (topology : Topology) (before : History) (call : EdgeKind × List ℕ) (old middle new : EdgesSeen) → Called old middle call
    → IsOutside feeds whole topology before middle new → IsOutside feeds whole topology before old new
outside_as feeds whole topology before call old middle new c x = record {
  control = x.control;
  obeyed = has_control topology old middle before topology.control x.control c.names x.obeyed;
  bodies = x.bodies;
  used = are_used feeds whole topology old middle before x.bodies c.names x.used;
  parts = x.parts;
  more = x.more;
  all = x.all;
  inner = x.inner;
  ungated = x.ungated;
  first = back_first_as topology.control x.control call old middle new c x.first;
  sources = x.sources ∙ ap (λ l. l ++ x.inner) c.same_sources;
  sinks = x.sinks ∙ ap (λ l. l ++ first_sinks feeds x.parts topology x.bodies) c.same_sinks;
}

stage_unopened_as : (feeds : Feeds) (topology : Topology) (name : List ℕ) (rest : List (EdgeKind × List ℕ)) (call : EdgeKind × List ℕ) (old middle new : EdgesSeen) → Called old middle call
    → IsStageUnopened feeds topology name rest middle new → IsStageUnopened feeds topology name rest old new
stage_unopened_as feeds topology name rest call old middle new c x = record {
  at = x.at;
  kind = x.kind;
  spec = x.spec;
  here = x.here;
  front = x.front;
  behind = x.behind;
  calls = x.calls;
  to_come = x.to_come;
  control = x.control;
  unread = has_source old middle (control_call topology.control) None x.control c.names x.unread;
  start = x.start;
  handed = x.handed;
  bodies = x.bodies;
  opened = are_opened feeds topology x.at old middle x.start x.bodies c.names x.opened;
  back = x.back;
  unread_back = unread_as old middle x.front x.back c.names x.unread_back;
  inner = x.inner;
  ungated = x.ungated;
  sources = x.sources ∙ ap (λ l. l ++ (x.back ++ x.inner)) c.same_sources;
  sinks = x.sinks ∙ ap (λ l. l ++ sinks_of feeds topology.stages x.bodies) c.same_sinks;
}

unopened_as : (feeds : Feeds) (topology : Topology) (name : List ℕ) (rest : List (EdgeKind × List ℕ)) (call : EdgeKind × List ℕ) (old middle new : EdgesSeen) → Called old middle call
    → IsUnopened feeds topology name rest middle new → IsUnopened feeds topology name rest old new
unopened_as feeds topology name rest call old middle new c (inl x) = inl (record {
  call = x.call;
  to_come = x.to_come;
  sources = x.sources ∙ c.same_sources;
  sinks = x.sinks ∙ c.same_sinks;
})
unopened_as feeds topology name rest call old middle new c (inr x) = inr (stage_unopened_as feeds topology name rest call old middle new c x)

abbrev all_open_as : (feeds : Feeds) (topology : Topology) (old middle : EdgesSeen) → SameNames old middle → IsAllOpen feeds topology middle → IsAllOpen feeds topology old
all_open_as feeds topology old middle same x = record {
  control = x.control;
  unread = has_source old middle (control_call topology.control) None x.control same x.unread;
  start = x.start;
  handed = x.handed;
  bodies = x.bodies;
  opened = are_opened feeds topology (length topology.stages) old middle x.start x.bodies same x.opened;
}

all_unused_as : (feeds : Feeds) (topology : Topology) (call : EdgeKind × List ℕ) (old middle new : EdgesSeen) → Called old middle call → IsAllUnused feeds topology middle new → IsAllUnused feeds topology old new
all_unused_as feeds topology call old middle new c x = record {
  all = all_open_as feeds topology old middle c.names x.all;
  inner = x.inner;
  ungated = x.ungated;
  sources = x.sources ∙ ap (λ l. l ++ x.inner) c.same_sources;
  sinks = x.sinks ∙ ap (λ l. l ++ sinks_of feeds topology.stages x.all.bodies) c.same_sinks;
}

unopened_with_as : (feeds : Feeds) (topology : Topology) (live : Option (List ℕ)) (name : List ℕ) (rest : List (EdgeKind × List ℕ)) (call : EdgeKind × List ℕ) (old middle new : EdgesSeen) → Called old middle call
    → IsUnopenedWith feeds topology live name rest middle new → IsUnopenedWith feeds topology live name rest old new
unopened_with_as feeds topology None name rest call old middle new c x = unopened_as feeds topology name rest call old middle new c x
unopened_with_as feeds topology (Some live) name rest call old middle new c (inl x) = inl (x.0, x.1, unopened_as feeds topology name x.0 call old middle new c x.2)
unopened_with_as feeds topology (Some live) name rest call old middle new c (inr x) = inr (x.0, x.1, all_unused_as feeds topology call old middle new c x.2)

given_back_as : (feeds : Feeds) (live : Option (List ℕ)) (is_file : Type 0) (topology : Topology) (name : List ℕ) (rest : List (EdgeKind × List ℕ)) (call : EdgeKind × List ℕ) (old middle new : EdgesSeen) → Called old middle call
    → (is_file × IsNothingBack middle new) ⊎ IsUnopenedWith feeds topology live name rest middle new → (is_file × IsNothingBack old new) ⊎ IsUnopenedWith feeds topology live name rest old new
given_back_as feeds live is_file topology name rest call old middle new c (inl x) = inl (x.0, (x.1.0 ∙ c.same_sources, x.1.1 ∙ c.same_sinks))
given_back_as feeds live is_file topology name rest call old middle new c (inr x) = inr (unopened_with_as feeds topology live name rest call old middle new c x)

given_up_as : (feeds : Feeds) (live : Option (List ℕ)) (topology : Topology) (call : EdgeKind × List ℕ) (calls : List (EdgeKind × List ℕ)) (old middle new : EdgesSeen) → Called old middle call
    → IsGivenUp feeds live calls topology middle new → IsGivenUp feeds live (call ∷ calls) topology old new
unfolding fails_as
given_up_as feeds live topology call calls old middle new c x = record {
  name = x.name;
  fails = fails_as old.told middle.told call calls old.asked middle.asked new.asked old.faults middle.faults new.faults x.name c.names.same_telling c.faults_stay c.one_call x.fails;
  back = given_back_as feeds live (x.fails.kind ≡ File) topology x.name x.fails.rest call old middle new c x.back;
}

cut_as : (old new : EdgesSeen) (calls made : List (EdgeKind × List ℕ)) (back : List (List ℕ × SourceSeen)) → SameNames old new → IsCut new calls made back → IsCut old calls made back
cut_as old new calls made back same x = record {
  rest = x.rest;
  parts = x.parts;
  of_sources = x.of_sources;
  unread = unread_as old new (take (length back) made) back same x.unread;
}

failed_in_part_as : (topology : Topology) (of calls : List (EdgeKind × List ℕ)) (back : List (List ℕ × SourceSeen)) (parts : ℕ) (call : EdgeKind × List ℕ) (old middle new : EdgesSeen) → Called old middle call
    → IsFailedInPart topology of calls back parts middle new → IsFailedInPart topology of calls back parts old new
failed_in_part_as topology of calls back parts call old middle new c x = record {
  kind = x.kind;
  name = x.name;
  front = x.front;
  behind = x.behind;
  is = x.is;
  are_made = x.are_made;
  unread = unread_as old middle x.front back c.names x.unread;
  fault = rose_from old.faults middle.faults new.faults c.faults_stay x.fault;
  some_left = x.some_left;
}

either_as : (topology : Topology) (of calls : List (EdgeKind × List ℕ)) (back : List (List ℕ × SourceSeen)) (parts : ℕ) (call : EdgeKind × List ℕ) (old middle new : EdgesSeen) → Called old middle call
    → IsCut middle of calls back ⊎ IsFailedInPart topology of calls back parts middle new → IsCut old of calls back ⊎ IsFailedInPart topology of calls back parts old new
either_as topology of calls back parts call old middle new c (inl x) = inl (cut_as old middle of calls back c.names x)
either_as topology of calls back parts call old middle new c (inr x) = inr (failed_in_part_as topology of calls back parts call old middle new c x)

stage_cut_as : (feeds : Feeds) (topology : Topology) (start : ℕ → Option BodySeen) (rest : List (EdgeKind × List ℕ)) (call : EdgeKind × List ℕ) (old middle new : EdgesSeen) → Called old middle call
    → IsStageCut feeds topology start rest middle new → IsStageCut feeds topology start rest old new
stage_cut_as feeds topology start rest call old middle new c x = record {
  at = x.at;
  spec = x.spec;
  here = x.here;
  made = x.made;
  back = x.back;
  parts = x.parts;
  more = x.more;
  cut = either_as topology (stage_calls feeds x.spec) x.made x.back x.parts call old middle new c x.cut;
  to_come = x.to_come;
  control = x.control;
  lines = has_source old middle (control_call topology.control) None x.control c.names x.lines;
  opened = x.opened;
  bodies = are_opened feeds topology x.at old middle start x.opened c.names x.bodies;
  inner = x.inner;
  ungated = x.ungated;
  sources = x.sources ∙ ap (λ l. l ++ (x.back ++ x.inner)) c.same_sources;
  sinks = x.sinks ∙ ap (λ l. l ++ first_sinks feeds x.parts topology x.opened) c.same_sinks;
}

opened_in_part_as : (feeds : Feeds) (topology : Topology) (rest : List (EdgeKind × List ℕ)) (call : EdgeKind × List ℕ) (old middle new : EdgesSeen) → Called old middle call
    → IsOpenedInPart feeds topology rest middle new → IsOpenedInPart feeds topology rest old new
opened_in_part_as feeds topology rest call old middle new c (inl x) = inl (record {
  made = x.made;
  back = x.back;
  cut = cut_as old middle (one (control_call topology.control)) x.made x.back c.names x.cut;
  to_come = x.to_come;
  sources = x.sources ∙ ap (λ l. l ++ x.back) c.same_sources;
  sinks = x.sinks ∙ c.same_sinks;
})
opened_in_part_as feeds topology rest call old middle new c (inr x) = inr (x.0, x.1, stage_cut_as feeds topology x.0 rest call old middle new c x.2)

live_back_as : (old middle : EdgesSeen) (name : List ℕ) (rest : List (EdgeKind × List ℕ)) (back : List (List ℕ × SinkSeen)) → SameNames old middle → IsLiveBack middle name rest back → IsLiveBack old name rest back
live_back_as old middle name rest back same (inl x) = inl x
live_back_as old middle name rest back same (inr x) = inr (x.0, x.1, x.2, gives_sink old middle name x.0 same x.3)

all_opened_in_part_as : (feeds : Feeds) (topology : Topology) (live : List ℕ) (rest : List (EdgeKind × List ℕ)) (call : EdgeKind × List ℕ) (old middle new : EdgesSeen) → Called old middle call
    → IsAllOpenedInPart feeds topology live rest middle new → IsAllOpenedInPart feeds topology live rest old new
all_opened_in_part_as feeds topology live rest call old middle new c x = record {
  made = x.made;
  to_come = x.to_come;
  all = all_open_as feeds topology old middle c.names x.all;
  parts = x.parts;
  more = x.more;
  inner = x.inner;
  ungated = x.ungated;
  back = x.back;
  unwritten = live_back_as old middle live rest x.back c.names x.unwritten;
  sources = x.sources ∙ ap (λ l. l ++ x.inner) c.same_sources;
  sinks = x.sinks ∙ ap (λ l. l ++ (first_sinks feeds x.parts topology x.all.bodies ++ x.back)) c.same_sinks;
}

in_part_with_as : (feeds : Feeds) (topology : Topology) (live : Option (List ℕ)) (rest : List (EdgeKind × List ℕ)) (call : EdgeKind × List ℕ) (old middle new : EdgesSeen) → Called old middle call
    → IsOpenedInPartWith feeds topology live rest middle new → IsOpenedInPartWith feeds topology live rest old new
in_part_with_as feeds topology None rest call old middle new c x = opened_in_part_as feeds topology rest call old middle new c x
in_part_with_as feeds topology (Some live) rest call old middle new c (inl x) = inl (x.0, x.1, opened_in_part_as feeds topology x.0 call old middle new c x.2)
in_part_with_as feeds topology (Some live) rest call old middle new c (inr x) = inr (all_opened_in_part_as feeds topology live rest call old middle new c x)

broken_off_as : (feeds : Feeds) (live : Option (List ℕ)) (topology : Topology) (call : EdgeKind × List ℕ) (calls : List (EdgeKind × List ℕ)) (old middle new : EdgesSeen) → Called old middle call
    → IsBrokenOff feeds live calls topology middle new → IsBrokenOff feeds live (call ∷ calls) topology old new
broken_off_as feeds live topology call calls old middle new c x = record {
  front = call ∷ x.front;
  rest = x.rest;
  parts = ap (λ l. call ∷ l) x.parts;
  asked = λ t. x.asked (rw c.names.same_telling t) ∙ ap (λ l. l ++ x.front) (c.one_call t) ∙ append_assoc old.asked (call ∷ []) x.front;
  back = by_back x.back;
}
  where
    by_back : (All (λ (f : EdgeKind × List ℕ). f.0 ≡ File) x.front × IsNothingBack middle new) ⊎ IsOpenedInPartWith feeds topology live x.rest middle new
        → (All (λ (f : EdgeKind × List ℕ). f.0 ≡ File) (call ∷ x.front) × IsNothingBack old new) ⊎ IsOpenedInPartWith feeds topology live x.rest old new
    by_back (inl b) = inl (All-cons (λ (f : EdgeKind × List ℕ). f.0 ≡ File) call x.front c.is_file b.0, (b.1.0 ∙ c.same_sources, b.1.1 ∙ c.same_sinks))
    by_back (inr b) = inr (in_part_with_as feeds topology live x.rest call old middle new c b)

given_or_wanting : (feeds : Feeds) (live : Option (List ℕ)) (memory : Type 0) (topology : Topology) (call : EdgeKind × List ℕ) (calls : List (EdgeKind × List ℕ)) (old middle new : EdgesSeen) → Called old middle call
    → (memory × IsBrokenOff feeds live calls topology middle new) ⊎ IsGivenUp feeds live calls topology middle new
    → (memory × IsBrokenOff feeds live (call ∷ calls) topology old new) ⊎ IsGivenUp feeds live (call ∷ calls) topology old new
given_or_wanting feeds live memory topology call calls old middle new c (inl m) = inl (m.0, broken_off_as feeds live topology call calls old middle new c m.1)
given_or_wanting feeds live memory topology call calls old middle new c (inr x) = inr (given_up_as feeds live topology call calls old middle new c x)

live_sink_as : (name text : List ℕ) (whole failed : Bool) (old middle behind new : EdgesSeen) → SameNames old middle → IsLiveSink middle name text whole failed behind new → IsLiveSink old name text whole failed behind new
live_sink_as name text whole failed old middle behind new same x = record {
  opened = x.opened;
  given = gives_sink old middle name x.opened same x.given;
  sink = x.sink;
  same_telling = x.same_telling;
  fed = x.fed;
  fault = x.fault;
  last = x.last;
  sources = x.sources;
  telling = x.telling;
  asked = x.asked;
  no_fault = x.no_fault;
}

outside_with_as : (feeds : Feeds) (whole : Bool) (topology : Topology) (before : History) (live : Option (List ℕ)) (text : List ℕ) (failed : Bool) (call : EdgeKind × List ℕ) (old middle new : EdgesSeen) → Called old middle call
    → IsOutsideWith feeds whole topology before live text failed middle new → IsOutsideWith feeds whole topology before live text failed old new
outside_with_as feeds whole topology before None text failed call old middle new c x = outside_as feeds whole topology before call old middle new c x
outside_with_as feeds whole topology before (Some name) text failed call old middle new c x = record {
  middle = x.middle;
  outside = outside_as feeds whole topology before call old middle x.middle c x.outside;
  sink = live_sink_as name text whole failed old middle x.middle new c.names x.sink;
}

run_or_not_as : (feeds : Feeds) (live : Option (List ℕ)) (memory : Type 0) (says : Bool → Type 0) (wanted : Topology) (topology : Option Topology) (before : History) (call : EdgeKind × List ℕ) (calls : List (EdgeKind × List ℕ)) (old : OutsideSeen) (middle : EdgesSeen) (new : OutsideSeen)
    → Called old.edges middle call → HasRunOrNot feeds live memory says calls wanted topology before (with_edges old middle) new → HasRunOrNot feeds live memory says (call ∷ calls) wanted topology before old new
run_or_not_as feeds live memory says wanted (Some t) before call calls old middle new c x = record {
  whole = x.whole;
  wanting = x.wanting;
  unfed = x.unfed;
  said = x.said;
  outside = outside_with_as feeds x.whole wanted before live (ack_text wanted before) x.unfed call old.edges middle new.edges c x.outside;
  time = x.time;
  idle = x.idle;
  boxes = x.boxes;
}
run_or_not_as feeds live memory says wanted None before call calls old middle new c x = record {
  edges = given_or_wanting feeds live memory wanted call calls old.edges middle new.edges c x.edges;
  clock = x.clock;
  boxes = x.boxes;
}

untouched_as : (call : EdgeKind × List ℕ) (old : OutsideSeen) (middle : EdgesSeen) (new : OutsideSeen) → Called old.edges middle call → IsUntouched (with_edges old middle) new → IsUntouched old new
untouched_as call old middle new c x = record {
  sources = x.sources ∙ c.same_sources;
  sinks = x.sinks ∙ c.same_sinks;
  clock = x.clock;
  boxes = x.boxes;
}

may_be_back_as : (call : EdgeKind × List ℕ) (name : List ℕ) (old middle new : EdgesSeen) → Called old middle call → MayBeBack name middle new → MayBeBack name old new
may_be_back_as call name old middle new c (inl x) = inl (x ∙ c.same_sources)
may_be_back_as call name old middle new c (inr x) = inr (x.0, x.1 ∙ ap (λ l. l ++ (name, x.0) ∷ []) c.same_sources)

journal_back_as : (call : EdgeKind × List ℕ) (name : List ℕ) (old : OutsideSeen) (middle : EdgesSeen) (new : OutsideSeen) → Called old.edges middle call → IsJournalBack name (with_edges old middle) new → IsJournalBack name old new
journal_back_as call name old middle new c x = record {
  sources = may_be_back_as call name old.edges middle new.edges c x.sources;
  sinks = x.sinks ∙ c.same_sinks;
  clock = x.clock;
  boxes = x.boxes;
}

-- what is found of a journal
audit_of_as : (call : EdgeKind × List ℕ) (name : List ℕ) (end : Result Summary AuditFault) (wanted : Topology) (old middle new : EdgesSeen) → Called old middle call → IsAuditOf name end wanted middle new → IsAuditOf name end wanted old new
audit_of_as call name end wanted old middle new c x = record {
  opened = x.opened;
  source = x.source;
  given = gives_source old middle name x.opened c.names x.given;
  same_telling = x.same_telling;
  same_bytes = x.same_bytes;
  found = x.found;
  cause = x.cause;
  back = x.back ∙ ap (λ l. l ++ (name, x.source) ∷ []) c.same_sources;
}

audited_as : (case : Case) (call : EdgeKind × List ℕ) (old middle new : EdgesSeen) → Called old middle call → IsAuditedIn case middle new → IsAuditedIn case old new
audited_as NoCommand call old middle new c x = tt
audited_as (BadTopology fault) call old middle new c x = tt
audited_as (TooFew shortage) call old middle new c x = tt
audited_as (Checks wanted) call old middle new c x = tt
audited_as (Upgrades file text wanted) call old middle new c x = tt
audited_as (Audits name summary wanted) call old middle new c x = audit_of_as call name (Ok summary) wanted old middle new c x
audited_as (Rejects name fault wanted) call old middle new c x = audit_of_as call name (Err fault) wanted old middle new c x
audited_as (Runs shows live feeding wanted) call old middle new c x = tt

outside_of_as : (memory : Type 0) (says : Bool → Type 0) (case : Case) (topology : Option Topology) (before : History) (call : EdgeKind × List ℕ) (calls : List (EdgeKind × List ℕ)) (old : OutsideSeen) (middle : EdgesSeen) (new : OutsideSeen)
    → Called old.edges middle call → IsOutsideOf memory says calls topology before case (with_edges old middle) new → IsOutsideOf memory says (call ∷ calls) topology before case old new
outside_of_as memory says NoCommand topology before call calls old middle new c x = untouched_as call old middle new c x
outside_of_as memory says (BadTopology fault) topology before call calls old middle new c x = untouched_as call old middle new c x
outside_of_as memory says (TooFew shortage) topology before call calls old middle new c x = untouched_as call old middle new c x
outside_of_as memory says (Checks wanted) topology before call calls old middle new c x = untouched_as call old middle new c x
outside_of_as memory says (Upgrades file text wanted) topology before call calls old middle new c x = untouched_as call old middle new c x
outside_of_as memory says (Audits name summary wanted) topology before call calls old middle new c x = journal_back_as call name old middle new c x
outside_of_as memory says (Rejects name fault wanted) topology before call calls old middle new c x = journal_back_as call name old middle new c x
outside_of_as memory says (Runs shows live feeding wanted) topology before call calls old middle new c x = run_or_not_as (feeds_of feeding wanted) live memory says wanted topology before call calls old middle new c x

-- ---- the outcome

early_as : (fails fails' : List ℕ → Type 0) (topology : Option Topology) (before : History) (verdict : Verdict) → ((name : List ℕ) → fails name → fails' name)
    → IsEarly fails topology before verdict → IsEarly fails' topology before verdict
early_as fails fails' None before (Refused Memory) so e = e
early_as fails fails' None before (Refused (Edge name)) so e = (e.0, so name e.1)
early_as fails fails' None before (Refused Usage) so e = absurd e
early_as fails fails' None before (Refused (NoTopology fault)) so e = absurd e
early_as fails fails' None before (Refused (Stock shortage)) so e = absurd e
early_as fails fails' None before (Refused (Audit fault)) so e = absurd e
early_as fails fails' None before (Done texts status) so e = absurd e
early_as fails fails' None before (Unfed texts line) so e = absurd e
early_as fails fails' (Some t) before verdict so e = absurd e

outcome_as : (case : Case) (fails fails' : List ℕ → Type 0) (topology : Option Topology) (before : History) (verdict : Verdict) → ((name : List ℕ) → fails name → fails' name)
    → Outcome case fails topology before verdict → Outcome case fails' topology before verdict
outcome_as case fails fails' topology before verdict so (inl e) = inl (early_as fails fails' topology before verdict so e)
outcome_as case fails fails' topology before verdict so (inr r) = inr r

-- ---- the calls

asked_as : (verdict : Verdict) (call : EdgeKind × List ℕ) (calls asked middle asked' : List (EdgeKind × List ℕ)) → middle ≡ asked ++ call ∷ [] → AskedBy verdict calls middle asked' → AskedBy verdict (call ∷ calls) asked asked'
asked_as (Refused (Edge name)) call calls asked middle asked' first a = tt
asked_as (Refused Memory) call calls asked middle asked' first a = record {
  count = suc a.count;
  is = a.is ∙ ap (λ x. x ++ take a.count calls) first ∙ append_assoc asked (call ∷ []) (take a.count calls);
}
asked_as (Done texts status) call calls asked middle asked' first a = a ∙ ap (λ x. x ++ calls) first ∙ append_assoc asked (call ∷ []) calls
asked_as (Unfed texts line) call calls asked middle asked' first a = a ∙ ap (λ x. x ++ calls) first ∙ append_assoc asked (call ∷ []) calls
asked_as (Refused Usage) call calls asked middle asked' first a = a ∙ ap (λ x. x ++ calls) first ∙ append_assoc asked (call ∷ []) calls
asked_as (Refused (NoTopology fault)) call calls asked middle asked' first a = a ∙ ap (λ x. x ++ calls) first ∙ append_assoc asked (call ∷ []) calls
asked_as (Refused (Stock shortage)) call calls asked middle asked' first a = a ∙ ap (λ x. x ++ calls) first ∙ append_assoc asked (call ∷ []) calls
asked_as (Refused (Audit fault)) call calls asked middle asked' first a = a ∙ ap (λ x. x ++ calls) first ∙ append_assoc asked (call ∷ []) calls

-- ---- the whole

pub after_call : (old : OutsideSeen) (middle : EdgesSeen) (new : OutsideSeen) (case : Case) (call : EdgeKind × List ℕ) (calls : List (EdgeKind × List ℕ)) (topology : Option Topology) (before : History) (verdict : Verdict)
    → Called old.edges middle call → ComesBy (record old { edges = middle }) new case calls topology before verdict → ComesBy old new case (call ∷ calls) topology before verdict
after_call old middle new case call calls topology before verdict c x = record {
  outcome = outcome_as case
      (FailsAt middle.told calls middle.asked new.edges.asked (Rose middle.faults new.edges.faults))
      (FailsAt old.edges.told (call ∷ calls) old.edges.asked new.edges.asked (Rose old.edges.faults new.edges.faults))
      topology before verdict
      (λ name f. fails_as old.edges.told middle.told call calls old.edges.asked middle.asked new.edges.asked old.edges.faults middle.faults new.edges.faults name c.names.same_telling c.faults_stay c.one_call f)
      x.outcome;
  outside = outside_of_as (verdict ≡ Refused Memory) (ShowsUnfed verdict) case topology before call calls old middle new c x.outside;
  asked_by = λ t. asked_as verdict call calls old.edges.asked middle.asked new.edges.asked (c.one_call t) (x.asked_by (rw c.names.same_telling t));
  same_telling = x.same_telling ∙ c.names.same_telling;
  audited = λ a b. audited_as case call old.edges middle new.edges c (x.audited a b);
}
