-- The live sink of a run: how it is opened, fed and given back, and what that makes of a run.
use Rattle.std.proofs.Common.{◌≡◌, ℕ, suc, List, [], ◌∷◌, ◌++◌, length, Bool, true, false, not, refl, sym, ◌∙◌, ap, subst, inl, inr, Option, Some, None, Result, Ok, Err, arith}
use Rattle.std.specs.Prelude.{◌⊎◌, ◌&&◌, if◌then◌else◌, IsTrue, OnErr, OnOk, is_ok}
use Rattle.std.proofs.lemmas.List.{append-nil, append_assoc}
use Rattle.pipe_types.specs.Counts.{Rose}
use Rattle.pipe_types.specs.declared.topology.Topology.{Topology}
use Rattle.pipe_model.specs.History.{History}
use Rattle.pipe_edges.specs.declared.edges.EdgeKind.{EdgeKind}
use Rattle.pipe_edges.specs.declared.edges.EdgeKind.TheVariants.{Sink}
use Rattle.stage_bodies.specs.Seen.{SinkSeen, LineSeen, BodySeen}
use Rattle.run_pipe.specs.Clocks.{ClockSeen}
use Rattle.run_pipe.specs.Watches.{KeepsWatch, WatchSeen}
use Rattle.edge_names.specs.Supplies.{Feeds}
use Rattle.edge_names.specs.Seen.{EdgesSeen}
use Rattle.edge_names.specs.Named.{BacksSink, GivesSink, back_after}
use Rattle.edge_names.specs.Opened.{Asks}
use Rattle.edge_names.specs.Controls.{IsGivenInPart, first_sources, first_sinks, named_control}
use Rattle.edge_names.specs.Returned.{GivesOff, sources_of, sinks_of}
use Rattle.pipe_run.specs.Live.{IsFed, IsFedSince, IsLiveBack, IsLiveOpened, IsLiveSink, held_in}
use Rattle.pipe_run.specs.Steps.{IsLiveCut, IsUndoneBy, WentLive, WentOn}
use Rattle.pipe_run.specs.declared.run.NoRun.TheVariants.{Unopened, OutOfMemory}
use Rattle.pipe_run.proofs.Calls.{asked_all}
use Rattle.pipe_run.proofs.Runs.{all_back, went_to}

-- ---- its watch

told_by : (text : List ℕ) (all tells : Bool) (held : List ℕ) (sink : SinkSeen) → IsFedSince text all (if tells then Some held else None) sink → sink.told ≡ tells
told_by text all true held sink fed = fed.0
told_by text all false held sink fed = fed

fed_by : (text : List ℕ) (all tells : Bool) (held : List ℕ) (sink : SinkSeen) → IsFedSince text all (if tells then Some held else None) sink → IsTrue tells → IsFed text all held sink.held
fed_by text all true held sink fed t = fed.1
fed_by text all false held sink fed t = let x : false ≡ true = t in cc

last_by : {T E : Type 0} (end : Result T E) (whole : Bool) (given : List ℕ × SinkSeen) (before now : List (List ℕ × SinkSeen)) → now ≡ back_after end given before → OnErr end (whole ≡ false)
    → (now ≡ before ++ given ∷ []) ⊎ ((whole ≡ false) × (now ≡ before))
last_by (Ok t) whole given before now is wanting = inl is
last_by (Err e) whole given before now is wanting = inr (wanting, is)

live_sink : {T E : Type 0} (name text : List ℕ) (first last : WatchSeen) (whole failed : Bool) (sink : SinkSeen) (old begun middle new : EdgesSeen) (end : Result T E) → IsLiveOpened name first old begun → KeepsWatch first last → failed ≡ last.failed
    → sink.faults ≡ last.faults → IsFedSince text (whole && not failed) last.begun sink → BacksSink name sink middle new end → OnErr end (whole ≡ false) → IsLiveSink old name text whole failed middle new
live_sink name text first last whole failed sink old begun middle new end opens kept known faults fed back wanting =
    let since : IsFedSince text (whole && not failed) (held_in opens.sink) sink = subst (λ (b : Option (List ℕ)). IsFedSince text (whole && not failed) b sink) (kept.begun ∙ opens.begun) fed in
    record {
      opened = opens.sink;
      given = opens.given;
      sink = sink;
      same_telling = told_by text (whole && not failed) opens.sink.told opens.sink.held sink since;
      fed = fed_by text (whole && not failed) opens.sink.told opens.sink.held sink since;
      fault = λ f. subst (λ n. Rose n sink.faults) opens.no_fault (subst (λ n. Rose first.faults n) (sym faults) (kept.faulty (sym known ∙ f) opens.whole));
      last = last_by end whole (name, sink) middle.sinks_back new.sinks_back back.sinks wanting;
      sources = back.sources;
      telling = back.same_telling;
      asked = back.asked;
      no_fault = back.no_fault;
    }

both_of : (a b : Bool) → (a && not b) ≡ true → (a ≡ true) × (b ≡ false)
both_of true false h = (refl, refl)
both_of true true h = cc
both_of false b h = cc

narrower : {T E : Type 0} (end : Result T E) (whole now : Bool) → OnOk end (now ≡ whole) → OnErr end (now ≡ false) → (now ≡ whole) ⊎ (now ≡ false)
narrower (Ok t) whole now same wanting = inl same
narrower (Err e) whole now same wanting = inr wanting

pub same_end : {T E X F : Type 0} (end : Result T E) (now before : Result X F) → OnOk end (now ≡ before) → OnOk end (is_ok now ≡ is_ok before)
same_end (Ok t) now before same = ap is_ok same
same_end (Err e) now before same = tt

whole_before : (whole now : Bool) → (now ≡ whole) ⊎ (now ≡ false) → now ≡ true → whole ≡ true
whole_before whole now (inl same) t = sym same ∙ t
whole_before whole now (inr wanting) t = let x : false ≡ true = sym wanting ∙ t in cc

-- the run went on with the sink that was opened, which then went back
pub went_live : {T E : Type 0} (name text : List ℕ) (feeds : Feeds) (whole now : Bool) (topology : Topology) (before : History) (opened final : ℕ → Option BodySeen) (fresh : Option LineSeen) (old begun middle new : EdgesSeen) (clock clock' : ClockSeen) (first last : WatchSeen) (failed : Bool) (sink : SinkSeen) (end : Result T E)
    → IsLiveOpened name first old begun → WentOn feeds whole topology before opened final fresh begun middle clock clock' → KeepsWatch first last → failed ≡ last.failed → sink.faults ≡ last.faults
    → ((all : Bool) → (IsTrue all → (last.failed ≡ false) × IsTrue whole) → IsFedSince text all last.begun sink) → BacksSink name sink middle new end → OnOk end (now ≡ whole) → OnErr end (now ≡ false)
    → WentLive name feeds now topology before text failed opened final fresh old new clock clock'
went_live name text feeds whole now topology before opened final fresh old begun middle new clock clock' first last failed sink end opens went kept known faults fed back same wanting = record {
  begun = begun;
  middle = middle;
  asks = opens.asks;
  went = went_to feeds whole now topology before opened final fresh begun middle clock clock' narrow went;
  sink = live_sink name text first last now failed sink old begun middle new end opens kept known faults (fed (now && not failed) all) back wanting;
}
  where
    narrow : (now ≡ whole) ⊎ (now ≡ false)
    narrow = narrower end whole now same wanting

    all : IsTrue (now && not failed) → (last.failed ≡ false) × IsTrue whole
    all t = let b = both_of now failed t in (sym known ∙ b.1, whole_before whole now narrow b.0)

-- ---- where there is no watch over it

-- the first parts of what was opened were given back
record IsPartBack (feeds : Feeds) (topology : Topology) (control : Option LineSeen) (bodies : ℕ → Option BodySeen) (old new : EdgesSeen) : Type 0 where
  pub parts : ℕ
  pub more : ℕ
  pub back : GivesOff (first_sources feeds parts more topology control bodies) (first_sinks feeds parts topology bodies) old new

part_back : {T E : Type 0} (end : Result T E) (feeds : Feeds) (topology : Topology) (control : Option LineSeen) (bodies : ℕ → Option BodySeen) (old new : EdgesSeen)
    → OnOk end (GivesOff (named_control topology.control control ++ sources_of feeds topology.stages bodies) (sinks_of feeds topology.stages bodies) old new) → OnErr end (IsGivenInPart feeds topology control bodies old new)
    → IsPartBack feeds topology control bodies old new
part_back (Ok t) feeds topology control bodies old new all part = record { parts = suc (length topology.stages); more = 0; back = all_back feeds topology control bodies old new all }
part_back (Err e) feeds topology control bodies old new all part = record { parts = part.parts; more = part.more; back = part.back }

-- these sinks were given back, and nothing else
record IsSinkBack (back : List (List ℕ × SinkSeen)) (old new : EdgesSeen) : Type 0 where
  pub same_telling : new.told ≡ old.told
  pub sinks : new.sinks_back ≡ old.sinks_back ++ back
  pub sources : new.sources_back ≡ old.sources_back
  pub asked : IsTrue old.told → new.asked ≡ old.asked
  pub no_fault : new.faults ≡ old.faults

no_sink_back : (edges : EdgesSeen) → IsSinkBack [] edges edges
no_sink_back edges = record { same_telling = refl; sinks = sym (append-nil edges.sinks_back); sources = refl; asked = λ t. refl; no_fault = refl }

-- the sink went back as it was opened, or was let go
record IsLet (edges : EdgesSeen) (name : List ℕ) (old new : EdgesSeen) : Type 0 where
  pub back : List (List ℕ × SinkSeen)
  pub unwritten : IsLiveBack edges name [] back
  pub only : IsSinkBack back old new

let_go : {T E : Type 0} (edges : EdgesSeen) (name : List ℕ) (sink : SinkSeen) (old new : EdgesSeen) (end : Result T E) → GivesSink edges name sink → BacksSink name sink old new end → IsLet edges name old new
let_go edges name sink old new (Ok t) given back = record {
  back = (name, sink) ∷ [];
  unwritten = inr (sink, refl, refl, given);
  only = record { same_telling = back.same_telling; sinks = back.sinks; sources = back.sources; asked = back.asked; no_fault = back.no_fault };
}
let_go edges name sink old new (Err e) given back = record {
  back = [];
  unwritten = inl refl;
  only = record { same_telling = back.same_telling; sinks = back.sinks ∙ sym (append-nil old.sinks_back); sources = back.sources; asked = back.asked; no_fault = back.no_fault };
}

live_cut : (name : List ℕ) (feeds : Feeds) (topology : Topology) (control : Option LineSeen) (bodies : ℕ → Option BodySeen) (made rest : List (EdgeKind × List ℕ)) (back : List (List ℕ × SinkSeen)) (begun old mid new : EdgesSeen) → (Sink, name) ∷ [] ≡ made ++ rest → Asks made begun old
    → IsPartBack feeds topology control bodies old mid → IsLiveBack begun name rest back → IsSinkBack back mid new → IsLiveCut name feeds topology control bodies begun new
live_cut name feeds topology control bodies made rest back begun old mid new parts asks part unwritten only =
    let sources = first_sources feeds part.parts part.more topology control bodies in
    let sinks = first_sinks feeds part.parts topology bodies in
    let asked = asked_all made sources sinks begun old mid asks part.back in
    record {
      made = made;
      rest = rest;
      to_come = parts;
      asks = record {
        same_telling = only.same_telling ∙ asked.same_telling;
        asked = λ t. only.asked (asked.same_telling ∙ t) ∙ asked.asked t;
        faults_stay = omega (arith, asked.faults_stay, only.no_fault);
      };
      parts = part.parts;
      more = part.more;
      inner = part.back.inner;
      ungated = part.back.ungated;
      back = back;
      unwritten = unwritten;
      sources = only.sources ∙ part.back.back.back_sources ∙ ap (λ z. z ++ part.back.inner) asks.sources;
      sinks = only.sinks ∙ ap (λ z. z ++ back) (part.back.back.back_sinks ∙ ap (λ z. z ++ sinks) asks.sinks) ∙ append_assoc begun.sinks_back sinks back;
    }

-- its call failed, and all else was given back
pub undone_failed : (name failed : List ℕ) (feeds : Feeds) (topology : Topology) (control : Option LineSeen) (bodies : ℕ → Option BodySeen) (begun old new : EdgesSeen) → failed ≡ name → Asks ((Sink, name) ∷ []) begun old → Rose begun.faults old.faults
    → GivesOff (named_control topology.control control ++ sources_of feeds topology.stages bodies) (sinks_of feeds topology.stages bodies) old new → IsUndoneBy name feeds topology control bodies (Unopened failed) begun new
undone_failed name failed feeds topology control bodies begun old new same asks rose back = (
  same,
  record {
    asks = asked_all ((Sink, name) ∷ []) (named_control topology.control control ++ sources_of feeds topology.stages bodies) (sinks_of feeds topology.stages bodies) begun old new asks back;
    fault = subst (λ n. Rose begun.faults n) (sym back.back.no_fault) rose;
    inner = back.inner;
    ungated = back.ungated;
    sources = back.back.back_sources ∙ ap (λ z. z ++ back.inner) asks.sources;
    sinks = back.back.back_sinks ∙ ap (λ z. z ++ sinks_of feeds topology.stages bodies) asks.sinks;
  },
)

-- and memory was wanting for that
pub undone_in_part : (name : List ℕ) (feeds : Feeds) (topology : Topology) (control : Option LineSeen) (bodies : ℕ → Option BodySeen) (begun old new : EdgesSeen) → Asks ((Sink, name) ∷ []) begun old → IsGivenInPart feeds topology control bodies old new
    → IsUndoneBy name feeds topology control bodies OutOfMemory begun new
undone_in_part name feeds topology control bodies begun old new asks part =
    live_cut name feeds topology control bodies ((Sink, name) ∷ []) [] [] begun old new new refl asks (record { parts = part.parts; more = part.more; back = part.back }) (inl refl) (no_sink_back new)

-- memory was wanting before it was opened
pub undone_unopened : {T E : Type 0} (end : Result T E) (name : List ℕ) (feeds : Feeds) (topology : Topology) (control : Option LineSeen) (bodies : ℕ → Option BodySeen) (begun old new : EdgesSeen) → Asks [] begun old
    → OnOk end (GivesOff (named_control topology.control control ++ sources_of feeds topology.stages bodies) (sinks_of feeds topology.stages bodies) old new) → OnErr end (IsGivenInPart feeds topology control bodies old new)
    → IsUndoneBy name feeds topology control bodies OutOfMemory begun new
undone_unopened end name feeds topology control bodies begun old new asks all part =
    live_cut name feeds topology control bodies [] ((Sink, name) ∷ []) [] begun old new new refl asks (part_back end feeds topology control bodies old new all part) (inl refl) (no_sink_back new)

-- or behind that
pub undone_opened : {T E F : Type 0} (end : Result T E) (let_end : Result T F) (name : List ℕ) (feeds : Feeds) (topology : Topology) (control : Option LineSeen) (bodies : ℕ → Option BodySeen) (sink : SinkSeen) (begun old mid new : EdgesSeen) → Asks ((Sink, name) ∷ []) begun old → GivesSink begun name sink
    → OnOk end (GivesOff (named_control topology.control control ++ sources_of feeds topology.stages bodies) (sinks_of feeds topology.stages bodies) old mid) → OnErr end (IsGivenInPart feeds topology control bodies old mid)
    → BacksSink name sink mid new let_end → IsUndoneBy name feeds topology control bodies OutOfMemory begun new
undone_opened end let_end name feeds topology control bodies sink begun old mid new asks given all part back =
    let gone = let_go begun name sink mid new let_end given back in
    live_cut name feeds topology control bodies ((Sink, name) ∷ []) [] gone.back begun old mid new refl asks (part_back end feeds topology control bodies old mid all part) gone.unwritten gone.only
