-- A run that did not begin, since there was no watch over its live sink.
use Rattle.std.proofs.Common.{ℕ, List, [], ◌∷◌, ◌++◌, refl, sym, ◌∙◌, ap, inl, inr, Option, Some, None, Result, Ok, Err, arith}
use Rattle.std.specs.Prelude.{IfErr}
use Rattle.std.proofs.lemmas.List.{append_assoc}
use Rattle.pipe_types.specs.declared.topology.Topology.{Topology}
use Rattle.pipe_edges.specs.declared.edges.EdgeKind.{EdgeKind}
use Rattle.pipe_edges.specs.declared.edges.EdgeKind.TheVariants.{Sink}
use Rattle.stage_bodies.specs.Seen.{SinkSeen, LineSeen, BodySeen}
use Rattle.edge_names.specs.Supplies.{Feeds}
use Rattle.edge_names.specs.Seen.{EdgesSeen}
use Rattle.edge_names.specs.Opened.{Asks}
use Rattle.edge_names.specs.Controls.{first_sinks, run_calls}
use Rattle.edge_names.specs.Returned.{sinks_of}
use Rattle.edge_names.proofs.Cuts.{rose_after}
use Rattle.pipe_run.specs.Live.{IsLiveBack}
use Rattle.pipe_run.specs.Outside.{AreAsked, IsAllOpen}
use Rattle.pipe_run.specs.Steps.{IsLiveCut, IsLiveFailed, NotBegun}
use Rattle.pipe_run.specs.Whole.{HasFailed, HasWanted, IfUnopened, IfWanting}
use Rattle.pipe_run.specs.declared.run.NoRun.{NoRun}
use Rattle.pipe_run.specs.declared.run.NoRun.TheVariants.{Unopened, OutOfMemory}
use Rattle.pipe_run.specs.declared.run.Run.{Run}
use Rattle.pipe_run.proofs.Wholes.{IsOpenedFor, gives_sink_from}

asked_more : (xs ys : List (EdgeKind × List ℕ)) (old mid new : EdgesSeen) → Asks xs old mid → AreAsked ys mid new → AreAsked (xs ++ ys) old new
asked_more xs ys old mid new first then = record {
  same_telling = then.same_telling ∙ first.same_telling;
  asked = λ t. then.asked (first.same_telling ∙ t) ∙ ap (λ z. z ++ ys) (first.asked t) ∙ append_assoc old.asked xs ys;
  faults_stay = omega (arith, first.faults_stay, then.faults_stay);
}

abbrev all_open : (feeds : Feeds) (topology : Topology) (table opened : ℕ → Option BodySeen) (fresh : Option LineSeen) (old mid : EdgesSeen) → IsOpenedFor feeds topology table opened fresh old mid → IsAllOpen feeds topology old
all_open feeds topology table opened fresh old mid o = record { control = fresh; unread = o.lines; start = table; handed = o.handed; bodies = opened; opened = o.opens }

-- all else was open when its call failed
failed_last : (name : List ℕ) (feeds : Feeds) (topology : Topology) (table opened : ℕ → Option BodySeen) (fresh : Option LineSeen) (old mid new : EdgesSeen) → IsOpenedFor feeds topology table opened fresh old mid
    → IsLiveFailed name feeds topology fresh opened mid new → HasFailed feeds topology (Some name) name old new
failed_last name feeds topology table opened fresh old mid new o f = record {
  kind = Sink;
  front = run_calls feeds topology;
  rest = [];
  calls = refl;
  asks = asked_more (run_calls feeds topology) ((Sink, name) ∷ []) old mid new o.asks f.asks;
  fault = rose_after old.faults mid.faults new.faults o.asks.faults_stay f.fault;
  back = inr (
    refl,
    refl,
    record {
      all = all_open feeds topology table opened fresh old mid o;
      inner = f.inner;
      ungated = f.ungated;
      sources = f.sources ∙ ap (λ z. z ++ f.inner) o.asks.sources;
      sinks = f.sinks ∙ ap (λ z. z ++ sinks_of feeds topology.stages opened) o.asks.sinks;
    },
  );
}

back_from : (calls rest : List (EdgeKind × List ℕ)) (a b : EdgesSeen) (name : List ℕ) (back : List (List ℕ × SinkSeen)) → Asks calls a b → IsLiveBack b name rest back → IsLiveBack a name rest back
back_from calls rest a b name back asks (inl none) = inl none
back_from calls rest a b name back asks (inr one) = inr (one.0, one.1, one.2, gives_sink_from calls a b name one.0 asks one.3)

-- or memory was wanting
wanted_last : (name : List ℕ) (feeds : Feeds) (topology : Topology) (table opened : ℕ → Option BodySeen) (fresh : Option LineSeen) (old mid new : EdgesSeen) → IsOpenedFor feeds topology table opened fresh old mid
    → IsLiveCut name feeds topology fresh opened mid new → HasWanted feeds topology (Some name) old new
wanted_last name feeds topology table opened fresh old mid new o c = record {
  front = run_calls feeds topology ++ c.made;
  rest = c.rest;
  calls = ap (λ z. run_calls feeds topology ++ z) c.to_come ∙ sym (append_assoc (run_calls feeds topology) c.made c.rest);
  asks = asked_more (run_calls feeds topology) c.made old mid new o.asks c.asks;
  back = inr (record {
    made = c.made;
    to_come = c.to_come;
    all = all_open feeds topology table opened fresh old mid o;
    parts = c.parts;
    more = c.more;
    inner = c.inner;
    ungated = c.ungated;
    back = c.back;
    unwritten = back_from (run_calls feeds topology) c.rest old mid name c.back o.asks c.unwritten;
    sources = c.sources ∙ ap (λ z. z ++ c.inner) o.asks.sources;
    sinks = c.sinks ∙ ap (λ z. z ++ (first_sinks feeds c.parts topology opened ++ c.back)) o.asks.sinks;
  });
}

-- ---- by why there was no run

failed_why : (live : Option (List ℕ)) (feeds : Feeds) (topology : Topology) (table opened : ℕ → Option BodySeen) (fresh : Option LineSeen) (old mid new : EdgesSeen) (why : NoRun) → IsOpenedFor feeds topology table opened fresh old mid
    → NotBegun live feeds topology fresh opened why mid new → IfUnopened why (λ name. HasFailed feeds topology live name old new)
failed_why (Some live) feeds topology table opened fresh old mid new (Unopened name) o (same, failed) =
    rw same (failed_last live feeds topology table opened fresh old mid new o failed)
failed_why (Some live) feeds topology table opened fresh old mid new OutOfMemory o none = tt
failed_why None feeds topology table opened fresh old mid new why o none = absurd none

wanted_why : (live : Option (List ℕ)) (feeds : Feeds) (topology : Topology) (table opened : ℕ → Option BodySeen) (fresh : Option LineSeen) (old mid new : EdgesSeen) (why : NoRun) → IsOpenedFor feeds topology table opened fresh old mid
    → NotBegun live feeds topology fresh opened why mid new → IfWanting why (HasWanted feeds topology live old new)
wanted_why (Some live) feeds topology table opened fresh old mid new (Unopened name) o none = tt
wanted_why (Some live) feeds topology table opened fresh old mid new OutOfMemory o cut = wanted_last live feeds topology table opened fresh old mid new o cut
wanted_why None feeds topology table opened fresh old mid new why o none = absurd none

-- ---- whether or not there was one

pub failed_in : (live : Option (List ℕ)) (feeds : Feeds) (topology : Topology) (table opened : ℕ → Option BodySeen) (fresh : Option LineSeen) (old mid new : EdgesSeen) (r : Result Run NoRun) → IsOpenedFor feeds topology table opened fresh old mid
    → IfErr r (λ e. NotBegun live feeds topology fresh opened e mid new) → IfErr r (λ e. IfUnopened e (λ name. HasFailed feeds topology live name old new))
failed_in live feeds topology table opened fresh old mid new (Ok run) o none = tt
failed_in live feeds topology table opened fresh old mid new (Err why) o none = failed_why live feeds topology table opened fresh old mid new why o none

pub wanted_in : (live : Option (List ℕ)) (feeds : Feeds) (topology : Topology) (table opened : ℕ → Option BodySeen) (fresh : Option LineSeen) (old mid new : EdgesSeen) (r : Result Run NoRun) → IsOpenedFor feeds topology table opened fresh old mid
    → IfErr r (λ e. NotBegun live feeds topology fresh opened e mid new) → IfErr r (λ e. IfWanting e (HasWanted feeds topology live old new))
wanted_in live feeds topology table opened fresh old mid new (Ok run) o none = tt
wanted_in live feeds topology table opened fresh old mid new (Err why) o none = wanted_why live feeds topology table opened fresh old mid new why o none
