-- What calls by name come to, as contracts see them.
use Rattle.std.proofs.Common.{◌≡◌, ◌≤◌, ℕ, Bool, List, [], ◌∷◌, refl, ap, sym, ◌∙◌, subst, inl, inr}
use Rattle.std.specs.Prelude.{IsTrue, Result, Ok, Err}
use Rattle.std.proofs.lemmas.List.{append-nil, map_push}
use Rattle.pipe_edges.specs.Named.{IsFreshSource, GivesSource as HasBytes, asked_after, StandsAsBefore, OthersStand, KeepsBack, AddsBack, EdgeHasCause}
use Rattle.pipe_edges.specs.declared.edges.EdgeKind.{EdgeKind}
use Rattle.pipe_edges.specs.declared.edges.EdgeKind.TheVariants.{Source}
use Rattle.pipe_edges.specs.declared.edges.EdgeEnd.{EdgeEnd}
use Rattle.pipe_edges.specs.declared.source.ByteSource.{Ghosts as SourceOf}
use Rattle.stage_bodies.specs.Seen.{SourceSeen, SinkSeen, source_seen}
use Rattle.edge_names.specs.Seen.{EdgesSeen, edges_seen, seen_by_name}
use Rattle.edge_names.specs.Named.{GivesSource, Opens, BacksSource, back_after}
use Rattle.edge_names.specs.Opened.{IsReturned}

-- what is seen of a call that opens, and of the source that it gives
pub opens_of : {E S K T : Type 0} (told : E → Bool) (named : E → EdgeKind → List ℕ → List ℕ) (asked : E → List (EdgeKind × List ℕ)) (faults : E → ℕ) (sources_back : E → List (List ℕ × S)) (sinks_back : E → List (List ℕ × K)) (source : S → SourceSeen) (sink : K → SinkSeen)
    → (kind : EdgeKind) (name : List ℕ) (a b : E) (end : Result T EdgeEnd)
    → told b ≡ told a → (IsTrue (told a) → StandsAsBefore (named a) (named b)) → (IsTrue (told a) → asked b ≡ asked_after end kind name (asked a)) → KeepsBack sources_back sinks_back a b → faults a ≤ faults b → EdgeHasCause (faults a) (faults b) end
    → Opens kind name (edges_seen told named asked faults sources_back sinks_back source sink a) (edges_seen told named asked faults sources_back sinks_back source sink b) end
opens_of told named asked faults sources_back sinks_back source sink kind name a b end telling stands calls keeps stay cause = record {
  same_telling = telling;
  stands = stands;
  asked = calls;
  sources = ap (seen_by_name source) keeps.sources;
  sinks = ap (seen_by_name sink) keeps.sinks;
  faults_stay = stay;
  cause = cause;
}

pub gives_of : {S : Type 0} (row : SourceOf S) (edges : EdgesSeen) (name : List ℕ) (s : S) → IsFreshSource row.taken row.faults row.waits row.paced s → (IsTrue edges.told → HasBytes row.told row.left (edges.named Source name) s)
    → GivesSource edges name (source_seen row s)
gives_of row edges name s fresh given = record {
  nothing_taken = fresh.nothing_taken;
  no_fault = fresh.no_fault;
  no_wait = fresh.no_wait;
  no_pace = fresh.no_pace;
  given = λ t. let has = given t in (has.tells, has.has_left);
}

-- what is seen of a call that takes a source back
back_sources_of : {S T X : Type 0} (source : S → SourceSeen) (name : List ℕ) (s : S) (before now : List (List ℕ × S)) (end : Result T X) → AddsBack end (name, s) before now
    → seen_by_name source now ≡ back_after end (name, source s) (seen_by_name source before)
back_sources_of source name s before now (Ok x) adds = ap (seen_by_name source) adds ∙ map_push (λ given. (given.0, source given.1)) before (name, s)
back_sources_of source name s before now (Err x) adds = ap (seen_by_name source) adds

pub backs_of : {E S K T X : Type 0} (told : E → Bool) (named : E → EdgeKind → List ℕ → List ℕ) (asked : E → List (EdgeKind × List ℕ)) (faults : E → ℕ) (sources_back : E → List (List ℕ × S)) (sinks_back : E → List (List ℕ × K)) (source : S → SourceSeen) (sink : K → SinkSeen)
    → (name : List ℕ) (s : S) (a b : E) (end : Result T X)
    → told b ≡ told a → AddsBack end (name, s) (sources_back a) (sources_back b) → sinks_back b ≡ sinks_back a → (IsTrue (told a) → OthersStand Source name (named a) (named b)) → (IsTrue (told a) → asked b ≡ asked a) → faults b ≡ faults a
    → BacksSource name (source s) (edges_seen told named asked faults sources_back sinks_back source sink a) (edges_seen told named asked faults sources_back sinks_back source sink b) end
backs_of told named asked faults sources_back sinks_back source sink name s a b end telling adds sinks stands calls quiet = record {
  same_telling = telling;
  sources = back_sources_of source name s (sources_back a) (sources_back b) end adds;
  sinks = ap (seen_by_name sink) sinks;
  stands = stands;
  asked = calls;
  no_fault = quiet;
}

-- it went back, or was let go
pub returned_of : {T X : Type 0} (name : List ℕ) (source : SourceSeen) (a b : EdgesSeen) (end : Result T X) → BacksSource name source a b end → IsReturned name source a b
returned_of name source a b (Ok x) h =
    record { same_telling = h.same_telling; asked = h.asked; back = (name, source) ∷ []; sources = h.sources; which = inl refl; sinks = h.sinks; no_fault = h.no_fault }
returned_of name source a b (Err x) h =
    record { same_telling = h.same_telling; asked = h.asked; back = []; sources = h.sources ∙ sym (append-nil a.sources_back); which = inr refl; sinks = h.sinks; no_fault = h.no_fault }

pub gives_same : {S : Type 0} (source : S → SourceSeen) (x y : S) (edges : EdgesSeen) (name : List ℕ) → x ≡ y → GivesSource edges name (source y) → GivesSource edges name (source x)
gives_same source x y edges name same gives = subst (λ z. GivesSource edges name z) (sym (ap source same)) gives
