-- What contracts see of what a run opens by name: plain data.
use Rattle.std.specs.Prelude.{ℕ, Bool, List, map}
use Rattle.pipe_edges.specs.declared.edges.EdgeKind.{EdgeKind}
use Rattle.stage_bodies.specs.Seen.{SourceSeen, SinkSeen}

-- whether it tells, what stands under each name of each kind, the calls, the faults, and what was given back, each with its
-- name and as it was seen then
pub record EdgesSeen : Type 0 where
  pub told : Bool
  pub named : EdgeKind → List ℕ → List ℕ
  pub asked : List (EdgeKind × List ℕ)
  pub faults : ℕ
  pub sources_back : List (List ℕ × SourceSeen)
  pub sinks_back : List (List ℕ × SinkSeen)

-- things with their names, as they are seen
abbrev pub seen_by_name : {A B : Type 0} → (A → B) → List (List ℕ × A) → List (List ℕ × B)
seen_by_name seen = map (λ given. (given.0, seen given.1))

abbrev pub edges_seen : {E S K : Type 0} → (told : E → Bool) → (named : E → EdgeKind → List ℕ → List ℕ) → (asked : E → List (EdgeKind × List ℕ)) → (faults : E → ℕ) → (sources_back : E → List (List ℕ × S)) → (sinks_back : E → List (List ℕ × K)) → (S → SourceSeen) → (K → SinkSeen) → E → EdgesSeen
edges_seen told named asked faults sources_back sinks_back source sink e =
    record {
      told = told e;
      named = named e;
      asked = asked e;
      faults = faults e;
      sources_back = seen_by_name source (sources_back e);
      sinks_back = seen_by_name sink (sinks_back e);
    }
