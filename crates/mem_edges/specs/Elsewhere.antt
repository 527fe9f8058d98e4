-- What stays as it was in edges in memory.
use Rattle.std.specs.Prelude.{◌≡◌, ℕ, true, List}
use Rattle.pipe_edges.specs.declared.edges.EdgeKind.{EdgeKind}
use Rattle.mem_edges.specs.declared.edges.MemEdges.{MemEdges}
use Rattle.mem_edges.specs.MemEdges.{named_in, is_free_in, IsNew, asked_in, fails_of, sources_given_back, sinks_given_back}

-- all but what stands under one name of one kind is as before
pub record SameElsewhere (before now : MemEdges) (kind : EdgeKind) (name : List ℕ) : Type 0 where
  pub named : (k : EdgeKind) (n : List ℕ) → ¬ ((k ≡ kind) × (n ≡ name)) → named_in now k n ≡ named_in before k n
  pub free : (k : EdgeKind) (n : List ℕ) → ¬ ((k ≡ kind) × (n ≡ name)) → is_free_in now k n ≡ is_free_in before k n
  pub new : (k : EdgeKind) (n : List ℕ) → ¬ ((k ≡ kind) × (n ≡ name)) → IsNew before k n → IsNew now k n

-- these bytes stand under a name, which is free, and all else is as before
pub record Adds (before now : MemEdges) (kind : EdgeKind) (name bytes : List ℕ) : Type 0 where
  pub stands : named_in now kind name ≡ bytes
  pub free : is_free_in now kind name ≡ true
  pub elsewhere : SameElsewhere before now kind name

-- the calls so far, those that fail, and what was given back are as before
pub record KeepsCalls (before now : MemEdges) : Type 0 where
  pub asked : asked_in now ≡ asked_in before
  pub fails : fails_of now ≡ fails_of before
  pub sources : sources_given_back now ≡ sources_given_back before
  pub sinks : sinks_given_back now ≡ sinks_given_back before
