-- What calls by name open, read and give back.
use Rattle.std.specs.Prelude.{◌≡◌, ℕ, Bool, List, [], ◌∷◌, ◌++◌, IsTrue, Result, Ok, Err}
use Rattle.pipe_types.specs.Counts.{Rose}
use Rattle.pipe_edges.specs.Paces.{PaceSeen, unpaced}
use Rattle.pipe_edges.specs.declared.edges.EdgeKind.{EdgeKind}
use Rattle.pipe_edges.specs.declared.edges.EdgeEnd.{EdgeEnd}
use Rattle.pipe_edges.specs.declared.edges.EdgeEnd.TheVariants.{Failed, OutOfMemory}

-- a source that has taken nothing and counted nothing, and has no pace
pub record IsFreshSource {B : Type 0} (taken : B → List ℕ) (faults waits : B → ℕ) (paced : B → PaceSeen) (source : B) : Type 0 where
  pub nothing_taken : taken source ≡ []
  pub no_fault : faults source ≡ 0
  pub no_wait : waits source ≡ 0
  pub no_pace : paced source ≡ unpaced

-- a source that tells its bytes and has these left
pub record GivesSource {B : Type 0} (told : B → Bool) (left : B → List ℕ) (bytes : List ℕ) (source : B) : Type 0 where
  pub tells : IsTrue (told source)
  pub has_left : left source ≡ bytes

-- a sink that tells its bytes and holds these
pub record GivesSink {K : Type 0} (told : K → Bool) (held : K → List ℕ) (bytes : List ℕ) (sink : K) : Type 0 where
  pub tells : IsTrue (told sink)
  pub holds : held sink ≡ bytes

-- a call is noted with its kind and name, but for one that found no memory
abbrev pub asked_after : {T : Type 0} → Result T EdgeEnd → EdgeKind → List ℕ → List (EdgeKind × List ℕ) → List (EdgeKind × List ℕ)
asked_after (Err OutOfMemory) kind name asked = asked
asked_after _ kind name asked = asked ++ (kind, name) ∷ []

-- the same bytes stand under every name of every kind
abbrev pub StandsAsBefore : (EdgeKind → List ℕ → List ℕ) → (EdgeKind → List ℕ → List ℕ) → Type 0
StandsAsBefore before now = (kind : EdgeKind) (name : List ℕ) → now kind name ≡ before kind name

-- the same bytes stand under every other name, and under this one of every other kind
abbrev pub OthersStand : EdgeKind → List ℕ → (EdgeKind → List ℕ → List ℕ) → (EdgeKind → List ℕ → List ℕ) → Type 0
OthersStand kind name before now = (k : EdgeKind) (n : List ℕ) → ¬ ((k ≡ kind) × (n ≡ name)) → now k n ≡ before k n

-- nothing was given back in between
pub record KeepsBack {E S K : Type 0} (sources_back : E → List (List ℕ × S)) (sinks_back : E → List (List ℕ × K)) (before now : E) : Type 0 where
  pub sources : sources_back now ≡ sources_back before
  pub sinks : sinks_back now ≡ sinks_back before

-- what is given back stands at the end of the list with its name; for want of memory nothing is added
abbrev pub AddsBack : {T X E : Type 0} → Result T E → List ℕ × X → List (List ℕ × X) → List (List ℕ × X) → Type 0
AddsBack (Ok _) given before now = now ≡ before ++ given ∷ []
AddsBack (Err _) given before now = now ≡ before

-- a call fails only where the faults rose, and want of memory counts nothing
abbrev pub EdgeHasCause : {T : Type 0} → ℕ → ℕ → Result T EdgeEnd → Type 0
EdgeHasCause before now (Ok _) = Unit {0}
EdgeHasCause before now (Err Failed) = Rose before now
EdgeHasCause before now (Err OutOfMemory) = now ≡ before
