-- What opening and giving back change.
use Rattle.std.specs.Prelude.{◌≡◌, ◌≤◌, ℕ, Bool, true, false, List, [], ◌∷◌, ◌++◌, Some, Result, Ok, Err}
use Rattle.std.specs.Option.{option_map}
use Rattle.pipe_types.specs.Counts.{Rose}
use Rattle.pipe_edges.specs.declared.edges.EdgeKind.{EdgeKind}
use Rattle.pipe_edges.specs.declared.edges.EdgeEnd.{EdgeEnd}
use Rattle.pipe_edges.specs.declared.edges.EdgeEnd.TheVariants.{Failed, OutOfMemory}
use Rattle.mem_edges.specs.declared.named.Named.{Named}
use Rattle.mem_edges.specs.Scripts.{counted_once}
use Rattle.mem_edges.specs.Shelf.{under, is_free, given_back}

-- the newest under this name is open now, and nothing else changed
pub record Opens {T : Type 0} (name : List ℕ) (before now : List (Named T)) : Type 0 where
  pub stands : (n : List ℕ) → option_map (λ (e : Named T). e.item) (under n now) ≡ option_map (λ (e : Named T). e.item) (under n before)
  pub back : given_back now ≡ given_back before
  pub no_more_free : is_free name now ≡ false
  pub others_free : (n : List ℕ) → ¬ (n ≡ name) → is_free n now ≡ is_free n before

-- what was given back after something is put under a name
abbrev pub back_after : {T : Type 0} → Bool → List ℕ × T → List (List ℕ × T) → List (List ℕ × T)
back_after true given back = back ++ given ∷ []
back_after false given back = back

-- this stands under the name and is free, and nothing else changed
pub record Puts {T : Type 0} (name : List ℕ) (item : T) (returned : Bool) (before now : List (Named T)) : Type 0 where
  pub stands : option_map (λ (e : Named T). e.item) (under name now) ≡ Some item
  pub free : is_free name now ≡ true
  pub others : (n : List ℕ) → ¬ (n ≡ name) → under n now ≡ under n before
  pub back : given_back now ≡ back_after returned (name, item) (given_back before)

-- under every other name of every kind what is free is as before
abbrev pub OthersFree : EdgeKind → List ℕ → (EdgeKind → List ℕ → Bool) → (EdgeKind → List ℕ → Bool) → Type 0
OthersFree kind name before now = (k : EdgeKind) (n : List ℕ) → ¬ ((k ≡ kind) × (n ≡ name)) → now k n ≡ before k n

-- what is free is as before
abbrev pub FreeAsBefore : (EdgeKind → List ℕ → Bool) → (EdgeKind → List ℕ → Bool) → Type 0
FreeAsBefore before now = (k : EdgeKind) (n : List ℕ) → now k n ≡ before k n

-- what was opened is no more free, and after a failure all is as before
abbrev pub FreeAfter : {T : Type 0} → Result T EdgeEnd → EdgeKind → List ℕ → (EdgeKind → List ℕ → Bool) → (EdgeKind → List ℕ → Bool) → Type 0
FreeAfter (Ok _) kind name before now = (now kind name ≡ false) × OthersFree kind name before now
FreeAfter (Err _) kind name before now = FreeAsBefore before now

-- what was given back is free, and after want of memory all is as before
abbrev pub FreeAgain : {T E : Type 0} → Result T E → EdgeKind → List ℕ → (EdgeKind → List ℕ → Bool) → (EdgeKind → List ℕ → Bool) → Type 0
FreeAgain (Ok _) kind name before now = (now kind name ≡ true) × OthersFree kind name before now
FreeAgain (Err _) kind name before now = FreeAsBefore before now

-- a call that fails is noted and counted, and for want of memory neither
abbrev pub RefusalEnd : List (EdgeKind × List ℕ) → List (EdgeKind × List ℕ) → ℕ → ℕ → EdgeKind × List ℕ → EdgeEnd → Type 0
RefusalEnd asked asked' faults faults' call Failed = (asked' ≡ asked ++ call ∷ []) × Rose faults faults' × (faults ≤ faults') × (faults' ≡ counted_once faults)
RefusalEnd asked asked' faults faults' call OutOfMemory = (asked' ≡ asked) × (faults' ≡ faults)

-- the faults of edges after a call, one more just where it failed
abbrev pub faults_after_call : {T : Type 0} → Result T EdgeEnd → ℕ → ℕ
faults_after_call (Err Failed) faults = counted_once faults
faults_after_call _ faults = faults

-- what was opened has what stood under the name, seen so
abbrev pub PlaysAgain : {T A : Type 0} → (T → A) → (name : List ℕ) → List (Named T) → T → Type 0
PlaysAgain look name shelf item = option_map (λ (e : Named _). look e.item) (under name shelf) ≡ Some (look item)
