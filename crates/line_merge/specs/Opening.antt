-- Sources with their lines before anything was read.
use Rattle.std.specs.Prelude.{◌≡◌, ◌⊎◌, true, false, ℕ, List, [], All, Option, Some, None, IfSome, IsSomeAnd}
use Rattle.pipe_edges.specs.LineSource.{line_source, waiting, line_end_of}
use Rattle.line_merge.specs.Streams.{lines_of, is_open_in}
use Rattle.pipe_edges.specs.declared.source.ByteSource.{Ghosts as SourceOf}
use Rattle.line_merge.specs.Items.{given_of}
use Rattle.line_merge.specs.Tries.{RangeHasCause}
use Rattle.line_merge.specs.declared.stream.Stream.{Stream}
use Rattle.line_merge.specs.declared.item.MergeItem.{MergeItem}
use Rattle.line_merge.specs.declared.item.MergeItem.TheVariants as item

-- where its bytes come from
abbrev pub source_in : {B : Type 0} → Stream B → B
source_in s = line_source (lines_of s)

-- nothing was read of it
pub record IsNew {B : Type 0} (s : Stream B) : Type 0 where
  pub nothing_held : waiting (lines_of s) ≡ []
  pub no_end : line_end_of (lines_of s) ≡ None

-- nothing was read of any
abbrev pub AreNew : {B : Type 0} → List (Stream B) → Type 0
AreNew streams = All IsNew streams

-- some source is open
abbrev pub SomeIsOpen : {B : Type 0} → (streams : ℕ → Option (Stream B)) → Type 0
SomeIsOpen streams = (k : ℕ) × IsSomeAnd (streams k) (λ s. is_open_in s ≡ true)

-- no source is open
abbrev pub NoneIsOpen : {B : Type 0} → (streams : ℕ → Option (Stream B)) → Type 0
NoneIsOpen streams = (k : ℕ) → IfSome (streams k) (λ s. is_open_in s ≡ false)

-- what a round without a line comes to: nothing is ready where some source is open, and else it is the end
abbrev pub IsWithout : {B : Type 0} → (streams : ℕ → Option (Stream B)) → MergeItem → Type 0
IsWithout streams item.NotYet = SomeIsOpen streams
IsWithout streams item.End = NoneIsOpen streams
IsWithout streams _ = ⊥

-- why the rest of a round came to this: something was found before `first`, or nothing
abbrev pub RestHasCause : {B : Type 0} → SourceOf B → (first : ℕ) → (old new : ℕ → Option (Stream B)) → MergeItem → Type 0
RestHasCause source first old new found =
    RangeHasCause source 0 first old new (Some found) ⊎ (RangeHasCause source 0 first old new None × IsWithout new found × (given_of found ≡ []))
