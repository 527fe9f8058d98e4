-- What was read of a feed since it was opened.
use Rattle.std.specs.Prelude.{◌≡◌, ℕ, List, ◌++◌, map}
pub use Rattle.source_lines.specs.Read.{AreReadFrom, ReadsOn}
pub use Rattle.line_merge.specs.Seen.{AreMergedFrom, MergeReadsOn}
use Rattle.stage_bodies.specs.Seen.{FeedSeen, Single, Merged, sources_in}

-- the records came, in order, from what the opened source had left; or, each with the place of its source, from what the opened
-- sources had left
abbrev pub AreFed : (opened now : FeedSeen) → (records : List (List ℕ)) → Type 0
AreFed (Single opened) (Single now) records = AreReadFrom opened.source now records
AreFed (Merged opened) (Merged now) records =
    (given : List (ℕ × List ℕ)) × (map (λ d. d.1) given ≡ records) × AreMergedFrom (sources_in (Merged opened)) now given
AreFed _ _ records = ⊥
