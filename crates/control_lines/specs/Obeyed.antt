-- What a run says of the control source that it read.
use Rattle.std.specs.Prelude.{◌≡◌, ◌≤◌, ◌⊎◌, ◌+◌, ◌^◌, ℕ, false, List, ◌++◌, length, IsTrue, Some}
use Rattle.pipe_types.specs.Counts.{Rose}
use Rattle.pipe_types.specs.Lines.{lines}
use Rattle.pipe_types.specs.declared.step.SourceHow.TheVariants.{End, Fault, TooLong, Limit}
use Rattle.pipe_types.specs.declared.topology.Topology.{Topology}
use Rattle.pipe_types.specs.Numbers.{stage}
use Rattle.pipe_model.specs.History.{History, controls}
use Rattle.pipe_model.specs.Legal.{has_ended}
use Rattle.pipe_model.specs.Outside.{source_end, IsObeyed}
use Rattle.source_lines.specs.Cut.{HasShortLines, AreLinesBeforeLong}
use Rattle.stage_bodies.specs.Seen.{SourceSeen}
use Rattle.control_lines.specs.Steps.{jobs_begun}

-- the jobs are at most as many as the control steps and the tries in vain, if the counter of these is not full
abbrev pub AreTried : (waits : ℕ) → History → Type 0
AreTried waits before = (jobs_begun before ≤ controls before + waits) ⊎ (2 ^ 64 ≤ waits + 1)

-- the control steps are, one for one and in order, the readings of the first lines of what the source gave and has left: of all
-- lines, none too long, where it ended; of all before the first that is too long, where it ended so. A fault has its cause in the
-- source, whose counts were 0 when it was opened; and up to its end no more jobs were begun than there are control steps and
-- waits
pub record IsControlRead (topology : Topology) (before : History) (source : SourceSeen) : Type 0 where
  pub obeyed : IsTrue source.told → IsObeyed topology before (source.taken ++ source.left)
  pub whole : IsTrue source.told → source_end before (stage 0) ≡ Some End → HasShortLines (source.taken ++ source.left)
  pub too_long :
      IsTrue source.told
      → source_end before (stage 0) ≡ Some TooLong
      → AreLinesBeforeLong (source.taken ++ source.left) (lines (source.taken ++ source.left)) × (controls before ≡ length (lines (source.taken ++ source.left)))
  pub fault : source_end before (stage 0) ≡ Some Fault → Rose 0 source.faults
  pub limit : source_end before (stage 0) ≡ Some Limit → controls before ≡ 10000
  pub tried : (later earlier : History) → before ≡ later ++ earlier → has_ended earlier (stage 0) ≡ false → AreTried source.waits earlier
