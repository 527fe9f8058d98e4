-- What a journal has to do with the pace of a source.
use Rattle.std.specs.Prelude.{◌≡◌, ◌≤◌, ◌<◌, ◌+◌, ◌==◌, ℕ, Bool, false, List, length, if◌then◌else◌, Option, Some, None, IfSome, IsTrue}
use Rattle.pipe_types.specs.declared.numbers.StageNo.{StageNo}
use Rattle.pipe_model.specs.History.{History}
use Rattle.pipe_edges.specs.Paces.{Pace, PaceSeen, given_since, told_at}
use Rattle.pipe_edges.specs.Pacing.{IsInStep}
use Rattle.pipe_edges.specs.declared.reading.LineEnd.TheVariants as end
use Rattle.stage_job.specs.Chunks.{RoseBy}
use Rattle.stage_bodies.specs.Seen.{SourceSeen, LineSeen}
use Rattle.rate_laws.specs.Rates.{came_by, fetched_at, interval_of, is_used_up, own_quiets}

-- ---- what a source keeps

-- nothing was told or given, and the source itself never had nothing ready
abbrev pub at_start : Option Pace → PaceSeen
at_start pace = record { pace = pace; moment = 0; given = 0; part = false; own = 0 }

-- an interval has a length
abbrev pub IsPace : Option Pace → Type 0
IsPace pace = IfSome pace (λ p. 1 ≤ p.interval)

-- once it is told the moment of the last fetch, it has given since the interval began what the journal has of that interval, and
-- what is held is in step
pub record IsInPace (pace : Pace) (before : History) (s : StageNo) (now : LineSeen) : Type 0 where
  pub given : given_since pace.interval now.source.paced.moment (fetched_at before s) now.source.paced.given ≡ came_by s pace.interval (interval_of pace.interval (fetched_at before s)) before
  pub in_step : IsInStep now.source.paced now.waiting

-- no interval has more records than the share; the source itself had nothing ready once at least for each quiet of the journal that
-- came while the share had one left; and where every answer is in the journal and no line is too long it is in pace
pub record KeepsShare (pace : Pace) (before : History) (s : StageNo) (whole : Bool) (opened : SourceSeen) (now : LineSeen) : Type 0 where
  pub same_pace : now.source.paced.pace ≡ Some pace
  pub some : 1 ≤ pace.interval
  pub past : now.source.paced.moment ≤ fetched_at before s
  pub low : now.source.paced.given ≤ pace.share
  pub within : (i : ℕ) → came_by s pace.interval i before ≤ pace.share
  pub own : RoseBy (own_quiets pace.share pace.interval before s) opened.paced.own now.source.paced.own
  pub in_pace : IsTrue whole → ¬ (now.end ≡ Some end.TooLong) → IsInPace pace before s now

abbrev pub KeepsPaceBy : Option Pace → History → StageNo → (whole : Bool) → (opened : SourceSeen) → (now : LineSeen) → Type 0
KeepsPaceBy None before s whole opened now = now.source.paced ≡ opened.paced
KeepsPaceBy (Some pace) before s whole opened now = KeepsShare pace before s whole opened now

-- without a pace its gate stays as it was
abbrev pub KeepsPace : History → StageNo → (whole : Bool) → (opened : SourceSeen) → (now : LineSeen) → Type 0
KeepsPace before s whole opened now = KeepsPaceBy opened.paced.pace before s whole opened now

-- it was told the moment of the last fetch
abbrev pub IsTold : History → StageNo → LineSeen → Type 0
IsTold before s now = now.source.paced ≡ told_at (fetched_at before s) now.source.paced

-- a gate that was told no moment and has given nothing
pub record IsNewGate (paced : PaceSeen) : Type 0 where
  pub fresh : paced ≡ at_start paced.pace
  pub some : IsPace paced.pace

-- ---- what the journal says

-- nothing came of the producer, and its last fetch is as before or later
pub record PaceStays (before after : History) (s : StageNo) : Type 0 where
  pub came : (interval i : ℕ) → came_by s interval i after ≡ came_by s interval i before
  pub own : (share interval : ℕ) → own_quiets share interval after s ≡ own_quiets share interval before s
  pub grows : fetched_at before s ≤ fetched_at after s
  pub later : (interval i : ℕ) → 0 < interval → interval_of interval (fetched_at before s) < i → came_by s interval i before ≡ 0

-- nothing came of the producer, and its last fetch is as before
pub record PaceSame (before after : History) (s : StageNo) : Type 0 where
  pub came : (interval i : ℕ) → came_by s interval i after ≡ came_by s interval i before
  pub own : (share interval : ℕ) → own_quiets share interval after s ≡ own_quiets share interval before s
  pub same_fetch : fetched_at after s ≡ fetched_at before s

-- so many records came of its last fetch
pub record PaceGoes (before after : History) (s : StageNo) (records : List (List ℕ)) : Type 0 where
  pub came : (interval i : ℕ) → came_by s interval i after ≡ (if interval_of interval (fetched_at before s) == i then came_by s interval i before + length records else came_by s interval i before)
  pub own : (share interval : ℕ) → own_quiets share interval after s ≡ own_quiets share interval before s
  pub same_fetch : fetched_at after s ≡ fetched_at before s

-- nothing was ready
pub record PaceRests (before after : History) (s : StageNo) : Type 0 where
  pub came : (interval i : ℕ) → came_by s interval i after ≡ came_by s interval i before
  pub own : (share interval : ℕ) → own_quiets share interval after s ≡ (if is_used_up share interval before s then own_quiets share interval before s else own_quiets share interval before s + 1)
  pub same_fetch : fetched_at after s ≡ fetched_at before s
