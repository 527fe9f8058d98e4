-- What is seen of a body whose source was told the moment.
use Rattle.std.specs.Prelude.{ℕ, option_map}
use Rattle.pipe_edges.specs.Paces.{told_at}
use Rattle.stage_bodies.specs.Seen.{SourceSeen, LineSeen, FeedSeen, Single, Merged, BodySeen}
use Rattle.stage_bodies.specs.declared.job.Work.{Work}
use Rattle.stage_bodies.specs.declared.job.Work.TheVariants as work

abbrev pub told_source : (now : ℕ) → SourceSeen → SourceSeen
told_source now source = record source { paced = told_at now source.paced }

abbrev pub told_lines : (now : ℕ) → LineSeen → LineSeen
told_lines now lines = record lines { source = told_source now lines.source }

-- a merge has no pace, and is not told
abbrev pub told_feed : (now : ℕ) → FeedSeen → FeedSeen
told_feed now (Single lines) = Single (told_lines now lines)
told_feed now (Merged merge) = Merged merge

abbrev pub told_body : (now : ℕ) → BodySeen → BodySeen
told_body now body = record body { source = option_map (told_feed now) body.source }

-- the source of a body that leaves for a fetch is told the moment
abbrev pub told_for : Work → (now : ℕ) → BodySeen → BodySeen
told_for (work.Fetch most) now body = told_body now body
told_for _ now body = body
