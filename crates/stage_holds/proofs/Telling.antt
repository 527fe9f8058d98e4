-- A body whose source was told the moment fits its work.
use Rattle.std.proofs.Common.{ℕ, refl}
use Rattle.std.specs.Prelude.{Option, Some, None, IsSome, option_map}
use Rattle.stage_bodies.specs.Seen.{FeedSeen, BodySeen}
use Rattle.stage_bodies.specs.Moments.{told_feed, told_for}
use Rattle.stage_bodies.specs.Jobs.{Fits}
use Rattle.stage_bodies.specs.declared.job.Work.{Work}
use Rattle.stage_bodies.specs.declared.job.Work.TheVariants as work

some_told : (now : ℕ) (source : Option FeedSeen) → IsSome source → IsSome (option_map (told_feed now) source)
some_told now None some = some
some_told now (Some feed) some = refl

pub told_fits : (w : Work) (now : ℕ) (body : BodySeen) → Fits w body → Fits w (told_for w now body)
told_fits (work.Fetch most) now body fits = (fits.0, some_told now body.source fits.1)
told_fits (work.Chunk messages) now body fits = fits
told_fits (work.Batch batch) now body fits = fits
told_fits (work.Child message) now body fits = fits
