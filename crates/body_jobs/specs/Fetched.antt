-- What a fetch of lines is as the outcome of a job.
use Rattle.pipe_types.specs.declared.step.SourceHow.TheVariants as how
use Rattle.pipe_edges.specs.declared.reading.Fetched.{Fetched}
use Rattle.pipe_edges.specs.declared.reading.Fetched.TheVariants as fetched
use Rattle.stage_bodies.specs.declared.job.Outcome.{Outcome}
use Rattle.stage_bodies.specs.declared.job.Outcome.TheVariants as came

abbrev pub came_of : Fetched → Outcome
came_of (fetched.Records records) = came.Records records
came_of fetched.NotYet = came.NotYet
came_of fetched.End = came.Ended how.End
came_of fetched.Fault = came.Ended how.Fault
came_of fetched.TooLong = came.Ended how.TooLong
