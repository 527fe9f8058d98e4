-- Which messages a summary counts.
use Rattle.std.specs.Prelude.{Bool}
use Rattle.pipe_types.specs.declared.message.Place.{Place}
use Rattle.journal_texts.specs.Report.{is_successful, is_failed, is_lost}
use Rattle.journal_audit.specs.declared.summary.Counted.{Counted}
use Rattle.journal_audit.specs.declared.summary.Counted.TheVariants.{Successful, Failed, Lost}

-- whether the message that stands so is one of these
abbrev pub is_among : Counted → Place → Bool
is_among Successful = is_successful
is_among Failed = is_failed
is_among Lost = is_lost
