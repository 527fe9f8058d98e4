-- What a late answer brings.
use Rattle.std.specs.Prelude.{Bool, true, false}
use Rattle.pipe_types.specs.declared.step.LateAnswer.{LateAnswer}
use Rattle.pipe_types.specs.declared.step.LateAnswer.TheVariants.{Records, Source}

-- the answer brings no records and no end of a source
abbrev pub is_plain : LateAnswer → Bool
is_plain (Records records) = false
is_plain (Source how) = false
is_plain _ = true
