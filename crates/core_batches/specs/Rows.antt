-- What a call of a batcher makes of one row.
use Rattle.std.specs.Prelude.{ℕ, if◌then◌else◌, ◌==◌, Option}
use Rattle.pipe_types.specs.declared.message.Message.{Message}
use Rattle.pipe_model.specs.Content.{key_in, flush_in}
use Rattle.stage_subs.specs.Pairs.{PairRow}
use Rattle.stage_subs.specs.Subs.{handled_more}
use Rattle.batcher.specs.Batches.{Batches, gathered}

-- the message with that number joins the open batch of its key
abbrev pub with_message : Option Message → (no now : ℕ) → Batches → Batches
with_message message n now held = record held { batches = gathered (key_in message) n (flush_in message) now held.batches }

-- so many units more were handled, where the pair's last subscription has that generation
abbrev pub handled_on : (generation units : ℕ) → PairRow → PairRow
handled_on g k row = if row.generation == g then handled_more k row else row
