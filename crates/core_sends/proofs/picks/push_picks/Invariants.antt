use Rattle.std.proofs.Common.{◌≡◌, ◌++◌, drop}
use Rattle.std.specs.Prelude.{option_map}
use Rattle.pipe_journal.specs.Items.{message_seen}
use Rattle.pipe_model.specs.Content.{key_in}
use Rattle.core_sends.specs.Picks.{picks_key, picks_row}
use Rattle.core_sends.proofs.picks.push_picks.Given as goal

abbrev pub invariant-loop-room : goal.invariant-loop-room
invariant-loop-room l =
    l.picks.items ++ picks_row (picks_key l.topology (key_in (option_map message_seen l.message))) (drop l.room-index l.rooms)
    ≡ l.fn.picks.items ++ picks_row (picks_key l.topology (key_in (option_map message_seen l.message))) l.rooms
