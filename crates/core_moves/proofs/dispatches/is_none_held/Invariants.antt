use Rattle.std.proofs.Common.{◌≡◌, drop}
use Rattle.std.specs.Prelude.{not, option_map}
use Rattle.std.specs.List.{list_all}
use Rattle.pipe_model.specs.Content.{key_in}
use Rattle.pipe_journal.specs.Items.{message_seen}
use Rattle.core_sends.specs.Picks.{picks_key}
use Rattle.core_sends.specs.Rooms.{room_between}
use Rattle.core_moves.specs.Sends.{is_held_in}
use Rattle.core_moves.proofs.dispatches.is_none_held.Given as goal

abbrev pub invariant-loop-spec : goal.invariant-loop-spec
invariant-loop-spec l = list_all (λ c. not (is_held_in (picks_key l.core.topology (key_in (option_map message_seen l.message))) (room_between l.core.topology l.core.journal.steps l.producer.no c.no))) (drop l.spec-index l.spec-items) ≡ list_all (λ c. not (is_held_in (picks_key l.core.topology (key_in (option_map message_seen l.message))) (room_between l.core.topology l.core.journal.steps l.producer.no c.no))) l.spec-items
