use Rattle.std.proofs.Common.{◌≡◌, ◌+◌, ◌-◌, ◌≤◌, ◌++◌, length, drop}
use Rattle.std.specs.List.{filter_map}
use Rattle.core_state.specs.Settles.{noted}
use Rattle.core_state.proofs.settles.note_acked.Given as goal

abbrev pub invariant-loop-no : goal.invariant-loop-no
invariant-loop-no l =
    record {
      noted : l.journal.acked.rows ++ filter_map (noted l.places.items l.producers l.at) (drop l.no-index l.numbers) ≡ l.fn.journal.acked.rows ++ filter_map (noted l.places.items l.producers l.at) l.numbers;
      room : length l.journal.acked.rows + (length l.numbers - l.no-index) ≤ l.journal.acked.room;
      same_room : l.journal.acked.room ≡ l.fn.journal.acked.room;
      same_steps : l.journal.steps ≡ l.fn.journal.steps;
      same_spare : l.journal.spare ≡ l.fn.journal.spare;
    }
