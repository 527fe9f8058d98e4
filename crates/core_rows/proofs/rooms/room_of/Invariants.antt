use Rattle.std.proofs.Common.{◌≡◌, ◌≤◌, ◌+◌, ◌*◌, drop}
use Rattle.core_rows.specs.Rows.{open_among}
use Rattle.core_rows.proofs.rooms.room_of.Given as goal

abbrev pub invariant-loop-spec : goal.invariant-loop-spec
invariant-loop-spec l =
    let t = l.core.topology in
    let h = l.core.journal.steps in
    record {
      room : l.room + open_among t h l.producer.no (drop l.spec-index l.spec-items) ≡ open_among t h l.producer.no l.spec-items;
      few : l.room ≤ l.spec-index * 4294967296;
    }
