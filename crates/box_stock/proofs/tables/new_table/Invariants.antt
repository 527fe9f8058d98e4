use Rattle.std.proofs.Common.{◌≡◌, ◌*◌, ℕ, length, None, vec_capacity}
use Rattle.stage_bodies.specs.Seen.{body_at}
use Rattle.box_stock.proofs.tables.new_table.Given as goal

abbrev pub invariant-loop-place : goal.invariant-loop-place
invariant-loop-place g l = record {
  len : length l.table.items ≡ l.place;
  room : vec_capacity l.table ≡ 65 * 16;
  none : (s : ℕ) → body_at g.B.Works.look l.table.items s ≡ None;
}
