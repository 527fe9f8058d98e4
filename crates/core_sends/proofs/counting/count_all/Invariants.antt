use Rattle.std.proofs.Common.{◌≡◌, drop}
use Rattle.std.specs.Prelude.{option_map}
use Rattle.pipe_types.specs.declared.numbers.StageNo.{StageNo as Stage}
use Rattle.stage_subs.specs.Subs.{row_at, sent_more}
use Rattle.core_tables.specs.Tables.{count_between}
use Rattle.core_sends.proofs.counting.count_all.Given as goal

abbrev pub invariant-loop-sent : goal.invariant-loop-sent
invariant-loop-sent l =
    (c p : Stage) → option_map (sent_more (count_between (drop l.sent-index l.units) c p)) (row_at l.subs c p) ≡ option_map (sent_more (count_between l.units c p)) (row_at l.fn.subs c p)
