use Rattle.std.proofs.Common.{◌≡◌, ◌+◌, ◌-◌, ◌≤◌, [], length, vec_len, vec_capacity}
use Rattle.pipe_types.specs.declared.numbers.StageNo.{StageNo}
use Rattle.core_tables.specs.Tables.{list_at}
use Rattle.plain_run.proofs.works.empty_lists.Given as goal

abbrev pub invariant-loop-k : goal.invariant-loop-k
invariant-loop-k l =
    record {
      len : length l.lists.items ≡ l.k;
      room : vec_len l.lists + (l.count - l.k) ≤ vec_capacity l.lists;
      empty : (s : StageNo) → list_at l.lists.items s ≡ [];
    }
