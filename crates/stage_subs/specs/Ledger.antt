-- A pair's row as a journal leaves it.
use Rattle.pipe_types.specs.declared.numbers.StageNo.{StageNo}
use Rattle.pipe_types.specs.declared.numbers.SubNo.{SubNo}
use Rattle.pipe_types.specs.declared.topology.Topology.{Topology}
use Rattle.pipe_types.specs.Stages.{spec_of}
use Rattle.pipe_model.specs.History.{History, asked}
use Rattle.pipe_model.specs.Lives.{generation, current_sub, is_live_sub}
use Rattle.pipe_model.specs.Flow.{sent}
use Rattle.pipe_model.specs.Ledger.{handled, min_in, max_in}
use Rattle.stage_demand.specs.Demand.{Counts}
use Rattle.stage_subs.specs.Pairs.{PairRow}

-- the bounds and the counts of a subscription
abbrev pub ledger_counts : Topology → History → SubNo → Counts
ledger_counts topology before u =
    record {
      min = min_in (spec_of topology u.consumer);
      max = max_in (spec_of topology u.consumer);
      asked = asked before u;
      arrived = sent topology before u;
      handled = handled topology before u;
    }

-- the row of a pair: its present subscription, whether that is live, and its counts
abbrev pub ledger_row : Topology → History → (consumer producer : StageNo) → PairRow
ledger_row topology before c p =
    record {
      generation = generation topology before c p;
      is_live = is_live_sub topology before (current_sub topology before c p);
      counts = ledger_counts topology before (current_sub topology before c p);
    }
