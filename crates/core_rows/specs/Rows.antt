-- What is read off the rows.
use Rattle.std.specs.Prelude.{ℕ, Bool, if◌then◌else◌, ◌&&◌, ◌||◌, not, is_some, nat_lt, List, [], ◌∷◌, ◌+◌, Option, Some, None}
use Rattle.pipe_types.specs.declared.numbers.StageNo.{StageNo}
use Rattle.pipe_types.specs.declared.numbers.SubNo.{SubNo}
use Rattle.pipe_types.specs.declared.topology.Topology.{Topology}
use Rattle.pipe_types.specs.declared.topology.Role.{Role}
use Rattle.pipe_types.specs.declared.topology.StageSpec.{StageSpec}
use Rattle.pipe_types.specs.Stages.{feeds}
use Rattle.pipe_model.specs.History.{History}
use Rattle.pipe_model.specs.Lives.{current_sub, is_live}
use Rattle.pipe_model.specs.Flow.{open_demand}
use Rattle.pipe_model.specs.Ledger.{due}
use Rattle.pipe_model.specs.Legal.{is_producer_role}
use Rattle.stage_subs.specs.Pairs.{PairRow}
use Rattle.stage_subs.specs.Subs.{due_on}
use Rattle.core_tables.specs.declared.rows.StageRow.{StageRow}
use Rattle.core_tables.specs.declared.rows.Totals.{Totals}

-- the stage is dead, the pipeline has not halted, and it is no producer that has ended or that is past the drain
abbrev pub needs_by : StageRow → Role → Totals → Bool
needs_by row role totals = is_some row.dead && (not totals.halted && not (is_producer_role role && (row.ended || totals.draining)))

-- an ask is due on the subscription
abbrev pub is_due : Topology → History → SubNo → Bool
is_due topology before u = nat_lt 0 (due topology before u)

-- the present subscription of the pair, where it feeds and an ask is due
abbrev pub due_between : Topology → History → (consumer producer : StageNo) → Option SubNo
due_between topology before c p =
    if feeds topology p c && is_due topology before (current_sub topology before c p) then Some (current_sub topology before c p) else None

-- the subscription, where the table has an ask due on it
abbrev pub sub_if_due : List (Option PairRow) → SubNo → Option SubNo
sub_if_due table u = if nat_lt 0 (due_on table u) then Some u else None

-- the open demand of the pair's present subscription, where the consumer takes from the producer and is live
abbrev pub open_on : Topology → History → (producer consumer : StageNo) → ℕ
open_on topology before p c = if feeds topology p c && is_live topology before c then open_demand topology before (current_sub topology before c p) else 0

-- and of so many consumers together
abbrev pub open_among : Topology → History → (producer : StageNo) → List StageSpec → ℕ
open_among topology before p [] = 0
open_among topology before p (c ∷ specs) = open_on topology before p c.no + open_among topology before p specs
