-- What is counted over all stages is counted of the journal.
use Rattle.std.proofs.Common.{◌≡◌, Bool, true, false, refl, ap, sym, ◌∙◌}
use Rattle.std.specs.Prelude.{◌&&◌, not}
use Rattle.std.proofs.Math.Bool.{and-false, and-true}
use Rattle.pipe_types.specs.declared.numbers.StageNo.{StageNo}
use Rattle.pipe_types.specs.declared.topology.Topology.{Topology}
use Rattle.pipe_types.specs.Sound.{IsSound}
use Rattle.pipe_model.specs.History.{History}
use Rattle.pipe_model.specs.Flow.{is_empty, inbox}
use Rattle.pipe_model.specs.Legal.{is_legal, happened, is_drain, is_halt, is_dry, is_no_fetch_out, has_role, is_batcher_role}
use Rattle.pipe_model.specs.Moves.{is_drained, jobs_out}
use Rattle.pipe_model.specs.Standing.{all_clear, is_clear_above}
use Rattle.queue_laws.proofs.Laws.{drained_law, dry_law}
use Rattle.core_tables.specs.declared.rows.Totals.{Totals}
use Rattle.core_state.specs.declared.state.Core.{Core}
use Rattle.core_state.specs.Stands.{Holds}
use Rattle.core_rows.specs.Left.{all_done_above}

pub draining_is : (core : Core) → Holds core → core.totals.draining ≡ happened is_drain core.journal.steps
draining_is core x = ap (λ (y : Totals). y.draining) x.fields.totals

pub halted_is : (core : Core) → Holds core → core.totals.halted ≡ happened is_halt core.journal.steps
halted_is core x = ap (λ (y : Totals). y.halted) x.fields.totals

-- where it drains, it is drained once nothing is left and no job is out; what is left matters only then
pub drained_if : (topology : Topology) (before : History) → IsSound topology → is_legal topology before ≡ true → happened is_drain before ≡ true
    → (bare : Bool) → (jobs_out topology before ≡ false → bare ≡ all_clear topology before) → (bare && not (jobs_out topology before)) ≡ is_drained topology before
drained_if topology before sound legal draining bare is =
    by (jobs_out topology before) refl
    ∙ sym (drained_law topology before sound legal ∙ ap (λ d. d && (not (jobs_out topology before) && all_clear topology before)) draining)
  where
    by : (j : Bool) → jobs_out topology before ≡ j → (bare && not j) ≡ (not j && all_clear topology before)
    by true out = and-false bare
    by false home = and-true bare ∙ is home

-- where it drains and no fetch is out, a batcher is dry once nothing is left above it
pub dry_by : (topology : Topology) (before : History) (b : StageNo) → IsSound topology → is_legal topology before ≡ true → has_role topology b is_batcher_role ≡ true
    → happened is_drain before ≡ true → is_no_fetch_out topology before ≡ true
    → (all_done_above topology before && is_empty (inbox topology before b)) ≡ is_dry topology before b
dry_by topology before b sound legal role draining home =
    sym (dry_law topology before b sound legal role
    ∙ (ap (λ d. d && (is_no_fetch_out topology before && is_clear_above topology before b)) draining ∙ ap (λ j. j && is_clear_above topology before b) home))
