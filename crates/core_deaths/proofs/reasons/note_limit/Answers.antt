use Rattle.std.proofs.Common.{ℕ, ◌∙◌, ap, None, Option, arith, get_or}
use Rattle.std.specs.Prelude.{slice_get}
use Rattle.std.proofs.lemmas.Option.{slice_get-get_or}
use Rattle.pipe_types.specs.declared.message.Why.{Why}
use Rattle.core_state.specs.Readings.{lives_by}
use Rattle.core_tables.proofs.Turns.{row_step, row_done}
use Rattle.core_deaths.specs.Passes.{limit_if}
use Rattle.core_deaths.proofs.reasons.note_limit.Goals as goal

pub loop-at-preserved : goal.loop-at-preserved
loop-at-preserved c =
    let at : ℕ = c.loop-at.at in
    let rows = c.args.rows.now in
    let F : ℕ → Option Why → Option Why = λ k o. limit_if (lives_by (slice_get rows k) k) in
    let now = c.loop-at.killed in
    record {
      rows = row_step F now c.args.killed.now at (get_or now at None) c.limit_if-reason.result (omega (arith, c.loop-at.auto.killed)) (slice_get-get_or now at None (omega (arith, c.loop-at.auto.killed))) (c.limit_if-reason.ensures ∙ ap limit_if c.lives.ensures) c.loop-at.invariant.rows;
    }

pub returns : goal.returns
returns c =
    record {
      killed = λ i.
          let F : ℕ → Option Why → Option Why = λ k o. limit_if (lives_by (slice_get c.args.rows.now k) k) in
          c.loop-at.invariant.rows i ∙ row_done F c.args.killed.now c.loop-at.at i (omega arith);
    }
