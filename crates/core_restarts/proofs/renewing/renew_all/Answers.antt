use Rattle.std.proofs.Common.{◌≡◌, ◌+◌, ◌-◌, ◌<◌, ◌∙◌, length, Some, ap, sym, arith}
use Rattle.std.specs.Prelude.{slice_get}
use Rattle.stage_laws.proofs.Numbering.{numbered_topology}
use Rattle.stage_subs.specs.Subs.{row_at}
use Rattle.core_state.specs.Readings.{lives_by}
use Rattle.core_state.proofs.FirstPairs.{there}
use Rattle.core_restarts.specs.Renewals.{renewed}
use Rattle.core_restarts.proofs.Pairs.{none_first, next_closed, seen_joined, turn}
use Rattle.core_restarts.proofs.renewing.renew_all.Goals.{After-index-stages-stage, After-index-stages-at}
use Rattle.core_restarts.proofs.renewing.renew_all.Goals as goal

pub loop-at-init : goal.loop-at-init
loop-at-init c =
    record { rows = λ d p. sym (ap (λ b. renewed c.args.topology.now d b (row_at c.args.subs.now d p)) (none_first c.args.topology.now c.args.rows.now c.args.stage d p)) }

-- the stage itself, and the one that is gone over, stand at their numbers
stage_at : (c : After-index-stages-stage) → slice_get c.args.topology.now.stages (c.args.stage.0 - 1) ≡ Some c.index-stages-stage.result
stage_at c = there c.as_slice-stages.result.now c.args.topology.now.stages (c.args.stage.0 - 1) c.index-stages-stage.result c.as_slice-stages.ensures (omega (arith, c.requires.first, c.requires.within)) ∙ ap Some (sym c.index-stages-stage.is)

stage_is : (c : After-index-stages-stage) → c.index-stages-stage.result.no ≡ c.args.stage
stage_is c =
    let number : c.index-stages-stage.result.no.0 ≡ c.args.stage.0 = (numbered_topology c.args.topology.now c.requires.sound).numbers (c.args.stage.0 - 1) c.index-stages-stage.result (stage_at c) ∙ omega (arith, c.requires.first) in
    ap (λ k. record { 0 = k }) number

below : (c : After-index-stages-at) → c.loop-at.at < length c.args.topology.now.stages
below c = omega (arith, ap length c.as_slice-stages.ensures, c.loop-at.auto.at-end, c.loop-at-test.true)

other_at : (c : After-index-stages-at) → slice_get c.args.topology.now.stages c.loop-at.at ≡ Some c.index-stages-at.result
other_at c = there c.as_slice-stages.result.now c.args.topology.now.stages c.loop-at.at c.index-stages-at.result c.as_slice-stages.ensures (below c) ∙ ap Some (sym c.index-stages-at.is)

other_is : (c : After-index-stages-at) → c.index-stages-at.result.no.0 ≡ c.loop-at.at + 1
other_is c = (numbered_topology c.args.topology.now c.requires.sound).numbers c.loop-at.at c.index-stages-at.result (other_at c) ∙ omega arith

pub renew_with-requires-clause-stage_there : goal.renew_with-requires-clause-stage_there
renew_with-requires-clause-stage_there c =
    (numbered_topology c.args.topology.now c.requires.sound).found (c.args.stage.0 - 1) c.index-stages-stage.result (stage_at (goal.at.renew_with-requires-clause-stage_there c).After-index-stages-stage)

pub renew_with-requires-clause-other_there : goal.renew_with-requires-clause-other_there
renew_with-requires-clause-other_there c =
    (numbered_topology c.args.topology.now c.requires.sound).found c.loop-at.at c.index-stages-at.result (other_at (goal.at.renew_with-requires-clause-other_there c).After-index-stages-at)

pub renew_with-requires-clause-closed : goal.renew_with-requires-clause-closed
renew_with-requires-clause-closed c = λ d p h.
    let rows = c.args.rows.now in
    let s = c.args.stage in
    let read = goal.at.renew_with-requires-clause-closed c in
    let next = other_is read.After-index-stages-at in
    next_closed c.args.topology.now (λ x. lives_by (slice_get rows x.0) x.0) s c.index-stages-at.result.no d p c.loop-at.at (length c.args.topology.now.stages) (row_at c.args.subs.now d p) (row_at c.loop-at.subs d p)
    (omega (arith, next)) (omega (arith, next, below read.After-index-stages-at)) c.requires.dead (c.loop-at.invariant.rows d p) (c.requires.closed d p)
    (sym (seen_joined c.args.topology.now rows s c.index-stages-stage.result c.index-stages-at.result c.loop-at.at c.does_live-lives.result d p (stage_is read.After-index-stages-stage) next c.does_live-lives.ensures) ∙ h)

pub loop-at-preserved : goal.loop-at-preserved
loop-at-preserved c =
    let rows = c.args.rows.now in
    let s = c.args.stage in
    let next = other_is (goal.at.loop-at-preserved c).After-index-stages-at in
    let is = stage_is (goal.at.loop-at-preserved c).After-index-stages-stage in
    record {
      rows = λ d p.
          c.renew_with.ensures d p
          ∙ (ap (λ b. renewed c.args.topology.now d b (row_at c.loop-at.subs d p)) (seen_joined c.args.topology.now rows s c.index-stages-stage.result c.index-stages-at.result c.loop-at.at c.does_live-lives.result d p is next c.does_live-lives.ensures)
          ∙ (ap (renewed c.args.topology.now d _) (c.loop-at.invariant.rows d p)
          ∙ turn c.args.topology.now (λ x. lives_by (slice_get rows x.0) x.0) s c.index-stages-at.result.no d p c.loop-at.at (row_at c.args.subs.now d p) next c.requires.dead));
    }
