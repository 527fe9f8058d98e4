use Rattle.std.proofs.Common.{◌∙◌, arith}
use Rattle.std.specs.Prelude.{slice_get}
use Rattle.box_stock.specs.Homes.{joined}
use Rattle.box_stock.specs.Lends.{box_at}
use Rattle.box_stock.proofs.Lending.{on_err, refused_all, armed_more, armed_all, no_box}
use Rattle.box_stock.proofs.arming.arm_all.Goals as goal

pub returns-in_err-arm_at-clause-same : goal.returns-in_err-arm_at-clause-same
returns-in_err-arm_at-clause-same g c =
    let seen = g.C.Boxed.seen in
    let x = c.loop-at.invariant in
    on_err c.from_residual.result
    (refused_all c.args.topology.now (λ k. joined (slice_get c.args.homes.now k)) c.loop-at.at (box_at seen c.args.stock.now.items) (box_at seen c.loop-at.stock.items) (box_at seen c.arm_at.new.stock.items)
    x.armed x.rest c.in_err-arm_at.ensures.refused c.arm_at.ensures.others)

pub loop-at-preserved : goal.loop-at-preserved
loop-at-preserved g c =
    let seen = g.C.Boxed.seen in
    let x = c.loop-at.invariant in
    record {
      len = c.arm_at.ensures.len ∙ x.len;
      armed = armed_more c.args.topology.now (λ k. joined (slice_get c.args.homes.now k)) c.loop-at.at c.home_in-home.result (box_at seen c.args.stock.now.items) (box_at seen c.loop-at.stock.items) (box_at seen c.arm_at.new.stock.items)
          c.home_in-home.ensures x.armed x.rest c.in_ok-arm_at.ensures.armed c.arm_at.ensures.others;
      rest = λ k up. c.arm_at.ensures.others k (λ e. omega (arith, up, e)) ∙ x.rest k (omega (arith, up));
    }

pub returns-clause-armed : goal.returns-clause-armed
returns-clause-armed g c =
    let seen = g.C.Boxed.seen in
    let x = c.loop-at.invariant in
    let past = c.loop-at-test.false in
    armed_all c.args.topology.now (λ k. joined (slice_get c.args.homes.now k)) c.loop-at.at (box_at seen c.args.stock.now.items) (box_at seen c.loop-at.stock.items) x.armed
    (λ k up. (no_box seen c.args.stock.now.items k (omega (arith, up, past, c.requires.len)), no_box seen c.loop-at.stock.items k (omega (arith, up, past, c.requires.len, x.len))))
