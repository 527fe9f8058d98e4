use Rattle.std.proofs.Common.{rules, ◌+◌, ◌*◌, ◌∙◌, arith, false, length, get_or}
use Rattle.dispatch_broadcast.proofs.Selected.{sent_turn, done_turn, rest_turn, byte_is}
use Rattle.dispatch_broadcast.proofs.send_picked.Goals as goal

pub loop-i-preserved : goal.loop-i-preserved
loop-i-preserved c =
    let l = c.loop-i in
    let left = c.args.left.now.items in
    let value = c.index_mut.ensures.value in
    record {
      sent = sent_turn c.args.room.now c.args.picks.now c.args.unit l.i _ c.args.sent.now.items l.sent.items c.push_if.new.sent.items c.requires.ascending (omega arith) l.invariant.sent c.in_ok-push_if.ensures;
      long = search rules;
      done = done_turn left l.left.items (λ j. get_or c.args.picks.now (c.args.unit * length c.args.room.now + j) false) l.i c.index_mut.result.now c.from.result (omega (arith, c.requires.long, l.invariant.long)) value (c.from.ensures ∙ byte_is _) (c.requires.fits l.i (omega arith)) l.invariant.done l.invariant.rest;
      rest = rest_turn left l.left.items l.i _ l.invariant.rest;
    }
