use Rattle.std.proofs.Common.{◌≡◌, get_or, true, false, ap, sym, ◌∙◌, arith}
use Rattle.pipe_types.specs.declared.message.Reply.TheVariants.{Crashed}
use Rattle.pipe_types.specs.Handlers.{is_crashed}
use Rattle.core_allows.proofs.Replied.{each_past, each_here, each_end, last_is}
use Rattle.core_allows.proofs.dones.answers_each.Goals as goal

pub returns-then-k-chunk : goal.returns-then-k-chunk
returns-then-k-chunk c =
    sym (each_past c.args.chunk.now c.args.replies.now c.loop-k.k Crashed (omega (arith, c.loop-k-test.true)) (omega (arith, c.if-k-chunk.true))) ∙ c.loop-k.invariant.left

pub returns-then-is_crash : goal.returns-then-is_crash
returns-then-is_crash c =
    let replies = c.args.replies.now in
    let k = c.loop-k.k in
    let r = c.index-replies-k.result in
    let crash : is_crashed (get_or replies k r) ≡ true = ap is_crashed (sym c.index-replies-k.is) ∙ (sym c.is_crash.ensures ∙ c.if-is_crash.true) in
    last_is replies k c.loop-k-test.true
    ∙ (sym (each_here c.args.chunk.now replies k 0 r true (omega (arith, c.if-k-chunk.false)) c.loop-k-test.true crash) ∙ c.loop-k.invariant.left)

pub loop-k-preserved : goal.loop-k-preserved
loop-k-preserved c =
    let k = c.loop-k.k in
    let r = c.index-replies-k.result in
    let crash : is_crashed (get_or c.args.replies.now k r) ≡ false = ap is_crashed (sym c.index-replies-k.is) ∙ (sym c.is_crash.ensures ∙ c.if-is_crash.false) in
    record {
      left = sym (each_here c.args.chunk.now c.args.replies.now k 0 r false (omega (arith, c.if-k-chunk.false)) c.loop-k-test.true crash) ∙ c.loop-k.invariant.left;
      within = omega (arith, c.if-k-chunk.false);
    }

pub returns : goal.returns
returns c = each_end c.args.chunk.now c.args.replies.now c.loop-k.k (omega arith) c.loop-k.invariant.within ∙ c.loop-k.invariant.left
