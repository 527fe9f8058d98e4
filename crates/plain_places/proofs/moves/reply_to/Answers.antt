use Rattle.std.proofs.Common.{◌≡◌, false, get_or, sym, ◌∙◌, rules, arith}
use Rattle.std.proofs.lemmas.Bool.{ne_eqb}
use Rattle.std.specs.Prelude.{◌==◌}
use Rattle.plain_places.proofs.Replies.{reply_none, reply_later}
use Rattle.plain_places.proofs.moves.reply_to.Goals as goal

pub returns-then-i-replies : goal.returns-then-i-replies
returns-then-i-replies c = sym (reply_none c.args.chunk.now c.args.replies.now c.loop-i.i c.args.n (omega arith) (omega arith)) ∙ c.loop-i.invariant

pub loop-i-preserved : goal.loop-i-preserved
loop-i-preserved c =
    let other : (get_or c.args.chunk.now c.loop-i.i 0 == c.args.n) ≡ false = search (rules, ne_eqb) in
    sym (reply_later c.args.chunk.now c.args.replies.now c.loop-i.i c.args.n (omega arith) (omega arith) other) ∙ c.loop-i.invariant
