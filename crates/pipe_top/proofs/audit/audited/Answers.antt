use Rattle.std.proofs.Common.{false, None, refl, inr}
use Rattle.pipe_top.proofs.Openings.{unrun}
use Rattle.pipe_top.proofs.audit.audited.Goals as goal

pub returns-in-Ok-clause-audited : goal.returns-in-Ok-clause-audited
returns-in-Ok-clause-audited g c = inr (record {
  texts = record {
    steps = false;
    acks = None;
    last = c.in-Ok.last;
  };
  counted = refl;
  counts = c.in-Ok.ensures;
  own = refl;
  run = rw c.new.ensures.empty (unrun c.args.topology c.requires.sound);
  no_step = c.new.ensures.empty;
})
