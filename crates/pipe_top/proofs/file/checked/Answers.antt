use Rattle.std.proofs.Common.{false, None, refl, inr}
use Rattle.pipe_top.proofs.Openings.{unrun}
use Rattle.pipe_top.proofs.file.checked.Goals as goal

pub returns-in-Ok-clause-checked : goal.returns-in-Ok-clause-checked
returns-in-Ok-clause-checked g c = inr (record {
  texts = record {
    steps = false;
    acks = None;
    last = c.in-Ok.last;
  };
  counted = refl;
  counts = rw (c.subscriptions.ensures, c.as_slice-stages.ensures) at c.in-Ok.ensures;
  own = refl;
  run = rw c.new.ensures.empty (unrun c.args.topology c.requires.sound);
  no_step = c.new.ensures.empty;
})
