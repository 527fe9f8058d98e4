use Rattle.std.proofs.Common.{false, None, refl}
use Rattle.pipe_top.proofs.Openings.{unrun}
use Rattle.pipe_top.proofs.file.finish_upgrade.Goals as goal

pub returns-clause-upgraded : goal.returns-clause-upgraded
returns-clause-upgraded g c = λ file is. record {
  texts = record {
    steps = false;
    acks = None;
    last = c.args.found.text;
  };
  counted = refl;
  counts = refl;
  upgrade = is;
  own = refl;
  run = rw c.new.ensures.empty (unrun c.args.found.topology c.requires.sound);
  no_step = c.new.ensures.empty;
}
