use Rattle.std.proofs.Common.{ap, ◌∙◌}
use Rattle.plain_places.proofs.queues.place_now.Goals as goal

pub returns : goal.returns
returns c = c.place_of.ensures ∙ ap (λ v. v.place c.args.n) c.requires.view
