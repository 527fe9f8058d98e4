use Rattle.std.proofs.Common.{rules, ℕ, filter}
use Rattle.std.proofs.lemmas.Fn.{filter_same}
use Rattle.plain_run.specs.Acked.{acked_by}
use Rattle.plain_run.proofs.settled.keep_acked.Goals as goal

pub returns : goal.returns
returns c = filter_same _ (λ (n : ℕ). acked_by c.args.places.now.items c.args.marks.now c.args.mark n) _ (λ x b f' r. search rules) _ _ c.retain.ensures.filtered
