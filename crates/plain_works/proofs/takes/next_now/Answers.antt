use Rattle.std.proofs.Common.{◌∙◌}
use Rattle.std.proofs.lemmas.Result.{IfOk-weaker}
use Rattle.plain_queues.specs.Flows.{topology_of, history_of}
use Rattle.plain_works.proofs.Shown.{next_same}
use Rattle.plain_works.proofs.takes.next_now.Goals as goal

pub returns : goal.returns
returns c =
    IfOk-weaker c.next_units.result _ _
    (λ units is. is ∙ next_same (topology_of c.args.flow.now) (history_of c.args.flow.now) c.args.flow.now.tables.now c.requires c.args.stage c.args.sub c.args.k) c.next_units.ensures
