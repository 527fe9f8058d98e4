use Rattle.core_laws.proofs.Came.{came_is}
use Rattle.core_laws.proofs.messages_came_on_one_subscription.Goals as goal

pub returns : goal.returns
returns c = λ topology before s slot n u sound legal own. came_is topology before s slot n u sound legal own
