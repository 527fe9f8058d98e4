use Rattle.std.proofs.Common.{◌≡◌, ◌≤◌, ◌-◌}
use Rattle.core_sends.specs.Picks.{first_sends, first_serves}
use Rattle.core_sends.proofs.plans.plan_picked.Given as goal

abbrev pub invariant-look : goal.invariant-look
invariant-look l =
    record {
      within : l.count ≤ l.waiting;
      some : 1 ≤ l.waiting → 1 ≤ l.count;
      sent : l.plan.sent.items ≡ first_sends l.core.topology l.core.journal.steps l.fn.stage l.count;
      served : l.plan.served ≡ first_serves l.core.topology l.core.journal.steps l.fn.stage l.count;
    }

abbrev pub decreases-look : goal.decreases-look
decreases-look l = l.waiting - l.count
