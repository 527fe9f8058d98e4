use Rattle.std.proofs.Common.{◌≡◌, true, subst}
use Rattle.pipe_types.specs.declared.step.Step.{Step}
use Rattle.core_allows.specs.Tested.{allows_tested}
use Rattle.plain_run.proofs.Gives.{replies_role, reply_out}
use Rattle.plain_run.proofs.given.is_given.Goals as goal

pub are_replies-requires-clause-processor : goal.are_replies-requires-clause-processor
are_replies-requires-clause-processor c =
    let core = c.args.core.now in
    let a = c.in-Done in
    replies_role core.topology core.journal.steps a.stage a.replies (subst (λ (step : Step). allows_tested core.topology core.journal.steps step ≡ true) a.is c.requires.tested)

pub is_reply-requires-clause-out : goal.is_reply-requires-clause-out
is_reply-requires-clause-out c =
    let core = c.args.core.now in
    let a = c.in-ChildEnd in
    reply_out core.topology core.journal.steps a.stage a.slot a.reply (subst (λ (step : Step). allows_tested core.topology core.journal.steps step ≡ true) a.is c.requires.tested)
