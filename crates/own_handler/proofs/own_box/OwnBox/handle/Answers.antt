use Rattle.std.proofs.Common.{sym, ◌∙◌}
use Rattle.own_handler.proofs.Judging.{judged_kept, same_judged, same_shape}
use Rattle.own_handler.proofs.own_box.OwnBox.handle.Goals as goal

pub returns-clause-judged : goal.returns-clause-judged
returns-clause-judged g c = record {
  given = c.in_ok-given.given;
  meant = c.in_ok-given.ensures.gives;
  is = c.judge_reply-reply.ensures.answer ∙ same_judged c.args.self.now.spec.batchers c.args.message c.in_ok-given.given;
}

pub returns-clause-shape : goal.returns-clause-shape
returns-clause-shape g c =
    sym (same_shape c.args.self.now.spec.batchers c.args.message c.judge_reply-reply.result) ∙ c.judge_reply-reply.ensures.shape

pub returns-clause-lawful : goal.returns-clause-lawful
returns-clause-lawful g c =
    judged_kept (g.H.Handler.law c.args.self.now.handler) c.args.self.now.spec.batchers c.args.message c.in_ok-given.given c.judge_reply-reply.result
    (c.judge_reply-reply.ensures.answer ∙ same_judged c.args.self.now.spec.batchers c.args.message c.in_ok-given.given) c.in_ok-given.ensures.lawful
