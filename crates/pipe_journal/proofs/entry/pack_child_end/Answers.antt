use Rattle.std.proofs.Common.{ap}
use Rattle.std.specs.Prelude.{Option, unwrap_or}
use Rattle.std.proofs.lemmas.Option.{slice_get_within}
use Rattle.pipe_types.specs.declared.message.Reply.{Reply}
use Rattle.pipe_types.specs.declared.step.Step.{Step}
use Rattle.pipe_journal.proofs.Extending.{added_there, same}
use Rattle.pipe_journal.proofs.Keeps.{grown, keeps_twice}
use Rattle.pipe_journal.proofs.entry.pack_child_end.Goals as goal

pub returns-in-Ok-clause-step : goal.returns-in-Ok-clause-step
returns-in-Ok-clause-step c =
    ap (λ (found : Option Reply). Step.ChildEnd c.args.stage c.args.slot (unwrap_or found Reply.Crashed)) (added_there _ _ _ _ c.in-Ok.ensures.added)

pub returns-in-Ok-clause-held : goal.returns-in-Ok-clause-held
returns-in-Ok-clause-held c = slice_get_within _ _ _ (added_there _ _ _ _ c.in-Ok.ensures.added)

pub returns-in-Ok-clause-keeps : goal.returns-in-Ok-clause-keeps
returns-in-Ok-clause-keeps c = grown c.args.store.now c.add_reply.new.self (same _ _ c.add_reply.ensures.records) c.add_reply.ensures.extends

pub returns-in-Err-clause-keeps : goal.returns-in-Err-clause-keeps
returns-in-Err-clause-keeps c =
    keeps_twice c.args.store.now _ _ (grown c.args.store.now c.add_reply.new.self (same _ _ c.add_reply.ensures.records) c.add_reply.ensures.extends)
    c.pack_whole.ensures.keeps
