use Rattle.std.proofs.Common.{◌∙◌, ap}
use Rattle.pipe_types.specs.declared.step.Step.{Step}
use Rattle.pipe_journal.proofs.Extending.{added_piece, added_within, same}
use Rattle.pipe_journal.proofs.Keeps.{grown, keeps_twice}
use Rattle.pipe_journal.proofs.entry.pack_accept.Goals as goal

pub returns-in-Ok-clause-step : goal.returns-in-Ok-clause-step
returns-in-Ok-clause-step c = ap (Step.Accept c.args.stage) (added_piece _ _ _ _ _ c.in-Ok.ensures.added ∙ c.as_slice.ensures)

pub returns-in-Ok-clause-held : goal.returns-in-Ok-clause-held
returns-in-Ok-clause-held c = added_within _ _ _ _ _ c.in-Ok.ensures.added

pub returns-in-Ok-clause-keeps : goal.returns-in-Ok-clause-keeps
returns-in-Ok-clause-keeps c = grown c.args.store.now c.add_records.new.self c.add_records.ensures.extends (same _ _ c.add_records.ensures.replies)

pub returns-in-Err-clause-keeps : goal.returns-in-Err-clause-keeps
returns-in-Err-clause-keeps c =
    keeps_twice c.args.store.now _ _ (grown c.args.store.now c.add_records.new.self c.add_records.ensures.extends (same _ _ c.add_records.ensures.replies))
    c.pack_whole.ensures.keeps
