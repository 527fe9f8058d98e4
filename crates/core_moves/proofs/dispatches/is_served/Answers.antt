use Rattle.std.proofs.Common.{◌∙◌}
use Rattle.std.specs.Prelude.{option_map}
use Rattle.pipe_model.specs.Content.{key_in}
use Rattle.pipe_journal.specs.Items.{message_seen}
use Rattle.core_moves.proofs.Sending.{let_in_go}
use Rattle.core_moves.proofs.dispatches.is_served.Goals as goal

pub returns : goal.returns
returns c =
    let core = c.args.core.now in
    c.lets_in_all.ensures
    ∙ let_in_go core.topology core.journal.steps c.args.spec.now.no c.requires.live (key_in (option_map message_seen c.first_message-message.result)) c.args.first c.first_message-message.ensures
