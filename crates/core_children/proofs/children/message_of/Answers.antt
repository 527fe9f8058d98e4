use Rattle.std.proofs.Common.{◌∙◌, sym}
use Rattle.pipe_laws.proofs.Contents.{content_no}
use Rattle.core_children.proofs.children.message_of.Goals as goal

pub returns-clause-no : goal.returns-clause-no
returns-clause-no c = content_no c.args.core.now.journal.steps c.args.no c.in-Some.message (sym c.in_ok-message.ensures ∙ c.in-Some.is)
