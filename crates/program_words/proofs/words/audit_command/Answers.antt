use Rattle.std.proofs.Common.{◌∙◌, ap₂}
use Rattle.std.proofs.lemmas.Result.{IfOk-weaker}
use Rattle.clap.specs.Words.{with_rule}
use Rattle.program_words.proofs.words.audit_command.Goals as goal

pub returns : goal.returns
returns c =
    let journal = c.word.ensures in
    let topology = c.word-2.ensures in
    IfOk-weaker c.arg-2.result _ _ (λ m h.
    h.shape topology.local ∙ ap₂ with_rule
    (c.in_ok-arg.ensures.shape journal.local ∙ ap₂ with_rule c.new.ensures.app journal.rule)
    topology.rule) c.arg-2.ensures
