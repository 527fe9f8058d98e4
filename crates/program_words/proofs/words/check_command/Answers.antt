use Rattle.std.proofs.Common.{◌∙◌, ap₂}
use Rattle.std.proofs.lemmas.Result.{IfOk-weaker}
use Rattle.clap.specs.Words.{with_rule}
use Rattle.program_words.proofs.words.check_command.Goals as goal

pub returns : goal.returns
returns c =
    let topology = c.word.ensures in
    IfOk-weaker c.arg.result _ _ (λ m h. h.shape topology.local ∙ ap₂ with_rule c.new.ensures.app topology.rule) c.arg.ensures
