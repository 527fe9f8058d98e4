use Rattle.std.proofs.Common.{◌∙◌, ap₂}
use Rattle.std.proofs.lemmas.Result.{IfOk-weaker}
use Rattle.clap.specs.Words.{with_rule}
use Rattle.program_words.proofs.words.gen_command.Goals as goal

pub returns : goal.returns
returns c =
    let seed = c.word.ensures in
    let count = c.word-2.ensures in
    let topology = c.word-3.ensures in
    IfOk-weaker c.arg-3.result _ _ (λ m h.
    h.shape topology.local ∙ ap₂ with_rule
    (c.in_ok-arg-2.ensures.shape count.local ∙ ap₂ with_rule
    (c.in_ok-arg.ensures.shape seed.local ∙ ap₂ with_rule c.new.ensures.app seed.rule)
    count.rule) topology.rule) c.arg-3.ensures
