use Rattle.std.proofs.Common.{◌≡◌, ◌∙◌, ap₂, rules, false}
use Rattle.std.proofs.lemmas.Result.{IfOk-weaker}
use Rattle.clap.specs.Words.{rule_of, with_rule}
use Rattle.program_words.specs.Words.{live_rule, workers_rule}
use Rattle.program_words.proofs.words.run_command.Goals as goal

pub returns : goal.returns
returns c =
    let workers_is : rule_of c.long-workers.result ≡ workers_rule = search rules in
    let workers_local : c.long-workers.result.global ≡ false = search rules in
    let live_is : rule_of c.long-live.result ≡ live_rule = search rules in
    let live_local : c.long-live.result.global ≡ false = search rules in
    let topology = c.word.ensures in
    let acks = c.flag.ensures in
    let steps = c.flag-2.ensures in
    IfOk-weaker c.arg-5.result _ _ (λ m h.
    h.shape live_local ∙ ap₂ with_rule
    (c.in_ok-arg-4.ensures.shape steps.local ∙ ap₂ with_rule
    (c.in_ok-arg-3.ensures.shape acks.local ∙ ap₂ with_rule
    (c.in_ok-arg-2.ensures.shape workers_local ∙ ap₂ with_rule
    (c.in_ok-arg.ensures.shape topology.local ∙ ap₂ with_rule c.new-3.ensures.app topology.rule)
    workers_is) acks.rule) steps.rule) live_is) c.arg-5.ensures
