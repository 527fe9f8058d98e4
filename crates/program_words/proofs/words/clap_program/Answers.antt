use Rattle.std.proofs.Common.{◌∙◌, ap, ap₂}
use Rattle.std.proofs.lemmas.Result.{IfOk-weaker}
use Rattle.clap.specs.Words.{App, with_subcommand}
use Rattle.clap.proofs.SimpleLemmas.{plain_fields}
use Rattle.program_words.proofs.Taken.{bare}
use Rattle.program_words.proofs.words.clap_program.Goals as goal

pub returns : goal.returns
returns c =
    let check_is = c.in_ok-check_command.ensures in
    let run_is = c.in_ok-run_command.ensures in
    let gen_is = c.in_ok-gen_command.ensures in
    let upgrade_is = c.in_ok-upgrade_command.ensures in
    let audit_is = c.in_ok-audit_command.ensures in
    let bare_is = bare c.new.result c.no_binary_name.result c.disable_help_flag.result c.disable_help_subcommand.result
    c.new.ensures.app c.no_binary_name.ensures c.disable_help_flag.ensures c.disable_help_subcommand.ensures in
    IfOk-weaker c.subcommand-5.result _ _ (λ m h.
    h.shape (plain_fields _ (ap (λ (a : App). a.top.is_plain) audit_is)).globals ∙ ap₂ with_subcommand
    (c.in_ok-subcommand-4.ensures.shape (plain_fields _ (ap (λ (a : App). a.top.is_plain) upgrade_is)).globals ∙ ap₂ with_subcommand
    (c.in_ok-subcommand-3.ensures.shape (plain_fields _ (ap (λ (a : App). a.top.is_plain) gen_is)).globals ∙ ap₂ with_subcommand
    (c.in_ok-subcommand-2.ensures.shape (plain_fields _ (ap (λ (a : App). a.top.is_plain) run_is)).globals ∙ ap₂ with_subcommand
    (c.in_ok-subcommand.ensures.shape (plain_fields _ (ap (λ (a : App). a.top.is_plain) check_is)).globals
    ∙ ap₂ with_subcommand bare_is (ap (λ (a : App). a.top) check_is))
    (ap (λ (a : App). a.top) run_is))
    (ap (λ (a : App). a.top) gen_is))
    (ap (λ (a : App). a.top) upgrade_is))
    (ap (λ (a : App). a.top) audit_is)) c.subcommand-5.ensures
