use Rattle.std.proofs.Common.{◌∙◌, ap, Some}
use Rattle.std.proofs.lemmas.Result.{IfOk-weaker}
use Rattle.toml.specs.Parse.{parse_document}
use Rattle.toml.specs.View.{table_view}
use Rattle.config_table.specs.declared.format.FileVersion.TheVariants.{Two}
use Rattle.config_table.specs.Walk.{faults_of, version_of}
use Rattle.pipe_config.proofs.Upgraded.{is_version_2, upgraded_clear}
use Rattle.pipe_config.proofs.version2.upgraded_bytes.Goals as goal

pub text_of-requires-clause-version : goal.text_of-requires-clause-version
text_of-requires-clause-version c = ap version_of c.in_ok-set_version.ensures ∙ is_version_2 (table_view c.args.table)

pub text_of-requires-clause-faultless : goal.text_of-requires-clause-faultless
text_of-requires-clause-faultless c = ap (faults_of Two) c.in_ok-set_version.ensures ∙ upgraded_clear (table_view c.args.table) c.requires.0 c.requires.1

pub returns-clause-reads : goal.returns-clause-reads
returns-clause-reads c =
    IfOk-weaker c.text_bytes.result _ _ (λ bytes same. ap parse_document (same ∙ c.as_str.ensures.value) ∙ (c.in_ok-text.ensures ∙ ap Some c.in_ok-set_version.ensures)) c.text_bytes.ensures.same
