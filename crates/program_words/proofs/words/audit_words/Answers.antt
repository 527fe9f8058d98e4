use Rattle.std.proofs.Common.{◌∙◌, ap, codes}
use Rattle.clap.specs.Words.{found_of}
use Rattle.clap.proofs.WalkLemmas.{first_value-rows}
use Rattle.program_words.specs.Words.{seen_as}
use Rattle.program_words.proofs.Taken.{audit_read, no_journal, none_audited}
use Rattle.program_words.proofs.words.audit_words.Goals as goal

pub returns-in_err-get_str : goal.returns-in_err-get_str
returns-in_err-get_str c = ap seen_as c.from_residual.ensures ∙ no_journal _ _ (c.in_err-get_str.ensures ∙ first_value-rows (found_of c.args.matches.now) (codes "journal"))

pub returns-in_err-get_str-2 : goal.returns-in_err-get_str-2
returns-in_err-get_str-2 c = ap seen_as c.from_residual-in_err-get_str-2.ensures ∙ none_audited _ _ (c.in_err-get_str-2.ensures ∙ first_value-rows (found_of c.args.matches.now) (codes "topology"))

pub returns : goal.returns
returns c =
    audit_read _ _ _ _ (c.in_ok-get_str.ensures ∙ first_value-rows (found_of c.args.matches.now) (codes "journal"))
    (c.in_ok-get_str-2.ensures ∙ first_value-rows (found_of c.args.matches.now) (codes "topology"))
