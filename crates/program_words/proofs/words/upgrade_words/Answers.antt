use Rattle.std.proofs.Common.{◌∙◌, ap, codes}
use Rattle.std.specs.Option.{option_map}
use Rattle.clap.specs.Words.{found_of}
use Rattle.clap.proofs.WalkLemmas.{first_value-rows}
use Rattle.program_words.specs.Words.{Upgrade, seen_as}
use Rattle.program_words.proofs.words.upgrade_words.Goals as goal

pub returns-in_err-get_str : goal.returns-in_err-get_str
returns-in_err-get_str c = ap seen_as c.from_residual.ensures ∙ ap (option_map Upgrade) (c.in_err-get_str.ensures ∙ first_value-rows (found_of c.args.matches.now) (codes "topology"))

pub returns : goal.returns
returns c = ap (option_map Upgrade) (c.in_ok-get_str.ensures ∙ first_value-rows (found_of c.args.matches.now) (codes "topology"))
