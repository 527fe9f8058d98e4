use Rattle.std.proofs.Common.{◌∙◌, ap, codes}
use Rattle.clap.specs.Words.{found_of}
use Rattle.clap.proofs.WalkLemmas.{first_value-rows}
use Rattle.program_words.specs.Words.{seen_as}
use Rattle.program_words.proofs.Taken.{run_read, no_file, no_workers, no_live}
use Rattle.program_words.proofs.words.run_words.Goals as goal

pub returns-in_err-get_str : goal.returns-in_err-get_str
returns-in_err-get_str c = ap seen_as c.from_residual.ensures ∙ no_file _ _ _ _ _ (c.in_err-get_str.ensures ∙ first_value-rows (found_of c.args.matches.now) (codes "topology"))

pub returns-in_err-workers : goal.returns-in_err-workers
returns-in_err-workers c = ap seen_as c.from_residual-in_err-workers.ensures ∙ no_workers _ _ _ _ _ c.in_err-workers.ensures

pub returns-in_err-live : goal.returns-in_err-live
returns-in_err-live c = ap seen_as c.from_residual-in_err-live.ensures ∙ no_live _ _ _ _ _ c.in_err-live.ensures

pub returns : goal.returns
returns c =
    run_read _ _ _ _ _ _ _ _ _ _ (c.in_ok-get_str.ensures ∙ first_value-rows (found_of c.args.matches.now) (codes "topology"))
    c.in_ok-workers.ensures c.in_ok-live.ensures c.has_option.ensures c.has_option-2.ensures
