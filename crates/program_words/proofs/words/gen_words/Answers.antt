use Rattle.std.proofs.Common.{◌∙◌, ap, codes}
use Rattle.clap.specs.Words.{found_of}
use Rattle.clap.proofs.WalkLemmas.{first_value-rows}
use Rattle.program_words.specs.Words.{seen_as}
use Rattle.program_words.proofs.Taken.{gen_read, no_count, no_seed, no_topology}
use Rattle.program_words.proofs.words.gen_words.Goals as goal

pub returns-in_err-number_at : goal.returns-in_err-number_at
returns-in_err-number_at c = ap seen_as c.from_residual.ensures ∙ no_seed _ _ _ c.in_err-number_at.ensures

pub returns-in_err-number_at-2 : goal.returns-in_err-number_at-2
returns-in_err-number_at-2 c = ap seen_as c.from_residual-in_err-number_at-2.ensures ∙ no_count _ _ _ c.in_err-number_at-2.ensures

pub returns-in_err-get_str : goal.returns-in_err-get_str
returns-in_err-get_str c = ap seen_as c.from_residual-in_err-get_str.ensures ∙ no_topology _ _ _ (c.in_err-get_str.ensures ∙ first_value-rows (found_of c.args.matches.now) (codes "topology"))

pub returns : goal.returns
returns c =
    gen_read _ _ _ _ _ _ c.in_ok-number_at.ensures c.in_ok-number_at-2.ensures
    (c.in_ok-get_str.ensures ∙ first_value-rows (found_of c.args.matches.now) (codes "topology"))
