use Rattle.std.proofs.Common.{◌∙◌, ap, option_and_then}
use Rattle.clap.specs.Words.{found_of}
use Rattle.clap.proofs.WalkLemmas.{first_value-rows}
use Rattle.program_words.specs.Words.{number_in}
use Rattle.program_words.proofs.words.number_at.Goals as goal

pub returns-in-Some : goal.returns-in-Some
returns-in-Some c = c.number_in.ensures ∙ ap (option_and_then (number_in c.args.low c.args.high)) (c.in-Some.ensures ∙ first_value-rows (found_of c.args.matches.now) c.args.name.now)

pub returns-in-None : goal.returns-in-None
returns-in-None c = ap (option_and_then (number_in c.args.low c.args.high)) (c.in-None.ensures ∙ first_value-rows (found_of c.args.matches.now) c.args.name.now)
