use Rattle.std.proofs.Common.{ℕ, List, Option, Some, ◌∙◌, ap, codes}
use Rattle.std.specs.Option.{option_map_or}
use Rattle.clap.specs.Words.{found_of}
use Rattle.clap.proofs.WalkLemmas.{first_value-rows}
use Rattle.program_words.specs.Words.{workers_of}
use Rattle.program_words.proofs.words.workers.Goals as goal

abbrev number_in : Option (List ℕ) → Option ℕ
number_in text = option_map_or workers_of text (Some 1)

pub returns-in-Some : goal.returns-in-Some
returns-in-Some c = c.spelled_workers.ensures ∙ ap number_in (c.in-Some.ensures ∙ first_value-rows (found_of c.args.matches.now) (codes "workers"))

pub returns-in-None : goal.returns-in-None
returns-in-None c = ap number_in (c.in-None.ensures ∙ first_value-rows (found_of c.args.matches.now) (codes "workers"))
