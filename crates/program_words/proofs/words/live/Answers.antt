use Rattle.std.proofs.Common.{ℕ, List, Option, None, Some, ◌∙◌, ap, codes}
use Rattle.std.specs.Option.{option_map_or}
use Rattle.clap.specs.Words.{found_of}
use Rattle.clap.proofs.WalkLemmas.{first_value-rows}
use Rattle.program_words.specs.Words.{sink_of}
use Rattle.program_words.proofs.words.live.Goals as goal

abbrev named_by : Option (List ℕ) → Option (Option (List ℕ))
named_by text = option_map_or sink_of text (Some None)

pub returns-in-Some : goal.returns-in-Some
returns-in-Some c = c.sink_name.ensures ∙ ap named_by (c.in-Some.ensures ∙ first_value-rows (found_of c.args.matches.now) (codes "live"))

pub returns-in-None : goal.returns-in-None
returns-in-None c = ap named_by (c.in-None.ensures ∙ first_value-rows (found_of c.args.matches.now) (codes "live"))
