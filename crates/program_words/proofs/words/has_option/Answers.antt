use Rattle.std.proofs.Common.{◌∙◌, refl}
use Rattle.clap.specs.Words.{found_of}
use Rattle.clap.proofs.TakesLemmas.{present_row}
use Rattle.program_words.proofs.Taken.{absent, explicit}
use Rattle.program_words.proofs.words.has_option.Goals as goal

pub returns-then-contains_id : goal.returns-then-contains_id
returns-then-contains_id c =
    explicit _ _ _ c.value_source.result c.ne.result refl refl c.value_source.ensures c.ne.ensures c.if-contains_id.ensures
    ∙ present_row (found_of c.args.matches.now) c.args.name.now

pub returns-else-contains_id : goal.returns-else-contains_id
returns-else-contains_id c = c.if-contains_id.false ∙ absent _ _ c.if-contains_id.ensures ∙ present_row (found_of c.args.matches.now) c.args.name.now
