use Rattle.std.proofs.Common.{◌∙◌, ap, sym}
use Rattle.clap.specs.Words.{App, fault_of, is_simple, is_simple_and_free, subcommand_of}
use Rattle.program_words.specs.Words.{texts_of}
use Rattle.program_words.proofs.Taken.{fault, no_fault}
use Rattle.program_words.proofs.words.taken_command.Goals as goal

pub returns-in-Ok : goal.returns-in-Ok
returns-in-Ok c =
    let words = texts_of c.args.words.now in
    let program_is = c.in_ok-clap_program.ensures in
    let none = c.in-Ok.ensures.kinds (ap is_simple_and_free program_is) in
    let found = (c.in-Ok.ensures.matches (ap is_simple program_is)).1 in
    c.matched_command.ensures ∙ no_fault words _ (ap (λ (a : App). fault_of a words) (sym program_is) ∙ none)
    (found ∙ ap (λ (a : App). subcommand_of a words) program_is)

pub returns : goal.returns
returns c =
    let words = texts_of c.args.words.now in
    let program_is = c.in_ok-clap_program.ensures in
    fault _ words _ _ program_is c.kind.ensures c.in_default.not-OutOfMemory (c.in-Err.ensures.kinds (ap is_simple_and_free program_is))
