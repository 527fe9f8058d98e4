use Rattle.std.proofs.Common.{◌≡◌, ◌++◌, ◌<◌, length, take, refl, ap, sym, ◌∙◌, arith}
use Rattle.std.specs.List.{filter_map}
use Rattle.std.specs.Option.{option_to_list}
use Rattle.std.proofs.lemmas.List.{take_all}
use Rattle.pipe_journal.proofs.Walks.{filter_map_at}
use Rattle.journal_texts.specs.Report.{loss_of}
use Rattle.journal_texts.proofs.places.losses.Goals as goal

pub loop-at-preserved : goal.loop-at-preserved
loop-at-preserved c =
    let items = c.args.places.now.items in
    let before = filter_map loss_of (take c.loop-at.at items) in
    c.in_ok-add_loss.ensures
    ∙ (ap (λ ls. ls ++ option_to_list c.loss_of.result) c.loop-at.invariant
    ∙ (ap (λ o. before ++ option_to_list o) c.loss_of.ensures
    ∙ filter_map_at loss_of items c.loop-at.at c.read.result before (before ++ option_to_list (loss_of c.read.result)) c.read.ensures refl refl))

pub returns : goal.returns
returns c =
    let items = c.args.places.now.items in
    c.loop-at.invariant ∙ ap (filter_map loss_of) (take_all c.loop-at.at items (omega (arith, c.loop-at-test.false, c.len-at-end.ensures)))
