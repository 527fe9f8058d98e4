use Rattle.std.proofs.Common.{◌≡◌, ◌∙◌, ap, sym}
use Rattle.config_table.specs.Fault.{least}
use Rattle.config_judge.specs.Judge as judge
use Rattle.config_judge.proofs.Order.{first_counts, next_counts_of, names_first, behind_names}
use Rattle.config_judge.proofs.judge.settings_fault.Goals as goal

pub returns-in-Some : goal.returns-in-Some
returns-in-Some c =
    let known = judge.batcher_names c.args.settings.now.batchers in
    first_counts 7 12 (judge.duplicates_with known c.args.settings.now) _ c.in-Some.fault (names_first known c.args.settings.now)
    (behind_names known c.args.settings.now)
    (sym c.in-Some.is ∙ c.in_ok-fault.ensures
    ∙ ap (λ names. least (judge.duplicates_with names c.args.settings.now)) (c.as_slice-2.ensures.value ∙ c.in_ok-known.ensures ∙ ap judge.batcher_names c.as_slice.ensures))

pub returns : goal.returns
returns c =
    let known = judge.batcher_names c.args.settings.now.batchers in
    let again : c.as_slice-3.result.now ≡ known = c.as_slice-3.ensures.value ∙ c.in_ok-known.ensures ∙ ap judge.batcher_names c.as_slice.ensures in
    next_counts_of (judge.duplicates_with known c.args.settings.now) (judge.later_faults known c.args.settings.now) c.later_fault.result
    (sym c.in_default.is ∙ c.in_ok-fault.ensures
    ∙ ap (λ names. least (judge.duplicates_with names c.args.settings.now)) (c.as_slice-2.ensures.value ∙ c.in_ok-known.ensures ∙ ap judge.batcher_names c.as_slice.ensures))
    (rw again at c.later_fault.ensures)
