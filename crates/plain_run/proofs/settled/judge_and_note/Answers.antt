use Rattle.std.proofs.Common.{rules, ◌≡◌, true, false, ap, sym, ◌∙◌}
use Rattle.std.specs.Prelude.{is_some}
use Rattle.plain_run.proofs.Settling.{noted, unnoted}
use Rattle.plain_run.proofs.settled.judge_and_note.Goals as goal

pub returns-in_err-next-clause-settled : goal.returns-in_err-next-clause-settled
returns-in_err-next-clause-settled c =
    let e = c.in_err-next.ensures in
    unnoted c.args.core.now c.judge.new.core c.args.settled.now.items e.topology e.unchanged c.requires.settled

pub returns-then-is_none-clause-settled : goal.returns-then-is_none-clause-settled
returns-then-is_none-clause-settled c =
    let e = c.in_ok-next.ensures in
    let none : is_some c.in_ok-next.next ≡ false = search rules in
    unnoted c.args.core.now c.judge.new.core c.args.settled.now.items e.topology (e.refused none) c.requires.settled

pub returns-clause-settled : goal.returns-clause-settled
returns-clause-settled c =
    let e = c.in_ok-next.ensures in
    let some : is_some c.in_ok-next.next ≡ true = search rules in
    let run = c.requires.run in
    noted c.args.core.now c.judge.new.core c.args.works.now c.args.step.now c.in_ok-numbers.numbers.items c.settled_of.result.items c.len-mark.result run.holds run.works e.run.holds e.topology (e.appended some)
    (sym e.told ∙ some) c.in_ok-numbers.ensures c.len-mark.ensures c.settled_of.ensures.rises c.settled_of.ensures.members
