use Rattle.std.proofs.Common.{◌≡◌, ◌∙◌, true, false, sym, ap}
use Rattle.pipe_journal.specs.Recorded.{Recorded}
use Rattle.run_pipe.proofs.Watching.{watch_itself, seen_before, seen_all, seen_part}
use Rattle.run_pipe.proofs.shown.show.Goals as goal

pub show-requires-clause-suits : goal.show-requires-clause-suits
show-requires-clause-suits g c = (c.args.core.now.topology, c.requires.suits, rw c.journal.ensures c.requires.stands.holds.legal, rw c.journal.ensures c.requires.stands.holds.log.rows)

pub show-requires-clause-knows : goal.show-requires-clause-knows
show-requires-clause-knows g c = rw c.journal.ensures c.requires.part

pub returns-then-has_failed-clause-seen : goal.returns-then-has_failed-clause-seen
returns-then-has_failed-clause-seen g c =
    let d = g.W.Shown in
    let w = c.args.watch.now in
    seen_before (d.suits w) (d.knows w) (d.sight w).failed c.args.core.now.topology c.args.core.now.journal.steps _ (sym c.requires.known ∙ c.if-has_failed.true) c.requires.suits c.requires.part

pub returns-then-has_failed-clause-kept : goal.returns-then-has_failed-clause-kept
returns-then-has_failed-clause-kept g c = watch_itself (g.W.Shown.sight c.args.watch.now)

pub returns-in-Done-clause-seen : goal.returns-in-Done-clause-seen
returns-in-Done-clause-seen g c =
    let d = g.W.Shown in
    let w = c.show.new.self in
    let t = c.args.core.now.topology in
    seen_all (d.suits w) (d.knows w) (d.sight w).failed t c.args.core.now.journal.steps _ (c.in-Done.ensures.suits t c.requires.suits) c.journal.result.now.steps (ap (λ (j : Recorded). j.steps) c.journal.ensures) c.in-Done.ensures.knows

pub returns-in-Failed-clause-seen : goal.returns-in-Failed-clause-seen
returns-in-Failed-clause-seen g c =
    let d = g.W.Shown in
    let w = c.show.new.self in
    let t = c.args.core.now.topology in
    seen_part (d.suits w) (d.knows w) (d.sight w).failed t c.args.core.now.journal.steps _ (λ whole m. let x : true ≡ false = sym c.in-Failed.ensures.failed ∙ whole in cc) (c.in-Failed.ensures.suits t c.requires.suits) c.journal.result.now.steps (ap (λ (j : Recorded). j.steps) c.journal.ensures) c.in-Failed.ensures.knows

pub returns-in-OutOfMemory-clause-seen : goal.returns-in-OutOfMemory-clause-seen
returns-in-OutOfMemory-clause-seen g c =
    let d = g.W.Shown in
    let w = c.show.new.self in
    let t = c.args.core.now.topology in
    seen_part (d.suits w) (d.knows w) (d.sight w).failed t c.args.core.now.journal.steps _ (λ whole m. let x : false ≡ true = m in cc) (c.in-OutOfMemory.ensures.suits t c.requires.suits) c.journal.result.now.steps (ap (λ (j : Recorded). j.steps) c.journal.ensures) c.in-OutOfMemory.ensures.knows
