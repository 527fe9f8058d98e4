-- Room changes no list.
use Rattle.std.proofs.Common.{◌-◌, ◌∙◌, ap, arith}
use Rattle.std.specs.Prelude.{vec_len, vec_capacity}
use Rattle.std.proofs.Math.Nat.{min-le_right}
use Rattle.pipe_journal.specs.Entries.{spare_of}
use Rattle.pipe_journal.proofs.Held.{still_held, same_history}
use Rattle.pipe_journal.proofs.journal.Journal.reserve.Goals as goal

pub invariant_of-self-2 : goal.invariant_of-self-2
invariant_of-self-2 c =
    rw c.in_ok-reserve.ensures.items
    (still_held c.self.inside.store c.reserve-2.new.self c.reserve-2.ensures.keeps c.self.inside.entries.items c.self.invariant)

pub returns-clause-same_steps : goal.returns-clause-same_steps
returns-clause-same_steps c =
    rw c.in_ok-reserve.ensures.items
    (same_history c.self.inside.store c.reserve-2.new.self c.reserve-2.ensures.keeps c.self.inside.entries.items c.self.invariant
    ∙ ap (λ r. r.steps) c.self.view_is)

pub returns-clause-had_room : goal.returns-clause-had_room
returns-clause-had_room c = λ enough.
    let spare = ap (λ r. r.spare) c.self.view_is in
    let room = min-le_right (vec_capacity c.self.inside.entries - vec_len c.self.inside.entries) (spare_of c.self.inside.store) in
    c.reserve-2.ensures.had_room (omega arith)
