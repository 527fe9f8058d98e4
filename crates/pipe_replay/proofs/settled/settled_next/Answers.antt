use Rattle.std.proofs.Common.{◌≡◌, ◌+◌, ◌∷◌, ap, sym, ◌∙◌, arith}
use Rattle.std.proofs.lemmas.List.{length-reverse}
use Rattle.pipe_model.specs.Flow.{place}
use Rattle.pipe_model.specs.Moves.{is_final}
use Rattle.plain_queues.specs.Flows.{topology_of, history_of}
use Rattle.pipe_replay.proofs.Placed.{final_within}
use Rattle.pipe_replay.proofs.Settling.{settled_before, settled_now, not_settled}
use Rattle.pipe_replay.proofs.settled.settled_next.Goals.{After-is_final, After-is_final-else-is_final}
use Rattle.pipe_replay.proofs.settled.settled_next.Goals as goal

-- what the tests say of the message before the step and after it
before_step : (c : After-is_final) → is_final (place (topology_of c.args.flow.now) (history_of c.args.flow.now) (c.args.i + 1)) ≡ c.is_final.result
before_step c = sym (c.is_final.ensures ∙ ap is_final (c.place_now.ensures ∙ ap (place (topology_of c.args.flow.now) (history_of c.args.flow.now)) c.in_ok-n.ensures))

after_step : (c : After-is_final-else-is_final)
    → is_final (place (topology_of c.args.flow.now) (c.args.step.now ∷ history_of c.args.flow.now) (c.args.i + 1)) ≡ c.is_final-else-is_final.result
after_step c =
    let topology = topology_of c.args.flow.now in
    let after = c.args.step.now ∷ history_of c.args.flow.now in
    sym (c.is_final-else-is_final.ensures ∙ ap is_final (c.place_of.ensures ∙ ap (λ v. v.place c.in_ok-n.n) c.requires.new.view ∙ ap (place topology after) c.in_ok-n.ensures))

pub bounds-settled-i : goal.bounds-settled-i
bounds-settled-i c =
    let final = before_step (goal.at.bounds-settled-i c).After-is_final ∙ c.if-is_final.true in
    omega (arith, final_within (topology_of c.args.flow.now) (history_of c.args.flow.now) c.args.flow.now.tables.now c.args.i c.requires.old final, c.requires.settled.long, c.requires.old.accepted)

pub returns-then-is_final : goal.returns-then-is_final
returns-then-is_final c =
    let topology = topology_of c.args.flow.now in
    let before = history_of c.args.flow.now in
    let final = before_step (goal.at.returns-then-is_final c).After-is_final ∙ c.if-is_final.true in
    c.requires.settled.each c.args.i (omega (arith, final_within topology before c.args.flow.now.tables.now c.args.i c.requires.old final, c.requires.settled.long, c.requires.old.accepted))
    ∙ sym (settled_before topology before c.args.step.now (c.args.i + 1) final)

pub returns-then-is_final-2 : goal.returns-then-is_final-2
returns-then-is_final-2 c =
    let at = goal.at.returns-then-is_final-2 c in
    sym (length-reverse c.args.flow.now.past.steps.now)
    ∙ sym (settled_now (topology_of c.args.flow.now) (history_of c.args.flow.now) c.args.step.now (c.args.i + 1) (before_step at.After-is_final ∙ c.if-is_final.false) (after_step at.After-is_final-else-is_final ∙ c.if-is_final-2.true))

pub returns-else-is_final-2 : goal.returns-else-is_final-2
returns-else-is_final-2 c =
    let at = goal.at.returns-else-is_final-2 c in
    sym (not_settled (topology_of c.args.flow.now) (history_of c.args.flow.now) c.args.step.now (c.args.i + 1) (before_step at.After-is_final ∙ c.if-is_final.false) (after_step at.After-is_final-else-is_final ∙ c.if-is_final-2.false))
