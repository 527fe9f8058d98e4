use Rattle.std.proofs.Common.{◌≡◌, drop}
use Rattle.std.specs.List.{list_any}
use Rattle.pipe_types.specs.declared.step.Step.TheVariants.{Child}
use Rattle.pipe_types.specs.Numbers.{message_no}
use Rattle.pipe_model.specs.Posts.{slots}
use Rattle.pipe_model.specs.Legal.{allows}
use Rattle.pipe_model.specs.Moves.{next_in_slot}
use Rattle.core_moves.proofs.children.has_child.Given as goal

abbrev pub invariant-loop-slot : goal.invariant-loop-slot
invariant-loop-slot l =
    let t = l.core.topology in
    let h = l.core.journal.steps in
    let s = l.spec.no in
    list_any (λ k. allows t h (Child s (message_no (next_in_slot t h s k)) k)) (drop l.slot slots) ≡ list_any (λ k. allows t h (Child s (message_no (next_in_slot t h s k)) k)) slots
