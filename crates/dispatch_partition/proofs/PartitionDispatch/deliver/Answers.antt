use Rattle.std.proofs.Common.{rules, List, sym, ap, ◌∙◌, refl}
use Rattle.std.specs.Prelude.{find}
use Rattle.std.proofs.lemmas.List.{append-nil}
use Rattle.pipe_types.specs.declared.room.Room.{Room}
use Rattle.dispatch_partition.proofs.Units.{of_part, all_left, left_step, one_unit}
use Rattle.dispatch_partition.proofs.PartitionDispatch.deliver.Goals as goal
use Rattle.dispatch_partition.proofs.PartitionDispatch.deliver.Goals.{in-Some+in_ok-push, in_default}

pub loop-place-init : goal.loop-place-init
loop-place-init c = record {
  left = λ q. ap (λ (rooms : List Room). find (of_part q) rooms) c.in_ok-left.ensures.items ∙ all_left c.args.room.now q;
  sent = search rules;
}

pub loop-place-preserved : goal.loop-place-preserved
loop-place-preserved c = record {
  left = λ q. left_step c.args.room.now c.args.parts.now _ _ c.loop-place-test.true refl q _ _ (c.loop-place.invariant.left q) (c.take_one.ensures.rest q);
  sent = elim c.match-take_one.branch [
    | in-Some+in_ok-push w ↦
        one_unit _ _ _ _ c.requires.parts_differ c.loop-place-test.true refl _ (c.loop-place.invariant.left _) _ w.in-Some.ensures.taken _ _
        c.loop-place.invariant.sent (ap (λ v. v.items) w.sent-is ∙ w.in_ok-push.ensures.items)
    | in_default w ↦
        one_unit _ _ _ _ c.requires.parts_differ c.loop-place-test.true refl _ (c.loop-place.invariant.left _) _ w.in_default.ensures.taken _ _
        c.loop-place.invariant.sent (ap (λ v. v.items) w.sent-is ∙ sym (append-nil _))
  ];
}
