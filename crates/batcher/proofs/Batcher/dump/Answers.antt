use Rattle.batcher.proofs.Leaving.{dumped_kept, none_left}
use Rattle.batcher.proofs.Batcher.dump.Goals as goal

pub invariant_of-self : goal.invariant_of-self
invariant_of-self c =
    dumped_kept c.self.inside.batches c.pop_number-n.new.self c.remove_empty.new.self c.pop_number-n.result c.pop_number-n.ensures c.remove_empty.ensures
    c.self.inside.batch_size c.self.inside.ready c.ready_in_rest-self-inside.result c.self.inside.newest c.self.inside.in_order
    (none_left c.is_empty-2.result c.remove_empty.new.self c.ready_in_rest-self-inside.result c.is_empty-2.ensures c.ready_in_rest-self-inside.ensures) c.self.invariant
