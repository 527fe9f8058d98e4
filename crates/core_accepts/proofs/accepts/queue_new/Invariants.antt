use Rattle.std.proofs.Common.{◌≡◌, ◌+◌, ◌-◌, ◌≤◌, ◌++◌, drop, length}
use Rattle.std.specs.VecDeque.{deque_len, deque_capacity}
use Rattle.core_laws.specs.Enrolled.{queued}
use Rattle.core_accepts.proofs.accepts.queue_new.Given as goal

abbrev pub invariant-loop-record : goal.invariant-loop-record
invariant-loop-record l =
    record {
      queue : l.queue.items ++ queued l.spec (l.no + 1) (drop l.record-index l.records) ≡ l.fn.queue.items ++ queued l.spec (l.accepted + 1) l.records;
      number : l.no ≡ l.accepted + l.record-index;
      room : deque_len l.queue + (length l.records - l.record-index) ≤ deque_capacity l.queue;
    }
