use Rattle.std.proofs.Common.{◌≡◌, ℕ, drop, true}
use Rattle.pipe_model.specs.Flow.{is_empty, subs_of}
use Rattle.message_ack.specs.Ends.{sent_in}
use Rattle.core_sends.specs.Batches.{with_legs, messages_of}
use Rattle.core_sends.proofs.batches.begin_each.Given as goal

abbrev pub invariant-loop-sent : goal.invariant-loop-sent
invariant-loop-sent l =
    record {
      begun : (b : ℕ) → with_legs (messages_of l.batches.items b) (subs_of (drop l.sent-index l.units) b) (sent_in l.legs b) ≡ with_legs (messages_of l.batches.items b) (subs_of l.units b) (sent_in l.fn.legs b);
      others : (b : ℕ) → is_empty (subs_of l.units b) ≡ true → sent_in l.legs b ≡ sent_in l.fn.legs b;
    }
