use Rattle.std.proofs.Common.{◌≡◌, ℕ, drop, None}
use Rattle.std.specs.Prelude.{if◌then◌else◌}
use Rattle.pipe_model.specs.Flow.{is_empty, subs_of}
use Rattle.message_ack.specs.Ends.{sent_in}
use Rattle.core_sends.proofs.batches.forget_all.Given as goal

abbrev pub invariant-loop-sent : goal.invariant-loop-sent
invariant-loop-sent l =
    (b : ℕ) → (if is_empty (subs_of (drop l.sent-index l.units) b) then sent_in l.legs b else None) ≡ (if is_empty (subs_of l.units b) then sent_in l.fn.legs b else None)
