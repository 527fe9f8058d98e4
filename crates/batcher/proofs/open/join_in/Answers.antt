use Rattle.std.proofs.Common.{rules, ◌≡◌, sym, refl, arith}
use Rattle.std.proofs.lemmas.Map.{keys-set_value}
use Rattle.batcher.proofs.Gathers.{has_key, joined_seen, joined_kept, same_seen, on_err}
use Rattle.batcher.proofs.Places.{room_kept}
use Rattle.batcher.proofs.open.join_in.Goals as goal

pub returns-in_err-push-in-Some-clause-unchanged : goal.returns-in_err-push-in-Some-clause-unchanged
returns-in_err-push-in-Some-clause-unchanged c =
    on_err c.from_residual.result _
    (same_seen (has_key c.args.key.now) c.args.batches.now.entries c.in-Some.messages.now c.push.new.self (sym c.in-Some.ensures.value) c.in_err-push-in-Some.ensures.unchanged)

pub returns-in_err-push-in-Some-clause-room : goal.returns-in_err-push-in-Some-clause-room
returns-in_err-push-in-Some-clause-room c capacity room =
    room_kept capacity capacity c.args.batches.now _ (keys-set_value (has_key c.args.key.now) c.args.batches.now.entries c.push.new.self) refl (omega arith) room

pub returns-in_ok-push-in-Some-clause-joined : goal.returns-in_ok-push-in-Some-clause-joined
returns-in_ok-push-in-Some-clause-joined c now =
    joined_seen c.args.key.now c.args.n c.args.flush now c.args.batches.now.entries c.in-Some.messages.now c.push.new.self (sym c.in-Some.ensures.value) c.in_ok-push-in-Some.ensures.joined

pub returns-in_ok-push-in-Some-clause-kept : goal.returns-in_ok-push-in-Some-clause-kept
returns-in_ok-push-in-Some-clause-kept c size ready newest in_order kept =
    joined_kept size ready newest c.args.n c.len.result in_order c.args.flush (has_key c.args.key.now) c.args.batches.now.entries c.in-Some.messages.now c.push.new.self
    (sym c.in-Some.ensures.value) c.in_ok-push-in-Some.ensures.joined (search rules) kept

pub returns-in_ok-push-in-Some-clause-room : goal.returns-in_ok-push-in-Some-clause-room
returns-in_ok-push-in-Some-clause-room c capacity room =
    room_kept capacity capacity c.args.batches.now _ (keys-set_value (has_key c.args.key.now) c.args.batches.now.entries c.push.new.self) refl (omega arith) room
