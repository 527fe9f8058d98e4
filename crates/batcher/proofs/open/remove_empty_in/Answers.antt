use Rattle.std.proofs.Common.{◌≡◌, ◌∙◌, ap, sym, Vec, Global, ℕ}
use Rattle.lru.specs.LruCache.{LruCache}
use Rattle.batcher.specs.declared.messages.Messages.{Messages}
use Rattle.batcher.proofs.Leaving.{emptied, filled}
use Rattle.batcher.proofs.Places.{room_taken}
use Rattle.batcher.proofs.open.remove_empty_in.Goals as goal

pub returns-then-ends_empty-clause-left : goal.returns-then-ends_empty-clause-left
returns-then-ends_empty-clause-left c front last e =
    ap (λ (m : LruCache (Vec ℕ Global) Messages). m.entries) c.pop_lru.ensures.entries
    ∙ emptied c.args.batches.now.entries front last e (sym c.if-ends_empty.true ∙ c.ends_empty.ensures front last e)

pub returns-then-ends_empty-clause-room : goal.returns-then-ends_empty-clause-room
returns-then-ends_empty-clause-room c capacity room =
    room_taken capacity _ c.args.batches.now c.pop_lru.new.self (ap (λ (m : LruCache (Vec ℕ Global) Messages). m.entries) c.pop_lru.ensures.entries) (ap (λ (m : LruCache (Vec ℕ Global) Messages). m.cap) c.pop_lru.ensures.entries) room

pub returns-else-ends_empty-clause-left : goal.returns-else-ends_empty-clause-left
returns-else-ends_empty-clause-left c front last e = filled c.args.batches.now.entries front last e (sym c.if-ends_empty.false ∙ c.ends_empty.ensures front last e)
