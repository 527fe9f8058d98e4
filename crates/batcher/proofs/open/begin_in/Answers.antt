use Rattle.std.proofs.Common.{rules, ◌≡◌, ◌∙◌, ◌-◌, ◌≤◌, ◌++◌, ◌∷◌, [], ℕ, List, Vec, Global, length, ap, sym, subst, arith}
use Rattle.lru.specs.LruCache.{LruCache, demoted}
use Rattle.batcher.specs.declared.messages.Messages.{Messages}
use Rattle.batcher.specs.Seen.{HasRoom}
use Rattle.batcher.proofs.Gathers.{begun_seen, has_key}
use Rattle.batcher.proofs.Places.{begun_last, room_begun_seen}
use Rattle.batcher.proofs.open.begin_in.Goals as goal

pub returns-in_err-put-clause-room : goal.returns-in_err-put-clause-room
returns-in_err-put-clause-room c capacity fits room = subst (HasRoom capacity) (sym c.in_err-put.ensures.err) room

pub returns-clause-begun : goal.returns-clause-begun
returns-clause-begun c =
    let few : length c.args.batches.now.entries ≤ c.args.batches.now.cap - 1 = omega (arith, c.requires.wide, c.len-few.ensures.fits, c.len-few.ensures.len) in
    let numbers = c.in_ok-push.ensures.items ∙ ap (λ (ns : List ℕ). ns ++ c.args.n ∷ []) c.new-numbers.ensures.items in
    begun_seen c.args.key.now c.args.n c.args.flush c.args.now c.args.batches.now.entries c.demote.new.self.entries c.in_ok-copy.copy _
    (ap (λ (m : LruCache (Vec ℕ Global) Messages). m.entries) c.demote.ensures.entries
    ∙ (ap (λ (m : LruCache (Vec ℕ Global) Messages). demoted (has_key c.args.key.now) m.entries) c.in_ok-put.ensures.entries
    ∙ begun_last c.args.key.now c.args.batches.now c.in_ok-copy.copy _ c.in_ok-copy.ensures.items c.requires.absent few))
    c.in_ok-copy.ensures.items
    (λ i. record { key = []; numbers = numbers i; flush = c.args.flush; opened = c.args.now })

pub returns-clause-room : goal.returns-clause-room
returns-clause-room c capacity fits room =
    let few : length c.args.batches.now.entries ≤ c.args.batches.now.cap - 1 = omega (arith, c.requires.wide, c.len-few.ensures.fits, c.len-few.ensures.len) in
    room_begun_seen capacity c.args.key.now c.args.batches.now c.demote.new.self c.in_ok-copy.copy _
    (ap (λ (m : LruCache (Vec ℕ Global) Messages). m.entries) c.demote.ensures.entries
    ∙ (ap (λ (m : LruCache (Vec ℕ Global) Messages). demoted (has_key c.args.key.now) m.entries) c.in_ok-put.ensures.entries
    ∙ begun_last c.args.key.now c.args.batches.now c.in_ok-copy.copy _ c.in_ok-copy.ensures.items c.requires.absent few))
    (ap (λ (m : LruCache (Vec ℕ Global) Messages). m.cap) c.demote.ensures.entries ∙ ap (λ (m : LruCache (Vec ℕ Global) Messages). m.cap) c.in_ok-put.ensures.entries)
    c.in_ok-copy.ensures.items fits room
