use Rattle.std.proofs.Common.{rules, ◌≡◌, ◌∙◌, ◌≤◌, ap, sym, subst, slice_get, vec_capacity, Vec, Global, Some, ℕ, refl, arith}
use Rattle.std.specs.Prelude.{remove, IsSome}
use Rattle.lru.specs.LruCache.{LruCache}
use Rattle.batcher.specs.declared.messages.Messages.{Messages}
use Rattle.batcher.proofs.Places.{found_where, some_there, room_removed}
use Rattle.batcher.proofs.open.remove_in.Goals as goal

pub unwrap-requires : goal.unwrap-requires
unwrap-requires c = subst IsSome (sym c.pop_mru.ensures.value) (some_there c.args.batches.now.entries 0 (omega (arith, c.requires.within)))

pub returns-then-at-eq0-clause-entry : goal.returns-then-at-eq0-clause-entry
returns-then-at-eq0-clause-entry c =
    let front : c.args.at ≡ 0 = omega arith in
    ap (slice_get c.args.batches.now.entries) front ∙ (sym c.pop_mru.ensures.value ∙ c.unwrap.ensures)

pub returns-then-at-eq0-clause-entries : goal.returns-then-at-eq0-clause-entries
returns-then-at-eq0-clause-entries c =
    let front : 0 ≡ c.args.at = omega arith in
    ap (λ (m : LruCache (Vec ℕ Global) Messages). m.entries) c.pop_mru.ensures.entries ∙ ap (remove c.args.batches.now.entries) front

pub returns-then-at-eq0-clause-room : goal.returns-then-at-eq0-clause-room
returns-then-at-eq0-clause-room c =
    let front : 0 ≡ c.args.at = omega arith in
    room_removed _ _ c.args.at c.args.batches.now c.pop_mru.new.self
    (ap (λ (m : LruCache (Vec ℕ Global) Messages). m.entries) c.pop_mru.ensures.entries ∙ ap (remove c.args.batches.now.entries) front)
    (ap (λ (m : LruCache (Vec ℕ Global) Messages). m.cap) c.pop_mru.ensures.entries) (omega arith) c.requires.room

pub unwrap-requires-2 : goal.unwrap-requires-2
unwrap-requires-2 c =
    let f = found_where c.args.batches.now.entries c.args.at c.as_slice.result.now (c.copy_key.ensures.copied ∙ ap Some (sym c.as_slice.ensures.value)) c.copy_key.ensures.apart in
    subst IsSome (sym (c.pop_entry.ensures.value ∙ f.is.found)) refl

pub returns-clause-entry : goal.returns-clause-entry
returns-clause-entry c =
    let f = found_where c.args.batches.now.entries c.args.at c.as_slice.result.now (c.copy_key.ensures.copied ∙ ap Some (sym c.as_slice.ensures.value)) c.copy_key.ensures.apart in
    f.there ∙ (sym (c.pop_entry.ensures.value ∙ f.is.found) ∙ c.unwrap-2.ensures)

pub returns-clause-entries : goal.returns-clause-entries
returns-clause-entries c =
    let f = found_where c.args.batches.now.entries c.args.at c.as_slice.result.now (c.copy_key.ensures.copied ∙ ap Some (sym c.as_slice.ensures.value)) c.copy_key.ensures.apart in
    ap (λ (m : LruCache (Vec ℕ Global) Messages). m.entries) c.pop_entry.ensures.entries ∙ f.is.removed

pub returns-clause-room : goal.returns-clause-room
returns-clause-room c =
    let f = found_where c.args.batches.now.entries c.args.at c.as_slice.result.now (c.copy_key.ensures.copied ∙ ap Some (sym c.as_slice.ensures.value)) c.copy_key.ensures.apart in
    room_removed _ _ c.args.at c.args.batches.now c.pop_entry.new.self
    (ap (λ (m : LruCache (Vec ℕ Global) Messages). m.entries) c.pop_entry.ensures.entries ∙ f.is.removed)
    (ap (λ (m : LruCache (Vec ℕ Global) Messages). m.cap) c.pop_entry.ensures.entries) c.copy_key.ensures.capacity c.requires.room
