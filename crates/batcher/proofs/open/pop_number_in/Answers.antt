use Rattle.std.proofs.Common.{rules, ◌≡◌, ◌∙◌, ◌-◌, ap, sym, subst, slice_get, length, Some, Vec, Global, ℕ, refl, arith}
use Rattle.std.specs.Prelude.{option_map, IsSome}
use Rattle.std.specs.Map.{keys_of, values_of}
use Rattle.std.specs.Option.{option_copied_mut}
use Rattle.std.proofs.lemmas.Map.{keys-set_value}
use Rattle.std.proofs.lemmas.Option.{slice_get-map}
use Rattle.lru.specs.LruCache.{LruCache}
use Rattle.batcher.specs.declared.messages.Messages.{Messages}
use Rattle.batcher.specs.Seen.{PopsNumber}
use Rattle.batcher.proofs.Gathers.{Entries, has_key}
use Rattle.batcher.proofs.Leaving.{pops, begun_at}
use Rattle.batcher.proofs.Places.{found_where, some_read, is_read, room_kept}
use Rattle.batcher.proofs.open.pop_number_in.Goals as goal

pub unwrap-messages-requires : goal.unwrap-messages-requires
unwrap-messages-requires c =
    let f = found_where c.args.batches.now.entries _ c.as_slice.result.now (c.copy_key.ensures.copied ∙ ap Some (sym c.as_slice.ensures.value)) c.copy_key.ensures.apart in
    some_read c.peek_mut.result f.entry.1 (c.peek_mut.ensures.value ∙ f.is.value)

pub pop-requires : goal.pop-requires
pop-requires c =
    let f = found_where c.args.batches.now.entries _ c.as_slice.result.now (c.copy_key.ensures.copied ∙ ap Some (sym c.as_slice.ensures.value)) c.copy_key.ensures.apart in
    let is = is_read c.peek_mut.result c.unwrap-messages.result f.entry.1 c.unwrap-messages.ensures (c.peek_mut.ensures.value ∙ f.is.value) in
    begun_at c.args.batches.now.entries _ c.unwrap-messages.result.now c.requires.begun
    (slice_get-map (λ (e : Vec ℕ Global × Messages). e.1) c.args.batches.now.entries _ ∙ (ap (option_map (λ (e : Vec ℕ Global × Messages). e.1)) f.there ∙ ap Some (sym is)))

pub returns-clause-popped : goal.returns-clause-popped
returns-clause-popped c =
    let f = found_where c.args.batches.now.entries _ c.as_slice.result.now (c.copy_key.ensures.copied ∙ ap Some (sym c.as_slice.ensures.value)) c.copy_key.ensures.apart in
    let is = is_read c.peek_mut.result c.unwrap-messages.result f.entry.1 c.unwrap-messages.ensures (c.peek_mut.ensures.value ∙ f.is.value) in
    subst (λ (es : Entries). PopsNumber c.args.batches.now.entries es c.pop.result) (sym (f.is.put c.pop.new.self))
    (pops c.args.batches.now.entries _ c.unwrap-messages.result.now c.pop.new.self c.pop.result c.requires.some (omega (arith, c.len-last.ensures.len))
    (slice_get-map (λ (e : Vec ℕ Global × Messages). e.1) c.args.batches.now.entries _ ∙ (ap (option_map (λ (e : Vec ℕ Global × Messages). e.1)) f.there ∙ ap Some (sym is)))
    c.pop.ensures.numbers c.pop.ensures.opened c.pop.ensures.flush)

pub returns-clause-room : goal.returns-clause-room
returns-clause-room c =
    room_kept _ _ c.args.batches.now _ (keys-set_value (has_key c.as_slice.result.now) c.args.batches.now.entries c.pop.new.self) refl c.copy_key.ensures.capacity c.requires.room
