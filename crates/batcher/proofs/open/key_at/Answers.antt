use Rattle.std.proofs.Common.{◌≡◌, ◌∙◌, ◌-◌, ℕ, ap, sym, Vec, Global, length, slice_get, arith}
use Rattle.std.specs.Prelude.{option_map}
use Rattle.std.specs.Map.Iter.{deref_pair}
use Rattle.std.proofs.lemmas.Iterator.Consumers.{nth_from_yields_List, YieldsList-from_rest}
use Rattle.batcher.specs.declared.messages.Messages.{Messages}
use Rattle.batcher.proofs.Places.{some_shown}
use Rattle.batcher.proofs.open.key_at.Goals as goal

pub unwrap-requires : goal.unwrap-requires
unwrap-requires c = some_shown deref_pair c.peek_lru.result c.args.batches.now.entries (length c.args.batches.now.entries - 1) c.peek_lru.ensures (omega (arith, c.requires))

pub returns-then-at-len : goal.returns-then-at-len
returns-then-at-len c =
    let at_last : c.args.at ≡ length c.args.batches.now.entries - 1 = omega arith in
    ap (λ (at : ℕ). option_map (λ (e : Vec ℕ Global × Messages). e.0) (slice_get c.args.batches.now.entries at)) at_last
    ∙ ap (option_map (λ (e : Vec ℕ Global × Messages). e.0)) (sym c.peek_lru.ensures ∙ ap (option_map deref_pair) c.unwrap.ensures)

pub unwrap-requires-2 : goal.unwrap-requires-2
unwrap-requires-2 c =
    some_shown deref_pair c.nth.result c.args.batches.now.entries c.args.at
    (nth_from_yields_List _ _ c.args.at c.nth.ensures.ran (YieldsList-from_rest c.args.batches.now.entries c.iter.ensures.rest)) c.requires

pub returns : goal.returns
returns c =
    ap (option_map (λ (e : Vec ℕ Global × Messages). e.0))
    (sym (nth_from_yields_List _ _ c.args.at c.nth.ensures.ran (YieldsList-from_rest c.args.batches.now.entries c.iter.ensures.rest)) ∙ ap (option_map deref_pair) c.unwrap-2.ensures)
