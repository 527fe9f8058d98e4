use Rattle.std.proofs.Common.{rules, ◌≡◌, ◌∙◌, ◌≤◌, ap, sym, length, slice_get, vec_capacity, Some, arith}
use Rattle.batcher.proofs.Places.{copied_is, key_fits}
use Rattle.batcher.proofs.open.copy_key.Goals as goal

pub unwrap-requires : goal.unwrap-requires
unwrap-requires c =
    let fits : length c.key_at-key.result.now.items ≤ vec_capacity c.args.copy.now = key_fits (vec_capacity c.args.copy.now) c.args.at c.args.batches.now c.key_at-key.result.now c.requires.room c.key_at-key.ensures in
    c.extend_from_slice.ensures.succeeds (omega (arith, fits, c.clear.ensures.len, c.clear.ensures.capacity, c.as_slice.ensures.len))

pub returns-clause-copied : goal.returns-clause-copied
returns-clause-copied c =
    copied_is (slice_get c.args.batches.now.entries c.args.at) c.key_at-key.result.now c.key_at-key.ensures ∙ ap Some (search rules)

pub returns-clause-apart : goal.returns-clause-apart
returns-clause-apart c = c.len-apart.ensures.valid.0
