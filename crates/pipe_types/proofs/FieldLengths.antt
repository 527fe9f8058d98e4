-- A field is no longer than its payload.
use Rattle.std.proofs.Common.{ℕ, zero, suc, ◌+◌, ◌≤◌, List, length, arith}
use Rattle.std.specs.List.{position_or_len}
use Rattle.std.proofs.lemmas.List.{length-take, length-drop}
use Rattle.pipe_types.specs.Handlers.{is_space, after_fields, field}

length-after_fields : (n : ℕ) (payload : List ℕ) → length (after_fields n payload) ≤ length payload
length-after_fields zero payload = omega arith
length-after_fields (suc n) payload =
    omega (arith, length-after_fields n payload, length-drop (position_or_len is_space (after_fields n payload) + 1) (after_fields n payload))

pub length-field : (n : ℕ) (payload : List ℕ) → length (field n payload) ≤ length payload
length-field zero payload = omega arith
length-field (suc n) payload =
    omega (arith, length-after_fields n payload, length-take (position_or_len is_space (after_fields n payload)) (after_fields n payload))
