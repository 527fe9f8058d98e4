-- A list cut at places. No public clause cites this module.
use Rattle.std.specs.Prelude.{◌≡◌, ℕ, zero, suc, ◌-◌, ◌≤◌, List, [], ◌∷◌, take, drop, length}

-- the parts of the bytes from that place on, each up to one of the ends
abbrev pub cut : (from : ℕ) (bytes ends : List ℕ) → List (List ℕ)
cut from bytes [] = []
cut from bytes (end ∷ ends) = take (end - from) (drop from bytes) ∷ cut end bytes ends

-- the ends rise from that place, and the last is that of the bytes
abbrev pub AreEnds : (from : ℕ) (bytes ends : List ℕ) → Type 0
AreEnds from bytes [] = from ≡ length bytes
AreEnds from bytes (end ∷ ends) = (from ≤ end) × AreEnds end bytes ends

-- where the part at a place begins
abbrev pub start_at : (from : ℕ) (ends : List ℕ) (at : ℕ) → ℕ
start_at from ends zero = from
start_at from [] (suc at) = from
start_at from (end ∷ ends) (suc at) = start_at end ends at
