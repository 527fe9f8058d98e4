-- Parts of a list between rising places.
use Rattle.std.proofs.Common.{◌≡◌, ℕ, zero, suc, ◌+◌, ◌-◌, ◌<◌, ◌≤◌, List, [], ◌∷◌, ◌++◌, length, take, drop, refl, sym, ap, ◌∙◌, arith, get_or, Some, length-append, length-drop, subst}
use Rattle.std.specs.Prelude.{slice_get}
use Rattle.std.proofs.Math.Seq.{drop-append_seam}
use Rattle.std.proofs.lemmas.List.{take-append-le, drop-append-le, take_all}
use Rattle.pipe_journal.specs.Cuts.{cut, AreEnds, start_at}

-- there are as many parts as ends
pub as_many : (from : ℕ) (bytes ends : List ℕ) → length (cut from bytes ends) ≡ length ends
as_many from bytes [] = refl
as_many from bytes (end ∷ ends) = ap suc (as_many end bytes ends)

-- no end is past the last
pub from_within : (from : ℕ) (bytes ends : List ℕ) → AreEnds from bytes ends → from ≤ length bytes
from_within from bytes [] are = omega arith
from_within from bytes (end ∷ ends) are =
    let rest : end ≤ length bytes = from_within end bytes ends are.1 in
    let first : from ≤ end = are.0 in
    omega arith

-- the part at a place
pub record IsPart (from : ℕ) (bytes ends : List ℕ) (at : ℕ) : Type 0 where
  pub ordered : start_at from ends at ≤ get_or ends at 0
  pub within : get_or ends at 0 ≤ length bytes
  pub is : slice_get (cut from bytes ends) at ≡ Some (take (get_or ends at 0 - start_at from ends at) (drop (start_at from ends at) bytes))

pub part_at : (from : ℕ) (bytes ends : List ℕ) (at : ℕ) → AreEnds from bytes ends → at < length ends → IsPart from bytes ends at
part_at from bytes [] at are inside = let none : ⊥ = omega arith in absurd none
part_at from bytes (end ∷ ends) zero are inside = record { ordered = are.0; within = from_within end bytes ends are.1; is = refl }
part_at from bytes (end ∷ ends) (suc at) are inside =
    let rest = part_at end bytes ends at are.1 (omega arith) in
    record { ordered = rest.ordered; within = rest.within; is = rest.is }

-- a part but the first begins where the one before it ends
pub start_behind : (from : ℕ) (ends : List ℕ) (at : ℕ) → at < length ends → start_at from ends (suc at) ≡ get_or ends at 0
start_behind from [] at inside = let none : ⊥ = omega arith in absurd none
start_behind from (end ∷ ends) zero inside = refl
start_behind from (end ∷ ends) (suc at) inside = start_behind end ends at (omega arith)

pub start_read : (from : ℕ) (ends : List ℕ) (at : ℕ) → 0 < at → at < length ends → start_at from ends at ≡ get_or ends (at - 1) 0
start_read from ends zero some inside = let none : ⊥ = omega arith in absurd none
start_read from ends (suc at) some inside =
    let before : suc at - 1 ≡ at = omega arith in
    start_behind from ends at (omega arith) ∙ ap (λ (i : ℕ). get_or ends i 0) (sym before)

-- what stands in front of an end stays when the list grows
same_part : (from end : ℕ) (bytes more : List ℕ) → from ≤ end → end ≤ length bytes → take (end - from) (drop from (bytes ++ more)) ≡ take (end - from) (drop from bytes)
same_part from end bytes more ordered within =
    let long : length (drop from bytes) ≡ length bytes - from = length-drop from bytes in
    ap (take (end - from)) (drop-append-le from bytes more (omega arith))
    ∙ take-append-le (end - from) (drop from bytes) more (omega arith)

-- a text more behind the others
pub pushed : (from : ℕ) (bytes ends text : List ℕ) (end : ℕ) → AreEnds from bytes ends → end ≡ length bytes + length text
    → cut from (bytes ++ text) (ends ++ end ∷ []) ≡ cut from bytes ends ++ text ∷ []
pushed from bytes [] text end are is =
    let behind : drop from (bytes ++ text) ≡ text = ap (λ (n : ℕ). drop n (bytes ++ text)) are ∙ drop-append_seam bytes text in
    ap (λ (part : List ℕ). part ∷ []) (ap (take (end - from)) behind ∙ take_all (end - from) text (omega arith))
pushed from bytes (first ∷ ends) text end are is =
    ap (λ (part : List ℕ). part ∷ cut first (bytes ++ text) (ends ++ end ∷ [])) (same_part from first bytes text are.0 (from_within first bytes ends are.1))
    ∙ ap (λ (parts : List (List ℕ)). take (first - from) (drop from bytes) ∷ parts) (pushed first bytes ends text end are.1 is)

pub still_ends : (from : ℕ) (bytes ends text : List ℕ) (end : ℕ) → AreEnds from bytes ends → end ≡ length bytes + length text
    → AreEnds from (bytes ++ text) (ends ++ end ∷ [])
still_ends from bytes [] text end are is =
    let long : length (bytes ++ text) ≡ length bytes + length text = length-append bytes text in
    (omega arith, omega arith)
still_ends from bytes (first ∷ ends) text end are is = (are.0, still_ends first bytes ends text end are.1 is)
