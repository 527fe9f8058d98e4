-- A text that is written into memory.
use Rattle.std.specs.Prelude.{◌≡◌, ℕ, List, [], ◌++◌, Option, None}
use Rattle.std.proofs.Common.{sym, ◌∙◌, ap}
use Rattle.std.specs.declared.alloc.AllocError.{AllocError}
use Rattle.std.proofs.lemmas.List.{append-nil, append_assoc}

-- unless memory was wanting this text stands behind the other
abbrev pub Extends : (wanting : Option AllocError) (bytes : List ℕ) (wanting' : Option AllocError) (bytes' : List ℕ) → (text : List ℕ) → Type 0
Extends wanting bytes wanting' bytes' text = wanting' ≡ None → (wanting ≡ None) × (bytes' ≡ bytes ++ text)

pub extends_nothing : (wanting : Option AllocError) (bytes : List ℕ) → Extends wanting bytes wanting bytes []
extends_nothing wanting bytes found = (found, sym (append-nil bytes))

pub extends_both : (w w' w'' : Option AllocError) (b b' b'' first second : List ℕ) → Extends w b w' b' first → Extends w' b' w'' b'' second → Extends w b w'' b'' (first ++ second)
extends_both w w' w'' b b' b'' first second one two found =
    let second_is = two found in
    let first_is = one second_is.0 in
    (first_is.0, second_is.1 ∙ ap (λ l. l ++ second) first_is.1 ∙ append_assoc b first second)
