-- A slot is free exactly where fewer children are alive than there are slots.
use Rattle.std.proofs.Common.{◌≡◌, ℕ, ◌+◌, ◌<◌, ◌≤◌, List, [], ◌∷◌, length, Option, Some, None, cond, refl, arith}
use Rattle.std.specs.List.{position, position_or_len}
use Rattle.std.specs.Option.{is_some, is_none}
use Rattle.std.proofs.lemmas.List.Sums.{sum_by-cons, count_by-le-length}
use Rattle.std.proofs.lemmas.Bool.Decides.{nat_tests}
use Rattle.consumer_sup.specs.declared.Child.{Child}
use Rattle.consumer_sup.specs.Children.{alive}

alive-cons : (slot : Option Child) (slots : List (Option Child)) → alive (slot ∷ slots) ≡ cond (is_some slot) 1 0 + alive slots
alive-cons slot slots = sum_by-cons (λ (x : Option Child). cond (is_some x) 1 0) slot slots

below : (slots : List (Option Child)) → position_or_len is_none slots < length slots → alive slots < length slots
below [] free = absurd (omega arith)
below (None ∷ slots) free = omega (arith, alive-cons None slots, count_by-le-length is_some slots)
below (Some child ∷ slots) free = omega (arith, alive-cons (Some child) slots, below slots (omega arith))

all : (slots : List (Option Child)) → length slots ≤ position_or_len is_none slots → alive slots ≡ length slots
all [] full = refl
all (None ∷ slots) full = absurd (omega arith)
all (Some child ∷ slots) full = omega (arith, alive-cons (Some child) slots, all slots (omega arith))

pub free_below : (slots : List (Option Child)) (i : ℕ) → position is_none slots ≡ Some i → alive slots < length slots
free_below slots i found = let few = below slots in grind (arith, nat_tests)

pub full_without_free : (slots : List (Option Child)) → position is_none slots ≡ None → alive slots ≡ length slots
full_without_free slots found = let full = all slots in grind (arith, nat_tests)
