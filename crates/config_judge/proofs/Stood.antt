-- One more name among those that stood before.
use Rattle.std.proofs.Common.{◌≡◌, ℕ, ◌+◌, ◌<◌, List, [], ◌∷◌, ◌++◌, length, take, get_or, Bool, true, false, cond, ◌||◌, ap, ◌∙◌, refl, append_assoc}
use Rattle.std.specs.Prelude.{bytes_eq, is_some, Option, Some}
use Rattle.std.specs.BTreeMap.{BTreeMap, UpdatesBy}
use Rattle.std.specs.Cmp.Lexicographic.{slice_cmp}
use Rattle.std.specs.Ordering.{nat_cmp}
use Rattle.std.proofs.lemmas.Map.Text.{btree_map_updates_str}
use Rattle.std.proofs.lemmas.List.{take_more}
use Rattle.std.proofs.lemmas.List.Folds.{list_any-append}
use denote.Ref.{Bor}
use Rattle.config_judge.specs.Judge.{is_in}
use Rattle.config_judge.specs.Stood.{stands}

some_or : {X : Type 0} (same : Bool) (x : X) (found : Option X) → is_some (cond same (Some x) found) ≡ (same || is_some found)
some_or true x found = refl
some_or false x found = refl

pub stands_more : {X : Type 0} (name : List ℕ) (old new : BTreeMap (Bor (List ℕ)) X) (x : X)
    → UpdatesBy (λ a b. slice_cmp nat_cmp a.now b.now) (λ k. slice_cmp nat_cmp name k.now) old new (Some x)
    → (other : List ℕ) → stands new other ≡ (bytes_eq name other || stands old other)
stands_more name old new x updates other =
    ap is_some (btree_map_updates_str name old new (Some x) updates other) ∙ some_or (bytes_eq name other) x _

or_swap : (a b : Bool) → (a || (b || false)) ≡ (b || a)
or_swap true true = refl
or_swap true false = refl
or_swap false true = refl
or_swap false false = refl

is_in-more : (other name : List ℕ) (names : List (List ℕ)) → is_in other (names ++ name ∷ []) ≡ (bytes_eq name other || is_in other names)
is_in-more other name names =
    list_any-append (λ known. bytes_eq known other) names (name ∷ []) ∙ or_swap (is_in other names) (bytes_eq name other)

-- where the set of the first names takes one more, it is that of one more name
pub stands_next : {X : Type 0} (before names : List (List ℕ)) (i : ℕ) (name : List ℕ) (old new : BTreeMap (Bor (List ℕ)) X)
    → i < length names → name ≡ get_or names i name
    → ((other : List ℕ) → stands old other ≡ is_in other (before ++ take i names))
    → ((other : List ℕ) → stands new other ≡ (bytes_eq name other || stands old other))
    → (other : List ℕ) → stands new other ≡ is_in other (before ++ take (i + 1) names)
stands_next before names i name old new below at were more other =
    rw (take_more names i name below, ← at, ← append_assoc before (take i names) (name ∷ []), is_in-more other name (before ++ take i names))
    (more other ∙ ap (λ b. bytes_eq name other || b) (were other))
