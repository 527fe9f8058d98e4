-- The names that stood before, in a map that orders them by their bytes.
use Rattle.std.specs.Prelude.{ℕ, Bool, List, is_some}
use Rattle.std.specs.BTreeMap.{BTreeMap, get_by}
use Rattle.std.specs.Cmp.Lexicographic.{slice_cmp}
use Rattle.std.specs.Ordering.{nat_cmp}
use denote.Ref.{Bor}

-- the name stood before
abbrev pub stands : {X : Type 0} → BTreeMap (Bor (List ℕ)) X → List ℕ → Bool
stands names name = is_some (get_by (λ known. slice_cmp nat_cmp name known.now) names)
