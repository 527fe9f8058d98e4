-- What is known where nothing is short.
use Rattle.std.proofs.Common.{◌≡◌, ℕ, ◌≤◌, Bool, true, false, cond, [], ◌∷◌, Option, Some, None, refl}
use Rattle.std.specs.Prelude.{find, option_map}
use Rattle.std.proofs.lemmas.Bool.{ltb-false}
use Rattle.pipe_types.specs.declared.topology.Topology.{Topology}
use Rattle.pipe_types.specs.declared.topology.Kind.{Kind}
use Rattle.pipe_types.specs.declared.topology.Kind.TheVariants.{Steps, Lines, Own}
use Rattle.topology_needs.specs.declared.stock.Boxes.{Boxes}
use Rattle.topology_needs.specs.Needs.{need_of, boxes_of, is_short, need_and_have, shortage_of}

passed_by : {A : Type 0} (b : Bool) (x : A) (o : Option A) → cond b (Some x) o ≡ None → (b ≡ false) × (o ≡ None)
passed_by true x o h = cc
passed_by false x o h = (refl, h)

none_short : {A B : Type 0} (f : A → B) (o : Option A) → option_map f o ≡ None → o ≡ None
none_short f None h = refl
none_short f (Some x) h = cc

pub enough : (topology : Topology) (boxes : Boxes) (kind : Kind) → shortage_of topology boxes ≡ None → need_of topology kind ≤ boxes_of boxes kind
enough topology boxes kind h =
    let short = is_short topology boxes in
    let first = passed_by (short Steps) Steps (find short (Lines ∷ Own ∷ [])) (none_short (need_and_have topology boxes) (find short (Steps ∷ Lines ∷ Own ∷ [])) h) in
    let second = passed_by (short Lines) Lines (find short (Own ∷ [])) first.1 in
    let third = passed_by (short Own) Own None second.1 in
    by_kind kind first.0 second.0 third.0
  where
    by_kind : (kind : Kind) → is_short topology boxes Steps ≡ false → is_short topology boxes Lines ≡ false → is_short topology boxes Own ≡ false → need_of topology kind ≤ boxes_of boxes kind
    by_kind Steps steps lines own = ltb-false boxes.steps (need_of topology Steps) steps
    by_kind Lines steps lines own = ltb-false boxes.lines (need_of topology Lines) lines
    by_kind Own steps lines own = ltb-false boxes.own (need_of topology Own) own
