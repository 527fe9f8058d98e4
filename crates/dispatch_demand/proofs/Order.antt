-- The order in which rooms are served.
use Rattle.std.proofs.Common.{◌≡◌, ℕ, ◌<◌, List, length, get_or, map, ap, ◌∙◌, subst, arith}
use Rattle.std.specs.Prelude.{true, false, ◌==◌, ◌&&◌, ◌||◌}
use Rattle.std.specs.List.{AllPairs, IsDistinct}
use Rattle.std.specs.List.Sorted.{IsPermutation, IsSortedBy}
use Rattle.std.proofs.lemmas.Bool.Decides.{nat_tests}
use Rattle.std.proofs.lemmas.List.{get_or-map, length-map}
use Rattle.std.proofs.lemmas.List.Sorted.{sorted_far, IsPermutation-map}
use Rattle.std.proofs.lemmas.Map.Keys.{IsDistinct-from_apart, IsDistinct-IsPermutation, apart_from_distinct}
use Rattle.pipe_types.specs.declared.numbers.SubNo.{SubNo}
use Rattle.pipe_types.specs.declared.room.Room.{Room}
use Rattle.pipe_types.specs.Dispatchers.{is_served_before}
use Rattle.pipe_types.specs.Numbers.{same_sub, sub_before}
use Rattle.pipe_types.specs.Rooms.{AreAscending}
use Rattle.pipe_types.proofs.Serving.{is_served_before_ranks, one_is_served_before}

same_sub_flips : (u v : SubNo) → same_sub u v ≡ same_sub v u
same_sub_flips u v = grind (arith, nat_tests)

pub before_is_apart : (u v : SubNo) → sub_before u v ≡ true → same_sub u v ≡ false
before_is_apart u v h = grind (arith, nat_tests)

-- in the order of serving, each room is served before the later ones
pub served_in_turn : (rooms order : List Room) → AreAscending rooms → IsPermutation rooms order → IsSortedBy is_served_before order → AllPairs (λ v u. is_served_before v u ≡ true) order
served_in_turn rooms order ascending same sorted i j d lt within =
    one_is_served_before (get_or order i d) (get_or order j d)
    (sorted_far is_served_before is_served_before_ranks order sorted i j d (omega arith) within)
    (subst (λ (u : SubNo). same_sub u (get_or order j d).sub ≡ false) (get_or-map sub_of order i d d.sub (omega arith))
    (subst (λ (u : SubNo). same_sub (get_or (map sub_of order) i d.sub) u ≡ false) (get_or-map sub_of order j d d.sub within)
    (apart_from_distinct same_sub (map sub_of order) i j d.sub distinct lt (rw length-map within))))
  where
    sub_of : Room → SubNo
    sub_of u = u.sub

    distinct : IsDistinct same_sub (map sub_of order)
    distinct =
        IsDistinct-IsPermutation same_sub same_sub_flips (map sub_of rooms) (map sub_of order) (IsPermutation-map sub_of rooms order same)
        (IsDistinct-from_apart same_sub (map sub_of rooms) apart)
      where
        apart : (a b : ℕ) (e : SubNo) → a < b → b < length (map sub_of rooms) → same_sub (get_or (map sub_of rooms) a e) (get_or (map sub_of rooms) b e) ≡ false
        apart a b e less inside =
            let inside' : b < length rooms = rw length-map at inside in
            let inside'' : a < length rooms = omega arith in
            rw (get_or-map sub_of rooms a d e inside'', get_or-map sub_of rooms b d e inside')
            (before_is_apart (get_or rooms a d).sub (get_or rooms b d).sub (ascending a b d less inside'))
