-- The rooms in the order of their keys.
use Rattle.std.proofs.Common.{◌≡◌, ℕ, ◌+◌, ◌<◌, List, [], ◌∷◌, length, get_or, map, refl, ap, sym, subst, ◌∙◌, arith}
use Rattle.std.specs.Prelude.{true, false}
use Rattle.std.specs.List.Sorted.{IsPermutation, IsSorted}
use Rattle.std.specs.declared.cmp.Reverse.{Reverse}
use Rattle.std.proofs.lemmas.List.{get_or-map, length-map}
use Rattle.std.proofs.lemmas.List.Sorted.{IsPermutation-map}
use Rattle.pipe_types.specs.declared.numbers.SubNo.{SubNo}
use Rattle.pipe_types.specs.declared.room.Room.{Room}
use Rattle.pipe_types.specs.Numbers.{sub_before}
use Rattle.pipe_types.specs.Dispatchers.{is_served_before}
use Rattle.pipe_types.specs.Rooms.{AreAscending}
use Rattle.dispatch_demand.specs.Serving.{serving_key, key_cmp, room_at}
use Rattle.pipe_types.proofs.Serving.{serving_cmp_is}
use Rattle.dispatch_demand.proofs.Units.{Serves}

abbrev pub Key : Type 0
Key = Reverse ℕ × SubNo

-- Rooms without their parts

abbrev pub bare : Room → Room
bare u = room_at (serving_key u)

bare_map : (rooms : List Room) → map room_at (map serving_key rooms) ≡ map bare rooms
bare_map [] = refl
bare_map (u ∷ us) = ap (λ (xs : List Room). bare u ∷ xs) (bare_map us)

-- the rooms in the order of their keys are served in it
pub in_turn : (rooms : List Room) (keys : List Key) → AreAscending rooms → IsPermutation (map serving_key rooms) keys → IsSorted key_cmp keys → Serves (map bare rooms) (map room_at keys)
in_turn rooms keys ascending same ordered =
    record {
      ascending = λ i j d lt within. rising i j d lt (rw length-map at within);
      same = subst (λ (xs : List Room). IsPermutation xs (map room_at keys)) (bare_map rooms) (IsPermutation-map room_at (map serving_key rooms) keys same);
      sorted = λ k d low within. in_order k d (rw length-map at within);
    }
  where
    rising : (i j : ℕ) (d : Room) → i < j → j < length rooms → sub_before (get_or (map bare rooms) i d).sub (get_or (map bare rooms) j d).sub ≡ true
    rising i j d lt within =
        let low : i < length rooms = omega arith in
        rw (get_or-map bare rooms i d d low, get_or-map bare rooms j d d within) (ascending i j d lt within)

    in_order : (k : ℕ) (d : Room) → k + 1 < length keys → is_served_before (get_or (map room_at keys) (k + 1) d) (get_or (map room_at keys) k d) ≡ false
    in_order k d within =
        let low : k < length keys = omega arith in
        rw (get_or-map room_at keys (k + 1) (serving_key d) d within, get_or-map room_at keys k (serving_key d) d low)
        (sym (serving_cmp_is (room_at (get_or keys (k + 1) (serving_key d))) (room_at (get_or keys k (serving_key d)))) ∙ ordered k (serving_key d) (omega arith) within)
