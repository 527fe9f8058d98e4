-- The least open demand.
use Rattle.std.specs.Prelude.{ℕ, List, [], ◌∷◌, min, fold}
use Rattle.pipe_types.specs.declared.room.Room.{Room}

-- the least open demand, 0 with no room
abbrev pub least_left : List Room → ℕ
least_left [] = 0
least_left (u ∷ rooms) = fold (λ least v. min least v.left) u.left rooms
