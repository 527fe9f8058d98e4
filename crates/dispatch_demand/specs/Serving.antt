-- The order in which rooms are served, by keys.
use Rattle.std.specs.Prelude.{ℕ}
use Rattle.std.specs.declared.cmp.Ordering.{Ordering}
use Rattle.std.specs.declared.cmp.Reverse.{Reverse}
use Rattle.std.specs.Ordering.{nat_cmp, ordering_then}
use Rattle.pipe_types.specs.declared.numbers.SubNo.{SubNo}
use Rattle.pipe_types.specs.declared.room.Room.{Room}

-- where a room stands: by its open demand, the greatest first, and then by its subscription
abbrev pub serving_key : Room → Reverse ℕ × SubNo
serving_key u = (record { 0 = u.left }, u.sub)

-- the order of subscriptions, as a comparison
abbrev pub sub_cmp : SubNo → SubNo → Ordering
sub_cmp u v = ordering_then (nat_cmp u.consumer.0 v.consumer.0) (ordering_then (nat_cmp u.producer.0 v.producer.0) (nat_cmp u.generation v.generation))

abbrev pub key_cmp : Reverse ℕ × SubNo → Reverse ℕ × SubNo → Ordering
key_cmp x y = ordering_then (nat_cmp y.0.0 x.0.0) (sub_cmp x.1 y.1)

-- the room that stands there; its part does not count
abbrev pub room_at : Reverse ℕ × SubNo → Room
room_at key = record { sub = key.1; part = 0; left = key.0.0 }
