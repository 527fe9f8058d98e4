-- The dispatch rules on worked rooms.
use Rattle.std.proofs.Common.{◌≡◌, refl}
use Rattle.std.specs.Prelude.{ℕ, Bool, ◌==◌, ◌&&◌, ◌||◌, true, List, [], ◌∷◌, ◌++◌, map, codes, replicate, Some}
use Rattle.pipe_types.specs.declared.numbers.SubNo.{SubNo}
use Rattle.pipe_types.specs.declared.topology.Topology.{Topology}
use Rattle.pipe_types.specs.declared.topology.Dispatch.TheVariants.{Partition}
use Rattle.pipe_types.specs.declared.message.Reply.TheVariants.{Pass}
use Rattle.pipe_types.specs.declared.message.Place.TheVariants.{Waiting, Inbox}
use Rattle.pipe_types.specs.declared.room.Room.{Room}
use Rattle.pipe_types.specs.declared.room.Sent.{Sent}
use Rattle.pipe_types.specs.declared.step.Step.{Step}
use Rattle.pipe_types.specs.declared.step.Step.TheVariants.{Ask, Fetch, Accept, Dispatch, Take, Done}
use Rattle.pipe_types.specs.Numbers.{stage}
use Rattle.pipe_types.specs.Dispatchers.{ByDemand, ByBroadcast, ByPartition, picks_all, sends_by_place, serves_by_place, partition_of}
use Rattle.pipe_model.specs.History.{history}
use Rattle.pipe_model.specs.Flow.{place}
use Rattle.model_checks.proofs.Base.{is_run, producer, processor, with_stages, sub, msg, batcher, two_batchers}

-- the room of consumer c, at that place of its group, with this open demand
abbrev room_of : (c part left : ℕ) → Room
room_of c part left = record { sub = sub c 1 1; part = part; left = left }

-- a unit by its place, sent to consumer c
abbrev to : (unit c : ℕ) → Sent
to unit c = record { unit = unit; sub = sub c 1 1 }

-- so many units of one partition
abbrev units : ℕ → List ℕ
units n = replicate n 0

-- Demand

-- twelve units to rooms of 10 and 7: ten go to the first, and two to the second
greatest_first : sends_by_place ByDemand (room_of 2 0 10 ∷ room_of 3 1 7 ∷ []) (units 12)
    ≡ to 0 2 ∷ to 1 2 ∷ to 2 2 ∷ to 3 2 ∷ to 4 2 ∷ to 5 2 ∷ to 6 2 ∷ to 7 2 ∷ to 8 2 ∷ to 9 2 ∷ to 10 3 ∷ to 11 3 ∷ []
greatest_first = refl

-- the greatest is first though it stands second
greatest_first_anywhere : sends_by_place ByDemand (room_of 2 0 2 ∷ room_of 3 1 4 ∷ []) (units 5) ≡ to 0 3 ∷ to 1 3 ∷ to 2 3 ∷ to 3 3 ∷ to 4 2
    ∷ []
greatest_first_anywhere = refl

-- six units to equal rooms of 5: the smaller subscription comes first
ties_by_number : sends_by_place ByDemand (room_of 2 0 5 ∷ room_of 3 1 5 ∷ []) (units 6) ≡ to 0 2 ∷ to 1 2 ∷ to 2 2 ∷ to 3 2 ∷ to 4 2 ∷ to 5 3
    ∷ []
ties_by_number = refl

-- what nobody asked for stays
stays_over_demand : sends_by_place ByDemand (room_of 2 0 1 ∷ room_of 3 1 0 ∷ []) (units 3) ≡ to 0 2 ∷ []
stays_over_demand = refl

nobody_asked : sends_by_place ByDemand [] (units 3) ≡ []
nobody_asked = refl

-- Broadcast

-- rooms of 3, 1 and 2: one unit to all three
to_all : sends_by_place (ByBroadcast picks_all) (room_of 2 0 3 ∷ room_of 3 1 1 ∷ room_of 4 2 2 ∷ []) (units 4) ≡ to 0 2 ∷ to 0 3 ∷ to 0 4 ∷ []
to_all = refl

-- rooms of 2, 0 and 1: nothing
least_is_none : sends_by_place (ByBroadcast picks_all) (room_of 2 0 2 ∷ room_of 3 1 0 ∷ room_of 4 2 1 ∷ []) (units 3) ≡ []
least_is_none = refl

-- no room: nothing
no_room_at_all : sends_by_place (ByBroadcast picks_all) [] (units 3) ≡ []
no_room_at_all = refl

-- fewer units than all asked for
as_many_as_wait : sends_by_place (ByBroadcast picks_all) (room_of 2 0 3 ∷ room_of 3 1 2 ∷ []) (units 1) ≡ to 0 2 ∷ to 0 3 ∷ []
as_many_as_wait = refl

-- the first of two rooms picks units 0 and 2, and nobody picks unit 1
abbrev picks_even : ℕ → SubNo → Bool
picks_even n u = (n == 0 || n == 2) && u.consumer.0 == 2

-- rooms of 1 and 0: unit 0 goes to the one that picks it, unit 1 is served though nobody picks it, and unit 2 is over the demand
to_whom_it_picks : sends_by_place (ByBroadcast picks_even) (room_of 2 0 1 ∷ room_of 3 1 0 ∷ []) (0 ∷ 1 ∷ 2 ∷ []) ≡ to 0 2 ∷ []
to_whom_it_picks = refl

serves_whom_nobody_picks : serves_by_place (ByBroadcast picks_even) (room_of 2 0 1 ∷ room_of 3 1 0 ∷ []) (0 ∷ 1 ∷ 2 ∷ []) ≡ 0 ∷ 1 ∷ []
serves_whom_nobody_picks = refl

-- a unit that the room without demand picks holds back all behind it, whether another picks it or not
abbrev picks_first : ℕ → SubNo → Bool
picks_first n u = picks_even n u || n == 0

held_back : serves_by_place (ByBroadcast picks_first) (room_of 2 0 1 ∷ room_of 3 1 0 ∷ []) (0 ∷ 1 ∷ 2 ∷ []) ≡ []
held_back = refl

abbrev picks_apart : ℕ → SubNo → Bool
picks_apart n u = (n == 0 && u.consumer.0 == 3) || (n == 2 && u.consumer.0 == 2)

held_back_apart : serves_by_place (ByBroadcast picks_apart) (room_of 2 0 1 ∷ room_of 3 1 0 ∷ []) (0 ∷ 1 ∷ 2 ∷ []) ≡ []
held_back_apart = refl

-- with more demand the last goes out too
last_goes : sends_by_place (ByBroadcast picks_even) (room_of 2 0 2 ∷ room_of 3 1 0 ∷ []) (0 ∷ 1 ∷ 2 ∷ []) ≡ to 0 2 ∷ to 2 2 ∷ []
last_goes = refl

-- with no room nothing is served, whoever picks it
none_served : serves_by_place (ByBroadcast picks_even) [] (0 ∷ 1 ∷ []) ≡ []
none_served = refl

-- Partition

-- each unit to the consumer of its partition; one without demand holds back no other
by_partition : sends_by_place ByPartition (room_of 2 0 1 ∷ room_of 3 1 0 ∷ room_of 4 2 2 ∷ []) (0 ∷ 1 ∷ 0 ∷ 2 ∷ 1 ∷ 2 ∷ 2 ∷ []) ≡ to 0 2
    ∷ to 3 4 ∷ to 5 4 ∷ []
by_partition = refl

-- a partition whose consumer is not there stays
partition_of_nobody : sends_by_place ByPartition (room_of 2 0 5 ∷ []) (1 ∷ 0 ∷ 1 ∷ []) ≡ to 1 2 ∷ []
partition_of_nobody = refl

-- the partitions of byte strings
partition_of_a : map (λ text. partition_of text 2) (codes "a" ∷ codes "b" ∷ [] ∷ []) ≡ 1 ∷ 0 ∷ 0 ∷ []
partition_of_a = refl

-- 31 times the first byte and the second
partition_of_two : partition_of (codes "ab") 1000 ≡ 105
partition_of_two = refl

-- the hash is kept below 2 ^ 32
partition_of_many : partition_of (codes "zzzzzzzz") 1000 ≡ 384
partition_of_many = refl

-- In a journal

-- lines `a` go to the second of two processors by their whole payload, as many as it asked for
abbrev by_payload : Topology
by_payload =
    with_stages
    (record (producer 1 (codes "p") 0) { dispatch = Partition; parts = 2 } ∷ processor 2 (codes "processors.0") 0 []
    ∷ processor 3 (codes "processors.1") 1 [] ∷ [])

abbrev mixed : List Step
mixed =
    Ask (sub 2 1 1) 10 ∷ Ask (sub 3 1 1) 10 ∷ Fetch (stage 1) 20 ∷ Accept (stage 1) (replicate 12 (codes "a") ++ codes "b" ∷ [])
    ∷ Dispatch (stage 1) ∷ []

mixed_legal : is_run by_payload mixed ≡ true
mixed_legal = refl

mixed_places : map (place by_payload (history mixed)) (1 ∷ 10 ∷ 11 ∷ 12 ∷ 13 ∷ []) ≡ Some (Inbox (sub 3 1 1)) ∷ Some (Inbox (sub 3 1 1))
    ∷ Some (Waiting (stage 1)) ∷ Some (Waiting (stage 1)) ∷ Some (Inbox (sub 2 1 1)) ∷ []
mixed_places = refl

-- by the second field of the payload, where a missing field is empty
abbrev by_field : Topology
by_field =
    with_stages
    (record (producer 1 (codes "p") 0) { dispatch = Partition; parts = 2; field = 2 } ∷ processor 2 (codes "processors.0") 0 []
    ∷ processor 3 (codes "processors.1") 1 [] ∷ [])

abbrev fields_journal : List Step
fields_journal =
    Ask (sub 2 1 1) 10 ∷ Ask (sub 3 1 1) 10 ∷ Fetch (stage 1) 20
    ∷ Accept (stage 1) (codes "b a" ∷ codes "a b" ∷ codes "a" ∷ codes "x a b" ∷ codes "x  a" ∷ []) ∷ Dispatch (stage 1) ∷ []

fields_places : map (place by_field (history fields_journal)) (1 ∷ 2 ∷ 3 ∷ 4 ∷ 5 ∷ []) ≡ Some (Inbox (sub 3 1 1)) ∷ Some (Inbox (sub 2 1 1))
    ∷ Some (Inbox (sub 2 1 1)) ∷ Some (Inbox (sub 3 1 1)) ∷ Some (Inbox (sub 2 1 1)) ∷ []
fields_places = refl

-- a processor sends each message to the batcher that the message names
abbrev routed : List Step
routed =
    Ask (sub 2 1 1) 10 ∷ Ask (sub 3 2 1) 3 ∷ Ask (sub 4 2 1) 3 ∷ Fetch (stage 1) 10
    ∷ Accept (stage 1) (codes "hot 1" ∷ codes "cold 2" ∷ codes "coldest 3" ∷ []) ∷ Dispatch (stage 1)
    ∷ Take (stage 2) (sub 2 1 1) 3
    ∷ Done (stage 2) (Pass (msg 1 (codes "hot 1")) ∷ Pass (record (msg 2 (codes "cold 2")) { batcher = 1 })
    ∷ Pass (msg 3 (codes "coldest 3")) ∷ [])
    ∷ Dispatch (stage 2) ∷ []

routed_legal : is_run (two_batchers 1) routed ≡ true
routed_legal = refl

routed_places : map (place (two_batchers 1) (history routed)) (1 ∷ 2 ∷ 3 ∷ []) ≡ Some (Inbox (sub 3 2 1)) ∷ Some (Inbox (sub 4 2 1))
    ∷ Some (Inbox (sub 3 2 1)) ∷ []
routed_places = refl
