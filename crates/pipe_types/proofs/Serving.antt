-- The order in which rooms are served.
use Rattle.std.proofs.Common.{◌≡◌, ℕ, arith, ap, sym, ◌∙◌, Ordering}
use Rattle.std.specs.Prelude.{Bool, true, false, nat_lt, ◌==◌, ◌&&◌, ◌||◌}
use Rattle.std.specs.Cmp.{IsTotalOrder, IsStrictWeakOrder}
use Rattle.std.specs.Ordering.{nat_cmp, ordering_then, is_lt}
use Rattle.std.proofs.lemmas.Bool.Decides.{nat_tests}
use Rattle.std.proofs.lemmas.Cmp.{nat_cmp_total, on_total, then_total, back_total}
use Rattle.std.proofs.lemmas.List.Sorted.{ranks_by}
use Rattle.pipe_types.specs.declared.numbers.SubNo.{SubNo}
use Rattle.pipe_types.specs.declared.room.Room.{Room}
use Rattle.pipe_types.specs.Dispatchers.{is_served_before}
use Rattle.pipe_types.specs.Numbers.{same_sub, sub_before}

-- the order of subscriptions, and of rooms, as comparisons
abbrev pub sub_cmp : SubNo → SubNo → Ordering
sub_cmp u v = ordering_then (nat_cmp u.consumer.0 v.consumer.0) (ordering_then (nat_cmp u.producer.0 v.producer.0) (nat_cmp u.generation v.generation))

abbrev pub serving_cmp : Room → Room → Ordering
serving_cmp v u = ordering_then (nat_cmp u.left v.left) (sub_cmp v.sub u.sub)

pub sub_cmp_total : IsTotalOrder sub_cmp
sub_cmp_total =
    then_total (on_total (λ (u : SubNo). u.consumer.0) nat_cmp_total)
    (then_total (on_total (λ (u : SubNo). u.producer.0) nat_cmp_total) (on_total (λ (u : SubNo). u.generation) nat_cmp_total))

serving_cmp_total : IsTotalOrder serving_cmp
serving_cmp_total = then_total (on_total (λ (u : Room). u.left) (back_total nat_cmp_total)) (on_total (λ (u : Room). u.sub) sub_cmp_total)

first_less : (a b : ℕ) (o : Ordering) → is_lt (ordering_then (nat_cmp a b) o) ≡ (nat_lt a b || (a == b && is_lt o))
first_less a b o = grind (arith, nat_tests)

last_less : (a b : ℕ) → is_lt (nat_cmp a b) ≡ nat_lt a b
last_less a b = grind (arith, nat_tests)

sub_cmp_is : (u v : SubNo) → is_lt (sub_cmp u v) ≡ sub_before u v
sub_cmp_is u v =
    first_less u.consumer.0 v.consumer.0 (ordering_then (nat_cmp u.producer.0 v.producer.0) (nat_cmp u.generation v.generation))
    ∙ ap (λ (b : Bool). nat_lt u.consumer.0 v.consumer.0 || (u.consumer.0 == v.consumer.0 && b))
    (first_less u.producer.0 v.producer.0 (nat_cmp u.generation v.generation)
    ∙ ap (λ (b : Bool). nat_lt u.producer.0 v.producer.0 || (u.producer.0 == v.producer.0 && b)) (last_less u.generation v.generation))

-- the comparison answers less exactly where a room is served before another
pub serving_cmp_is : (v u : Room) → is_lt (serving_cmp v u) ≡ is_served_before v u
serving_cmp_is v u =
    first_less u.left v.left (sub_cmp v.sub u.sub)
    ∙ ap (λ (b : Bool). nat_lt u.left v.left || (u.left == v.left && b)) (sub_cmp_is v.sub u.sub)

pub is_served_before_ranks : IsStrictWeakOrder is_served_before
is_served_before_ranks =
    let ranks : IsStrictWeakOrder (λ (v : Room) (u : Room). is_lt (serving_cmp v u)) = ranks_by serving_cmp_total (λ (u : Room). u) in
    record {
      one_way = λ v u h. sym (serving_cmp_is u v) ∙ ranks.one_way v u (serving_cmp_is v u ∙ h);
      chain = λ v u w h k. sym (serving_cmp_is v w) ∙ ranks.chain v u w (serving_cmp_is v u ∙ h) (serving_cmp_is u w ∙ k);
    }

turned_round : (a b : ℕ) (p q : Bool) → (nat_lt a b || (a == b && p)) ≡ false → (a ≡ b → p ≡ false → q ≡ true) → (nat_lt b a || (b == a && q)) ≡ true
turned_round a b p q h k = grind (arith, nat_tests)

one_is_before : (u v : SubNo) → sub_before v u ≡ false → same_sub u v ≡ false → sub_before u v ≡ true
one_is_before u v h apart =
    turned_round v.consumer.0 u.consumer.0 _ _ h (λ c h2. turned_round v.producer.0 u.producer.0 _ _ h2 (λ p h3. grind (arith, nat_tests)))

-- of two rooms with different subscriptions one is served before the other
pub one_is_served_before : (v u : Room) → is_served_before u v ≡ false → same_sub v.sub u.sub ≡ false → is_served_before v u ≡ true
one_is_served_before v u h apart = turned_round v.left u.left (sub_before u.sub v.sub) (sub_before v.sub u.sub) h (λ _ k. one_is_before v.sub u.sub k apart)
