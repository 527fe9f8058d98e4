-- Units judged by their partitions, and by their own numbers.
use Rattle.std.proofs.Common.{◌≡◌, ℕ, ◌+◌, ◌<◌, List, [], ◌∷◌, ◌++◌, length, take, drop, get_or, map, Bool, true, false, refl, ap, sym, ◌∙◌, append_assoc}
use Rattle.std.specs.Prelude.{filter, reverse, nat_le, ◌&&◌, if◌then◌else◌}
use Rattle.std.proofs.lemmas.List.{reverse-append, at_drop_more, take_more}
use Rattle.pipe_types.specs.declared.numbers.SubNo.{SubNo}
use Rattle.pipe_types.specs.declared.room.Room.{Room}
use Rattle.pipe_types.specs.declared.room.Sent.{Sent}
use Rattle.pipe_types.specs.declared.topology.Dispatch.{Dispatch}
use Rattle.pipe_types.specs.declared.topology.Dispatch.TheVariants.{Demand, Broadcast, Partition}
use Rattle.pipe_types.specs.Dispatchers.{ByBroadcast, served_as, picks_all, mark_of, fit_all, has_rooms, on_each, sends, sends_from, serves, serves_from}
use Rattle.plain_sends.specs.Casts.{is_cast, with_selves}
use Rattle.plain_dispatch.proofs.Turned.{count_turned}

-- what does not broadcast judges units by their partitions, whoever picks them
pub parts_sent : (kind : Dispatch) (p : ℕ → SubNo → Bool) (part : ℕ → ℕ) (rooms : List Room) (ns : List ℕ) → is_cast kind ≡ false
    → sends (served_as kind picks_all) rooms (map {B = ℕ × ℕ} (λ n. (n, part n)) ns) ≡ sends (served_as kind p) rooms (map {B = ℕ × ℕ} (λ n. (n, mark_of kind n (part n))) ns)
parts_sent Demand p part rooms ns h = refl
parts_sent Partition p part rooms ns h = refl
parts_sent Broadcast p part rooms ns h = cc

pub parts_served : (kind : Dispatch) (p : ℕ → SubNo → Bool) (part : ℕ → ℕ) (rooms : List Room) (ns : List ℕ) → is_cast kind ≡ false
    → serves (served_as kind picks_all) rooms (map {B = ℕ × ℕ} (λ n. (n, part n)) ns) ≡ serves (served_as kind p) rooms (map {B = ℕ × ℕ} (λ n. (n, mark_of kind n (part n))) ns)
parts_served Demand p part rooms ns h = refl
parts_served Partition p part rooms ns h = refl
parts_served Broadcast p part rooms ns h = cc

-- and what broadcasts by their own numbers
pub selves_sent : (kind : Dispatch) (p : ℕ → SubNo → Bool) (part : ℕ → ℕ) (rooms : List Room) (ns : List ℕ) → is_cast kind ≡ true
    → sends (ByBroadcast p) rooms (with_selves ns) ≡ sends (served_as kind p) rooms (map {B = ℕ × ℕ} (λ n. (n, mark_of kind n (part n))) ns)
selves_sent Broadcast p part rooms ns h = refl
selves_sent Demand p part rooms ns h = cc
selves_sent Partition p part rooms ns h = cc

pub selves_served : (kind : Dispatch) (p : ℕ → SubNo → Bool) (part : ℕ → ℕ) (rooms : List Room) (ns : List ℕ) → is_cast kind ≡ true
    → serves (ByBroadcast p) rooms (with_selves ns) ≡ serves (served_as kind p) rooms (map {B = ℕ × ℕ} (λ n. (n, mark_of kind n (part n))) ns)
selves_served Broadcast p part rooms ns h = refl
selves_served Demand p part rooms ns h = cc
selves_served Partition p part rooms ns h = cc

-- Units turned round

fit_turned : (p : ℕ → SubNo → Bool) (rooms : List Room) (xs : List ℕ) → fit_all p rooms (reverse xs) ≡ fit_all p rooms xs
fit_turned p [] xs = refl
fit_turned p (v ∷ rooms) xs = λ i. nat_le (count_turned (λ n. p n v.sub) xs i) v.left && fit_turned p rooms xs i

turned_more : (xs : List ℕ) (i : ℕ) → i < length xs → reverse (take (i + 1) xs) ≡ get_or xs i 0 ∷ reverse (take i xs)
turned_more xs i below = ap reverse (take_more xs i 0 below) ∙ reverse-append (take i xs) (get_or xs i 0 ∷ [])

-- the units up to this one fit where it does behind those before it
pub fit_here : (p : ℕ → SubNo → Bool) (rooms : List Room) (xs : List ℕ) (i : ℕ) → i < length xs
    → fit_all p rooms (take (i + 1) xs) ≡ fit_all p rooms (get_or xs i 0 ∷ reverse (take i xs))
fit_here p rooms xs i below = sym (fit_turned p rooms (take (i + 1) xs)) ∙ ap (fit_all p rooms) (turned_more xs i below)

-- One unit more

none_go : (test : Room → Bool) (rooms : List Room) → filter (λ r. false && test r) rooms ≡ []
none_go test [] = refl
none_go test (r ∷ rooms) = none_go test rooms

pub sent_step : (p : ℕ → SubNo → Bool) (rooms : List Room) (xs : List ℕ) (i : ℕ) (old new : List Sent) → i < length xs
    → new ≡ old ++ (if fit_all p rooms (take (i + 1) xs) then on_each (get_or xs i 0) (filter (λ r. p (get_or xs i 0) r.sub) rooms) else [])
    → new ++ sends_from (ByBroadcast p) rooms (reverse (take (i + 1) xs)) (with_selves (drop (i + 1) xs)) ≡ old ++ sends_from (ByBroadcast p) rooms (reverse (take i xs)) (with_selves (drop i xs))
sent_step p rooms xs i old new below is =
    let x : ℕ = get_or xs i 0 in
    let rest : List Sent = sends_from (ByBroadcast p) rooms (x ∷ reverse (take i xs)) (with_selves (drop (i + 1) xs)) in
    ap (λ ys. ys ++ sends_from (ByBroadcast p) rooms (reverse (take (i + 1) xs)) (with_selves (drop (i + 1) xs))) is
    ∙ (ap (λ ys. (old ++ (if fit_all p rooms (take (i + 1) xs) then on_each x (filter (λ r. p x r.sub) rooms) else [])) ++ sends_from (ByBroadcast p) rooms ys (with_selves (drop (i + 1) xs))) (turned_more xs i below)
    ∙ (append_assoc old (if fit_all p rooms (take (i + 1) xs) then on_each x (filter (λ r. p x r.sub) rooms) else []) rest
    ∙ (ap (λ ys. old ++ (ys ++ rest)) (by (fit_all p rooms (take (i + 1) xs)) ∙ ap (λ b. on_each x (filter (λ r. b && p x r.sub) rooms)) (fit_here p rooms xs i below))
    ∙ sym (ap (λ ys. old ++ ys) (at_drop_more (λ ys. sends_from (ByBroadcast p) rooms (reverse (take i xs)) (with_selves ys)) xs i 0 below)))))
  where
    by : (b : Bool) → (if b then on_each (get_or xs i 0) (filter (λ r. p (get_or xs i 0) r.sub) rooms) else []) ≡ on_each (get_or xs i 0) (filter (λ r. b && p (get_or xs i 0) r.sub) rooms)
    by true = refl
    by false = sym (ap (on_each (get_or xs i 0)) (none_go (λ r. p (get_or xs i 0) r.sub) rooms))

pub served_step : (p : ℕ → SubNo → Bool) (rooms : List Room) (xs : List ℕ) (i : ℕ) (old new : List ℕ) → i < length xs
    → new ≡ old ++ (if has_rooms rooms && fit_all p rooms (take (i + 1) xs) then get_or xs i 0 ∷ [] else [])
    → new ++ serves_from (ByBroadcast p) rooms (reverse (take (i + 1) xs)) (with_selves (drop (i + 1) xs)) ≡ old ++ serves_from (ByBroadcast p) rooms (reverse (take i xs)) (with_selves (drop i xs))
served_step p rooms xs i old new below is =
    let x : ℕ = get_or xs i 0 in
    let rest : List ℕ = serves_from (ByBroadcast p) rooms (x ∷ reverse (take i xs)) (with_selves (drop (i + 1) xs)) in
    ap (λ ys. ys ++ serves_from (ByBroadcast p) rooms (reverse (take (i + 1) xs)) (with_selves (drop (i + 1) xs))) is
    ∙ (ap (λ ys. (old ++ (if has_rooms rooms && fit_all p rooms (take (i + 1) xs) then x ∷ [] else [])) ++ serves_from (ByBroadcast p) rooms ys (with_selves (drop (i + 1) xs))) (turned_more xs i below)
    ∙ (append_assoc old (if has_rooms rooms && fit_all p rooms (take (i + 1) xs) then x ∷ [] else []) rest
    ∙ (ap (λ ys. old ++ ys) (by (has_rooms rooms && fit_all p rooms (take (i + 1) xs)) rest ∙ ap (λ b. if has_rooms rooms && b then x ∷ rest else rest) (fit_here p rooms xs i below))
    ∙ sym (ap (λ ys. old ++ ys) (at_drop_more (λ ys. serves_from (ByBroadcast p) rooms (reverse (take i xs)) (with_selves ys)) xs i 0 below)))))
  where
    by : (b : Bool) (zs : List ℕ) → (if b then get_or xs i 0 ∷ [] else []) ++ zs ≡ (if b then get_or xs i 0 ∷ zs else zs)
    by true zs = refl
    by false zs = refl
