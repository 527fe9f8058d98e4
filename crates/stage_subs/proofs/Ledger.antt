-- What a row that a journal left says of a subscription is what the journal says of it.
use Rattle.std.proofs.Common.{◌≡◌, ℕ, ◌-◌, refl, ap, sym, ◌∙◌, ⊎_elim, arith, Some}
use Rattle.std.specs.Prelude.{Bool, true, false, ◌&&◌, ◌==◌, if◌then◌else◌}
use Rattle.std.proofs.lemmas.Bool.{cases_Bool, cond-true, cond-false}
use Rattle.std.proofs.lemmas.Bool.Decides.{nat_tests}
use Rattle.pipe_types.specs.declared.numbers.SubNo.{SubNo}
use Rattle.pipe_types.specs.declared.topology.Topology.{Topology}
use Rattle.pipe_types.specs.Numbers.{subscription}
use Rattle.pipe_types.specs.Stages.{feeds}
use Rattle.pipe_model.specs.History.{History}
use Rattle.pipe_model.specs.Lives.{generation, current_sub, is_live, is_live_sub}
use Rattle.pipe_model.specs.Flow.{open_demand}
use Rattle.pipe_model.specs.Ledger.{due}
use Rattle.stage_demand.specs.Demand.{due_of}
use Rattle.stage_subs.specs.Subs.{is_live_in, due_in, room_in}
use Rattle.stage_subs.specs.Ledger.{ledger_counts, ledger_row}

-- two subscriptions of a pair, the second of the pair's present generation
gather_tests : (f p c : Bool) (a b g h : ℕ) → ((f && (p && (c && (a == a && (b == b && h == h))))) && h == g) ≡ (f && (p && (c && (a == a && (b == b && g == h)))))
gather_tests f p c a b g h = grind (arith, nat_tests)

pub live_in_ledger : (topology : Topology) (before : History) (u : SubNo) → is_live_in (Some (ledger_row topology before u.consumer u.producer)) u.generation ≡ is_live_sub topology before u
live_in_ledger topology before u =
    gather_tests (feeds topology u.producer u.consumer) (is_live topology before u.producer) (is_live topology before u.consumer) u.consumer.0 u.producer.0 u.generation (generation topology before u.consumer u.producer)

last_part : (f p c a b t : Bool) → (f && (p && (c && (a && (b && t))))) ≡ true → t ≡ true
last_part true true true true true t h = h
last_part true true true true false t h = cc
last_part true true true false b t h = cc
last_part true true false a b t h = cc
last_part true false c a b t h = cc
last_part false p c a b t h = cc

present : (topology : Topology) (before : History) (u : SubNo) → is_live_sub topology before u ≡ true → current_sub topology before u.consumer u.producer ≡ u
present topology before u live =
    let same = last_part (feeds topology u.producer u.consumer) (is_live topology before u.producer) (is_live topology before u.consumer) (u.consumer.0 == u.consumer.0) (u.producer.0 == u.producer.0) (u.generation == generation topology before u.consumer u.producer) live in
    let here : generation topology before u.consumer u.producer ≡ u.generation = grind (arith, nat_tests) in
    ap (λ (g : ℕ). subscription u.consumer u.producer g) here

nested : (b l : Bool) (x : ℕ) → (if b then (if l then x else 0) else 0) ≡ (if b && l then x else 0)
nested true l x = refl
nested false l x = refl

-- a count of the row's subscription, where the one that is asked for is live
where_live : (topology : Topology) (before : History) (u : SubNo) (f : SubNo → ℕ) →
    (if is_live_in (Some (ledger_row topology before u.consumer u.producer)) u.generation then f (current_sub topology before u.consumer u.producer) else 0) ≡ (if is_live_sub topology before u then f u else 0)
where_live topology before u f =
    ap (λ (b : Bool). if b then f (current_sub topology before u.consumer u.producer) else 0) (live_in_ledger topology before u)
    ∙ ⊎_elim
    (λ live. cond-true _ _ _ live ∙ (ap f (present topology before u live) ∙ sym (cond-true _ _ _ live)))
    (λ dead. cond-false _ _ _ dead ∙ sym (cond-false _ _ _ dead))
    (cases_Bool (is_live_sub topology before u))

-- the ask that is due by the counts of one subscription is the one that is due by the journal
pub due_in_ledger : (topology : Topology) (before : History) (u : SubNo) → due_in (Some (ledger_row topology before u.consumer u.producer)) u.generation ≡ due topology before u
due_in_ledger topology before u =
    where_live topology before u (λ v. due_of (ledger_counts topology before v))
    ∙ nested (is_live_sub topology before u) _ _

-- and so is the open demand
pub room_in_ledger : (topology : Topology) (before : History) (u : SubNo) → room_in (Some (ledger_row topology before u.consumer u.producer)) u.generation ≡ open_demand topology before u
room_in_ledger topology before u =
    where_live topology before u (λ v. (ledger_counts topology before v).asked - (ledger_counts topology before v).arrived)
