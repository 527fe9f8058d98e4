-- The ask that is due is the one that the table of subscriptions has.
use Rattle.std.proofs.Common.{◌≡◌, Bool, true, false, refl, ap, sym, ◌∙◌}
use Rattle.std.specs.Prelude.{◌&&◌, ◌==◌, ◌-◌, nat_le, if◌then◌else◌}
use Rattle.std.proofs.lemmas.Bool.{eqb-true}
use Rattle.pipe_types.specs.declared.numbers.SubNo.{SubNo}
use Rattle.pipe_types.specs.declared.topology.Topology.{Topology}
use Rattle.pipe_types.specs.Stages.{spec_of, feeds}
use Rattle.pipe_model.specs.History.{History}
use Rattle.pipe_model.specs.Lives.{is_live, is_live_sub, current_sub, generation}
use Rattle.pipe_model.specs.Ledger.{due, pending, min_in, max_in}
use Rattle.pipe_types.specs.Numbers.{same_sub}
use Rattle.stage_demand.specs.Demand.{due_of}
use Rattle.stage_subs.specs.Subs.{due_on, due_in}
use Rattle.stage_subs.specs.Ledger.{ledger_counts}
use Rattle.core_state.specs.declared.state.Core.{Core}
use Rattle.core_state.specs.Stands.{Fields}
use Rattle.core_state.proofs.Asking.{due_seen}

-- on a subscription that is not live none is due
pub due_none : (topology : Topology) (before : History) (u : SubNo) → is_live_sub topology before u ≡ false → due topology before u ≡ 0
due_none topology before u dead =
    ap (λ b. if b && nat_le (pending topology before u) (min_in (spec_of topology u.consumer)) then max_in (spec_of topology u.consumer) - pending topology before u else 0) dead

-- a pair that does not feed has no live one
pub unfed_due : (topology : Topology) (before : History) (u : SubNo) → feeds topology u.producer u.consumer ≡ false → due topology before u ≡ 0
unfed_due topology before u unfed =
    due_none topology before u
    (ap (λ b. b && (is_live topology before u.producer && (is_live topology before u.consumer && same_sub u (current_sub topology before u.consumer u.producer)))) unfed)

-- on a subscription of a pair that feeds, the table has what is due
pub fed_due : (core : Core) (topology : Topology) (before : History) (u : SubNo) → Fields core topology before → feeds topology u.producer u.consumer ≡ true
    → due_on core.subs u ≡ due topology before u
fed_due core topology before u x fed = by (is_live_sub topology before u) refl
  where
    by_generation : (b : Bool) → (generation topology before u.consumer u.producer == u.generation) ≡ b → is_live_sub topology before u ≡ false
        → (is_live_sub topology before (current_sub topology before u.consumer u.producer) && b) ≡ false
    by_generation true e dead =
        let same : generation topology before u.consumer u.producer ≡ u.generation = eqb-true (generation topology before u.consumer u.producer) u.generation e in
        let is : current_sub topology before u.consumer u.producer ≡ u = ap (λ g. record { consumer = u.consumer; producer = u.producer; generation = g }) same in
        ap (λ b. b && true) (ap (is_live_sub topology before) is ∙ dead)
    by_generation false e dead = none (is_live_sub topology before (current_sub topology before u.consumer u.producer))
      where
        none : (a : Bool) → (a && false) ≡ false
        none true = refl
        none false = refl

    by : (b : Bool) → is_live_sub topology before u ≡ b → due_on core.subs u ≡ due topology before u
    by true live = due_seen core topology before u x live
    by false dead =
        ap (λ o. due_in o u.generation) (x.subs u.consumer u.producer fed)
        ∙ (ap (λ b. if b then due_of (ledger_counts topology before (current_sub topology before u.consumer u.producer)) else 0)
        (by_generation (generation topology before u.consumer u.producer == u.generation) refl dead)
        ∙ sym (due_none topology before u dead))
