use Rattle.std.proofs.Common.{◌≡◌, List, map, take, sym, subst, ap, ◌∙◌, min}
use Rattle.std.specs.Prelude.{replicate}
use Rattle.std.specs.List.{enumerate_from}
use Rattle.std.proofs.lemmas.List.{take_all}
use Rattle.pipe_types.specs.declared.room.Room.{Room}
use Rattle.dispatch_demand.proofs.Places.{bare, in_turn}
use Rattle.dispatch_demand.proofs.Bare.{sends_bare}
use Rattle.dispatch_demand.proofs.Units.{Serves, demand, demand_more, one_served, all_served}
use Rattle.dispatch_demand.proofs.DemandDispatch.deliver.Goals as goal

pub loop-served-preserved : goal.loop-served-preserved
loop-served-preserved c =
    let serves : Serves (map bare c.args.room.now) c.deref-served-items.result.now =
    subst (λ (l : List Room). Serves (map bare c.args.room.now) l) (sym (c.deref-served-items.ensures.value ∙ c.in_ok-order.ensures))
    (in_turn c.args.room.now _ c.requires c.in_ok-keys.ensures.same c.in_ok-keys.ensures.ordered) in
    record {
      taken = demand_more _ _ _ _ _ _ c.loop-served-test.true c.loop-served.invariant.taken c.min-count.ensures;
      sent = one_served _ _ serves c.args.waiting _ _ _ _ c.loop-served-test.true c.loop-served.invariant.taken c.min-count.ensures _ _ c.loop-served.invariant.sent c.in_ok-send_run.ensures;
    }

pub returns : goal.returns
returns c =
    let serves : Serves (map bare c.args.room.now) c.deref-served-items.result.now =
    subst (λ (l : List Room). Serves (map bare c.args.room.now) l) (sym (c.deref-served-items.ensures.value ∙ c.in_ok-order.ensures))
    (in_turn c.args.room.now _ c.requires c.in_ok-keys.ensures.same c.in_ok-keys.ensures.ordered) in
    let all : take c.loop-served.served-index c.deref-served-items.result.now ≡ c.deref-served-items.result.now = take_all _ _ c.loop-served-test.false in
    let so_far = c.loop-served.invariant.taken ∙ ap (λ (l : List Room). min c.args.waiting (demand l)) all in
    c.from_vec.ensures ∙ c.loop-served.invariant.sent ∙ all_served _ _ serves c.args.waiting _ so_far ∙ sends_bare c.args.room.now _ (enumerate_from 0 (replicate c.args.waiting 0))
