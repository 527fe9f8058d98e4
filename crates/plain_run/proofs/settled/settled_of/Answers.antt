use Rattle.std.proofs.Common.{◌≡◌, ℕ, List, Bool, ap, ◌∙◌, filter, subst, sym}
use Rattle.std.specs.Prelude.{◌&&◌}
use Rattle.std.specs.List.Sorted.{IsStrictlyIncreasing}
use Rattle.std.proofs.lemmas.List.Kept.{IsStrictlyIncreasing-filter}
use Rattle.pipe_model.specs.Flow.{among}
use Rattle.settle_laws.proofs.Climbs.{among_filter}
use Rattle.plain_run.specs.Acked.{acked_by}
use Rattle.plain_run.proofs.Settling.{same_among}
use Rattle.plain_run.proofs.settled.settled_of.Goals as goal

pub returns-clause-rises : goal.returns-clause-rises
returns-clause-rises c = subst IsStrictlyIncreasing (sym c.keep_acked.ensures) (IsStrictlyIncreasing-filter _ c.put_in_order.new.numbers.items c.put_in_order.ensures.rises)

pub returns-clause-members : goal.returns-clause-members
returns-clause-members c n =
    let core = c.args.core.now in
    let ordered = c.put_in_order.new.numbers.items in
    let test : ℕ → Bool = acked_by core.places.items core.settled.items c.args.mark in
    let both = c.put_in_order.ensures.members n in
    ap (λ ns. among ns n) (c.keep_acked.ensures ∙ (λ i. filter (acked_by core.places.items (c.deref.ensures.value i) c.args.mark) ordered))
    ∙ (among_filter test ordered n ∙ ap (λ b. test n && b) (same_among c.args.numbers.items ordered n both.0 both.1))
