use Rattle.std.proofs.Common.{[], ◌∷◌, length, map, ap, ◌∙◌, arith, length-append}
use Rattle.stage_buffer.specs.Order.{pair_of}
use Rattle.stage_buffer.proofs.Empty.{none_empty, one_more, empty_ordered}
use Rattle.stage_buffer.proofs.Buffer.new.Goals as goal

pub loop-part-init : goal.loop-part-init
loop-part-init g c = record { empty = none_empty c.in_ok-rings.rings.items c.in_ok-rings.ensures.items; made = ap length c.in_ok-rings.ensures.items }

pub loop-part-preserved : goal.loop-part-preserved
loop-part-preserved g c =
    record {
      empty = one_more c.loop-part.rings.items c.push.new.self.items c.in_ok-ring.ring c.in_ok-push.ensures.items (ap (λ b. b.items) c.in_ok-ring.ensures) c.loop-part.invariant.empty;
      made = ap length c.in_ok-push.ensures.items ∙ (let made = c.loop-part.invariant.made in omega (arith, length-append c.loop-part.rings.items (c.in_ok-ring.ring ∷ [])));
    }

pub invariant_of-result : goal.invariant_of-result
invariant_of-result g c = empty_ordered c.loop-part.rings.items (let made = c.loop-part.invariant.made in omega arith) c.loop-part.invariant.empty

pub returns-clause-empty : goal.returns-clause-empty
returns-clause-empty g c = ap (map pair_of) (c.loop-part.invariant.empty.order 0)

pub returns-clause-parts : goal.returns-clause-parts
returns-clause-parts g c = let made = c.loop-part.invariant.made in omega arith
