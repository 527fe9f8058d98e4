use Rattle.std.proofs.Common.{rules, ◌≡◌, ◌+◌, ℕ, List, refl, sym, subst, take, length, arith}
use Rattle.std.specs.List.Sorted.{IsStrictlyIncreasing}
use Rattle.message_ack.specs.declared.verdicts.Ack.{Ack}
use Rattle.message_ack.proofs.AckLaws.{Acknowledges, one_more, all_made}
use Rattle.message_ack.proofs.verdicts.group.Goals as goal

pub loop-producer-preserved : goal.loop-producer-preserved
loop-producer-preserved c =
    subst (λ (acks : List Ack). Acknowledges c.args.verdicts.now acks (take (c.loop-producer.producer-index + 1) c.deref-producer-items.result.now)) (sym c.in_ok-push.ensures.items)
    (one_more c.args.verdicts.now c.loop-producer.items.items c.in_ok-ack_of.field-0 c.deref-producer-items.result.now c.loop-producer.producer-index c.in_ok-ack_of.field-0.producer.0
    c.loop-producer-test.true (search rules) refl c.loop-producer.invariant c.in_ok-ack_of.ensures.numbers)

pub returns : goal.returns
returns c =
    all_made c.args.verdicts.now c.loop-producer.items.items c.deref-producer-items.result.now c.loop-producer.producer-index
    c.loop-producer-test.false c.loop-producer.invariant
    (subst IsStrictlyIncreasing (sym c.deref-producer-items.ensures.value) c.in_ok-producers.ensures.ascending)
    (λ p. rw c.deref-producer-items.ensures.value (c.in_ok-producers.ensures.producers p))
