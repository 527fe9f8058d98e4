use Rattle.std.proofs.Common.{rules, ◌≡◌, ap, sym, ◌∙◌, subst}
use Rattle.std.proofs.lemmas.List.Sorted.{IsNonDecreasingBy-from_sort_by_key}
use Rattle.message_ack.specs.Groups.{IsAcknowledgement, acknowledgement}
use Rattle.message_ack.proofs.AckLaws.{is_acknowledgement}
use Rattle.message_ack.proofs.verdicts.ack_of.Goals as goal

pub returns-clause-numbers : goal.returns-clause-numbers
returns-clause-numbers c =
    rw (c.from_vec.ensures, c.from_vec-2.ensures)
    (is_acknowledgement c.args.verdicts.now c.args.producer _ _ _ _
    c.in_ok-successful.ensures c.sort_unstable_by_key.ensures.permutation (IsNonDecreasingBy-from_sort_by_key (λ no. no.0) _ c.sort_unstable_by_key.ensures.sorted (λ a r f q. search rules))
    c.in_ok-failed.ensures c.sort_unstable_by_key-2.ensures.permutation (IsNonDecreasingBy-from_sort_by_key (λ no. no.0) _ c.sort_unstable_by_key-2.ensures.sorted (λ a r f q. search rules)))
