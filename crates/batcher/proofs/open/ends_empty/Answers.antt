use Rattle.std.proofs.Common.{rules, ◌≡◌, ◌∙◌, ap, sym, not, length, Some, None, Vec, Global, ℕ, arith}
use Rattle.std.specs.Prelude.{nat_lt, unwrap_or, option_map, is_some}
use Rattle.std.specs.Map.Iter.{deref_pair}
use Rattle.std.proofs.lemmas.Bool.{true≢false}
use Rattle.batcher.specs.declared.messages.Messages.{Messages}
use Rattle.batcher.proofs.Leaving.{last_entry}
use Rattle.batcher.proofs.open.ends_empty.Goals as goal

pub returns-in-Some : goal.returns-in-Some
returns-in-Some c front last e =
    let is : c.in-Some.messages.now ≡ last.1 =
    ap (λ o. (unwrap_or o last).1) (sym (ap (option_map deref_pair) c.in-Some.is) ∙ (c.peek_lru.ensures ∙ last_entry c.args.batches.now.entries front last e)) in
    let none : c.is_empty.result ≡ not (nat_lt 0 (length c.in-Some.messages.now.numbers.items)) = search rules in
    none ∙ ap (λ (m : Messages). not (nat_lt 0 (length m.numbers.items))) is

pub returns-in-None : goal.returns-in-None
returns-in-None c front last e =
    absurd (true≢false (ap is_some (sym (sym (ap (option_map deref_pair) c.in-None.is) ∙ (c.peek_lru.ensures ∙ last_entry c.args.batches.now.entries front last e)))))
