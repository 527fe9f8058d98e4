use Rattle.std.proofs.Common.{◌≡◌, ℕ, suc, ◌≤◌, length, ◌∙◌, ap, sym, arith, subst}
use Rattle.std.specs.Prelude.{All, option_map, slice_get}
use Rattle.std.proofs.lemmas.List.Elements.{All-filter}
use Rattle.core_sends.specs.Losing.{still_waits, left_in, numbers_in, over_of, over_from, over_to, between, lost_over_size, marked}
use Rattle.core_sends.proofs.sending.leave.Goals.{After-end_over-to}
use Rattle.core_sends.proofs.sending.leave.Goals as goal

abbrev Within : ℕ → ℕ × ℕ → Type 0
Within count unit = (1 ≤ unit.1) × (unit.1 ≤ count)

pub lose_all-requires-clause-within : goal.lose_all-requires-clause-within
lose_all-requires-clause-within c =
    subst (All (Within (length c.args.places.now.items))) (sym c.keep_waiting.ensures.items) (All-filter (λ unit. still_waits c.args.places.now.items c.args.stage unit.1) (Within (length c.args.places.now.items)) c.args.queue.now.items c.requires.placed)

pub mark_all-requires-clause-within : goal.mark_all-requires-clause-within
mark_all-requires-clause-within c =
    subst (λ n. All (Within n) c.keep_waiting.new.queue.items) (sym c.requires.settled)
    (subst (All (Within (length c.args.places.now.items))) (sym c.keep_waiting.ensures.items) (All-filter (λ unit. still_waits c.args.places.now.items c.args.stage unit.1) (Within (length c.args.places.now.items)) c.args.queue.now.items c.requires.placed))

-- what is lost over the size is what stands between the two places
over : (c : After-end_over-to)
    → between c.first_over-from.result c.end_over-to.result c.keep_waiting.new.queue.items ≡ over_of c.args.size c.args.keep (left_in c.args.places.now.items c.args.stage c.args.queue.now.items)
over c =
    let kept = c.keep_waiting.new.queue.items in
    let left : kept ≡ left_in c.args.places.now.items c.args.stage c.args.queue.now.items = c.keep_waiting.ensures.items in
    let count : c.len-len.result ≡ length kept = omega (arith, c.len-len.ensures) in
    ap (λ n. between n c.end_over-to.result kept) (c.first_over-from.ensures ∙ ap (over_from c.args.size c.args.keep) count)
    ∙ (ap (λ n. between (over_from c.args.size c.args.keep (length kept)) n kept) (c.end_over-to.ensures ∙ ap (over_to c.args.size c.args.keep) count)
    ∙ ap (over_of c.args.size c.args.keep) left)

pub returns-clause-placed : goal.returns-clause-placed
returns-clause-placed c = λ i.
    c.lose_all.ensures.placed i
    ∙ ap (λ us. option_map (lost_over_size (numbers_in us) c.args.stage (suc i)) (slice_get c.args.places.now.items i)) (over (goal.at.returns-clause-placed c).After-end_over-to)

pub returns-clause-marked : goal.returns-clause-marked
returns-clause-marked c = λ i.
    c.mark_all.ensures.marked i
    ∙ ap (λ us. option_map (marked (numbers_in us) c.args.mark (suc i)) (slice_get c.args.settled.now.items i)) (over (goal.at.returns-clause-marked c).After-end_over-to)
