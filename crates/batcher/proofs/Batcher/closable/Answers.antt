use Rattle.std.proofs.Common.{rules, ◌≡◌, ◌<◌, ◌≤◌, [], ap, sym, subst, ◌∙◌, refl, length, None, All, true, false, arith}
use Rattle.std.specs.Prelude.{option_copied}
use Rattle.std.specs.Map.Iter.{deref_pair}
use Rattle.std.proofs.lemmas.Bool.{true≢false}
use Rattle.std.proofs.lemmas.List.{length-map}
use Rattle.std.proofs.lemmas.List.Elements.{All-nil}
use Rattle.batcher.specs.Batches.{OpenBatch, trigger_of, Batches}
use Rattle.batcher.specs.Seen.{seen, entries_of, batch_of, IsKept}
use Rattle.batcher.proofs.Closing.{found, not_none, more, whole, shown_next, some_next, none_yet}
use Rattle.batcher.proofs.Batcher.closable.Goals as goal

pub returns-then-not-first_has_passed-clause-none : goal.returns-then-not-first_has_passed-clause-none
returns-then-not-first_has_passed-clause-none c =
    let more_comes : c.args.dry ≡ false = search rules in
    let none : c.self.inside.ready ≡ 0 = omega arith in
    let set : c.self.inside.in_order ≡ true = search rules in
    let not_yet : c.first_has_passed.result ≡ false = search rules in (
      λ e. subst (λ dry. All (λ batch. trigger_of c.args.self.now c.args.now dry batch ≡ None) c.args.self.now.batches) (sym more_comes)
          (none_yet c.args.self.now c.args.now c.self.inside.ready c.self.inside.newest c.self.inside.in_order
          (subst (λ (h : Batches). IsKept h.batch_size c.self.inside.ready c.self.inside.in_order c.self.inside.newest h.batches) c.self.view_is c.self.invariant)
          none set (sym c.first_has_passed.ensures ∙ not_yet)),
      λ every. refl,
    )

pub returns-in_default-clause-none : goal.returns-in_default-clause-none
returns-in_default-clause-none c =
    let none = ap (λ (h : Batches). h.batches) (sym c.self.view_is) ∙ ap seen (sym c.map.ensures ∙ ap (λ o. entries_of (option_copied o)) c.in_default.is) in (
      λ e. subst (All (λ batch. trigger_of c.args.self.now c.args.now c.args.dry batch ≡ None)) (sym none) (All-nil (λ (batch : OpenBatch). trigger_of c.args.self.now c.args.now c.args.dry batch ≡ None)),
      λ every. refl,
    )

pub loop-at-init : goal.loop-at-init
loop-at-init c = (
  ap seen (c.iter-entries.ensures.rest ∙ (ap (λ o. entries_of (option_copied o)) (sym c.in-Some.is) ∙ c.map.ensures)) ∙ ap (λ (h : Batches). h.batches) c.self.view_is,
  All-nil (λ (batch : OpenBatch). trigger_of c.args.self.now c.args.now c.args.dry batch ≡ None),
)

pub unwrap-requires : goal.unwrap-requires
unwrap-requires c =
    let are = ap (λ o. entries_of (option_copied o)) (sym c.in-Some.is) ∙ c.map.ensures in
    let len = ap length are in
    let all = length-map c.self.inside.batches batch_of in
    let now = ap (λ (h : Batches). length h.batches) c.self.view_is in
    some_next c.args.self.now.batches c.loop-at.at c.loop-at.entries c.next.new.self c.next.result c.loop-at.invariant.0
    (omega (arith, len, all, now, c.len-at-end.ensures.len, c.loop-at-test.true)) c.next.ensures.steps

pub returns-in-Some-trigger-clause-closable : goal.returns-in-Some-trigger-clause-closable
returns-in-Some-trigger-clause-closable c =
    let here = shown_next c.args.self.now.batches c.loop-at.at c.loop-at.entries c.next.new.self c.next.result c.unwrap.result c.loop-at.invariant.0 c.unwrap.ensures c.next.ensures.steps in
    found c.args.self.now c.args.now c.args.dry c.loop-at.at (deref_pair c.unwrap.result) c.first-first.result c.in-Some-trigger.trigger here.there c.first-first.ensures (sym c.in-Some-trigger.is ∙ c.trigger.ensures)

pub returns-in-Some-trigger-clause-none : goal.returns-in-Some-trigger-clause-none
returns-in-Some-trigger-clause-none c =
    (λ e. absurd (true≢false e), λ none. absurd (not_none c.args.self.now c.args.now c.args.dry _ (returns-in-Some-trigger-clause-closable c) none))

pub loop-at-preserved : goal.loop-at-preserved
loop-at-preserved c =
    let here = shown_next c.args.self.now.batches c.loop-at.at c.loop-at.entries c.next.new.self c.next.result c.unwrap.result c.loop-at.invariant.0 c.unwrap.ensures c.next.ensures.steps in (
      here.rest,
      more (λ batch. trigger_of c.args.self.now c.args.now c.args.dry batch ≡ None) c.args.self.now.batches c.loop-at.at (batch_of (deref_pair c.unwrap.result)) here.there
          (sym c.trigger.ensures ∙ c.in_default-trigger.is) c.loop-at.invariant.1,
    )

pub returns-clause-none : goal.returns-clause-none
returns-clause-none c =
    let are = ap (λ o. entries_of (option_copied o)) (sym c.in-Some.is) ∙ c.map.ensures in
    let len = ap length are in
    let all = length-map c.self.inside.batches batch_of in
    let now = ap (λ (h : Batches). length h.batches) c.self.view_is in (
      λ e. whole (λ batch. trigger_of c.args.self.now c.args.now c.args.dry batch ≡ None) c.args.self.now.batches c.loop-at.at
          (omega (arith, len, all, now, c.len-at-end.ensures.len, c.loop-at-test.false)) c.loop-at.invariant.1,
      λ every. refl,
    )
