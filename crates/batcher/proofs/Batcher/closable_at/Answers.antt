use Rattle.std.proofs.Common.{◌≡◌, ◌<◌, ◌≤◌, [], ap, sym, subst, ◌∙◌, refl, length, None, All, arith}
use Rattle.std.specs.Prelude.{option_copied}
use Rattle.std.specs.Map.Iter.{deref_pair}
use Rattle.std.proofs.lemmas.Bool.{true≢false}
use Rattle.std.proofs.lemmas.List.{length-map}
use Rattle.std.proofs.lemmas.List.Elements.{All-nil}
use Rattle.batcher.specs.Batches.{OpenBatch, trigger_of, first_of, Batches}
use Rattle.batcher.specs.Seen.{seen, entries_of, batch_of}
use Rattle.batcher.proofs.Closing.{found, not_none_at, more, whole, shown_next, some_next}
use Rattle.batcher.proofs.Batcher.closable_at.Goals as goal

pub returns-in_default-clause-none : goal.returns-in_default-clause-none
returns-in_default-clause-none c =
    let none = ap (λ (h : Batches). h.batches) (sym c.self.view_is) ∙ ap seen (sym c.map.ensures ∙ ap (λ o. entries_of (option_copied o)) c.in_default.is) in (
      λ e. subst (All (λ batch. first_of batch ≡ c.args.first.0 → trigger_of c.args.self.now c.args.now c.args.dry batch ≡ None)) (sym none) (All-nil (λ (batch : OpenBatch). first_of batch ≡ c.args.first.0 → trigger_of c.args.self.now c.args.now c.args.dry batch ≡ None)),
      λ every. refl,
    )

pub loop-at-init : goal.loop-at-init
loop-at-init c = (
  ap seen (c.iter-entries.ensures.rest ∙ (ap (λ o. entries_of (option_copied o)) (sym c.in-Some.is) ∙ c.map.ensures)) ∙ ap (λ (h : Batches). h.batches) c.self.view_is,
  All-nil (λ (batch : OpenBatch). first_of batch ≡ c.args.first.0 → trigger_of c.args.self.now c.args.now c.args.dry batch ≡ None),
)

pub unwrap-requires : goal.unwrap-requires
unwrap-requires c =
    let are = ap (λ o. entries_of (option_copied o)) (sym c.in-Some.is) ∙ c.map.ensures in
    let len = ap length are in
    let all = length-map c.self.inside.batches batch_of in
    let now = ap (λ (h : Batches). length h.batches) c.self.view_is in
    some_next c.args.self.now.batches c.loop-at.at c.loop-at.entries c.next.new.self c.next.result c.loop-at.invariant.0
    (omega (arith, len, all, now, c.len-at-end.ensures.len, c.loop-at-test.true)) c.next.ensures.steps

pub returns-in-Some-trigger_at-clause-closable : goal.returns-in-Some-trigger_at-clause-closable
returns-in-Some-trigger_at-clause-closable c =
    let here = shown_next c.args.self.now.batches c.loop-at.at c.loop-at.entries c.next.new.self c.next.result c.unwrap.result c.loop-at.invariant.0 c.unwrap.ensures c.next.ensures.steps in
    found c.args.self.now c.args.now c.args.dry c.loop-at.at (deref_pair c.unwrap.result) c.args.first c.in-Some-trigger_at.trigger here.there (sym c.in-Some-trigger_at.ensures.begins) (sym c.in-Some-trigger_at.ensures.trigger)

pub returns-in-Some-trigger_at-clause-none : goal.returns-in-Some-trigger_at-clause-none
returns-in-Some-trigger_at-clause-none c =
    (λ e. absurd (true≢false e), λ none. absurd (not_none_at c.args.self.now c.args.now c.args.dry _ c.args.first (returns-in-Some-trigger_at-clause-closable c) refl none))

pub loop-at-preserved : goal.loop-at-preserved
loop-at-preserved c =
    let here = shown_next c.args.self.now.batches c.loop-at.at c.loop-at.entries c.next.new.self c.next.result c.unwrap.result c.loop-at.invariant.0 c.unwrap.ensures c.next.ensures.steps in (
      here.rest,
      more (λ batch. first_of batch ≡ c.args.first.0 → trigger_of c.args.self.now c.args.now c.args.dry batch ≡ None) c.args.self.now.batches c.loop-at.at (batch_of (deref_pair c.unwrap.result)) here.there
          c.in_default-trigger_at.ensures.none c.loop-at.invariant.1,
    )

pub returns-clause-none : goal.returns-clause-none
returns-clause-none c =
    let are = ap (λ o. entries_of (option_copied o)) (sym c.in-Some.is) ∙ c.map.ensures in
    let len = ap length are in
    let all = length-map c.self.inside.batches batch_of in
    let now = ap (λ (h : Batches). length h.batches) c.self.view_is in (
      λ e. whole (λ batch. first_of batch ≡ c.args.first.0 → trigger_of c.args.self.now c.args.now c.args.dry batch ≡ None) c.args.self.now.batches c.loop-at.at
          (omega (arith, len, all, now, c.len-at-end.ensures.len, c.loop-at-test.false)) c.loop-at.invariant.1,
      λ every. refl,
    )
