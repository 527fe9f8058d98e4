use Rattle.std.proofs.Common.{◌≡◌, ℕ, ◌∙◌, ap, sym, subst, refl, set, length, true, false, Some, None, Option}
use Rattle.std.specs.Prelude.{slice_get, if◌then◌else◌, ◌==◌, ◌&&◌, IfSome, IsSome}
use Rattle.std.proofs.lemmas.Option.{slice_get_read}
use Rattle.pipe_types.specs.declared.numbers.StageNo.{StageNo}
use Rattle.consumer_sup.specs.Children.{Slots, child_in, after_end}
use Rattle.consumer_sup.specs.declared.Child.{Child}
use Rattle.consumer_sup.specs.declared.ChildEnd.{ChildEnd}
use Rattle.consumer_sup.specs.declared.ChildEnd.TheVariants.{Settled, Again, Lost}
use Rattle.core_state.specs.Stands.{child_at, child_of}
use Rattle.core_children.specs.Slots.{left_in, is_again}
use Rattle.core_children.proofs.Changed.{slot_there, child_changed, slots_kept}
use Rattle.core_children.proofs.slots.end_in.Goals as goal

left_is : (end : ChildEnd) (child : Child) → after_end end child ≡ left_in (is_again end) child
left_is Again child = refl
left_is Settled child = refl
left_is Lost child = refl

pub returns-clause-ended : goal.returns-clause-ended
returns-clause-ended c =
    let held = c.index_mut-held.result.now in
    let at : slice_get c.args.children.now.items c.args.stage.0 ≡ Some held = slice_get_read c.args.children.now.items (length c.args.children.now.items) c.args.stage.0 held refl c.requires.within c.index_mut-held.ensures.value in
    let seen : child_at c.args.children.now.items c.args.stage c.args.slot ≡ child_in held.slots c.args.slot = ap (λ o. child_of o c.args.slot) at in
    by held at seen (child_in held.slots c.args.slot) refl c.ended.ensures.slot
  where
    by : (held : Slots) → slice_get c.args.children.now.items c.args.stage.0 ≡ Some held → child_at c.args.children.now.items c.args.stage c.args.slot ≡ child_in held.slots c.args.slot
        → (o : Option Child) → child_in held.slots c.args.slot ≡ o → IfSome o (λ child. c.ended.new.self ≡ record held { slots = set held.slots c.args.slot (after_end c.ended.result child) })
        → IfSome (child_at c.args.children.now.items c.args.stage c.args.slot) (λ child. (s : StageNo) → (k : ℕ) → child_at (set c.args.children.now.items c.args.stage.0 c.ended.new.self) s k ≡ (if s.0 == c.args.stage.0 && c.args.slot == k then left_in c.is_again.result child else child_at c.args.children.now.items s k))
    by held at seen None e is =
        subst (λ (o : Option Child). IfSome o (λ child. (s : StageNo) → (k : ℕ) → child_at (set c.args.children.now.items c.args.stage.0 c.ended.new.self) s k ≡ (if s.0 == c.args.stage.0 && c.args.slot == k then left_in c.is_again.result child else child_at c.args.children.now.items s k))) (sym (seen ∙ e)) tt
    by held at seen (Some child) e is =
        subst (λ (o : Option Child). IfSome o (λ child. (s : StageNo) → (k : ℕ) → child_at (set c.args.children.now.items c.args.stage.0 c.ended.new.self) s k ≡ (if s.0 == c.args.stage.0 && c.args.slot == k then left_in c.is_again.result child else child_at c.args.children.now.items s k))) (sym (seen ∙ e))
        (λ s k. child_changed c.args.children.now.items c.args.stage held c.ended.new.self c.args.slot (after_end c.ended.result child) c.requires.within at (slot_there held.slots c.args.slot child e) is s k
        ∙ ap (λ (o : Option Child). if s.0 == c.args.stage.0 && c.args.slot == k then o else child_at c.args.children.now.items s k) (left_is c.ended.result child ∙ ap (λ b. left_in b child) (sym c.is_again.ensures)))

pub returns-clause-kept : goal.returns-clause-kept
returns-clause-kept c =
    let held = c.index_mut-held.result.now in
    let at : slice_get c.args.children.now.items c.args.stage.0 ≡ Some held = slice_get_read c.args.children.now.items (length c.args.children.now.items) c.args.stage.0 held refl c.requires.within c.index_mut-held.ensures.value in
    let there : IsSome (child_in held.slots c.args.slot) = subst (λ (o : Option Child). IsSome o) (ap (λ o. child_of o c.args.slot) at) c.requires.there in
    by held at (child_in held.slots c.args.slot) there c.ended.ensures.slot
  where
    by : (held : Slots) → slice_get c.args.children.now.items c.args.stage.0 ≡ Some held → (o : Option Child) → IsSome o → IfSome o (λ child. c.ended.new.self ≡ record held { slots = set held.slots c.args.slot (after_end c.ended.result child) })
        → (s : StageNo) → (new : Slots) → slice_get (set c.args.children.now.items c.args.stage.0 c.ended.new.self) s.0 ≡ Some new → (x : Slots) × (slice_get c.args.children.now.items s.0 ≡ Some x) × (new.mode ≡ x.mode) × (length new.slots ≡ length x.slots)
    by held at None there is = let wrong : false ≡ true = there in cc
    by held at (Some child) there is = slots_kept c.args.children.now.items c.args.stage held c.ended.new.self c.args.slot (after_end c.ended.result child) c.requires.within at is
