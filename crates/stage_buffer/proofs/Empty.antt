-- Rings that hold nothing.
use Rattle.std.proofs.Common.{◌≡◌, ℕ, zero, suc, ◌^◌, ◌<◌, List, [], ◌∷◌, ◌++◌, length, map, refl, ap, ◌∙◌, sym, subst}
use Rattle.circular_buffer.specs.Buffer.{Buffer}
use Rattle.stage_buffer.specs.declared.Arrived.{Arrived}
use Rattle.stage_buffer.specs.Order.{Entry, entry, insert_all, in_order, items_at, AreBelow, Orders, IsOrdered}

module _ {X : Type 0} where
  pub record AreEmpty (rings : List (Buffer (Arrived X))) : Type 0 where
    pub order : (k : ℕ) → in_order k rings ≡ []
    pub items : (p : ℕ) → items_at rings p ≡ []

  pub none_empty : (rings : List (Buffer (Arrived X))) → rings ≡ [] → AreEmpty rings
  none_empty [] h = record { order = λ k. refl; items = λ p. refl }
  none_empty (r ∷ rings) h = absurd (cc)

  pub one_more : (rings new : List (Buffer (Arrived X))) (ring : Buffer (Arrived X)) → new ≡ rings ++ ring ∷ [] → ring.items ≡ [] → AreEmpty rings → AreEmpty new
  one_more rings new ring is none empty =
      record {
        order = λ k. ap (in_order k) is ∙ same_order rings k ∙ empty.order k;
        items = λ p. ap (λ (rs : List (Buffer (Arrived X))). items_at rs p) is ∙ same_items rings p (empty.items p);
      }
    where
      same_order : (rings : List (Buffer (Arrived X))) (k : ℕ) → in_order k (rings ++ ring ∷ []) ≡ in_order k rings
      same_order [] k = ap (λ (xs : List (Arrived X)). insert_all k xs []) none
      same_order (r ∷ rings) k = ap (insert_all k r.items) (same_order rings (suc k))

      same_items : (rings : List (Buffer (Arrived X))) (p : ℕ) → items_at rings p ≡ [] → items_at (rings ++ ring ∷ []) p ≡ []
      same_items [] zero h = none
      same_items [] (suc p) h = refl
      same_items (r ∷ rings) zero h = h
      same_items (r ∷ rings) (suc p) h = same_items rings p h

  pub empty_ordered : (rings : List (Buffer (Arrived X))) → length rings < 2 ^ 32 → AreEmpty rings → IsOrdered rings 0 0
  empty_ordered rings few empty =
      record {
        few = few;
        orders = subst (λ (es : List (Entry X)). Orders rings es) (sym (empty.order 0)) (record { ascending = tt; parted = λ p. sym (ap (map (entry p)) (empty.items p)) });
        below = subst (λ (es : List (Entry X)). AreBelow 0 es) (sym (empty.order 0)) tt;
        counted = ap length (empty.order 0);
      }
