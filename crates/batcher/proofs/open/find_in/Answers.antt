use Rattle.std.proofs.Common.{◌≡◌, List, [], ◌∷◌, Bool, true, cond, Some, sym, ap, ◌∙◌, bytes_eq, slice_get}
use Rattle.std.specs.Map.{lookup}
use Rattle.std.proofs.lemmas.Option.{same_Some}
use Rattle.batcher.proofs.open.find_in.Goals as goal

-- the first entry, where its key passes
first_found : {K X : Type 0} (test : K → Bool) (es : List (K × X)) (k : K) (x : X) → Some (k, x) ≡ slice_get es 0 → test k ≡ true → Some x ≡ lookup test es
first_found test [] k x is passes = let none : ⊥ = cc in absurd none
first_found {K} {X} test (e ∷ es) k x is passes =
    let same : (k, x) ≡ e = same_Some (k, x) e is in
    ap (λ (p : K × X). Some p.1) same
    ∙ sym (ap (λ (b : Bool). cond b (Some e.1) (lookup test es)) (ap (λ (p : K × X). test p.0) (sym same) ∙ passes))

pub returns-then-is_same : goal.returns-then-is_same
returns-then-is_same c =
    first_found (λ k. bytes_eq c.args.key.now k.items) c.args.batches.now.entries c.in-Some.first.now c.in-Some.messages.now c.in-Some.ensures
    (ap (bytes_eq c.args.key.now) (sym c.as_slice.ensures.value) ∙ sym c.is_same.ensures ∙ c.if-is_same.true)
