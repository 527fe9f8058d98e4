-- The parts of a test that holds, and which things a test of numbers finds equal.
use Rattle.std.proofs.Common.{◌≡◌, Bool, true, false, refl, sym, ◌∙◌}
use Rattle.std.specs.Prelude.{◌&&◌, ◌==◌, not}
use Rattle.std.proofs.lemmas.Bool.{eqb-true, eq-eqb}
use Rattle.pipe_types.specs.declared.numbers.StageNo.{StageNo}
use Rattle.pipe_types.specs.declared.numbers.SubNo.{SubNo}
use Rattle.pipe_types.specs.Numbers.{same_stage, same_sub}

pub and_left : (a b : Bool) → (a && b) ≡ true → a ≡ true
and_left true b h = refl
and_left false b h = h

pub and_right : (a b : Bool) → (a && b) ≡ true → b ≡ true
and_right true b h = h
and_right false b h = cc

pub both : (a b : Bool) → a ≡ true → b ≡ true → (a && b) ≡ true
both true b p q = q
both false b p q = p

pub not_true : (a : Bool) → not a ≡ true → a ≡ false
not_true true h = cc
not_true false h = refl

-- a test that is true cannot be false
pub clash {ℓ} : {A : Type ℓ} (a : Bool) → a ≡ true → a ≡ false → A
clash a p q = absurd (let e : true ≡ false = sym p ∙ q in cc)

pub same_stage-true : (s t : StageNo) → same_stage s t ≡ true → s ≡ t
same_stage-true s t h = λ i. record { 0 = eqb-true s.0 t.0 h i }

pub same_stage-self : (s : StageNo) → same_stage s s ≡ true
same_stage-self s = eq-eqb s.0 s.0 refl

pub same_stage-flip : (s t : StageNo) → same_stage s t ≡ true → same_stage t s ≡ true
same_stage-flip s t h = eq-eqb t.0 s.0 (sym (eqb-true s.0 t.0 h))

pub same_sub-true : (u v : SubNo) → same_sub u v ≡ true → u ≡ v
same_sub-true u v h =
    let first : u.consumer ≡ v.consumer = same_stage-true u.consumer v.consumer (and_left _ _ h) in
    let rest : (same_stage u.producer v.producer && u.generation == v.generation) ≡ true = and_right (same_stage u.consumer v.consumer) _ h in
    let second : u.producer ≡ v.producer = same_stage-true u.producer v.producer (and_left _ _ rest) in
    let third : u.generation ≡ v.generation = eqb-true u.generation v.generation (and_right (same_stage u.producer v.producer) _ rest) in
    λ i. record { consumer = first i; producer = second i; generation = third i }

pub same_sub-self : (u : SubNo) → same_sub u u ≡ true
same_sub-self u =
    both (same_stage u.consumer u.consumer) _ (same_stage-self u.consumer)
    (both (same_stage u.producer u.producer) _ (same_stage-self u.producer) (eq-eqb u.generation u.generation refl))
