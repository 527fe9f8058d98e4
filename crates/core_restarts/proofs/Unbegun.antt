-- On a generation of a pair that has not begun nothing was asked, sent or handled; and generations have room.
use Rattle.std.proofs.Common.{◌≡◌, ℕ, ◌+◌, ◌*◌, ◌-◌, ◌^◌, ◌<◌, ◌≤◌, [], ◌∷◌, length, Bool, true, false, refl, ap, sym, ◌∙◌, subst, arith}
use Rattle.std.specs.Prelude.{if◌then◌else◌, nat_le}
use Rattle.std.proofs.Math.Nat.{mul-le-mul_right}
use Rattle.std.proofs.lemmas.Bool.{eqb-true}
use Rattle.pipe_types.specs.declared.numbers.StageNo.{StageNo}
use Rattle.pipe_types.specs.declared.numbers.SubNo.{SubNo}
use Rattle.pipe_types.specs.declared.topology.Topology.{Topology}
use Rattle.pipe_types.specs.declared.step.Step.{Step}
use Rattle.pipe_types.specs.declared.step.Step.TheVariants.{Ask}
use Rattle.pipe_types.specs.Numbers.{same_sub, subscription}
use Rattle.pipe_types.specs.Sound.{IsSound}
use Rattle.pipe_model.specs.History.{History, incarnation, asked, asked_after}
use Rattle.pipe_model.specs.Lives.{generation, is_live, one_more, renews}
use Rattle.pipe_model.specs.Flow.{sent}
use Rattle.pipe_model.specs.Ledger.{due, handled}
use Rattle.pipe_model.specs.Legal.{is_legal, allows}
use Rattle.pipe_laws.proofs.Tests.{and_right, same_sub-true}
use Rattle.pipe_laws.proofs.Allowed.{legal_before, legal_step, unowed}
use Rattle.pipe_laws.proofs.Demand.{sent_within}
use Rattle.pipe_laws.proofs.Handled.{handled_within}
use Rattle.pipe_laws.proofs.Sounds.{sound_ascends}
use Rattle.stage_laws.proofs.Records.{limit_within}
use Rattle.count_laws.proofs.Bounds.{generations_within}
use Rattle.work_laws.specs.Limits.{most_lives}
use Rattle.work_laws.proofs.Lives.{lives_few}
use Rattle.core_state.proofs.Asking.{asking, sub_is}

-- a pair keeps its generation or takes the next one
generation_grows : (topology : Topology) (before : History) (step : Step) (c p : StageNo) → generation topology before c p ≤ generation topology (step ∷ before) c p
generation_grows topology before step c p = by (renews (is_live topology before) step c p)
  where
    by : (b : Bool) → generation topology before c p ≤ one_more b (generation topology before c p)
    by true = omega arith
    by false = omega arith

-- an ask is of the pair's present generation
asked_now : (topology : Topology) (before : History) (u : SubNo) (n : ℕ) → allows topology before (Ask u n) ≡ true → u.generation ≡ generation topology before u.consumer u.producer
asked_now topology before u n h =
    let is : n ≡ due topology before u = eqb-true n (due topology before u) (and_right (nat_le 1 n) _ (unowed topology before (Ask u n) (λ s. refl) (λ s. refl) h)) in
    let live = (asking topology before u (ap (λ m. allows topology before (Ask u m)) (sym is) ∙ h)).live in
    ap (λ (v : SubNo). v.generation) (sub_is topology before u live)

pub unasked : (topology : Topology) (before : History) (c p : StageNo) (g : ℕ) → is_legal topology before ≡ true → generation topology before c p < g → asked before (subscription c p g) ≡ 0
unasked topology [] c p g h far = refl
unasked topology (step ∷ before) c p g h far =
    by_step step (legal_step topology before step h) far
    (unasked topology before c p g (legal_before topology before step h) (omega (arith, far, generation_grows topology before step c p)))
  where
    by_step : (step : Step) → allows topology before step ≡ true → generation topology (step ∷ before) c p < g → asked before (subscription c p g) ≡ 0 → asked_after step (subscription c p g) (asked before (subscription c p g)) ≡ 0
    by_step (Ask u n) l far old = either (same_sub u (subscription c p g)) refl
      where
        either : (b : Bool) → same_sub u (subscription c p g) ≡ b → (if b then asked before (subscription c p g) + n else asked before (subscription c p g)) ≡ 0
        either true same =
            let is : u ≡ subscription c p g = same_sub-true u (subscription c p g) same in
            let now : g ≡ generation topology before c p = subst (λ (v : SubNo). v.generation ≡ generation topology before v.consumer v.producer) is (asked_now topology before u n l) in
            absurd (omega (arith, now, far))
        either false other = old
    by_step _ l far old = old

pub unsent : (topology : Topology) (before : History) (c p : StageNo) (g : ℕ) → IsSound topology → is_legal topology before ≡ true → generation topology before c p < g → sent topology before (subscription c p g) ≡ 0
unsent topology before c p g sound h far = omega (arith, unasked topology before c p g h far, sent_within topology before (subscription c p g) (sound_ascends topology sound))

pub unhandled : (topology : Topology) (before : History) (c p : StageNo) (g : ℕ) → IsSound topology → is_legal topology before ≡ true → generation topology before c p < g → handled topology before (subscription c p g) ≡ 0
unhandled topology before c p g sound h far = omega (arith, unsent topology before c p g sound h far, handled_within topology before (subscription c p g) h)

-- Room for one more

few_takes : (stages limit : ℕ) → stages ≤ 64 → limit ≤ 2000000 → stages * (limit + 1) ≤ 128000064
few_takes stages limit few small = omega (arith, mul-le-mul_right (limit + 1) few)

lives_small : (topology : Topology) → IsSound topology → most_lives topology ≤ 130010066
lives_small topology sound = omega (arith, few_takes (length topology.stages) topology.record_limit sound.few (limit_within topology sound))

pub incarnation_room : (topology : Topology) (before : History) (s : StageNo) → IsSound topology → is_legal topology before ≡ true → incarnation before s < 2 ^ 32 - 1
incarnation_room topology before s sound h = omega (arith, lives_few topology before s sound h, lives_small topology sound)

pub generation_room : (topology : Topology) (before : History) (c p : StageNo) → IsSound topology → is_legal topology before ≡ true → generation topology before c p < 2 ^ 32 - 1
generation_room topology before c p sound h =
    omega (arith, generations_within topology before c p, lives_few topology before c sound h, lives_few topology before p sound h, lives_small topology sound)
