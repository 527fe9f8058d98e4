-- A supervisor of a sound topology has at most 16 slots, and what runs in it is in one of them.
use Rattle.std.proofs.Common.{◌≡◌, ℕ, zero, suc, ◌<◌, ◌≤◌, List, [], ◌∷◌, Bool, true, false, refl, ap, sym, ◌∙◌, Some, None, Option, arith}
use Rattle.std.specs.Prelude.{not, ◌&&◌, ◌||◌, nat_lt}
use Rattle.std.specs.List.{list_any}
use Rattle.std.proofs.lemmas.Bool.{eq-eqb, ltb-true, leb-true}
use Rattle.pipe_types.specs.declared.numbers.StageNo.{StageNo}
use Rattle.pipe_types.specs.declared.topology.Topology.{Topology}
use Rattle.pipe_types.specs.declared.topology.StageSpec.{StageSpec}
use Rattle.pipe_types.specs.declared.topology.Role.{Role}
use Rattle.pipe_types.specs.declared.topology.Role.TheVariants.{Supervisor}
use Rattle.pipe_types.specs.declared.message.Place.TheVariants.{Running}
use Rattle.pipe_types.specs.Stages.{spec_of}
use Rattle.pipe_types.specs.Sound.{IsSound, has_fields_of, asks_up_to, is_supervisor_in, is_lines, are_rules, is_reason}
use Rattle.pipe_model.specs.History.{History}
use Rattle.pipe_model.specs.Posts.{slots, in_slot}
use Rattle.pipe_model.specs.Flow.{place, is_number}
use Rattle.pipe_model.specs.Legal.{is_legal, has_role, max_of, is_supervisor_role}
use Rattle.pipe_laws.proofs.Tests.{clash, and_left, and_right}
use Rattle.pipe_laws.proofs.Lists.{Each}
use Rattle.queue_laws.proofs.Sounds.{sound_fields}
use Rattle.queue_laws.proofs.Children.{InSlot, runs_slot}

pub slot_case : (P : ℕ → Type 0) → Each P slots → (n : ℕ) → n < 16 → P n
slot_case P e zero h = e.0
slot_case P e (suc zero) h = e.1.0
slot_case P e (suc (suc zero)) h = e.1.1.0
slot_case P e (suc (suc (suc zero))) h = e.1.1.1.0
slot_case P e (suc (suc (suc (suc zero)))) h = e.1.1.1.1.0
slot_case P e (suc (suc (suc (suc (suc zero))))) h = e.1.1.1.1.1.0
slot_case P e (suc (suc (suc (suc (suc (suc zero)))))) h = e.1.1.1.1.1.1.0
slot_case P e (suc (suc (suc (suc (suc (suc (suc zero))))))) h = e.1.1.1.1.1.1.1.0
slot_case P e (suc (suc (suc (suc (suc (suc (suc (suc zero)))))))) h = e.1.1.1.1.1.1.1.1.0
slot_case P e (suc (suc (suc (suc (suc (suc (suc (suc (suc zero))))))))) h = e.1.1.1.1.1.1.1.1.1.0
slot_case P e (suc (suc (suc (suc (suc (suc (suc (suc (suc (suc zero)))))))))) h = e.1.1.1.1.1.1.1.1.1.1.0
slot_case P e (suc (suc (suc (suc (suc (suc (suc (suc (suc (suc (suc zero))))))))))) h = e.1.1.1.1.1.1.1.1.1.1.1.0
slot_case P e (suc (suc (suc (suc (suc (suc (suc (suc (suc (suc (suc (suc zero)))))))))))) h = e.1.1.1.1.1.1.1.1.1.1.1.1.0
slot_case P e (suc (suc (suc (suc (suc (suc (suc (suc (suc (suc (suc (suc (suc zero))))))))))))) h = e.1.1.1.1.1.1.1.1.1.1.1.1.1.0
slot_case P e (suc (suc (suc (suc (suc (suc (suc (suc (suc (suc (suc (suc (suc (suc zero)))))))))))))) h = e.1.1.1.1.1.1.1.1.1.1.1.1.1.1.0
slot_case P e (suc (suc (suc (suc (suc (suc (suc (suc (suc (suc (suc (suc (suc (suc (suc zero))))))))))))))) h = e.1.1.1.1.1.1.1.1.1.1.1.1.1.1.1.0
slot_case P e (suc (suc (suc (suc (suc (suc (suc (suc (suc (suc (suc (suc (suc (suc (suc (suc n)))))))))))))))) h = absurd (omega arith)

pub or_first : (a b : Bool) → (a || b) ≡ false → a ≡ false
or_first true b h = h
or_first false b h = refl

pub or_last : (a b : Bool) → (a || b) ≡ false → b ≡ false
or_last true b h = cc
or_last false b h = h

pub none_any : {A : Type 0} (test : A → Bool) (xs : List A) → list_any test xs ≡ false → Each (λ x. test x ≡ false) xs
none_any test [] e = tt
none_any test (x ∷ xs) e = (or_first (test x) (list_any test xs) e, none_any test xs (or_last (test x) (list_any test xs) e))

pub record Children (spec : StageSpec) : Type 0 where
  pub some : 1 ≤ spec.max
  pub few : spec.max ≤ 16

pub children : (topology : Topology) (s : StageNo) (spec : StageSpec) → IsSound topology → spec_of topology s ≡ Some spec → spec.role ≡ Supervisor → Children spec
children topology s spec sound e is =
    let fields : is_supervisor_in spec ≡ true = sym (ap (λ r. has_fields_of topology.stages r spec) is) ∙ sound_fields topology s spec sound e in
    let asks : asks_up_to 16 spec ≡ true = and_left (asks_up_to 16 spec) _ (and_left (asks_up_to 16 spec && (not (is_lines spec.kind) && (are_rules 0 spec.rules && is_reason spec.failed))) _ fields) in
    let low : spec.min < spec.max = ltb-true spec.min spec.max (and_left (nat_lt spec.min spec.max) _ asks) in
    record { some = omega arith; few = leb-true spec.max 16 (and_right (nat_lt spec.min spec.max) _ asks) }

-- the message is in one of the first slots
pub slot_there : (topology : Topology) (before : History) (s : StageNo) (n : ℕ) → IsSound topology → is_legal topology before ≡ true → has_role topology s is_supervisor_role ≡ true → place topology before n ≡ Some (Running s) → list_any (λ slot. is_number (in_slot before s slot) n) slots ≡ true
slot_there topology before s n sound h role e = either (list_any (λ slot. is_number (in_slot before s slot) n) slots) refl
  where
    at : InSlot topology before s n
    at = runs_slot topology before s n h role e

    by_role : (spec : StageSpec) (r : Role) → spec.role ≡ r → is_supervisor_role r ≡ true → spec.role ≡ Supervisor
    by_role spec Supervisor is h = is
    by_role spec _ is h = let x : false ≡ true = h in cc

    few : (o : Option StageSpec) → spec_of topology s ≡ o → max_of (spec_of topology s) ≤ 16
    few None is = let none : has_role topology s is_supervisor_role ≡ false = rw is refl in clash (has_role topology s is_supervisor_role) role none
    few (Some spec) is =
        let same : has_role topology s is_supervisor_role ≡ is_supervisor_role spec.role = rw is refl in
        let most : spec.max ≤ 16 = (children topology s spec sound is (by_role spec spec.role refl (sym same ∙ role))).few in
        rw is most

    either : (b : Bool) → list_any (λ slot. is_number (in_slot before s slot) n) slots ≡ b → list_any (λ slot. is_number (in_slot before s slot) n) slots ≡ true
    either true t = t
    either false t =
        let low : at.slot < 16 = omega (arith, at.below, few (spec_of topology s) refl) in
        let off : is_number (in_slot before s at.slot) n ≡ false = slot_case (λ slot. is_number (in_slot before s slot) n ≡ false) (none_any (λ slot. is_number (in_slot before s slot) n) slots t) at.slot low in
        let on : is_number (in_slot before s at.slot) n ≡ true = rw at.is (eq-eqb n n refl) in
        clash (is_number (in_slot before s at.slot) n) on off
