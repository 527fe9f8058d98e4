-- The stages of a sound topology by number.
use Rattle.std.proofs.Common.{◌≡◌, ℕ, zero, suc, ◌+◌, ◌<◌, ◌≤◌, List, [], ◌∷◌, length, Bool, true, false, refl, ap, sym, ◌∙◌, subst, Some, arith, get_or}
use Rattle.std.specs.Prelude.{slice_get, ◌==◌, ◌&&◌, ◌||◌, not, if◌then◌else◌, find, nat_lt, nat_le, is_some}
use Rattle.std.proofs.lemmas.Bool.{eqb-true, ltb-true}
use Rattle.std.proofs.lemmas.Option.{slice_get_read}
use Rattle.pipe_types.specs.declared.numbers.StageNo.{StageNo}
use Rattle.pipe_types.specs.declared.topology.Topology.{Topology}
use Rattle.pipe_types.specs.declared.topology.StageSpec.{StageSpec}
use Rattle.pipe_types.specs.declared.topology.Role.{Role}
use Rattle.pipe_types.specs.declared.topology.Role.TheVariants.{Producer, Processor, Supervisor, Batcher, BatchProcessor}
use Rattle.pipe_types.specs.Numbers.{same_stage}
use Rattle.pipe_types.specs.Stages.{spec_in, spec_of}
use Rattle.pipe_types.specs.Sound.{IsSound, is_ordered, may_begin, may_go_on, may_follow, batchers, has_fields, has_fields_of, is_select_in, asks_up_to, by_demand, by_partition, by_broadcast, processors, batch_processors, is_size, no_batcher, no_demand, never_cancels, is_lines, are_rules, is_reason, is_between}
use Rattle.pipe_laws.proofs.Tests.{and_left, and_right, same_stage-true}
use Rattle.pipe_laws.proofs.Lists.{Each}
use Rattle.pipe_laws.proofs.Sounds.{sound_ascends}
use Rattle.queue_laws.proofs.Sounds.{sound_fields, found_self}
use Rattle.stage_laws.specs.Numbered.{IsNumberedTopology}

go_on_numbers : (n : ℕ) (spec : StageSpec) (specs : List StageSpec) → may_go_on n spec specs ≡ true → (i : ℕ) (x : StageSpec) → slice_get specs i ≡ Some x → x.no.0 ≡ spec.no.0 + suc i
go_on_numbers n spec [] h i x e = cc
go_on_numbers n spec (next ∷ specs) h zero x e =
    let is : next ≡ x = cc in
    let one : next.no.0 ≡ spec.no.0 + 1 = eqb-true next.no.0 (spec.no.0 + 1) (and_left (next.no.0 == spec.no.0 + 1) _ (and_left (may_follow spec next) _ h)) in
    ap (λ y. y.no.0) (sym is) ∙ one
go_on_numbers n spec (next ∷ specs) h (suc i) x e =
    let one : next.no.0 ≡ spec.no.0 + 1 = eqb-true next.no.0 (spec.no.0 + 1) (and_left (next.no.0 == spec.no.0 + 1) _ (and_left (may_follow spec next) _ h)) in
    let rest = go_on_numbers n next specs (and_right (may_follow spec next) _ h) i x e in
    omega arith

ordered_numbers : (specs : List StageSpec) → is_ordered specs ≡ true → (i : ℕ) (x : StageSpec) → slice_get specs i ≡ Some x → x.no.0 ≡ suc i
ordered_numbers [] h i x e = cc
ordered_numbers (spec ∷ specs) h zero x e =
    let is : spec ≡ x = cc in
    ap (λ y. y.no.0) (sym is) ∙ eqb-true spec.no.0 1 (and_left (spec.no.0 == 1) _ (and_left (may_begin spec) _ h))
ordered_numbers (spec ∷ specs) h (suc i) x e =
    let one : spec.no.0 ≡ 1 = eqb-true spec.no.0 1 (and_left (spec.no.0 == 1) _ (and_left (may_begin spec) _ h)) in
    let rest = go_on_numbers (length (batchers (spec ∷ specs))) spec specs (and_right (may_begin spec) _ h) i x e in
    omega arith

each_get : {A : Type 0} (P : A → Type 0) (xs : List A) → Each P xs → (i : ℕ) (x : A) → slice_get xs i ≡ Some x → P x
each_get P [] h i x e = cc
each_get P (y ∷ xs) h zero x e = let is : y ≡ x = cc in subst P is h.0
each_get P (y ∷ xs) h (suc i) x e = each_get P xs h.1 i x e

-- what is found is an element
found_get : (specs : List StageSpec) (s : StageNo) (x : StageSpec) → spec_in specs s ≡ Some x → (i : ℕ) × (slice_get specs i ≡ Some x) × (i < length specs) × (x.no ≡ s)
found_get [] s x e = cc
found_get (y ∷ specs) s x e = either (same_stage y.no s) refl e (found_get specs s x)
  where
    either : (b : Bool) → same_stage y.no s ≡ b → (if b then Some y else find (λ spec. same_stage spec.no s) specs) ≡ Some x
        → (spec_in specs s ≡ Some x → (i : ℕ) × (slice_get specs i ≡ Some x) × (i < length specs) × (x.no ≡ s)) → (i : ℕ) × (slice_get (y ∷ specs) i ≡ Some x) × (i < suc (length specs)) × (x.no ≡ s)
    either true same e rest = let is : y ≡ x = cc in (zero, e, omega arith, ap (λ z. z.no) (sym is) ∙ same_stage-true y.no s same)
    either false other e rest = let found = rest e in (suc found.0, found.1, omega (arith, found.2), found.3)

least_most : (stages : List StageSpec) (spec : StageSpec) → has_fields stages spec ≡ true → spec.min ≤ spec.max
least_most stages spec h = by_role spec.role (ap (λ r. has_fields_of stages r spec) refl ∙ h)
  where
    asks : (most : ℕ) → asks_up_to most spec ≡ true → spec.min ≤ spec.max
    asks most h = let low = ltb-true spec.min spec.max (and_left (nat_lt spec.min spec.max) _ h) in omega arith

    by_role : (role : Role) → has_fields_of stages role spec ≡ true → spec.min ≤ spec.max
    by_role Producer h =
        let second = and_right ((by_demand spec spec.dispatch || (by_partition (length (processors stages)) spec spec.dispatch && nat_le spec.field 255)) && (is_size spec.size && is_some spec.edge)) _ h in
        let demand = and_right (no_batcher spec) _ (and_left (no_batcher spec && no_demand spec) _ second) in
        let none = and_right (never_cancels spec.mode) _ demand in
        let zero_min = eqb-true spec.min 0 (and_left (spec.min == 0) _ none) in omega arith
    by_role Processor h =
        let first = and_left (((spec.batchers == length (batchers stages)) && ((spec.batchers == 0 && by_demand spec spec.dispatch) || (by_partition spec.batchers spec spec.dispatch && spec.field == 0))) && ((nat_lt spec.index 32 && asks_up_to 10000 spec) && (not (is_lines spec.kind) && (are_rules spec.batchers spec.rules && is_reason spec.failed)))) _ h in
        let second = and_right ((spec.batchers == length (batchers stages)) && ((spec.batchers == 0 && by_demand spec spec.dispatch) || (by_partition spec.batchers spec spec.dispatch && spec.field == 0))) _ first in
        asks 10000 (and_right (nat_lt spec.index 32) _ (and_left (nat_lt spec.index 32 && asks_up_to 10000 spec) _ second))
    by_role Supervisor h =
        asks 16 (and_left (asks_up_to 16 spec) _ (and_left (asks_up_to 16 spec && (not (is_lines spec.kind) && (are_rules 0 spec.rules && is_reason spec.failed))) _ h))
    by_role Batcher h =
        let first = and_left ((spec.batcher == spec.index && ((by_demand spec spec.dispatch || by_broadcast spec spec.dispatch) || (by_partition (length (batch_processors spec.index stages)) spec spec.dispatch && spec.field == 0))) && (asks_up_to 10000 spec && (is_between 1 10000 spec.batch_size && is_between 1 3600000 spec.batch_timeout))) _ h in
        let second = and_right (spec.batcher == spec.index && ((by_demand spec spec.dispatch || by_broadcast spec spec.dispatch) || (by_partition (length (batch_processors spec.index stages)) spec spec.dispatch && spec.field == 0))) _ first in
        asks 10000 (and_left (asks_up_to 10000 spec) _ second)
    by_role BatchProcessor h =
        let first = and_left ((nat_lt spec.index 16 && (spec.min == 0 && spec.max == 1)) && ((are_rules 0 spec.rules && is_select_in stages spec) && is_reason spec.failed)) _ h in
        let one = and_right (nat_lt spec.index 16) _ (and_left (nat_lt spec.index 16 && (spec.min == 0 && spec.max == 1)) _ first) in
        let zero_min = eqb-true spec.min 0 (and_left (spec.min == 0) _ one) in omega arith

pub numbered_topology : (topology : Topology) → IsSound topology → IsNumberedTopology topology
numbered_topology topology sound =
    record {
      few = sound.few;
      ordered = λ s spec e. least_most topology.stages spec (sound_fields topology s spec sound e);
      numbers = numbers;
      found = λ i spec e. each_get (λ c. spec_in topology.stages c.no ≡ Some c) topology.stages (found_self 0 topology.stages (sound_ascends topology sound)) i spec e;
      named = λ s spec e. (found_get topology.stages s spec e).3;
      within = λ s spec e.
          let at = found_get topology.stages s spec e in
          let no = numbers at.0 spec at.1 in
          let is = ap (λ (x : StageNo). x.0) at.3 in
          (omega (arith, no, is), omega (arith, no, is, at.2));
    }
  where
    numbers : (i : ℕ) (spec : StageSpec) → slice_get topology.stages i ≡ Some spec → spec.no.0 ≡ suc i
    numbers i spec e = ordered_numbers topology.stages sound.ordered i spec e

-- a stage that is read from the list is its number's
pub stage_there : (topology : Topology) (specs : List StageSpec) (i : ℕ) (spec : StageSpec) → IsSound topology → specs ≡ topology.stages → i < length specs → spec ≡ get_or specs i spec
    → spec_of topology spec.no ≡ Some spec
stage_there topology specs i spec sound is below read =
    let at : slice_get specs i ≡ Some spec = slice_get_read specs (length specs) i spec refl below read in
    (numbered_topology topology sound).found i spec (ap (λ xs. slice_get xs i) (sym is) ∙ at)
