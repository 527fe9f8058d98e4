-- Fetches and takes by their rows.
use Rattle.std.proofs.Common.{◌≡◌, ℕ, ◌+◌, ◌-◌, ◌<◌, ◌≤◌, List, [], ◌∷◌, length, drop, min, refl, ap, sym, Bool, true, false, None, Some, ◌∙◌, arith, get_or}
use Rattle.std.specs.Prelude.{map, filter, ◌&&◌, ◌||◌, not, ◌==◌, if◌then◌else◌, nat_lt, nat_le}
use Rattle.std.proofs.lemmas.Bool.Decides.{nat_tests}
use Rattle.std.proofs.lemmas.List.{at_drop_more}
use Rattle.pipe_types.specs.declared.numbers.StageNo.{StageNo}
use Rattle.pipe_types.specs.declared.numbers.SubNo.{SubNo}
use Rattle.pipe_types.specs.declared.topology.Topology.{Topology}
use Rattle.pipe_types.specs.declared.topology.StageSpec.{StageSpec}
use Rattle.pipe_types.specs.declared.topology.Role.{Role}
use Rattle.pipe_types.specs.declared.step.Step.{Step}
use Rattle.pipe_types.specs.declared.step.Step.TheVariants.{Fetch, Take}
use Rattle.pipe_types.specs.Numbers.{post, same_sub}
use Rattle.pipe_types.specs.Stages.{spec_of}
use Rattle.pipe_model.specs.History.{History, accepted_bytes}
use Rattle.pipe_model.specs.Posts.{is_out}
use Rattle.pipe_model.specs.Lives.{is_live}
use Rattle.pipe_model.specs.Flow.{is_empty, inbox, units_on}
use Rattle.pipe_model.specs.Legal.{allows, may_come, owed, passes, bound, fetch_out, fetches_out, has_ended, rests, happened, is_drain, is_halt, is_producer_role, takes_role, has_room, has_role, feeds_batchers, chunk_size, first_sub, is_late}
use Rattle.pipe_model.specs.Moves.{first_take}
use Rattle.pipe_laws.proofs.Tests.{same_sub-self}
use Rattle.core_laws.specs.Columns.{last_fetch}
use Rattle.core_laws.proofs.Bounds.{fetch_out_is}
use Rattle.core_rows.specs.Jobs.{may_fetch_now, may_take_now}

pub fetch_by : (before : History) (s : StageNo) (b : Bool) → is_out before (post s 0) ≡ b → (if b then last_fetch before s else 0) ≡ fetch_out before s
fetch_by before s b e = ap (λ c. if c then last_fetch before s else 0) (sym e) ∙ sym (fetch_out_is before s)

-- the fetches of these stages together
abbrev pub out_among : History → List StageSpec → ℕ
out_among before [] = 0
out_among before (spec ∷ specs) = if is_producer_role spec.role then fetch_out before spec.no + out_among before specs else out_among before specs

pub out_is : (topology : Topology) (before : History) → out_among before topology.stages ≡ fetches_out topology before
out_is topology before = refl

pub out_more : (before : History) (specs : List StageSpec) (i : ℕ) (spec : StageSpec) → i < length specs → spec ≡ get_or specs i spec
    → out_among before (drop i specs) ≡ (if is_producer_role spec.role then fetch_out before spec.no else 0) + out_among before (drop (i + 1) specs)
out_more before specs i spec below is =
    at_drop_more (out_among before) specs i spec below
    ∙ (ap (λ (q : StageSpec). out_among before (q ∷ drop (i + 1) specs)) (sym is) ∙ by (is_producer_role spec.role) (fetch_out before spec.no) (out_among before (drop (i + 1) specs)))
  where
    by : (b : Bool) (n rest : ℕ) → (if b then n + rest else rest) ≡ (if b then n else 0) + rest
    by true n rest = refl
    by false n rest = omega arith

-- a step that may come is allowed where nothing is owed and the pipeline goes on
pub going : (topology : Topology) (before : History) (step : Step) → owed topology before ≡ None → happened is_halt before ≡ false → may_come topology before step ≡ allows topology before step
going topology before step free goes =
    sym (ap (λ b. (not b || is_late step) && passes (owed topology before) step (may_come topology before step)) goes
    ∙ ap (λ o. passes o step (may_come topology before step)) free)

pub self : (n : ℕ) → (n == n) ≡ true
self n = grind (arith, nat_tests)

pub role_is : (topology : Topology) (spec : StageSpec) (test : Role → Bool) → spec_of topology spec.no ≡ Some spec → has_role topology spec.no test ≡ test spec.role
role_is topology spec test there = rw there refl

-- a fetch of as many records as it may bring
pub fetch_now : (topology : Topology) (before : History) (spec : StageSpec) → spec_of topology spec.no ≡ Some spec
    → may_fetch_now topology before spec ≡ may_come topology before (Fetch spec.no (bound topology before spec.no))
fetch_now topology before spec there =
    by (is_live topology before spec.no) (is_producer_role spec.role) (not (has_ended before spec.no)) (not (is_out before (post spec.no 0))) (not (rests before spec.no)) (not (happened is_drain before))
    (nat_lt (accepted_bytes before) topology.byte_limit) (nat_le 1 (bound topology before spec.no)) (bound topology before spec.no == bound topology before spec.no) (has_role topology spec.no is_producer_role)
    (self (bound topology before spec.no)) (role_is topology spec is_producer_role there)
  where
    by : (l r e o q d y w s h : Bool) → s ≡ true → h ≡ r → (l && (r && ((e && (o && q)) && ((d && y) && w)))) ≡ (l && (h && (e && (o && (q && (d && (y && (w && s))))))))
    by false r e o q d y w s h k i = refl
    by true false e o q d y w s h k i = ap (λ x. x && (e && (o && (q && (d && (y && (w && s))))))) (sym i)
    by true true false o q d y w s h k i = both_ways h i
      where
        both_ways : (h : Bool) → h ≡ true → false ≡ (h && false)
        both_ways true i = refl
        both_ways false i = refl
    by true true true false q d y w s h k i = both_ways h i
      where
        both_ways : (h : Bool) → h ≡ true → false ≡ (h && false)
        both_ways true i = refl
        both_ways false i = refl
    by true true true true false d y w s h k i = both_ways h i
      where
        both_ways : (h : Bool) → h ≡ true → false ≡ (h && false)
        both_ways true i = refl
        both_ways false i = refl
    by true true true true true d y w s h k i = last d y w
      where
        last : (d y w : Bool) → ((d && y) && w) ≡ (h && (d && (y && (w && s))))
        last d y w = chain d y w ∙ (ap (λ x. d && (y && (w && x))) (sym k) ∙ ap (λ x. x && (d && (y && (w && s)))) (sym i))
          where
            chain : (d y w : Bool) → ((d && y) && w) ≡ (d && (y && (w && true)))
            chain false y w = refl
            chain true false w = refl
            chain true true false = refl
            chain true true true = refl

some_on : (d : SubNo × ℕ) (units : List (SubNo × ℕ)) → 1 ≤ length (units_on d.0 (d ∷ units))
some_on d units = by (same_sub d.0 d.0) (same_sub-self d.0)
  where
    by : (b : Bool) → b ≡ true → 1 ≤ length (map (λ (x : SubNo × ℕ). x.1) (if b then d ∷ filter (λ (x : SubNo × ℕ). same_sub x.0 d.0) units else filter (λ (x : SubNo × ℕ). same_sub x.0 d.0) units))
    by true h = omega arith
    by false h = cc

wide : (least most n : ℕ) → 1 ≤ n → nat_le 1 (min (most - least) n) ≡ nat_lt least most
wide least most n some = grind (arith, nat_tests)

-- a take of what stands first
pub take_now : (topology : Topology) (before : History) (spec : StageSpec) → spec_of topology spec.no ≡ Some spec → owed topology before ≡ None → happened is_halt before ≡ false
    → may_take_now topology before spec ≡ first_take topology before spec (inbox topology before spec.no)
take_now topology before spec there free goes = by_units (inbox topology before spec.no) refl
  where
    none : (l r o w p : Bool) → (l && (r && (o && ((false && w) && p)))) ≡ false
    none false r o w p = refl
    none true false o w p = refl
    none true true false w p = refl
    none true true true w p = refl

    some : (l r o w p h f k e q : Bool) → h ≡ r → f ≡ true → k ≡ w → e ≡ true → q ≡ p → (l && (r && (o && ((true && w) && p)))) ≡ (l && (h && (o && (f && (k && (e && q))))))
    some l r o w p h f k e q hh hf hk he hq =
        ap (λ x. l && (x && (o && (true && (w && (true && p)))))) (sym hh)
        ∙ (ap (λ x. l && (h && (o && (x && (w && (true && p)))))) (sym hf) ∙ (ap (λ x. l && (h && (o && (f && (x && (true && p)))))) (sym hk)
        ∙ (ap (λ x. l && (h && (o && (f && (k && (x && p)))))) (sym he) ∙ ap (λ x. l && (h && (o && (f && (k && (e && x)))))) (sym hq))))

    by_units : (units : List (SubNo × ℕ)) → inbox topology before spec.no ≡ units
        → may_take_now topology before spec ≡ first_take topology before spec (inbox topology before spec.no)
    by_units [] e =
        ap (λ xs. is_live topology before spec.no && (takes_role spec.role && (not (is_out before (post spec.no 0)) && ((not (is_empty xs) && nat_lt spec.min spec.max) && (not (nat_lt 0 spec.batchers) || has_room topology before spec.no))))) e
        ∙ (none (is_live topology before spec.no) (takes_role spec.role) (not (is_out before (post spec.no 0))) (nat_lt spec.min spec.max) (not (nat_lt 0 spec.batchers) || has_room topology before spec.no)
        ∙ ap (first_take topology before spec) (sym e))
    by_units (d ∷ units) e =
        let k : ℕ = chunk_size (Some spec) (length (units_on d.0 (d ∷ units))) in
        let size : chunk_size (spec_of topology spec.no) (length (units_on d.0 (inbox topology before spec.no))) ≡ k =
        ap (λ o. chunk_size o (length (units_on d.0 (inbox topology before spec.no)))) there ∙ ap (λ xs. chunk_size (Some spec) (length (units_on d.0 xs))) e in
        ap (λ xs. is_live topology before spec.no && (takes_role spec.role && (not (is_out before (post spec.no 0)) && ((not (is_empty xs) && nat_lt spec.min spec.max) && (not (nat_lt 0 spec.batchers) || has_room topology before spec.no))))) e
        ∙ (some (is_live topology before spec.no) (takes_role spec.role) (not (is_out before (post spec.no 0))) (nat_lt spec.min spec.max) (not (nat_lt 0 spec.batchers) || has_room topology before spec.no)
        (has_role topology spec.no takes_role) (first_sub (inbox topology before spec.no) d.0) (nat_le 1 k) (k == chunk_size (spec_of topology spec.no) (length (units_on d.0 (inbox topology before spec.no)))) (not (feeds_batchers (spec_of topology spec.no)) || has_room topology before spec.no)
        (role_is topology spec takes_role there)
        (ap (λ xs. first_sub xs d.0) e ∙ same_sub-self d.0)
        (wide spec.min spec.max (length (units_on d.0 (d ∷ units))) (some_on d units))
        (ap (λ n. k == n) size ∙ self k)
        (ap (λ o. not (feeds_batchers o) || has_room topology before spec.no) there)
        ∙ (going topology before (Take spec.no d.0 k) free goes ∙ ap (first_take topology before spec) (sym e)))
