-- The bounds of fetches.
use Rattle.std.proofs.Common.{◌≡◌, ℕ, ◌+◌, ◌<◌, true, false, List, [], ◌∷◌, ◌++◌, length, take, get_or, refl, ap, sym, ◌∙◌, arith}
use Rattle.std.specs.Prelude.{Bool, if◌then◌else◌}
use Rattle.pipe_types.specs.declared.numbers.StageNo.{StageNo}
use Rattle.pipe_types.specs.declared.topology.StageSpec.{StageSpec}
use Rattle.pipe_types.specs.declared.step.Step.TheVariants.{Fetch}
use Rattle.pipe_types.specs.Numbers.{post, same_stage}
use Rattle.pipe_model.specs.History.{History}
use Rattle.pipe_model.specs.Posts.{is_out}
use Rattle.pipe_model.specs.Legal.{is_producer_role, fetch_out}
use Rattle.plain_counts.specs.Fetches.{last_fetch, out_of, sum_out}
use Rattle.plain_counts.proofs.Lists.{take_one_more}

abbrev bound_of_last : History → StageNo → ℕ
bound_of_last [] s = 0
bound_of_last (Fetch t n ∷ before) s = if same_stage s t then n else bound_of_last before s
bound_of_last (_ ∷ before) s = bound_of_last before s

last_is : (before : History) (s : StageNo) → bound_of_last before s ≡ last_fetch before s
last_is [] s = refl
last_is (Fetch t n ∷ before) s = ap (λ x. if same_stage s t then n else x) (last_is before s)
last_is (step ∷ before) s = last_is before s

fetch_out_is : (before : History) (s : StageNo) → fetch_out before s ≡ (if is_out before (post s 0) then last_fetch before s else 0)
fetch_out_is before s = ap (λ x. if is_out before (post s 0) then x else 0) (last_is before s)

-- the bound of a fetch that is out is that of the last fetch
pub bound_where_out : (before : History) (s : StageNo) (n : ℕ) → n ≡ last_fetch before s → is_out before (post s 0) ≡ true → n ≡ fetch_out before s
bound_where_out before s n last out = last ∙ sym (fetch_out_is before s ∙ ap (λ b. if b then last_fetch before s else 0) out)

out_more : (before : History) (specs : List StageSpec) (spec : StageSpec) → sum_out before (specs ++ spec ∷ []) ≡ sum_out before specs + out_of before spec
out_more before [] spec = by (is_producer_role spec.role) (fetch_out before spec.no)
  where
    by : (b : Bool) (n : ℕ) → (if b then n + 0 else 0) ≡ 0 + (if b then n else 0)
    by true n = omega arith
    by false n = refl
out_more before (s ∷ specs) spec = by (is_producer_role s.role) (fetch_out before s.no) (sum_out before (specs ++ spec ∷ [])) (sum_out before specs) (out_of before spec) (out_more before specs spec)
  where
    by : (b : Bool) (n all some one : ℕ) → all ≡ some + one → (if b then n + all else all) ≡ (if b then n + some else some) + one
    by true n all some one is = omega (arith, is)
    by false n all some one is = is

-- one stage more
pub out_upto : (before : History) (specs : List StageSpec) (i : ℕ) (spec : StageSpec) → i < length specs → spec ≡ get_or specs i spec → sum_out before (take (i + 1) specs) ≡ sum_out before (take i specs) + out_of before spec
out_upto before specs i spec within is = ap (sum_out before) (take_one_more specs i spec within is) ∙ out_more before (take i specs) spec
