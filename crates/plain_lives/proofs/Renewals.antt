-- One more renewal.
use Rattle.std.proofs.Common.{◌≡◌, ℕ, ◌+◌, ◌<◌, List, [], ◌∷◌, ◌++◌, length, take, get_or, refl, ap, ◌∙◌}
use Rattle.std.specs.Prelude.{Bool, true, false}
use Rattle.pipe_types.specs.declared.numbers.StageNo.{StageNo}
use Rattle.pipe_model.specs.Lives.{one_more}
use Rattle.plain_counts.proofs.Lists.{take_one_more}
use Rattle.plain_lives.specs.declared.deaths.Renewal.{Renewal}
use Rattle.plain_lives.specs.Lives.{renewed_by, generation_by}

either_first : (a b : Bool) (n : ℕ) → one_more a (one_more b n) ≡ one_more b (one_more a n)
either_first true true n = refl
either_first true false n = refl
either_first false true n = refl
either_first false false n = refl

pub generation_more : (renewals : List Renewal) (r : Renewal) (c p : StageNo) → generation_by (renewals ++ r ∷ []) c p ≡ one_more (renewed_by r c p) (generation_by renewals c p)
generation_more [] r c p = refl
generation_more (q ∷ renewals) r c p =
    ap (one_more (renewed_by q c p)) (generation_more renewals r c p) ∙ either_first (renewed_by q c p) (renewed_by r c p) (generation_by renewals c p)

pub generation_upto : (renewals : List Renewal) (i : ℕ) (r : Renewal) (c p : StageNo) → i < length renewals → r ≡ get_or renewals i r
    → generation_by (take (i + 1) renewals) c p ≡ one_more (renewed_by r c p) (generation_by (take i renewals) c p)
generation_upto renewals i r c p within is =
    ap (λ rs. generation_by rs c p) (take_one_more renewals i r within is) ∙ generation_more (take i renewals) r c p
