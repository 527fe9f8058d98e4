-- Which posts are away, by the stages whose tokens are not at home.
use Rattle.std.proofs.Common.{◌≡◌, ◌≢◌, ◌==◌, ⊎_elim, inl, inr, ℕ, zero, suc, ◌+◌, ◌<◌, Bool, if◌then◌else◌, List, [], ◌∷◌, ◌++◌, length, get_or, refl, sym, ap, ◌∙◌, subst, arith, Option, Some, None, Contains, eq-eqb, ne_eqb}
use Rattle.std.proofs.lemmas.Option.{none-some}
use mathlib.Core.Logic.{dite}
use native.Mathlib.Decide.{ℕ_discrete}
use Rattle.pipe_types.specs.declared.numbers.Post.{Post}
use Rattle.pipe_types.specs.Numbers.{stage, post}
use Rattle.pipeline_turn.specs.Jobs.{AreAway}
use Rattle.turn_checks.specs.declared.tokens.Token.{Token}
use Rattle.turn_checks.specs.Tokens.{token_at, away_from}

abbrev or_else : {A : Type 0} → A → Option A → A
or_else d (Some x) = x
or_else d None = d

some_same : (x y : Post) → Some x ≡ Some y → x ≡ y
some_same x y e = ap (or_else x) e

-- the post is that of a stage, counted from this one on, whose token is not at home
abbrev IsGone : ℕ → List (Option Token) → Post → Type 0
IsGone s tokens p = (i : ℕ) × (i < length tokens) × (token_at tokens i ≡ None) × (p ≡ post (stage (s + i)) 0)

one_on : (s : ℕ) (x : Option Token) (tokens : List (Option Token)) (p : Post) → IsGone (suc s) tokens p → IsGone s (x ∷ tokens) p
one_on s x tokens p t = let l = t.1 in let e : suc s + t.0 ≡ s + suc t.0 = omega arith in (suc t.0, omega arith, t.2, t.3 ∙ ap (λ (n : ℕ). post (stage n) 0) e)

away_is : (s : ℕ) (tokens : List (Option Token)) (p : Post) (k : ℕ) → k < length (away_from s tokens) → get_or (away_from s tokens) k p ≡ p → IsGone s tokens p
away_is s [] p k l e = absurd (omega arith)
away_is s (None ∷ tokens) p zero l e = let z : s ≡ s + 0 = omega arith in (0, omega arith, refl, sym e ∙ ap (λ (n : ℕ). post (stage n) 0) z)
away_is s (None ∷ tokens) p (suc k) l e = one_on s None tokens p (away_is (suc s) tokens p k (omega arith) e)
away_is s (Some t ∷ tokens) p k l e = one_on s (Some t) tokens p (away_is (suc s) tokens p k l e)

pub gone : (tokens : List (Option Token)) (p : Post) → Contains (away_from 0 tokens) p → (i : ℕ) × (i < length tokens) × (token_at tokens i ≡ None) × (p ≡ post (stage i) 0)
gone tokens p c = let t = away_is 0 tokens p c.0 c.1 c.2 in let e : 0 + t.0 ≡ t.0 = omega arith in (t.0, t.1, t.2, t.3 ∙ ap (λ (n : ℕ). post (stage n) 0) e)

shift : (s i : ℕ) (posts : List Post) → Contains posts (post (stage (suc s + i)) 0) → Contains posts (post (stage (s + suc i)) 0)
shift s i posts c = let e : suc s + i ≡ s + suc i = omega arith in subst (λ (n : ℕ). Contains posts (post (stage n) 0)) e c

away_has : (s : ℕ) (tokens : List (Option Token)) (i : ℕ) → i < length tokens → token_at tokens i ≡ None → Contains (away_from s tokens) (post (stage (s + i)) 0)
away_has s [] i l e = absurd (omega arith)
away_has s (None ∷ tokens) zero l e = let z : s ≡ s + 0 = omega arith in (0, omega arith, ap (λ (n : ℕ). post (stage n) 0) z)
away_has s (None ∷ tokens) (suc i) l e = let c = shift s i (away_from (suc s) tokens) (away_has (suc s) tokens i (omega arith) e) in let k = c.1 in (suc c.0, omega arith, c.2)
away_has s (Some t ∷ tokens) zero l e = absurd (none-some t (sym e))
away_has s (Some t ∷ tokens) (suc i) l e = shift s i (away_from (suc s) tokens) (away_has (suc s) tokens i (omega arith) e)

has : (tokens : List (Option Token)) (i : ℕ) → i < length tokens → token_at tokens i ≡ None → Contains (away_from 0 tokens) (post (stage i) 0)
has tokens i l e = let z : 0 + i ≡ i = omega arith in subst (λ (n : ℕ). Contains (away_from 0 tokens) (post (stage n) 0)) z (away_has 0 tokens i l e)

-- a token that is at home lies within the table
within : (tokens : List (Option Token)) (i : ℕ) (t : Token) → token_at tokens i ≡ Some t → i < length tokens
within [] i t e = absurd (none-some t e)
within (x ∷ tokens) zero t e = omega arith
within (x ∷ tokens) (suc i) t e = let l = within tokens i t e in omega arith

-- the table with another token, or none, at one stage
module _ (xs ys : List (Option Token)) (at : ℕ) (x : Option Token) (others : (s : ℕ) → token_at ys s ≡ (if at == s then x else token_at xs s)) where
  at_self : token_at ys at ≡ x
  at_self = others at ∙ ap (λ (b : Bool). if b then x else token_at xs at) (eq-eqb at at refl)

  at_other : (s : ℕ) → at ≢ s → token_at ys s ≡ token_at xs s
  at_other s differ = others s ∙ ap (λ (b : Bool). if b then x else token_at xs s) (ne_eqb at s differ)

-- the post of a stage whose token leaves is away then
pub leaves : (xs ys : List (Option Token)) (at : ℕ) (t : Token) → length ys ≡ length xs → ((s : ℕ) → token_at ys s ≡ (if at == s then None else token_at xs s)) → token_at xs at ≡ Some t
    → AreAway None (Some (post (stage at) 0)) (away_from 0 xs) (away_from 0 ys)
leaves xs ys at t len others home p = (
  λ c. let g = gone ys p c in let l = g.1 in dite (ℕ_discrete at g.0)
      (λ e. inl (ap Some (ap (λ (n : ℕ). post (stage n) 0) e ∙ sym g.3)))
      (λ differ. inr (subst (λ (z : Post). Contains (away_from 0 xs) z) (sym g.3) (has xs g.0 (omega arith) (sym (at_other xs ys at None others g.0 differ) ∙ g.2)), λ e. none-some p e)),
  ⊎_elim
      (λ (e : Some (post (stage at) 0) ≡ Some p). let l = within xs at t home in
      subst (λ (z : Post). Contains (away_from 0 ys) z) (some_same (post (stage at) 0) p e) (has ys at (omega arith) (at_self xs ys at None others)))
      (λ (u : Contains (away_from 0 xs) p × (None ≢ Some p)). let g = gone xs p u.0 in let l = g.1 in
      subst (λ (z : Post). Contains (away_from 0 ys) z) (sym g.3)
      (has ys g.0 (omega arith) (at_other xs ys at None others g.0 (λ e. none-some t (sym g.2 ∙ (ap (token_at xs) (sym e) ∙ home))) ∙ g.2))),
)

-- a post that is away is that of its stage's slot 0
own_is : (tokens : List (Option Token)) (own : Post) → Contains (away_from 0 tokens) own → own ≡ post (stage own.stage.0) 0
own_is tokens own c = let g = gone tokens own c in g.3 ∙ ap (λ (n : ℕ). post (stage n) 0) (sym (ap (λ (q : Post). q.stage.0) g.3))

pub own_within : (tokens : List (Option Token)) (own : Post) → Contains (away_from 0 tokens) own → own.stage.0 < length tokens
own_within tokens own c = let g = gone tokens own c in let e : own.stage.0 ≡ g.0 = ap (λ (q : Post). q.stage.0) g.3 in let l = g.1 in omega arith

-- the post whose token comes back is away no more
pub comes_back : (xs ys : List (Option Token)) (own : Post) (t : Token) → length ys ≡ length xs → ((s : ℕ) → token_at ys s ≡ (if own.stage.0 == s then Some t else token_at xs s)) → Contains (away_from 0 xs) own
    → AreAway (Some own) None (away_from 0 xs) (away_from 0 ys)
comes_back xs ys own t len others was p = (
  λ c. let g = gone ys p c in let l = g.1 in
      let differ : own.stage.0 ≢ g.0 = λ e. none-some t (sym g.2 ∙ (ap (token_at ys) (sym e) ∙ at_self xs ys own.stage.0 (Some t) others)) in
      inr (
        subst (λ (z : Post). Contains (away_from 0 xs) z) (sym g.3) (has xs g.0 (omega arith) (sym (at_other xs ys own.stage.0 (Some t) others g.0 differ) ∙ g.2)),
        λ e. differ (ap (λ (q : Post). q.stage.0) (some_same own p e ∙ g.3)),
      ),
  ⊎_elim
      (λ (e : None ≡ Some p). absurd (none-some p e))
      (λ (u : Contains (away_from 0 xs) p × (Some own ≢ Some p)). let g = gone xs p u.0 in let l = g.1 in
      let differ : own.stage.0 ≢ g.0 = λ e. u.1 (ap Some (own_is xs own was ∙ (ap (λ (n : ℕ). post (stage n) 0) e ∙ sym g.3))) in
      subst (λ (z : Post). Contains (away_from 0 ys) z) (sym g.3) (has ys g.0 (omega arith) (at_other xs ys own.stage.0 (Some t) others g.0 differ ∙ g.2))),
)

-- where a token is looked for that is not there, the same is away
pub not_there : (xs ys : List (Option Token)) (at : ℕ) → length ys ≡ length xs → ((s : ℕ) → token_at ys s ≡ (if at == s then None else token_at xs s)) → token_at xs at ≡ None
    → AreAway None None (away_from 0 xs) (away_from 0 ys)
not_there xs ys at len others none p =
    let same : (s : ℕ) → token_at ys s ≡ token_at xs s = λ s. dite (ℕ_discrete at s)
    (λ e. ap (token_at ys) (sym e) ∙ (at_self xs ys at None others ∙ (sym none ∙ ap (token_at xs) e))) (λ differ. at_other xs ys at None others s differ) in (
      λ c. let g = gone ys p c in let l = g.1 in inr (subst (λ (z : Post). Contains (away_from 0 xs) z) (sym g.3) (has xs g.0 (omega arith) (sym (same g.0) ∙ g.2)), λ e. none-some p e),
      ⊎_elim (λ (e : None ≡ Some p). absurd (none-some p e))
          (λ (u : Contains (away_from 0 xs) p × (None ≢ Some p)). let g = gone xs p u.0 in let l = g.1 in subst (λ (z : Post). Contains (away_from 0 ys) z) (sym g.3) (has ys g.0 (omega arith) (same g.0 ∙ g.2))),
    )

-- one more token at home
pub none_more : (s : ℕ) (tokens : List (Option Token)) (t : Token) → away_from s tokens ≡ [] → away_from s (tokens ++ Some t ∷ []) ≡ []
none_more s [] t e = refl
none_more s (None ∷ tokens) t e = let l : suc (length (away_from (suc s) tokens)) ≡ 0 = ap length e in absurd (omega arith)
none_more s (Some u ∷ tokens) t e = none_more (suc s) tokens t e

-- the same said of equal jobs and lists
pub away_as : (own own' job job' : Option Post) (taken taken' given : List Post) → own ≡ own' → job ≡ job' → taken ≡ taken' → AreAway own job taken given → AreAway own' job' taken' given
away_as own own' job job' taken taken' given a b c are =
    subst (λ (z : Option Post × Option Post × List Post). AreAway z.0 z.1 z.2 given) (λ i. (a i, b i, c i)) are
