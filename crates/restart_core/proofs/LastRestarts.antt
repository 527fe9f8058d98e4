-- The last restarts are enough to know whether one more may be made.
use Rattle.std.proofs.Common.{◌≡◌, ℕ, suc, zero, ◌+◌, ◌-◌, ◌<◌, ◌≤◌, true, nat_lt, List, [], ◌∷◌, length, take, get_or, All, min, refl, ap, sym, subst, ◌∙◌, arith}
use Rattle.std.proofs.lemmas.List.Elements.{All-head, All-tail, All-cons, All-nil, All-weaker, All-get_or, All-take}
use Rattle.std.proofs.lemmas.List.{take-take, length-take, get_or-take}
use Rattle.std.proofs.lemmas.Bool.Decides.{nat_tests}
use Rattle.pipe_types.specs.Restarts.{restarts_counted, may_restart_at}
use Rattle.restart_core.specs.Restarts.{RestartLimit, LatestFirst, Remembers}

-- one more restart counts or does not
counted_yes : (window now t : ℕ) (times : List ℕ) → now ≤ t + window → restarts_counted window now (t ∷ times) ≡ restarts_counted window now times + 1
counted_yes window now t times counts = grind (arith, nat_tests)

counted_no : (window now t : ℕ) (times : List ℕ) → t + window < now → restarts_counted window now (t ∷ times) ≡ restarts_counted window now times
counted_no window now t times passed = grind (arith, nat_tests)

counted_more : (window now t : ℕ) (times : List ℕ) → restarts_counted window now (t ∷ times) ≤ restarts_counted window now times + 1
counted_more window now t times = grind (arith, nat_tests)

-- where a restart does not count, none before it counts
none_counts : (window now t : ℕ) (times : List ℕ) → All (λ s. s ≤ t) times → t + window < now → restarts_counted window now times ≡ 0
none_counts window now t [] before passed = refl
none_counts window now t (s ∷ times) before passed =
    let here : s ≤ t = All-head (λ s. s ≤ t) s times before in
    let rest : restarts_counted window now times ≡ 0 = none_counts window now t times (All-tail (λ s. s ≤ t) s times before) passed in
    counted_no window now s times (omega arith) ∙ rest

-- no more count than were made
counted_le : (window now : ℕ) (times : List ℕ) → restarts_counted window now times ≤ length times
counted_le window now [] = omega arith
counted_le window now (t ∷ times) = omega (arith, counted_le window now times, counted_more window now t times)

-- where a restart counts, each one after it counts
counted_from : (window now : ℕ) (made : List ℕ) (n d : ℕ) → LatestFirst made → n < length made → now ≤ get_or made n d + window → n + 1 ≤ restarts_counted window now made
counted_from window now [] n d order within counts = absurd (omega arith)
counted_from window now (t ∷ times) zero d order within counts = omega (arith, counted_yes window now t times counts)
counted_from window now (t ∷ times) (suc n) d order within counts =
    let inside : n < length times = omega arith in
    let earlier : get_or times n d ≤ t = All-get_or (λ s. s ≤ t) times n d inside order.0 in
    omega (arith, counted_yes window now t times (omega arith), counted_from window now times n d order.1 inside counts)

-- where a restart does not count, at most those after it count
counted_upto : (window now : ℕ) (made : List ℕ) (n d : ℕ) → LatestFirst made → n < length made → get_or made n d + window < now → restarts_counted window now made ≤ n
counted_upto window now [] n d order within passed = absurd (omega arith)
counted_upto window now (t ∷ times) zero d order within passed =
    omega (arith, counted_no window now t times passed, none_counts window now t times order.0 passed)
counted_upto window now (t ∷ times) (suc n) d order within passed =
    let inside : n < length times = omega arith in
    omega (arith, counted_more window now t times, counted_upto window now times n d order.1 inside passed)

-- with fewer restarts than the limit, one more may be made
pub may_with_room : (limit : RestartLimit) (made : List ℕ) (now : ℕ) → Remembers limit made → length limit.times < limit.max → may_restart_at limit.max limit.window now made ≡ true
may_with_room limit made now remembers room =
    let few : restarts_counted limit.window now made < limit.max = omega (arith, counted_le limit.window now made, ap length remembers.last, length-take limit.max made) in
    grind (arith, nat_tests)

same_test : (a b c d : ℕ) → (a < b → c < d) → (b ≤ a → d ≤ c) → nat_lt a b ≡ nat_lt c d
same_test a b c d below above = grind (arith, nat_tests)

-- otherwise one more may be made once the oldest of the last does not count
pub may_by_oldest : (limit : RestartLimit) (made : List ℕ) (oldest until now : ℕ) → Remembers limit made → limit.max ≤ length limit.times → 0 < length limit.times → oldest ≡ get_or limit.times (length limit.times - 1) oldest → (until < now → oldest + limit.window < now) → (now ≤ until → now ≤ oldest + limit.window) → nat_lt until now ≡ may_restart_at limit.max limit.window now made
may_by_oldest limit made oldest until now remembers full some is passed counts =
    let kept : length limit.times ≡ min limit.max (length made) = ap length remembers.last ∙ length-take limit.max made in
    let all : length limit.times ≡ limit.max = omega arith in
    let n : ℕ = limit.max - 1 in
    let inside : n < length made = omega arith in
    let at : get_or limit.times (length limit.times - 1) oldest ≡ get_or made n oldest =
    ap (λ k. get_or limit.times (k - 1) oldest) all ∙ (ap (λ ts. get_or ts n oldest) remembers.last ∙ get_or-take limit.max made n oldest (omega arith)) in
    let there : get_or made n oldest ≡ oldest = sym at ∙ sym is in
    same_test until now (restarts_counted limit.window now made) limit.max
    (λ h. omega (arith, counted_upto limit.window now made n oldest remembers.latest_first inside (omega (arith, passed h))))
    (λ h. omega (arith, counted_from limit.window now made n oldest remembers.latest_first inside (omega (arith, counts h))))

-- what is before the latest of the last restarts is before each of all that were made
all_before : (max now : ℕ) (made : List ℕ) → 0 < max → LatestFirst made → All (λ t. t ≤ now) (take max made) → All (λ t. t ≤ now) made
all_before zero now made some order latest = absurd (omega arith)
all_before (suc n) now [] some order latest = All-nil (λ t. t ≤ now)
all_before (suc n) now (t ∷ times) some order latest =
    let here : t ≤ now = All-head (λ t. t ≤ now) t (take n times) latest in
    All-cons (λ t. t ≤ now) t times here (All-weaker (λ s. s ≤ t) (λ s. s ≤ now) (λ s before. omega arith) times order.0)

take_next : (max now : ℕ) (times made kept : List ℕ) → 0 < max → times ≡ take max made → kept ≡ now ∷ take (max - 1) times → kept ≡ take max (now ∷ made)
take_next zero now times made kept some last is = absurd (omega arith)
take_next (suc n) now times made kept some last is =
    let less : suc n - 1 ≡ n = omega arith in
    is ∙ ap (λ ts. now ∷ ts) (ap (λ k. take k times) less ∙ (ap (λ ts. take n ts) last ∙ take-take n (suc n) made (omega arith)))

-- one more restart is remembered before those that were kept
pub remembers_next : (limit next : RestartLimit) (made : List ℕ) (now : ℕ) → Remembers limit made → 0 < limit.max → All (λ t. t ≤ now) limit.times → next.max ≡ limit.max → next.times ≡ now ∷ take (limit.max - 1) limit.times → Remembers next (now ∷ made)
remembers_next limit next made now remembers some latest same is =
    let P : List ℕ → Type 0 = λ ts. All (λ t. t ≤ now) ts in
    let before : All (λ t. t ≤ now) (take limit.max made) = subst P remembers.last latest in
    record {
      last = take_next limit.max now limit.times made next.times some remembers.last is ∙ ap (λ k. take k (now ∷ made)) (sym same);
      latest_first = (all_before limit.max now made some remembers.latest_first before, remembers.latest_first);
    }

pub all_next : (limit : RestartLimit) (now : ℕ) (next : List ℕ) → All (λ t. t ≤ now) limit.times → next ≡ now ∷ take (limit.max - 1) limit.times → All (λ t. t ≤ now) next
all_next limit now next latest is =
    let P : List ℕ → Type 0 = λ ts. All (λ t. t ≤ now) ts in
    subst P (sym is) (All-cons (λ t. t ≤ now) now (take (limit.max - 1) limit.times) (omega arith) (All-take (λ t. t ≤ now) (limit.max - 1) limit.times latest))
