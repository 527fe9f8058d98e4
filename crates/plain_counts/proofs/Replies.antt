-- Lists of replies and records with one more at the end.
use Rattle.std.proofs.Common.{◌≡◌, ℕ, ◌+◌, ◌<◌, true, false, List, [], ◌∷◌, ◌++◌, length, take, get_or, ap, sym, ◌∙◌, refl, arith}
use Rattle.std.proofs.lemmas.List.{length-take-le}
use Rattle.std.specs.Prelude.{◌||◌}
use Rattle.pipe_types.specs.declared.message.Reply.{Reply}
use Rattle.pipe_types.specs.declared.message.Reply.TheVariants.{Pass, Failed, Raised, Crashed}
use Rattle.pipe_model.specs.Content.{has_crash, numbers_from, passed}
use Rattle.plain_counts.proofs.Lists.{take_one_more}

pub has_crash_more : (replies : List Reply) (r : Reply) → has_crash (replies ++ r ∷ []) ≡ has_crash replies || has_crash (r ∷ [])
has_crash_more [] r = refl
has_crash_more (Crashed ∷ replies) r = refl
has_crash_more (Pass m ∷ replies) r = has_crash_more replies r
has_crash_more (Failed why ∷ replies) r = has_crash_more replies r
has_crash_more (Raised why ∷ replies) r = has_crash_more replies r

pub passed_more : (replies : List Reply) (r : Reply) → passed (replies ++ r ∷ []) ≡ passed replies ++ passed (r ∷ [])
passed_more [] r = refl
passed_more (Pass m ∷ replies) r = ap (λ ns. m.no.0 ∷ ns) (passed_more replies r)
passed_more (Crashed ∷ replies) r = passed_more replies r
passed_more (Failed why ∷ replies) r = passed_more replies r
passed_more (Raised why ∷ replies) r = passed_more replies r

pub numbers_more : (n : ℕ) (records : List (List ℕ)) (r : List ℕ) → numbers_from n (records ++ r ∷ []) ≡ numbers_from n records ++ (n + length records) ∷ []
numbers_more n [] r = let e : n + 0 ≡ n = omega arith in rw e refl
numbers_more n (q ∷ records) r =
    let e : n + 1 + length records ≡ n + length (q ∷ records) = omega arith in
    ap (λ ns. n ∷ ns) (numbers_more (n + 1) records r ∙ ap (λ (k : ℕ). numbers_from (n + 1) records ++ k ∷ []) e)

upto_one : (replies : List Reply) (i : ℕ) (r : Reply) → i < length replies → r ≡ get_or replies i r → has_crash (take (i + 1) replies) ≡ has_crash (take i replies) || has_crash (r ∷ [])
upto_one replies i r within is = ap has_crash (take_one_more replies i r within is) ∙ has_crash_more (take i replies) r

pub crash_stays : (replies : List Reply) (i : ℕ) (r : Reply) → i < length replies → r ≡ get_or replies i r → has_crash (take i replies) ≡ true → true ≡ has_crash (take (i + 1) replies)
crash_stays replies i r within is found = sym (upto_one replies i r within is ∙ ap (λ b. b || has_crash (r ∷ [])) found)

pub crash_comes : (replies : List Reply) (i : ℕ) (r : Reply) → i < length replies → r ≡ get_or replies i r → has_crash (take i replies) ≡ false → has_crash (r ∷ []) ≡ has_crash (take (i + 1) replies)
crash_comes replies i r within is none = sym (upto_one replies i r within is ∙ ap (λ b. b || has_crash (r ∷ [])) none)

pub passed_upto : (replies : List Reply) (i : ℕ) (r : Reply) → i < length replies → r ≡ get_or replies i r → passed (take (i + 1) replies) ≡ passed (take i replies) ++ passed (r ∷ [])
passed_upto replies i r within is = ap passed (take_one_more replies i r within is) ∙ passed_more (take i replies) r

pub numbers_upto : (n : ℕ) (records : List (List ℕ)) (i : ℕ) (r : List ℕ) → i < length records → r ≡ get_or records i r → numbers_from n (take (i + 1) records) ≡ numbers_from n (take i records) ++ (n + i) ∷ []
numbers_upto n records i r within is =
    let e : length (take i records) ≡ i = length-take-le i records (omega arith) in
    ap (numbers_from n) (take_one_more records i r within is) ∙ numbers_more n (take i records) r ∙ ap (λ k. numbers_from n (take i records) ++ (n + k) ∷ []) e
