-- Which number of workers a text spells.
use Rattle.std.proofs.Common.{◌≡◌, ◌≢◌, ◌∙◌, ◌+◌, ◌<◌, ◌≤◌, ◌^◌, ℕ, zero, suc, Bool, true, false, List, Option, Some, None, Result, Ok, Err, cond, find, get_or, arith, refl, sym, ap, decimal, true≢false, eqb-true, ◌==◌, ◌||◌}
use Rattle.std.specs.List.{range_with_len}
use Rattle.std.specs.Str.{bytes_eq}
use Rattle.std.specs.Str.Parse.{AllDigits, ParsesUnsigned, digits_value}
use Rattle.std.proofs.lemmas.Fmt.{decimal-digits_value, decimal_digit, decimal_injective, first_decimal, parse-decimal}
use Rattle.std.proofs.lemmas.Slice.Eq.{bytes_eq-Decides}
use Rattle.std.proofs.lemmas.Str.Parse.{IsNumeralModel, numerals_by_value, parse_plain, tells_digits}
use Rattle.program_words.specs.Words.{workers_of}

abbrev spelled_among : List ℕ → List ℕ → Option ℕ
spelled_among text numbers = find (λ n. bytes_eq text (decimal n)) numbers

differs : (text other : List ℕ) → (text ≡ other → ⊥) → bytes_eq text other ≡ false
differs text other apart = go (bytes_eq text other) refl
  where
    go : (b : Bool) → bytes_eq text other ≡ b → b ≡ false
    go true e = absurd (apart ((bytes_eq-Decides text other).0 e))
    go false e = refl

-- the text spells none of the numbers
none_among : (text : List ℕ) (k a : ℕ) → ((n : ℕ) → a ≤ n → n < a + k → text ≡ decimal n → ⊥) → spelled_among text (range_with_len a k) ≡ None
none_among text zero a apart = refl
none_among text (suc k) a apart =
    rw (differs text (decimal a) (apart a (omega arith) (omega arith)))
    (none_among text k (a + 1) (λ n low high. apart n (omega arith) (omega arith)))

-- the text spells one of them, which is the first that it spells
one_among : (text : List ℕ) (k a n : ℕ) → a ≤ n → n < a + k → a + k < 2 ^ 64 → text ≡ decimal n → spelled_among text (range_with_len a k) ≡ Some n
one_among text zero a n low high small is = absurd (omega arith)
one_among text (suc k) a n low high small is = go (bytes_eq text (decimal a)) refl (λ above. one_among text k (a + 1) n above (omega arith) (omega arith) is)
  where
    go : (b : Bool) → bytes_eq text (decimal a) ≡ b → (a + 1 ≤ n → spelled_among text (range_with_len (a + 1) k) ≡ Some n)
        → cond b (Some a) (spelled_among text (range_with_len (a + 1) k)) ≡ Some n
    go true e later = ap Some (decimal_injective a n (omega arith) (omega arith) (sym ((bytes_eq-Decides text (decimal a)).0 e) ∙ is))
    go false e later =
        let other : a ≢ n = λ same. true≢false (sym ((bytes_eq-Decides text (decimal a)).1 (is ∙ ap decimal (sym same))) ∙ e) in
        later (omega arith)

numerals : IsNumeralModel (AllDigits 10) (digits_value 10)
numerals = numerals_by_value (AllDigits 10) tells_digits

-- a numeral without a plus sign or a zero in front is the spelling of what it is read as
read_back : (text : List ℕ) (n : ℕ) → ParsesUnsigned {E = ℕ} 16 10 text (Ok n) → get_or text 0 0 ≢ 43 → get_or text 0 0 ≢ 48 → text ≡ decimal n
read_back text n reads plus zero_first =
    let h = parse_plain numerals {E = ℕ} 16 text (Ok n) reads plus in
    sym (ap decimal h.1 ∙ decimal-digits_value numerals text h.0.0 h.0.1 (λ e. absurd (zero_first e)) (omega (arith, h.0.2)))

pub is_spelled : (text : List ℕ) (n : ℕ) → ParsesUnsigned {E = ℕ} 16 10 text (Ok n) → get_or text 0 0 ≢ 43 → get_or text 0 0 ≢ 48 → n ≤ 16 → Some n ≡ workers_of text
unfolding workers_of
is_spelled text n reads plus zero_first few =
    let is : text ≡ decimal n = read_back text n reads plus zero_first in
    let some : n ≢ 0 = λ none. zero_first (ap (λ t. get_or t 0 0) (is ∙ ap decimal none ∙ decimal_digit 0 (omega arith))) in
    sym (one_among text 16 1 n (omega arith) (omega arith) (omega arith) is)

pub is_too_great : (text : List ℕ) (n : ℕ) → ParsesUnsigned {E = ℕ} 16 10 text (Ok n) → get_or text 0 0 ≢ 43 → get_or text 0 0 ≢ 48 → n < 2 ^ 64 → 16 < n → None ≡ workers_of text
unfolding workers_of
is_too_great text n reads plus zero_first fits many =
    let is : text ≡ decimal n = read_back text n reads plus zero_first in
    sym (none_among text 16 1 (λ m low high spelled.
    let same : m ≡ n = decimal_injective m n (omega arith) fits (sym spelled ∙ is) in
    omega arith))

pub is_no_number : (text : List ℕ) → ParsesUnsigned {E = ℕ} 16 10 text (Err 0) → None ≡ workers_of text
unfolding workers_of
is_no_number text reads = sym (none_among text 16 1 (λ m low high spelled.
    let read : ◌≡◌ {A = Result ℕ ℕ} (Err 0) (Ok m) = parse-decimal {E = ℕ} 16 m text (Err 0) (omega arith) (omega arith) spelled reads in
    cc))

-- what the test of the first byte says
pub unpadded : (first : ℕ) → false ≡ (first == 43 || first == 48) → (first ≢ 43) × (first ≢ 48)
unpadded first test = (λ is. apart 43 refl is, λ is. apart 48 refl is)
  where
    apart : (n : ℕ) → (n == 43 || n == 48) ≡ true → first ≡ n → ⊥
    apart n one is = true≢false (sym (test ∙ ap (λ m. m == 43 || m == 48) is ∙ one))

padded : (first : ℕ) → true ≡ (first == 43 || first == 48) → first ≤ 48
padded first test = go (first == 43) (first == 48) refl refl test
  where
    go : (b c : Bool) → (first == 43) ≡ b → (first == 48) ≡ c → true ≡ (b || c) → first ≤ 48
    go true c plus zero_first either = omega (arith, eqb-true first 43 plus)
    go false true plus zero_first either = omega (arith, eqb-true first 48 zero_first)
    go false false plus zero_first either = absurd (true≢false either)

pub is_padded : (text : List ℕ) → true ≡ (get_or text 0 0 == 43 || get_or text 0 0 == 48) → None ≡ workers_of text
unfolding workers_of
is_padded text test = sym (none_among text 16 1 (λ m low high spelled.
    let first : 48 < get_or (decimal m) 0 0 = first_decimal m (omega arith) (omega arith) in
    let same : get_or text 0 0 ≡ get_or (decimal m) 0 0 = ap (λ t. get_or t 0 0) spelled in
    omega (arith, padded (get_or text 0 0) test)))
