-- A field that is read is the text of its value, and the text of a value is read again.
use Rattle.std.proofs.Common.{◌≡◌, ◌≢◌, ℕ, ◌+◌, ◌*◌, ◌-◌, ◌/◌, ◌%◌, ◌^◌, ◌<◌, ◌≤◌, Bool, true, false, cond, List, [], ◌∷◌, ◌++◌, length, get_or, Option, Some, None, Result, Ok, Err, refl, sym, ap, ◌∙◌, append_assoc, arith, inl, inr}
use Rattle.std.specs.Prelude.{decimal, ◌==◌}
use Rattle.std.specs.List.{flat_map, slice_split}
use Rattle.std.specs.Str.Parse.{AllDigits, digits_value, digits_value_after}
use Rattle.std.specs.Char.{digit_value}
use Rattle.std.proofs.lemmas.Str.Parse.{IsNumeralModel, numerals_by_value, tells_digits}
use Rattle.std.specs.Fmt.{digit_glyph}
use Rattle.std.proofs.lemmas.Fmt.{decimal_by_steps, decimal_nonempty, first_decimal, decimal_digit, decimal-digits_value}
use Rattle.std.proofs.lemmas.List.{append-nil}
use Rattle.std.proofs.lemmas.Bool.{cases_lt, false≢true}
use Rattle.std.proofs.lemmas.Bool.Decides.{nat_tests}
use Rattle.line_reading.specs.declared.fault.Fault.{Fault}
use Rattle.line_reading.specs.Reading.{◌>>=◌, is_at, next_number, with_next, digits_after, number_in, digit_in, pair_in, pairs_in, bytes_in}
use Rattle.line_reading.specs.Spelling.{Each, IsByte}
use Rattle.journal_texts.specs.Words.{byte_text, bytes_text}

-- ---- texts without some bytes

pub each_append : (P : ℕ → Type 0) (xs ys : List ℕ) → Each P xs → Each P ys → Each P (xs ++ ys)
each_append P [] ys h k = k
each_append P (x ∷ xs) ys h k = (h.0, each_append P xs ys h.1 k)

pub each_weaker : (P Q : ℕ → Type 0) (f : (b : ℕ) → P b → Q b) (xs : List ℕ) → Each P xs → Each Q xs
each_weaker P Q f [] h = tt
each_weaker P Q f (x ∷ xs) h = (f x h.0, each_weaker P Q f xs h.1)

-- the byte does not stand in the text
abbrev pub Lacks : ℕ → List ℕ → Type 0
Lacks c = Each (λ b. (b == c) ≡ false)

-- a test of that
abbrev pub is_free : ℕ → List ℕ → Bool
is_free c [] = true
is_free c (b ∷ bs) = cond (b == c) false (is_free c bs)

pub lacks : (c : ℕ) (text : List ℕ) → is_free c text ≡ true → Lacks c text
lacks c [] e = tt
lacks c (b ∷ bs) e =
    elim (b == c) as (λ t. (b == c) ≡ t → cond t false (is_free c bs) ≡ true → Lacks c (b ∷ bs)) [
      | true ↦ λ is k. absurd (false≢true k)
      | false ↦ λ is k. (is, lacks c bs k)
    ] refl e

pub split_none : (c : ℕ) (text : List ℕ) → Lacks c text → slice_split (is_at c) text ≡ text ∷ []
split_none c [] h = refl
split_none c (b ∷ bs) h = rw (h.0, split_none c bs h.1) refl

pub split_at : (c : ℕ) (text more : List ℕ) → Lacks c text → slice_split (is_at c) (text ++ c ∷ more) ≡ text ∷ slice_split (is_at c) more
split_at c [] more h = let e : (c == c) ≡ true = grind (arith, nat_tests) in rw e refl
split_at c (b ∷ bs) more h = rw (h.0, split_at c bs more h.1) refl

-- ---- numbers

-- a byte of a number or of digits for bytes
pub record IsPlain (b : ℕ) : Type 0 where
  pub low : 45 ≤ b
  pub other : b ≢ 58

pub decimal_plain : (n : ℕ) → n < 2 ^ 64 → Each IsPlain (decimal n)
decimal_plain n small =
    decimal_by_steps (λ n ds. Each IsPlain ds)
    (λ n lt. (record { low = omega arith; other = λ e. omega arith }, tt))
    (λ n ds le h. each_append IsPlain ds ((48 + n % 10) ∷ []) h (record { low = omega arith; other = λ e. omega arith }, tt))
    n small

digit_next : (most n d : ℕ) → d < 10 → n * 10 + d ≤ most → next_number most n (48 + d) ≡ Some (n * 10 + d)
digit_next most n d small fits = grind (arith, nat_tests)

-- digits stand for their number, whatever follows
abbrev Digits : (most : ℕ) → ℕ → List ℕ → Type 0
Digits most n ds = (rest : List ℕ) → n ≤ most → digits_after most 0 (ds ++ rest) ≡ digits_after most n rest

digits_again : (most n : ℕ) → n < 2 ^ 64 → Digits most n (decimal n)
digits_again most n small =
    decimal_by_steps (Digits most)
    (λ n lt rest fits.
    let e : 0 * 10 + n ≡ n = omega arith in
    rw (digit_next most 0 n lt (omega arith), e) refl)
    (λ n ds le h rest fits.
    let e : n / 10 * 10 + n % 10 ≡ n = omega arith in
    rw (append_assoc, h ((48 + n % 10) ∷ rest) (omega arith), digit_next most (n / 10) (n % 10) (omega arith) (omega arith), e) refl)
    n small

number_by_digits : (most : ℕ) (ds : List ℕ) → 0 < length ds → (get_or ds 0 0 ≡ 48 → length ds ≡ 1) → number_in most ds ≡ digits_after most 0 ds
number_by_digits most [] long lead = absurd (omega arith)
number_by_digits most (b ∷ []) long lead = refl
number_by_digits most (b ∷ c ∷ bs) long lead = let e : (b == 48) ≡ false = grind (arith, nat_tests) in rw e refl

decimal_lead : (n : ℕ) → n < 2 ^ 64 → get_or (decimal n) 0 0 ≡ 48 → length (decimal n) ≡ 1
decimal_lead n small e =
    elim (cases_lt 0 n) [
      | inl lt ↦ absurd (omega (arith, first_decimal n lt small))
      | inr le ↦ ap length (decimal_digit n (omega arith))
    ]

-- the text of a number is read as that number
pub number_again : (most n : ℕ) → n ≤ most → n < 2 ^ 64 → number_in most (decimal n) ≡ Ok n
number_again most n fits small =
    let all : digits_after most 0 (decimal n ++ []) ≡ Ok n = digits_again most n small [] fits in
    number_by_digits most (decimal n) (decimal_nonempty n small) (decimal_lead n small) ∙ (rw append-nil at all)

-- ---- bytes

glyph_plain : (d : ℕ) → d < 16 → IsPlain (digit_glyph false d)
glyph_plain d small =
    elim (cases_lt d 10) [
      | inl lt ↦ let e : digit_glyph false d ≡ 48 + d = grind (arith, nat_tests) in record { low = omega arith; other = λ k. omega arith }
      | inr ge ↦ let e : digit_glyph false d ≡ 87 + d = grind (arith, nat_tests) in record { low = omega arith; other = λ k. omega arith }
    ]

pub digit_again : (d : ℕ) → d < 16 → digit_in (digit_glyph false d) ≡ Ok d
digit_again d small = grind (arith, nat_tests)

pub pairs_again : (bs : List ℕ) → Each IsByte bs → pairs_in (flat_map byte_text bs) ≡ Ok bs
pairs_again [] h = refl
pairs_again (b ∷ bs) h =
    let e : b / 16 * 16 + b % 16 ≡ b = omega arith in
    rw (digit_again (b / 16) (omega (arith, h.0)), digit_again (b % 16) (omega arith), e, pairs_again bs h.1) refl

-- the text of bytes is read as those bytes
pub bytes_again : (bs : List ℕ) → Each IsByte bs → bytes_in (bytes_text bs) ≡ Ok bs
bytes_again [] h = refl
bytes_again (b ∷ bs) h = pairs_again (b ∷ bs) h

pairs_plain : (bs : List ℕ) → Each IsByte bs → Each IsPlain (flat_map byte_text bs)
pairs_plain [] h = tt
pairs_plain (b ∷ bs) h = (glyph_plain (b / 16) (omega (arith, h.0)), (glyph_plain (b % 16) (omega arith), pairs_plain bs h.1))

pub bytes_plain : (bs : List ℕ) → Each IsByte bs → Each IsPlain (bytes_text bs)
bytes_plain [] h = (record { low = omega arith; other = λ k. omega arith }, tt)
bytes_plain (b ∷ bs) h = pairs_plain (b ∷ bs) h

-- ---- what is read is the text of the value

abbrev done : {A : Type 0} → A → Result A Fault
done x = Ok x

pub ok_is : {A : Type 0} (x y : A) → done x ≡ done y → x ≡ y
ok_is x y e = cc

-- the value of a step that did not fail
pub bind_ok : {A B : Type 0} (r : Result A Fault) (f : A → Result B Fault) (y : B) → (r >>= f) ≡ Ok y → (x : A) × (r ≡ Ok x) × (f x ≡ Ok y)
bind_ok (Ok x) f y e = (x, refl, e)
bind_ok (Err d) f y e = absurd cc

-- what digits stand for
record Stand (most n m : ℕ) (ds : List ℕ) : Type 0 where
  digits : AllDigits 10 ds
  value : m ≡ digits_value_after 10 n ds
  fits : m ≤ most

-- the next number, where there is one
record IsNext (most n b next : ℕ) : Type 0 where
  digit : digit_value b < 10
  value : next ≡ n * 10 + digit_value b
  fits : next ≤ most

next_is : (most n b next : ℕ) → next_number most n b ≡ Some next → IsNext most n b next
next_is most n b next e =
    elim (cases_lt b 48) [
      | inl lt ↦ absurd (grind (arith, nat_tests))
      | inr ge ↦ elim (cases_lt 57 b) [
        | inl lt ↦ absurd (grind (arith, nat_tests))
        | inr le ↦ elim (cases_lt most (n * 10 + (b - 48))) [
          | inl lt ↦ absurd (grind (arith, nat_tests))
          | inr fits ↦
              let v : digit_value b ≡ b - 48 = grind (arith, nat_tests) in
              let k : next ≡ n * 10 + (b - 48) = grind (arith, nat_tests) in
              record { digit = omega arith; value = rw v k; fits = omega arith }
        ]
      ]
    ]

next_stands : (most n m b : ℕ) (bs : List ℕ) (o : Option ℕ) → next_number most n b ≡ o → ((next : ℕ) → next ≤ most → digits_after most next bs ≡ Ok m → Stand most next m bs)
    → with_next o (λ next. digits_after most next bs) ≡ Ok m → Stand most n m (b ∷ bs)
next_stands most n m b bs None is more e = absurd cc
next_stands most n m b bs (Some next) is more e =
    let i = next_is most n b next is in
    let s = more next i.fits e in
    record { digits = (i.digit, s.digits); value = rw (← i.value) s.value; fits = s.fits }

stands : (most n m : ℕ) (ds : List ℕ) → n ≤ most → digits_after most n ds ≡ Ok m → Stand most n m ds
stands most n m [] le e = let k : n ≡ m = ok_is n m e in record { digits = tt; value = sym k; fits = rw (← k) le }
stands most n m (b ∷ bs) le e = next_stands most n m b bs (next_number most n b) refl (λ next fits is. stands most next m bs fits is) e

own : IsNumeralModel (AllDigits 10) (digits_value 10)
own = numerals_by_value (AllDigits 10) tells_digits

-- digits with no zero first, or one alone
digits_spelt : (most m : ℕ) (ds : List ℕ) → most < 2 ^ 64 → 0 < length ds → (get_or ds 0 0 ≡ 48 → length ds ≡ 1) → digits_after most 0 ds ≡ Ok m → (ds ≡ decimal m) × (m ≤ most)
digits_spelt most m ds small long lead e =
    let s = stands most 0 m ds (omega arith) e in
    let d : decimal (digits_value 10 ds) ≡ ds = decimal-digits_value own ds s.digits long lead (omega (arith, s.value, s.fits)) in
    (sym d ∙ ap decimal (sym s.value), s.fits)

-- what is read as a number is its text
pub number_spelt : (most m : ℕ) (ds : List ℕ) → most < 2 ^ 64 → number_in most ds ≡ Ok m → (ds ≡ decimal m) × (m ≤ most)
number_spelt most m [] small e = absurd cc
number_spelt most m (b ∷ []) small e = digits_spelt most m (b ∷ []) small (omega arith) (λ z. refl) e
number_spelt most m (b ∷ c ∷ bs) small e =
    elim (cases_lt b 48) [
      | inl lt ↦ let n : (b == 48) ≡ false = grind (arith, nat_tests) in digits_spelt most m (b ∷ c ∷ bs) small (omega arith) (λ z. absurd (omega arith)) (rw n at e)
      | inr ge ↦ elim (cases_lt 48 b) [
        | inl lt ↦ let n : (b == 48) ≡ false = grind (arith, nat_tests) in digits_spelt most m (b ∷ c ∷ bs) small (omega arith) (λ z. absurd (omega arith)) (rw n at e)
        | inr le ↦ let y : (b == 48) ≡ true = grind (arith, nat_tests) in absurd (let k = rw y at e in cc)
      ]
    ]

record IsDigitOf (b d : ℕ) : Type 0 where
  text : b ≡ digit_glyph false d
  small : d < 16

digit_spelt : (b d : ℕ) → digit_in b ≡ Ok d → IsDigitOf b d
digit_spelt b d e =
    elim (cases_lt b 48) [
      | inl lt ↦ absurd (grind (arith, nat_tests))
      | inr ge ↦ elim (cases_lt 57 b) [
        | inr le ↦
            let k : d ≡ b - 48 = grind (arith, nat_tests) in
            record { text = grind (arith, nat_tests); small = omega arith }
        | inl over ↦ elim (cases_lt b 97) [
          | inl lt ↦ absurd (grind (arith, nat_tests))
          | inr from ↦ elim (cases_lt 102 b) [
            | inl lt ↦ absurd (grind (arith, nat_tests))
            | inr le ↦
                let k : d ≡ b - 87 = grind (arith, nat_tests) in
                record { text = grind (arith, nat_tests); small = omega arith }
          ]
        ]
      ]
    ]

pair_text : (a b high low byte : ℕ) → a ≡ digit_glyph false high → b ≡ digit_glyph false low → high < 16 → low < 16 → high * 16 + low ≡ byte → (a ∷ b ∷ [] ≡ byte_text byte) × (byte < 256)
pair_text a b high low byte x y h l k =
    let p : byte / 16 ≡ high = omega arith in
    let q : byte % 16 ≡ low = omega arith in
    (rw (x, y, p, q) refl, omega arith)

-- what is read as one byte is its text
pair_spelt : (a b byte : ℕ) → pair_in a b ≡ Ok byte → (a ∷ b ∷ [] ≡ byte_text byte) × (byte < 256)
pair_spelt a b byte e =
    let h = bind_ok (digit_in a) (λ high. digit_in b >>= λ low. Ok (high * 16 + low)) byte e in
    let l = bind_ok (digit_in b) (λ low. Ok (h.0 * 16 + low)) byte h.2 in
    let x = digit_spelt a h.0 h.1 in
    let y = digit_spelt b l.0 l.1 in
    pair_text a b h.0 l.0 byte x.text y.text x.small y.small (ok_is _ _ l.2)

pub pairs_spelt : (bs text : List ℕ) → pairs_in text ≡ Ok bs → (text ≡ flat_map byte_text bs) × Each IsByte bs
pairs_spelt bs [] e = let k : [] ≡ bs = ok_is _ _ e in rw (← k) (refl, tt)
pairs_spelt bs (a ∷ []) e = absurd cc
pairs_spelt bs (a ∷ b ∷ text) e =
    let p = bind_ok (pair_in a b) (λ byte. pairs_in text >>= λ rest. Ok (byte ∷ rest)) bs e in
    let r = bind_ok (pairs_in text) (λ rest. Ok (p.0 ∷ rest)) bs p.2 in
    let q = pair_spelt a b p.0 p.1 in
    let t = pairs_spelt r.0 text r.1 in
    let k : p.0 ∷ r.0 ≡ bs = ok_is _ _ r.2 in
    rw (← k) (ap (λ (front : List ℕ). front ++ text) q.0 ∙ ap (λ (rest : List ℕ). byte_text p.0 ++ rest) t.0, (q.1, t.1))

-- what is read as bytes is their text
pub bytes_spelt : (bs text : List ℕ) → bytes_in text ≡ Ok bs → (text ≡ bytes_text bs) × Each IsByte bs
bytes_spelt bs [] e = absurd cc
bytes_spelt bs (b ∷ []) e =
    elim (cases_lt b 45) [
      | inl lt ↦ absurd (grind (arith, nat_tests))
      | inr ge ↦ elim (cases_lt 45 b) [
        | inl lt ↦ absurd (grind (arith, nat_tests))
        | inr le ↦
            let z : b ≡ 45 = omega arith in
            let y : (b == 45) ≡ true = grind (arith, nat_tests) in
            let k : [] ≡ bs = ok_is [] bs (rw y at e) in
            rw (z, ← k) (refl, tt)
      ]
    ]
bytes_spelt [] (a ∷ b ∷ text) e = absurd (let t = pairs_spelt [] (a ∷ b ∷ text) e in let k = t.0 in cc)
bytes_spelt (x ∷ bs) (a ∷ b ∷ text) e = pairs_spelt (x ∷ bs) (a ∷ b ∷ text) e
