-- Which number of a range a text spells.
use Rattle.std.proofs.Common.{◌≡◌, ◌∙◌, ◌<◌, ◌≤◌, ◌^◌, ℕ, Bool, true, false, List, Option, Some, None, Result, Ok, Err, arith, refl, sym, ap, decimal, true≢false, ◌&&◌, if◌then◌else◌, nat_le}
use Rattle.std.specs.Str.{bytes_eq}
use Rattle.std.specs.Str.Parse.{ParsesUnsigned, digits_value}
use Rattle.std.proofs.lemmas.Fmt.{decimal_is_IsNumeral, parse-decimal}
use Rattle.std.proofs.lemmas.Bool.{leb-true}
use Rattle.std.proofs.lemmas.Slice.Eq.{bytes_eq-Decides}
use Rattle.pipe_types.specs.Sound.{is_between}
use Rattle.program_words.specs.Words.{number_in}

-- the text is how the number is written, which is in the range
abbrev pub is_text_of : (low high : ℕ) → (text : List ℕ) → (n : ℕ) → Bool
is_text_of low high text n = is_between low high n && bytes_eq text (decimal n)

both : (a b : Bool) → (a && b) ≡ true → (a ≡ true) × (b ≡ true)
both true true is = (refl, refl)
both true false is = absurd (true≢false (sym is))
both false b is = absurd (true≢false (sym is))

text_is : (low high n : ℕ) (text : List ℕ) → is_text_of low high text n ≡ true → text ≡ decimal n
text_is low high n text is = (bytes_eq-Decides text (decimal n)).0 (both (is_between low high n) (bytes_eq text (decimal n)) is).1

value_is : (n : ℕ) (text : List ℕ) → n < 2 ^ 64 → text ≡ decimal n → digits_value 10 text ≡ n
value_is n text fits is = ap (digits_value 10) is ∙ (decimal_is_IsNumeral n fits).1

pub is_number : (low high n : ℕ) (text : List ℕ) → n < 2 ^ 64 → true ≡ is_text_of low high text n → Some n ≡ number_in low high text
unfolding number_in
is_number low high n text fits is =
    let value : digits_value 10 text ≡ n = value_is n text fits (text_is low high n text (sym is)) in
    rw (value, sym is) refl

-- no number of the range is spelled so
none_spelled : (low high : ℕ) (text : List ℕ) → ((n : ℕ) → is_text_of low high text n ≡ true → ⊥) → None ≡ number_in low high text
unfolding number_in
none_spelled low high text other = go (is_text_of low high text (digits_value 10 text)) refl
  where
    go : (b : Bool) → is_text_of low high text (digits_value 10 text) ≡ b → ◌≡◌ {A = Option ℕ} None (if b then Some (digits_value 10 text) else None)
    go true is = absurd (other (digits_value 10 text) is)
    go false is = refl

low_high : (low high n : ℕ) (text : List ℕ) → is_text_of low high text n ≡ true → n ≤ high
low_high low high n text is = leb-true n high (both (nat_le low n) (nat_le n high) (both (is_between low high n) (bytes_eq text (decimal n)) is).0).1

-- the text spells a number that is not of the range, or spells it otherwise
pub is_other : (low high n : ℕ) (text : List ℕ) → high < 2 ^ 32 → ParsesUnsigned {E = ℕ} 32 10 text (Ok n) → false ≡ is_text_of low high text n → None ≡ number_in low high text
is_other low high n text few reads other = none_spelled low high text (λ m is.
    let most : m ≤ high = low_high low high m text is in
    let read : ◌≡◌ {A = Result ℕ ℕ} (Ok n) (Ok m) = parse-decimal {E = ℕ} 32 m text (Ok n) (omega arith) (omega arith) (text_is low high m text is) reads in
    let same : n ≡ m = cc in
    true≢false (sym is ∙ ap (is_text_of low high text) (sym same) ∙ sym other))

-- it spells no number
pub is_unread : (low high : ℕ) (text : List ℕ) → high < 2 ^ 32 → ParsesUnsigned {E = ℕ} 32 10 text (Err 0) → None ≡ number_in low high text
is_unread low high text few reads = none_spelled low high text (λ m is.
    let most : m ≤ high = low_high low high m text is in
    let read : ◌≡◌ {A = Result ℕ ℕ} (Err 0) (Ok m) = parse-decimal {E = ℕ} 32 m text (Err 0) (omega arith) (omega arith) (text_is low high m text is) reads in
    cc)
