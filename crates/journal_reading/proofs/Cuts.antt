-- A text cut at a byte.
use Rattle.std.proofs.Common.{◌≡◌, ℕ, zero, suc, ◌+◌, ◌<◌, Bool, true, false, cond, List, [], ◌∷◌, ◌++◌, length, take, drop, refl, ap, sym, ◌∙◌, arith}
use Rattle.std.specs.Prelude.{◌==◌, Option, Some, None, IfSome, IfNone}
use Rattle.std.specs.List.{slice_split, onto_first}
use Rattle.std.proofs.lemmas.Bool.Decides.{nat_tests}
use Rattle.memchr.specs.Find.{is_byte, Nowhere, NoneBefore, Passes}
use Rattle.line_reading.specs.Reading.{is_at}
use Rattle.line_reading.proofs.Spelt.{Lacks, split_none}
use Rattle.reading_laws.specs.Text.{but_last, lines_of}
use Rattle.reading_laws.proofs.Texts.{split_some}
use Rattle.journal_reading.specs.declared.lines.Cut.{Cut}

-- a test that does not hold
not_so : (b : Bool) → (b ≡ true → ⊥) → b ≡ false
not_so true h = absurd (h refl)
not_so false h = refl

lacking : (c : ℕ) (text : List ℕ) → Nowhere (Passes (is_byte c) text) 0 (length text) → Lacks c text
lacking c [] h = tt
lacking c (b ∷ bs) h = (not_so (b == c) (h 0 (omega arith) (omega arith)), lacking c bs (λ k low high. h (suc k) (omega arith) (omega arith)))

-- where no such byte stands there is one part
pub no_cut : (c : ℕ) (text : List ℕ) → Nowhere (Passes (is_byte c) text) 0 (length text) → slice_split (is_at c) text ≡ text ∷ []
no_cut c text h = split_none c text (lacking c text h)

-- the first part, and the parts of what stands behind the byte
pub first_cut : (c : ℕ) (text : List ℕ) (at : ℕ) → NoneBefore (Passes (is_byte c) text) 0 (length text) at → Passes (is_byte c) text at
    → slice_split (is_at c) text ≡ take at text ∷ slice_split (is_at c) (drop (at + 1) text)
first_cut c [] at none is = absurd (let high = none.high in omega arith)
first_cut c (b ∷ bs) zero none is = ap (λ (t : Bool). cond t ([] ∷ slice_split (is_at c) bs) (onto_first b (slice_split (is_at c) bs))) is
first_cut c (b ∷ bs) (suc at) none is =
    let other : (b == c) ≡ false = not_so (b == c) (none.before 0 (omega arith) (omega arith)) in
    let within : at < length bs = (let high = none.high in omega arith) in
    let more = first_cut c bs at (record { low = omega arith; high = within; before = λ k low high. none.before (suc k) (omega arith) (omega arith) }) is in
    let next : suc at + 1 ≡ suc (at + 1) = omega arith in
    let rest : drop (at + 1) bs ≡ drop (suc at + 1) (b ∷ bs) = ap (λ (k : ℕ). drop k (b ∷ bs)) (sym next) in
    ap (λ (t : Bool). cond t ([] ∷ slice_split (is_at c) bs) (onto_first b (slice_split (is_at c) bs))) other
    ∙ (ap (onto_first b) more ∙ ap (λ (xs : List ℕ). (b ∷ take at bs) ∷ slice_split (is_at c) xs) rest)

-- the text is its front, the byte, and what stands behind it
pub parts_cut : (c : ℕ) (text : List ℕ) (at : ℕ) → NoneBefore (Passes (is_byte c) text) 0 (length text) at → Passes (is_byte c) text at → text ≡ take at text ++ c ∷ drop (at + 1) text
parts_cut c [] at none is = absurd (let high = none.high in omega arith)
parts_cut c (b ∷ bs) zero none is =
    let same : b ≡ c = (let here : (b == c) ≡ true = is in grind (arith, nat_tests)) in
    ap (λ (x : ℕ). x ∷ bs) same
parts_cut c (b ∷ bs) (suc at) none is =
    let within : at < length bs = (let high = none.high in omega arith) in
    let more = parts_cut c bs at (record { low = omega arith; high = within; before = λ k low high. none.before (suc k) (omega arith) (omega arith) }) is in
    let next : suc at + 1 ≡ suc (at + 1) = omega arith in
    let rest : drop (at + 1) bs ≡ drop (suc at + 1) (b ∷ bs) = ap (λ (k : ℕ). drop k (b ∷ bs)) (sym next) in
    ap (λ (xs : List ℕ). b ∷ xs) more ∙ ap (λ (xs : List ℕ). (b ∷ take at bs) ++ c ∷ xs) rest

-- and no such byte stands in the front
front_lacks : (c : ℕ) (text : List ℕ) (at : ℕ) → NoneBefore (Passes (is_byte c) text) 0 (length text) at → Lacks c (take at text)
front_lacks c [] zero none = tt
front_lacks c [] (suc at) none = tt
front_lacks c (b ∷ bs) zero none = tt
front_lacks c (b ∷ bs) (suc at) none =
    let within : at < length bs = (let high = none.high in omega arith) in (
      not_so (b == c) (none.before 0 (omega arith) (omega arith)),
      front_lacks c bs at (record { low = omega arith; high = within; before = λ k low high. none.before (suc k) (omega arith) (omega arith) }),
    )

pub front_cut : (c : ℕ) (text : List ℕ) (at : ℕ) → NoneBefore (Passes (is_byte c) text) 0 (length text) at → slice_split (is_at c) (take at text) ≡ take at text ∷ []
front_cut c text at none = split_none c (take at text) (front_lacks c text at none)

-- the first line, where there is one
pub line_cut : (text front rest : List ℕ) → slice_split (is_at 10) text ≡ front ∷ slice_split (is_at 10) rest → lines_of text ≡ front ∷ lines_of rest
line_cut text front rest e =
    let more = split_some (is_at 10) rest in
    ap but_last e ∙ (ap (λ (parts : List (List ℕ)). but_last (front ∷ parts)) more.2 ∙ ap (λ (parts : List (List ℕ)). front ∷ but_last parts) (sym more.2))

pub no_line : (text : List ℕ) → slice_split (is_at 10) text ≡ text ∷ [] → lines_of text ≡ []
no_line text e = ap but_last e

-- the same of what a search found
pub some_line : (text : List ℕ) (found : Option Cut) → IfSome found (λ cut. slice_split (is_at 10) text ≡ cut.front.now ∷ slice_split (is_at 10) cut.rest.now) → IfSome found (λ cut. lines_of text ≡ cut.front.now ∷ lines_of cut.rest.now)
some_line text None h = tt
some_line text (Some cut) h = line_cut text cut.front.now cut.rest.now h

pub none_line : (text : List ℕ) (found : Option Cut) → IfNone found (slice_split (is_at 10) text ≡ text ∷ []) → IfNone found (lines_of text ≡ [])
none_line text None h = no_line text h
none_line text (Some cut) h = tt

pub some_unended : (found : Option Cut) → IfSome found (λ cut. slice_split (is_at 10) cut.front.now ≡ cut.front.now ∷ []) → IfSome found (λ cut. lines_of cut.front.now ≡ [])
some_unended None h = tt
some_unended (Some cut) h = no_line cut.front.now h
