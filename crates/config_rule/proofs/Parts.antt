-- The parts of a text between its commas.
use Rattle.std.proofs.Common.{◌≡◌, ◌≤◌, ◌<◌, ℕ, suc, ◌+◌, Bool, true, false, List, [], ◌∷◌, length, take, drop, refl, ap, sym, subst, ◌∙◌, Some, None, Option, arith}
use Rattle.std.specs.Prelude.{◌==◌, ◌&&◌, not, position, option_map, if◌then◌else◌}
use Rattle.std.specs.List.{position_from, list_all}
use Rattle.std.proofs.lemmas.Iterator.Adapters.{position_from-zero}
use Rattle.std.proofs.lemmas.Bool.Decides.{nat_tests}
use Rattle.std.proofs.Math.Bool.{and-false, and-true}
use Rattle.pipe_types.specs.Sound.{is_between}
use Rattle.config_rule.specs.SourceText.{parts, before_first, at_comma, is_name, are_names}

abbrev is_comma : ℕ → Bool
is_comma b = b == 44

none_by : (i b : ℕ) (bs : List ℕ) → (position_from is_comma (i + 1) bs ≡ None → parts bs ≡ bs ∷ []) → (is : Bool) → (if is then Some i else position_from is_comma (i + 1) bs) ≡ None
    → (if is then [] ∷ parts bs else before_first b (parts bs)) ≡ (b ∷ bs) ∷ []
none_by i b bs rest true none = cc
none_by i b bs rest false none = ap (before_first b) (rest none)

none_from : (i : ℕ) (text : List ℕ) → position_from is_comma i text ≡ None → parts text ≡ text ∷ []
none_from i [] e = refl
none_from i (b ∷ bs) e = none_by i b bs (none_from (i + 1) bs) (b == 44) e

-- the text is cut before its comma
record IsCut (i j : ℕ) (text : List ℕ) (whole : List (List ℕ)) : Type 0 where
  before : ℕ
  at : j ≡ i + before
  both : whole ≡ take before text ∷ parts (drop (before + 1) text)

cut_by : (i b j : ℕ) (bs : List ℕ) → (position_from is_comma (i + 1) bs ≡ Some j → IsCut (i + 1) j bs (parts bs)) → (is : Bool) → (if is then Some i else position_from is_comma (i + 1) bs) ≡ Some j
    → IsCut i j (b ∷ bs) (if is then [] ∷ parts bs else before_first b (parts bs))
cut_by i b j bs rest true some = let same : i ≡ j = cc in record { before = 0; at = omega (arith, same); both = refl }
cut_by i b j bs rest false some =
    let k = rest some in
    let more : suc k.before + 1 ≡ suc (k.before + 1) = omega arith in
    record {
      before = suc k.before;
      at = omega (arith, k.at);
      both = ap (before_first b) k.both ∙ sym (ap (λ n. (b ∷ take k.before bs) ∷ parts (drop n (b ∷ bs))) more);
    }

cut_from : (i : ℕ) (text : List ℕ) (j : ℕ) → position_from is_comma i text ≡ Some j → IsCut i j text (parts text)
cut_from i [] j e = cc
cut_from i (b ∷ bs) j e = cut_by i b j bs (cut_from (i + 1) bs j) (b == 44) e

-- the first comma ends the first part
parts_cut : (text : List ℕ) (i : ℕ) → position is_comma text ≡ Some i → parts text ≡ take i text ∷ parts (drop (i + 1) text)
parts_cut text i e =
    let k = cut_from 0 text i (sym (position_from-zero is_comma text) ∙ e) in
    let same : k.before ≡ i = omega (arith, k.at) in
    subst (λ d. parts text ≡ take d text ∷ parts (drop (d + 1) text)) same k.both

-- there is a part
pub some_part : (text : List ℕ) → 1 ≤ length (parts text)
some_part [] = omega arith
some_part (b ∷ bs) = by (b == 44) (parts bs)
  where
    by : (is : Bool) (ps : List (List ℕ)) → 1 ≤ length (if is then [] ∷ ps else before_first b ps)
    by true ps = omega arith
    by false [] = omega arith
    by false (p ∷ ps) = omega arith

abbrev halves : List ℕ → ℕ → List ℕ × List ℕ
halves text i = (take i text, drop (i + 1) text)

at_by : (text : List ℕ) (p : List ℕ × List ℕ) (o : Option ℕ) → position is_comma text ≡ o → option_map (halves text) o ≡ Some p → parts text ≡ p.0 ∷ parts p.1
at_by text p None is e = cc
at_by text p (Some i) is e =
    let same : halves text i ≡ p = cc in
    subst (λ (q : List ℕ × List ℕ). parts text ≡ q.0 ∷ parts q.1) same (parts_cut text i is)

-- what stands before the first comma is the first part
pub parts_at : (text : List ℕ) (p : List ℕ × List ℕ) → at_comma text ≡ Some p → parts text ≡ p.0 ∷ parts p.1
parts_at text p e = at_by text p (position is_comma text) refl e

one_by : (text : List ℕ) (o : Option ℕ) → position is_comma text ≡ o → option_map (halves text) o ≡ None → parts text ≡ text ∷ []
one_by text None is e = none_from 0 text (sym (position_from-zero is_comma text) ∙ is)
one_by text (Some i) is e = cc

-- without a comma there is one part
pub parts_one : (text : List ℕ) → at_comma text ≡ None → parts text ≡ text ∷ []
parts_one text e = one_by text (position is_comma text) refl e

within : (n : ℕ) → 2 ≤ n → n ≤ 64 → is_between 2 64 n ≡ true
within n low high = grind (arith, nat_tests)

below : (n : ℕ) → n < 2 → is_between 2 64 n ≡ false
below n low = grind (arith, nat_tests)

above : (n : ℕ) → 64 < n → is_between 2 64 n ≡ false
above n high = grind (arith, nat_tests)

-- a last name behind one or more
pub last_name : (all : List (List ℕ)) (before : ℕ) (last : List ℕ) → 1 ≤ before → before < 64 → length all ≡ before + 1 → list_all is_name all ≡ list_all is_name (last ∷ []) → are_names all ≡ not (length last == 0)
last_name all before last low high count named =
    ap (λ (b : Bool). b && list_all is_name all) (within (length all) (omega (arith, count)) (omega (arith, count))) ∙ (named ∙ and-true (is_name last))

pub too_few : (all : List (List ℕ)) → length all < 2 → are_names all ≡ false
too_few all count = ap (λ (b : Bool). b && list_all is_name all) (below (length all) count)

pub too_many : (all : List (List ℕ)) → 64 < length all → are_names all ≡ false
too_many all count = ap (λ (b : Bool). b && list_all is_name all) (above (length all) count)

-- an empty name
pub unnamed : (all : List (List ℕ)) → list_all is_name all ≡ false → are_names all ≡ false
unnamed all e = ap (λ (b : Bool). is_between 2 64 (length all) && b) e ∙ and-false (is_between 2 64 (length all))
