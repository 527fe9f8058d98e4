-- The names in the text of a merged source.
use Rattle.std.proofs.Common.{◌≡◌, ◌≢◌, ◌≤◌, ◌<◌, ℕ, zero, suc, ◌+◌, ◌-◌, Bool, true, false, List, [], ◌∷◌, ◌++◌, length, get_or, cond, refl, ap, sym, ◌∙◌, subst, arith}
use Rattle.std.specs.Prelude.{◌==◌, slice_get, count_by, Option, Some, None, option_map, if◌then◌else◌}
use Rattle.std.specs.List.{list_all}
use Rattle.std.proofs.lemmas.List.Sums.{sum_by-cons}
use Rattle.std.proofs.lemmas.Bool.{ne_eqb, leb-true}
use Rattle.std.proofs.lemmas.Str.Pattern.{IsSplitOnceResult, split_parts}
use denote.Ref.{Bor}
use Rattle.pipe_types.specs.Sound.{is_between}
use Rattle.pipe_laws.proofs.Tests.{and_left, and_right}
use Rattle.config_rule.specs.SourceText.{are_names, before_first, is_name, merged_in, parts}
use Rattle.edge_names.specs.Supplies.{Opened, feed_at, feed_of_names, feed_of_text, fitting, merge_count, names_of}

-- ---- commas

abbrev pub is_comma : ℕ → Bool
is_comma b = b == 44

-- without a comma there is one name
parts_without : (text : List ℕ) → ((i : ℕ) → i < length text → get_or text i 0 ≢ 44) → parts text ≡ text ∷ []
parts_without [] free = refl
parts_without (b ∷ bs) free =
    let other : (b == 44) ≡ false = ne_eqb b 44 (free 0 (omega arith)) in
    rw other (ap (before_first b) (parts_without bs (λ i lt. free (suc i) (omega (arith, lt)))))

-- the first comma ends the first name
parts_before : (name rest : List ℕ) → ((i : ℕ) → i < length name → get_or name i 0 ≢ 44) → parts (name ++ (44 ∷ rest)) ≡ name ∷ parts rest
parts_before [] rest free = refl
parts_before (b ∷ bs) rest free =
    let other : (b == 44) ≡ false = ne_eqb b 44 (free 0 (omega arith)) in
    rw other (ap (before_first b) (parts_before bs rest (λ i lt. free (suc i) (omega (arith, lt)))))

pub split_some : (text : List ℕ) (p : Bor (List ℕ) × Bor (List ℕ)) → IsSplitOnceResult 44 text (Some p) → parts text ≡ p.0.now ∷ parts p.1.now
split_some text p h =
    let cut = split_parts 44 text (Some p) h (omega arith) in
    ap parts cut.0 ∙ parts_before p.0.now p.1.now cut.1

pub split_none : (text : List ℕ) → IsSplitOnceResult 44 text None → parts text ≡ text ∷ []
split_none text h = parts_without text (split_parts 44 text None h (omega arith))

-- there is one name more than there are commas
count_before : (b : ℕ) (ps : List (List ℕ)) → 1 ≤ length ps → length (before_first b ps) ≡ length ps
count_before b [] some = omega (arith, some)
count_before b (p ∷ ps) some = refl

pub count_parts : (text : List ℕ) → length (parts text) ≡ count_by is_comma text + 1
count_parts [] = omega arith
count_parts (b ∷ bs) =
    let all : count_by is_comma (b ∷ bs) ≡ cond (b == 44) 1 0 + count_by is_comma bs = sum_by-cons (λ x. cond (is_comma x) 1 0) b bs in
    by (b == 44) (count_parts bs) ∙ ap (λ n. n + 1) (sym all)
  where
    by : (is : Bool) → length (parts bs) ≡ count_by is_comma bs + 1 → length (if is then [] ∷ parts bs else before_first b (parts bs)) ≡ (cond is 1 0 + count_by is_comma bs) + 1
    by true more = omega (arith, more)
    by false more =
        let same = count_before b (parts bs) (omega (arith, more)) in
        omega (arith, same, more)

-- ---- places

-- what stands behind the first name are the next ones
pub next_place : (names rest : List ℕ) (name : List ℕ) (behind : List ℕ) (i : ℕ) → ((j k : ℕ) → j ≡ i + k → slice_get (parts names) j ≡ slice_get (parts rest) k) → parts rest ≡ name ∷ parts behind
    → (j k : ℕ) → j ≡ i + 1 + k → slice_get (parts names) j ≡ slice_get (parts behind) k
next_place names rest name behind i same cut j k e = same j (suc k) (omega (arith, e)) ∙ ap (λ ps. slice_get ps (suc k)) cut

-- behind the last name there is none
pub no_place : (names rest name : List ℕ) (i place : ℕ) → ((j k : ℕ) → j ≡ i + k → slice_get (parts names) j ≡ slice_get (parts rest) k) → parts rest ≡ name ∷ [] → i < place → None ≡ slice_get (parts names) place
no_place names rest name i place same cut lt = sym (beyond (place - i) (omega (arith, lt)) (omega (arith, lt)))
  where
    beyond : (k : ℕ) → 1 ≤ k → place ≡ i + k → slice_get (parts names) place ≡ None
    beyond zero some e = absurd (omega (arith, some))
    beyond (suc k) some e = same place (suc k) e ∙ ap (λ ps. slice_get ps (suc k)) cut

pub this_place : (names rest name : List ℕ) (others : List (List ℕ)) (place : ℕ) → ((j k : ℕ) → j ≡ place + k → slice_get (parts names) j ≡ slice_get (parts rest) k) → parts rest ≡ name ∷ others → Some name ≡ slice_get (parts names) place
this_place names rest name others place same cut = sym (same place 0 (omega arith) ∙ ap (λ ps. slice_get ps 0) cut)

-- ---- how many

names_count : (names : List (List ℕ)) → are_names names ≡ true → (2 ≤ length names) × (length names ≤ 64)
names_count names fit =
    let between : is_between 2 64 (length names) ≡ true = and_left (is_between 2 64 (length names)) (list_all is_name names) fit in
    (leb-true 2 (length names) (and_left _ _ between), leb-true (length names) 64 (and_right _ _ between))

-- ---- merges

fitted : (o : Option (List ℕ)) (names : List ℕ) → fitting o ≡ Some names → are_names (parts names) ≡ true
fitted (Some own) names e = by (are_names (parts own)) refl e
  where
    by : (b : Bool) → are_names (parts own) ≡ b → (if b then Some own else None) ≡ Some names → are_names (parts names) ≡ true
    by true fits is = let same : own ≡ names = cc in subst (λ n. are_names (parts n) ≡ true) same fits
    by false fits is = cc
fitted None names e = cc

-- the names of a merge are as many as may be
pub names_fit : (splits : Bool) (text names : List ℕ) → names_of splits text ≡ Some names → are_names (parts names) ≡ true
names_fit true text names e = fitted (merged_in text) names e
names_fit false text names e = cc

pub merge_counts : (splits : Bool) (text names : List ℕ) → names_of splits text ≡ Some names → merge_count (Some (feed_of_text splits text)) ≡ Some (length (parts names))
merge_counts splits text names e = ap (λ o. merge_count (Some (feed_of_names o text))) e

pub no_merge : (splits : Bool) (text : List ℕ) → names_of splits text ≡ None → merge_count (Some (feed_of_text splits text)) ≡ None
no_merge splits text e = ap (λ o. merge_count (Some (feed_of_names o text))) e

pub few_names : (splits : Bool) (text names : List ℕ) → names_of splits text ≡ Some names → (2 ≤ length (parts names)) × (length (parts names) ≤ 64)
few_names splits text names e = names_count (parts names) (names_fit splits text names e)

pub merge_at : (splits : Bool) (text names : List ℕ) (place : ℕ) → names_of splits text ≡ Some names → option_map Opened (slice_get (parts names) place) ≡ feed_at (Some (feed_of_text splits text)) place
merge_at splits text names place e = sym (ap (λ o. feed_at (Some (feed_of_names o text)) place) e)

pub one_at : (splits : Bool) (text : List ℕ) (place : ℕ) → names_of splits text ≡ None → Some (Opened text) ≡ feed_at (Some (feed_of_text splits text)) place
one_at splits text place e = sym (ap (λ o. feed_at (Some (feed_of_names o text)) place) e)

-- a text that is no merge is opened as it stands
pub uncounted : (splits : Bool) (text : List ℕ) (place : ℕ) → merge_count (Some (feed_of_text splits text)) ≡ None → feed_at (Some (feed_of_text splits text)) place ≡ Some (Opened text)
uncounted splits text place e = by (names_of splits text) e
  where
    by : (o : Option (List ℕ)) → merge_count (Some (feed_of_names o text)) ≡ None → feed_at (Some (feed_of_names o text)) place ≡ Some (Opened text)
    by (Some names) none = cc
    by None none = refl
