-- What a chain of readings came from, and the words and rows of a table.
use Rattle.std.proofs.Common.{◌≡◌, ℕ, Bool, true, false, cond, List, [], ◌∷◌, ◌++◌, map, Result, Ok, Err, refl, sym, ap, subst, ◌∙◌, append_assoc}
use Rattle.std.specs.Prelude.{decimal, codes, bytes_eq}
use Rattle.std.specs.List.{flat_map, slice_split, join_with_byte}
use Rattle.std.proofs.lemmas.List.{append-nil}
use Rattle.std.proofs.lemmas.List.Splits.{join_with_byte-slice_split}
use Rattle.std.proofs.lemmas.Slice.Eq.{bytes_eq-Decides}
use Rattle.journal_texts.specs.Words.{number_word, words}
use Rattle.line_reading.specs.declared.fault.Fault.{Fault}
use Rattle.line_reading.specs.Reading.{◌>>=◌, is_at}
use Rattle.line_reading.specs.Lines.{Row, by_rows, by_first, word_in}
use Rattle.line_reading.specs.Spelling.{Each}
use Rattle.line_reading.proofs.Spelt.{ok_is}

-- ---- readings that do not need each other

pub record One {A C : Type 0} (ra : Result A Fault) (k : A → C) (y : C) : Type 0 where
  pub a : A
  pub a_is : ra ≡ Ok a
  pub all : k a ≡ y

pub one : {A C : Type 0} (ra : Result A Fault) (k : A → C) (y : C) → (ra >>= λ a. Ok (k a)) ≡ Ok y → One ra k y
one (Ok a) k y e = record { a = a; a_is = refl; all = ok_is _ _ e }
one (Err f) k y e = absurd cc

pub record Two {A B C : Type 0} (ra : Result A Fault) (rb : Result B Fault) (k : A → B → C) (y : C) : Type 0 where
  pub a : A
  pub b : B
  pub a_is : ra ≡ Ok a
  pub b_is : rb ≡ Ok b
  pub all : k a b ≡ y

pub two : {A B C : Type 0} (ra : Result A Fault) (rb : Result B Fault) (k : A → B → C) (y : C) → (ra >>= λ a. rb >>= λ b. Ok (k a b)) ≡ Ok y → Two ra rb k y
two (Ok a) rb k y e = let t = one rb (k a) y e in record { a = a; b = t.a; a_is = refl; b_is = t.a_is; all = t.all }
two (Err f) rb k y e = absurd cc

pub record Three {A B C D : Type 0} (ra : Result A Fault) (rb : Result B Fault) (rc : Result C Fault) (k : A → B → C → D) (y : D) : Type 0 where
  pub a : A
  pub b : B
  pub c : C
  pub a_is : ra ≡ Ok a
  pub b_is : rb ≡ Ok b
  pub c_is : rc ≡ Ok c
  pub all : k a b c ≡ y

pub three : {A B C D : Type 0} (ra : Result A Fault) (rb : Result B Fault) (rc : Result C Fault) (k : A → B → C → D) (y : D)
    → (ra >>= λ a. rb >>= λ b. rc >>= λ c. Ok (k a b c)) ≡ Ok y → Three ra rb rc k y
three (Ok a) rb rc k y e = let t = two rb rc (k a) y e in record { a = a; b = t.a; c = t.b; a_is = refl; b_is = t.a_is; c_is = t.b_is; all = t.all }
three (Err f) rb rc k y e = absurd cc

pub record Four {A B C D E : Type 0} (ra : Result A Fault) (rb : Result B Fault) (rc : Result C Fault) (rd : Result D Fault) (k : A → B → C → D → E) (y : E) : Type 0 where
  pub a : A
  pub b : B
  pub c : C
  pub d : D
  pub a_is : ra ≡ Ok a
  pub b_is : rb ≡ Ok b
  pub c_is : rc ≡ Ok c
  pub d_is : rd ≡ Ok d
  pub all : k a b c d ≡ y

pub four : {A B C D E : Type 0} (ra : Result A Fault) (rb : Result B Fault) (rc : Result C Fault) (rd : Result D Fault) (k : A → B → C → D → E) (y : E)
    → (ra >>= λ a. rb >>= λ b. rc >>= λ c. rd >>= λ d. Ok (k a b c d)) ≡ Ok y → Four ra rb rc rd k y
four (Ok a) rb rc rd k y e =
    let t = three rb rc rd (k a) y e in
    record { a = a; b = t.a; c = t.b; d = t.c; a_is = refl; b_is = t.a_is; c_is = t.b_is; d_is = t.c_is; all = t.all }
four (Err f) rb rc rd k y e = absurd cc

-- ---- a value that passed a test

pub tested : {A : Type 0} (test : Bool) (f : Fault) (x y : A) → cond test (Ok x) (Err f) ≡ Ok y → (test ≡ true) × (x ≡ y)
tested true f x y e = (refl, ok_is x y e)
tested false f x y e = absurd cc

pub chosen : {A : Type 0} (b : Bool) (x y z : A) (P : Type 0) → cond b x y ≡ z → (b ≡ true → x ≡ z → P) → (y ≡ z → P) → P
chosen true x y z P e f g = f refl e
chosen false x y z P e f g = g e

-- ---- words of which there are few

pub word_spelt : {A : Type 0} (P : List ℕ → A → Type 0) (f : Fault) (table : List (List ℕ × A)) → Each (λ (row : List ℕ × A). P row.0 row.1) table → (w : List ℕ) (x : A) → word_in f table w ≡ Ok x → P w x
word_spelt P f [] h w x e = absurd cc
word_spelt P f (row ∷ table) h w x e =
    chosen (bytes_eq w row.0) (Ok row.1) (word_in f table w) (Ok x) (P w x) e
    (λ same is. subst (λ (v : List ℕ). P v x) (sym ((bytes_eq-Decides w row.0).0 same)) (subst (P row.0) (ok_is row.1 x is) h.0))
    (λ is. word_spelt P f table h.1 w x is)

-- ---- parts

-- what a row reads has the text of its parts, joined and in a frame
abbrev pub SpellsIn : {A : Type 0} → (List (List ℕ) → List ℕ) → (A → List ℕ) → (A → Type 0) → Row A → Type 0
SpellsIn {A} frame text P row = (ws : List (List ℕ)) (x : A) → row.1 ws ≡ Ok x → (frame (row.0 ∷ ws) ≡ text x) × P x

abbrev pub Spells : {A : Type 0} → ℕ → (A → List ℕ) → (A → Type 0) → Row A → Type 0
Spells c = SpellsIn (join_with_byte c)

-- so what all rows read has it
pub rows_spell : {A : Type 0} (frame : List (List ℕ) → List ℕ) (text : A → List ℕ) (P : A → Type 0) (f : Fault) (table : List (Row A)) → Each (SpellsIn frame text P) table
    → (w : List ℕ) (ws : List (List ℕ)) (x : A) → by_rows f table w ws ≡ Ok x → (frame (w ∷ ws) ≡ text x) × P x
rows_spell frame text P f [] h w ws x e = absurd cc
rows_spell frame text P f (row ∷ table) h w ws x e =
    chosen (bytes_eq w row.0) (row.1 ws) (by_rows f table w ws) (Ok x) ((frame (w ∷ ws) ≡ text x) × P x) e
    (λ same is. let r = h.0 ws x is in (ap (λ (v : List ℕ). frame (v ∷ ws)) ((bytes_eq-Decides w row.0).0 same) ∙ r.0, r.1))
    (λ is. rows_spell frame text P f table h.1 w ws x is)

parts_spell : {A : Type 0} (c : ℕ) (text : A → List ℕ) (P : A → Type 0) (f : Fault) (table : List (Row A)) → Each (Spells c text P) table
    → (parts : List (List ℕ)) (x : A) → by_first f table parts ≡ Ok x → (join_with_byte c parts ≡ text x) × P x
parts_spell c text P f table h [] x e = absurd cc
parts_spell c text P f table h (w ∷ ws) x e = rows_spell (join_with_byte c) text P f table h w ws x e

-- and what is read of a whole text
pub text_spells : {A : Type 0} (c : ℕ) (text : A → List ℕ) (P : A → Type 0) (f : Fault) (table : List (Row A)) → Each (Spells c text P) table
    → (line : List ℕ) (x : A) → by_first f table (slice_split (is_at c) line) ≡ Ok x → (line ≡ text x) × P x
text_spells c text P f table h line x e =
    let r = parts_spell c text P f table h (slice_split (is_at c) line) x e in
    (sym (join_with_byte-slice_split c line) ∙ r.0, r.1)

-- the same of another value that is equal
pub moved : {A : Type 0} (line : List ℕ) (text : A → List ℕ) (P : A → Type 0) (x y : A) → x ≡ y → line ≡ text x → P x → (line ≡ text y) × P y
moved line text P x y e t p = (t ∙ ap text e, subst P e p)

-- ---- words joined

pub cons_is : {A : Type 0} (x y : A) (xs ys : List A) → x ≡ y → xs ≡ ys → x ∷ xs ≡ y ∷ ys
cons_is x y xs ys e f = cc

-- a word and numbers
pub join_words : (w : List ℕ) (ns : List ℕ) → join_with_byte 32 (w ∷ map decimal ns) ≡ words w ns
join_words w [] = sym (append-nil w)
join_words w (n ∷ ns) = ap (λ (t : List ℕ). w ++ (32 ∷ t)) (join_words (decimal n) ns)

spaced : (w numbers rest : List ℕ) → w ++ (32 ∷ (numbers ++ (32 ∷ []) ++ rest)) ≡ (w ++ (32 ∷ numbers)) ++ (32 ∷ []) ++ rest
spaced w numbers rest = simp append_assoc

-- and more words
pub join_words_and : (w : List ℕ) (ns : List ℕ) (r : List ℕ) (rs : List (List ℕ)) → join_with_byte 32 (w ∷ (map decimal ns ++ (r ∷ rs))) ≡ words w ns ++ codes " " ++ join_with_byte 32 (r ∷ rs)
join_words_and w [] r rs = simp (append-nil, append_assoc)
join_words_and w (n ∷ ns) r rs =
    ap (λ (t : List ℕ). w ++ (32 ∷ t)) (join_words_and (decimal n) ns r rs) ∙ spaced w (decimal n ++ flat_map number_word ns) (join_with_byte 32 (r ∷ rs))
