-- The open batches without that of one key.
use Rattle.std.proofs.Common.{◌≡◌, ℕ, zero, suc, ◌≤◌, List, [], ◌∷◌, map, Bool, true, false, refl, ap, sym, ◌∙◌, Some, subst, cond, All, arith}
use Rattle.std.specs.Prelude.{◌&&◌, not, filter, bytes_eq, slice_get, remove, slice_index_or}
use Rattle.pipe_types.specs.declared.numbers.StageNo.{StageNo}
use Rattle.pipe_types.specs.declared.numbers.MsgNo.{MsgNo}
use Rattle.pipe_types.specs.declared.message.Trigger.{Trigger}
use Rattle.pipe_types.specs.declared.step.Step.TheVariants.{Close}
use Rattle.pipe_model.specs.History.{History}
use Rattle.pipe_model.specs.Content.{content, key_in}
use Rattle.pipe_model.specs.Flow.{first_in, is_empty}
use Rattle.pipe_model.specs.Legal.{gathered_at, ends_in_flush}
use Rattle.pipe_model.specs.Standing.{of_key}
use Rattle.pipe_laws.proofs.Lists.{Each, each_always, each_weaker, each_filter}
use Rattle.pipe_laws.proofs.Tests.{not_true}
use Rattle.queue_laws.proofs.Filters.{filter_both, filter_all}
use Rattle.core_laws.specs.Columns.{open_of, keys_of, open_batches}
use Rattle.core_batches.proofs.Opens.{same_bytes, self_bytes, other_bytes, flip_bytes, each_same, without, Different, keys_different}

-- the messages of the other keys
abbrev pub others : History → List ℕ → List ℕ → List ℕ
others before key ns = filter (λ n. not (bytes_eq (key_in (content before n)) key)) ns

-- Keys

without_twice : (x : List ℕ) (keys : List (List ℕ)) → without x (without x keys) ≡ without x keys
without_twice x keys =
    filter_all (λ k. not (bytes_eq x k)) (without x keys)
    (each_weaker (λ k. Unit {0} × (not (bytes_eq x k) ≡ true)) (λ k. not (bytes_eq x k) ≡ true) (λ k p. p.1) (without x keys)
    (each_filter (λ k. Unit {0}) (λ k. not (bytes_eq x k)) keys (each_always (λ k. Unit {0}) (λ k. tt) keys)))

without_either : (x y : List ℕ) (keys : List (List ℕ)) → without x (without y keys) ≡ without y (without x keys)
without_either x y [] = refl
without_either x y (k ∷ keys) = by (not (bytes_eq x k)) (not (bytes_eq y k)) refl refl (without_either x y keys)
  where
    by : (a b : Bool) → not (bytes_eq x k) ≡ a → not (bytes_eq y k) ≡ b → without x (without y keys) ≡ without y (without x keys)
        → without x (cond (not (bytes_eq y k)) (k ∷ without y keys) (without y keys)) ≡ without y (cond (not (bytes_eq x k)) (k ∷ without x keys) (without x keys))
    by a b e f rest =
        ap (λ q. without x (cond q (k ∷ without y keys) (without y keys))) f
        ∙ (left b
        ∙ (ap (λ p. cond b (cond p (k ∷ without x (without y keys)) (without x (without y keys))) (without x (without y keys))) e
        ∙ (ap (λ ks. cond b (cond a (k ∷ ks) ks) ks) rest
        ∙ (turn a b (without y (without x keys))
        ∙ (sym (ap (λ q. cond a (cond q (k ∷ without y (without x keys)) (without y (without x keys))) (without y (without x keys))) f)
        ∙ (sym (right a)
        ∙ sym (ap (λ p. without y (cond p (k ∷ without x keys) (without x keys))) e)))))))
      where
        left : (q : Bool) → without x (cond q (k ∷ without y keys) (without y keys)) ≡ cond q (cond (not (bytes_eq x k)) (k ∷ without x (without y keys)) (without x (without y keys))) (without x (without y keys))
        left true = refl
        left false = refl

        right : (p : Bool) → without y (cond p (k ∷ without x keys) (without x keys)) ≡ cond p (cond (not (bytes_eq y k)) (k ∷ without y (without x keys)) (without y (without x keys))) (without y (without x keys))
        right true = refl
        right false = refl

        turn : (p q : Bool) (ks : List (List ℕ)) → cond q (cond p (k ∷ ks) ks) ks ≡ cond p (cond q (k ∷ ks) ks) ks
        turn true true ks = refl
        turn true false ks = refl
        turn false true ks = refl
        turn false false ks = refl

keys_others : (before : History) (key ns : List ℕ) → keys_of before (others before key ns) ≡ without key (keys_of before ns)
keys_others before key [] = refl
keys_others before key (n ∷ ns) = by (bytes_eq (key_in (content before n)) key) refl (keys_others before key ns)
  where
    by : (b : Bool) → bytes_eq (key_in (content before n)) key ≡ b → keys_of before (others before key ns) ≡ without key (keys_of before ns)
        → keys_of before (cond (not b) (n ∷ others before key ns) (others before key ns)) ≡ without key (key_in (content before n) ∷ without (key_in (content before n)) (keys_of before ns))
    by true e rest =
        let is : key_in (content before n) ≡ key = same_bytes (key_in (content before n)) key e in
        rest
        ∙ (sym (without_twice key (keys_of before ns))
        ∙ (ap (λ k. without key (without k (keys_of before ns))) (sym is)
        ∙ sym (ap (λ b. cond (not b) (key_in (content before n) ∷ without key (without (key_in (content before n)) (keys_of before ns))) (without key (without (key_in (content before n)) (keys_of before ns)))) (flip_bytes (key_in (content before n)) key e))))
    by false e rest =
        ap (λ ks. key_in (content before n) ∷ without (key_in (content before n)) ks) rest
        ∙ (ap (λ ks. key_in (content before n) ∷ ks) (without_either (key_in (content before n)) key (keys_of before ns))
        ∙ sym (ap (λ b. cond (not b) (key_in (content before n) ∷ without key (without (key_in (content before n)) (keys_of before ns))) (without key (without (key_in (content before n)) (keys_of before ns)))) (other_bytes (key_in (content before n)) key e)))

of_key_others : (before : History) (key other ns : List ℕ) → bytes_eq key other ≡ false → of_key before other (others before key ns) ≡ of_key before other ns
of_key_others before key other ns apart =
    sym (filter_both (λ n. not (bytes_eq (key_in (content before n)) key)) (λ n. bytes_eq (key_in (content before n)) other) (λ n. bytes_eq (key_in (content before n)) other) ns
    (each_always (λ n. bytes_eq (key_in (content before n)) other ≡ (not (bytes_eq (key_in (content before n)) key) && bytes_eq (key_in (content before n)) other))
    (λ n. by (key_in (content before n)) (bytes_eq (key_in (content before n)) key) refl) ns))
  where
    by : (k : List ℕ) (b : Bool) → bytes_eq k key ≡ b → bytes_eq k other ≡ (not b && bytes_eq k other)
    by k true e = ap (λ y. bytes_eq y other) (same_bytes k key e) ∙ apart
    by k false e = refl

-- Open batches

opens_others : (before : History) (key ns : List ℕ) → open_batches before (others before key ns) ≡ map (open_of before ns) (without key (keys_of before ns))
opens_others before key ns =
    ap (map (open_of before (others before key ns))) (keys_others before key ns)
    ∙ each_same (open_of before (others before key ns)) (open_of before ns) (without key (keys_of before ns))
    (each_weaker (λ k. Unit {0} × (not (bytes_eq key k) ≡ true)) (λ k. open_of before (others before key ns) k ≡ open_of before ns k)
    (λ k p. ap (λ xs. record { key = k; numbers = xs; flush = ends_in_flush before xs; opened = gathered_at before (first_in xs) }) (of_key_others before key k ns (not_true (bytes_eq key k) p.1)))
    (without key (keys_of before ns))
    (each_filter (λ k. Unit {0}) (λ k. not (bytes_eq key k)) (keys_of before ns) (each_always (λ k. Unit {0}) (λ k. tt) (keys_of before ns))))

-- a close changes no open batch by itself
keys_closed : (before : History) (s : StageNo) (first : MsgNo) (trigger : Trigger) (ns : List ℕ) → keys_of (Close s first trigger ∷ before) ns ≡ keys_of before ns
keys_closed before s first trigger [] = refl
keys_closed before s first trigger (n ∷ ns) = ap (λ ks. key_in (content before n) ∷ without (key_in (content before n)) ks) (keys_closed before s first trigger ns)

flush_closed : (before : History) (s : StageNo) (first : MsgNo) (trigger : Trigger) (xs : List ℕ) → ends_in_flush (Close s first trigger ∷ before) xs ≡ ends_in_flush before xs
flush_closed before s first trigger [] = refl
flush_closed before s first trigger (x ∷ xs) = refl

pub opens_closed : (before : History) (s : StageNo) (first : MsgNo) (trigger : Trigger) (ns : List ℕ) → open_batches (Close s first trigger ∷ before) ns ≡ open_batches before ns
opens_closed before s first trigger ns =
    ap (map (open_of (Close s first trigger ∷ before) ns)) (keys_closed before s first trigger ns)
    ∙ each_same (open_of (Close s first trigger ∷ before) ns) (open_of before ns) (keys_of before ns)
    (each_always (λ key. open_of (Close s first trigger ∷ before) ns key ≡ open_of before ns key)
    (λ key. ap (λ f. record { key = key; numbers = of_key before key ns; flush = f; opened = gathered_at before (first_in (of_key before key ns)) }) (flush_closed before s first trigger (of_key before key ns))) (keys_of before ns))

pub each_at : {A : Type 0} (P : A → Type 0) (xs : List A) (i : ℕ) (x : A) → Each P xs → slice_get xs i ≡ Some x → P x
each_at P [] i x h e = cc
each_at P (y ∷ ys) zero x h e = let is : y ≡ x = cc in subst P is h.0
each_at P (y ∷ ys) (suc i) x h e = each_at P ys i x h.1 e

without_none : (x : List ℕ) (keys : List (List ℕ)) → Each (λ other. bytes_eq x other ≡ false) keys → without x keys ≡ keys
without_none x keys h = filter_all (λ k. not (bytes_eq x k)) keys (each_weaker (λ other. bytes_eq x other ≡ false) (λ other. not (bytes_eq x other) ≡ true) (λ other p. ap not p) keys h)

removed_key : {B : Type 0} (f : List ℕ → B) (keys : List (List ℕ)) (i : ℕ) (key : List ℕ) → Different keys → slice_get keys i ≡ Some key → remove (map f keys) i ≡ map f (without key keys)
removed_key f [] i key h e = cc
removed_key f (k ∷ keys) zero key h e =
    let is : k ≡ key = cc in
    sym (ap (λ b. map f (cond (not b) (k ∷ without key keys) (without key keys))) (ap (bytes_eq key) is ∙ self_bytes key)
    ∙ (ap (λ y. map f (without y keys)) (sym is) ∙ ap (map f) (without_none k keys h.0)))
removed_key f (k ∷ keys) (suc i) key h e =
    let apart : bytes_eq key k ≡ false = other_bytes k key (each_at (λ other. bytes_eq k other ≡ false) keys i key h.0 e) in
    ap (λ ys. f k ∷ ys) (removed_key f keys i key h.1 e)
    ∙ sym (ap (λ b. map f (cond (not b) (k ∷ without key keys) (without key keys))) apart)

-- the open batches without that of the key
pub opens_removed : (before : History) (ns : List ℕ) (i : ℕ) (key : List ℕ) → slice_get (keys_of before ns) i ≡ Some key → remove (open_batches before ns) i ≡ open_batches before (others before key ns)
opens_removed before ns i key e = removed_key (open_of before ns) (keys_of before ns) i key (keys_different before ns) e ∙ sym (opens_others before key ns)

-- Which batch it is

-- the batch at that place has the key at that place
pub open_at : {B : Type 0} (f : List ℕ → B) (keys : List (List ℕ)) (i : ℕ) (x : B) → slice_get (map f keys) i ≡ Some x → (key : List ℕ) × (slice_get keys i ≡ Some key) × (f key ≡ x)
open_at f [] i x e = cc
open_at f (k ∷ keys) zero x e = let is : f k ≡ x = cc in (k, refl, is)
open_at f (k ∷ keys) (suc i) x e = open_at f keys i x e

-- what holds of each key holds of a key that a message has
unfiltered : (P : List ℕ → Type 0) (x : List ℕ) (keys : List (List ℕ)) → Each P (without x keys) → Each (λ k. bytes_eq x k ≡ false → P k) keys
unfiltered P x [] h = tt
unfiltered P x (k ∷ keys) h = by (bytes_eq x k) refl h (unfiltered P x keys)
  where
    by : (b : Bool) → bytes_eq x k ≡ b → Each P (cond (not b) (k ∷ without x keys) (without x keys)) → (Each P (without x keys) → Each (λ y. bytes_eq x y ≡ false → P y) keys)
        → Each (λ y. bytes_eq x y ≡ false → P y) (k ∷ keys)
    by true e h rest = (λ f. (let wrong : true ≡ false = sym e ∙ f in cc), rest h)
    by false e h rest = (λ f. h.0, rest h.1)

pub of_some_key : (before : History) (P : List ℕ → Type 0) (key ns : List ℕ) → Each P (keys_of before ns) → is_empty (of_key before key ns) ≡ false → P key
of_some_key before P key [] h some = cc
of_some_key before P key (n ∷ ns) h some =
    by (bytes_eq (key_in (content before n)) key) refl some
    (of_some_key before (λ k. bytes_eq (key_in (content before n)) k ≡ false → P k) key ns (unfiltered P (key_in (content before n)) (keys_of before ns) h.1))
  where
    by : (b : Bool) → bytes_eq (key_in (content before n)) key ≡ b → is_empty (cond b (n ∷ of_key before key ns) (of_key before key ns)) ≡ false
        → (is_empty (of_key before key ns) ≡ false → bytes_eq (key_in (content before n)) key ≡ false → P key) → P key
    by true e some rest = subst P (same_bytes (key_in (content before n)) key e) h.0
    by false e some rest = rest some e

pub each_of_all : {A : Type 0} (P : A → Type 0) (xs : List A) → All P xs → Each P xs
each_of_all P [] h = tt
each_of_all P (x ∷ xs) h = (h 0 x (omega arith), each_of_all P xs (λ k d below. h (suc k) d (omega (arith, below))))

pub each_mapped : {A B : Type 0} (P : B → Type 0) (f : A → B) (xs : List A) → Each P (map f xs) → Each (λ x. P (f x)) xs
each_mapped P f [] h = tt
each_mapped P f (x ∷ xs) h = (h.0, each_mapped P f xs h.1)

pub first_is : (xs : List ℕ) → slice_index_or xs 0 0 ≡ first_in xs
first_is [] = refl
first_is (x ∷ xs) = refl

-- the first of some numbers is one of them
pub of_first : (P : ℕ → Type 0) (xs : List ℕ) → 1 ≤ first_in xs → Each P xs → P (first_in xs)
of_first P [] low h = absurd (omega arith)
of_first P (x ∷ xs) low h = h.0

-- each message of a key has the key
pub key_of_first : (before : History) (key ns : List ℕ) → 1 ≤ first_in (of_key before key ns) → key_in (content before (first_in (of_key before key ns))) ≡ key
key_of_first before key ns low =
    same_bytes (key_in (content before (first_in (of_key before key ns)))) key
    (of_first (λ n. bytes_eq (key_in (content before n)) key ≡ true) (of_key before key ns) low
    (each_weaker (λ n. Unit {0} × (bytes_eq (key_in (content before n)) key ≡ true)) (λ n. bytes_eq (key_in (content before n)) key ≡ true) (λ n p. p.1) (of_key before key ns)
    (each_filter (λ n. Unit {0}) (λ n. bytes_eq (key_in (content before n)) key) ns (each_always (λ n. Unit {0}) (λ n. tt) ns))))
