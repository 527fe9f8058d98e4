-- The open batches after a gather.
use Rattle.std.proofs.Common.{◌≡◌, ℕ, ◌≤◌, List, [], ◌∷◌, ◌++◌, map, length, Bool, true, false, refl, ap, sym, ◌∙◌, arith, cond}
use Rattle.std.specs.Prelude.{if◌then◌else◌, ◌==◌, ◌&&◌, not, nat_lt, filter, bytes_eq}
use Rattle.std.proofs.lemmas.Bool.{eq-eqb, false_from_ne_true}
use Rattle.std.proofs.lemmas.Bool.Decides.{nat_tests}
use Rattle.std.proofs.lemmas.List.{append-nil}
use Rattle.std.proofs.lemmas.Slice.Eq.{bytes_eq-Decides}
use Rattle.pipe_types.specs.declared.numbers.StageNo.{StageNo}
use Rattle.pipe_types.specs.declared.numbers.MsgNo.{MsgNo}
use Rattle.pipe_types.specs.declared.step.Step.TheVariants.{Gather}
use Rattle.pipe_model.specs.History.{History, now}
use Rattle.pipe_model.specs.Content.{content, key_in, flush_in}
use Rattle.pipe_model.specs.Flow.{first_in, is_empty}
use Rattle.pipe_model.specs.Legal.{gathered_at, ends_in_flush, last_in}
use Rattle.pipe_model.specs.Standing.{of_key}
use Rattle.pipe_laws.proofs.Tests.{clash, not_true}
use Rattle.pipe_laws.proofs.Lists.{Each, each_always, each_weaker, each_filter}
use Rattle.queue_laws.proofs.Filters.{filter_split}
use Rattle.batcher.specs.Batches.{gathered, joined, fits, takes_more}
use Rattle.core_laws.specs.Columns.{open_of, keys_of, open_batches}

-- Keys

pub same_bytes : (a b : List ℕ) → bytes_eq a b ≡ true → a ≡ b
same_bytes a b h = (bytes_eq-Decides a b).0 h

pub self_bytes : (a : List ℕ) → bytes_eq a a ≡ true
self_bytes a = (bytes_eq-Decides a a).1 refl

pub other_bytes : (a b : List ℕ) → bytes_eq a b ≡ false → bytes_eq b a ≡ false
other_bytes a b e = false_from_ne_true (bytes_eq b a) (λ h. clash (bytes_eq a b) (ap (bytes_eq a) (same_bytes b a h) ∙ self_bytes a) e)

pub flip_bytes : (a b : List ℕ) → bytes_eq a b ≡ true → bytes_eq b a ≡ true
flip_bytes a b h = ap (bytes_eq b) (same_bytes a b h) ∙ self_bytes b

-- a key behind the others, where it is not one of them
abbrev add_key : List (List ℕ) → List ℕ → List (List ℕ)
add_key [] key = key ∷ []
add_key (k ∷ keys) key = if bytes_eq key k then k ∷ keys else k ∷ add_key keys key

abbrev pub without : List ℕ → List (List ℕ) → List (List ℕ)
without x keys = filter (λ k. not (bytes_eq x k)) keys

without_same : (x key : List ℕ) (keys : List (List ℕ)) → bytes_eq x key ≡ true → without x (add_key keys key) ≡ without x keys
without_same x key [] e = ap (λ b. cond (not b) (key ∷ []) []) e
without_same x key (k ∷ keys) e = by (bytes_eq key k) (without_same x key keys e)
  where
    by : (b : Bool) → without x (add_key keys key) ≡ without x keys → without x (if b then k ∷ keys else k ∷ add_key keys key) ≡ without x (k ∷ keys)
    by true rest = refl
    by false rest = ap (λ ks. cond (not (bytes_eq x k)) (k ∷ ks) ks) rest

without_other : (x key : List ℕ) (keys : List (List ℕ)) → bytes_eq x key ≡ false → without x (add_key keys key) ≡ add_key (without x keys) key
without_other x key [] e = ap (λ b. cond (not b) (key ∷ []) []) e
without_other x key (k ∷ keys) e = by (bytes_eq key k) refl (without_other x key keys e)
  where
    stays : (q : Bool) → (bytes_eq key k) ≡ false → cond q (k ∷ add_key (without x keys) key) (add_key (without x keys) key) ≡ add_key (cond q (k ∷ without x keys) (without x keys)) key
    stays true f = sym (ap (λ b. if b then k ∷ without x keys else k ∷ add_key (without x keys) key) f)
    stays false f = refl

    by : (b : Bool) → bytes_eq key k ≡ b → without x (add_key keys key) ≡ add_key (without x keys) key → without x (if b then k ∷ keys else k ∷ add_key keys key) ≡ add_key (without x (k ∷ keys)) key
    by true f rest =
        let here : bytes_eq x k ≡ false = ap (bytes_eq x) (sym (same_bytes key k f)) ∙ e in
        ap (λ b. cond (not b) (k ∷ without x keys) (without x keys)) here
        ∙ (sym (ap (λ b. if b then k ∷ without x keys else k ∷ add_key (without x keys) key) f)
        ∙ sym (ap (λ b. add_key (cond (not b) (k ∷ without x keys) (without x keys)) key) here))
    by false f rest = ap (λ ks. cond (not (bytes_eq x k)) (k ∷ ks) ks) rest ∙ stays (not (bytes_eq x k)) f

keys_more : (before : History) (ns : List ℕ) (m : ℕ) → keys_of before (ns ++ m ∷ []) ≡ add_key (keys_of before ns) (key_in (content before m))
keys_more before [] m = refl
keys_more before (n ∷ ns) m =
    ap (λ ks. key_in (content before n) ∷ without (key_in (content before n)) ks) (keys_more before ns m)
    ∙ by (bytes_eq (key_in (content before m)) (key_in (content before n))) refl
  where
    by : (b : Bool) → bytes_eq (key_in (content before m)) (key_in (content before n)) ≡ b
        → key_in (content before n) ∷ without (key_in (content before n)) (add_key (keys_of before ns) (key_in (content before m)))
        ≡ (if b then key_in (content before n) ∷ without (key_in (content before n)) (keys_of before ns)
        else key_in (content before n) ∷ add_key (without (key_in (content before n)) (keys_of before ns)) (key_in (content before m)))
    by true e =
        ap (λ ks. key_in (content before n) ∷ ks)
        (without_same (key_in (content before n)) (key_in (content before m)) (keys_of before ns) (flip_bytes (key_in (content before m)) (key_in (content before n)) e))
    by false e =
        ap (λ ks. key_in (content before n) ∷ ks)
        (without_other (key_in (content before n)) (key_in (content before m)) (keys_of before ns) (other_bytes (key_in (content before m)) (key_in (content before n)) e))

-- no key stands twice
abbrev pub Different : List (List ℕ) → Type 0
Different [] = Unit {0}
Different (k ∷ keys) = Each (λ other. bytes_eq k other ≡ false) keys × Different keys

different_kept : (x : List ℕ) (keys : List (List ℕ)) → Different keys → Different (without x keys)
different_kept x [] h = tt
different_kept x (k ∷ keys) h = by (bytes_eq x k) (different_kept x keys h.1)
  where
    by : (b : Bool) → Different (without x keys) → Different (cond (not b) (k ∷ without x keys) (without x keys))
    by true rest = rest
    by false rest = (
      each_weaker (λ other. (bytes_eq k other ≡ false) × (not (bytes_eq x other) ≡ true)) (λ other. bytes_eq k other ≡ false) (λ other p. p.0) (without x keys)
          (each_filter (λ other. bytes_eq k other ≡ false) (λ other. not (bytes_eq x other)) keys h.0),
      rest,
    )

pub keys_different : (before : History) (ns : List ℕ) → Different (keys_of before ns)
keys_different before [] = tt
keys_different before (n ∷ ns) =
    let x = key_in (content before n) in (
      each_weaker (λ other. Unit {0} × (not (bytes_eq x other) ≡ true)) (λ other. bytes_eq x other ≡ false) (λ other p. not_true (bytes_eq x other) p.1) (without x (keys_of before ns))
          (each_filter (λ other. Unit {0}) (λ other. not (bytes_eq x other)) (keys_of before ns) (each_always (λ other. Unit {0}) (λ other. tt) (keys_of before ns))),
      different_kept x (keys_of before ns) (keys_different before ns),
    )

-- each key has a message
pub keys_begun : (before : History) (ns : List ℕ) → Each (λ key. is_empty (of_key before key ns) ≡ false) (keys_of before ns)
keys_begun before [] = tt
keys_begun before (n ∷ ns) =
    let x = key_in (content before n) in (
      ap (λ b. is_empty (cond b (n ∷ of_key before x ns) (of_key before x ns))) (self_bytes x),
      each_weaker (λ key. (is_empty (of_key before key ns) ≡ false) × (not (bytes_eq x key) ≡ true)) (λ key. is_empty (of_key before key (n ∷ ns)) ≡ false)
          (λ key p. by key (bytes_eq x key) p.0) (without x (keys_of before ns))
          (each_filter (λ key. is_empty (of_key before key ns) ≡ false) (λ key. not (bytes_eq x key)) (keys_of before ns) (keys_begun before ns)),
    )
  where
    by : (key : List ℕ) (b : Bool) → is_empty (of_key before key ns) ≡ false → is_empty (cond b (n ∷ of_key before key ns) (of_key before key ns)) ≡ false
    by key true h = refl
    by key false h = h

-- a key that no message has
none_with : (x key : List ℕ) (keys : List (List ℕ)) → bytes_eq key x ≡ false → Each (λ k. bytes_eq key k ≡ false) (without x keys) → Each (λ k. bytes_eq key k ≡ false) keys
none_with x key [] e h = tt
none_with x key (k ∷ keys) e h = by (bytes_eq x k) refl h (none_with x key keys e)
  where
    by : (b : Bool) → bytes_eq x k ≡ b → Each (λ y. bytes_eq key y ≡ false) (cond (not b) (k ∷ without x keys) (without x keys))
        → (Each (λ y. bytes_eq key y ≡ false) (without x keys) → Each (λ y. bytes_eq key y ≡ false) keys) → Each (λ y. bytes_eq key y ≡ false) (k ∷ keys)
    by true f h rest = (ap (bytes_eq key) (sym (same_bytes x k f)) ∙ e, rest h)
    by false f h rest = (h.0, rest h.1)

pub key_absent : (before : History) (key : List ℕ) (ns : List ℕ) → Each (λ k. bytes_eq key k ≡ false) (keys_of before ns) → of_key before key ns ≡ []
key_absent before key [] h = refl
key_absent before key (n ∷ ns) h =
    ap (λ b. cond b (n ∷ of_key before key ns) (of_key before key ns)) (other_bytes key (key_in (content before n)) h.0)
    ∙ key_absent before key ns (none_with (key_in (content before n)) key (keys_of before ns) h.0 h.1)

-- What a gather changes

-- the message is none of these
abbrev pub IsNoneOf : MsgNo → List ℕ → Type 0
IsNoneOf m ns = Each (λ n. (m.0 == n) ≡ false) ns

first_other : (m : MsgNo) (xs : List ℕ) → 1 ≤ m.0 → IsNoneOf m xs → (m.0 == first_in xs) ≡ false
first_other m [] low h = grind (arith, nat_tests)
first_other m (x ∷ xs) low h = h.0

none_of_key : (before : History) (m : MsgNo) (key ns : List ℕ) → IsNoneOf m ns → IsNoneOf m (of_key before key ns)
none_of_key before m key ns h =
    each_weaker (λ n. ((m.0 == n) ≡ false) × (bytes_eq (key_in (content before n)) key ≡ true)) (λ n. (m.0 == n) ≡ false) (λ n p. p.0) (of_key before key ns)
    (each_filter (λ n. (m.0 == n) ≡ false) (λ n. bytes_eq (key_in (content before n)) key) ns h)

opened_same : (before : History) (s : StageNo) (m : MsgNo) (xs : List ℕ) → 1 ≤ m.0 → IsNoneOf m xs → gathered_at (Gather s m ∷ before) (first_in xs) ≡ gathered_at before (first_in xs)
opened_same before s m xs low h = ap (λ b. if b then now before else gathered_at before (first_in xs)) (first_other m xs low h)

flush_same : (before : History) (s : StageNo) (m : MsgNo) (xs : List ℕ) → ends_in_flush (Gather s m ∷ before) xs ≡ ends_in_flush before xs
flush_same before s m [] = refl
flush_same before s m (x ∷ xs) = refl

keys_same : (before : History) (s : StageNo) (m : MsgNo) (ns : List ℕ) → keys_of (Gather s m ∷ before) ns ≡ keys_of before ns
keys_same before s m [] = refl
keys_same before s m (n ∷ ns) = ap (λ ks. key_in (content before n) ∷ without (key_in (content before n)) ks) (keys_same before s m ns)

open_same : (before : History) (s : StageNo) (m : MsgNo) (ns key : List ℕ) → 1 ≤ m.0 → IsNoneOf m ns → open_of (Gather s m ∷ before) ns key ≡ open_of before ns key
open_same before s m ns key low h =
    let xs = of_key before key ns in
    let flush = flush_same before s m xs in
    let opened = opened_same before s m xs low (none_of_key before m key ns h) in
    λ i. record { key = key; numbers = xs; flush = flush i; opened = opened i }

pub each_same : {A B : Type 0} (f g : A → B) (xs : List A) → Each (λ x. f x ≡ g x) xs → map f xs ≡ map g xs
each_same f g [] h = refl
each_same f g (x ∷ xs) h = λ i. h.0 i ∷ each_same f g xs h.1 i

-- another batcher's open batches are as before
pub opens_kept : (before : History) (s : StageNo) (m : MsgNo) (ns : List ℕ) → 1 ≤ m.0 → IsNoneOf m ns → open_batches (Gather s m ∷ before) ns ≡ open_batches before ns
opens_kept before s m ns low h =
    ap (map (open_of (Gather s m ∷ before) ns)) (keys_same before s m ns)
    ∙ each_same (open_of (Gather s m ∷ before) ns) (open_of before ns) (keys_of before ns)
    (each_always (λ key. open_of (Gather s m ∷ before) ns key ≡ open_of before ns key) (λ key. open_same before s m ns key low h) (keys_of before ns))

-- One more message

of_key_more : (before : History) (key ns : List ℕ) (m : ℕ) → of_key before key (ns ++ m ∷ []) ≡ of_key before key ns ++ cond (bytes_eq (key_in (content before m)) key) (m ∷ []) []
of_key_more before key ns m = filter_split (λ n. bytes_eq (key_in (content before n)) key) ns (m ∷ [])

last_more : (xs : List ℕ) (m : ℕ) → last_in (xs ++ m ∷ []) ≡ m
last_more [] m = refl
last_more (x ∷ []) m = refl
last_more (x ∷ y ∷ xs) m = last_more (y ∷ xs) m

flush_more : (before : History) (xs : List ℕ) (m : ℕ) → ends_in_flush before (xs ++ m ∷ []) ≡ flush_in (content before m)
flush_more before [] m = refl
flush_more before (x ∷ xs) m = ap (λ n. flush_in (content before n)) (last_more (x ∷ xs) m)

first_more : (xs : List ℕ) (m : ℕ) → is_empty xs ≡ false → first_in (xs ++ m ∷ []) ≡ first_in xs
first_more [] m h = cc
first_more (x ∷ xs) m h = refl

open_else : (before : History) (s : StageNo) (m : MsgNo) (ns key : List ℕ) → 1 ≤ m.0 → IsNoneOf m ns → bytes_eq (key_in (content before m.0)) key ≡ false
    → open_of (Gather s m ∷ before) (ns ++ m.0 ∷ []) key ≡ open_of before ns key
open_else before s m ns key low h other =
    let xs = of_key before key ns in
    let same : of_key before key (ns ++ m.0 ∷ []) ≡ of_key before key ns = of_key_more before key ns m.0 ∙ (ap (λ b. of_key before key ns ++ cond b (m.0 ∷ []) []) other ∙ append-nil (of_key before key ns)) in
    ap (λ ys. record { key = key; numbers = ys; flush = ends_in_flush (Gather s m ∷ before) ys; opened = gathered_at (Gather s m ∷ before) (first_in ys) }) same
    ∙ open_same before s m ns key low h

open_joined : (before : History) (s : StageNo) (m : MsgNo) (ns key : List ℕ) → 1 ≤ m.0 → IsNoneOf m ns → bytes_eq (key_in (content before m.0)) key ≡ true → is_empty (of_key before key ns) ≡ false
    → open_of (Gather s m ∷ before) (ns ++ m.0 ∷ []) key ≡ joined (open_of before ns key) m.0 (flush_in (content before m.0))
open_joined before s m ns key low h mine begun =
    let xs = of_key before key ns in
    let more : of_key before key (ns ++ m.0 ∷ []) ≡ of_key before key ns ++ m.0 ∷ [] = of_key_more before key ns m.0 ∙ ap (λ b. of_key before key ns ++ cond b (m.0 ∷ []) []) mine in
    let flush = flush_same before s m (xs ++ m.0 ∷ []) ∙ flush_more before xs m.0 in
    let opened = ap (gathered_at (Gather s m ∷ before)) (first_more xs m.0 begun) ∙ opened_same before s m xs low (none_of_key before m key ns h) in
    ap (λ ys. record { key = key; numbers = ys; flush = ends_in_flush (Gather s m ∷ before) ys; opened = gathered_at (Gather s m ∷ before) (first_in ys) }) more
    ∙ (λ i. record { key = key; numbers = xs ++ m.0 ∷ []; flush = flush i; opened = opened i })

open_new : (before : History) (s : StageNo) (m : MsgNo) (ns : List ℕ) → of_key before (key_in (content before m.0)) ns ≡ []
    → open_of (Gather s m ∷ before) (ns ++ m.0 ∷ []) (key_in (content before m.0)) ≡ record { key = key_in (content before m.0); numbers = m.0 ∷ []; flush = flush_in (content before m.0); opened = now before }
open_new before s m ns none =
    let key = key_in (content before m.0) in
    let only : of_key before key (ns ++ m.0 ∷ []) ≡ m.0 ∷ [] = of_key_more before key ns m.0 ∙ (ap (λ ys. ys ++ cond (bytes_eq key key) (m.0 ∷ []) []) none ∙ ap (λ b. cond b (m.0 ∷ []) []) (self_bytes key)) in
    ap (λ ys. record { key = key; numbers = ys; flush = ends_in_flush (Gather s m ∷ before) ys; opened = gathered_at (Gather s m ∷ before) (first_in ys) }) only
    ∙ ap (λ b. record { key = key; numbers = m.0 ∷ []; flush = flush_in (content before m.0); opened = if b then now before else gathered_at before m.0 }) (eq-eqb m.0 m.0 refl)

opens_added : (before : History) (s : StageNo) (m : MsgNo) (ns : List ℕ) (keys : List (List ℕ)) → 1 ≤ m.0 → IsNoneOf m ns → Different keys
    → Each (λ key. is_empty (of_key before key ns) ≡ false) keys
    → (Each (λ k. bytes_eq (key_in (content before m.0)) k ≡ false) keys → of_key before (key_in (content before m.0)) ns ≡ [])
    → map (open_of (Gather s m ∷ before) (ns ++ m.0 ∷ [])) (add_key keys (key_in (content before m.0)))
    ≡ gathered (key_in (content before m.0)) m.0 (flush_in (content before m.0)) (now before) (map (open_of before ns) keys)
opens_added before s m ns [] low h apart begun none = ap (λ b. b ∷ []) (open_new before s m ns (none tt))
opens_added before s m ns (k ∷ keys) low h apart begun none =
    by (bytes_eq (key_in (content before m.0)) k) refl (λ e. opens_added before s m ns keys low h apart.1 begun.1 (λ others. none (e, others)))
  where
    by : (b : Bool) → bytes_eq (key_in (content before m.0)) k ≡ b
        → (bytes_eq (key_in (content before m.0)) k ≡ false → map (open_of (Gather s m ∷ before) (ns ++ m.0 ∷ [])) (add_key keys (key_in (content before m.0)))
        ≡ gathered (key_in (content before m.0)) m.0 (flush_in (content before m.0)) (now before) (map (open_of before ns) keys))
        → map (open_of (Gather s m ∷ before) (ns ++ m.0 ∷ [])) (if b then k ∷ keys else k ∷ add_key keys (key_in (content before m.0)))
        ≡ (if b then joined (open_of before ns k) m.0 (flush_in (content before m.0)) ∷ map (open_of before ns) keys
        else open_of before ns k ∷ gathered (key_in (content before m.0)) m.0 (flush_in (content before m.0)) (now before) (map (open_of before ns) keys))
    by true e rest =
        let is : key_in (content before m.0) ≡ k = same_bytes (key_in (content before m.0)) k e in
        let here = open_joined before s m ns k low h e begun.0 in
        let others = each_same (open_of (Gather s m ∷ before) (ns ++ m.0 ∷ [])) (open_of before ns) keys
        (each_weaker (λ other. bytes_eq k other ≡ false) (λ other. open_of (Gather s m ∷ before) (ns ++ m.0 ∷ []) other ≡ open_of before ns other)
        (λ other p. open_else before s m ns other low h (ap (λ x. bytes_eq x other) is ∙ p)) keys apart.0) in
        λ i. here i ∷ others i
    by false e rest =
        let here = open_else before s m ns k low h e in
        let others = rest e in
        λ i. here i ∷ others i

-- the message joins the open batch of its key, or opens one behind all others
pub opens_gathered : (before : History) (s : StageNo) (m : MsgNo) (ns : List ℕ) → 1 ≤ m.0 → IsNoneOf m ns
    → open_batches (Gather s m ∷ before) (ns ++ m.0 ∷ []) ≡ gathered (key_in (content before m.0)) m.0 (flush_in (content before m.0)) (now before) (open_batches before ns)
opens_gathered before s m ns low h =
    ap (map (open_of (Gather s m ∷ before) (ns ++ m.0 ∷ []))) (keys_same before s m (ns ++ m.0 ∷ []) ∙ keys_more before ns m.0)
    ∙ opens_added before s m ns (keys_of before ns) low h (keys_different before ns) (keys_begun before ns) (key_absent before (key_in (content before m.0)) ns)

-- What fits

fits_in : (before : History) (size : ℕ) (key ns : List ℕ) (keys : List (List ℕ)) → (Each (λ k. bytes_eq key k ≡ false) keys → of_key before key ns ≡ [])
    → fits size key (map (open_of before ns) keys) ≡ (nat_lt (length (of_key before key ns)) size && not (ends_in_flush before (of_key before key ns)))
fits_in before size key ns [] none = sym (ap (λ xs. nat_lt (length xs) size && not (ends_in_flush before xs)) (none tt) ∙ and_true (nat_lt 0 size))
  where
    and_true : (b : Bool) → (b && true) ≡ b
    and_true true = refl
    and_true false = refl
fits_in before size key ns (k ∷ keys) none = by (bytes_eq key k) refl (λ e. fits_in before size key ns keys (λ others. none (e, others)))
  where
    by : (b : Bool) → bytes_eq key k ≡ b
        → (bytes_eq key k ≡ false → fits size key (map (open_of before ns) keys) ≡ (nat_lt (length (of_key before key ns)) size && not (ends_in_flush before (of_key before key ns))))
        → (if b then takes_more size (open_of before ns k) else fits size key (map (open_of before ns) keys)) ≡ (nat_lt (length (of_key before key ns)) size && not (ends_in_flush before (of_key before key ns)))
    by true e rest = ap (λ y. nat_lt (length (of_key before y ns)) size && not (ends_in_flush before (of_key before y ns))) (sym (same_bytes key k e))
    by false e rest = rest e

-- a message fits where its key's open batch lets it in
pub fits_open : (before : History) (size : ℕ) (key ns : List ℕ) → fits size key (open_batches before ns) ≡ (nat_lt (length (of_key before key ns)) size && not (ends_in_flush before (of_key before key ns)))
fits_open before size key ns = fits_in before size key ns (keys_of before ns) (key_absent before key ns)
