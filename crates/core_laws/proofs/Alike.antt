-- Two histories that give messages the same content: their open batches and the partitions of what waits are the same.
use Rattle.std.proofs.Common.{◌≡◌, ℕ, List, [], ◌∷◌, map, Bool, refl, ap, ◌∙◌, Some, None, Option}
use Rattle.std.specs.Prelude.{if◌then◌else◌, not, filter, bytes_eq}
use Rattle.pipe_types.specs.declared.topology.Topology.{Topology}
use Rattle.pipe_types.specs.declared.topology.StageSpec.{StageSpec}
use Rattle.pipe_types.specs.declared.topology.Role.{Role}
use Rattle.pipe_types.specs.declared.topology.Role.TheVariants.{Producer, Batcher}
use Rattle.pipe_types.specs.Handlers.{field}
use Rattle.pipe_types.specs.Dispatchers.{partition_of}
use Rattle.pipe_model.specs.History.{History}
use Rattle.pipe_model.specs.Content.{content, key_in, batcher_in, payload_in, flush_in}
use Rattle.pipe_model.specs.Flow.{first_in}
use Rattle.pipe_model.specs.Legal.{gathered_at, ends_in_flush, last_in}
use Rattle.pipe_model.specs.Standing.{of_key}
use Rattle.pipe_model.specs.Taken.{closed_as}
use Rattle.pipe_laws.proofs.Lists.{Each, each_weaker}
use Rattle.queue_laws.proofs.Apart.{each_kept}
use Rattle.core_laws.specs.Columns.{open_of, keys_of, open_batches, part_of, part_by, is_by_partition, closed_numbers}

-- message n has the content that it had
abbrev pub SameContent : (old new : History) → ℕ → Type 0
SameContent old new n = content new n ≡ content old n

-- Lists

filter_same : {A : Type 0} (p q : A → Bool) (xs : List A) → Each (λ x. p x ≡ q x) xs → filter p xs ≡ filter q xs
filter_same p q [] h = refl
filter_same p q (x ∷ xs) h =
    ap (λ b. if b then x ∷ filter p xs else filter p xs) h.0 ∙ ap (λ ys. if q x then x ∷ ys else ys) (filter_same p q xs h.1)

map_same : {A B : Type 0} (f g : A → B) (xs : List A) → ((x : A) → f x ≡ g x) → map f xs ≡ map g xs
map_same f g [] h = refl
map_same f g (x ∷ xs) h = ap (λ y. y ∷ map f xs) (h x) ∙ ap (λ ys. g x ∷ ys) (map_same f g xs h)

-- the same function of each that is listed
pub mapped_same : {A B : Type 0} (f g : A → B) (xs : List A) → Each (λ x. f x ≡ g x) xs → map f xs ≡ map g xs
mapped_same f g [] h = refl
mapped_same f g (x ∷ xs) h = ap (λ y. y ∷ map f xs) h.0 ∙ ap (λ ys. g x ∷ ys) (mapped_same f g xs h.1)

-- Open batches

keys_same : (old new : History) (numbers : List ℕ) → Each (SameContent old new) numbers → keys_of new numbers ≡ keys_of old numbers
keys_same old new [] h = refl
keys_same old new (n ∷ numbers) h =
    ap (λ o. key_in o ∷ filter (λ key. not (bytes_eq (key_in o) key)) (keys_of new numbers)) h.0
    ∙ ap (λ ks. key_in (content old n) ∷ filter (λ key. not (bytes_eq (key_in (content old n)) key)) ks) (keys_same old new numbers h.1)

key_same : (old new : History) (key : List ℕ) (numbers : List ℕ) → Each (SameContent old new) numbers → of_key new key numbers ≡ of_key old key numbers
key_same old new key numbers h =
    filter_same (λ n. bytes_eq (key_in (content new n)) key) (λ n. bytes_eq (key_in (content old n)) key) numbers
    (each_weaker (SameContent old new) (λ n. bytes_eq (key_in (content new n)) key ≡ bytes_eq (key_in (content old n)) key) (λ n e. ap (λ o. bytes_eq (key_in o) key) e) numbers h)

last_each : (P : ℕ → Type 0) (n : ℕ) (ns : List ℕ) → Each P (n ∷ ns) → P (last_in (n ∷ ns))
last_each P n [] h = h.0
last_each P n (m ∷ ns) h = last_each P m ns h.1

flush_same : (old new : History) (numbers : List ℕ) → Each (SameContent old new) numbers → ends_in_flush new numbers ≡ ends_in_flush old numbers
flush_same old new [] h = refl
flush_same old new (n ∷ ns) h = ap flush_in (last_each (SameContent old new) n ns h)

open_same : (old new : History) (numbers key : List ℕ) → Each (SameContent old new) numbers → ((n : ℕ) → gathered_at new n ≡ gathered_at old n) → open_of new numbers key ≡ open_of old numbers key
open_same old new numbers key h times =
    let kept = each_kept (SameContent old new) (λ n. bytes_eq (key_in (content old n)) key) numbers h in
    ap (λ ns. record { key = key; numbers = ns; flush = ends_in_flush new ns; opened = gathered_at new (first_in ns) }) (key_same old new key numbers h)
    ∙ (ap (λ b. record { key = key; numbers = of_key old key numbers; flush = b; opened = gathered_at new (first_in (of_key old key numbers)) }) (flush_same old new (of_key old key numbers) kept)
    ∙ ap (λ t. record { key = key; numbers = of_key old key numbers; flush = ends_in_flush old (of_key old key numbers); opened = t }) (times (first_in (of_key old key numbers))))

-- where no gathered message has another content, nor another tick, the open batches are the same
pub opens_same : (old new : History) (numbers : List ℕ) → Each (SameContent old new) numbers → ((n : ℕ) → gathered_at new n ≡ gathered_at old n) → open_batches new numbers ≡ open_batches old numbers
opens_same old new numbers h times =
    ap (map (open_of new numbers)) (keys_same old new numbers h)
    ∙ map_same (open_of new numbers) (open_of old numbers) (keys_of old numbers) (λ key. open_same old new numbers key h times)

-- Partitions

-- a unit that waits has the partition that it had
pub record SamePart (topology : Topology) (old new : History) (n : ℕ) : Type 0 where
  pub content : SameContent old new n
  pub numbers : closed_numbers (closed_as topology new n) ≡ closed_numbers (closed_as topology old n)
  pub first : SameContent old new (first_in (closed_numbers (closed_as topology old n)))

by_role : (topology : Topology) (old new : History) (spec : StageSpec) (n : ℕ) (role : Role) → spec.role ≡ role → SamePart topology old new n → part_by topology new spec n ≡ part_by topology old spec n
by_role topology old new spec n Producer e h = rw e (ap (λ o. partition_of (field spec.field (payload_in o)) spec.parts) h.content)
by_role topology old new spec n Batcher e h =
    rw e (ap (λ ns. partition_of (key_in (content new (first_in ns))) spec.parts) h.numbers ∙ ap (λ o. partition_of (key_in o) spec.parts) h.first)
by_role topology old new spec n _ e h = rw e (ap batcher_in h.content)

pub part_same : (topology : Topology) (old new : History) (o : Option StageSpec) (n : ℕ) → SamePart topology old new n → part_of topology new o n ≡ part_of topology old o n
part_same topology old new None n h = refl
part_same topology old new (Some spec) n h = ap (λ k. if is_by_partition spec.dispatch then k else 0) (by_role topology old new spec n spec.role refl h)
