-- The names of the stages that settings give.
use Rattle.std.proofs.Common.{◌≡◌, ℕ, ◌+◌, ◌≤◌, Bool, true, false, ◌&&◌, ◌==◌, cond, codes, List, [], ◌∷◌, ◌++◌, map, find, Option, Some, None, refl, ap, ◌∙◌, arith}
use Rattle.std.proofs.lemmas.Bool.{eq-eqb, and_parts}
use Rattle.std.proofs.lemmas.Bool.Decides.{nat_tests}
use Rattle.std.proofs.lemmas.List.Folds.{list_all-append}
use Rattle.std.proofs.lemmas.Slice.Eq.{bytes_eq-Decides}
use Rattle.std.specs.Prelude.{bytes_eq}
use Rattle.std.specs.List.{list_all}
use Rattle.pipe_types.specs.declared.topology.StageSpec.{StageSpec}
use Rattle.pipe_types.specs.declared.topology.Role.{Role}
use Rattle.pipe_types.specs.Sound.{is_name, is_named, is_batcher, batcher_at, numbered_name}
use Rattle.config_settings.specs.declared.settings.ProducerSettings.{ProducerSettings}
use Rattle.config_settings.specs.declared.settings.ProcessorSettings.{ProcessorSettings}
use Rattle.config_settings.specs.declared.settings.SupervisorSettings.{SupervisorSettings}
use Rattle.config_settings.specs.declared.settings.BatcherSettings.{BatcherSettings}
use Rattle.config_build.specs.Build.{producer_stages, places, processor_stage, processor_stages, supervisor_stages, batcher_stage, batcher_stages, batch_processor_stage, batch_processor_stages}
use Rattle.config_build.specs.Limits.{limit_place, next_place}
use Rattle.pipe_config.proofs.Groups.{AllRole}

pub both : {a b : Bool} → a ≡ true → b ≡ true → (a && b) ≡ true
both {a} {b} p q = rw (p, q) refl

pub same_text : (text : List ℕ) → bytes_eq text text ≡ true
same_text text = (bytes_eq-Decides text text).1 refl

-- a test of every stage of a group of places
pub all_map : (test : StageSpec → Bool) (f : ℕ → StageSpec) (is : List ℕ) → ((i : ℕ) → test (f i) ≡ true) → list_all test (map f is) ≡ true
all_map test f [] h = refl
all_map test f (i ∷ is) h = both (h i) (all_map test f is h)

-- a test of two lists in a row
pub all_append : (test : StageSpec → Bool) (xs ys : List StageSpec) → list_all test xs ≡ true → list_all test ys ≡ true → list_all test (xs ++ ys) ≡ true
all_append test xs ys a b = list_all-append test xs ys ∙ both a b

pub named_producers : (all : List StageSpec) (field : Option ℕ) (n l i : ℕ) (ps : List ProducerSettings) → list_all (λ p. is_name p.name) ps ≡ true → list_all (is_named all) (producer_stages field n l i ps) ≡ true
named_producers all field n l i [] h = refl
named_producers all field n l i (p ∷ ps) h = let (here, more) = and_parts (is_name p.name) (list_all (λ p. is_name p.name) ps) h in both here (named_producers all field n (next_place l p.limit) (i + 1) ps more)

pub named_processors : (all : List StageSpec) (known : List (List ℕ)) (first l : ℕ) (p : Option ProcessorSettings) → list_all (is_named all) (processor_stages known first l p) ≡ true
named_processors all known first l None = refl
named_processors all known first l (Some p) = all_map (is_named all) (processor_stage known p first (limit_place l p.limit)) (places 0 p.concurrency) (λ i. same_text (numbered_name (codes "processors") i))

pub named_supervisors : (all : List StageSpec) (first l : ℕ) (s : Option SupervisorSettings) → list_all (is_named all) (supervisor_stages first l s) ≡ true
named_supervisors all first l None = refl
named_supervisors all first l (Some s) = refl

pub named_batchers : (all : List StageSpec) (second l i : ℕ) (bs : List BatcherSettings) → list_all (λ b. is_name b.name) bs ≡ true → list_all (is_named all) (batcher_stages second l i bs) ≡ true
named_batchers all second l i [] h = refl
named_batchers all second l i (b ∷ bs) h = let (here, more) = and_parts (is_name b.name) (list_all (λ b. is_name b.name) bs) h in both here (named_batchers all second (next_place l b.limit) (i + 1) bs more)

-- each batcher is found by its number
abbrev pub AllFound : List StageSpec → ℕ → (next : ℕ) → ℕ → List BatcherSettings → Type 0
AllFound all second l i [] = Unit {0}
AllFound all second l i (b ∷ bs) = (batcher_at all i ≡ Some (batcher_stage second (limit_place l b.limit) i b)) × AllFound all second (next_place l b.limit) (i + 1) bs

abbrev is_at : ℕ → StageSpec → Bool
is_at k s = is_batcher s.role && s.index == k

found_first : (i : ℕ) (x : StageSpec) (o : Option StageSpec) → cond (i == i) (Some x) o ≡ Some x
found_first i x o = rw (eq-eqb i i refl) refl

not_found : (i k : ℕ) (x : StageSpec) (o : Option StageSpec) → i + 1 ≤ k → cond (i == k) (Some x) o ≡ o
not_found i k x o above = let e : (i == k) ≡ false = grind (arith, nat_tests) in rw e refl

pub found_batchers : (all : List StageSpec) (second l i : ℕ) (bs : List BatcherSettings) (rest : List StageSpec) → ((k : ℕ) → i ≤ k → batcher_at all k ≡ find (is_at k) (batcher_stages second l i bs ++ rest)) → AllFound all second l i bs
found_batchers all second l i [] rest h = tt
found_batchers all second l i (b ∷ bs) rest h = (
  h i (omega arith) ∙ found_first i (batcher_stage second (limit_place l b.limit) i b) (find (is_at i) (batcher_stages second (next_place l b.limit) (i + 1) bs ++ rest)),
  found_batchers all second (next_place l b.limit) (i + 1) bs rest (λ k above. h k (omega arith) ∙ not_found i k (batcher_stage second (limit_place l b.limit) i b) (find (is_at k) (batcher_stages second (next_place l b.limit) (i + 1) bs ++ rest)) above),
)

-- a group of another role is passed over
pub find_other : (r : Role) (k : ℕ) (xs ys : List StageSpec) → is_batcher r ≡ false → AllRole r xs → find (is_at k) (xs ++ ys) ≡ find (is_at k) ys
find_other r k [] ys other h = refl
find_other r k (x ∷ xs) ys other h = let e : is_batcher x.role ≡ false = ap is_batcher h.0 ∙ other in rw e (find_other r k xs ys other h.1)

member_named : (all : List StageSpec) (second l k before : ℕ) (b : BatcherSettings) → batcher_at all k ≡ Some (batcher_stage second l k b) → (i : ℕ) → is_named all (batch_processor_stage k b before l i) ≡ true
member_named all second l k before b found i = rw found (same_text (numbered_name b.name i))

pub named_batch_processors : (all : List StageSpec) (second before l k : ℕ) (bs : List BatcherSettings) → AllFound all second l k bs → list_all (is_named all) (batch_processor_stages before l k bs) ≡ true
named_batch_processors all second before l k [] found = refl
named_batch_processors all second before l k (b ∷ bs) found =
    all_append (is_named all) (map (batch_processor_stage k b before (limit_place l b.limit)) (places 0 b.concurrency)) (batch_processor_stages (before + b.concurrency) (next_place l b.limit) (k + 1) bs)
    (all_map (is_named all) (batch_processor_stage k b before (limit_place l b.limit)) (places 0 b.concurrency) (member_named all second (limit_place l b.limit) k before b found.0))
    (named_batch_processors all second (before + b.concurrency) (next_place l b.limit) (k + 1) bs found.1)
