-- No name stands twice.
use Rattle.std.proofs.Common.{◌≡◌, ℕ, ◌+◌, Bool, true, false, ◌||◌, codes, List, [], ◌∷◌, ◌++◌, Option, refl, ap, sym}
use Rattle.std.proofs.lemmas.Slice.Eq.{bytes_eq-Decides}
use Rattle.std.specs.Prelude.{bytes_eq}
use Rattle.std.specs.List.{list_any}
use Rattle.pipe_types.specs.declared.topology.StageSpec.{StageSpec}
use Rattle.pipe_types.specs.Sound.{are_distinct}
use Rattle.config_table.specs.declared.fault.ConfigFault.{ConfigFault}
use Rattle.config_settings.specs.declared.settings.ProducerSettings.{ProducerSettings}
use Rattle.config_settings.specs.declared.settings.BatcherSettings.{BatcherSettings}
use Rattle.config_judge.specs.Judge.{fault_if, is_in, duplicate_names, producer_names, batcher_names}
use Rattle.config_build.specs.Build.{producer_stages, batcher_stages}
use Rattle.config_build.specs.Limits.{next_place}

pub nothing_left : (xs ys : List ConfigFault) → xs ++ ys ≡ [] → (xs ≡ []) × (ys ≡ [])
nothing_left [] ys h = (refl, h)
nothing_left (x ∷ xs) ys h = cc

pub no_fault : (wrong : Bool) (fault : ConfigFault) (rest : List ConfigFault) → fault_if wrong fault ++ rest ≡ [] → (wrong ≡ false) × (rest ≡ [])
no_fault true fault rest h = cc
no_fault false fault rest h = (refl, h)

neither : (a b : Bool) → (a || b) ≡ false → (a ≡ false) × (b ≡ false)
neither true b h = cc
neither false b h = (refl, h)

either : {a b : Bool} → a ≡ false → b ≡ false → (a || b) ≡ false
either {a} {b} p q = rw (p, q) refl

-- none of these names is one of those
abbrev Apart : List (List ℕ) → List (List ℕ) → Type 0
Apart [] names = Unit {0}
Apart (x ∷ before) names = (list_any (bytes_eq x) names ≡ false) × Apart before names

apart_nil : (before : List (List ℕ)) → Apart before []
apart_nil [] = tt
apart_nil (x ∷ before) = (refl, apart_nil before)

apart_front : (before : List (List ℕ)) (name : List ℕ) (names : List (List ℕ)) → Apart (before ++ name ∷ []) names → Apart before names × (list_any (bytes_eq name) names ≡ false)
apart_front [] name names h = (tt, h.0)
apart_front (x ∷ before) name names h = let (more, last) = apart_front before name names h.1 in ((h.0, more), last)

apart_cons : (before : List (List ℕ)) (name : List ℕ) (names : List (List ℕ)) → is_in name before ≡ false → Apart before names → Apart before (name ∷ names)
apart_cons [] name names new h = tt
apart_cons (x ∷ before) name names new h =
    let (here, more) = neither (bytes_eq x name) (is_in name before) new in
    (either here h.0, apart_cons before name names more h.1)

abbrev Distinct : List (List ℕ) → Type 0
Distinct [] = Unit {0}
Distinct (name ∷ names) = (list_any (bytes_eq name) names ≡ false) × Distinct names

-- no duplicate: the names differ from those before and from one another
apart_names : (path : List ℕ) (before : List (List ℕ)) (i : ℕ) (names : List (List ℕ)) → duplicate_names path before i names ≡ [] → Apart before names × Distinct names
apart_names path before i [] h = (apart_nil before, tt)
apart_names path before i (name ∷ names) h =
    let (new, more) = no_fault (is_in name before) _ (duplicate_names path (before ++ name ∷ []) (i + 1) names) h in
    let (later, distinct) = apart_names path (before ++ name ∷ []) (i + 1) names more in
    let (front, last) = apart_front before name names later in
    (apart_cons before name names new front, (last, distinct))

turned : (x y : List ℕ) → bytes_eq x y ≡ false → bytes_eq y x ≡ false
turned x y h = other (bytes_eq y x) refl
  where
    other : (b : Bool) → bytes_eq y x ≡ b → bytes_eq y x ≡ false
    other false e = e
    other true e = let same : bytes_eq x y ≡ true = (bytes_eq-Decides x y).1 (sym ((bytes_eq-Decides y x).0 e)) in cc

apart_tail : (before : List (List ℕ)) (name : List ℕ) (names : List (List ℕ)) → Apart before (name ∷ names) → Apart before names × (list_any (bytes_eq name) before ≡ false)
apart_tail [] name names h = (tt, refl)
apart_tail (x ∷ before) name names h =
    let (here, more) = neither (bytes_eq x name) (list_any (bytes_eq x) names) h.0 in
    let (front, last) = apart_tail before name names h.1 in
    ((more, front), either (turned x name here) last)

-- the names of stages
any_producer : (x : List ℕ) (field : Option ℕ) (n l i : ℕ) (ps : List ProducerSettings) (rest : List StageSpec) → list_any (λ t. bytes_eq x t.name) (producer_stages field n l i ps ++ rest) ≡ (list_any (bytes_eq x) (producer_names ps) || list_any (λ t. bytes_eq x t.name) rest)
any_producer x field n l i [] rest = refl
any_producer x field n l i (p ∷ ps) rest = rw (any_producer x field n (next_place l p.limit) (i + 1) ps rest) (or_assoc (bytes_eq x p.name) (list_any (bytes_eq x) (producer_names ps)) (list_any (λ t. bytes_eq x t.name) rest))
  where
    or_assoc : (a b c : Bool) → (a || (b || c)) ≡ ((a || b) || c)
    or_assoc true b c = refl
    or_assoc false b c = refl

any_batcher : (x : List ℕ) (second l i : ℕ) (bs : List BatcherSettings) → list_any (λ t. bytes_eq x t.name) (batcher_stages second l i bs) ≡ list_any (bytes_eq x) (batcher_names bs)
any_batcher x second l i [] = refl
any_batcher x second l i (b ∷ bs) = ap (λ o. bytes_eq x b.name || o) (any_batcher x second (next_place l b.limit) (i + 1) bs)

distinct_batchers : (second l i : ℕ) (bs : List BatcherSettings) → Distinct (batcher_names bs) → are_distinct (batcher_stages second l i bs) ≡ true
distinct_batchers second l i [] d = refl
distinct_batchers second l i (b ∷ bs) d = rw (any_batcher b.name second (next_place l b.limit) (i + 1) bs, d.0) (distinct_batchers second (next_place l b.limit) (i + 1) bs d.1)

distinct_stages : (field : Option ℕ) (n l i second m : ℕ) (ps : List ProducerSettings) (bs : List BatcherSettings) → Apart (batcher_names bs) (producer_names ps) → Distinct (producer_names ps) → Distinct (batcher_names bs)
    → are_distinct (producer_stages field n l i ps ++ batcher_stages second m 0 bs) ≡ true
distinct_stages field n l i second m [] bs apart d e = distinct_batchers second m 0 bs e
distinct_stages field n l i second m (p ∷ ps) bs apart d e =
    let (front, last) = apart_tail (batcher_names bs) p.name (producer_names ps) apart in
    rw (any_producer p.name field n (next_place l p.limit) (i + 1) ps (batcher_stages second m 0 bs), any_batcher p.name second m 0 bs, d.0, last) (distinct_stages field n (next_place l p.limit) (i + 1) second m ps bs front d.1 e)

pub names_are_distinct : (field : Option ℕ) (n l second m : ℕ) (ps : List ProducerSettings) (bs : List BatcherSettings)
    → duplicate_names (codes "batcher") [] 0 (batcher_names bs) ≡ [] → duplicate_names (codes "producer") (batcher_names bs) 0 (producer_names ps) ≡ []
    → are_distinct (producer_stages field n l 0 ps ++ batcher_stages second m 0 bs) ≡ true
names_are_distinct field n l second m ps bs a b =
    let (none, distinct) = apart_names (codes "batcher") [] 0 (batcher_names bs) a in
    let (apart, producers) = apart_names (codes "producer") (batcher_names bs) 0 (producer_names ps) b in
    distinct_stages field n l 0 second m ps bs apart producers distinct
