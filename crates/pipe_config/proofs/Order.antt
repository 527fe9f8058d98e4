-- The stages that settings give stand in their order.
use Rattle.std.proofs.Common.{◌≡◌, ℕ, zero, suc, ◌+◌, ◌≤◌, Bool, true, false, ◌&&◌, ◌==◌, ◌-◌, nat_le, List, [], ◌∷◌, ◌++◌, length, map, Option, Some, None, refl, ap, sym, subst, arith}
use Rattle.std.proofs.lemmas.Bool.{eq-eqb, and_parts, leb-true, or_right}
use Rattle.std.specs.List.{list_all}
use Rattle.pipe_types.specs.declared.topology.StageSpec.{StageSpec}
use Rattle.pipe_types.specs.declared.topology.Role.{Role}
use Rattle.pipe_types.specs.declared.topology.Role.TheVariants as role
use Rattle.pipe_types.specs.Sound.{may_follow, may_go_on, is_next, is_between, is_ordered, batchers}
use Rattle.config_settings.specs.declared.settings.ProducerSettings.{ProducerSettings}
use Rattle.config_settings.specs.declared.settings.BatcherSettings.{BatcherSettings}
use Rattle.config_settings.specs.declared.settings.ProcessorSettings.{ProcessorSettings}
use Rattle.config_settings.specs.declared.settings.SupervisorSettings.{SupervisorSettings}
use Rattle.config_judge.specs.Judge.{processor_count, supervisor_count}
use Rattle.config_build.specs.Build.{producer_stage, producer_stages, places, processor_stage, processor_stages, supervisor_stage, supervisor_stages, batcher_stage, batcher_stages, batch_processor_stage, batch_processor_stages}
use Rattle.config_build.specs.Limits.{limit_place, next_place}

both : {a b : Bool} → a ≡ true → b ≡ true → (a && b) ≡ true
both {a} {b} p q = rw (p, q) refl

-- a group of places, and what comes after it
go_map : (n : ℕ) (f : ℕ → StageSpec) → ((i : ℕ) → may_follow (f i) (f (i + 1)) ≡ true) → (m i : ℕ) (rest : List StageSpec) → may_go_on n (f (i + m)) rest ≡ true → may_go_on n (f i) (map f (places (i + 1) m) ++ rest) ≡ true
go_map n f follows zero i rest after = let e : i + 0 ≡ i = omega arith in subst (λ (k : ℕ). may_go_on n (f k) rest ≡ true) e after
go_map n f follows (suc m) i rest after =
    let e : i + suc m ≡ (i + 1) + m = omega arith in
    both (follows i) (go_map n f follows m (i + 1) rest (subst (λ (k : ℕ). may_go_on n (f k) rest ≡ true) e after))

processor_follows : (known : List (List ℕ)) (p : ProcessorSettings) (before l i : ℕ) → may_follow (processor_stage known p before l i) (processor_stage known p before l (i + 1)) ≡ true
processor_follows known p before l i = both (eq-eqb (before + (i + 1) + 1) (before + i + 1 + 1) (omega arith)) (eq-eqb (i + 1) (i + 1) refl)

member_follows : (k : ℕ) (b : BatcherSettings) (before l i : ℕ) → may_follow (batch_processor_stage k b before l i) (batch_processor_stage k b before l (i + 1)) ≡ true
member_follows k b before l i = both (eq-eqb (before + (i + 1) + 1) (before + i + 1 + 1) (omega arith)) (rw (eq-eqb k k refl, eq-eqb (i + 1) (i + 1) refl) refl)

-- a group of at least one place begins
enter : (n : ℕ) (last : StageSpec) (f : ℕ → StageSpec) (m c : ℕ) (rest : List StageSpec) → m ≡ suc c → may_follow last (f 0) ≡ true → may_go_on n (f 0) (map f (places (0 + 1) c) ++ rest) ≡ true
    → may_go_on n last (map f (places 0 m) ++ rest) ≡ true
enter n last f m c rest size follows more = subst (λ (k : ℕ). may_go_on n last (map f (places 0 k) ++ rest) ≡ true) (sym size) (both follows more)

abbrev sizes_fit : List BatcherSettings → Bool
sizes_fit = list_all (λ b. is_between 1 16 b.concurrency)

one_more : (m : ℕ) → is_between 1 16 m ≡ true → m ≡ suc (m - 1)
one_more m h = let least = leb-true 1 m (and_parts (nat_le 1 m) (nat_le m 16) h).0 in omega arith

group_follows : (k before c l m : ℕ) (b next : BatcherSettings) → b.concurrency ≡ suc c → may_follow (batch_processor_stage k b before l (0 + c)) (batch_processor_stage (k + 1) next (before + b.concurrency) m 0) ≡ true
group_follows k before c l m b next size =
    both (eq-eqb (before + b.concurrency + 0 + 1) (before + (0 + c) + 1 + 1) (omega arith))
    (or_right ((k + 1 == k) && (0 == 0 + c + 1)) ((k + 1 == k + 1) && (0 == 0)) (both (eq-eqb (k + 1) (k + 1) refl) refl))

-- the batch processors of the batchers after the k-th
go_next : (n k before c l t : ℕ) (b : BatcherSettings) (bs : List BatcherSettings) → b.concurrency ≡ suc c → sizes_fit bs ≡ true → n ≡ k + 1 + length bs
    → may_go_on n (batch_processor_stage k b before l (0 + c)) (batch_processor_stages (before + b.concurrency) t (k + 1) bs) ≡ true
go_next n k before c l t b [] size sizes is = eq-eqb n (k + 1) (omega arith)
go_next n k before c l t b (next ∷ bs) size sizes is =
    let (here, more) = and_parts (is_between 1 16 next.concurrency) (sizes_fit bs) sizes in
    let own : ℕ = limit_place t next.limit in
    let behind : ℕ = next_place t next.limit in
    let f : ℕ → StageSpec = batch_processor_stage (k + 1) next (before + b.concurrency) own in
    let rest : List StageSpec = batch_processor_stages (before + b.concurrency + next.concurrency) behind (k + 1 + 1) bs in
    let m : ℕ = next.concurrency - 1 in
    let one : next.concurrency ≡ suc m = one_more next.concurrency here in
    let count : n ≡ k + 1 + 1 + length bs = omega arith in
    enter n (batch_processor_stage k b before l (0 + c)) f next.concurrency m rest one (group_follows k before c l own b next size)
    (go_map n f (member_follows (k + 1) next (before + b.concurrency) own) m 0 rest (go_next n (k + 1) (before + b.concurrency) m own behind next bs one more count))

-- the first batch processor after the last batcher
members_follow : (before i third l m : ℕ) (b next : BatcherSettings) → third ≡ before + i + 1 → may_follow (batcher_stage before l i b) (batch_processor_stage 0 next third m 0) ≡ true
members_follow before i third l m b next is = both (eq-eqb (third + 0 + 1) (before + i + 1 + 1) (omega arith)) refl

-- all batch processors, after the last batcher
go_groups : (n before i third l t : ℕ) (last first : BatcherSettings) (bs : List BatcherSettings) → third ≡ before + i + 1 → sizes_fit (first ∷ bs) ≡ true → n ≡ 1 + length bs
    → may_go_on n (batcher_stage before l i last) (batch_processor_stages third t 0 (first ∷ bs)) ≡ true
go_groups n before i third l t last first bs is sizes count =
    let (here, more) = and_parts (is_between 1 16 first.concurrency) (sizes_fit bs) sizes in
    let own : ℕ = limit_place t first.limit in
    let behind : ℕ = next_place t first.limit in
    let f : ℕ → StageSpec = batch_processor_stage 0 first third own in
    let rest : List StageSpec = batch_processor_stages (third + first.concurrency) behind (0 + 1) bs in
    let m : ℕ = first.concurrency - 1 in
    let one : first.concurrency ≡ suc m = one_more first.concurrency here in
    let total : n ≡ 0 + 1 + length bs = omega arith in
    enter n (batcher_stage before l i last) f first.concurrency m rest one (members_follow before i third l own last first is)
    (go_map n f (member_follows 0 first third own) m 0 rest (go_next n 0 third m own behind first bs one more total))

-- the batchers after the i-th, and all batch processors
go_batchers : (n before i third l t u : ℕ) (b : BatcherSettings) (bs all : List BatcherSettings) (first : BatcherSettings) (others : List BatcherSettings) → all ≡ first ∷ others → third ≡ before + i + 1 + length bs → sizes_fit all ≡ true → n ≡ length all
    → may_go_on n (batcher_stage before l i b) (batcher_stages before t (i + 1) bs ++ batch_processor_stages third u 0 all) ≡ true
go_batchers n before i third l t u b [] all first others whole is sizes count =
    let third_is : third ≡ before + i + 1 = omega arith in
    let count' : n ≡ 1 + length others = omega (arith, ap length whole) in
    subst (λ (x : List BatcherSettings). may_go_on n (batcher_stage before l i b) (batch_processor_stages third u 0 x) ≡ true) (sym whole) (go_groups n before i third l u b first others third_is (subst (λ (x : List BatcherSettings). sizes_fit x ≡ true) whole sizes) count')
go_batchers n before i third l t u b (next ∷ bs) all first others whole is sizes count =
    let third_is : third ≡ before + (i + 1) + 1 + length bs = omega arith in
    both (both (eq-eqb (before + (i + 1) + 1) (before + i + 1 + 1) (omega arith)) (eq-eqb (i + 1) (i + 1) refl))
    (go_batchers n before (i + 1) third (limit_place t next.limit) (next_place t next.limit) u next bs all first others whole third_is sizes count)

-- the batchers, if there are any, after the last processor
go_after_processors : (n : ℕ) (known : List (List ℕ)) (p : ProcessorSettings) (before c second third l t : ℕ) (bs : List BatcherSettings) → second ≡ before + c + 1 → third ≡ second + length bs → sizes_fit bs ≡ true → n ≡ length bs
    → may_go_on n (processor_stage known p before l (0 + c)) (batcher_stages second t 0 bs ++ batch_processor_stages third t 0 bs) ≡ true
go_after_processors n known p before c second third l t [] second_is is sizes count = refl
go_after_processors n known p before c second third l t (b ∷ bs) second_is is sizes count =
    let third_is : third ≡ second + 0 + 1 + length bs = omega arith in
    both (both (eq-eqb (second + 0 + 1) (before + (0 + c) + 1 + 1) (omega arith)) refl)
    (go_batchers n second 0 third (limit_place t b.limit) (next_place t b.limit) t b bs (b ∷ bs) b bs refl third_is sizes count)

abbrev second_role : Role → Bool
second_role role.Processor = true
second_role role.Supervisor = true
second_role _ = false

next_second : (r : Role) (s a : StageSpec) → second_role r ≡ true → s.index ≡ 0 → is_next role.Producer r a s ≡ true
next_second role.Processor s a h e = eq-eqb s.index 0 e
next_second role.Supervisor s a h e = eq-eqb s.index 0 e
next_second _ s a h e = cc

-- the producers after the i-th, and a stage of level two
go_producers : (n : ℕ) (field : Option ℕ) (parts l t i : ℕ) (p : ProducerSettings) (ps : List ProducerSettings) (s : StageSpec) (rest : List StageSpec)
    → s.no.0 ≡ i + 1 + length ps + 1 → second_role s.role ≡ true → s.index ≡ 0 → may_go_on n s rest ≡ true
    → may_go_on n (producer_stage field parts l i p) (producer_stages field parts t (i + 1) ps ++ s ∷ rest) ≡ true
go_producers n field parts l t i p [] s rest numbered level begins more =
    let here : s.no.0 ≡ i + 1 + 1 = omega arith in
    both (both (eq-eqb s.no.0 (i + 1 + 1) here) (next_second s.role s (producer_stage field parts l i p) level begins)) more
go_producers n field parts l t i p (next ∷ ps) s rest numbered level begins more =
    let later : s.no.0 ≡ i + 1 + 1 + length ps + 1 = omega arith in
    both (both (eq-eqb (i + 1 + 1) (i + 1 + 1) refl) (eq-eqb (i + 1) (i + 1) refl))
    (go_producers n field parts (limit_place t next.limit) (next_place t next.limit) (i + 1) next ps s rest later level begins more)

-- ---- the whole

-- producers, and either processors or a supervisor without batchers
abbrev pub IsEnough : Option ProcessorSettings → Option SupervisorSettings → List BatcherSettings → Type 0
IsEnough None None bs = ⊥
IsEnough None (Some s) [] = Unit {0}
IsEnough None (Some s) (b ∷ bs) = ⊥
IsEnough (Some p) None bs = is_between 1 32 p.concurrency ≡ true
IsEnough (Some p) (Some s) bs = ⊥

one_to_32 : (m : ℕ) → is_between 1 32 m ≡ true → m ≡ suc (m - 1)
one_to_32 m h = let least = leb-true 1 m (and_parts (nat_le 1 m) (nat_le m 32) h).0 in omega arith

processors_go : (n : ℕ) (field : Option ℕ) (parts : ℕ) (known : List (List ℕ)) (p : ProducerSettings) (ps : List ProducerSettings) (q : ProcessorSettings) (first second third l1 t1 l2 t4 m c : ℕ) (bs : List BatcherSettings)
    → first ≡ 1 + length ps → m ≡ suc c → second ≡ first + m → third ≡ second + length bs → sizes_fit bs ≡ true → n ≡ length bs
    → may_go_on n (producer_stage field parts l1 0 p) (producer_stages field parts t1 (0 + 1) ps ++ (map (processor_stage known q first l2) (places 0 m) ++ (batcher_stages second t4 0 bs ++ batch_processor_stages third t4 0 bs))) ≡ true
processors_go n field parts known p ps q first second third l1 t1 l2 t4 m c bs first_is size second_is third_is sizes count =
    let rest : List StageSpec = batcher_stages second t4 0 bs ++ batch_processor_stages third t4 0 bs in
    let f : ℕ → StageSpec = processor_stage known q first l2 in
    let numbered : first + 0 + 1 ≡ 0 + 1 + length ps + 1 = omega arith in
    let after : second ≡ first + c + 1 = omega arith in
    subst (λ (k : ℕ). may_go_on n (producer_stage field parts l1 0 p) (producer_stages field parts t1 (0 + 1) ps ++ (map f (places 0 k) ++ rest)) ≡ true) (sym size)
    (go_producers n field parts l1 t1 0 p ps (f 0) (map f (places (0 + 1) c) ++ rest) numbered refl refl
    (go_map n f (processor_follows known q first l2) c 0 rest (go_after_processors n known q first c second third l2 t4 bs after third_is sizes count)))

supervisor_goes : (n : ℕ) (field : Option ℕ) (parts l1 t1 l3 : ℕ) (p : ProducerSettings) (ps : List ProducerSettings) (t : SupervisorSettings) (first : ℕ) → first ≡ 1 + length ps
    → may_go_on n (producer_stage field parts l1 0 p) (producer_stages field parts t1 (0 + 1) ps ++ supervisor_stage first l3 t ∷ []) ≡ true
supervisor_goes n field parts l1 t1 l3 p ps t first first_is =
    let numbered : first + 1 ≡ 0 + 1 + length ps + 1 = omega arith in
    go_producers n field parts l1 t1 0 p ps (supervisor_stage first l3 t) [] numbered refl refl refl

-- the stages after the first producer
stages_go : (n : ℕ) (field : Option ℕ) (parts : ℕ) (known : List (List ℕ)) (p : ProducerSettings) (ps : List ProducerSettings) (procs : Option ProcessorSettings) (sup : Option SupervisorSettings) (bs : List BatcherSettings) (first second third l1 t1 t2 t3 t4 : ℕ)
    → first ≡ 1 + length ps → second ≡ first + processor_count procs + supervisor_count sup → third ≡ second + length bs → IsEnough procs sup bs → sizes_fit bs ≡ true → n ≡ length bs
    → may_go_on n (producer_stage field parts l1 0 p) (producer_stages field parts t1 (0 + 1) ps ++ (processor_stages known first t2 procs ++ (supervisor_stages first t3 sup ++ (batcher_stages second t4 0 bs ++ batch_processor_stages third t4 0 bs)))) ≡ true
stages_go n field parts known p ps None None bs first second third l1 t1 t2 t3 t4 first_is second_is third_is enough sizes count = absurd enough
stages_go n field parts known p ps None (Some t) [] first second third l1 t1 t2 t3 t4 first_is second_is third_is enough sizes count = supervisor_goes n field parts l1 t1 (limit_place t3 t.limit) p ps t first first_is
stages_go n field parts known p ps None (Some t) (b ∷ bs) first second third l1 t1 t2 t3 t4 first_is second_is third_is enough sizes count = absurd enough
stages_go n field parts known p ps (Some q) None bs first second third l1 t1 t2 t3 t4 first_is second_is third_is enough sizes count =
    let after : second ≡ first + q.concurrency = omega arith in
    processors_go n field parts known p ps q first second third l1 t1 (limit_place t2 q.limit) t4 q.concurrency (q.concurrency - 1) bs first_is (one_to_32 q.concurrency enough) after third_is sizes count
stages_go n field parts known p ps (Some q) (Some t) bs first second third l1 t1 t2 t3 t4 first_is second_is third_is enough sizes count = absurd enough

pub stages_are_ordered : (field : Option ℕ) (parts : ℕ) (known : List (List ℕ)) (ps : List ProducerSettings) (procs : Option ProcessorSettings) (sup : Option SupervisorSettings) (bs : List BatcherSettings) (first second third t1 t2 t3 t4 : ℕ) (stages : List StageSpec)
    → first ≡ length ps → 1 ≤ length ps → second ≡ first + processor_count procs + supervisor_count sup → third ≡ second + length bs → IsEnough procs sup bs → sizes_fit bs ≡ true
    → stages ≡ producer_stages field parts t1 0 ps ++ (processor_stages known first t2 procs ++ (supervisor_stages first t3 sup ++ (batcher_stages second t4 0 bs ++ batch_processor_stages third t4 0 bs)))
    → length (batchers stages) ≡ length bs → is_ordered stages ≡ true
stages_are_ordered field parts known [] procs sup bs first second third t1 t2 t3 t4 stages first_is some second_is third_is enough sizes whole count = absurd (omega arith)
stages_are_ordered field parts known (p ∷ ps) procs sup bs first second third t1 t2 t3 t4 stages first_is some second_is third_is enough sizes whole count =
    let first' : first ≡ 1 + length ps = omega arith in
    let own : ℕ = limit_place t1 p.limit in
    let behind : ℕ = next_place t1 p.limit in
    let rest : List StageSpec = producer_stages field parts behind (0 + 1) ps ++ (processor_stages known first t2 procs ++ (supervisor_stages first t3 sup ++ (batcher_stages second t4 0 bs ++ batch_processor_stages third t4 0 bs))) in
    subst (λ (x : List StageSpec). is_ordered x ≡ true) (sym whole)
    (stages_go (length (batchers (producer_stage field parts own 0 p ∷ rest))) field parts known p ps procs sup bs first second third own behind t2 t3 t4 first' second_is third_is enough sizes (subst (λ (x : List StageSpec). length (batchers x) ≡ length bs) whole count))
